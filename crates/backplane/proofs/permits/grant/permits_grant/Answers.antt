use Rattle.backplane.proofs.Deciding.{as_well}
use Rattle.backplane.proofs.Granting.{grant_told}
use Rattle.backplane.proofs.permits.grant.permits_grant.Goals as goal

pub returns : goal.returns
returns c = λ setup events x sound.
    as_well c.all_hold.result _ _ c.all_hold.ensures
    (grant_told setup x c.args.parts.now sound.shows c.requires sound.sound.parts c.args.by c.args.winner
    c.args.lines c.args.rounds
    c.is_idle-idle.result c.has_raised-raised.result c.wins-wins.result c.is_idle-idle.ensures
    c.has_raised-raised.ensures c.wins-wins.ensures)
