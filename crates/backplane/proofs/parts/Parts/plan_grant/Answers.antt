use Rattle.std.proofs.Common.{refl}
use Rattle.backplane.proofs.Grants.{grant-told, some-competes}
use Rattle.backplane.proofs.parts.Parts.plan_grant.Goals as goal

pub returns-in-Some : goal.returns-in-Some
returns-in-Some c = λ setup events x sound s.
    grant-told setup x c.args.self.now c.args.board c.in-Some.grant.winner c.in-Some.grant.settled.lines
    c.in-Some.grant.settled.rounds s sound.parts
    c.in-Some.ensures.first c.in-Some.ensures.lines c.in-Some.ensures.rounds

pub returns-in-None : goal.returns-in-None
returns-in-None c =
    λ setup events x sound s.
    absurd (some-competes c.args.self.now.requests c.args.board c.requires.board.low c.requires.board.requests
    c.requires.raised (c.in-None.ensures.none.0 refl))
