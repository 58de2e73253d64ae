use Rattle.std.proofs.Common.{sym, ◌∙◌}
use Rattle.backplane.proofs.Deciding.{as_well}
use Rattle.backplane.proofs.Carrying.{data_told}
use Rattle.backplane.proofs.permits.data.permits_data.Goals as goal

pub returns : goal.returns
returns c = λ setup events x sound phase present.
    as_well c.all_hold.result _ _ c.all_hold.ensures
    (data_told setup x c.args.parts.now sound.shows c.args.connected.now c.args.access c.args.carried.now
    c.is_some-there.result c.is_carried-same.result
    phase present c.is_some-there.ensures (
      λ h. c.is_carried-same.ensures.0 h ∙ c.expected.ensures,
      λ e. c.is_carried-same.ensures.1 (e ∙ sym c.expected.ensures),
    ))
