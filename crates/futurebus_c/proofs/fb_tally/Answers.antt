use Rattle.std.proofs.Common.{rules, [], ◌∷◌, codes}
use Rattle.std.specs.Prelude.{decimal}
use Rattle.futurebus_c.specs.Texts.{files_of}
use Rattle.futurebus_c.proofs.Asked.{tally_given}
use Rattle.futurebus_c.proofs.fb_tally.Goals as goal

pub returns : goal.returns
returns c =
    tally_given c.args.seed (search rules) (files_of [] []) c.respond.new.buffer c.respond.result.status
    c.respond.result.count
    (c.respond.ensures (codes "tally" ∷ decimal c.args.seed ∷ []) c.with_number.ensures)
