use Rattle.std.proofs.Common.{rules, [], ◌∷◌, codes}
use Rattle.std.specs.Prelude.{decimal}
use Rattle.futurebus_c.specs.Texts.{files_of}
use Rattle.futurebus_c.proofs.Asked.{make_given}
use Rattle.futurebus_c.proofs.fb_make.Goals as goal

pub returns : goal.returns
returns c =
    make_given c.args.seed (search rules) (files_of [] []) c.respond.new.buffer c.respond.result.status
    c.respond.result.count
    (c.respond.ensures (codes "make" ∷ decimal c.args.seed ∷ []) c.with_number.ensures)
