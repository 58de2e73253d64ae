use Rattle.std.proofs.Common.{◌≡◌, ℕ, ◌+◌, ◌-◌, ◌<◌, ◌++◌, List, [], length, take, get_or, ap, sym, subst, ◌∙◌, arith}
use Rattle.std.specs.Prelude.{sum_by}
use Rattle.std.specs.List.{flat_map, AllByRecursion}
use Rattle.std.proofs.lemmas.List.{get_or_default, take_all}
use Rattle.std.proofs.lemmas.List.Sums.{sum_by_more, sum_by_more_le}
use Rattle.fb_text.specs.Written.{lines_bytes}
use Rattle.bus_signals.specs.declared.Access.{Access}
use Rattle.class_relation.specs.Tables.{Table}
use Rattle.table_check.specs.declared.boards.BoardSpec.{BoardSpec}
use Rattle.table_check.specs.declared.boards.Shape.TheVariants.{Plain}
use Rattle.table_check.specs.declared.boards.Choose.TheVariants.{First}
use Rattle.setup.specs.Setup.{Setup, WellFormed}
use Rattle.setup_text.specs.Spelling.{board_rows, AccessFits, ChooseFits}
use Rattle.setup_text.specs.Writing.{boards_from}
use Rattle.setup_text.proofs.Writes.{board_more, all_more}
use Rattle.setup_text.proofs.writing.all_boards.Goals as goal

-- the script of the board at hand
script_is :
    (scripts : List (List Access)) (i : ℕ) (script : List Access) → script ≡ get_or scripts (i + 1 - 1) []
    → script ≡ get_or scripts i []
script_is scripts i script e = e ∙ ap (λ (n : ℕ). get_or scripts n []) (omega arith)

scripts_long :
    (setup : Setup) (specs : List BoardSpec) → WellFormed setup → specs ≡ setup.boards
    → length setup.scripts ≡ length specs
scripts_long setup specs sound same = sound.scripts ∙ ap (λ (v : List BoardSpec). length v) (sym same)

pub one_board-requires-clause-room : goal.one_board-requires-clause-room
one_board-requires-clause-room c =
    let scripts = c.args.setup.now.scripts in
    let i = c.loop-i.i in
    let long = scripts_long c.args.setup.now c.boards-specs.result.now c.boards-specs.ensures.sound
    c.boards-specs.ensures.boards in
    let here = ap (λ (v : List Access). length v)
    (script_is scripts i c.script-accesses.result.now c.script-accesses.ensures.script) in
    let more = sum_by_more_le (λ (script : List Access). length script) scripts i [] (omega arith) in
    omega (arith, here, more, long)

pub loop-i-preserved : goal.loop-i-preserved
loop-i-preserved c =
    let scripts = c.args.setup.now.scripts in
    let specs = c.boards-specs.result.now in
    let i = c.loop-i.i in
    let d : BoardSpec = record { number = 0; table = 0; shape = Plain; choose = First } in
    let b : BoardSpec = get_or specs i d in
    let s = c.script-accesses.result.now in
    let long = scripts_long c.args.setup.now specs c.boards-specs.ensures.sound c.boards-specs.ensures.boards in
    let lt : i < length specs = c.loop-i-test.true in
    let lt_s : i < length scripts = omega (arith, lt, long) in
    let is_b : b ≡ get_or specs i b = get_or_default specs i d b lt in
    let at : s ≡ get_or scripts i [] = script_is scripts i s c.script-accesses.ensures.script in
    let is_s : s ≡ get_or scripts i s = at ∙ get_or_default scripts i [] s lt_s in
    let sum = sum_by_more (λ (script : List Access). length script) scripts i [] lt_s in
    let here = ap (λ (v : List Access). length v) at in
    record {
      bytes =
          board_more c.args.text.now.bytes c.loop-i.text.bytes c.one_board.new.text.bytes c.tables-tables.result.now
          specs scripts i c.from.result b s lt long is_b is_s c.from.ensures c.loop-i.invariant.bytes
          c.one_board.ensures.bytes;
      room = omega (arith, sum, here);
      spare = omega (arith, sum, here);
      chooses =
          all_more (λ (b : BoardSpec). ChooseFits b.choose) specs i b lt is_b c.loop-i.invariant.chooses
          c.one_board.ensures.choose;
      scripts =
          all_more (AllByRecursion AccessFits) scripts i s lt_s is_s c.loop-i.invariant.scripts
          c.one_board.ensures.script;
    }

pub returns-clause-bytes : goal.returns-clause-bytes
returns-clause-bytes c =
    let setup = c.args.setup.now in
    let specs = c.boards-specs.result.now in
    let long = scripts_long setup specs c.boards-specs.ensures.sound c.boards-specs.ensures.boards in
    let i = c.loop-i.i in
    c.loop-i.invariant.bytes
    ∙ (ap (λ (v : List BoardSpec).
    c.args.text.now.bytes
    ++ lines_bytes
    (flat_map board_rows (boards_from c.tables-tables.result.now 1 v (take i setup.scripts))))
    (take_all i specs (omega arith) ∙ c.boards-specs.ensures.boards)
    ∙ (ap (λ (v : List (List Access)).
    c.args.text.now.bytes
    ++ lines_bytes (flat_map board_rows (boards_from c.tables-tables.result.now 1 setup.boards v)))
    (take_all i setup.scripts (omega (arith, long)))
    ∙ ap (λ (v : List Table).
    c.args.text.now.bytes ++ lines_bytes (flat_map board_rows (boards_from v 1 setup.boards setup.scripts)))
    c.tables-tables.ensures.tables))

pub returns-clause-spare : goal.returns-clause-spare
returns-clause-spare c =
    let setup = c.args.setup.now in
    let specs = c.boards-specs.result.now in
    let long = scripts_long setup specs c.boards-specs.ensures.sound c.boards-specs.ensures.boards in
    let all = take_all c.loop-i.i setup.scripts (omega (arith, long)) in
    let same = ap (λ (v : List BoardSpec). length v) c.boards-specs.ensures.boards in
    omega (arith, ap (λ (v : List (List Access)). sum_by (λ (script : List Access). length script) v) all, same)

pub returns-clause-chooses : goal.returns-clause-chooses
returns-clause-chooses c =
    let specs = c.boards-specs.result.now in
    subst (λ (v : List BoardSpec). AllByRecursion (λ (b : BoardSpec). ChooseFits b.choose) v)
    (take_all c.loop-i.i specs (omega arith) ∙ c.boards-specs.ensures.boards) c.loop-i.invariant.chooses

pub returns-clause-scripts : goal.returns-clause-scripts
returns-clause-scripts c =
    let setup = c.args.setup.now in
    let long =
    scripts_long setup c.boards-specs.result.now c.boards-specs.ensures.sound c.boards-specs.ensures.boards in
    subst (λ (v : List (List Access)). AllByRecursion (AllByRecursion AccessFits) v)
    (take_all c.loop-i.i setup.scripts (omega (arith, long))) c.loop-i.invariant.scripts
