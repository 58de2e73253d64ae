use Rattle.std.proofs.Common.{◌≡◌, ◌≤◌, ◌+◌, ◌*◌, ◌++◌, List, length, take}
use Rattle.std.specs.Prelude.{sum_by}
use Rattle.std.specs.List.{flat_map, AllByRecursion}
use Rattle.fb_text.specs.Written.{lines_bytes}
use Rattle.bus_signals.specs.declared.Access.{Access}
use Rattle.table_check.specs.declared.boards.BoardSpec.{BoardSpec}
use Rattle.setup.specs.Setup.{access_count}
use Rattle.setup_text.specs.Spelling.{board_rows, AccessFits, ChooseFits}
use Rattle.setup_text.specs.Writing.{boards_from}
use Rattle.setup_text.proofs.writing.all_boards.Given as goal

abbrev pub invariant-loop-i : goal.invariant-loop-i
invariant-loop-i l = record {
  bytes :
      l.text.bytes
      ≡ l.initial.text.bytes
      ++ lines_bytes (flat_map board_rows (boards_from l.tables 1 (take l.i l.specs) (take l.i l.setup.scripts)));
  room :
      176 * length l.specs + 48 * access_count l.setup
      ≤ l.text.spare + (176 * l.i + 48 * sum_by (λ (script : List Access). length script) (take l.i l.setup.scripts));
  spare :
      l.initial.text.spare
      ≤ l.text.spare + (176 * l.i + 48 * sum_by (λ (script : List Access). length script) (take l.i l.setup.scripts));
  chooses : AllByRecursion (λ (b : BoardSpec). ChooseFits b.choose) (take l.i l.specs);
  scripts : AllByRecursion (AllByRecursion AccessFits) (take l.i l.setup.scripts);
}
