use Rattle.std.proofs.Common.{◌≡◌, ◌++◌, take}
use Rattle.std.specs.Prelude.{flat_map}
use Rattle.fb_cli.specs.Report.{fault_bytes}
use Rattle.fb_cli.proofs.report.write_faults.Given as goal

abbrev pub invariant-loop-fault : goal.invariant-loop-fault
invariant-loop-fault l =
    l.text.bytes ≡ l.initial.text.bytes ++ flat_map (fault_bytes l.table) (take l.fault-index l.faults)
