use Rattle.std.proofs.Common.{◌≡◌, take}
use Rattle.std.specs.List.{list_all}
use Rattle.fb_cli.specs.Report.{report, is_accepted}
use Rattle.fb_cli.proofs.report.report_of.Given as goal

abbrev pub invariant-loop-table : goal.invariant-loop-table
invariant-loop-table l = record {
  text : l.text.bytes ≡ report (take l.table-index l.tables);
  accepted : l.accepted ≡ list_all is_accepted (take l.table-index l.tables);
}
