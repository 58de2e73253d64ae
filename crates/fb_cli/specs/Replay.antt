-- `replay`: a trace replayed on a setup, and what its reading piece by piece comes to.
use Rattle.std.specs.Prelude.{◌≡◌, ℕ, ◌+◌, ◌<◌, List, [], ◌∷◌, ◌++◌, length, true, Option, None, Some, IfSome, IfOk, Result, Ok, Err, codes, decimal}
use Rattle.std.specs.List.{list_all}
use Rattle.backplane.specs.Machine.{Machine, configuration, opened}
use Rattle.replayer.specs.declared.fault.ReplayFault.{ReplayFault}
use Rattle.replayer.specs.Replaying.{replayed}
use Rattle.replayer.specs.Standing.{Replaying, StandsFor}
use Rattle.fb_cli.specs.declared.replaying.TraceFileFault.{TraceFileFault}
use Rattle.fb_cli.specs.Command.{unread, setup_at, Role, Output, is_accepted, output, within, with_accepted, Command, on_files, setup_file, file_on}
pub use Rattle.run_text.specs.RunText.{run_text, ending}

-- The refusal of a trace that was replayed, if it is not that of a complete run.
abbrev pub on_replayed : Result Machine ReplayFault → Option Output
on_replayed (Ok machine) = None
on_replayed (Err (ReplayFault.Spelling number)) =
    Some (output 1 (codes "fault trace line " ++ (decimal number ++ codes " spelling")))
on_replayed (Err (ReplayFault.NotARun number)) =
    Some (output 1 (codes "fault trace line " ++ (decimal number ++ codes " not-a-run")))
on_replayed (Err (ReplayFault.Unfinished board)) =
    Some (output 1 (codes "fault trace unfinished " ++ decimal board))

-- The refusal of a trace of these bytes on a machine.
abbrev pub trace_refusal : Machine → List ℕ → Option Output
trace_refusal machine bytes = within Role.Trace bytes (on_replayed (replayed machine bytes))

-- The text is the ending of the run that a trace of these bytes tells.
abbrev pub IsEnding : Machine → List ℕ → List ℕ → Type 0
IsEnding machine bytes text =
    IfOk (replayed machine bytes)
    (λ m. text ≡ ending m.setup m.journal (configuration m))

-- The refusal of files of these bytes.
abbrev pub replay_refusal : List ℕ → List ℕ → Option Output
replay_refusal bytes trace = with_accepted bytes (λ setup. trace_refusal (opened setup) trace)

-- The command on files of these names.
abbrev pub replay : (setup trace : List ℕ) → Command
replay setup trace =
    on_files
    (setup_file ∷ file_on Role.Trace setup (λ s. list_all is_accepted s.tables ≡ true) ∷ [])
    (λ bytes_of. replay_refusal (bytes_of setup) (bytes_of trace))
    (λ bytes_of text.
    IfOk (setup_at (unread (bytes_of setup))) (λ s. IsEnding (opened s) (bytes_of trace) text))

-- A replay was fed with these bytes.
abbrev pub FedWith : Replaying → List ℕ → Replaying → Type 0
FedWith before bytes now = (text : List ℕ) → StandsFor before text → StandsFor now (text ++ bytes)

-- Why a trace of these bytes was not replayed: the shelf failed, they are more than the limit, or
-- this holds of their fault.
abbrev pub TraceCause :
    Option (List ℕ) → ℕ → Type 0 → (ReplayFault → Type 0) → TraceFileFault → Type 0
TraceCause known limit shelf_rose Faulty TraceFileFault.Failed = shelf_rose
TraceCause known limit shelf_rose Faulty (TraceFileFault.TooLong taken) =
    (taken ≡ limit + 1) × IfSome known (λ bytes. limit < length bytes)
TraceCause known limit shelf_rose Faulty (TraceFileFault.Trace fault) = Faulty fault
