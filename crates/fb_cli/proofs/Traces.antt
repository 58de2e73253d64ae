-- Traces that are kept whole, and replayed.
use Rattle.std.proofs.Common.{◌≡◌, ℕ, ◌≤◌, List, Option, Ok, None, ap, ◌∙◌}
use Rattle.std.specs.Prelude.{IfSome, length}
use Rattle.backplane.specs.Machine.{Machine}
use Rattle.replayer.specs.Replaying.{replayed}
use Rattle.fb_cli.specs.declared.role.Role.TheVariants as roles
use Rattle.fb_cli.specs.Output.{Files, limit_of}
use Rattle.fb_cli.specs.Replay.{on_replayed, trace_refusal}
use Rattle.fb_cli.proofs.Alike.{is_within}
use Rattle.fb_cli.proofs.Coming.{on_some}

-- A trace whose bytes were read is refused as they are replayed,
trace_judged :
    (name bytes : List ℕ) (files : Option Files) (machine : Machine)
    → length bytes ≤ limit_of roles.Trace → IfSome files (λ file. file name ≡ bytes)
    → IfSome files (λ file. trace_refusal machine (file name) ≡ on_replayed (replayed machine bytes))
trace_judged name bytes files machine short is =
    on_some files
    (λ file same.
    ap (trace_refusal machine) same ∙ is_within roles.Trace bytes (on_replayed (replayed machine bytes)) short)
    is

-- and not where they were replayed.
pub trace_kept :
    (name bytes : List ℕ) (files : Option Files) (machine last : Machine)
    → length bytes ≤ limit_of roles.Trace → IfSome files (λ file. file name ≡ bytes) → replayed machine bytes ≡ Ok last
    → IfSome files (λ file. trace_refusal machine (file name) ≡ None)
trace_kept name bytes files machine last short is came =
    on_some files (λ file judged. judged ∙ ap on_replayed came) (trace_judged name bytes files machine short is)
