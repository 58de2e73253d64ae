-- What a run printed is replayed alike.
use Rattle.std.proofs.Common.{◌≡◌, ℕ, ◌≤◌, ◌++◌, true, false, List, [], ◌∷◌, Option, None, Some, refl, ap, sym, ◌∙◌, subst, arith, append_assoc, append-nil}
use Rattle.std.proofs.lemmas.Bool.Decides.{nat_tests}
use Rattle.std.specs.Prelude.{Ok, IfOk, Result, codes, length, nat_lt, if◌then◌else◌}
use Rattle.std.specs.List.{AllByRecursion, list_all, flat_map}
use Rattle.fb_text.specs.Unread.{unread}
use Rattle.fb_text.specs.Written.{line_bytes}
use Rattle.trace_text.specs.Ranges.{InRange}
use Rattle.trace_text.specs.Spelling.{line_of_event}
use Rattle.replayer.specs.Lines.{trace_of, event_lines}
use Rattle.replayer.proofs.Printing.{printed}
use Rattle.setup_text.specs.Reading.{setup_at}
use Rattle.bus_model.specs.Setup.{Setup}
use Rattle.bus_model.specs.Events.{Event}
use Rattle.bus_model.specs.Configuration.{opening}
use Rattle.bus_model.specs.Runs.{after_all}
use Rattle.class_relation.specs.Tables.{Table}
use Rattle.backplane.specs.Machine.{Machine, configuration, opened}
use Rattle.replayer.specs.declared.fault.ReplayFault.{ReplayFault}
use Rattle.replayer.specs.Replaying.{replayed}
use Rattle.replayer.proofs.Saying.{accepts}
use Rattle.run_text.specs.RunText.{run_text, ending}
use Rattle.fb_cli.specs.declared.role.Role.{Role}
use Rattle.fb_cli.specs.declared.role.Role.TheVariants as roles
use Rattle.fb_cli.specs.Report.{is_accepted, report}
use Rattle.fb_cli.specs.Output.{Output, limit_of, within, on_read, with_file, if_accepted, with_accepted}
use Rattle.fb_cli.specs.Command.{AreSetup}
use Rattle.fb_cli.specs.Replay.{IsEnding, on_replayed, trace_refusal, replay_refusal}
use Rattle.fb_cli.specs.Headline.{RunHolds}
use Rattle.fb_cli.proofs.AcceptedTables.{all-accepted}

-- The line `end` is its word and a line feed.
end_line : (rest : List ℕ) → line_bytes (codes "end" ∷ []) ++ rest ≡ codes "end" ++ 10 ∷ rest
end_line rest = append_assoc (codes "end") (10 ∷ []) rest

-- The trace of the text of a run is the lines of its events.
traced : (events : List Event) (rest : List ℕ) → AllByRecursion InRange events
    → trace_of (flat_map line_of_event events ++ (line_bytes (codes "end" ∷ []) ++ rest)) ≡ event_lines events
traced events rest spelled =
    ap (λ end. trace_of (flat_map line_of_event events ++ end)) (end_line rest) ∙ printed events rest spelled

-- The text of a run is replayed, and gives the machine of the run.
run_replayed : (setup : Setup) (events : List Event) → RunHolds setup events
    → replayed (opened setup) (run_text setup events (after_all (opening setup) events))
    ≡ Ok (record { setup = setup; journal = events })
run_replayed setup events holds =
    let rest = ending setup events (after_all (opening setup) events) in
    let lines = traced events rest holds.spelled in
    accepts setup (trace_of (run_text setup events (after_all (opening setup) events))) 1 events
    (record {
      run =
          record { spelled = holds.spelled; are = lines ∙ sym (append-nil (event_lines events)); run = holds.run };
      complete = holds.complete;
    })

-- A file that is not too long is not refused for its length.
pub is_within :
    (role : Role) (bytes : List ℕ) (rest : Option Output) → length bytes ≤ limit_of role
    → within role bytes rest ≡ rest
is_within role bytes rest short =
    let no : nat_lt (limit_of role) (length bytes) ≡ false = grind (arith, nat_tests) in rw no refl

-- The refusal of a setup of a file.
pub with_setup_is : (bytes : List ℕ) (setup : Setup) (refusal : Setup → Option Output) → AreSetup setup bytes
    → with_file roles.Setup setup_at bytes refusal ≡ refusal setup
with_setup_is bytes setup refusal read =
    is_within roles.Setup bytes (on_read roles.Setup refusal (setup_at (unread bytes))) read.0
    ∙ ap (on_read roles.Setup refusal) read.1

-- Accepted tables are not refused.
pub if_accepted_is : (tables : List Table) (rest : Option Output) → list_all is_accepted tables ≡ true
    → if_accepted tables rest ≡ rest
if_accepted_is tables rest accepted =
    ap (λ b. if b then rest else Some (record { status = 1; text = report tables })) accepted

-- The refusal of an accepted setup of a file.
pub with_accepted_is : (bytes : List ℕ) (setup : Setup) (refusal : Setup → Option Output) → AreSetup setup bytes
    → list_all is_accepted setup.tables ≡ true → with_accepted bytes refusal ≡ refusal setup
with_accepted_is bytes setup refusal read accepted =
    with_setup_is bytes setup (λ s. if_accepted s.tables (refusal s)) read
    ∙ if_accepted_is setup.tables (refusal setup) accepted

-- The text of a run is not refused,
pub replayed_alike :
    (bytes : List ℕ) (setup : Setup) (events : List Event) → AreSetup setup bytes → RunHolds setup events
    → replay_refusal bytes (run_text setup events (after_all (opening setup) events)) ≡ None
replayed_alike bytes setup events read holds =
    let text = run_text setup events (after_all (opening setup) events) in
    with_accepted_is bytes setup (λ s. trace_refusal (opened s) text) read (all-accepted setup.tables holds.accepted)
    ∙ (is_within roles.Trace text (on_replayed (replayed (opened setup) text)) holds.short
    ∙ ap on_replayed (run_replayed setup events holds))

-- and its ending is the ending of the run.
pub ends_alike :
    (setup : Setup) (events : List Event) → RunHolds setup events
    → IsEnding (opened setup) (run_text setup events (after_all (opening setup) events))
    (ending setup events (after_all (opening setup) events))
ends_alike setup events holds =
    subst
    (λ (r : Result Machine ReplayFault).
    IfOk r
    (λ (m : Machine).
    ending setup events (after_all (opening setup) events) ≡ ending m.setup m.journal (configuration m)))
    (sym (run_replayed setup events holds)) refl
