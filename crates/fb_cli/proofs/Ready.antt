-- From what the files of a command are, to that nothing stands against it, or to how it stops.
use Rattle.std.proofs.Common.{◌≡◌, ℕ, ◌≤◌, true, List, ◌∷◌, [], Option, Some, None, Ok, Err, refl, ap, sym, ◌∙◌, subst}
use Rattle.std.specs.Prelude.{IfSome, IfOk, IfErr, OnOk, Result, length}
use Rattle.std.specs.List.{list_all}
use Rattle.fb_text.specs.Unread.{unread}
use Rattle.fb_text.specs.Written.{Written}
use Rattle.class_relation.specs.Tables.{Table}
use Rattle.setup_text.specs.Reading.{Fault, schedule_at, setup_at}
use Rattle.bus_model.specs.Setup.{Setup}
use Rattle.backplane.specs.Machine.{Machine, configuration, opened}
use Rattle.replayer.specs.declared.fault.ReplayFault.{ReplayFault}
use Rattle.replayer.specs.Replaying.{replayed}
use Rattle.fb_cli.specs.declared.answers.Answer.TheVariants.{Said, Replayed}
use Rattle.fb_cli.specs.declared.answers.Outcome.TheVariants as outcomes
use Rattle.fb_cli.specs.declared.answers.Refusal.TheVariants.{NoRow, Unread, NoMemory}
use Rattle.fb_cli.specs.declared.answers.Reply.{Reply}
use Rattle.fb_cli.specs.declared.answers.Reply.TheVariants.{Answered, Refused, Explained}
use Rattle.fb_cli.specs.declared.role.Role.TheVariants as roles
use Rattle.fb_cli.specs.declared.room.Room.{Room}
use Rattle.fb_cli.specs.declared.running.Scheduled.{Scheduled}
use Rattle.fb_cli.specs.Report.{is_accepted, report}
use Rattle.fb_cli.specs.Output.{Output, Files, if_accepted, limit_of, on_read, with_file, within}
use Rattle.fb_cli.specs.Command.{AreSetup}
use Rattle.fb_cli.specs.Replies.{Comes, Gives, Ready, Stops}
use Rattle.fb_cli.specs.Check.{check, tables_at}
use Rattle.fb_cli.specs.Show.{show}
use Rattle.fb_cli.specs.Run.{AreTurns, race, run, turns_refusal}
use Rattle.fb_cli.specs.Replay.{IsEnding, ending, on_replayed, replay, replay_refusal, trace_refusal}
use Rattle.fb_cli.proofs.Alike.{if_accepted_is, is_within, with_accepted_is, with_setup_is}
use Rattle.fb_cli.proofs.Coming.{answer_comes, on_both, on_some, stops_second}

-- The refusal of the tables that were read.
abbrev pub tables_refusal : Result (List Table) Fault → Option Output
tables_refusal = on_read roles.Setup (λ tables. if_accepted tables None)

-- The refusal of a file of tables whose bytes are within the limit.
file_refusal :
    (name bytes : List ℕ) (file : Files) → length bytes ≤ limit_of roles.Setup → file name ≡ bytes
    → (check name).refusal file ≡ tables_refusal (tables_at (unread bytes))
file_refusal name bytes file short is =
    ap (λ (b : List ℕ). with_file roles.Setup tables_at b (λ tables. if_accepted tables None)) is
    ∙ is_within roles.Setup bytes (tables_refusal (tables_at (unread bytes))) short

-- The verdicts on a file.
pub check_ready :
    (name bytes : List ℕ) (files : Option Files) (A : Type 0) (result : Result Written Reply)
    → length bytes ≤ limit_of roles.Setup → IfSome files (λ file. file name ≡ bytes)
    → OnOk result (tables_refusal (tables_at (unread bytes)) ≡ None)
    → IfErr result (Gives (λ o. tables_refusal (tables_at (unread bytes)) ≡ Some o) (λ role. ⊥))
    → Ready (check name) files A result
check_ready name bytes files A (Ok text) short is free stops =
    on_some files (λ file same. file_refusal name bytes file short same ∙ free) is
check_ready name bytes files A (Err (Answered a)) short is free stops =
    on_some files (λ file same. file_refusal name bytes file short same ∙ stops) is
check_ready name bytes files A (Err (Refused NoRow)) short is free stops = absurd stops
check_ready name bytes files A (Err (Refused (Unread role))) short is free stops = absurd stops
check_ready name bytes files A (Err (Refused NoMemory)) short is free stops = tt
check_ready name bytes files A (Err (Explained refusal text)) short is free stops = absurd stops

pub check_prints :
    (name bytes : List ℕ) (files : Option Files) (result : Result Written Reply)
    → IfSome files (λ file. file name ≡ bytes)
    → IfOk result (λ text. IfOk (tables_at (unread bytes)) (λ tables. text.bytes ≡ report tables))
    → IfOk result (λ text. IfSome files (λ file. (check name).prints file text.bytes))
check_prints name bytes files (Ok text) is prints =
    on_some files
    (λ file same.
    subst (λ (b : List ℕ). IfOk (tables_at (unread b)) (λ tables. text.bytes ≡ report tables)) (sym same) prints)
    is
check_prints name bytes files (Err reply) is prints = tt

pub check_comes :
    (name : List ℕ) (files : Option Files) (A : Type 0) (text : Written)
    → IfSome files (λ file. (check name).refusal file ≡ None)
    → IfSome files (λ file. (check name).prints file text.bytes)
    → Comes (check name) files A (Answered (Said outcomes.Done text))
check_comes name files A text free prints =
    let command = check name in
    answer_comes command.opens command.refusal command.prints files A (Said outcomes.Done text) free refl prints

-- A setup of a file, for `show`,
pub show_free :
    (name : List ℕ) (files : Option Files) (setup : Setup) → IfSome files (λ file. AreSetup setup (file name))
    → IfSome files (λ file. (show name).refusal file ≡ None)
show_free name files setup read =
    on_some files (λ file r. with_setup_is (file name) setup (λ s. None) r) read

-- for a run without a schedule,
pub race_free :
    (name : List ℕ) (files : Option Files) (setup : Setup) → IfSome files (λ file. AreSetup setup (file name))
    → list_all is_accepted setup.tables ≡ true → IfSome files (λ file. (race name).refusal file ≡ None)
race_free name files setup read accepted =
    on_some files (λ file r. with_accepted_is (file name) setup (λ s. None) r accepted) read

-- A schedule of a setup leaves the tables to be judged.
pub turns_judged :
    (setup : Setup) (bytes turns : List ℕ) → AreTurns setup turns bytes
    → turns_refusal setup bytes ≡ if_accepted setup.tables None
turns_judged setup bytes turns are =
    is_within roles.Schedule bytes
    (on_read roles.Schedule (λ t. if_accepted setup.tables None)
    (schedule_at (length setup.boards) (unread bytes))) are.0
    ∙ ap (on_read roles.Schedule (λ (t : List ℕ). if_accepted setup.tables None)) are.1

-- A run with a schedule.
pub run_free :
    (name schedule : List ℕ) (files : Option Files) (setup : Setup) (turns : List ℕ)
    → IfSome files (λ file. AreSetup setup (file name))
    → IfSome files (λ file. AreTurns setup turns (file schedule))
    → list_all is_accepted setup.tables ≡ true → IfSome files (λ file. (run name schedule).refusal file ≡ None)
run_free name schedule files setup turns read are accepted =
    on_both files
    (λ file r t.
    with_setup_is (file name) setup (λ s. turns_refusal s (file schedule)) r
    ∙ turns_judged setup (file schedule) turns t
    ∙ if_accepted_is setup.tables None accepted)
    read are

-- A trace that was replayed.
pub replay_free :
    (name trace : List ℕ) (files : Option Files) (setup : Setup)
    → IfSome files (λ file. AreSetup setup (file name)) → list_all is_accepted setup.tables ≡ true
    → IfSome files (λ file. trace_refusal (opened setup) (file trace) ≡ None)
    → IfSome files (λ file. (replay name trace).refusal file ≡ None)
replay_free name trace files setup read accepted free =
    on_both files
    (λ file r f. with_accepted_is (file name) setup (λ s. trace_refusal (opened s) (file trace)) r accepted ∙ f)
    read free

pub trace_free :
    (machine last : Machine) (bytes : List ℕ) → length bytes ≤ limit_of roles.Trace
    → replayed machine bytes ≡ Ok last → trace_refusal machine bytes ≡ None
trace_free machine last bytes short is =
    is_within roles.Trace bytes (on_replayed (replayed machine bytes)) short ∙ ap on_replayed is

-- What a schedule is on a setup of a file decides whether the run is ready.
pub run_ready :
    (name schedule : List ℕ) (files : Option Files) (A : Type 0) (setup : Setup) (result : Result Scheduled Reply)
    → IfSome files (λ file. AreSetup setup (file name)) → IfOk result (λ s. s.setup ≡ setup)
    → IfOk result (λ s. list_all is_accepted s.setup.tables ≡ true)
    → IfOk result (λ s. IfSome files (λ file. AreTurns setup s.turns.items (file schedule)))
    → IfErr result
    (Gives (λ o. IfSome files (λ file. turns_refusal setup (file schedule) ≡ Some o))
    (λ other. (other ≡ roles.Schedule) × A))
    → Ready (run name schedule) files A result
run_ready name schedule files A setup (Ok s) read same accepted turns stops =
    run_free name schedule files setup s.turns.items read turns
    (subst (λ (x : Setup). list_all is_accepted x.tables ≡ true) same accepted)
run_ready name schedule files A setup (Err reply) read same accepted turns stops =
    stops_second name roles.Schedule (λ s. Unit {0}) (λ file. turns_refusal setup (file schedule))
    (run name schedule).refusal files A setup reply read tt
    (λ file r. with_setup_is (file name) setup (λ s. turns_refusal s (file schedule)) r) stops

-- What a trace is on an accepted setup of a file decides whether the replay is ready.
pub replay_ready :
    {X : Type 0} (name trace : List ℕ) (files : Option Files) (A : Type 0) (setup : Setup) (result : Result X Reply)
    → IfSome files (λ file. AreSetup setup (file name)) → list_all is_accepted setup.tables ≡ true
    → OnOk result (IfSome files (λ file. trace_refusal (opened setup) (file trace) ≡ None))
    → IfErr result
    (Gives (λ o. IfSome files (λ file. trace_refusal (opened setup) (file trace) ≡ Some o))
    (λ other. (other ≡ roles.Trace) × A))
    → Ready (replay name trace) files A result
replay_ready name trace files A setup (Ok x) read accepted free stops =
    replay_free name trace files setup read accepted free
replay_ready name trace files A setup (Err reply) read accepted free stops =
    stops_second name roles.Trace (λ s. list_all is_accepted s.tables ≡ true)
    (λ file. trace_refusal (opened setup) (file trace)) (replay name trace).refusal files A setup reply read accepted
    (λ file r. with_accepted_is (file name) setup (λ s. trace_refusal (opened s) (file trace)) r accepted) stops

-- A trace that was replayed on an accepted setup of a file, and its ending printed.
pub replay_comes :
    (name trace : List ℕ) (files : Option Files) (A : Type 0) (setup : Setup) (machine : Machine) (room : Room)
    → IfSome files (λ file. AreSetup setup (file name)) → list_all is_accepted setup.tables ≡ true
    → IfSome files
    (λ file. (length (file trace) ≤ limit_of roles.Trace) × (replayed (opened setup) (file trace) ≡ Ok machine))
    → Comes (replay name trace) files A (Answered (Replayed machine room))
replay_comes name trace files A setup machine room read accepted came =
    let command = replay name trace in
    let text = ending machine.setup machine.journal (configuration machine) in
    answer_comes command.opens command.refusal command.prints files A (Replayed machine room)
    (replay_free name trace files setup read accepted
    (on_some files (λ file r. trace_free (opened setup) machine (file trace) r.0 r.1) came))
    refl
    (on_both files
    (λ file r p.
    subst (λ (x : Result Setup Fault). IfOk x (λ s. IsEnding (opened s) (file trace) text)) (sym r.1)
    (subst
    (λ (x : Result Machine ReplayFault). IfOk x (λ (m : Machine). text ≡ ending m.setup m.journal (configuration m)))
    (sym p.1) refl))
    read came)
