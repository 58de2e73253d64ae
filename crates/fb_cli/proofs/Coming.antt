-- From what the steps of a command came to, to what the command comes to.
use Rattle.std.proofs.Common.{◌≡◌, inl, inr, ℕ, true, List, ◌∷◌, [], ◌++◌, Option, Some, None, Ok, Err, refl, ap, sym, ◌∙◌, subst}
use Rattle.std.specs.Prelude.{IfSome, IfOk, Result}
use Rattle.std.specs.List.{list_all}
use Rattle.std.specs.Option.{option_map_or}
use Rattle.std.specs.Result.{result_ok}
use Rattle.fb_text.specs.Unread.{unread}
use Rattle.fb_text.specs.Unread.{Unread as Text}
use Rattle.setup_text.specs.Reading.{Fault}
use Rattle.bus_model.specs.Setup.{Setup}
use Rattle.fb_cli.specs.declared.answers.Answer.{Answer}
use Rattle.fb_cli.specs.declared.answers.Answer.TheVariants.{Said, Ran, Replayed, Audited}
use Rattle.fb_cli.specs.declared.answers.Outcome.{Outcome}
use Rattle.fb_cli.specs.declared.answers.Outcome.TheVariants as outcomes
use Rattle.fb_cli.specs.declared.answers.Refusal.TheVariants.{NoRow, Unread, NoMemory}
use Rattle.fb_cli.specs.declared.answers.Reply.{Reply}
use Rattle.fb_cli.specs.declared.answers.Reply.TheVariants.{Answered, Refused, Explained}
use Rattle.fb_cli.specs.declared.role.Role.{Role}
use Rattle.fb_cli.specs.Output.{Output, Files, on_read, status_of, with_file, within}
use Rattle.fb_cli.specs.Command.{AreSetup, Command, File, Follows, IsUnread, alone, file_on, known, on_files, printing, setup_file}
use Rattle.fb_cli.specs.Replies.{Comes, Gives, Stops, StopsAt, answer_output}
use Rattle.fb_cli.specs.Replies as replies
use Rattle.setup_text.specs.Writing.{written_setup}
use Rattle.fb_cli.specs.Headline.{IsTextOfRun}
use Rattle.fb_cli.specs.Show.{show}
use Rattle.fb_cli.specs.Run.{AreTurns, played_text, race, run, run_seeded, turns_of}
use Rattle.fb_cli.proofs.Runs.{of_run}

-- What follows of what is known, where something is known.
pub on_some : {X : Type 0} {P Q : X → Type 0} (k : Option X) → ((x : X) → P x → Q x) → IfSome k P → IfSome k Q
on_some None f h = tt
on_some (Some x) f h = f x h

pub on_both :
    {X : Type 0} {P Q R : X → Type 0} (k : Option X) → ((x : X) → P x → Q x → R x) → IfSome k P → IfSome k Q
    → IfSome k R
on_both None f h i = tt
on_both (Some x) f h i = f x h i

-- A command of these files and of this refusal.
abbrev pub refused_by : List File → (Files → Option Output) → Command
refused_by opens refusal =
    on_files opens refusal (λ bytes_of text. Unit {0})

-- A command that stops at a file that is too long, or was not opened, stops there whatever is read of it.
pub reading_stops :
    {X : Type 0} (role : Role) (read : Text → Result X Fault) (files : Option Files) (name : List ℕ) (A : Type 0)
    (reply : Reply)
    → StopsAt role files name A (within role) reply → StopsAt role files name A (with_file role read) reply
reading_stops role read None name A (Answered a) stops = tt
reading_stops role read (Some file) name A (Answered a) stops =
    λ rest. stops (on_read role rest (read (unread (file name))))
reading_stops role read files name A (Refused NoRow) stops = absurd stops
reading_stops role read files name A (Refused (Unread other)) stops = stops
reading_stops role read files name A (Refused NoMemory) stops = tt
reading_stops role read files name A (Explained refusal text) stops = absurd stops

-- What stops a command at a file stops it whatever is wanted of the file.
pub stops_at :
    {W : Type 0} (role : Role) (files : Option Files) (name : List ℕ) (A : Type 0) (asks : List ℕ → W → Option Output)
    (rest : Files → W) (reply : Reply)
    → StopsAt role files name A asks reply
    → Gives (λ o. IfSome files (λ file. asks (file name) (rest file) ≡ Some o)) (λ other. (other ≡ role) × A) reply
stops_at role None name A asks rest (Answered a) stops = tt
stops_at role (Some file) name A asks rest (Answered a) stops = stops (rest file)
stops_at role files name A asks rest (Refused NoRow) stops = absurd stops
stops_at role files name A asks rest (Refused (Unread other)) stops = stops
stops_at role files name A asks rest (Refused NoMemory) stops = tt
stops_at role files name A asks rest (Explained refusal text) stops = absurd stops

-- A command that stops at its first file.
pub stops_first :
    {W : Type 0} (name : List ℕ) (more : List File) (asks : List ℕ → W → Option Output) (pick : Files → W)
    (files : Option Files) (A : Type 0) (reply : Reply)
    → StopsAt Role.Setup files name A asks reply
    → Stops (refused_by (setup_file ∷ more) (λ file. asks (file name) (pick file))) files A reply
stops_first name more asks pick None A (Answered a) stops = tt
stops_first name more asks pick (Some file) A (Answered a) stops = stops (pick file)
stops_first name more asks pick files A (Refused NoRow) stops = absurd stops
stops_first name more asks pick None A (Refused (Unread role)) stops = inl (stops.0, tt, stops.1)
stops_first name more asks pick (Some file) A (Refused (Unread role)) stops = inl (stops.0, tt, stops.1)
stops_first name more asks pick files A (Refused NoMemory) stops = tt
stops_first name more asks pick files A (Explained refusal text) stops = absurd stops

-- A second file was not read.
second_unread :
    (name : List ℕ) (role other : Role) (Fits : Setup → Type 0) (files : Option Files) (A : Type 0) (setup : Setup)
    → IfSome files (λ file. AreSetup setup (file name)) → Fits setup → other ≡ role → A
    → IsUnread (setup_file ∷ file_on role name Fits ∷ []) files A other
second_unread name role other Fits None A setup read fits same rose = inr (inl (same, tt, rose))
second_unread name role other Fits (Some file) A setup read fits same rose = inr (inl (same, (setup, read, fits), rose))

-- A command of two files that stops where the first is a setup.
pub stops_second :
    (name : List ℕ) (role : Role) (Fits : Setup → Type 0) (asks wanted : Files → Option Output) (files : Option Files)
    (A : Type 0) (setup : Setup) (reply : Reply)
    → IfSome files (λ file. AreSetup setup (file name)) → Fits setup
    → ((file : Files) → AreSetup setup (file name) → wanted file ≡ asks file)
    → Gives (λ o. IfSome files (λ file. asks file ≡ Some o)) (λ other. (other ≡ role) × A) reply
    → Stops (refused_by (setup_file ∷ file_on role name Fits ∷ []) wanted) files A reply
stops_second name role Fits asks wanted None A setup (Answered a) read fits same gives = tt
stops_second name role Fits asks wanted (Some file) A setup (Answered a) read fits same gives = same file read ∙ gives
stops_second name role Fits asks wanted files A setup (Refused NoRow) read fits same gives = absurd gives
stops_second name role Fits asks wanted files A setup (Refused (Unread other)) read fits same gives =
    second_unread name role other Fits files A setup read fits gives.0 gives.1
stops_second name role Fits asks wanted files A setup (Refused NoMemory) read fits same gives = tt
stops_second name role Fits asks wanted files A setup (Explained refusal text) read fits same gives = absurd gives

-- The outcome of an answer.
pub outcome_of : (a : Answer) → (outcome : Outcome) × ((answer_output a).status ≡ status_of outcome)
outcome_of (Said outcome text) = (outcome, refl)
outcome_of (Ran machine room) = (outcomes.Done, refl)
outcome_of (Replayed machine room) = (outcomes.Done, refl)
outcome_of (Audited told) = (replies.outcome_of told.audit.finding, refl)

-- What a command that tells its refusals alone comes to where it stops.
pub stops_come :
    (opens : List File) (refusal : Files → Option Output) (prints : Files → List ℕ → Type 0) (files : Option Files)
    (A : Type 0) (reply : Reply)
    → Stops (refused_by opens refusal) files A reply
    → Comes (on_files opens refusal prints) files A reply
stops_come opens refusal prints files A (Answered a) stops =
    inl (
      outcome_of a,
      on_some (known opens files)
          (λ bytes_of is.
          subst (λ r. Follows alone (prints bytes_of) r (answer_output a)) (sym is) (refl, refl))
          stops,
    )
stops_come opens refusal prints files A (Refused NoRow) stops = absurd stops
stops_come opens refusal prints files A (Refused (Unread role)) stops = inr (inl (role, stops, (refl, refl)))
stops_come opens refusal prints files A (Refused NoMemory) stops = inr (inr refl)
stops_come opens refusal prints files A (Explained refused text) stops = absurd stops

-- What a command comes to that is not refused.
pub answer_comes :
    (opens : List File) (refusal : Files → Option Output) (prints : Files → List ℕ → Type 0) (files : Option Files)
    (A : Type 0) (a : Answer)
    → IfSome (known opens files) (λ bytes_of. refusal bytes_of ≡ None) → (answer_output a).status ≡ 0
    → IfSome (known opens files) (λ bytes_of. prints bytes_of (answer_output a).text)
    → Comes (on_files opens refusal prints) files A (Answered a)
answer_comes opens refusal prints files A a free done printed =
    inl (
      outcome_of a,
      on_both (known opens files)
          (λ bytes_of is holds.
          subst (λ r. Follows alone (prints bytes_of) r (answer_output a)) (sym is) (done, holds))
          free printed,
    )

-- A run of a setup by the turns of a schedule.
pub run_comes :
    {E : Type 0} (name schedule : List ℕ) (files : Option Files) (A : Type 0) (setup : Setup) (turns : List ℕ)
    (came : Result Answer E)
    → IfSome files (λ file. (run name schedule).refusal file ≡ None)
    → IfSome files (λ file. AreSetup setup (file name) × AreTurns setup turns (file schedule))
    → IfOk came (λ a. answer_output a ≡ record { status = 0; text = played_text setup turns })
    → IfOk came (λ a. IsTextOfRun setup (answer_output a).text)
    → Comes (run name schedule) files A (option_map_or Answered (result_ok came) (Refused NoMemory))
run_comes name schedule files A setup turns (Ok a) free read is runs =
    let command = run name schedule in
    answer_comes command.opens command.refusal command.prints files A a free (ap (λ (o : Output). o.status) is)
    (on_some files
    (λ file r.
    (of_run (file name) setup (answer_output a).text r.0 runs, (turns, r.1, ap (λ (o : Output). o.text) is)))
    read)
run_comes name schedule files A setup turns (Err e) free read is runs = inr (inr refl)

-- A run of a setup by the seeded schedule of a number.
pub seeded_comes :
    {E : Type 0} (name : List ℕ) (seed : ℕ) (files : Option Files) (A : Type 0) (setup : Setup)
    (came : Result Answer E)
    → IfSome files (λ file. (run_seeded name seed).refusal file ≡ None)
    → IfSome files (λ file. AreSetup setup (file name))
    → IfOk came (λ a. answer_output a ≡ record { status = 0; text = played_text setup (turns_of seed setup) })
    → IfOk came (λ a. IsTextOfRun setup (answer_output a).text)
    → Comes (run_seeded name seed) files A (option_map_or Answered (result_ok came) (Refused NoMemory))
seeded_comes name seed files A setup (Ok a) free read is runs =
    let command = run_seeded name seed in
    answer_comes command.opens command.refusal command.prints files A a free (ap (λ (o : Output). o.status) is)
    (on_some files
    (λ file r. (of_run (file name) setup (answer_output a).text r runs, ap (λ (o : Output). o.text) is))
    read)
seeded_comes name seed files A setup (Err e) free read is runs = inr (inr refl)

-- A race of a setup.
pub race_comes :
    {E : Type 0} (name : List ℕ) (files : Option Files) (A : Type 0) (setup : Setup) (came : Result Answer E)
    → IfSome files (λ file. (race name).refusal file ≡ None)
    → IfSome files (λ file. AreSetup setup (file name))
    → IfOk came (λ a. (answer_output a).status ≡ 0) → IfOk came (λ a. IsTextOfRun setup (answer_output a).text)
    → Comes (race name) files A (option_map_or Answered (result_ok came) (Refused NoMemory))
race_comes name files A setup (Ok a) free read done runs =
    let command = race name in
    answer_comes command.opens command.refusal command.prints files A a free done
    (on_some files (λ file r. of_run (file name) setup (answer_output a).text r runs) read)
race_comes name files A setup (Err e) free read done runs = inr (inr refl)

-- A command that opens no file, and prints what it came to.
pub printing_comes :
    (wanted : List ℕ) (reply : Reply) → Gives (λ o. o ≡ record { status = 0; text = wanted }) (λ role. ⊥) reply
    → Comes (printing wanted) None ⊥ reply
printing_comes wanted (Answered a) is =
    inl (outcome_of a, (ap (λ (o : Output). o.status) is, ap (λ (o : Output). o.text) is))
printing_comes wanted (Refused NoRow) is = absurd is
printing_comes wanted (Refused (Unread role)) is = absurd is
printing_comes wanted (Refused NoMemory) is = inr (inr refl)
printing_comes wanted (Explained refusal text) is = absurd is

pub said_comes :
    {E : Type 0} (wanted : List ℕ) (came : Result Answer E)
    → IfOk came (λ a. answer_output a ≡ record { status = 0; text = wanted })
    → Comes (printing wanted) None ⊥ (option_map_or Answered (result_ok came) (Refused NoMemory))
said_comes wanted (Ok a) is =
    inl (outcome_of a, (ap (λ (o : Output). o.status) is, ap (λ (o : Output). o.text) is))
said_comes wanted (Err e) is = inr (inr refl)

-- The spelling of a setup of a file.
pub shown_comes :
    (name : List ℕ) (files : Option Files) (A : Type 0) (setup : Setup) (reply : Reply)
    → IfSome files (λ file. (show name).refusal file ≡ None)
    → IfSome files (λ file. AreSetup setup (file name))
    → Gives (λ o. o ≡ record { status = 0; text = written_setup setup }) (λ role. ⊥) reply
    → Comes (show name) files A reply
shown_comes name files A setup (Answered a) free read is =
    let command = show name in
    answer_comes command.opens command.refusal command.prints files A a free (ap (λ (o : Output). o.status) is)
    (on_some files
    (λ file r.
    subst (λ s. IfOk s (λ setup. (answer_output a).text ≡ written_setup setup)) (sym r.1)
    (ap (λ (o : Output). o.text) is))
    read)
shown_comes name files A setup (Refused NoRow) free read is = absurd is
shown_comes name files A setup (Refused (Unread role)) free read is = absurd is
shown_comes name files A setup (Refused NoMemory) free read is = inr (inr refl)
shown_comes name files A setup (Explained refusal text) free read is = absurd is
