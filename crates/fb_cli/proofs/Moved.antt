-- From a run to what `traffic` comes to.
use Rattle.std.proofs.Common.{◌≡◌, inr, ℕ, ◌++◌, List, [], Option, Some, None, Ok, Err, refl, ap, ◌∙◌, length}
use Rattle.std.specs.Prelude.{IfSome, IfOk, Result}
use Rattle.std.specs.Option.{option_map_or}
use Rattle.std.specs.Result.{result_ok}
use Rattle.bus_model.specs.Setup.{Setup, access_count}
use Rattle.bus_model.specs.Turns.{played}
use Rattle.backplane.specs.Machine.{Machine, opened}
use Rattle.generator.specs.Schedule.{seeded_turns}
use Rattle.table_library.specs.Lines.{traffic_text}
use Rattle.fb_cli.specs.declared.answers.Answer.{Answer}
use Rattle.fb_cli.specs.declared.answers.Refusal.TheVariants.{NoMemory}
use Rattle.fb_cli.specs.declared.answers.Reply.TheVariants.{Answered, Refused}
use Rattle.fb_cli.specs.Output.{Output, Files}
use Rattle.fb_cli.specs.Command.{AreSetup}
use Rattle.fb_cli.specs.Run.{AreTurns, run, run_seeded, turns_of}
use Rattle.fb_cli.specs.Traffic.{moved_by, traffic, traffic_seeded}
use Rattle.fb_cli.specs.Replies.{Comes, answer_output}
use Rattle.fb_cli.proofs.Coming.{answer_comes, on_some}

-- A text that is printed with status 0.
abbrev done : List ℕ → Output
done text = record { status = 0; text = text }

-- The output on a machine on which turns were played from the opening of a setup.
pub moved_output :
    (output : Output) (setup : Setup) (turns : List ℕ) (first last : Machine)
    → output ≡ done (traffic_text last.journal (length last.setup.boards)) → first ≡ opened setup
    → last ≡ record { setup = first.setup; journal = played first.setup turns } → output ≡ done (moved_by setup turns)
moved_output output setup turns first last is start turned =
    is
    ∙ ap (λ (m : Machine). done (traffic_text m.journal (length m.setup.boards))) turned
    ∙ ap (λ (m : Machine). done (traffic_text (played m.setup turns) (length m.setup.boards))) start

-- The output on a machine on which the seeded schedule of a number was played.
pub moved_seeded :
    (output : Output) (setup : Setup) (seed accesses : ℕ) (first last : Machine)
    → output ≡ done (traffic_text last.journal (length last.setup.boards)) → first ≡ opened setup
    → accesses ≡ access_count setup
    → last
    ≡ record {
      setup = first.setup;
      journal = played first.setup (seeded_turns seed (length first.setup.boards) accesses);
    }
    → output ≡ done (moved_by setup (turns_of seed setup))
moved_seeded output setup seed accesses first last is start counted turned =
    is
    ∙ ap (λ (m : Machine). done (traffic_text m.journal (length m.setup.boards))) turned
    ∙ ap (λ (m : Machine).
    done
    (traffic_text (played m.setup (seeded_turns seed (length m.setup.boards) accesses)) (length m.setup.boards))) start
    ∙ ap (λ (n : ℕ). done (moved_by setup (seeded_turns seed (length setup.boards) n))) counted

-- A run by the turns of a schedule.
pub traffic_comes :
    {E : Type 0} (name schedule : List ℕ) (files : Option Files) (A : Type 0) (setup : Setup) (turns : List ℕ)
    (came : Result Answer E)
    → IfSome files (λ file. (run name schedule).refusal file ≡ None)
    → IfSome files (λ file. AreSetup setup (file name) × AreTurns setup turns (file schedule))
    → IfOk came (λ a. answer_output a ≡ done (moved_by setup turns))
    → Comes (traffic name schedule) files A (option_map_or Answered (result_ok came) (Refused NoMemory))
traffic_comes name schedule files A setup turns (Ok a) free read is =
    let command = traffic name schedule in
    answer_comes command.opens command.refusal command.prints files A a free (ap (λ (o : Output). o.status) is)
    (on_some files (λ file r. (setup, r.0, (turns, r.1, ap (λ (o : Output). o.text) is))) read)
traffic_comes name schedule files A setup turns (Err e) free read is = inr (inr refl)

-- A run by the seeded schedule of a number.
pub seeded_traffic_comes :
    {E : Type 0} (name : List ℕ) (seed : ℕ) (files : Option Files) (A : Type 0) (setup : Setup)
    (came : Result Answer E)
    → IfSome files (λ file. (run_seeded name seed).refusal file ≡ None)
    → IfSome files (λ file. AreSetup setup (file name))
    → IfOk came (λ a. answer_output a ≡ done (moved_by setup (turns_of seed setup)))
    → Comes (traffic_seeded name seed) files A (option_map_or Answered (result_ok came) (Refused NoMemory))
seeded_traffic_comes name seed files A setup (Ok a) free read is =
    let command = traffic_seeded name seed in
    answer_comes command.opens command.refusal command.prints files A a free (ap (λ (o : Output). o.status) is)
    (on_some files (λ file r. (setup, r, ap (λ (o : Output). o.text) is)) read)
seeded_traffic_comes name seed files A setup (Err e) free read is = inr (inr refl)
