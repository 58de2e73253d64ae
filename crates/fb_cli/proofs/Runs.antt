-- What holds of a complete run.
use Rattle.std.proofs.Common.{◌≡◌, ℕ, ◌++◌, List, [], ◌∷◌, None, refl, sym, subst}
use Rattle.std.specs.List.{AllByRecursion}
use Rattle.trace_text.specs.Ranges.{InRange}
use Rattle.bus_model.specs.Setup.{Setup, WellFormed, AllInClass}
use Rattle.bus_model.specs.Events.{Event, Grant}
use Rattle.bus_model.specs.Configuration.{Configuration, opening}
use Rattle.bus_model.specs.Steps.{Can, after}
use Rattle.bus_model.specs.Runs.{Leads, Run, Complete, after_all}
use Rattle.bus_model.specs.Entries.{entries, Legal}
use Rattle.coherence.proofs.Steps.{every_run_is_sound, complete_runs_have_their_scripts}
use Rattle.run_text.specs.Lengths.{RunTextsFit}
use Rattle.run_text.specs.RunText.{ending}
use Rattle.backplane.specs.Machine.{opened}
use Rattle.fb_cli.specs.Command.{AreSetup}
use Rattle.fb_cli.specs.Headline.{RunHolds, IsTextOfRun, IsRunOf}
use Rattle.fb_cli.specs.Replay.{IsEnding, replay_refusal}
use Rattle.fb_cli.proofs.Alike.{replayed_alike, ends_alike}

-- The first events of a run are a run.
front :
    (setup : Setup) (c : Configuration) (before rest : List Event) (last : Configuration)
    → Leads setup c (before ++ rest) last → Leads setup c before (after_all c before)
front setup c [] rest last leads = refl
front setup c (event ∷ before) rest last leads = (leads.0, front setup (after c event) before rest last leads.1)

-- Each event of a run is a step from where the events before it lead.
step_at :
    (setup : Setup) (c : Configuration) (before rest : List Event) (event : Event) (last : Configuration)
    → Leads setup c (before ++ event ∷ rest) last → Can setup (after_all c before) event
step_at setup c [] rest event last leads = leads.0
step_at setup c (first ∷ before) rest event last leads = step_at setup (after c first) before rest event last leads.1

pub holds :
    (setup : Setup) (events : List Event) → WellFormed setup → AllInClass setup
    → Run setup events (after_all (opening setup) events) → Complete setup (after_all (opening setup) events)
    → AllByRecursion InRange events → RunTextsFit → Legal setup.memory (entries events) → RunHolds setup events
holds setup events well accepted runs complete spelled fit legal = record {
  accepted = accepted;
  run = runs;
  complete = complete;
  spelled = spelled;
  short = fit setup events well accepted runs spelled;
  scripts =
      λ board.
      complete_runs_have_their_scripts setup events (after_all (opening setup) events) board well accepted runs
      complete;
  legal = legal;
  sound = λ before rest is.
      every_run_is_sound setup before (after_all (opening setup) before) well accepted
      (front setup (opening setup) before rest (after_all (opening setup) events)
      (subst (λ es. Leads setup (opening setup) es (after_all (opening setup) events)) is runs));
  grants = λ before rest by winner lines rounds is.
      step_at setup (opening setup) before rest (Grant by winner lines rounds) (after_all (opening setup) events)
      (subst (λ es. Leads setup (opening setup) es (after_all (opening setup) events)) is runs);
}

-- The run of a finished machine of a setup of these bytes.
abbrev pub of_run :
    (bytes : List ℕ) (setup : Setup) (text : List ℕ) → AreSetup setup bytes → IsTextOfRun setup text
    → IsRunOf bytes text
of_run bytes setup text read run = record {
  setup = setup;
  read = read.1;
  run = run;
  replayed =
      subst (λ t. replay_refusal bytes t ≡ None) (sym run.text) (replayed_alike bytes setup run.events read run.holds);
  ended =
      subst (λ t.
      IsEnding (opened setup) t (ending setup run.events (after_all (opening setup) run.events)))
      (sym run.text) (ends_alike setup run.events run.holds);
}
