-- From what was found against a command, to what `explain` comes to.
use Rattle.std.proofs.Common.{◌≡◌, inl, inr, ℕ, List, ◌∷◌, [], ◌++◌, Option, Some, None, Ok, Err, refl, ap, sym, ◌∙◌, subst, append-nil}
use Rattle.std.specs.Prelude.{IfSome, IfOk, Result, codes}
use Rattle.std.specs.Option.{option_map_or}
use Rattle.std.specs.Result.{result_ok}
use Rattle.explain.specs.Extends.{Extends}
use Rattle.fb_cli.specs.declared.answers.Answer.{Answer}
use Rattle.fb_cli.specs.declared.answers.Refusal.TheVariants.{NoRow, Unread, NoMemory}
use Rattle.fb_cli.specs.declared.answers.Reply.{Reply}
use Rattle.fb_cli.specs.declared.answers.Reply.TheVariants.{Answered, Refused, Explained}
use Rattle.fb_cli.specs.Output.{Files, Refusal, refusal_output}
use Rattle.fb_cli.specs.Command.{Command, Follows, Found, none, found, known, printing}
use Rattle.fb_cli.specs.Explain.{explained}
use Rattle.fb_cli.specs.Replies.{Comes, ComesTo, IsReady, answer_output, reply_output}
use Rattle.fb_cli.proofs.Coming.{on_some, outcome_of}

-- What is printed where nothing is refused.
abbrev pub no_fault : List ℕ
no_fault = codes "no fault" ++ 10 ∷ []

-- Nothing stands against the command.
pub free_comes :
    {X : Type 0} (asked : Found) (files : Option Files) (A : Type 0) (x : X) (reply : Reply)
    → IsReady {X = X} asked files A (Ok x) → Comes (printing no_fault) None ⊥ reply
    → ComesTo (explained asked) files A reply
free_comes (none Tells) files A x reply ready came = absurd cc
free_comes (found command) files A x reply ready (inl (outcome, said)) =
    inl (
      outcome,
      on_some (known command.opens files)
          (λ bytes_of is.
          subst (λ r. Follows Extends (λ text. text ≡ no_fault) r (reply_output reply)) (sym is) said)
          ready,
    )
free_comes (found command) files A x reply ready (inr (inl (role, unread, told))) = absurd unread
free_comes (found command) files A x reply ready (inr (inr is)) = inr (inr is)

-- The command stops with an answer, to which more is added.
more_said :
    {E : Type 0} (X : Type 0) (asked : Found) (files : Option Files) (A : Type 0) (a : Answer) (came : Result Answer E)
    → IsReady {X = X} asked files A (Err (Answered a))
    → IfOk came (λ m. (answer_output m).status ≡ (answer_output a).status)
    → IfOk came (λ m. Extends (answer_output a).text (answer_output m).text)
    → ComesTo (explained asked) files A (option_map_or Answered (result_ok came) (Refused NoMemory))
more_said X (none Tells) files A a came ready same more = absurd cc
more_said X (found command) files A a (Ok m) ready same more =
    inl (
      outcome_of m,
      on_some (known command.opens files)
          (λ bytes_of is.
          subst (λ r. Follows Extends (λ text. text ≡ no_fault) r (answer_output m)) (sym is) (same, more))
          ready,
    )
more_said X (found command) files A a (Err e) ready same more = inr (inr refl)

pub answer_more :
    {E : Type 0} (X : Type 0) (asked : Found) (files : Option Files) (A : Type 0) (a : Answer) (stop : Reply)
    (came : Result Answer E) (reply : Reply)
    → stop ≡ Answered a → reply ≡ option_map_or Answered (result_ok came) (Refused NoMemory)
    → IsReady {X = X} asked files A (Err stop)
    → IfOk came (λ m. (answer_output m).status ≡ (answer_output a).status)
    → IfOk came (λ m. Extends (answer_output a).text (answer_output m).text)
    → ComesTo (explained asked) files A reply
answer_more X asked files A a stop came reply stopped is ready same more =
    subst (λ r. ComesTo (explained asked) files A r) (sym is)
    (more_said X asked files A a came (subst (λ r. IsReady {X = X} asked files A (Err r)) stopped ready) same more)

-- A text is itself with nothing after it.
extends_itself : (text : List ℕ) → Extends text text
extends_itself text = record { more = []; whole = sym (append-nil text) }

-- Words ask for no command, and memory ran out for the reason.
alone_said :
    (X : Type 0) (asked : Found) (files : Option Files) (A : Type 0)
    → IsReady {X = X} asked files A (Err (Refused NoRow)) → ComesTo (explained asked) files A (Refused NoRow)
alone_said X (none Tells) files A ready = (refl, extends_itself (refusal_output NoRow).text)
alone_said X (found command) files A ready = absurd ready

pub words_alone :
    (X : Type 0) (asked : Found) (files : Option Files) (A : Type 0) (stop : Reply) (refusal : Refusal)
    → stop ≡ Refused refusal → refusal ≡ NoRow → IsReady {X = X} asked files A (Err stop)
    → ComesTo (explained asked) files A (Refused NoRow)
words_alone X asked files A stop refusal stopped is ready =
    alone_said X asked files A
    (subst (λ r. IsReady {X = X} asked files A (Err r)) (stopped ∙ ap Refused is) ready)
