-- From the table of a file to what `narrow` comes to.
use Rattle.std.proofs.Common.{◌≡◌, inr, ℕ, ◌≤◌, ◌++◌, List, [], ◌∷◌, Option, Some, None, Ok, Err, refl, ap, sym, subst, ◌∙◌}
use Rattle.std.specs.Prelude.{IfSome, IfOk, Result, codes, length}
use Rattle.std.specs.Option.{option_map_or}
use Rattle.std.specs.Result.{result_ok}
use Rattle.fb_text.specs.Unread.{unread}
use Rattle.class_relation.specs.Tables.{Table}
use Rattle.setup_text.specs.Reading.{Fault}
use Rattle.setup_text.specs.Alone.{alone_at}
use Rattle.table_text.specs.Writing.{written_table}
use Rattle.table_library.specs.Narrow.{narrow_of}
use Rattle.fb_cli.specs.declared.answers.Answer.{Answer}
use Rattle.fb_cli.specs.declared.answers.Refusal.TheVariants.{NoMemory}
use Rattle.fb_cli.specs.declared.answers.Reply.TheVariants.{Answered, Refused}
use Rattle.fb_cli.specs.declared.role.Role.TheVariants as roles
use Rattle.fb_cli.specs.Output.{Output, Files, limit_of, on_read, output}
use Rattle.fb_cli.specs.Narrow.{narrow, unless_some}
use Rattle.fb_cli.specs.Replies.{Comes, Stops, answer_output}
use Rattle.fb_cli.proofs.Alike.{is_within}
use Rattle.fb_cli.proofs.Coming.{answer_comes, on_both, on_some}

-- The refusal of a table that was read.
abbrev refusal_of : Table → Option Output
refusal_of t = unless_some t.name (narrow_of t)

-- The refusal of a table of a file.
table_refusal :
    (name : List ℕ) (file : Files) (t : Table) → length (file name) ≤ limit_of roles.Setup
    → alone_at (unread (file name)) ≡ Ok t → (narrow name).refusal file ≡ refusal_of t
table_refusal name file t short read =
    is_within roles.Setup (file name) (on_read roles.Setup refusal_of (alone_at (unread (file name)))) short
    ∙ ap (on_read roles.Setup refusal_of) read

-- A table with a part in the class is not refused,
pub narrow_free :
    (name : List ℕ) (files : Option Files) (t narrowed : Table)
    → IfSome files (λ file. length (file name) ≤ limit_of roles.Setup)
    → IfSome files (λ file. alone_at (unread (file name)) ≡ Ok t) → Some narrowed ≡ narrow_of t
    → IfSome files (λ file. (narrow name).refusal file ≡ None)
narrow_free name files t narrowed short read some =
    on_both files (λ file s r. table_refusal name file t s r ∙ ap (unless_some t.name) (sym some)) short read

pub narrow_read :
    (name : List ℕ) (files : Option Files) (t narrowed : Table)
    → IfSome files (λ file. alone_at (unread (file name)) ≡ Ok t) → Some narrowed ≡ narrow_of t
    → IfSome files (λ file. IfOk (alone_at (unread (file name))) (λ table. narrow_of table ≡ Some narrowed))
narrow_read name files t narrowed read some =
    on_some files
    (λ file r.
    subst (λ x. IfOk x (λ table. narrow_of table ≡ Some narrowed)) (sym r) (sym some))
    read

-- The answer, if there is one, says that no part of a table of this name is in the class.
abbrev pub SaysNone : {E : Type 0} → Result Answer E → List ℕ → Type 0
SaysNone came name =
    IfOk came (λ a. answer_output a ≡ output 9 (codes "narrow " ++ (name ++ codes ": none")))

-- and one without stops the command.
pub narrow_stops :
    {E : Type 0} (name : List ℕ) (files : Option Files) (A : Type 0) (t : Table) (came : Result Answer E)
    → IfSome files (λ file. length (file name) ≤ limit_of roles.Setup)
    → IfSome files (λ file. alone_at (unread (file name)) ≡ Ok t) → None ≡ narrow_of t
    → SaysNone came t.name → Stops (narrow name) files A (option_map_or Answered (result_ok came) (Refused NoMemory))
narrow_stops name files A t (Ok a) short read none is =
    on_both files
    (λ file s r. table_refusal name file t s r ∙ ap (unless_some t.name) (sym none) ∙ ap Some (sym is))
    short read
narrow_stops name files A t (Err e) short read none is = tt

-- What is left of a table is printed.
narrowed_prints :
    (table : Result Table Fault) (narrowed : Table) (text : List ℕ)
    → IfOk table (λ t. narrow_of t ≡ Some narrowed) → text ≡ written_table narrowed
    → IfOk table (λ t. (n : Table) × (narrow_of t ≡ Some n) × (text ≡ written_table n))
narrowed_prints (Ok t) narrowed text some is = (narrowed, some, is)
narrowed_prints (Err f) narrowed text some is = tt

pub narrow_comes :
    {E : Type 0} (name : List ℕ) (files : Option Files) (A : Type 0) (narrowed : Table) (came : Result Answer E)
    → IfSome files (λ file. (narrow name).refusal file ≡ None)
    → IfSome files (λ file. IfOk (alone_at (unread (file name))) (λ t. narrow_of t ≡ Some narrowed))
    → IfOk came (λ a. answer_output a ≡ record { status = 0; text = written_table narrowed })
    → Comes (narrow name) files A (option_map_or Answered (result_ok came) (Refused NoMemory))
narrow_comes name files A narrowed (Ok a) free read is =
    let command = narrow name in
    answer_comes command.opens command.refusal command.prints files A a free (ap (λ (o : Output). o.status) is)
    (on_some files
    (λ file r.
    narrowed_prints (alone_at (unread (file name))) narrowed (answer_output a).text r (ap (λ (o : Output). o.text) is))
    read)
narrow_comes name files A narrowed (Err e) free read is = inr (inr refl)
