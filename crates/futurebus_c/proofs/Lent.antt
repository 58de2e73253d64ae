-- What a command that was done over lent texts gives.
use Rattle.std.proofs.Common.{◌≡◌, inl, inr, ℕ, List, [], ◌∷◌, Option, Some, subst, sym}
use Rattle.fb_cli.specs.declared.role.Role.{Role}
use Rattle.fb_cli.specs.Command.{Does, EndsAs, File, Found, IsUnread, none, found}
use Rattle.fb_cli.specs.Output.{Output, Files}
use Rattle.fb_cli.specs.Rows.{command_in, plain_rows}
use Rattle.futurebus_c.specs.Texts.{files_of}
use Rattle.futurebus_c.specs.Given.{Answered, Gives}

-- A file that was not read because of what never is, was not read because of nothing.
unread :
    (opens : List File) (files : Option Files) (A : Type 0) → (A → ⊥)
    → (role : Role) → IsUnread opens files A role → IsUnread opens files ⊥ role
unread [] files A never role is = is
unread (file ∷ more) files A never role (inl (same, after, rose)) =
    inl (same, after, never rose)
unread (file ∷ more) files A never role (inr later) =
    inr (unread more files A never role later)

-- So what is answered where the shelf never fails is answered where nothing fails.
ends :
    (asked : Found) (files : Option Files) (A : Type 0) → (A → ⊥) → (o : Output)
    → EndsAs asked files A o → EndsAs asked files ⊥ o
ends (none Tells) files A never o is = is
ends (found command) files A never o (inl is) = inl is
ends (found command) files A never o (inr (inl (role, is, told))) =
    inr (inl (role, unread command.opens files A never role is, told))
ends (found command) files A never o (inr (inr is)) = inr (inr is)

-- A text that was taken whole, and is in the caller's buffer.
whole_answered :
    (words asked : List (List ℕ)) → words ≡ asked
    → (files : Files) (A B : Type 0) → (A → ⊥) → (text : List ℕ) (status : ℕ) → (status ≡ 5 → ⊥)
    → Does (command_in plain_rows words) (Some files) A B (Some []) (Some text) status
    → (buffer : List ℕ) (told count : ℕ)
    → Gives (record { status = status; text = text }) buffer told count
    → Answered asked files buffer told count
whole_answered words asked is files A B never text status whole (o, does, inr (short, rose, front)) buffer told count gives =
    absurd (whole short)
whole_answered words asked is files A B never text status whole (o, does, inl (same, taken)) buffer told count gives =
    record {
      output = o;
      ends = inl (subst (λ w. EndsAs (command_in plain_rows w) (Some files) ⊥ o) is
          (ends (command_in plain_rows words) (Some files) A never o does));
      given = subst (λ (p : Output). Gives p buffer told count)
          (λ i. record { status = same i; text = taken i }) gives;
    }

-- What `plain` did with words over two texts, from an empty sink, and a buffer that it was given in.
pub answered :
    (words asked : List (List ℕ)) → words ≡ asked
    → (one other first second : List ℕ) → one ≡ first → other ≡ second
    → (before after text : List ℕ) → before ≡ [] → text ≡ after
    → (A B : Type 0) → (A → ⊥) → (status : ℕ) → (status ≡ 5 → ⊥)
    → Does (command_in plain_rows words) (Some (files_of one other)) A B (Some before) (Some after) status
    → (buffer : List ℕ) (told count : ℕ)
    → Gives (record { status = status; text = text }) buffer told count
    → Answered asked (files_of first second) buffer told count
answered words asked is one other first second one_is other_is before after text empty text_is A B never status whole
    does buffer told count gives =
    whole_answered words asked is (files_of first second) A B never text status whole
    (subst (λ t. Does (command_in plain_rows words) (Some (files_of first second)) A B (Some []) (Some t) status)
    (sym text_is)
    (subst (λ b. Does (command_in plain_rows words) (Some (files_of first second)) A B (Some b) (Some after) status)
    empty
    (subst (λ f. Does (command_in plain_rows words) (Some (files_of f second)) A B (Some before) (Some after) status)
    one_is
    (subst (λ s. Does (command_in plain_rows words) (Some (files_of one s)) A B (Some before) (Some after) status)
    other_is does))))
    buffer told count gives
