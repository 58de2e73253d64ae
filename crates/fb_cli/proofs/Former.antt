-- The clauses on a call as they were first written, with a field for each status, follow from those that stand now.
use Rattle.std.proofs.Common.{◌≡◌, ◌⊎◌, inl, inr, ℕ, ◌≤◌, ◌<◌, List, [], ◌∷◌, Option, Some, None, refl, sym, ap, ◌∙◌, subst, arith}
use Rattle.std.specs.Prelude.{IfSome}
use Rattle.std.specs.Io.KnownBytes.{Appends}
use Rattle.std.specs.Option.{option_map_or}
use Rattle.fb_edge.specs.Outside.{AppendsFront}
use Rattle.fb_cli.specs.declared.answers.Outcome.{Outcome}
use Rattle.fb_cli.specs.declared.answers.Outcome.TheVariants as outcomes
use Rattle.fb_cli.specs.declared.answers.Refusal.TheVariants.{NoRow, Unread, NoMemory}
use Rattle.fb_cli.specs.declared.role.Role.{Role}
use Rattle.fb_cli.specs.Output.{Output, Files, refusal_output, status_of}
use Rattle.fb_cli.specs.Command.{File, Command, Found, none, found, Asked, Does, Ends, Follows, IsTold, IsUnread, Written, known}

-- The status of a command on these files.
abbrev status_on : Command → Files → ℕ
status_on command bytes_of = option_map_or (λ (o : Output). o.status) (command.refusal bytes_of) 0

-- It is an answer of the command, as far as the files are known.
abbrev Answers : Command → Option Files → Output → Type 0
Answers command files o =
    IfSome (known command.opens files)
    (λ bytes_of. Follows command.tells (command.prints bytes_of) (command.refusal bytes_of) o)

-- An answer of the command has this status, and its text was taken.
abbrev Taken : Command → Option Files → Option (List ℕ) → Option (List ℕ) → ℕ → Type 0
Taken command files before after status =
    (o : Output) × Answers command files o × (o.status ≡ status) × Appends before after o.text

-- A text that a command may print: that of an answer, of a file that was not read, or of want of
-- memory.
abbrev Due : Command → Option Files → Type 0 → List ℕ → Type 0
Due command files shelf_rose text =
    ((o : Output) × Answers command files o × (text ≡ o.text))
    ⊎ (((role : Role) × IsUnread command.opens files shelf_rose role
    × command.tells (refusal_output (Unread role)).text text)
    ⊎ (text ≡ (refusal_output NoMemory).text))

-- How a call that does a command ends: each status comes only where its field says. `before` and
-- `after` are what the sink took.
pub record FormerAnswers (command : Command) (files : Option Files) (shelf_rose sink_rose : Type 0)
    (before after : Option (List ℕ)) (status : ℕ) : Type 0 where
  done : status ≡ 0 → Taken command files before after 0
  refused : status ≡ 1 → Taken command files before after 1
  matched : status ≡ 2 → ⊥
  malformed : status ≡ 3 → Taken command files before after 3
  unread :
      status ≡ 4
      → (role : Role) × IsUnread command.opens files shelf_rose role
      × ((text : List ℕ) × command.tells (refusal_output (Unread role)).text text
      × Appends before after text)
  unwritten :
      status ≡ 5
      → sink_rose
      × ((text : List ℕ) × Due command files shelf_rose text × AppendsFront before after text)
  no_memory : status ≡ 6 → Appends before after (refusal_output NoMemory).text
  too_long : status ≡ 7 → Taken command files before after 7
  none_left : status ≡ 9 → Taken command files before after 9
  no_other : (status ≤ 7) ⊎ (status ≡ 9)
  -- and it comes there, unless a count rose or memory ran out
  exact :
      IfSome (known command.opens files)
      (λ bytes_of.
      (shelf_rose → ⊥) → (sink_rose → ⊥) → (status ≡ status_on command bytes_of) ⊎ (status ≡ 6))

-- How a call ended that does what words ask for.
abbrev pub FormerDoes :
    Found → Option Files → Type 0 → Type 0 → Option (List ℕ) → Option (List ℕ) → ℕ → Type 0
FormerDoes (none Tells) files shelf_rose sink_rose before after status =
    (text : List ℕ) × Tells (refusal_output NoRow).text text
    × Written (record { status = 2; text = text }) sink_rose before after status
FormerDoes (found command) files shelf_rose sink_rose before after status =
    FormerAnswers command files shelf_rose sink_rose before after status

-- The statuses of answers: 0, 1, 3, 7 and 9.
record IsOutcome (status : ℕ) : Type 0 where
  most : (status ≤ 7) ⊎ (status ≡ 9)
  not_2 : status ≡ 2 → ⊥
  not_4_to_6 : 3 < status → 6 < status

is_outcome : (o : Outcome) → IsOutcome (status_of o)
is_outcome outcomes.Done =
    record { most = inl (omega arith); not_2 = λ two. omega (arith, two); not_4_to_6 = λ high. omega (arith, high) }
is_outcome outcomes.Refused =
    record { most = inl (omega arith); not_2 = λ two. omega (arith, two); not_4_to_6 = λ high. omega (arith, high) }
is_outcome outcomes.Malformed =
    record { most = inl (omega arith); not_2 = λ two. omega (arith, two); not_4_to_6 = λ high. omega (arith, high) }
is_outcome outcomes.TooLong =
    record { most = inl (omega arith); not_2 = λ two. omega (arith, two); not_4_to_6 = λ high. omega (arith, high) }
is_outcome outcomes.NothingLeft =
    record { most = inr refl; not_2 = λ two. omega (arith, two); not_4_to_6 = λ high. omega (arith, high) }
is_outcome outcomes.Harmful =
    record { most = inr refl; not_2 = λ two. omega (arith, two); not_4_to_6 = λ high. omega (arith, high) }

-- The status of a command, or want of memory, unless a count rose.
abbrev Exact : Command → Option Files → Type 0 → Type 0 → ℕ → Type 0
Exact command k A B status =
    IfSome k (λ bytes_of. (A → ⊥) → (B → ⊥) → (status ≡ status_on command bytes_of) ⊎ (status ≡ 6))

-- An answer has the status of its command.
settled :
    (Tells : List ℕ → List ℕ → Type 0) (Prints : List ℕ → Type 0) (refusal : Option Output) (o : Output)
    → Follows Tells Prints refusal o → o.status ≡ option_map_or (λ (r : Output). r.status) refusal 0
settled Tells Prints None o follows = follows.0
settled Tells Prints (Some refusal) o follows = follows.0

as_known :
    (command : Command) (k : Option Files) (A B : Type 0) (o : Output) (status : ℕ)
    → IfSome k (λ bytes_of. Follows command.tells (command.prints bytes_of) (command.refusal bytes_of) o)
    → status ≡ o.status → Exact command k A B status
as_known command None A B o status asked is = tt
as_known command (Some bytes_of) A B o status asked is =
    λ _ _. inl (is ∙ settled command.tells (command.prints bytes_of) (command.refusal bytes_of) o asked)

no_memory_left :
    (command : Command) (k : Option Files) (A B : Type 0) (status : ℕ) → status ≡ 6 → Exact command k A B status
no_memory_left command None A B status is = tt
no_memory_left command (Some bytes_of) A B status is = λ _ _. inr is

shelf_failed : (command : Command) (k : Option Files) (A B : Type 0) (status : ℕ) → A → Exact command k A B status
shelf_failed command None A B status rose = tt
shelf_failed command (Some bytes_of) A B status rose = λ calm _. absurd (calm rose)

sink_failed : (command : Command) (k : Option Files) (A B : Type 0) (status : ℕ) → B → Exact command k A B status
sink_failed command None A B status rose = tt
sink_failed command (Some bytes_of) A B status rose = λ _ calm. absurd (calm rose)

-- A file that was not read is one where the shelf failed.
shelf_rose : (opens : List File) (files : Option Files) (A : Type 0) (role : Role) → IsUnread opens files A role → A
shelf_rose [] files A role unread = absurd unread
shelf_rose (file ∷ more) files A role (inl (same, after, rose)) = rose
shelf_rose (file ∷ more) files A role (inr later) = shelf_rose more files A role later

-- A write failed.
cut_short :
    (command : Command) (files : Option Files) (A B : Type 0) (before after : Option (List ℕ)) (text : List ℕ)
    (status : ℕ)
    → Due command files A text → status ≡ 5 → B → AppendsFront before after text
    → FormerAnswers command files A B before after status
cut_short command files A B before after text status due is rose front = record {
  done = λ s. absurd (omega arith);
  refused = λ s. absurd (omega arith);
  matched = λ s. omega arith;
  malformed = λ s. absurd (omega arith);
  unread = λ s. absurd (omega arith);
  unwritten = λ s. (rose, (text, due, front));
  no_memory = λ s. absurd (omega arith);
  too_long = λ s. absurd (omega arith);
  none_left = λ s. absurd (omega arith);
  no_other = inl (omega arith);
  exact = sink_failed command (known command.opens files) A B status rose;
}

-- An answer was printed.
was_said :
    (command : Command) (files : Option Files) (A B : Type 0) (before after : Option (List ℕ)) (o : Output) (status : ℕ)
    → Answers command files o → IsOutcome o.status → Written o B before after status
    → FormerAnswers command files A B before after status
was_said command files A B before after o status asked outcome (inr (is, rose, front)) =
    cut_short command files A B before after o.text status (inl (o, asked, refl)) is rose front
was_said command files A B before after o status asked outcome (inl (is, taken)) = record {
  done = λ s. (o, asked, sym is ∙ s, taken);
  refused = λ s. (o, asked, sym is ∙ s, taken);
  matched = λ s. outcome.not_2 (sym is ∙ s);
  malformed = λ s. (o, asked, sym is ∙ s, taken);
  unread = λ s. absurd (omega (arith, outcome.not_4_to_6));
  unwritten = λ s. absurd (omega (arith, outcome.not_4_to_6));
  no_memory = λ s. absurd (omega (arith, outcome.not_4_to_6));
  too_long = λ s. (o, asked, sym is ∙ s, taken);
  none_left = λ s. (o, asked, sym is ∙ s, taken);
  no_other = subst (λ (n : ℕ). (n ≤ 7) ⊎ (n ≡ 9)) (sym is) outcome.most;
  exact = as_known command (known command.opens files) A B o status asked is;
}

-- A file was not read.
was_unread :
    (command : Command) (files : Option Files) (A B : Type 0) (before after : Option (List ℕ)) (role : Role)
    (text : List ℕ) (status : ℕ)
    → IsUnread command.opens files A role → command.tells (refusal_output (Unread role)).text text
    → Written (record { status = 4; text = text }) B before after status
    → FormerAnswers command files A B before after status
was_unread command files A B before after role text status unread told (inr (is, rose, front)) =
    cut_short command files A B before after text status (inr (inl (role, unread, told))) is rose front
was_unread command files A B before after role text status unread told (inl (is, taken)) = record {
  done = λ s. absurd (omega arith);
  refused = λ s. absurd (omega arith);
  matched = λ s. omega arith;
  malformed = λ s. absurd (omega arith);
  unread = λ s. (role, unread, (text, told, taken));
  unwritten = λ s. absurd (omega arith);
  no_memory = λ s. absurd (omega arith);
  too_long = λ s. absurd (omega arith);
  none_left = λ s. absurd (omega arith);
  no_other = inl (omega arith);
  exact = shelf_failed command (known command.opens files) A B status (shelf_rose command.opens files A role unread);
}

-- Memory ran out.
had_no_memory : (command : Command) (files : Option Files) (A B : Type 0) (before after : Option (List ℕ)) (status : ℕ)
    → Written (refusal_output NoMemory) B before after status → FormerAnswers command files A B before after status
had_no_memory command files A B before after status (inr (is, rose, front)) =
    cut_short command files A B before after _ status (inr (inr refl)) is rose front
had_no_memory command files A B before after status (inl (is, taken)) = record {
  done = λ s. absurd (omega arith);
  refused = λ s. absurd (omega arith);
  matched = λ s. omega arith;
  malformed = λ s. absurd (omega arith);
  unread = λ s. absurd (omega arith);
  unwritten = λ s. absurd (omega arith);
  no_memory = λ s. taken;
  too_long = λ s. absurd (omega arith);
  none_left = λ s. absurd (omega arith);
  no_other = inl (omega arith);
  exact = no_memory_left command (known command.opens files) A B status is;
}

-- An output of a command was written.
answers :
    (command : Command) (files : Option Files) (A B : Type 0) (before after : Option (List ℕ)) (o : Output) (status : ℕ)
    → Ends command files A o → Written o B before after status
    → FormerAnswers command files A B before after status
answers command files A B before after o status (inl ((outcome, is), asked)) written =
    was_said command files A B before after o status asked (subst IsOutcome (sym is) (is_outcome outcome)) written
answers command files A B before after o status (inr (inl (role, unread, (is, told)))) written =
    was_unread command files A B before after role o.text status unread told
    (subst (λ (p : Output). Written p B before after status) (λ i. record { status = is i; text = o.text }) written)
answers command files A B before after o status (inr (inr is)) written =
    had_no_memory command files A B before after status
    (subst (λ (p : Output). Written p B before after status) is written)

-- What words ask for was done.
pub former :
    (asked : Found) (files : Option Files) (A B : Type 0) (before after : Option (List ℕ)) (status : ℕ)
    → Does asked files A B before after status → FormerDoes asked files A B before after status
former (none Tells) files A B before after status (o, (is, told), written) = (
  o.text,
  told,
  subst (λ (p : Output). Written p B before after status) (λ i. record { status = is i; text = o.text }) written,
)
former (found command) files A B before after status (o, ends, written) =
    answers command files A B before after o status ends written
