-- The words of the first eight commands ask for the same commands as they did where they were read
-- by one match over all words.
use Rattle.std.proofs.Common.{◌≡◌, ℕ, List, [], ◌∷◌, Option, Some, None, Bool, true, false, refl, sym, ap, subst}
use Rattle.std.specs.Prelude.{codes, if◌then◌else◌}
use Rattle.std.specs.Option.{option_map, unwrap_or}
use Rattle.std.specs.Str.{bytes_eq}
use Rattle.std.proofs.lemmas.Slice.Eq.{bytes_eq-Decides}
use Rattle.fb_cli.specs.Command.{Command, Found, found}
use Rattle.fb_cli.specs.Check.{check}
use Rattle.fb_cli.specs.Show.{show}
use Rattle.fb_cli.specs.Run.{race, run, run_seeded}
use Rattle.fb_cli.specs.Replay.{replay}
use Rattle.fb_cli.specs.Fileless.{make, tally}
use Rattle.fb_cli.specs.Rows.{seed_of, asked, all_rows, command_in}

-- A command as the words named it.
pub data Former : Type 0 where
  checking : List ℕ → Former
  showing : List ℕ → Former
  racing : List ℕ → Former
  running : List ℕ → List ℕ → Former
  running_seeded : List ℕ → ℕ → Former
  replaying : List ℕ → List ℕ → Former
  making : ℕ → Former
  tallying : ℕ → Former

-- The command of one word and one more,
abbrev pub of_two : List ℕ → List ℕ → Option Former
of_two word other =
    if bytes_eq word (codes "race") then Some (racing other) else
    (if bytes_eq word (codes "check") then Some (checking other) else
    (if bytes_eq word (codes "show") then Some (showing other) else
    (if bytes_eq word (codes "make") then option_map making (seed_of other) else
    (if bytes_eq word (codes "tally") then option_map tallying (seed_of other) else None))))

-- of one word and two more,
abbrev pub of_three : List ℕ → List ℕ → List ℕ → Option Former
of_three word file other =
    if bytes_eq word (codes "run") then Some (running file other) else
    (if bytes_eq word (codes "replay") then Some (replaying file other) else None)

-- and of `run`, a file, `seed` and a number.
abbrev pub of_four : List ℕ → List ℕ → List ℕ → List ℕ → Option Former
of_four word file other number =
    if bytes_eq word (codes "run")
    then (if bytes_eq other (codes "seed")
    then option_map (running_seeded file) (seed_of number)
    else None)
    else None

-- The command of the words, and none where they match no row.
abbrev pub former_of : List (List ℕ) → Option Former
former_of (word ∷ other ∷ []) = of_two word other
former_of (word ∷ file ∷ other ∷ []) = of_three word file other
former_of (word ∷ file ∷ other ∷ number ∷ []) = of_four word file other number
former_of words = None

-- The command that it is now.
abbrev pub now : Former → Command
now (checking file) = check file
now (showing file) = show file
now (racing file) = race file
now (running setup schedule) = run setup schedule
now (running_seeded setup seed) = run_seeded setup seed
now (replaying setup trace) = replay setup trace
now (making seed) = make seed
now (tallying seed) = tally seed

-- Equal values stand in equal options.
same_value : {X : Type 0} (x y : X) → Some x ≡ Some y → x ≡ y
same_value x y is = ap (λ o. unwrap_or o x) is

-- A test of a word ends where the word is this one, or goes on with the others.
by_word :
    {X : Type 0} (word name : List ℕ) (here later : Option X) (x : X) (P : Type 1)
    → (word ≡ name → here ≡ Some x → P) → (later ≡ Some x → P)
    → (if bytes_eq word name then here else later) ≡ Some x → P
by_word word name here later x P found_here goes_on = go (bytes_eq word name) refl
  where
    go : (b : Bool) → bytes_eq word name ≡ b → (if b then here else later) ≡ Some x → P
    go true is e = found_here ((bytes_eq-Decides word name).0 is) e
    go false is e = goes_on e

-- Where a word has to be this one.
only_word :
    {X : Type 0} (word name : List ℕ) (here : Option X) (x : X) (P : Type 1)
    → (word ≡ name → here ≡ Some x → P) → (if bytes_eq word name then here else None) ≡ Some x → P
only_word word name here x P found_here =
    by_word word name here None x P found_here (λ none. absurd (cc none))

-- A row that is this one stands for what it was.
abbrev Stands : List (List ℕ) → Former → Type 1
Stands words f = command_in all_rows words ≡ found (now f)

-- The command that was meant is this one.
meant : (words : List (List ℕ)) (g f : Former) → Stands words g → Some g ≡ Some f → Stands words f
meant words g f stands is = subst (Stands words) (same_value g f is) stands

-- Commands of a number are those of the number that its word spells.
numbered :
    (by : ℕ → Former) (number : Option ℕ) (rest : Found) (f : Former)
    → option_map by number ≡ Some f → asked number (λ n. found (now (by n))) rest ≡ found (now f)
numbered by (Some n) rest f is = ap (λ g. found (now g)) (same_value (by n) f is)
numbered by None rest f is = absurd (cc is)

-- The same, where the number comes after a file.
numbered_file :
    (file : List ℕ) (number : Option ℕ) (rest : Found) (f : Former)
    → option_map (running_seeded file) number ≡ Some f
    → asked {X = List ℕ × ℕ} (option_map (λ (n : ℕ). (file, n)) number) (λ named. found (run_seeded named.0 named.1))
    rest
    ≡ found (now f)
numbered_file file (Some n) rest f is = ap (λ g. found (now g)) (same_value (running_seeded file n) f is)
numbered_file file None rest f is = absurd (cc is)

two_words :
    (word other : List ℕ) (f : Former)
    → of_two word other ≡ Some f → Stands (word ∷ other ∷ []) f
two_words word other f =
    by_word word (codes "race") _ _ f _
    (λ same is. first same (meant (codes "race" ∷ other ∷ []) (racing other) f refl is))
    (by_word word (codes "check") _ _ f _
    (λ same is. first same (meant (codes "check" ∷ other ∷ []) (checking other) f refl is))
    (by_word word (codes "show") _ _ f _
    (λ same is. first same (meant (codes "show" ∷ other ∷ []) (showing other) f refl is))
    (by_word word (codes "make") _ _ f _
    (λ same is. first same (numbered making (seed_of other) _ f is))
    (only_word word (codes "tally") _ f _
    (λ same is. first same (numbered tallying (seed_of other) _ f is))))))
  where
    first : {name : List ℕ} → word ≡ name → Stands (name ∷ other ∷ []) f → Stands (word ∷ other ∷ []) f
    first same stands = subst (λ w. Stands (w ∷ other ∷ []) f) (sym same) stands

three_words :
    (word file other : List ℕ) (f : Former)
    → of_three word file other ≡ Some f → Stands (word ∷ file ∷ other ∷ []) f
three_words word file other f =
    by_word word (codes "run") _ _ f _
    (λ same is. first same (meant (codes "run" ∷ file ∷ other ∷ []) (running file other) f refl is))
    (only_word word (codes "replay") _ f _
    (λ same is. first same (meant (codes "replay" ∷ file ∷ other ∷ []) (replaying file other) f refl is)))
  where
    first :
        {name : List ℕ} → word ≡ name → Stands (name ∷ file ∷ other ∷ []) f
        → Stands (word ∷ file ∷ other ∷ []) f
    first same stands = subst (λ w. Stands (w ∷ file ∷ other ∷ []) f) (sym same) stands

four_words :
    (word file other number : List ℕ) (f : Former)
    → of_four word file other number ≡ Some f → Stands (word ∷ file ∷ other ∷ number ∷ []) f
four_words word file other number f =
    only_word word (codes "run") _ f _
    (λ same. only_word other (codes "seed") _ f _
    (λ seed is. subst (λ w. Stands (w ∷ file ∷ other ∷ number ∷ []) f) (sym same)
    (subst (λ w. Stands (codes "run" ∷ file ∷ w ∷ number ∷ []) f) (sym seed)
    (numbered_file file (seed_of number) _ f is))))

-- The words of the first eight commands ask for these.
pub former_words :
    (words : List (List ℕ)) (f : Former) → former_of words ≡ Some f
    → command_in all_rows words ≡ found (now f)
former_words [] f is = absurd (cc is)
former_words (word ∷ []) f is = absurd (cc is)
former_words (word ∷ other ∷ []) f is = two_words word other f is
former_words (word ∷ file ∷ other ∷ []) f is = three_words word file other f is
former_words (word ∷ file ∷ other ∷ number ∷ []) f is = four_words word file other number f is
former_words (word ∷ file ∷ other ∷ number ∷ last ∷ more) f is = absurd (cc is)
