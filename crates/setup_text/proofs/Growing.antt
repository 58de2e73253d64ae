-- Whether a setup still stands when its text grows by a line, and whether it stood before.
use Rattle.std.proofs.Common.{◌≡◌, ◌≢◌, ℕ, zero, suc, ◌+◌, ◌-◌, ◌/◌, ◌<◌, ◌≤◌, ◌^◌, Bool, true, false, ◌||◌, eqb, List, [], ◌∷◌, ◌++◌, length, get_or, set, refl, sym, ap, subst, ◌∙◌, arith, All, AllPairs, sum_by}
use Rattle.std.specs.List.{AllByRecursion}
use Rattle.std.proofs.lemmas.Bool.{eqb-true, eqb-false}
use Rattle.std.proofs.lemmas.List.{length-set, length-append, get_or_append_left}
use Rattle.std.proofs.lemmas.List.Elements.{All-set, All-push, All-weaker}
use Rattle.std.proofs.lemmas.List.Quantifiers.{all_pairs_push}
use Rattle.std.proofs.lemmas.List.Sums.{sum_by_push}
use Rattle.bus_signals.specs.declared.Access.{Access}
use Rattle.bus_signals.specs.Accesses.{address_of}
use Rattle.table_check.specs.declared.boards.BoardSpec.{BoardSpec}
use Rattle.setup.specs.Setup.{Setup, BoardFits, line_count, access_count}
use Rattle.setup_text.specs.Drafts.{with_word, with_board, access_added, IsDraft}
use Rattle.setup_text.specs.Reading.{has_number}

-- ---- lists that grow at the end

pub each_push :
    {X : Type 0} (P : X → Type 0) (xs : List X) (x : X) → AllByRecursion P xs → P x → AllByRecursion P (xs ++ x ∷ [])
each_push P [] x h p = (p, tt)
each_push P (y ∷ xs) x h p = (h.0, each_push P xs x h.1 p)

pub each_before :
    {X : Type 0} (P : X → Type 0) (xs : List X) (x : X) → AllByRecursion P (xs ++ x ∷ []) → AllByRecursion P xs × P x
each_before P [] x h = (tt, h.0)
each_before P (y ∷ xs) x h = let rest = each_before P xs x h.1 in ((h.0, rest.0), rest.1)

pub all_before : {X : Type 0} (P : X → Type 0) (xs : List X) (x : X) → All P (xs ++ x ∷ []) → All P xs
all_before P xs x h k d low =
    let e : get_or (xs ++ x ∷ []) k d ≡ get_or xs k d = get_or_append_left xs (x ∷ []) d k low in
    subst P e (h k d (omega (arith, length-append xs (x ∷ []))))

pub all_last : {X : Type 0} (P : X → Type 0) (xs : List X) (x : X) → All P (xs ++ x ∷ []) → P x
all_last {X} P xs x h = subst P (last xs) (h (length xs) x (omega (arith, length-append xs (x ∷ []))))
  where
    last : (xs : List X) → get_or (xs ++ x ∷ []) (length xs) x ≡ x
    last [] = refl
    last (y ∷ xs) = last xs

pub pairs_before : {X : Type 0} (R : X → X → Type 0) (xs : List X) (x : X) → AllPairs R (xs ++ x ∷ []) → AllPairs R xs
pairs_before R xs x h i j d low high =
    let a : get_or (xs ++ x ∷ []) i d ≡ get_or xs i d = get_or_append_left xs (x ∷ []) d i (omega arith) in
    let b : get_or (xs ++ x ∷ []) j d ≡ get_or xs j d = get_or_append_left xs (x ∷ []) d j high in
    let both : R (get_or (xs ++ x ∷ []) i d) (get_or (xs ++ x ∷ []) j d) =
    h i j d low (omega (arith, length-append xs (x ∷ []))) in
    rw (a, b) at both

pub pairs_last :
    {X : Type 0} (R : X → X → Type 0) (xs : List X) (x d : X) → AllPairs R (xs ++ x ∷ []) → (i : ℕ) → i < length xs
    → R (get_or xs i d) x
pairs_last {X} R xs x d h i low =
    let a : get_or (xs ++ x ∷ []) i d ≡ get_or xs i d = get_or_append_left xs (x ∷ []) d i low in
    let b : get_or (xs ++ x ∷ []) (length xs) d ≡ x = last xs in
    let both : R (get_or (xs ++ x ∷ []) i d) (get_or (xs ++ x ∷ []) (length xs) d) =
    h i (length xs) d low (omega (arith, length-append xs (x ∷ []))) in
    rw (a, b) at both
  where
    last : (xs : List X) → get_or (xs ++ x ∷ []) (length xs) d ≡ x
    last [] = refl
    last (y ∷ xs) = last xs

-- ---- numbers of boards

pub number_new :
    (boards : List BoardSpec) (n : ℕ) → has_number boards n ≡ false → (k : ℕ) (d : BoardSpec) → k < length boards
    → (get_or boards k d).number ≢ n
number_new [] n h k d low = absurd (omega arith)
number_new (b ∷ bs) n h k d low = go (eqb b.number n) refl h k low (λ j m p. number_new bs n m j d p)
  where
    go :
        (x : Bool) → eqb b.number n ≡ x → (x || has_number bs n) ≡ false → (k : ℕ) → k < length (b ∷ bs)
        → ((j : ℕ) → has_number bs n ≡ false → j < length bs → (get_or bs j d).number ≢ n)
        → (get_or (b ∷ bs) k d).number ≢ n
    go true e h k low rest = absurd cc
    go false e h zero low rest = eqb-false b.number n e
    go false e h (suc k) low rest = rest k h (omega arith)

pub new_number_is :
    (boards : List BoardSpec) (n : ℕ) → ((k : ℕ) (d : BoardSpec) → k < length boards → (get_or boards k d).number ≢ n)
    → has_number boards n ≡ false
new_number_is [] n h = refl
new_number_is (b ∷ bs) n h = go (eqb b.number n) refl (new_number_is bs n (λ k d low. h (suc k) d (omega arith)))
  where
    go : (x : Bool) → eqb b.number n ≡ x → has_number bs n ≡ false → (x || has_number bs n) ≡ false
    go true e rest = absurd (h 0 b (omega arith) (eqb-true b.number n e))
    go false e rest = rest

-- ---- one more word

pub word_keeps : (s : Setup) (addr value : ℕ) → IsDraft s → value < 2 ^ 32 → IsDraft (with_word s addr value)
word_keeps s addr value d small =
    let long = length-set s.memory addr value in
    let lines : line_count (with_word s addr value) ≡ line_count s = ap (λ (n : ℕ). n / 4) long in
    let within : length s.memory ≡ length (set s.memory addr value) = sym long in
    record {
      memory = omega (arith, d.memory, long, lines);
      words = All-set (λ word. word < 2 ^ 32) s.memory addr value small d.words;
      lines_low = omega (arith, d.lines_low, lines);
      lines_high = omega (arith, d.lines_high, lines);
      tables = d.tables;
      boards_high = d.boards_high;
      boards =
          All-weaker (BoardFits s) (BoardFits (with_word s addr value))
          (λ b h. record { number_low = h.number_low; number_high = h.number_high; table = h.table; shape = h.shape })
          s.boards d.boards;
      numbers = d.numbers;
      scripts = d.scripts;
      addresses =
          (let P : ℕ → Type 0 = λ n. All (All (λ access. address_of access < n)) s.scripts in
          subst P within d.addresses);
      accesses = d.accesses;
    }

-- ---- one more board

pub board_keeps :
    (s : Setup) (b : BoardSpec) → IsDraft s → length s.boards < 16 → BoardFits s b
    → has_number s.boards b.number ≡ false → IsDraft (with_board s b)
board_keeps s b d few fits new =
    let same =
    λ (x : BoardSpec) (h : BoardFits s x).
    let r : BoardFits (with_board s b) x =
    record { number_low = h.number_low; number_high = h.number_high; table = h.table; shape = h.shape } in
    r in
    record {
      memory = d.memory;
      words = d.words;
      lines_low = d.lines_low;
      lines_high = d.lines_high;
      tables = d.tables;
      boards_high = omega (arith, length-append s.boards (b ∷ []));
      boards =
          All-push (BoardFits (with_board s b)) s.boards b
          (All-weaker (BoardFits s) (BoardFits (with_board s b)) same s.boards d.boards) (same b fits);
      numbers =
          all_pairs_push (λ (a c : BoardSpec). a.number ≢ c.number) s.boards b d.numbers
          (λ k e low. number_new s.boards b.number new k e low);
      scripts = omega (arith, d.scripts, length-append s.boards (b ∷ []), length-append s.scripts ([] ∷ []));
      addresses =
          All-push (All (λ access. address_of access < length s.memory)) s.scripts [] d.addresses
          (λ k e low. absurd (omega arith));
      accesses = omega (arith, d.accesses, sum_by_push (λ (script : List Access). length script) s.scripts []);
    }

pub board_before : (s : Setup) (b : BoardSpec) → IsDraft (with_board s b) → IsDraft s
board_before s b d = record {
  memory = d.memory;
  words = d.words;
  lines_low = d.lines_low;
  lines_high = d.lines_high;
  tables = d.tables;
  boards_high = omega (arith, d.boards_high, length-append s.boards (b ∷ []));
  boards =
      All-weaker (BoardFits (with_board s b)) (BoardFits s)
      (λ x h. record { number_low = h.number_low; number_high = h.number_high; table = h.table; shape = h.shape })
      s.boards (all_before (BoardFits (with_board s b)) s.boards b d.boards);
  numbers = pairs_before (λ (a c : BoardSpec). a.number ≢ c.number) s.boards b d.numbers;
  scripts = omega (arith, d.scripts, length-append s.boards (b ∷ []), length-append s.scripts ([] ∷ []));
  addresses = all_before (All (λ access. address_of access < length s.memory)) s.scripts [] d.addresses;
  accesses = omega (arith, d.accesses, sum_by_push (λ (script : List Access). length script) s.scripts []);
}

-- ---- one access less

pub access_before :
    (s : Setup) (front : List (List Access)) (script : List Access) (access : Access) → s.scripts ≡ front ++ script ∷ []
    → (d : IsDraft (record s { scripts = front ++ (script ++ access ∷ []) ∷ [] }))
    → IsDraft s × (access_count s < 100000) × (address_of access < length s.memory)
access_before s front script access is d =
    let total : sum_by (λ (x : List Access). length x) s.scripts
    ≡ sum_by (λ (x : List Access). length x) front + length script =
    ap (λ (x : List (List Access)). sum_by (λ (x : List Access). length x) x) is
    ∙ sum_by_push (λ (x : List Access). length x) front script in
    let more : sum_by (λ (x : List Access). length x) (front ++ (script ++ access ∷ []) ∷ [])
    ≡ sum_by (λ (x : List Access). length x) front + length (script ++ access ∷ []) =
    sum_by_push (λ (x : List Access). length x) front (script ++ access ∷ []) in
    let longer : length (script ++ access ∷ []) ≡ length script + 1 = length-append script (access ∷ []) in
    let limit : access_count (record s { scripts = front ++ (script ++ access ∷ []) ∷ [] }) ≤ 100000 = d.accesses in
    let all_of =
    all_before (All (λ access. address_of access < length s.memory)) front (script ++ access ∷ []) d.addresses in
    let last =
    all_last (All (λ access. address_of access < length s.memory)) front (script ++ access ∷ []) d.addresses in
    let scripts : length (front ++ (script ++ access ∷ []) ∷ []) ≡ length s.boards = d.scripts in
    let P : List (List Access) → Type 0 = All (All (λ access. address_of access < length s.memory)) in (
      record {
        memory = d.memory;
        words = d.words;
        lines_low = d.lines_low;
        lines_high = d.lines_high;
        tables = d.tables;
        boards_high = d.boards_high;
        boards =
            All-weaker (BoardFits (record s { scripts = front ++ (script ++ access ∷ []) ∷ [] })) (BoardFits s)
            (λ x h. record { number_low = h.number_low; number_high = h.number_high; table = h.table; shape = h.shape })
            s.boards d.boards;
        numbers = d.numbers;
        scripts =
            omega (
              arith,
              scripts,
              ap (λ (x : List (List Access)). length x) is,
              length-append front (script ∷ []),
              length-append front ((script ++ access ∷ []) ∷ []),
            );
        addresses =
            subst P (sym is) (All-push (All (λ access. address_of access < length s.memory)) front script all_of
            (all_before (λ access. address_of access < length s.memory) script access last));
        accesses = omega arith;
      },
      omega arith,
      all_last (λ access. address_of access < length s.memory) script access last,
    )

-- the last script of lists that end so
pub access_at_end :
    (front : List (List Access)) (script : List Access) (access : Access)
    → access_added (front ++ script ∷ []) access ≡ front ++ (script ++ access ∷ []) ∷ []
access_at_end front script access =
    let count : length (front ++ script ∷ []) - 1 ≡ length front = omega (arith, length-append front (script ∷ [])) in
    ap (λ (n : ℕ). set (front ++ script ∷ []) n (get_or (front ++ script ∷ []) n [] ++ access ∷ [])) count ∙ at front
  where
    at :
        (front : List (List Access))
        → set (front ++ script ∷ []) (length front) (get_or (front ++ script ∷ []) (length front) [] ++ access ∷ [])
        ≡ front ++ (script ++ access ∷ []) ∷ []
    at [] = refl
    at (x ∷ front) = ap (λ (v : List (List Access)). x ∷ v) (at front)
