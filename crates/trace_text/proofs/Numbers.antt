-- Numbers are read exactly where they are spelled and in range.
use Rattle.std.proofs.Common.{◌≡◌, ℕ, ◌<◌, ◌≤◌, ◌^◌, Bool, true, false, cond, ltb, leb, List, [], ◌∷◌, Option, Some, None, refl, arith}
use Rattle.std.specs.Prelude.{decimal}
use Rattle.std.specs.List.{AllByRecursion}
use Rattle.std.specs.Char.{digit_value}
use Rattle.std.specs.Str.Parse.{AllDigits}
use Rattle.std.proofs.lemmas.Bool.{ltb-true, ltb-false, leb-true, le-leb}
use Rattle.std.proofs.lemmas.Fmt.{decimal_is_IsNumeral}
use Rattle.std.proofs.lemmas.Str.{digit_value_digit}
use Rattle.std.proofs.lemmas.Str.Parse.{digit_from_value}
use Rattle.fb_text.specs.Number.{number_of}
use Rattle.fb_text.proofs.Decimal.{number_again, number_is}
use Rattle.trace_text.specs.Reading.{fitting, number_between, board_of}
use Rattle.trace_text.specs.Ranges.{IsBoard}
use Rattle.trace_text.proofs.Binds.{some_same}

fitting_is :
    (least most : ℕ) (o : Option ℕ) (n : ℕ) → fitting least most o ≡ Some n → (o ≡ Some n) × (least ≤ n) × (n ≤ most)
fitting_is least most None n e = absurd cc
fitting_is least most (Some m) n e = go (leb m most) (ltb m least) refl refl e
  where
    go :
        (a b : Bool) → leb m most ≡ a → ltb m least ≡ b → cond a (cond b None (Some m)) None ≡ Some n
        → (Some m ≡ Some n) × (least ≤ n) × (n ≤ most)
    go true true h k e = absurd cc
    go true false h k e =
        let same : m ≡ n = some_same m n e in let high = leb-true m most h in let low = ltb-false m least k in
        (e, omega arith, omega arith)
    go false b h k e = absurd cc

pub number_between_is :
    (least most : ℕ) (w : List ℕ) (n : ℕ) → most < 2 ^ 64 → number_between least most w ≡ Some n
    → (w ≡ decimal n) × (least ≤ n) × (n ≤ most)
number_between_is least most w n small e =
    let h = fitting_is least most (number_of w) n e in (number_is w n h.0 (let k = h.2 in omega arith), h.1, h.2)

not_below : (n least : ℕ) → least ≤ n → ltb n least ≡ false
not_below n least le = go (ltb n least) refl
  where
    go : (b : Bool) → ltb n least ≡ b → b ≡ false
    go true h = absurd (let k = ltb-true n least h in omega arith)
    go false h = refl

pub number_between_again :
    (least most n : ℕ) → most < 2 ^ 64 → least ≤ n → n ≤ most → number_between least most (decimal n) ≡ Some n
number_between_again least most n small low high =
    rw (number_again n (omega arith), le-leb n most high, not_below n least low) refl

pub board_is : (w : List ℕ) (b : ℕ) → board_of w ≡ Some b → (w ≡ decimal b) × IsBoard b
board_is w b e = let h = number_between_is 1 16 w b (omega arith) e in (h.0, (h.1, h.2))

pub board_again : (b : ℕ) → IsBoard b → board_of (decimal b) ≡ Some b
board_again b h = number_between_again 1 16 b (omega arith) h.0 h.1

-- ---- the bytes of a number

abbrev pub AreDigits : List ℕ → Type 0
AreDigits w = AllByRecursion (λ b. (48 ≤ b) × (b ≤ 57)) w

digits_within : (ds : List ℕ) → AllDigits 10 ds → AreDigits ds
digits_within [] h = tt
digits_within (d ∷ ds) h =
    let e = digit_value_digit d (digit_from_value d h.0) in
    let l : digit_value d < 10 = h.0 in ((omega arith, omega arith), digits_within ds h.1)

pub decimal_digits : (n : ℕ) → n < 2 ^ 64 → AreDigits (decimal n)
decimal_digits n small = digits_within (decimal n) (decimal_is_IsNumeral n small).0.1
