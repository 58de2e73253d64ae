-- The counts of boards, filled board by board.
use Rattle.std.proofs.Common.{◌≡◌, ℕ, ◌+◌, ◌-◌, ◌<◌, ◌≤◌, List, length, get_or, set, sym, ap, ◌∙◌, subst, arith}
use Rattle.std.proofs.lemmas.List.Edits.{fill_by_more}
use Rattle.table_library.specs.declared.counts.Counts.{Counts}
use Rattle.table_library.specs.Traffic.{no_counts}

pub boards_more :
    (f : ℕ → Counts) (xs : List Counts) (i : ℕ) (x : Counts) → i < length xs → x ≡ f i
    → ((k : ℕ) → k < i → get_or xs k no_counts ≡ f k) → (k : ℕ) → k < i + 1
    → get_or (set xs i x) k no_counts ≡ f k
boards_more f xs i x within is was k below =
    subst (λ (y : Counts). get_or (set xs i y) k no_counts ≡ f k) (sym is)
    (fill_by_more f xs i no_counts within was k below)

pub board_at :
    (f : ℕ → Counts) (xs : List Counts) (n : ℕ) → ((k : ℕ) → k < n → get_or xs k no_counts ≡ f (k + 1))
    → (board : ℕ) → 1 ≤ board → board ≤ n → get_or xs (board - 1) no_counts ≡ f board
board_at f xs n each board first last =
    let place : (board - 1) + 1 ≡ board = omega (arith, first) in
    each (board - 1) (omega (arith, first, last)) ∙ ap f place
