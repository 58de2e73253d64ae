-- The lines of a report are those of its journal.
use Rattle.std.proofs.Common.{◌≡◌, ◌≤◌, ◌+◌, ◌∙◌, ℕ, zero, suc, List, [], ◌∷◌, ◌++◌, codes, decimal, ap, sym, subst, append_assoc, refl, arith}
use Rattle.table_library.specs.declared.counts.Counts.{Counts}
use Rattle.table_library.specs.Lines.{board_line, board_lines, memory_line}

-- Boards with the same counts have the same lines.
pub same_lines :
    (f g : ℕ → Counts) (boards : ℕ) → ((board : ℕ) → 1 ≤ board → board ≤ 16 → f board ≡ g board) → boards ≤ 16
    → board_lines f boards ≡ board_lines g boards
same_lines f g zero same most = refl
same_lines f g (suc boards) same most =
    rw (same_lines f g boards same (omega (arith, most)), same (suc boards) (omega arith) most) refl

-- Two pieces that are appended one after the other are appended at once.
pub two_pieces :
    (old a b p q : List ℕ) → a ≡ old ++ p → b ≡ a ++ q → b ≡ old ++ (p ++ q)
two_pieces old a b p q first next =
    next ∙ ap (λ (z : List ℕ). z ++ q) first ∙ append_assoc old p q

-- The line of one more board after those of the boards before it.
pub more_lines :
    (f : ℕ → Counts) (place : ℕ) (counts : Counts) (old was now : List ℕ) → was ≡ old ++ board_lines f place
    → now ≡ was ++ board_line (place + 1) counts → counts ≡ f (place + 1) → now ≡ old ++ board_lines f (place + 1)
more_lines f place counts old was now before line same =
    let one : place + 1 ≡ suc place = omega arith in
    subst (λ (n : ℕ). now ≡ old ++ board_lines f n) (sym one)
    (two_pieces old was now (board_lines f place) (board_line (suc place) (f (suc place))) before
    (subst (λ (n : ℕ). now ≡ was ++ board_line n (f n)) one
    (line ∙ ap (λ (k : Counts). was ++ board_line (place + 1) k) same)))

-- Six pieces are appended at once too.
pub six_pieces :
    (old a b c d e f p q r s t u : List ℕ) → a ≡ old ++ p → b ≡ a ++ q → c ≡ b ++ r → d ≡ c ++ s
    → e ≡ d ++ t → f ≡ e ++ u → f ≡ old ++ (p ++ (q ++ (r ++ (s ++ (t ++ u)))))
six_pieces old a b c d e f p q r s t u one two three four five six =
    two_pieces old a f p (q ++ (r ++ (s ++ (t ++ u)))) one
    (two_pieces a b f q (r ++ (s ++ (t ++ u))) two
    (two_pieces b c f r (s ++ (t ++ u)) three
    (two_pieces c d f s (t ++ u) four (two_pieces d e f t u five six))))

-- The line of a board in six pieces.
pub board_pieces :
    (board : ℕ) (k : Counts)
    → codes "traffic " ++ (decimal board
    ++ ((32 ∷ (codes "connects" ++ 32 ∷ decimal k.connects))
    ++ ((32 ∷ (codes "words" ++ 32 ∷ decimal k.words))
    ++ ((32 ∷ (codes "local" ++ 32 ∷ decimal k.local))
    ++ 32 ∷ (codes "served" ++ 32 ∷ (decimal k.served
    ++ 32 ∷ (codes "took" ++ 32 ∷ (decimal k.took ++ 10 ∷ []))))))))
    ≡ board_line board k
board_pieces board k = simp append_assoc refl

-- The line of memory in two.
pub memory_pieces :
    (served took : ℕ)
    → codes "traffic memory"
    ++ 32 ∷ (codes "served" ++ 32 ∷ (decimal served ++ 32 ∷ (codes "took" ++ 32 ∷ (decimal took ++ 10 ∷ []))))
    ≡ memory_line (served, took)
memory_pieces served took = simp append_assoc refl
