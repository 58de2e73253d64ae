-- The marks of the boards that have raised a request, and of those that were served.
use Rattle.std.proofs.Common.{◌≡◌, ℕ, zero, suc, ◌-◌, ◌≤◌, Bool, true, false, List, [], ◌∷◌, length, map, replicate, set, get_or, refl, sym, ◌∙◌, arith}
use Rattle.std.specs.Prelude.{slice_index_or, slice_set}
use Rattle.bus_model.specs.Places.{change_index, change_place}
use Rattle.bus_model.specs.Events.{Answer}
use Rattle.bus_model.specs.Configuration.{Progress, is_raised, is_served}
use Rattle.bus_model.specs.Effects.{asking, spent, answered}
use Rattle.backplane.specs.Parts.{MarksFit, ServedFit}

pub read-index :
    (boards : List Progress) (marks : List Bool) (k : ℕ) → MarksFit boards marks → suc k ≤ length boards
    → get_or marks k false ≡ is_raised boards (suc k)
read-index [] marks k fit l = absurd (omega arith)
read-index (p ∷ boards) [] k fit l = absurd fit
read-index (p ∷ boards) (m ∷ marks) zero fit l = fit.0
read-index (p ∷ boards) (m ∷ marks) (suc k) fit l = read-index boards marks k fit.1 (omega arith)

-- The mark of a board says whether it has raised a request.
pub mark-read :
    (boards : List Progress) (marks : List Bool) (b : ℕ) → MarksFit boards marks → 1 ≤ b → b ≤ length boards
    → slice_index_or marks (b - 1) false ≡ is_raised boards b
mark-read boards marks zero fit low high = absurd (omega arith)
mark-read boards marks (suc k) fit low high =
    let same : suc k - 1 ≡ k = omega arith in rw same (read-index boards marks k fit high)

set-mark :
    (raised : Bool) (boards : List Progress) (marks : List Bool) (k : ℕ) → MarksFit boards marks
    → MarksFit (change_index (asking raised) boards k) (set marks k raised)
set-mark raised [] marks k fit = tt
set-mark raised (p ∷ boards) [] k fit = absurd fit
set-mark raised (p ∷ boards) (m ∷ marks) zero fit = (refl, fit.1)
set-mark raised (p ∷ boards) (m ∷ marks) (suc k) fit = (fit.0, set-mark raised boards marks k fit.1)

-- A request that is raised or lowered.
pub mark-set :
    (raised : Bool) (boards : List Progress) (marks : List Bool) (b : ℕ) → 1 ≤ b → MarksFit boards marks
    → MarksFit (change_place (asking raised) boards b) (slice_set marks (b - 1) raised)
mark-set raised boards marks zero low fit = absurd (omega arith)
mark-set raised boards marks (suc k) low fit =
    let same : suc k - 1 ≡ k = omega arith in rw same (set-mark raised boards marks k fit)

kept-mark :
    (f : Progress → Progress) → ((p : Progress) → (f p).raised ≡ p.raised)
    → (boards : List Progress) (marks : List Bool) (k : ℕ) → MarksFit boards marks
    → MarksFit (change_index f boards k) marks
kept-mark f e [] marks k fit = tt
kept-mark f e (p ∷ boards) [] k fit = absurd fit
kept-mark f e (p ∷ boards) (m ∷ marks) zero fit = (fit.0 ∙ sym (e p), fit.1)
kept-mark f e (p ∷ boards) (m ∷ marks) (suc k) fit = (fit.0, kept-mark f e boards marks k fit.1)

-- What changes no request.
pub mark-kept :
    (f : Progress → Progress) → ((p : Progress) → (f p).raised ≡ p.raised)
    → (boards : List Progress) (marks : List Bool) (b : ℕ) → MarksFit boards marks
    → MarksFit (change_place f boards b) marks
mark-kept f e boards marks zero fit = fit
mark-kept f e boards marks (suc k) fit = kept-mark f e boards marks k fit

-- Answers change no request.
pub marks-answered :
    (answers : List Answer) (boards : List Progress) (marks : List Bool) → MarksFit boards marks
    → MarksFit (answered boards answers) marks
marks-answered [] boards marks fit = fit
marks-answered (a ∷ rest) boards marks fit =
    marks-answered rest (change_place spent boards a.board) marks (mark-kept spent (λ p. refl) boards marks a.board fit)

-- ---- the boards that were served

pub served-index :
    (served marks : List Bool) (k : ℕ) → ServedFit served marks → suc k ≤ length served
    → get_or marks k false ≡ is_served served (suc k)
served-index [] marks k fit l = absurd (omega arith)
served-index (s ∷ served) [] k fit l = absurd fit
served-index (s ∷ served) (m ∷ marks) zero fit l = fit.0
served-index (s ∷ served) (m ∷ marks) (suc k) fit l = served-index served marks k fit.1 (omega arith)

set-served :
    (served marks : List Bool) (k : ℕ) → ServedFit served marks
    → ServedFit (change_index (λ mark. true) served k) (set marks k true)
set-served [] marks k fit = tt
set-served (s ∷ served) [] k fit = absurd fit
set-served (s ∷ served) (m ∷ marks) zero fit = (refl, fit.1)
set-served (s ∷ served) (m ∷ marks) (suc k) fit = (fit.0, set-served served marks k fit.1)

-- A board that is served.
pub served-set :
    (served marks : List Bool) (b : ℕ) → 1 ≤ b → ServedFit served marks
    → ServedFit (change_place (λ mark. true) served b) (slice_set marks (b - 1) true)
served-set served marks zero low fit = absurd (omega arith)
served-set served marks (suc k) low fit =
    let same : suc k - 1 ≡ k = omega arith in rw same (set-served served marks k fit)

-- All marks are cleared.
pub served-cleared :
    (served : List Bool) (n : ℕ) → length served ≤ n → ServedFit (map (λ mark. false) served) (replicate n false)
served-cleared [] n l = tt
served-cleared (s ∷ served) zero l = absurd (omega arith)
served-cleared (s ∷ served) (suc n) l = (refl, served-cleared served n (omega arith))
