-- The rule: what holds of the table and all views between any two steps.
-- Word 0 is the next ticket to be drawn, word 1 the ticket whose turn it is, and word 2 the length
-- of the history. Slot
-- 0 has the value, except while it is out with the view whose turn it is.
use Rattle.std.specs.Prelude.{◌≡◌, ◌⊎◌, ℕ, ◌+◌, ◌^◌, ◌<◌, ◌≤◌, true, List, [], ◌∷◌, length, Option, Some}
use mathlib.Core.Option.{none, some}
use mathlib.Core.Option as maybe
use lib.ListN.{get_elem?}
use Rattle.atomic_table.specs.Table.{State}
use Rattle.ruled_turn.specs.declared.view.Account.{Account}
use Rattle.ruled_turn.specs.declared.view.View.{View}
use Rattle.ruled_turn.specs.declared.view.Opening.{Opening}
use Rattle.ruled_turn.specs.Entries.{of, GoesOn, GoesOnBySeats}
use Rattle.ruled_turn.specs.Views.{total, count_some, count_true, fresh, idle}

module _ {B E : Type 0} where
  -- How many tickets a view has.
  abbrev pub tickets : View B E → ℕ
  tickets v = count_some v.ticket

  -- Whether the ticket of a view has entered, as a number.
  abbrev pub marks : View B E → ℕ
  marks v = count_true v.entered

  -- How many turns the seats of a view have made.
  abbrev pub turns : View B E → ℕ
  turns v = total (λ (a : Account E). a.turns) v.accounts

  -- How many seats a view stands for.
  abbrev pub seats : View B E → ℕ
  seats v = length v.accounts

module _ {M B E : Type 0} (base : M → B) (entries : M → List (ℕ × E)) (key : Opening M) where
  -- The slots that are at home, each with its value.
  abbrev pub Homes : Type 0
  Homes = List (maybe.Option (Option M))

  -- The list of the value that was given.
  abbrev pub start : List (ℕ × E)
  start = entries key.value.value

  -- An account tells the truth of its seat: what the seat has seen is a prefix of the history, and
  -- its own entries are
  -- those of its number. No two views have an account of one seat, since `owner` gives the view.
  pub record AccountOk (history : List (ℕ × E)) (owner : ℕ → ℕ) (j : ℕ) (a : Account E) : Type 0
    where
      pub numbered : (0 < a.number) × (a.number ≤ key.seats)
      pub owned : owner a.number ≡ j
      pub seen : GoesOn a.seen history
      pub mine : a.mine ≡ of a.number history
      pub turns : a.turns ≤ 2 ^ 40

  -- A view is true: its accounts are, its ticket is drawn and not done with, and where it has the
  -- value or has entered,
  -- the ticket is the one whose turn it is. No two views have one ticket, since `taker` gives the
  -- view.
  pub record ViewOk (ticket serving : ℕ) (history : List (ℕ × E)) (owner taker : ℕ → ℕ)
      (homes : Homes) (j : ℕ) (v : View B E) : Type 0 where
    pub based : 0 < length v.accounts → v.base ≡ Some (base key.value.value)
    pub accounts :
        (k : ℕ) (a : Account E) → get_elem? v.accounts k ≡ some a → AccountOk history owner j a
    pub drew :
        (t : ℕ) → v.ticket ≡ Some t
        → (serving ≤ t) × (t < ticket) × (taker t ≡ j) × (0 < length v.accounts)
    pub holds :
        v.holds ≡ true
        → (v.ticket ≡ Some serving) × (homes ≡ none ∷ [])
        × ((k : ℕ) (a : Account E) → get_elem? v.accounts k ≡ some a → a.seen ≡ history)
    pub entered : v.entered ≡ true → v.ticket ≡ Some serving

  -- The value is in the slot, with the history as its list and the base that was given.
  abbrev pub IsHome : List (ℕ × E) → Homes → Type 0
  IsHome history homes =
      (value : M) × (homes ≡ some (Some value) ∷ []) × (entries value ≡ history)
      × (base value ≡ base key.value.value)

  -- The value is out with one of the views.
  abbrev pub IsOut : Homes → List (View B E) → Type 0
  IsOut homes views =
      (homes ≡ none ∷ [])
      × ((j : ℕ) × (v : View B E) × (get_elem? views j ≡ some v) × (v.holds ≡ true))

  -- The rule. `history` is the list of the value, or while it is out, the list that its holder has
  -- entered.
  pub record InTurn (s : State (Option M) (View B E)) : Type 0 where
    pub ticket : ℕ
    pub serving : ℕ
    pub history : List (ℕ × E)
    pub owner : ℕ → ℕ
    pub taker : ℕ → ℕ
    pub words : s.words ≡ ticket ∷ serving ∷ length history ∷ []
    pub small : (key.seats ≤ 1024) × (length start < 2 ^ 49)
    pub waiting : ticket ≡ serving + total tickets s.views
    pub made : ticket ≡ total turns s.views
    pub all_seats : total seats s.views ≡ key.seats
    pub counted : length history ≤ length start + serving + total marks s.views
    pub past : GoesOnBySeats key.seats start history
    pub each_view :
        (j : ℕ) (v : View B E) → get_elem? s.views j ≡ some v
        → ViewOk ticket serving history owner taker s.homes j v
    pub place : IsHome history s.homes ⊎ IsOut s.homes s.views

  -- The view that stands for all seats, with which a table begins.
  abbrev pub opener : View B E
  opener = idle (Some (base key.value.value)) (fresh start 1 key.seats)
