-- What each step of a turn tells the seat that makes it.
use Rattle.std.specs.Prelude.{◌≡◌, ◌≢◌, ℕ, List, [], ◌∷◌, Option, Some}
use Rattle.atomic_table.specs.Table.{Me, Step}
use Rattle.ruled_turn.specs.declared.view.View.{View}
use Rattle.ruled_turn.specs.Entries.{of, GoesOn}
use Rattle.ruled_turn.specs.Views.{seen_by, mine_of, number_of, with_ticket, with_value, with_entry, without_value, without_ticket}

-- What is known of a seat: its view, and the slots that it holds.
abbrev pub Stand : Type 0 → Type 0 → Type 0 → Type 0
Stand M B E = Me (Option M) (View B E)

module _ {M B E : Type 0} where
  -- The number that was in the word is the ticket.
  abbrev pub drawn : Step (Option M) → Stand M B E → ℕ → Stand M B E → Type 0
  drawn st m n m' = m' ≡ (with_ticket n m.0, m.1)

  -- Where it is the ticket's turn, the seat has the value, whose list goes on from what it had seen
  -- and has its own
  -- entries; where it is not, nothing is known.
  abbrev pub looked :
      (M → B) → (M → List (ℕ × E)) → Step (Option M) → Stand M B E → ℕ → Stand M B E → Type 0
  looked base entries st m n m' =
      (m.0.ticket ≡ Some n
      → (value : M) × (m' ≡ (with_value (entries value) m.0, (0, Some value) ∷ []))
      × (m.0.base ≡ Some (base value))
      × GoesOn (seen_by m.0) (entries value) × (mine_of m.0 ≡ of (number_of m.0) (entries value)))
      × (m.0.ticket ≢ Some n → m' ≡ m)

  -- The list of the value in hand is the history.
  abbrev pub entered : (M → List (ℕ × E)) → Step (Option M) → Stand M B E → ℕ → Stand M B E → Type 0
  entered entries st m n m' =
      (value : M) → m.1 ≡ (0, Some value) ∷ [] → m' ≡ (with_entry (entries value) m.0, m.1)

  -- The slot is given back.
  abbrev pub gave : Step (Option M) → Stand M B E → ℕ → Stand M B E → Type 0
  gave st m n m' = m' ≡ (without_value m.0, [])

  -- The ticket is done with.
  abbrev pub left : Step (Option M) → Stand M B E → ℕ → Stand M B E → Type 0
  left st m n m' = m' ≡ (without_ticket m.0, m.1)
