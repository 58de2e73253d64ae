-- What contracts see of a ruled value and of its seats.
use Rattle.std.specs.Prelude.{◌≡◌, ℕ, ◌+◌, ◌-◌, List, Some}
use Rattle.ruled_turn.specs.declared.turned.Turned.{Ghosts}
use Rattle.ruled_turn.specs.declared.view.Account.{Account}
use Rattle.ruled_turn.specs.declared.view.View.{View}
use Rattle.ruled_turn.specs.declared.ruled.Ruled.{Ruled}
use Rattle.ruled_turn.specs.declared.ruled.BoardSeat.{BoardSeat}
use Rattle.ruled_turn.specs.Entries.{of}
use Rattle.ruled_turn.specs.Views.{account, idle, fresh, seen_by, mine_of}

module _ {M B E A : Type 0} where
  -- The value that was given.
  abbrev pub given : Ruled M B E A → M
  given r = r.table.shared.key.value.value

  -- How many seats there are.
  abbrev pub seats_of : Ruled M B E A → ℕ
  seats_of r = r.table.shared.key.seats

  -- The number under which the seat makes its turns.
  abbrev pub number : {g : Ghosts M B E A} → BoardSeat M B E A g → ℕ
  number s = s.number

  -- How many turns the seat has made.
  abbrev pub turns : {g : Ghosts M B E A} → BoardSeat M B E A g → ℕ
  turns s = s.turns

  -- The list of the value at the seat's last turn, or at the start where it has made none.
  abbrev pub seen : {g : Ghosts M B E A} → BoardSeat M B E A g → List (ℕ × E)
  seen s = seen_by s.place.me.0

  -- The entries that the seat made, with those of its number at the start.
  abbrev pub mine : {g : Ghosts M B E A} → BoardSeat M B E A g → List (ℕ × E)
  mine s = mine_of s.place.me.0

  -- The account that the seat's view has.
  abbrev pub account_of : {g : Ghosts M B E A} → BoardSeat M B E A g → Account E
  account_of s = account s.number (seen s) (mine s) s.turns

  -- The seat is one of this ruled value, and the value's base admits its number.
  pub record IsSeatOf {g : Ghosts M B E A} (base : M → B) (admits : B → ℕ → Type 0)
      (r : Ruled M B E A) (s : BoardSeat M B E A g) : Type 0 where
    pub table : s.place.table_id ≡ r.table.shared.table_id
    pub based : s.place.me.0.base ≡ Some (base (given r))
    pub admitted : admits (base (given r)) s.number

  -- The seat n as it is made: it has seen the start, its own entries are those of its number in it,
  -- and it has made no
  -- turn.
  abbrev pub IsNew :
      {g : Ghosts M B E A} → (M → List (ℕ × E)) → Ruled M B E A → ℕ → BoardSeat M B E A g → Type 0
  IsNew entries r n s =
      (s.number ≡ n) × (seen s ≡ entries (given r)) × (mine s ≡ of n (entries (given r)))
      × (s.turns ≡ 0)

  -- The view that stands for the seats from n on, which are not dealt yet.
  abbrev pub undealt : (M → B) → (M → List (ℕ × E)) → Ruled M B E A → ℕ → View B E
  undealt base entries r n =
      idle (Some (base (given r))) (fresh (entries (given r)) n (seats_of r + 1 - n))
