-- What a view is at each point of a turn, and how views are split and joined.
use Rattle.std.specs.Prelude.{ℕ, zero, suc, ◌+◌, Bool, true, false, List, [], ◌∷◌, ◌++◌, Option, Some, None}
use Rattle.ruled_turn.specs.declared.view.Account.{Account}
use Rattle.ruled_turn.specs.declared.view.View.{View}
use Rattle.ruled_turn.specs.Entries.{of}

-- The sum of f over a list.
abbrev pub total : {A : Type 0} → (A → ℕ) → List A → ℕ
total f [] = 0
total f (x ∷ xs) = f x + total f xs

module _ {E : Type 0} where
  -- The account of a seat.
  abbrev pub account : ℕ → List (ℕ × E) → List (ℕ × E) → ℕ → Account E
  account n seen mine turns = record { number = n; seen = seen; mine = mine; turns = turns }

  -- The accounts of `many` seats from n on, none of which has made a turn.
  abbrev pub fresh : List (ℕ × E) → ℕ → ℕ → List (Account E)
  fresh start n zero = []
  fresh start n (suc many) = account n start (of n start) 0 ∷ fresh start (n + 1) many

  -- The accounts with the first one changed.
  abbrev pub amend : (Account E → Account E) → List (Account E) → List (Account E)
  amend f [] = []
  amend f (a ∷ more) = f a ∷ more

  -- What the first seat has seen.
  abbrev pub first_seen : List (Account E) → List (ℕ × E)
  first_seen [] = []
  first_seen (a ∷ more) = a.seen

  -- The entries that the first seat made.
  abbrev pub first_mine : List (Account E) → List (ℕ × E)
  first_mine [] = []
  first_mine (a ∷ more) = a.mine

  -- The number of the first seat.
  abbrev pub first_number : List (Account E) → ℕ
  first_number [] = 0
  first_number (a ∷ more) = a.number

  -- How many turns the first seat has made.
  abbrev pub first_turns : List (Account E) → ℕ
  first_turns [] = 0
  first_turns (a ∷ more) = a.turns

  -- The first account alone.
  abbrev pub front : List (Account E) → List (Account E)
  front [] = []
  front (a ∷ more) = a ∷ []

  -- The accounts after the first.
  abbrev pub behind : List (Account E) → List (Account E)
  behind [] = []
  behind (a ∷ more) = more

-- One for a ticket, and nothing for none.
abbrev pub count_some : Option ℕ → ℕ
count_some None = 0
count_some (Some t) = 1

-- One for a mark, and nothing for none.
abbrev pub count_true : Bool → ℕ
count_true true = 1
count_true false = 0

module _ {B E : Type 0} where
  -- What the seat of a view has seen.
  abbrev pub seen_by : View B E → List (ℕ × E)
  seen_by v = first_seen v.accounts

  -- The entries that the seat of a view made.
  abbrev pub mine_of : View B E → List (ℕ × E)
  mine_of v = first_mine v.accounts

  -- The number of the seat of a view.
  abbrev pub number_of : View B E → ℕ
  number_of v = first_number v.accounts

  -- How many turns the seat of a view has made.
  abbrev pub turns_of : View B E → ℕ
  turns_of v = first_turns v.accounts

  -- A view between turns.
  abbrev pub idle : Option B → List (Account E) → View B E
  idle b accounts =
      record { base = b; accounts = accounts; ticket = None; holds = false; entered = false }

  -- The view of one seat between turns.
  abbrev pub resting : ℕ → ℕ → View B E → View B E
  resting n turns v = idle v.base (account n (seen_by v) (mine_of v) turns ∷ [])

  -- The view of one seat that has a ticket and waits for its turn.
  abbrev pub waiting : ℕ → View B E → View B E
  waiting t v =
      record {
        base = v.base;
        accounts = account (number_of v) (seen_by v) (mine_of v) (turns_of v) ∷ [];
        ticket = Some t;
        holds = false;
        entered = false;
      }

  -- The view of one seat after one turn more, which left this list.
  abbrev pub with_turn : ℕ → List (ℕ × E) → View B E → View B E
  with_turn n list v = idle v.base (account n list (of n list) (turns_of v + 1) ∷ [])

  -- A ticket is drawn, and the seat has one turn more.
  abbrev pub with_ticket : ℕ → View B E → View B E
  with_ticket t v =
      record v
      { ticket = Some t; accounts = amend (λ a. record a { turns = a.turns + 1 }) v.accounts }

  -- The value is taken, and the seat has seen its list.
  abbrev pub with_value : List (ℕ × E) → View B E → View B E
  with_value list v =
      record v { holds = true; accounts = amend (λ a. record a { seen = list }) v.accounts }

  -- The turn has entered: the seat has seen this list, and the entries of its number in it are its
  -- own.
  abbrev pub with_entry : List (ℕ × E) → View B E → View B E
  with_entry list v =
      record v {
        entered = true;
        accounts = amend (λ a. record a { seen = list; mine = of a.number list }) v.accounts;
      }

  -- The value is given back.
  abbrev pub without_value : View B E → View B E
  without_value v = record v { holds = false }

  -- The ticket is done with.
  abbrev pub without_ticket : View B E → View B E
  without_ticket v = record v { ticket = None; entered = false }

  -- The first seat alone, as a split takes it out.
  abbrev pub first_part : View B E → View B E
  first_part v = idle v.base (front v.accounts)

  -- The other seats, as a split leaves them.
  abbrev pub other_part : View B E → View B E
  other_part v = idle v.base (behind v.accounts)

  -- The seats of both views, as a join puts them together.
  abbrev pub together : View B E → View B E → View B E
  together v w = idle v.base (w.accounts ++ v.accounts)

  -- What a join leaves of the other view: it stands for no seat.
  abbrev pub spent : View B E
  spent = idle None []
