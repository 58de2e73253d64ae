-- The rule holds when two views are joined, and what it says of the view of all seats.
use Rattle.std.proofs.Common.{◌≡◌, ◌≢◌, ℕ, false, List, length, set, sym, ap, ◌∙◌, subst, ⊎_elim, inl, inr, arith, Option, Some, true≢false, length-append}
use Rattle.std.proofs.lemmas.Option.{none-some}
use mathlib.Core.Option.{some, some-injective, some-ne-none}
use mathlib.Core.Logic.{dite}
use native.Mathlib.Decide.{ℕ_discrete}
use lib.ListN.{get_elem?}
use Rattle.atomic_table.specs.Table.{State, Joins, Final, Seen}
use Rattle.atomic_table.proofs.Lists.{set_else}
use Rattle.ruled_turn.specs.declared.view.Account.{Account}
use Rattle.ruled_turn.specs.declared.view.View.{View}
use Rattle.ruled_turn.specs.declared.view.Opening.{Opening}
use Rattle.ruled_turn.specs.Entries.{of, GoesOn, GoesOnBySeats}
use Rattle.ruled_turn.specs.Views.{idle, together, spent}
use Rattle.ruled_turn.specs.Rule.{tickets, marks, turns, seats, AccountOk, ViewOk, IsHome, IsOut, InTurn}
use Rattle.ruled_turn.proofs.Totals.{total_set, total_append, total_two}
use Rattle.ruled_turn.proofs.Members.{at_either}
use Rattle.ruled_turn.proofs.Changed.{moves, moves_here, moves_else}
use Rattle.ruled_turn.proofs.Steps.{each, out_stays}

module _ {M B E : Type 0} (base : M → B) (entries : M → List (ℕ × E)) (key : Opening M) where
  abbrev V : Type 0
  V = View B E

  abbrev St : Type 0
  St = State (Option M) V

  -- The accounts of the view `other` go to the view id.
  pub gathers :
      (id : ℕ) (v : V) (other : ℕ) (u : V) → v ≡ idle (Some (base key.value.value)) v.accounts
      → u ≡ idle u.base u.accounts → Joins (InTurn base entries key) id v other u (together v u) spent
  gathers id v other u is_v is_u s r at apart at_u =
      let w : V = together v u in
      let vs : List V = set s.views id w in
      let at' : get_elem? s.views other ≡ some u = sym (set_else s.views id other w apart) ∙ at_u in
      let ok = r.each_view id v at in let ok' = r.each_view other u at' in let owner : ℕ → ℕ = moves r.owner other id in
      let no_value : v.holds ≡ false = ap (λ (z : V). z.holds) is_v in
      let no_value' : u.holds ≡ false = ap (λ (z : V). z.holds) is_u in
      let kept : (j : ℕ) (b : Account E) → j ≢ other → AccountOk base entries key r.history r.owner j b
      → AccountOk base entries key r.history owner j b =
      λ j b away q.
      record {
        numbered = q.numbered;
        owned = moves_else r.owner other id b.number (λ e. away (sym q.owned ∙ e)) ∙ q.owned;
        seen = q.seen;
        mine = q.mine;
        turns = q.turns;
      } in
      record {
        ticket = r.ticket;
        serving = r.serving;
        history = r.history;
        owner = owner;
        taker = r.taker;
        words = r.words;
        small = r.small;
        waiting =
            (let h = total_set tickets s.views id v w at in
            let h' = total_set tickets vs other u spent at_u in
            let z = ap (λ (x : V). tickets x) is_v in
            let z' = ap (λ (x : V). tickets x) is_u in let y = r.waiting in omega arith);
        made =
            (let h = total_set turns s.views id v w at in
            let h' = total_set turns vs other u spent at_u in
            let p = total_append (λ (b : Account E). b.turns) u.accounts v.accounts in let y = r.made in omega arith);
        all_seats =
            (let h = total_set seats s.views id v w at in
            let h' = total_set seats vs other u spent at_u in
            let p = length-append u.accounts v.accounts in let y = r.all_seats in omega arith);
        counted =
            (let h = total_set marks s.views id v w at in
            let h' = total_set marks vs other u spent at_u in
            let z = ap (λ (x : V). marks x) is_v in
            let z' = ap (λ (x : V). marks x) is_u in let y = r.counted in omega arith);
        past = r.past;
        each_view =
            each base entries key (ViewOk base entries key r.ticket r.serving r.history owner r.taker s.homes) vs other
            spent
            record {
              based = λ l. absurd (omega arith);
              accounts = λ k b found. absurd (some-ne-none b (sym found));
              drew = λ t is. absurd (none-some t is);
              holds = λ is. absurd (true≢false (sym is));
              entered = λ is. absurd (true≢false (sym is));
            }
            (λ j x away found.
            each base entries key
            (λ i z. i ≢ other → ViewOk base entries key r.ticket r.serving r.history owner r.taker s.homes i z)
            s.views id w
            (λ _. record {
              based = λ _. ap (λ (z : V). z.base) is_v;
              accounts = λ k b found'. ⊎_elim
                  (λ (t : (i : ℕ) × (get_elem? u.accounts i ≡ some b)). let q = ok'.accounts t.0 b t.1 in
                  record {
                    numbered = q.numbered;
                    owned = moves_here r.owner other id b.number q.owned;
                    seen = q.seen;
                    mine = q.mine;
                    turns = q.turns;
                  })
                  (λ (t : (i : ℕ) × (get_elem? v.accounts i ≡ some b)).
                  kept id b (λ e. apart (sym e)) (ok.accounts t.0 b t.1))
                  (at_either u.accounts v.accounts b k found');
              drew = λ t is. absurd (none-some t is);
              holds = λ is. absurd (true≢false (sym is));
              entered = λ is. absurd (true≢false (sym is));
            })
            (λ i z not_id found' not_other. let q = r.each_view i z found' in record {
              based = q.based;
              accounts = λ k b here. kept i b not_other (q.accounts k b here);
              drew = q.drew;
              holds = q.holds;
              entered = q.entered;
            }) j x found away);
        place = ⊎_elim (λ (h : IsHome base entries key r.history s.homes). inl h)
            (λ (p : IsOut base entries key s.homes s.views).
            inr (out_stays base entries key s.homes vs other u spent at_u
            (λ is. absurd (true≢false (sym is ∙ no_value')))
            (out_stays base entries key s.homes s.views id v w at (λ is. absurd (true≢false (sym is ∙ no_value))) p)))
            r.place;
      }

  -- What the view of all seats says of the value.
  pub record Whole (v : V) (value : M) : Type 0 where
    pub based : base value ≡ base key.value.value
    pub accounts :
        (k : ℕ) (a : Account E) → get_elem? v.accounts k ≡ some a
        → GoesOn a.seen (entries value) × (a.mine ≡ of a.number (entries value))
    pub past : GoesOnBySeats key.seats (entries key.value.value) (entries value)

  pub ends :
      (id : ℕ) (v : V) → v.holds ≡ false → length v.accounts ≡ key.seats → (s : St) → InTurn base entries key s
      → get_elem? s.views id ≡ some v
      → (value : M) × (get_elem? s.homes 0 ≡ some (some (Some value))) × Whole v value
  ends id v no_value full s r at = ⊎_elim
      (λ (h : IsHome base entries key r.history s.homes). let value : M = h.0 in (
        value,
        ap (λ hs. get_elem? hs 0) h.1,
        record {
          based = h.3;
          accounts = λ k a found. let q = (r.each_view id v at).accounts k a found in (
            subst (λ (l : List (ℕ × E)). GoesOn a.seen l) (sym h.2) q.seen,
            q.mine ∙ ap (of a.number) (sym h.2),
          );
          past = (r.past.0, h.2 ∙ r.past.1, r.past.2);
        },
      ))
      (λ (p : IsOut base entries key s.homes s.views).
      let j : ℕ = p.1.0 in
      let u : V = p.1.1 in
      let ok = r.each_view j u p.1.2 in let some_seat = (ok.drew r.serving (ok.holds p.1.3).0).3 in
      dite (ℕ_discrete j id)
      (λ same.
      absurd (true≢false (sym p.1.3
      ∙ (ap (λ (z : V). z.holds) (some-injective u v (sym p.1.2 ∙ (ap (get_elem? s.views) same ∙ at)))
      ∙ no_value))))
      (λ other. let h = total_two seats s.views j id u v other p.1.2 at in let y = r.all_seats in absurd (omega arith)))
      r.place

  -- What the table gives back when it is closed with that view.
  pub comes_back :
      (id : ℕ) (v : V) (words : List ℕ) (slots : List (Option M)) (x : Option M) → v.holds ≡ false
      → length v.accounts ≡ key.seats → Final (Seen (InTurn base entries key) id v) words slots
      → get_elem? slots 0 ≡ some x
      → (value : M) × (x ≡ Some value) × Whole v value
  comes_back id v words slots x no_value full last at = let e = ends id v no_value full last.0 last.1.0 last.1.1 in
      (e.0, some-injective x (Some e.0) (sym at ∙ last.4 0 (Some e.0) e.1), e.2)

-- An idle view by its own accounts.
pub idle_itself :
    {B E : Type 0} (b : Option B) (v : View B E) (accounts : List (Account E)) → v ≡ idle b accounts
    → v ≡ idle b v.accounts
idle_itself b v accounts e = e ∙ ap (λ l. idle b l) (sym (ap (λ (z : View _ _). z.accounts) e))
