-- The rule holds when the table is made, and when a seat is dealt.
use Rattle.std.proofs.Common.{◌≡◌, ◌≢◌, ℕ, zero, suc, ◌+◌, ◌-◌, ◌^◌, ◌<◌, ◌≤◌, false, List, [], ◌∷◌, length, set, sym, refl, ap, ◌∙◌, subst, ⊎_elim, inl, inr, arith, Option, Some, true≢false, append-nil, length-set}
use Rattle.std.proofs.lemmas.Option.{none-some}
use mathlib.Core.Option.{none, some, some-injective, some-ne-none}
use mathlib.Core.Option as maybe
use lib.ListN.{get_elem?}
use Rattle.atomic_table.specs.Table.{State, opening, Splits}
use Rattle.atomic_table.proofs.Lists.{at_longer}
use Rattle.ruled_turn.specs.declared.view.Account.{Account}
use Rattle.ruled_turn.specs.declared.view.View.{View}
use Rattle.ruled_turn.specs.declared.view.Opening.{Opening}
use Rattle.ruled_turn.specs.Entries.{of}
use Rattle.ruled_turn.specs.Views.{total, account, fresh, idle, front, behind, first_part, other_part}
use Rattle.ruled_turn.specs.Rule.{tickets, marks, turns, seats, AccountOk, ViewOk, IsHome, IsOut, InTurn, opener}
use Rattle.ruled_turn.proofs.Entries.{same_list}
use Rattle.ruled_turn.proofs.Totals.{total_set, total_append}
use Rattle.ruled_turn.proofs.Members.{alone, alone_at, at_end}
use Rattle.ruled_turn.proofs.Changed.{put, put_here, put_else}
use Rattle.ruled_turn.proofs.Steps.{each, out_stays}

module _ {E : Type 0} (start : List (ℕ × E)) where
  fresh_turns : (n many : ℕ) → total (λ (a : Account E). a.turns) (fresh start n many) ≡ 0
  fresh_turns n zero = refl
  fresh_turns n (suc many) = let h = fresh_turns (n + 1) many in omega arith

  fresh_length : (n many : ℕ) → length (fresh start n many) ≡ many
  fresh_length n zero = refl
  fresh_length n (suc many) = ap suc (fresh_length (n + 1) many)

  pub fresh_at :
      (n many k : ℕ) (a : Account E) → get_elem? (fresh start n many) k ≡ some a
      → (k < many) × (account (n + k) start (of (n + k) start) 0 ≡ a)
  fresh_at n zero k a at = absurd (some-ne-none a (sym at))
  fresh_at n (suc many) zero a at = (
    omega arith,
    ap (λ (i : ℕ). account i start (of i start) 0) (let e : n + 0 ≡ n = omega arith in e)
        ∙ some-injective (account n start (of n start) 0) a at,
  )
  fresh_at n (suc many) (suc k) a at =
      let h = fresh_at (n + 1) many k a at in (
        let l = h.0 in
            omega arith,
        ap (λ (i : ℕ). account i start (of i start) 0) (let e : n + suc k ≡ n + 1 + k = omega arith in e) ∙ h.1,
      )

module _ {M B E : Type 0} (base : M → B) (entries : M → List (ℕ × E)) (key : Opening M) where
  abbrev V : Type 0
  V = View B E

  abbrev St : Type 0
  St = State (Option M) V

  abbrev Homes : Type 0
  Homes = List (maybe.Option (Option M))

  pub opens :
      (value : M) (words : List ℕ) → key.value.value ≡ value → 0 < key.seats → key.seats ≤ 1024
      → length (entries value) < 2 ^ 49 → words ≡ 0 ∷ 0 ∷ length (entries value) ∷ []
      → InTurn base entries key (opening words (Some value ∷ []) (opener base entries key))
  opens value words is any few short laid =
      let start : List (ℕ × E) = entries key.value.value in
      let v : V = opener base entries key in
      let long : length start ≡ length (entries value) = ap (λ (m : M). length (entries m)) is in record {
        ticket = 0;
        serving = 0;
        history = start;
        owner = λ _. 0;
        taker = λ _. 0;
        words = laid ∙ ap (λ (n : ℕ). 0 ∷ 0 ∷ n ∷ []) (sym long);
        small = (few, omega arith);
        waiting = refl;
        made = (let h = fresh_turns start 1 key.seats in omega arith);
        all_seats = (let h = fresh_length start 1 key.seats in omega arith);
        counted = omega arith;
        past = ([], sym (append-nil start), λ k d l. absurd (omega arith));
        each_view = alone_at (ViewOk base entries key 0 0 start (λ _. 0) (λ _. 0) (some (Some value) ∷ [])) v record {
          based = λ _. refl;
          accounts =
              λ k a at. let h = fresh_at start 1 key.seats k a at in
              subst (AccountOk base entries key start (λ _. 0) 0) h.1
              record {
                numbered = (let l = h.0 in (omega arith, omega arith));
                owned = refl;
                seen = same_list start start refl;
                mine = refl;
                turns = omega arith;
              };
          drew = λ t e. absurd (none-some t e);
          holds = λ e. absurd (true≢false (sym e));
          entered = λ e. absurd (true≢false (sym e));
        };
        place = inl (value, refl, ap entries (sym is), ap base (sym is));
      }

  -- The first seat of the view id goes to a new view.
  pub deals :
      (id : ℕ) (v : V) (a : Account E) (more : List (Account E)) → v ≡ idle v.base (a ∷ more)
      → ((k : ℕ) (b : Account E) → get_elem? more k ≡ some b → b.number ≢ a.number)
      → Splits (InTurn base entries key) id v (other_part v) (first_part v)
  deals id v a more idle_is apart s r at =
      let w : V = other_part v in
      let x : V = first_part v in
      let ok = r.each_view id v at in let new : ℕ = length s.views in let vs : List V = set s.views id w in
      let no_value : v.holds ≡ false = ap (λ (z : V). z.holds) idle_is in
      let here : v.accounts ≡ a ∷ more = ap (λ (z : V). z.accounts) idle_is in
      let here' : w.accounts ≡ more = ap behind here in
      let first : x.accounts ≡ a ∷ [] = ap front here in let long : length vs ≡ new = length-set s.views id w in
      let o = ok.accounts 0 a (ap (λ (bs : List (Account E)). get_elem? bs 0) here) in
      let owner : ℕ → ℕ = put r.owner a.number new in
      let is_based : v.base ≡ Some (base key.value.value) =
      ok.based (subst (λ (bs : List (Account E)). 0 < length bs) (sym here) (omega arith)) in
      let old : (j : ℕ) (b : Account E) → b.number ≢ a.number → AccountOk base entries key r.history r.owner j b
      → AccountOk base entries key r.history owner j b =
      λ j b other q.
      record {
        numbered = q.numbered;
        owned = put_else r.owner a.number new b.number other ∙ q.owned;
        seen = q.seen;
        mine = q.mine;
        turns = q.turns;
      } in
      record {
        ticket = r.ticket;
        serving = r.serving;
        history = r.history;
        owner = owner;
        taker = r.taker;
        words = r.words;
        small = r.small;
        waiting =
            (let p = total_append tickets vs (x ∷ []) in
            let h = total_set tickets s.views id v w at in
            let z = ap (λ (u : V). tickets u) idle_is in let y = r.waiting in omega arith);
        made =
            (let p = total_append turns vs (x ∷ []) in
            let h = total_set turns s.views id v w at in
            let z = ap (total (λ (b : Account E). b.turns)) here in
            let z' = ap (total (λ (b : Account E). b.turns)) here' in
            let z'' = ap (total (λ (b : Account E). b.turns)) first in let y = r.made in omega arith);
        all_seats =
            (let p = total_append seats vs (x ∷ []) in
            let h = total_set seats s.views id v w at in
            let z = ap (λ (bs : List (Account E)). length bs) here in
            let z' = ap (λ (bs : List (Account E)). length bs) here' in
            let z'' = ap (λ (bs : List (Account E)). length bs) first in let y = r.all_seats in omega arith);
        counted =
            (let p = total_append marks vs (x ∷ []) in
            let h = total_set marks s.views id v w at in
            let z = ap (λ (u : V). marks u) idle_is in let y = r.counted in omega arith);
        past = r.past;
        each_view = λ j u at'. ⊎_elim
            (λ (e : get_elem? vs j ≡ some u).
            each base entries key (ViewOk base entries key r.ticket r.serving r.history owner r.taker s.homes)
            s.views id w
            record {
              based = λ _. is_based;
              accounts =
                  λ k b found.
                  let there : get_elem? more k ≡ some b =
                  subst (λ (bs : List (Account E)). get_elem? bs k ≡ some b) here' found in
                  old id b (apart k b there)
                  (ok.accounts (suc k) b (ap (λ (bs : List (Account E)). get_elem? bs (suc k)) here ∙ there));
              drew = λ t is. absurd (none-some t is);
              holds = λ is. absurd (true≢false (sym is));
              entered = λ is. absurd (true≢false (sym is));
            }
            (λ i z other found. let q = r.each_view i z found in record {
              based = q.based;
              accounts =
                  λ k b here₂.
                  let p = q.accounts k b here₂ in old i b (λ same. other (sym p.owned ∙ (ap r.owner same ∙ o.owned))) p;
              drew = q.drew;
              holds = q.holds;
              entered = q.entered;
            }) j u e)
            (λ (t : (j ≡ length vs) × (x ≡ u)).
            subst (λ (z : ℕ × V).
            ViewOk base entries key r.ticket r.serving r.history owner r.taker s.homes z.0 z.1)
            (λ i. (sym (t.0 ∙ long) i, t.1 i)) record {
              based = λ _. is_based;
              accounts =
                  subst (λ (bs : List (Account E)).
                  (k : ℕ) (b : Account E) → get_elem? bs k ≡ some b
                  → AccountOk base entries key r.history owner new b) (sym first)
                  (alone (AccountOk base entries key r.history owner new) a
                  record {
                    numbered = o.numbered;
                    owned = put_here r.owner a.number new;
                    seen = o.seen;
                    mine = o.mine;
                    turns = o.turns;
                  });
              drew = λ y is. absurd (none-some y is);
              holds = λ is. absurd (true≢false (sym is));
              entered = λ is. absurd (true≢false (sym is));
            })
            (at_end vs x u j at');
        place = ⊎_elim (λ (h : IsHome base entries key r.history s.homes). inl h)
            (λ (p : IsOut base entries key s.homes s.views).
            let q =
            out_stays base entries key s.homes s.views id v w at
            (λ is. absurd (true≢false (sym is ∙ no_value))) p in
            inr (q.0, (q.1.0, q.1.1, at_longer vs (x ∷ []) q.1.0 q.1.1 q.1.2, q.1.3))) r.place;
      }

module _ {E : Type 0} (start : List (ℕ × E)) where
  pub fresh_next :
      (n many : ℕ) → n ≤ many
      → fresh start n (many + 1 - n) ≡ account n start (of n start) 0 ∷ fresh start (n + 1) (many + 1 - (n + 1))
  fresh_next n many le = ap (fresh start n) (let e : many + 1 - n ≡ suc (many + 1 - (n + 1)) = omega arith in e)

  pub later_numbers : (n many k : ℕ) (a : Account E) → get_elem? (fresh start (n + 1) many) k ≡ some a → a.number ≢ n
  later_numbers n many k a at e =
      let h = ap (λ (b : Account E). b.number) (fresh_at start (n + 1) many k a at).1 in omega arith

pub is_idle :
    {B E : Type 0} (b : B) (v : View B E) (accounts : List (Account E)) → v ≡ idle (Some b) accounts
    → v ≡ idle v.base accounts
is_idle b v accounts e = e ∙ ap (λ x. idle x accounts) (sym (ap (λ (z : View _ _). z.base) e))
