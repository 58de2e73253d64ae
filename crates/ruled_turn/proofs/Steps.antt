-- Each step of a turn keeps the rule.
use Rattle.std.proofs.Common.{◌≡◌, ◌≢◌, ℕ, ◌+◌, ◌*◌, ◌%◌, ◌^◌, ◌<◌, ◌≤◌, Bool, true, false, List, [], ◌∷◌, length, slice_index, slice_set, set, sym, refl, ap, ◌∙◌, subst, ⊎_elim, inl, inr, arith, Option, Some, None, mod-eq_of_lt, true≢false}
use mathlib.Core.Option.{none, some, some-injective, some-ne-none}
use mathlib.Core.Option as maybe
use mathlib.Core.Logic.{dite}
use native.Mathlib.Decide.{ℕ_discrete}
use lib.ListN.{get_elem?}
use Rattle.std.proofs.lemmas.Option.{none-some}
use Rattle.atomic_table.specs.Table.{State, Me, step, Act, keeps, takes, gives, put_back, rest, Valid, carried_after, stepped, Allows}
use Rattle.atomic_table.proofs.Lists.{at_set, set_here, set_else, set_again}
use Rattle.ruled_turn.specs.declared.view.Account.{Account}
use Rattle.ruled_turn.specs.declared.view.View.{View}
use Rattle.ruled_turn.specs.declared.view.Opening.{Opening}
use Rattle.ruled_turn.specs.Entries.{of, GoesOn, Grows}
use Rattle.ruled_turn.specs.Views.{total, amend, count_some, count_true, first_seen, first_mine, first_number, with_ticket, with_value, with_entry, without_value, without_ticket}
use Rattle.ruled_turn.specs.Plays.{drawn, looked, entered, gave, left}
use Rattle.ruled_turn.specs.Rule.{tickets, marks, turns, seats, AccountOk, ViewOk, IsHome, IsOut, InTurn}
use Rattle.ruled_turn.proofs.Entries.{same_list, goes_further, of_other, grown_length, past_more}
use Rattle.ruled_turn.proofs.Totals.{total_set, total_le, total_times, total_ones}
use Rattle.ruled_turn.proofs.Members.{same_some, inside, alone, same_number}
use Rattle.ruled_turn.proofs.Changed.{put, put_here, put_else}

abbrev some_or : {A : Type 0} → A → Option A → A
some_or d None = d
some_or d (Some x) = x

abbrev carried_or : {A : Type 0} → A → List (ℕ × Option A) → A
carried_or d [] = d
carried_or d (x ∷ xs) = some_or d x.1

module _ {M B E : Type 0} (base : M → B) (entries : M → List (ℕ × E)) (key : Opening M) where
  abbrev V : Type 0
  V = View B E

  abbrev St : Type 0
  St = State (Option M) V

  abbrev Homes : Type 0
  Homes = List (maybe.Option (Option M))

  abbrev Stand : Type 0
  Stand = Me (Option M) V

  abbrev Rule : St → Type 0
  Rule = InTurn base entries key

  abbrev Goes : St → ℕ → ℕ → Stand → (ℕ → Stand → Type 0) → ℕ → ℕ → Type 0
  Goes s i id me then n new =
      (w : V) × (a : Act (Option M)) × Valid s.homes me.1 a × Rule (stepped s i new id me.1 w a)
      × then n (w, carried_after me.1 a)

  -- What holds of the new view, and held of the others, holds of each.
  pub each :
      (K : ℕ → V → Type 0) (vs : List V) (id : ℕ) (w : V) → K id w
      → ((j : ℕ) (v : V) → j ≢ id → get_elem? vs j ≡ some v → K j v)
      → (j : ℕ) (v : V) → get_elem? (set vs id w) j ≡ some v → K j v
  each K vs id w mine others j v at =
      ⊎_elim (λ (t : (j ≡ id) × (w ≡ v)). subst (λ (x : ℕ × V). K x.0 x.1) (λ i. (sym t.0 i, t.1 i)) mine)
      (λ (t : (j ≢ id) × (get_elem? vs j ≡ some v)). others j v t.0 t.1) (at_set vs id j w v at)

  -- The value stays out where its holder does.
  pub out_stays :
      (homes : Homes) (vs : List V) (id : ℕ) (v w : V) → get_elem? vs id ≡ some v → (v.holds ≡ true → w.holds ≡ true)
      → IsOut base entries key homes vs → IsOut base entries key homes (set vs id w)
  out_stays homes vs id v w at stays out = let j : ℕ = out.1.0 in dite (ℕ_discrete j id)
      (λ same. (
        out.0,
        (
          id,
          w,
          set_here vs id w (inside vs id v at),
          stays (ap (λ (z : V). z.holds)
              (some-injective v out.1.1 (sym at ∙ ap (get_elem? vs) (sym same) ∙ out.1.2)) ∙ out.1.3),
        ),
      ))
      (λ other. (out.0, (j, out.1.1, set_else vs id j w other ∙ out.1.2, out.1.3)))

  -- No word wraps.
  few_turns : (s : St) (r : Rule s) → r.ticket ≤ 2 ^ 50
  few_turns s r =
      let a = total_le turns (λ (v : V). 2 ^ 40 * seats v) s.views (λ j v at. let ok = (r.each_view j v at).accounts in
      let b = total_le (λ (a : Account E). a.turns) (λ (a : Account E). 2 ^ 40 * 1) v.accounts
      (λ k a here. let t = (ok k a here).turns in omega arith) in
      let c = total_times (2 ^ 40) (λ (a : Account E). 1) v.accounts in let d = total_ones v.accounts in omega arith) in
      let b = total_times (2 ^ 40) seats s.views in
      let m = r.made in let n = r.all_seats in let k = r.small.0 in omega arith

  -- Only one view has the ticket whose turn it is.
  one_served :
      (s : St) (r : Rule s) (i j : ℕ) (u v : V) → get_elem? s.views i ≡ some u → get_elem? s.views j ≡ some v
      → u.ticket ≡ Some r.serving → v.ticket ≡ Some r.serving → i ≡ j
  one_served s r i j u v at at' mine yours =
      sym ((r.each_view i u at).drew r.serving mine).2 ∙ ((r.each_view j v at').drew r.serving yours).2

  -- The slot is not both at home and out.
  home_or_out : (homes : Homes) (x : Option M) → homes ≡ some x ∷ [] → homes ≡ none ∷ [] → ⊥
  home_or_out homes x home out =
      some-ne-none x (some-injective (some x) none
      (sym (ap (λ (hs : Homes). get_elem? hs 0) home) ∙ ap (λ (hs : Homes). get_elem? hs 0) out))

  same_value : (x y : M) (c : List (ℕ × Option M)) → c ≡ (0, Some x) ∷ [] → c ≡ (0, Some y) ∷ [] → x ≡ y
  same_value x y c e e' = ap (carried_or x) (sym e ∙ e')

  -- The view and the words stay as they are.
  stands :
      (s : St) (r : Rule s) (i id n : ℕ) (v : V) → get_elem? s.views id ≡ some v → slice_set s.words i n ≡ s.words
      → Rule record { words = slice_set s.words i n; homes = s.homes; views = set s.views id v }
  stands s r i id n v at same =
      subst (λ (z : List ℕ × List V). Rule record { words = z.0; homes = s.homes; views = z.1 })
      (λ k. (sym same k, sym (set_again s.views id v at) k)) r

  pub draws :
      (slots id : ℕ) (me : Stand) (a : Account E) → me.0.ticket ≡ None → me.0.holds ≡ false → me.0.entered ≡ false
      → me.0.accounts ≡ a ∷ [] → a.turns < 2 ^ 40
      → Allows Rule slots id me 0 (λ n. (n + 1) % 2 ^ 64) (drawn (step slots 0 1 0 none) me)
  draws slots id me a no_ticket no_value no_mark one few s r deep at small =
      let t : ℕ = r.ticket in
      let v : V = me.0 in
      let w : V = with_ticket t v in let ok = r.each_view id v at in let told = drawn (step slots 0 1 0 none) me in
      let next : Account E = record a { turns = a.turns + 1 } in
      let one' : w.accounts ≡ next ∷ [] = ap (amend (λ (b : Account E). record b { turns = b.turns + 1 })) one in
      let bound = few_turns s r in let fits : (t + 1) % 2 ^ 64 ≡ t + 1 = mod-eq_of_lt (omega arith) in
      subst (λ (n : ℕ). Goes s 0 id me told n ((n + 1) % 2 ^ 64)) (sym (ap (λ ws. slice_index ws 0) r.words)) (
        w,
        keeps,
        tt,
        record {
          ticket = t + 1;
          serving = r.serving;
          history = r.history;
          owner = r.owner;
          taker = put r.taker t id;
          words =
              ap (λ ws. slice_set ws 0 ((t + 1) % 2 ^ 64)) r.words
              ∙ ap (λ (n : ℕ). n ∷ r.serving ∷ length r.history ∷ []) fits;
          small = r.small;
          waiting =
              (let h = total_set tickets s.views id v w at in
              let x = ap count_some no_ticket in let y = r.waiting in omega arith);
          made =
              (let h = total_set turns s.views id v w at in
              let x = ap (total (λ (b : Account E). b.turns)) one in
              let x' = ap (total (λ (b : Account E). b.turns)) one' in let y = r.made in omega arith);
          all_seats =
              (let h = total_set seats s.views id v w at in
              let x = ap (λ (bs : List (Account E)). length bs) one in
              let x' = ap (λ (bs : List (Account E)). length bs) one' in let y = r.all_seats in omega arith);
          counted = (let h = total_set marks s.views id v w at in let y = r.counted in omega arith);
          past = r.past;
          each_view =
              each (ViewOk base entries key (t + 1) r.serving r.history r.owner (put r.taker t id) s.homes) s.views id w
              record {
                based = λ some. ok.based (subst (λ (bs : List (Account E)). 0 < length bs) (sym one) (omega arith));
                accounts =
                    subst (λ (bs : List (Account E)).
                    (k : ℕ) (b : Account E) → get_elem? bs k ≡ some b
                    → AccountOk base entries key r.history r.owner id b) (sym one')
                    (alone (AccountOk base entries key r.history r.owner id) next
                    (let o = ok.accounts 0 a (ap (λ (bs : List (Account E)). get_elem? bs 0) one) in
                    record {
                      numbered = o.numbered;
                      owned = o.owned;
                      seen = o.seen;
                      mine = o.mine;
                      turns = omega arith;
                    }));
                drew =
                    λ x is.
                    let same = same_number t x is in
                    let y = r.waiting in (
                      omega arith,
                      omega arith,
                      subst (λ (z : ℕ). put r.taker t id z ≡ id) same (put_here r.taker t id),
                      subst (λ (bs : List (Account E)). 0 < length bs) (sym one') (omega arith),
                    );
                holds = λ is. absurd (true≢false (sym is ∙ no_value));
                entered = λ is. absurd (true≢false (sym is ∙ no_mark));
              }
              (λ j u other at'. let o = r.each_view j u at' in record {
                based = o.based;
                accounts = o.accounts;
                drew =
                    λ x is.
                    let d = o.drew x is in
                    let lt = d.1 in (d.0, omega arith, put_else r.taker t id x (λ e. omega arith) ∙ d.2, d.3);
                holds = o.holds;
                entered = o.entered;
              });
          place =
              ⊎_elim (λ (h : IsHome base entries key r.history s.homes). inl h)
              (λ (o : IsOut base entries key s.homes s.views). inr (out_stays s.homes s.views id v w at (λ is. is) o))
              r.place;
        },
        refl,
      )

  -- A view with a mark has a ticket.
  marked : (b : Bool) (o : Option ℕ) (n : ℕ) → (b ≡ true → o ≡ Some n) → count_true b ≤ count_some o
  marked true o n is = let x = ap count_some (is refl) in omega arith
  marked false o n is = omega arith

  few_entries : (s : St) (r : Rule s) → length r.history ≤ 2 ^ 49 + 2 ^ 50
  few_entries s r =
      let a =
      total_le marks tickets s.views (λ j v at. marked v.entered v.ticket r.serving (r.each_view j v at).entered) in
      let b = few_turns s r in let c = r.counted in let d = r.waiting in let e = r.small.1 in omega arith

  pub looks :
      (slots id : ℕ) (me : Stand) (a : Account E) (t : ℕ) → me.0.ticket ≡ Some t → me.0.holds ≡ false
      → me.0.entered ≡ false → me.0.accounts ≡ a ∷ [] → me.1 ≡ []
      → Allows Rule slots id me 1 (λ n. n) (looked base entries (step slots 1 0 0 none) me)
  looks slots id me a t has no_value no_mark one no_slot s r deep at small =
      let v : V = me.0 in
      let ok = r.each_view id v at in
      let told = looked base entries (step slots 1 0 0 none) me in let n : ℕ = r.serving in
      let same_words : slice_set s.words 1 n ≡ s.words = ap (λ ws. slice_set ws 1 n) r.words ∙ sym r.words in
      subst (λ (k : ℕ). Goes s 1 id me told k k) (sym (ap (λ ws. slice_index ws 1) r.words))
      (dite (ℕ_discrete t n) (λ mine. let turn : v.ticket ≡ Some n = has ∙ ap (λ (k : ℕ). Some k) mine in ⊎_elim
      (λ (h : IsHome base entries key r.history s.homes).
      let value : M = h.0 in let list : List (ℕ × E) = entries value in let w : V = with_value list v in
      let next : Account E = record a { seen = list } in
      let one' : w.accounts ≡ next ∷ [] = ap (amend (λ (b : Account E). record b { seen = list })) one in
      let o = ok.accounts 0 a (ap (λ (bs : List (Account E)). get_elem? bs 0) one) in
      let out : slice_set s.homes 0 none ≡ none ∷ [] = ap (λ (hs : Homes). slice_set hs 0 none) h.1 in (
        w,
        takes 0 (Some value),
        ap (λ (hs : Homes). get_elem? hs 0) h.1,
        record {
          ticket = r.ticket;
          serving = n;
          history = r.history;
          owner = r.owner;
          taker = r.taker;
          words = same_words ∙ r.words;
          small = r.small;
          waiting = (let x = total_set tickets s.views id v w at in let y = r.waiting in omega arith);
          made =
              (let x = total_set turns s.views id v w at in
              let z = ap (total (λ (b : Account E). b.turns)) one in
              let z' = ap (total (λ (b : Account E). b.turns)) one' in let y = r.made in omega arith);
          all_seats =
              (let x = total_set seats s.views id v w at in
              let z = ap (λ (bs : List (Account E)). length bs) one in
              let z' = ap (λ (bs : List (Account E)). length bs) one' in let y = r.all_seats in omega arith);
          counted = (let x = total_set marks s.views id v w at in let y = r.counted in omega arith);
          past = r.past;
          each_view =
              each (ViewOk base entries key r.ticket n r.history r.owner r.taker (slice_set s.homes 0 none)) s.views id
              w
              record {
                based = λ some. ok.based (subst (λ (bs : List (Account E)). 0 < length bs) (sym one) (omega arith));
                accounts =
                    subst (λ (bs : List (Account E)).
                    (k : ℕ) (b : Account E) → get_elem? bs k ≡ some b
                    → AccountOk base entries key r.history r.owner id b) (sym one')
                    (alone (AccountOk base entries key r.history r.owner id) next
                    record {
                      numbered = o.numbered;
                      owned = o.owned;
                      seen = same_list list r.history h.2;
                      mine = o.mine;
                      turns = o.turns;
                    });
                drew =
                    λ x is.
                    let d = ok.drew x is in
                    (d.0, d.1, d.2, subst (λ (bs : List (Account E)). 0 < length bs) (sym one') (omega arith));
                holds =
                    λ _. (
                      turn,
                      out,
                      subst (λ (bs : List (Account E)).
                          (k : ℕ) (b : Account E) → get_elem? bs k ≡ some b → b.seen ≡ r.history) (sym one')
                          (alone (λ (b : Account E). b.seen ≡ r.history) next h.2),
                    );
                entered = λ is. absurd (true≢false (sym is ∙ no_mark));
              }
              (λ j u other at'. let p = r.each_view j u at' in record {
                based = p.based;
                accounts = p.accounts;
                drew = p.drew;
                holds = λ is. absurd (home_or_out s.homes (Some value) h.1 (p.holds is).1);
                entered = p.entered;
              });
          place = inr (out, (id, w, set_here s.views id w (inside s.views id v at), refl));
        },
        (
          (λ _. (
            value,
            ap (λ c. (w, (0, Some value) ∷ c)) no_slot,
            ok.based (subst (λ (bs : List (Account E)). 0 < length bs) (sym one) (omega arith))
                ∙ ap (λ (b : B). Some b) (sym h.3),
            subst (λ (z : List (ℕ × E) × List (ℕ × E)). GoesOn z.0 z.1)
                (λ k. (sym (ap first_seen one) k, sym h.2 k)) o.seen,
            ap first_mine one ∙ o.mine ∙ ap (of a.number) (sym h.2)
                ∙ ap (λ (m : ℕ). of m list) (sym (ap first_number one)),
          )),
          λ ne. absurd (ne turn),
        ),
      ))
      (λ (o : IsOut base entries key s.homes s.views). let j : ℕ = o.1.0 in let u : V = o.1.1 in
      let same : j ≡ id = one_served s r j id u v o.1.2 at ((r.each_view j u o.1.2).holds o.1.3).0 turn in
      absurd (true≢false (sym o.1.3
      ∙ ap (λ (z : V). z.holds) (some-injective u v (sym o.1.2 ∙ (ap (get_elem? s.views) same ∙ at)))
      ∙ no_value))) r.place)
      (λ other. (
        v,
        keeps,
        tt,
        stands s r 1 id n v at same_words,
        ((λ is. absurd (other (same_number t n (sym has ∙ is)))), λ _. refl),
      )))

  pub enters :
      (slots id : ℕ) (me : Stand) (a : Account E) (value : M) (k : ℕ) → me.0.holds ≡ true → me.0.entered ≡ false
      → me.0.accounts ≡ a ∷ [] → me.1 ≡ (0, Some value) ∷ []
      → Grows a.number a.seen (entries value) → length a.seen + k ≡ length (entries value)
      → Allows Rule slots id me 2 (λ n. (n + k) % 2 ^ 64) (entered entries (step slots 2 k 0 none) me)
  enters slots id me a value k holds no_mark one slot grows count s r deep at small =
      let v : V = me.0 in
      let ok = r.each_view id v at in
      let told = entered entries (step slots 2 k 0 none) me in
      let n : ℕ = r.serving in let list : List (ℕ × E) = entries value in let w : V = with_entry list v in
      let here : get_elem? v.accounts 0 ≡ some a = ap (λ (bs : List (Account E)). get_elem? bs 0) one in
      let o = ok.accounts 0 a here in let held = ok.holds holds in let turn : v.ticket ≡ Some n = held.0 in
      let was : a.seen ≡ r.history = held.2 0 a here in
      let old : length a.seen ≡ length r.history = ap (λ (z : List (ℕ × E)). length z) was in
      let grows' : Grows a.number r.history list = subst (λ (z : List (ℕ × E)). Grows a.number z list) was grows in
      let longer = grown_length a.number r.history list grows' in
      let next : Account E = record a { seen = list; mine = of a.number list } in
      let one' : w.accounts ≡ next ∷ [] =
      ap (amend (λ (b : Account E). record b { seen = list; mine = of b.number list })) one in
      let bound = few_entries s r in
      let c : ℕ = length r.history in
      let fits : (c + k) % 2 ^ 64 ≡ length list = mod-eq_of_lt (omega arith) ∙ (omega arith) in
      subst (λ (m : ℕ). Goes s 2 id me told m ((m + k) % 2 ^ 64)) (sym (ap (λ ws. slice_index ws 2) r.words)) (
        w,
        keeps,
        tt,
        record {
          ticket = r.ticket;
          serving = n;
          history = list;
          owner = r.owner;
          taker = r.taker;
          words = ap (λ ws. slice_set ws 2 ((c + k) % 2 ^ 64)) r.words ∙ ap (λ (m : ℕ). r.ticket ∷ n ∷ m ∷ []) fits;
          small = r.small;
          waiting = (let x = total_set tickets s.views id v w at in let y = r.waiting in omega arith);
          made =
              (let x = total_set turns s.views id v w at in
              let z = ap (total (λ (b : Account E). b.turns)) one in
              let z' = ap (total (λ (b : Account E). b.turns)) one' in let y = r.made in omega arith);
          all_seats =
              (let x = total_set seats s.views id v w at in
              let z = ap (λ (bs : List (Account E)). length bs) one in
              let z' = ap (λ (bs : List (Account E)). length bs) one' in let y = r.all_seats in omega arith);
          counted =
              (let x = total_set marks s.views id v w at in
              let z = ap count_true no_mark in let y = r.counted in omega arith);
          past =
              past_more key.seats a.number (entries key.value.value) r.history list o.numbered.0 o.numbered.1 r.past
              grows';
          each_view = each (ViewOk base entries key r.ticket n list r.owner r.taker s.homes) s.views id w
              record {
                based = λ some. ok.based (subst (λ (bs : List (Account E)). 0 < length bs) (sym one) (omega arith));
                accounts =
                    subst (λ (bs : List (Account E)).
                    (i : ℕ) (b : Account E) → get_elem? bs i ≡ some b → AccountOk base entries key list r.owner id b)
                    (sym one')
                    (alone (AccountOk base entries key list r.owner id) next
                    record {
                      numbered = o.numbered;
                      owned = o.owned;
                      seen = same_list list list refl;
                      mine = refl;
                      turns = o.turns;
                    });
                drew =
                    λ x is.
                    let d = ok.drew x is in
                    (d.0, d.1, d.2, subst (λ (bs : List (Account E)). 0 < length bs) (sym one') (omega arith));
                holds =
                    λ _. (
                      turn,
                      held.1,
                      subst (λ (bs : List (Account E)).
                          (i : ℕ) (b : Account E) → get_elem? bs i ≡ some b → b.seen ≡ list) (sym one')
                          (alone (λ (b : Account E). b.seen ≡ list) next refl),
                    );
                entered = λ _. turn;
              }
              (λ j u other at'. let p = r.each_view j u at' in record {
                based = p.based;
                accounts = λ i b here'. let q = p.accounts i b here' in record {
                  numbered = q.numbered;
                  owned = q.owned;
                  seen = goes_further a.number b.seen r.history list q.seen grows';
                  mine =
                      q.mine
                      ∙ sym (of_other b.number a.number r.history list
                      (λ e. other (sym q.owned ∙ (ap r.owner e ∙ o.owned))) grows');
                  turns = q.turns;
                };
                drew = p.drew;
                holds = λ is. absurd (other (one_served s r j id u v at' at (p.holds is).0 turn));
                entered = p.entered;
              });
          place =
              ⊎_elim
              (λ (h : IsHome base entries key r.history s.homes). absurd (home_or_out s.homes (Some h.0) h.1 held.1))
              (λ (p : IsOut base entries key s.homes s.views). inr (out_stays s.homes s.views id v w at (λ is. is) p))
              r.place;
        },
        λ y is. ap (λ (z : List (ℕ × E)). (with_entry z v, me.1)) (ap entries (same_value value y me.1 slot is)),
      )

  pub gives_back :
      (slots id : ℕ) (me : Stand) (a : Account E) (value : M) → me.0.holds ≡ true → me.0.accounts ≡ a ∷ []
      → me.1 ≡ (0, Some value) ∷ []
      → a.seen ≡ entries value → me.0.base ≡ Some (base value)
      → Allows Rule slots id me 1 (λ n. n) (gave (step slots 1 0 0 none) me)
  gives_back slots id me a value holds one slot list based s r deep at small =
      let v : V = me.0 in
      let ok = r.each_view id v at in
      let told = gave (step slots 1 0 0 none) me in let n : ℕ = r.serving in let w : V = without_value v in
      let here : get_elem? v.accounts 0 ≡ some a = ap (λ (bs : List (Account E)). get_elem? bs 0) one in
      let held = ok.holds holds in let turn : v.ticket ≡ Some n = held.0 in
      let same_words : slice_set s.words 1 n ≡ s.words = ap (λ ws. slice_set ws 1 n) r.words ∙ sym r.words in
      let home : put_back s.homes me.1 ≡ some (Some value) ∷ [] = (λ i. put_back (held.1 i) (slot i)) in
      subst (λ (k : ℕ). Goes s 1 id me told k k) (sym (ap (λ ws. slice_index ws 1) r.words)) (
        w,
        gives,
        tt,
        record {
          ticket = r.ticket;
          serving = n;
          history = r.history;
          owner = r.owner;
          taker = r.taker;
          words = same_words ∙ r.words;
          small = r.small;
          waiting = (let x = total_set tickets s.views id v w at in let y = r.waiting in omega arith);
          made = (let x = total_set turns s.views id v w at in let y = r.made in omega arith);
          all_seats = (let x = total_set seats s.views id v w at in let y = r.all_seats in omega arith);
          counted = (let x = total_set marks s.views id v w at in let y = r.counted in omega arith);
          past = r.past;
          each_view =
              each (ViewOk base entries key r.ticket n r.history r.owner r.taker (put_back s.homes me.1)) s.views id w
              record {
                based = ok.based;
                accounts = ok.accounts;
                drew = ok.drew;
                holds = λ is. absurd (true≢false (sym is));
                entered = ok.entered;
              }
              (λ j u other at'. let p = r.each_view j u at' in record {
                based = p.based;
                accounts = p.accounts;
                drew = p.drew;
                holds = λ is. absurd (other (one_served s r j id u v at' at (p.holds is).0 turn));
                entered = p.entered;
              });
          place =
              inl (
                value,
                home,
                sym list ∙ held.2 0 a here,
                same_some (base value) (base key.value.value)
                    (sym based ∙ ok.based (subst (λ (bs : List (Account E)). 0 < length bs) (sym one) (omega arith))),
              );
        },
        ap (λ c. (w, rest c)) slot,
      )

  pub leaves :
      (slots id : ℕ) (me : Stand) → me.0.holds ≡ false → me.0.entered ≡ true
      → Allows Rule slots id me 1 (λ n. (n + 1) % 2 ^ 64) (left (step slots 1 1 0 none) me)
  leaves slots id me no_value mark s r deep at small =
      let v : V = me.0 in
      let ok = r.each_view id v at in
      let told = left (step slots 1 1 0 none) me in let n : ℕ = r.serving in let w : V = without_ticket v in
      let turn : v.ticket ≡ Some n = ok.entered mark in
      let drew = ok.drew n turn in
      let below : n < r.ticket = drew.1 in
      let bound = few_turns s r in let fits : (n + 1) % 2 ^ 64 ≡ n + 1 = mod-eq_of_lt (omega arith) in
      subst (λ (m : ℕ). Goes s 1 id me told m ((m + 1) % 2 ^ 64)) (sym (ap (λ ws. slice_index ws 1) r.words)) (
        w,
        keeps,
        tt,
        record {
          ticket = r.ticket;
          serving = n + 1;
          history = r.history;
          owner = r.owner;
          taker = r.taker;
          words =
              ap (λ ws. slice_set ws 1 ((n + 1) % 2 ^ 64)) r.words
              ∙ ap (λ (m : ℕ). r.ticket ∷ m ∷ length r.history ∷ []) fits;
          small = r.small;
          waiting =
              (let x = total_set tickets s.views id v w at in
              let z = ap count_some turn in let y = r.waiting in omega arith);
          made = (let x = total_set turns s.views id v w at in let y = r.made in omega arith);
          all_seats = (let x = total_set seats s.views id v w at in let y = r.all_seats in omega arith);
          counted =
              (let x = total_set marks s.views id v w at in
              let z = ap count_true mark in let y = r.counted in omega arith);
          past = r.past;
          each_view = each (ViewOk base entries key r.ticket (n + 1) r.history r.owner r.taker s.homes) s.views id w
              record {
                based = ok.based;
                accounts = ok.accounts;
                drew = λ x is. absurd (none-some x is);
                holds = λ is. absurd (true≢false (sym is ∙ no_value));
                entered = λ is. absurd (true≢false (sym is));
              }
              (λ j u other at'. let p = r.each_view j u at' in record {
                based = p.based;
                accounts = p.accounts;
                drew =
                    λ x is.
                    let d = p.drew x is in
                    let low = d.0 in
                    let ne : x ≢ n = λ e. other (sym d.2 ∙ (ap r.taker e ∙ drew.2)) in (omega arith, d.1, d.2, d.3);
                holds = λ is. absurd (other (one_served s r j id u v at' at (p.holds is).0 turn));
                entered = λ is. absurd (other (one_served s r j id u v at' at (p.entered is) turn));
              });
          place =
              ⊎_elim (λ (h : IsHome base entries key r.history s.homes). inl h)
              (λ (o : IsOut base entries key s.homes s.views). inr (out_stays s.homes s.views id v w at (λ is. is) o))
              r.place;
        },
        refl,
      )
