use Rattle.std.proofs.Common.{rules, [], ◌∷◌, ◌++◌, map, All, Some, option_to_list, sym, ap, ◌∙◌, subst, append_assoc, append-nil, arith}
use Rattle.std.proofs.lemmas.Grind.{common_steps}
use Rattle.std.proofs.lemmas.List.{nil_from_length}
use Rattle.ruled_turn.specs.Views.{idle}
use Rattle.ruled_turn.specs.Seats.{IsSeatOf, account_of, given}
use Rattle.ruled_turn.proofs.Members.{all_middle}
use Rattle.ruled_turn.proofs.Joining.{gathers, idle_itself}
use Rattle.ruled_turn.proofs.ruled.Ruled.gather.Goals as goal

pub loop-seat-init : goal.loop-seat-init
loop-seat-init g c =
    let last = c.unwrap-last.result in
    let before = c.pop.new.self.items in
    let r = c.args.self.now in let P = IsSeatOf g.M.Turned.base g.M.Turned.admits r in
    let items = c.pop.ensures.items ∙ ap (λ o. before ++ option_to_list o) c.unwrap-last.ensures in
    let mine =
    all_middle P before [] last
    (subst (λ l. All P l) (items ∙ sym (append-nil (before ++ last ∷ []))) c.requires.seats) in (
      last ∷ [],
      items,
      mine.table,
      last.rests ∙ ap (λ b. (idle b (account_of last ∷ []), [])) mine.based,
    )

pub join_seat-requires : goal.join_seat-requires
join_seat-requires g c =
    let inv = c.loop-seat.invariant in
    let r = c.args.self.now in
    let seat = c.in-Some.seat in
    let v = c.loop-seat.all.me.0 in let u = seat.place.me.0 in let P = IsSeatOf g.M.Turned.base g.M.Turned.admits r in
    let before = c.pop-in-loop-seat.new.self.items in
    let items = inv.1 ∙ ap (λ l. l ++ inv.0) c.in-Some.ensures.items in
    let mine = all_middle P before inv.0 seat (subst (λ l. All P l) items c.requires.seats) in (
      search rules,
      mine.table,
      ap (λ m. m.1) seat.rests,
      search rules,
      gathers g.M.Turned.base g.M.Turned.entries r.table.shared.key c.loop-seat.all.id v seat.place.id u
          (idle_itself (Some (g.M.Turned.base (given r))) v (map account_of inv.0) (ap (λ m. m.0) inv.3))
          (idle_itself u.base u (account_of seat ∷ []) (ap (λ m. m.0) seat.rests)),
    )

pub loop-seat-preserved : goal.loop-seat-preserved
loop-seat-preserved g c =
    let inv = c.loop-seat.invariant in
    let seat = c.in-Some.seat in
    let before = c.pop-in-loop-seat.new.self.items in let joined = c.join_seat.ensures.2 in (
      seat ∷ inv.0,
      inv.1 ∙ (ap (λ l. l ++ inv.0) c.in-Some.ensures.items ∙ append_assoc before (seat ∷ []) inv.0),
      search rules,
      joined ∙ (λ i. (idle (inv.3 i).0.base ((seat.rests i).0.accounts ++ (inv.3 i).0.accounts), (inv.3 i).1)),
    )

pub returns : goal.returns
returns g c =
    let inv = c.loop-seat.invariant in
    let none_left = nil_from_length c.loop-seat.seats.items (first_of (search rules, grind (arith, common_steps))) in
    let items = inv.1 ∙ ap (λ l. l ++ inv.0) none_left in record {
      table = inv.2;
      place =
          inv.3 ∙ ap (λ l. (idle (Some (g.M.Turned.base (given c.args.self.now))) (map account_of l), [])) (sym items);
    }
