use Rattle.std.proofs.Common.{rules, ◌≡◌, ℕ, ◌+◌, length, slice_get, All, Some, sym, ap, ◌∙◌, subst, subst₂, ⊎_elim, arith}
use Rattle.std.proofs.lemmas.Grind.{common_steps}
use Rattle.std.proofs.lemmas.List.Elements.{All-push}
use Rattle.ruled_turn.specs.Seats.{IsSeatOf, IsNew}
use Rattle.ruled_turn.proofs.Members.{get_push}
use Rattle.ruled_turn.proofs.ruled.Ruled.new.Goals as goal

pub loop-number-preserved : goal.loop-number-preserved
loop-number-preserved g c =
    let base = g.M.Turned.base in
    let admits = g.M.Turned.admits in
    let entries = g.M.Turned.entries in let r = c.in_ok-ruled.ruled in let l = c.loop-number in
    let seat = c.deal.result in let made = c.push_reserved.ensures.items in let n : ℕ = l.number in record {
      table = search rules;
      opener = c.deal.ensures.opener;
      long = first_of (search rules, grind (arith, common_steps));
      room = first_of (search rules, grind (arith, common_steps));
      seats =
          subst (λ xs. All (IsSeatOf base admits r) xs) (sym made)
          (All-push (IsSeatOf base admits r) l.list.items seat l.invariant.seats c.deal.ensures.own);
      each = λ k s at. ⊎_elim (λ (e : slice_get l.list.items k ≡ Some s). l.invariant.each k s e)
          (λ (t : (k ≡ length l.list.items) × (seat ≡ s)).
          subst₂ (λ i x. IsNew entries r i x) (ap (λ (i : ℕ). i + 1) (sym (t.0 ∙ l.invariant.long))) t.1
          c.deal.ensures.new) (get_push l.list.items seat s k (ap (λ xs. slice_get xs k) (sym made) ∙ at));
    }
