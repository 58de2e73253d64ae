use Rattle.std.proofs.Common.{rules, length, get_or, sym, ap, ◌∙◌, arith}
use Rattle.std.proofs.lemmas.List.{length-map}
use lib.ListN.{get_elem?}
use Rattle.ruled_turn.specs.Seats.{account_of}
use Rattle.ruled_turn.specs.Entries.{of}
use Rattle.ruled_turn.proofs.Members.{at_mapped, same_some}
use Rattle.ruled_turn.proofs.Joining.{comes_back}
use Rattle.ruled_turn.proofs.ruled.Ruled.close.Goals as goal

pub gather-closer-requires-clause-all : goal.gather-closer-requires-clause-all
gather-closer-requires-clause-all g c = let a = c.requires.all in let b = c.args.self.seated in omega arith

pub unwrap-requires : goal.unwrap-requires
unwrap-requires g c =
    let place = c.gather-closer.ensures.place in let base = g.M.Turned.base in let entries = g.M.Turned.entries in
    let back = comes_back base entries c.args.self.table.shared.key c.gather-closer.result.id
    c.gather-closer.result.me.0 _ _ c.take-value.result
    (ap (λ m. m.0.holds) place)
    (ap (λ m. length m.0.accounts) place ∙ (length-map c.args.seats.items account_of ∙ c.requires.all))
    c.close_with-closed.ensures.values.2 c.take-value.ensures.value in
    let is = back.1 in search rules

pub returns-clause-base : goal.returns-clause-base
returns-clause-base g c =
    let place = c.gather-closer.ensures.place in let base = g.M.Turned.base in let entries = g.M.Turned.entries in
    let back = comes_back base entries c.args.self.table.shared.key c.gather-closer.result.id
    c.gather-closer.result.me.0 _ _ c.take-value.result
    (ap (λ m. m.0.holds) place)
    (ap (λ m. length m.0.accounts) place ∙ (length-map c.args.seats.items account_of ∙ c.requires.all))
    c.close_with-closed.ensures.values.2 c.take-value.ensures.value in let same =
    same_some back.0 c.unwrap.result (sym back.1 ∙ c.unwrap.ensures) in
    ap base (sym same) ∙ back.2.based

pub returns-clause-seen : goal.returns-clause-seen
returns-clause-seen g c =
    λ k d l.
    let place = c.gather-closer.ensures.place in let base = g.M.Turned.base in let entries = g.M.Turned.entries in
    let back = comes_back base entries c.args.self.table.shared.key c.gather-closer.result.id
    c.gather-closer.result.me.0 _ _ c.take-value.result
    (ap (λ m. m.0.holds) place)
    (ap (λ m. length m.0.accounts) place ∙ (length-map c.args.seats.items account_of ∙ c.requires.all))
    c.close_with-closed.ensures.values.2 c.take-value.ensures.value in let same =
    same_some back.0 c.unwrap.result (sym back.1 ∙ c.unwrap.ensures) in
    let here = ap (λ m. get_elem? m.0.accounts k) place ∙ at_mapped account_of c.args.seats.items k d l in
    let told = (back.2.accounts k (account_of (get_or c.args.seats.items k d)) here).0 in
    record { more = told.more; is = ap entries (sym same) ∙ told.is }

pub returns-clause-mine : goal.returns-clause-mine
returns-clause-mine g c =
    λ k d l.
    let place = c.gather-closer.ensures.place in let base = g.M.Turned.base in let entries = g.M.Turned.entries in
    let back = comes_back base entries c.args.self.table.shared.key c.gather-closer.result.id
    c.gather-closer.result.me.0 _ _ c.take-value.result
    (ap (λ m. m.0.holds) place)
    (ap (λ m. length m.0.accounts) place ∙ (length-map c.args.seats.items account_of ∙ c.requires.all))
    c.close_with-closed.ensures.values.2 c.take-value.ensures.value in let same =
    same_some back.0 c.unwrap.result (sym back.1 ∙ c.unwrap.ensures) in
    let seat = get_or c.args.seats.items k d in
    let here = ap (λ m. get_elem? m.0.accounts k) place ∙ at_mapped account_of c.args.seats.items k d l in
    (back.2.accounts k (account_of seat) here).1 ∙ ap (λ z. of seat.number (entries z)) same

pub returns-clause-past : goal.returns-clause-past
returns-clause-past g c =
    let place = c.gather-closer.ensures.place in let base = g.M.Turned.base in let entries = g.M.Turned.entries in
    let back = comes_back base entries c.args.self.table.shared.key c.gather-closer.result.id
    c.gather-closer.result.me.0 _ _ c.take-value.result
    (ap (λ m. m.0.holds) place)
    (ap (λ m. length m.0.accounts) place ∙ (length-map c.args.seats.items account_of ∙ c.requires.all))
    c.close_with-closed.ensures.values.2 c.take-value.ensures.value in let same =
    same_some back.0 c.unwrap.result (sym back.1 ∙ c.unwrap.ensures) in
    let past = back.2.past in (past.0, ap entries (sym same) ∙ past.1, past.2)
