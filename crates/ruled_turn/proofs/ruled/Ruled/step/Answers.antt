use Rattle.std.proofs.Common.{rules, ℕ, [], Some, sym, ap, ◌∙◌, refl, arith}
use Rattle.ruled_turn.specs.Views.{account, seen_by, turns_of, with_turn}
use Rattle.ruled_turn.specs.Seats.{given}
use Rattle.ruled_turn.proofs.Entries.{grown_length}
use Rattle.ruled_turn.proofs.Steps.{draws, enters, gives_back, leaves}
use Rattle.ruled_turn.proofs.Turning.{drew_ticket, put_value, entered_list, gave_value, left_turn, whole_turn}
use Rattle.ruled_turn.proofs.ruled.Ruled.step.Goals as goal

pub fetch_add-ticket-requires : goal.fetch_add-ticket-requires
fetch_add-ticket-requires g c = let me = c.requires.rests in (
  search rules,
  search rules,
  draws g.M.Turned.base g.M.Turned.entries c.args.self.now.table.shared.key _ _ _ (account _ _ _ _)
      (ap (λ m. m.0.ticket) me) (ap (λ m. m.0.holds) me) (ap (λ m. m.0.entered) me) (ap (λ m. m.0.accounts) me)
      c.requires.turns,
)

pub fetch_add-requires : goal.fetch_add-requires
fetch_add-requires g c =
    let m = c.args.place.now.me in
    let n : ℕ = c.args.number in
    let t : ℕ = turns_of m.0 in let ticket : ℕ = c.fetch_add-ticket.result in let m₁ = c.fetch_add-ticket.new.seat.me in
    let value = c.step-answer.new.self in let list = g.M.Turned.entries c.take-value.result in
    let drew = drew_ticket n t ticket m m₁ c.requires.rests c.fetch_add-ticket.ensures.2 in
    let me = put_value n t ticket list value m m₁ c.take-value.new.place.me c.exchange.new.seat.me drew
    c.take-value.ensures.place c.exchange.ensures.3 in
    let a = c.length-before.ensures in
    let b = c.length.ensures in let longer = (grown_length _ _ _ c.step-answer.ensures.entries).0 in (
      search rules,
      search rules,
      enters g.M.Turned.base g.M.Turned.entries c.args.self.now.table.shared.key _ _ _ (account _ _ _ _) value _
          (ap (λ x. x.0.holds) me) (ap (λ x. x.0.entered) me) (ap (λ x. x.0.accounts) me) (ap (λ x. x.1) me)
          c.step-answer.ensures.entries (omega arith),
    )

pub load-requires : goal.load-requires
load-requires g c =
    let m = c.args.place.now.me in
    let n : ℕ = c.args.number in
    let t : ℕ = turns_of m.0 in let ticket : ℕ = c.fetch_add-ticket.result in let m₁ = c.fetch_add-ticket.new.seat.me in
    let value = c.step-answer.new.self in
    let before = g.M.Turned.entries c.take-value.result in let list = g.M.Turned.entries value in
    let drew = drew_ticket n t ticket m m₁ c.requires.rests c.fetch_add-ticket.ensures.2 in
    let put = put_value n t ticket before value m m₁ c.take-value.new.place.me c.exchange.new.seat.me drew
    c.take-value.ensures.place c.exchange.ensures.3 in
    let me =
    entered_list n t ticket before list value m c.exchange.new.seat.me c.fetch_add.new.seat.me put
    (c.fetch_add.ensures.2 value (ap (λ x. x.1) put)) in (
      search rules,
      search rules,
      gives_back g.M.Turned.base g.M.Turned.entries c.args.self.now.table.shared.key _ _ _ (account _ _ _ _) value
          (ap (λ x. x.0.holds) me) (ap (λ x. x.0.accounts) me) (ap (λ x. x.1) me) refl
          (ap (λ x. x.0.base) me
          ∙ (sym (ap (λ x. x.0.base) drew)
          ∙ (c.take-value.ensures.base ∙ ap (λ b. Some b) (sym c.step-answer.ensures.base)))),
    )

pub fetch_add-requires-2 : goal.fetch_add-requires-2
fetch_add-requires-2 g c =
    let m = c.args.place.now.me in
    let n : ℕ = c.args.number in
    let t : ℕ = turns_of m.0 in let ticket : ℕ = c.fetch_add-ticket.result in let m₁ = c.fetch_add-ticket.new.seat.me in
    let value = c.step-answer.new.self in
    let before = g.M.Turned.entries c.take-value.result in let list = g.M.Turned.entries value in
    let drew = drew_ticket n t ticket m m₁ c.requires.rests c.fetch_add-ticket.ensures.2 in
    let put = put_value n t ticket before value m m₁ c.take-value.new.place.me c.exchange.new.seat.me drew
    c.take-value.ensures.place c.exchange.ensures.3 in
    let entered = entered_list n t ticket before list value m c.exchange.new.seat.me c.fetch_add.new.seat.me put
    (c.fetch_add.ensures.2 value (ap (λ x. x.1) put)) in
    let me =
    gave_value n t ticket before list value m c.fetch_add.new.seat.me c.load.new.seat.me entered c.load.ensures.2 in (
      search rules,
      search rules,
      leaves g.M.Turned.base g.M.Turned.entries c.args.self.now.table.shared.key _ _ _ (ap (λ x. x.0.holds) me)
          (ap (λ x. x.0.entered) me),
    )

pub returns-clause-place : goal.returns-clause-place
returns-clause-place g c =
    let m = c.args.place.now.me in
    let n : ℕ = c.args.number in
    let t : ℕ = turns_of m.0 in let ticket : ℕ = c.fetch_add-ticket.result in let m₁ = c.fetch_add-ticket.new.seat.me in
    let value = c.step-answer.new.self in
    let before = g.M.Turned.entries c.take-value.result in let list = g.M.Turned.entries value in
    let drew = drew_ticket n t ticket m m₁ c.requires.rests c.fetch_add-ticket.ensures.2 in
    let put = put_value n t ticket before value m m₁ c.take-value.new.place.me c.exchange.new.seat.me drew
    c.take-value.ensures.place c.exchange.ensures.3 in
    let entered = entered_list n t ticket before list value m c.exchange.new.seat.me c.fetch_add.new.seat.me put
    (c.fetch_add.ensures.2 value (ap (λ x. x.1) put)) in
    let gave =
    gave_value n t ticket before list value m c.fetch_add.new.seat.me c.load.new.seat.me entered c.load.ensures.2 in
    let me =
    left_turn n t ticket before list m c.load.new.seat.me c.fetch_add-2.new.seat.me gave c.fetch_add-2.ensures.2 in
    me ∙ ap (λ l. (with_turn n l m.0, [])) (sym (ap (λ x. seen_by x.0) me))

pub returns-clause-turn : goal.returns-clause-turn
returns-clause-turn g c =
    let m = c.args.place.now.me in
    let n : ℕ = c.args.number in
    let t : ℕ = turns_of m.0 in let ticket : ℕ = c.fetch_add-ticket.result in let m₁ = c.fetch_add-ticket.new.seat.me in
    let value = c.step-answer.new.self in
    let before = g.M.Turned.entries c.take-value.result in let list = g.M.Turned.entries value in
    let drew = drew_ticket n t ticket m m₁ c.requires.rests c.fetch_add-ticket.ensures.2 in
    let put = put_value n t ticket before value m m₁ c.take-value.new.place.me c.exchange.new.seat.me drew
    c.take-value.ensures.place c.exchange.ensures.3 in
    let entered = entered_list n t ticket before list value m c.exchange.new.seat.me c.fetch_add.new.seat.me put
    (c.fetch_add.ensures.2 value (ap (λ x. x.1) put)) in
    let gave =
    gave_value n t ticket before list value m c.fetch_add.new.seat.me c.load.new.seat.me entered c.load.ensures.2 in
    let me =
    left_turn n t ticket before list m c.load.new.seat.me c.fetch_add-2.new.seat.me gave c.fetch_add-2.ensures.2 in
    whole_turn g.M.Turned.base g.M.Turned.entries (λ b xs ys. g.M.Turned.replies b xs n c.step-answer.result ys) n t
    ticket (g.M.Turned.base (given c.args.self.now)) c.take-value.result value m m₁ c.fetch_add-2.new.seat.me
    drew me c.requires.based c.take-value.ensures.base c.take-value.ensures.seen c.take-value.ensures.mine
    c.step-answer.ensures.entries c.step-answer.ensures.answer
