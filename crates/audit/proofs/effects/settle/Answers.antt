use Rattle.std.proofs.Common.{◌≡◌, ◌^◌, ◌∙◌, ap, sym, subst, arith, false, length}
use Rattle.bus_signals.specs.Accesses.{line_of}
use Rattle.bus_model.specs.Board.{access_line}
use Rattle.bus_model.specs.Carrying.{written}
use Rattle.bus_model.specs.Configuration.{Configuration, words_at}
use Rattle.bus_model.specs.Effects.{asking, completed, put_copy, spent}
use Rattle.bus_model.specs.Places.{change_place}
use Rattle.audit.specs.Parts.{PlacesBelow, SpentBelow, shown}
use Rattle.audit.specs.Steps.{displaced}
use Rattle.audit.proofs.Settled.{displaced-boards, lent-whole, settled-parts}
use Rattle.audit.proofs.Spending.{put-places, put-spent, spent-weaker}
use Rattle.audit.proofs.effects.settle.Goals as goal

pub finish-requires-clause-places : goal.finish-requires-clause-places
finish-requires-clause-places c =
    let old = shown c.args.parts.now in
    let gone = shown c.displace.new.parts in
    let line = c.line-line.result in
    let put : shown c.put_copy.new.parts ≡ put_copy gone c.args.board line c.args.state c.written-words.result =
    c.in_ok-put_copy.ensures in
    let same : gone.boards ≡ old.boards =
    ap (λ (x : Configuration). x.boards) c.displace.ensures
    ∙ displaced-boards old c.args.board (displaced c.args.setup.now old.rows c.args.board line c.args.state) in
    subst (PlacesBelow (2 ^ 31)) (sym (c.as_mut_slice.ensures.value ∙ ap (λ (x : Configuration). x.boards) put))
    (put-places gone c.args.board line c.args.state c.written-words.result (2 ^ 31)
    (subst (PlacesBelow (2 ^ 31)) (sym same) c.requires.places))

pub finish-requires-clause-draws : goal.finish-requires-clause-draws
finish-requires-clause-draws c =
    let old = shown c.args.parts.now in
    let gone = shown c.displace.new.parts in
    let line = c.line-line.result in
    let put : shown c.put_copy.new.parts ≡ put_copy gone c.args.board line c.args.state c.written-words.result =
    c.in_ok-put_copy.ensures in
    let same : gone.boards ≡ old.boards =
    ap (λ (x : Configuration). x.boards) c.displace.ensures
    ∙ displaced-boards old c.args.board (displaced c.args.setup.now old.rows c.args.board line c.args.state) in
    subst (SpentBelow (2 ^ 63)) (sym (c.as_mut_slice.ensures.value ∙ ap (λ (x : Configuration). x.boards) put))
    (put-spent gone c.args.board line c.args.state c.written-words.result (2 ^ 63)
    (spent-weaker (2 ^ 62) (2 ^ 63) gone.boards (omega arith)
    (subst (SpentBelow (2 ^ 62)) (sym same) c.requires.spent)))

pub returns : goal.returns
returns c =
    let old = shown c.args.parts.now in
    let gone = shown c.displace.new.parts in
    let next = c.put_copy.new.parts in
    let line = c.line-line.result in
    let done = c.args.done.now in
    let there : line ≡ access_line done.access = c.line-line.ensures ∙ ap line_of c.addr.ensures in
    let words : c.written-words.result ≡ written done.access (words_at gone.rows c.args.board line) =
    c.written-words.ensures
    ∙ ap (written done.access)
    (c.words_of.ensures ∙ ap (λ rows. words_at rows c.args.board line) c.deref.ensures.value) in
    let boards = lent-whole next.boards.len next.boards.items c.finish.new.boards next.boards.ok.0
    (c.finish.auto.boards ∙ ap length c.as_mut_slice.ensures.value)
    ∙ c.finish.ensures
    ∙ ap (λ boards.
    change_place (asking false) (change_place spent (change_place completed boards c.args.board) c.args.board)
    c.args.board) c.as_mut_slice.ensures.value in
    settled-parts c.args.setup.now old gone (shown next) c.args.board line c.args.state done c.written-words.result _ _
    there c.displace.ensures words c.in_ok-put_copy.ensures boards c.give_back.ensures
