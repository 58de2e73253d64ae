use Rattle.std.proofs.Common.{arith, sym, ◌∙◌, length, ap, map, ◌≡◌}
use Rattle.std.proofs.lemmas.List.{length-map}
use Rattle.board.specs.Frames.{changed}
use Rattle.board.proofs.FrameFacts.{frames_with-held, frames_with-gone, spliced}
use Rattle.board.proofs.line_set.set_or_remove.Goals as goal

pub returns-then-holds-clause-items : goal.returns-then-holds-clause-items
returns-then-holds-clause-items c =
    let xs = c.args.frames.now.items in
    let e = c.set_states.ensures ∙ ap (map (changed c.args.line c.args.state)) c.deref_mut.ensures.value in
    let long : length c.set_states.new.frames ≡ length xs = ap length e ∙ length-map xs _ in
    let ok = c.args.frames.now.ok in
    spliced xs c.set_states.new.frames c.args.frames.now.len long (omega arith)
    ∙ e ∙ sym (frames_with-held xs c.args.line c.args.state (sym c.holds.ensures ∙ c.if-holds.true))

pub returns-else-holds-clause-items : goal.returns-else-holds-clause-items
returns-else-holds-clause-items c =
    c.remove_all.ensures.items
    ∙ sym (frames_with-gone _ c.args.line c.args.state (sym c.holds.ensures ∙ c.if-holds.false))
