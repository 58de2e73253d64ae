use Rattle.std.proofs.Common.{◌≡◌, ℕ, ◌≤◌, List, [], ◌∷◌, Some, length, ap, sym, ◌∙◌, arith}
use Rattle.std.specs.Prelude.{option_map}
use Rattle.moesi_state.specs.declared.State.{State}
use Rattle.bus_model.specs.Configuration.{Row, row_at}
use Rattle.board.specs.Rack.{all_ways}
use Rattle.board.proofs.Sharing.{one-frame}
use Rattle.backplane.specs.declared.sizes.Need.{Need}
use Rattle.backplane.specs.Machine.{Machine, configuration}
use Rattle.backplane.proofs.machine.Machine.only_frame.Goals as goal

-- Where a board has a copy there is a row.
some-row : (rows : List Row) (board line : ℕ) (copy : State × List ℕ)
    → option_map (λ (row : Row). (row.state, row.words)) (row_at rows board line) ≡ Some copy
    → 1 ≤ length rows
some-row [] board line copy e = cc
some-row (row ∷ rows) board line copy e = omega arith

pub words-requires : goal.words-requires
words-requires c =
    let m = c.self.inside in
    let rows : m.parts.rack.rows ≡ (configuration c.args.self.now).rows =
    c.self.invariant.parts.rack.rows ∙ ap (λ (x : Machine). (configuration x).rows) c.self.view_is in
    let long = ap (λ (rs : List Row). length rs) rows in
    let some = some-row (configuration c.args.self.now).rows c.args.board c.args.line c.in-Some.field-0
    (sym c.copy.ensures.copy ∙ c.in-Some.is) in
    let ways : all_ways m.parts.rack.specs ≡ all_ways m.setup.boards = ap all_ways c.self.invariant.parts.boards in
    let frames : all_ways m.setup.boards ≡ c.need.result.frames = sym (ap (λ (n : Need). n.frames) c.need.ensures) in
    let one = c.if-need-ne1.false in
    one-frame c.pool.result.now m.parts.rack.rows c.pool.ensures.rows (omega (arith, long, some))
    (c.pool.ensures.all ∙ omega (arith, ways, frames, one))
