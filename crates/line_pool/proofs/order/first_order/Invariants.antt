use Rattle.std.proofs.Common.{◌≡◌, ℕ, ◌<◌, length}
use Rattle.std.specs.Prelude.{slice_index}
use Rattle.line_pool.proofs.order.first_order.Given as goal

abbrev pub invariant-loop-frame : goal.invariant-loop-frame
invariant-loop-frame l = (length l.order.items ≡ l.frame) × ((i : ℕ) → i < l.frame → slice_index l.order.items i ≡ i)
