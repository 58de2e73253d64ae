-- How many items lists have room for.
use Rattle.std.specs.Prelude.{ℕ, List, map, vec_capacity}
use Rattle.std.specs.Global.{Vec}

-- The room of each vector.
abbrev pub rooms : {T : Type 0} → List (Vec T) → List ℕ
rooms vs = map (λ v. vec_capacity v) vs
