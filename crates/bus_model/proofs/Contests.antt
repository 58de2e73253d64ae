-- Small contests, computed round by round.
use Rattle.std.proofs.Common.{◌≡◌, [], ◌∷◌, map, refl}
use Rattle.bus_model.specs.Settling.{lines_after, driven, driven_below, rounds_from, settled_lines, settled_rounds}

pub three_lines : map (lines_after (10 ∷ 9 ∷ 7 ∷ [])) (0 ∷ 1 ∷ 2 ∷ 3 ∷ []) ≡ 15 ∷ 8 ∷ 11 ∷ 10 ∷ []
unfolding lines_after driven_below
three_lines = refl

pub three_settled : settled_lines (10 ∷ 9 ∷ 7 ∷ []) ≡ 10
unfolding lines_after driven_below rounds_from
three_settled = refl

pub three_rounds : settled_rounds (10 ∷ 9 ∷ 7 ∷ []) ≡ 3
unfolding lines_after driven_below rounds_from
three_rounds = refl

pub alone_rounds : settled_rounds (10 ∷ []) ≡ 0
unfolding lines_after driven_below rounds_from
alone_rounds = refl

pub ten_bits : map (lines_after (640 ∷ 576 ∷ 511 ∷ [])) (0 ∷ 1 ∷ 2 ∷ 3 ∷ []) ≡ 1023 ∷ 512 ∷ 704 ∷ 640 ∷ []
unfolding lines_after driven_below
ten_bits = refl

pub ten_bits_settled : settled_lines (640 ∷ 576 ∷ 511 ∷ []) ≡ 640
unfolding lines_after driven_below rounds_from
ten_bits_settled = refl

pub ten_bits_rounds : settled_rounds (640 ∷ 576 ∷ 511 ∷ []) ≡ 3
unfolding lines_after driven_below rounds_from
ten_bits_rounds = refl

pub no_eleventh : driven 1024 1 ≡ 1
unfolding driven_below
no_eleventh = refl
