-- The generated setup of a number.
use Rattle.std.specs.Prelude.{ℕ, zero, suc, ◌+◌, ◌-◌, ◌*◌, ◌%◌, ◌^◌, ◌==◌, nat_lt, false, List, [], ◌∷◌, ◌++◌, map, replicate, slice_set, slice_index_or, if◌then◌else◌}
use Rattle.bus_signals.specs.declared.Access.{Access}
use Rattle.bus_signals.specs.declared.Access.TheVariants.{Read, Write, Pass, Flush}
use Rattle.class_relation.specs.Tables.{Table}
use Rattle.table_check.specs.KnownTables.{uncached, copy_back, copy_back_update, write_through, whole_class}
use Rattle.bus_model.specs.Setup.{Setup, BoardSpec, Shape, Plain, Cached, Seed}
use Rattle.bus_model.specs.Turns.{seeded_word}

-- The access of a kind from 0 to 15: eight kinds read, six write this word, one passes and one
-- flushes.
abbrev pub access_of_kind : ℕ → ℕ → ℕ → Access
access_of_kind kind address word =
    if nat_lt kind 8 then Read address else
    (if nat_lt kind 14 then Write address word else
    (if kind == 14 then Pass address else Flush address))

-- The access that three draws give: the first its kind, the second its address, and the third the
-- word of a write.
abbrev pub access_of_draws : ℕ → ℕ → ℕ → Access
access_of_draws x y z = access_of_kind (x % 16) (y % 256) z

-- The access of this index, counted from 0: each takes the next three words of the seed.
abbrev pub generated_access : ℕ → ℕ → Access
generated_access n j =
    access_of_draws (seeded_word n (3 * j)) (seeded_word n (3 * j + 1)) (seeded_word n (3 * j + 2))

-- The scripts with one more access at the end of the one at this index.
abbrev pub with_access : List (List Access) → ℕ → Access → List (List Access)
with_access scripts index access =
    slice_set scripts index (slice_index_or scripts index [] ++ access ∷ [])

-- The scripts of sixteen boards after this many accesses were dealt, one to each board in turn.
unfoldable pub dealt : ℕ → ℕ → List (List Access)
dealt n zero = replicate 16 []
dealt n (suc j) = with_access (dealt n j) (j % 16) (generated_access n j)

-- The tables of the generated setup.
abbrev pub generated_tables : List Table
generated_tables = copy_back ∷ copy_back_update ∷ write_through ∷ uncached ∷ whole_class ∷ []

-- The cache of a board with the table of this index: none with the uncached table.
abbrev pub shape_of_table : ℕ → Shape
shape_of_table table = if table == 3 then Plain else Cached 4 2

-- The board of this place, counted from 1. The tables go round.
abbrev pub generated_board : ℕ → ℕ → BoardSpec
generated_board n place = record {
  number = 15 * place;
  table = (place - 1) % 5;
  shape = shape_of_table ((place - 1) % 5);
  choose = Seed ((n + place) % 2 ^ 64);
}

-- The numbers from 1 up to this one.
abbrev pub numbers_to : ℕ → List ℕ
numbers_to zero = []
numbers_to (suc n) = numbers_to n ++ suc n ∷ []

-- The generated setup of a number: 64 lines of 0, the five tables, 16 boards, and 100,000 accesses.
abbrev pub generated : ℕ → Setup
generated n = record {
  memory = replicate 256 0;
  fair = false;
  tables = generated_tables;
  boards = map (generated_board n) (numbers_to 16);
  scripts = dealt n 100000;
}
