-- One alternative after another.
use Rattle.std.proofs.Common.{◌≡◌, ℕ, suc, ◌+◌, ◌-◌, ◌<◌, ◌≤◌, Bool, true, false, List, Result, Ok, Err, refl, sym, ◌∙◌, arith, Option}
use Rattle.class_relation.specs.Tables.{Table}
use Rattle.table_text.specs.declared.fault.TableKind.{TableKind}
use Rattle.table_text.specs.declared.fault.TableKind.TheVariants.{UnknownWord}
use Rattle.table_text.specs.declared.fault.TableFault.{TableFault}
use Rattle.table_text.specs.declared.fault.TableFault.TheVariants as faults
use Rattle.fb_text.specs.Places.{Words}
use Rattle.table_text.specs.Reading.{alternatives, no_room, Fails}

module _ {A X : Type 0} (first : List ℕ → Option X) (read : TableKind → Words → Result (A × Bool × Words) TableKind)
    (add : Table → A → Table) (i : ℕ) (missing : TableKind) (t : Table) (ws : Words) where
  turn : i < 16 → 16 - i ≡ suc (16 - (i + 1))
  turn lt = omega arith

  pub one_more :
      (a : A) (rest : Words) → i < 16 → read missing ws ≡ Ok (a, true, rest)
      → alternatives first read add (16 - i) missing t ws
      ≡ alternatives first read add (16 - (i + 1)) UnknownWord (add t a) rest
  unfolding alternatives
  one_more a rest lt e = rw (turn lt, e) refl

  pub last :
      (a : A) (rest : Words) → i < 16 → read missing ws ≡ Ok (a, false, rest)
      → alternatives first read add (16 - i) missing t ws ≡ Ok (add t a)
  unfolding alternatives
  last a rest lt e = rw (turn lt, e) refl

  pub fails :
      (fault : TableFault) (line : ℕ) (total : Result Table TableKind) → i < 16 → Fails fault line (read missing ws)
      → alternatives first read add (16 - i) missing t ws ≡ total → Fails fault line total
  unfolding alternatives
  fails faults.NoMemory line total lt h so_far = tt
  fails (faults.Bad l kind) line total lt h so_far =
      let one : alternatives first read add (16 - i) missing t ws ≡ Err kind = rw (turn lt, h.1) refl in
      (h.0, sym so_far ∙ one)

  pub full : 16 ≤ i → alternatives first read add (16 - i) missing t ws ≡ no_room first missing ws
  unfolding alternatives
  full le =
      let none : 16 - i ≡ 0 = omega arith in
      rw none refl
