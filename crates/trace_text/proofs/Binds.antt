-- Steps of reading, taken apart.
use Rattle.std.proofs.Common.{◌≡◌, ℕ, Bool, true, false, cond, List, [], ◌∷◌, Option, Some, None, refl, ap}
use Rattle.std.specs.Str.{bytes_eq}
use Rattle.std.proofs.lemmas.Slice.Eq.{bytes_eq-Decides}
use Rattle.fb_text.specs.Places.{Words}
use Rattle.trace_text.specs.Reading.{◌>>=◌, behind, by, this, ended}

pub bind_some :
    {A B : Type 0} (o : Option A) (f : A → Option B) (y : B) → (o >>= f) ≡ Some y
    → (x : A) × (o ≡ Some x) × (f x ≡ Some y)
bind_some None f y e = absurd cc
bind_some (Some x) f y e = (x, refl, e)

pub some_same : {A : Type 0} (x y : A) → Some x ≡ Some y → x ≡ y
some_same x y e = cc

pub behind_some :
    {A : Type 0} (ws : Words) (o : Option A) (x : A × Words) → behind ws o ≡ Some x → (o ≡ Some x.0) × (ws ≡ x.1)
behind_some ws None x e = absurd cc
behind_some {A} ws (Some y) x e =
    let same = some_same {A = A × Words} (y, ws) x e in
    (ap (λ (z : A × Words). Some z.0) same, ap (λ (z : A × Words). z.1) same)

-- The next word was read as this value.
pub by_some :
    {A : Type 0} (f : List ℕ → Option A) (ws : Words) (x : A × Words) → by f ws ≡ Some x
    → (w : List ℕ) × (ws ≡ w ∷ x.1) × (f w ≡ Some x.0)
by_some f [] x e = absurd cc
by_some f (w ∷ ws) x e = let h = behind_some ws (f w) x e in (w, ap (λ (v : Words). w ∷ v) h.1, h.0)

-- A word that passes the test is the one that it is compared with.
pub is_word : (w v : List ℕ) → bytes_eq w v ≡ true → w ≡ v
is_word w v h = (bytes_eq-Decides w v).0 h

-- The next word was this one.
pub this_some : (v : List ℕ) (ws more : Words) → this v ws ≡ Some more → ws ≡ v ∷ more
this_some v [] more e = absurd cc
this_some v (w ∷ ws) more e = go (bytes_eq w v) refl e
  where
    go : (b : Bool) → bytes_eq w v ≡ b → cond b (Some ws) None ≡ Some more → (w ∷ ws) ≡ v ∷ more
    go true h e = let same = some_same ws more e in λ i. is_word w v h i ∷ same i
    go false h e = absurd cc

-- The line ended.
pub ended_some : {A : Type 0} (x : A) (ws : Words) (y : A) → ended x ws ≡ Some y → (ws ≡ []) × (x ≡ y)
ended_some x [] y e = (refl, some_same x y e)
ended_some x (w ∷ ws) y e = absurd cc
