-- The loops that make a setup.
use Rattle.std.proofs.Common.{◌≡◌, ℕ, zero, suc, ◌+◌, ◌<◌, ◌%◌, List, [], ◌∷◌, ◌++◌, map, length, replicate, set, get_or, refl, ap, sym, ◌∙◌, add-one}
use Rattle.bus_signals.specs.declared.Access.{Access}
use Rattle.std.proofs.lemmas.List.{replicate-append-replicate, length-set, length_push, map_push, map-set, get_or-map}
use Rattle.std.specs.Prelude.{Vec}
use Rattle.std.specs.declared.alloc.Global.{Global}
use Rattle.class_relation.specs.Rows.{rows}
use Rattle.generator.specs.Generated.{dealt, with_access, generated_access, access_of_kind, access_of_draws, numbers_to}

pub length-dealt : (n accesses : ℕ) → length (dealt n accesses) ≡ 16
unfolding dealt
length-dealt n zero = refl
length-dealt n (suc j) = length-set (dealt n j) _ _ ∙ length-dealt n j

-- One more access is dealt.
pub dealt_more :
    (n j : ℕ) (access : Access) (before after : List (List Access)) → before ≡ dealt n j → access ≡ generated_access n j
    → after ≡ with_access before (j % 16) access → after ≡ dealt n (j + 1)
unfolding dealt
dealt_more n j access before after was is then =
    then
    ∙ ap (λ (scripts : List (List Access)). with_access scripts (j % 16) access) was
    ∙ ap (λ (a : Access). with_access (dealt n j) (j % 16) a) is
    ∙ ap (dealt n) (sym (add-one j))

-- The access that three words give.
pub access_by_words :
    (a b z x y w : ℕ) → a ≡ x → b ≡ y → z ≡ w → access_of_kind (a % 16) (b % 256) z ≡ access_of_draws x y w
access_by_words a b z x y w p q r = λ i. access_of_kind (p i % 16) (q i % 256) (r i)

pub length-numbers : (n : ℕ) → length (numbers_to n) ≡ n
length-numbers zero = refl
length-numbers (suc n) = length_push (numbers_to n) (suc n) ∙ ap (λ k. k + 1) (length-numbers n) ∙ add-one n

pub numbers_more :
    {X : Type 0} (f : ℕ → X) (n : ℕ) → map f (numbers_to (n + 1)) ≡ map f (numbers_to n) ++ f (n + 1) ∷ []
numbers_more f n =
    ap (λ k. map f (numbers_to k)) (add-one n) ∙ map_push f (numbers_to n) (suc n)
    ∙ ap (λ k. map f (numbers_to n) ++ f k ∷ []) (sym (add-one n))

pub replicate_one_more : {X : Type 0} (n : ℕ) (x : X) → replicate (n + 1) x ≡ replicate n x ++ x ∷ []
replicate_one_more n x = sym (replicate-append-replicate n 1 x)

pub dealt_none : (n : ℕ) → replicate 16 [] ≡ dealt n 0
unfolding dealt
dealt_none n = refl

-- Where an access is pushed at the end of one of the scripts.
pub push_access :
    (scripts : List (Vec Access Global)) (index : ℕ) (access : Access) (old new : Vec Access Global)
    → index < length scripts → old ≡ get_or scripts index old → new.items ≡ old.items ++ access ∷ []
    → rows (set scripts index new) ≡ with_access (rows scripts) index access
push_access scripts index access old new within is pushed =
    let was = get_or-map (λ (v : Vec Access Global). v.items) scripts index old [] within in
    let put = map-set (λ (v : Vec Access Global). v.items) scripts index new in
    put
    ∙ ap (λ (xs : List Access). set (rows scripts) index xs)
    (pushed ∙ ap (λ (v : Vec Access Global). v.items ++ access ∷ []) is
    ∙ ap (λ (xs : List Access). xs ++ access ∷ []) (sym was))
