-- The lists of the histories, kept as vectors.
use Rattle.std.proofs.Common.{◌≡◌, ℕ, zero, suc, ◌-◌, ◌<◌, ◌≤◌, ◌+◌, List, [], ◌∷◌, ◌++◌, map, length, take, set, get_or, refl, ap, sym, ◌∙◌, arith}
use Rattle.std.specs.Prelude.{slice_get, unwrap_or, vec_capacity}
use Rattle.std.specs.Global.{Vec}
use Rattle.std.proofs.lemmas.List.{map-set, get_or-map, take_more}
use Rattle.std.proofs.Math.Seq.{map-set_same}
use Rattle.class_relation.specs.Rows.{rows}
use Rattle.backplane.specs.Rooms.{rooms}
use Rattle.bus_model.specs.Places.{at_place, change_index, change_place}
use Rattle.bus_model.specs.Entries.{Entry}
use Rattle.backplane.specs.Histories.{Histories, added, empty_histories}

set-changed :
    {X : Type 0} (f : X → X) (xs : List X) (k : ℕ) (d : X) → k < length xs
    → set xs k (f (get_or xs k d)) ≡ change_index f xs k
set-changed f [] k d l = absurd (omega arith)
set-changed f (x ∷ xs) zero d l = refl
set-changed f (x ∷ xs) (suc k) d l = ap (λ ys. x ∷ ys) (set-changed f xs k d (omega arith))

-- An element is changed by setting it.
pub set-changes :
    {X : Type 0} (f : X → X) (xs : List X) (b k : ℕ) (d : X) → 1 ≤ b → k ≡ b - 1 → b ≤ length xs
    → set xs k (f (get_or xs k d)) ≡ change_place f xs b
set-changes f xs zero k d low e high = absurd (omega arith)
set-changes f xs (suc b) k d low e high = let same : k ≡ b = omega arith in rw same (set-changed f xs b d (omega arith))

get-unwrap : {X : Type 0} (xs : List X) (k : ℕ) (d : X) → unwrap_or (slice_get xs k) d ≡ get_or xs k d
get-unwrap [] k d = refl
get-unwrap (x ∷ xs) zero d = refl
get-unwrap (x ∷ xs) (suc k) d = get-unwrap xs k d

-- The element at a place is the element at the index before it.
pub at-get :
    {X : Type 0} (xs : List X) (b k : ℕ) (d : X) → 1 ≤ b → k ≡ b - 1 → unwrap_or (at_place xs b) d ≡ get_or xs k d
at-get xs zero k d low e = absurd (omega arith)
at-get xs (suc b) k d low e = let same : k ≡ b = omega arith in rw same (get-unwrap xs b d)

pub push-rows :
    {T : Type 0} (lists : List (Vec T)) (place : ℕ) (old new : Vec T) (item : T) → place < length lists
    → old ≡ get_or lists place old → new.items ≡ old.items ++ item ∷ []
    → rows (set lists place new) ≡ set (rows lists) place (get_or (rows lists) place [] ++ item ∷ [])
push-rows lists place old new item l is e =
    map-set (λ v. v.items) lists place new
    ∙ ap (set (rows lists) place)
    (e ∙ ap (λ xs. xs ++ item ∷ []) (ap (λ v. v.items) is ∙ sym (get_or-map (λ v. v.items) lists place old [] l)))

pub push-rooms :
    {T : Type 0} (lists : List (Vec T)) (place : ℕ) (old new : Vec T) → old ≡ get_or lists place old
    → vec_capacity new ≡ vec_capacity old → rooms (set lists place new) ≡ rooms lists
push-rooms lists place old new is e =
    map-set_same (λ v. vec_capacity v) lists place new old (e ∙ ap (λ v. vec_capacity v) is)

abbrev pub made : List (List Entry) → List ℕ → Histories
made es rs = record { entries = es; rooms = rs }

-- The histories after one more entry.
pub push-added :
    (h : Histories) (entries : List (List Entry)) (rooms : List ℕ) (b k : ℕ) (entry : Entry) → 1 ≤ b → k ≡ b - 1
    → b ≤ length h.entries
    → entries ≡ set h.entries k (get_or h.entries k [] ++ entry ∷ []) → rooms ≡ h.rooms
    → record { entries = entries; rooms = rooms } ≡ added h b entry
push-added h entries rooms b k entry low e high is same =
    ap (λ (es : List (List Entry)). made es rooms)
    (is ∙ set-changes (λ (list : List Entry). list ++ entry ∷ []) h.entries b k [] low e high)
    ∙ ap (made (change_place (λ (list : List Entry). list ++ entry ∷ []) h.entries b)) same

length-rows : {T : Type 0} (lists : List (Vec T)) → length (rows lists) ≡ length lists
length-rows [] = refl
length-rows (v ∷ lists) = ap suc (length-rows lists)

pub read-row :
    {T : Type 0} (lists : List (Vec T)) (b k : ℕ) (old : Vec T) → 1 ≤ b → k ≡ b - 1 → b ≤ length (rows lists)
    → old ≡ get_or lists k old
    → old.items ≡ unwrap_or (at_place (rows lists) b) []
read-row lists b k old low e high is =
    let long = length-rows lists in
    ap (λ v. v.items) is ∙ sym (get_or-map (λ v. v.items) lists k old [] (omega arith))
    ∙ sym (at-get (rows lists) b k [] low e)

rows-push : {T : Type 0} (lists : List (Vec T)) (v : Vec T) → rows (lists ++ v ∷ []) ≡ rows lists ++ v.items ∷ []
rows-push [] v = refl
rows-push (w ∷ lists) v = ap (λ xs. w.items ∷ xs) (rows-push lists v)

rooms-push :
    {T : Type 0} (lists : List (Vec T)) (v : Vec T) → rooms (lists ++ v ∷ []) ≡ rooms lists ++ vec_capacity v ∷ []
rooms-push [] v = refl
rooms-push (w ∷ lists) v = ap (λ xs. vec_capacity w ∷ xs) (rooms-push lists v)

empty-push :
    (rs : List ℕ) (r : ℕ)
    → empty_histories (rs ++ r ∷ []) ≡ made ((empty_histories rs).entries ++ [] ∷ []) (rs ++ r ∷ [])
empty-push rs r = ap (λ (es : List (List Entry)). made es (rs ++ r ∷ [])) (go rs)
  where
    go : (rs : List ℕ) → (empty_histories (rs ++ r ∷ [])).entries ≡ (empty_histories rs).entries ++ [] ∷ []
    go [] = refl
    go (x ∷ rs) = ap (λ (es : List (List Entry)). [] ∷ es) (go rs)

-- One more list without entries.
pub new-list :
    (rs : List ℕ) (i r : ℕ) (lists new : List (Vec Entry)) (v : Vec Entry) → i < length rs → r ≡ get_or rs i 0
    → new ≡ lists ++ v ∷ [] → v.items ≡ [] → vec_capacity v ≡ r
    → made (rows lists) (rooms lists) ≡ empty_histories (take i rs)
    → made (rows new) (rooms new) ≡ empty_histories (take (i + 1) rs)
new-list rs i r lists new v l is en ei er h =
    ap (λ (vs : List (Vec Entry)). made (rows vs) (rooms vs)) en
    ∙ ap (λ (es : List (List Entry)). made es (rooms (lists ++ v ∷ [])))
    (rows-push lists v ∙ ap (λ (es : List Entry). rows lists ++ es ∷ []) ei)
    ∙ ap (made (rows lists ++ [] ∷ [])) (rooms-push lists v ∙ ap (λ (n : ℕ). rooms lists ++ n ∷ []) er)
    ∙ ap (λ (x : Histories). made (x.entries ++ [] ∷ []) (x.rooms ++ r ∷ [])) h
    ∙ sym (empty-push (take i rs) r)
    ∙ ap empty_histories (ap (λ (n : ℕ). take i rs ++ n ∷ []) is ∙ sym (take_more rs i 0 l))

-- One more number 0.
pub zeros-more :
    {X : Type 0} (xs : List X) (i : ℕ) → i < length xs
    → ◌++◌ {A = ℕ} (map (λ (x : X). zero) (take i xs)) (zero ∷ []) ≡ map (λ (x : X). zero) (take (i + 1) xs)
zeros-more [] i l = absurd (omega arith)
zeros-more (x ∷ xs) zero l = refl
zeros-more (x ∷ xs) (suc i) l =
    let e : suc i + 1 ≡ suc (i + 1) = omega arith in
    rw e (ap (λ (ns : List ℕ). zero ∷ ns) (zeros-more xs i (omega arith)))
