-- One text printed after another, through a page.
use Rattle.std.proofs.Common.{◌≡◌, ℕ, zero, ◌+◌, List, [], ◌∷◌, ◌++◌, take, drop, length, get_or, suc, ◌<◌, drop-cons, Ok, Err, refl, sym, ap, ◌∙◌, subst, append_assoc, append-nil, arith}
use Rattle.std.proofs.Math.Seq.{take-append-add}
use Rattle.std.specs.List.{flat_map}
use Rattle.std.proofs.lemmas.List.{take-append-drop, take_more}
use Rattle.std.proofs.lemmas.List.Concat.{flat_map-append, flat_map-cons}
use Rattle.std.specs.declared.option.Option.{Option}
use Rattle.std.specs.Io.KnownBytes.{Appends}
use Rattle.std.proofs.KnownBytes.{Appends-trans}
use Rattle.fb_edge.specs.Outside.{AppendsFront}
use Rattle.fb_edge.specs.declared.outside.PutFailed.{PutFailed}
use Rattle.std.specs.Prelude.{Result}
use Rattle.run_text.specs.Printing.{Printed, Passed, Paged, Pages}

take-front : (xs ys : List ℕ) (k : ℕ) → (n : ℕ) × (take n (xs ++ ys) ≡ take k xs)
take-front [] ys zero = (0, refl)
take-front [] ys (suc k) = (0, refl)
take-front (x ∷ xs) ys zero = (0, refl)
take-front (x ∷ xs) ys (suc k) = let r = take-front xs ys k in (suc r.0, ap (λ (t : List ℕ). x ∷ t) r.1)

-- A front of the second text after the first is a front of both.
pub front-then :
    (a b c : Option (List ℕ)) (first second : List ℕ) → Appends a b first → AppendsFront b c second
    → AppendsFront a c (first ++ second)
front-then a b c first second whole front = (
  length first + front.0,
  subst (λ (t : List ℕ). Appends a c t) (sym (take-append-add first second front.0))
      (Appends-trans a b c first (take front.0 second) whole front.1),
)

-- A front of the first text is a front of both.
pub front-more :
    (a b : Option (List ℕ)) (first second : List ℕ) → AppendsFront a b first → AppendsFront a b (first ++ second)
front-more a b first second front =
    let r = take-front first second front.0 in
    (r.0, subst (λ (t : List ℕ). Appends a b t) (sym r.1) front.1)

-- Two texts that went through a page one after another.
passed-both :
    {a b c : Option (List ℕ)} {p q r first second : List ℕ} → Passed a b p q first → Passed b c q r second
    → Passed a c p r (first ++ second)
passed-both {a} {b} {c} {p} {q} {r} {first} {second} before now = record {
  written = before.written ++ now.written;
  taken = Appends-trans a b c before.written now.written before.taken now.taken;
  same = append_assoc before.written now.written r
      ∙ ap (λ (t : List ℕ). before.written ++ t) now.same
      ∙ sym (append_assoc before.written q second)
      ∙ ap (λ (t : List ℕ). t ++ second) before.same
      ∙ append_assoc p first second;
}

-- A front of what waited and the second text, after the first, is a front of what waited at first and both.
passed-then :
    (a b c : Option (List ℕ)) (p q first second : List ℕ) → Passed a b p q first → AppendsFront b c (q ++ second)
    → AppendsFront a c (p ++ (first ++ second))
passed-then a b c p q first second before front =
    let same : before.written ++ (q ++ second) ≡ p ++ (first ++ second) =
    sym (append_assoc before.written q second) ∙ ap (λ (t : List ℕ). t ++ second) before.same
    ∙ append_assoc p first second in
    subst (λ (t : List ℕ). AppendsFront a c t) same (front-then a b c before.written (q ++ second) before.taken front)

-- A front of what waited and the first text is a front of what waited and both.
waited-more :
    (a b : Option (List ℕ)) (p first second : List ℕ) → AppendsFront a b (p ++ first)
    → AppendsFront a b (p ++ (first ++ second))
waited-more a b p first second front =
    subst (λ (t : List ℕ). AppendsFront a b t) (append_assoc p first second) (front-more a b (p ++ first) second front)

-- A text that failed after one that went through the page, whatever was to follow.
pub failed-behind :
    {T U E : Type 0} {f g h : ℕ} {a b c : Option (List ℕ)} {p q r s first second : List ℕ} (rest whole : List ℕ) (e : E)
    → whole ≡ first ++ (second ++ rest) → Pages f g a b p q first → Paged {T = T} {E = E} g h b c q r second (Err e)
    → Paged {T = U} {E = E} f h a c p s whole (Err e)
failed-behind {T} {U} {E} {f} {g} {h} {a} {b} {c} {p} {q} {r} {s} {first} {second} rest whole e is before now =
    let front : AppendsFront a c (p ++ (first ++ (second ++ rest))) =
    passed-then a b c p q first (second ++ rest) before.passed (waited-more b c q second rest now.front) in
    let later = now.cause.later in
    let rose = now.cause.failed in
    record {
      whole = tt;
      front = subst (λ (t : List ℕ). AppendsFront a c (p ++ t)) (sym is) front;
      cause = record { later = omega (arith, later, before.later); failed = omega (arith, rose, before.later) };
    }

-- The texts of a list: those before an element, that of the element, and those after it.
pub flat_map-at :
    {X : Type 0} (f : X → List ℕ) (xs : List X) (i : ℕ) (x : X) → i < length xs → x ≡ get_or xs i x
    → flat_map f xs ≡ flat_map f (take i xs) ++ (f x ++ flat_map f (drop (suc i) xs))
flat_map-at f xs i x less is =
    ap (flat_map f) (sym (take-append-drop i xs))
    ∙ flat_map-append f (take i xs) (drop i xs)
    ∙ ap (λ (t : List ℕ). flat_map f (take i xs) ++ t)
    (ap (flat_map f) (drop-cons xs i x less) ∙ ap (λ y. f y ++ flat_map f (drop (suc i) xs)) (sym is))

-- The texts of a list as far as after an element: those before it, and that of the element.
pub flat_map-more :
    {X : Type 0} (f : X → List ℕ) (xs : List X) (i : ℕ) (x : X) → i < length xs → x ≡ get_or xs i x
    → flat_map f (take (i + 1) xs) ≡ flat_map f (take i xs) ++ f x
flat_map-more f xs i x less is =
    ap (flat_map f) (take_more xs i x less)
    ∙ flat_map-append f (take i xs) (get_or xs i x ∷ [])
    ∙ ap (λ (t : List ℕ). flat_map f (take i xs) ++ t)
    (flat_map-cons f (get_or xs i x) [] ∙ append-nil (f (get_or xs i x)) ∙ ap f (sym is))

-- A text that went through the page after another.
pub whole-behind : {T E : Type 0} {f g h : ℕ} {a b c : Option (List ℕ)} {p q r first second whole : List ℕ} (x : T)
    → whole ≡ first ++ second → Pages f g a b p q first → Paged {T = T} {E = E} g h b c q r second (Ok x)
    → Pages f h a c p r whole
whole-behind {T} {E} {f} {g} {h} {a} {b} {c} {p} {q} {r} {first} {second} {whole} x is before now =
    let later = now.cause.later in
    record {
      passed = subst (λ (t : List ℕ). Passed a c p r t) (sym is) (passed-both before.passed now.whole);
      later = omega (arith, later, before.later);
    }

-- What went through the page is the answer.
pub done-behind :
    {f g : ℕ} {a b : Option (List ℕ)} {p q text whole : List ℕ} → text ≡ whole → Pages f g a b p q text
    → Paged {T = Unit {0}} {E = PutFailed} f g a b p q whole (Ok tt)
done-behind {f} {g} {a} {b} {p} {q} {text} {whole} is done = record {
  whole = subst (λ (t : List ℕ). Passed a b p q t) is done.passed;
  front = tt;
  cause = record { later = done.later; failed = tt };
}

-- Two texts that went through the page one after another, of which the second may have failed.
pub both-behind :
    {T U E : Type 0} {f g h : ℕ} {a b c : Option (List ℕ)} {p q r first second : List ℕ} (x : T) (result : Result U E)
    → Paged {T = T} {E = E} f g a b p q first (Ok x) → Paged {T = U} {E = E} g h b c q r second result
    → Paged {T = U} {E = E} f h a c p r (first ++ second) result
both-behind x (Ok y) before now =
    let later = now.cause.later in
    let earlier = before.cause.later in
    record {
      whole = passed-both before.whole now.whole;
      front = tt;
      cause = record { later = omega (arith, later, earlier); failed = tt };
    }
both-behind {T} {U} {E} {f} {g} {h} {a} {b} {c} {p} {q} {r} {first} {second} x (Err e) before now =
    let later = now.cause.later in
    let rose = now.cause.failed in
    let earlier = before.cause.later in
    record {
      whole = tt;
      front = passed-then a b c p q first second before.whole now.front;
      cause = record { later = omega (arith, later, earlier); failed = omega (arith, rose, earlier) };
    }

-- A first text that failed, whatever was to follow.
pub failed-first : {T U E : Type 0} {f g : ℕ} {a b : Option (List ℕ)} {p q r first : List ℕ} (second : List ℕ) (e : E)
    → Paged {T = T} {E = E} f g a b p q first (Err e) → Paged {T = U} {E = E} f g a b p r (first ++ second) (Err e)
failed-first {T} {U} {E} {f} {g} {a} {b} {p} {q} {r} {first} second e now = record {
  whole = tt;
  front = waited-more a b p first second now.front;
  cause = record { later = now.cause.later; failed = now.cause.failed };
}

-- A text that is to go through a page of which not all was written.
pub not-flushed : {T U E : Type 0} {f g : ℕ} {a b : Option (List ℕ)} {p w q : List ℕ} (text : List ℕ) (e : E)
    → p ≡ w → Printed {T = T} {E = E} f g a b p (Err e) → Paged {T = U} {E = E} f g a b w q text (Err e)
not-flushed {T} {U} {E} {f} {g} {a} {b} {p} {w} {q} text e waited now = record {
  whole = tt;
  front = subst (λ (t : List ℕ). AppendsFront a b (t ++ text)) waited (front-more a b p text now.front);
  cause = record { later = now.cause.later; failed = now.cause.failed };
}

-- A text that is printed after a page that was written.
pub passed-by :
    {T U E : Type 0} {f g h : ℕ} {a b c : Option (List ℕ)} {p w q text : List ℕ} (x : T) (result : Result U E)
    → p ≡ w → q ≡ [] → Printed {T = T} {E = E} f g a b p (Ok x) → Printed {T = U} {E = E} g h b c text result
    → Paged {T = U} {E = E} f h a c w q text result
passed-by {T} {U} {E} {f} {g} {h} {a} {b} {c} {p} {w} {q} {text} x (Ok y) waited none before now =
    let later = now.cause.later in
    let earlier = before.cause.later in
    record {
      whole = record {
        written = p ++ text;
        taken = Appends-trans a b c p text before.whole now.whole;
        same =
            ap (λ (t : List ℕ). (p ++ text) ++ t) none ∙ append-nil (p ++ text) ∙ ap (λ (t : List ℕ). t ++ text) waited;
      };
      front = tt;
      cause = record { later = omega (arith, later, earlier); failed = tt };
    }
passed-by {T} {U} {E} {f} {g} {h} {a} {b} {c} {p} {w} {q} {text} x (Err e) waited none before now =
    let later = now.cause.later in
    let rose = now.cause.failed in
    let earlier = before.cause.later in
    record {
      whole = tt;
      front =
          subst (λ (t : List ℕ). AppendsFront a c (t ++ text)) waited (front-then a b c p text before.whole now.front);
      cause = record { later = omega (arith, later, earlier); failed = omega (arith, rose, earlier) };
    }

-- A text that went through an empty page, which is written after it, is printed.
pub flushed : {T U E : Type 0} {f g h : ℕ} {a b c : Option (List ℕ)} {p q text : List ℕ} (x : T) (result : Result U E)
    → p ≡ [] → Paged {T = T} {E = E} f g a b p q text (Ok x) → Printed {T = U} {E = E} g h b c q result
    → Printed {T = U} {E = E} f h a c text result
flushed {T} {U} {E} {f} {g} {h} {a} {b} {c} {p} {q} {text} x (Ok y) none before now =
    let later = now.cause.later in
    let earlier = before.cause.later in
    let passed = before.whole in
    let same : passed.written ++ q ≡ text = passed.same ∙ ap (λ (t : List ℕ). t ++ text) none in
    record {
      whole = subst (λ (t : List ℕ). Appends a c t) same (Appends-trans a b c passed.written q passed.taken now.whole);
      front = tt;
      cause = record { later = omega (arith, later, earlier); failed = tt };
    }
flushed {T} {U} {E} {f} {g} {h} {a} {b} {c} {p} {q} {text} x (Err e) none before now =
    let later = now.cause.later in
    let rose = now.cause.failed in
    let earlier = before.cause.later in
    let passed = before.whole in
    let same : passed.written ++ q ≡ text = passed.same ∙ ap (λ (t : List ℕ). t ++ text) none in
    record {
      whole = tt;
      front =
          subst (λ (t : List ℕ). AppendsFront a c t) same (front-then a b c passed.written q passed.taken now.front);
      cause = record { later = omega (arith, later, earlier); failed = omega (arith, rose, earlier) };
    }
