-- Schedules: what is read is spelled so, what is spelled so is read, and the first fault.
use Rattle.std.proofs.Common.{◌≡◌, ℕ, ◌<◌, ◌≤◌, Bool, true, false, cond, eqb, List, [], ◌∷◌, ◌++◌, map, length, Some, Result, Ok, Err, refl, sym, ap, subst, ◌∙◌, append_assoc, inr, arith}
use Rattle.std.specs.Prelude.{decimal, IfOk, IfErr}
use Rattle.std.specs.List.{AllByRecursion}
use Rattle.std.proofs.lemmas.Bool.{eqb-true, eqb-false}
use Rattle.std.proofs.lemmas.List.{append-nil, map-append}
use Rattle.fb_text.specs.declared.fault.TextKind.{TextKind}
use Rattle.fb_text.specs.Number.{number_of}
use Rattle.fb_text.specs.Places.{Words, Item, Place, text_end, items, lines_items, line_places, lines_places, text_places, BreaksAtWord}
use Rattle.fb_text.specs.Unread.{Line, number_within, unread}
use Rattle.fb_text.proofs.LineLaws.{IsClosing, BeginsLine, NoLine, FaultBehind, first_fault, stops_in_line, behind_line, unfit_fault}
use Rattle.table_text.specs.Reading.{◌>>=◌}
use Rattle.setup_text.specs.declared.fault.SetupKind.{SetupKind}
use Rattle.setup_text.specs.declared.fault.SetupKind.TheVariants.{Number}
use Rattle.setup_text.specs.declared.fault.SetupFault.{SetupFault}
use Rattle.setup_text.specs.declared.fault.SetupFault.TheVariants as faults
use Rattle.setup_text.specs.Spelling.{schedule_items, TurnsFit, ScheduleFits}
use Rattle.setup_text.specs.Values.{turns_of}
use Rattle.setup_text.specs.Grammars.{schedule_grammar}
use Rattle.setup_text.specs.Correct.{IsSchedule, ArePlaces, IsReadAs, IsFirstFault}
use Rattle.setup_text.specs.Reading.{Fault, Answers, on_line, place_within, place_in, places_on, schedule_lines, schedule_at}
use Rattle.setup_text.proofs.Texts.{text_items, same_rows, numbered_words, number_takes, number_within_again}
use Rattle.fb_text.proofs.Decimal.{number_is}

abbrev IsPlace : ℕ → ℕ → Type 0
IsPlace boards p = (1 ≤ p) × (p ≤ boards)

-- ---- one place

place_takes :
    (boards : ℕ) (w : List ℕ) (n : ℕ) → boards ≤ 16 → place_in boards w ≡ Ok n → (w ≡ decimal n) × IsPlace boards n
place_takes boards w n few e = go (number_within boards (number_of w)) refl e
  where
    go :
        (x : Result ℕ TextKind) → number_within boards (number_of w) ≡ x → place_within x ≡ Ok n
        → (w ≡ decimal n) × IsPlace boards n
    go (Err k) h e = absurd cc
    go (Ok m) h e = zero_or (eqb m 0) refl e
      where
        zero_or : (b : Bool) → eqb m 0 ≡ b → cond b (Err Number) (Ok m) ≡ Ok n → (w ≡ decimal n) × IsPlace boards n
        zero_or true k e = absurd cc
        zero_or false k e =
            let same : m ≡ n = cc in
            let found = number_takes boards (number_of w) m h in
            let P : ℕ → Type 0 = λ n. (w ≡ decimal n) × IsPlace boards n in
            subst P same
            (number_is w m found.0 (omega (arith, found.1)), (let no = eqb-false m 0 k in omega arith, found.1))

place_again : (boards n : ℕ) → boards ≤ 16 → IsPlace boards n → place_in boards (decimal n) ≡ Ok n
place_again boards n few fits =
    rw (number_within_again boards n fits.1 (omega arith)) (go (eqb n 0) refl)
  where
    go : (b : Bool) → eqb n 0 ≡ b → place_within (Ok n) ≡ Ok n
    go true h = absurd (let k = eqb-true n 0 h in let low = fits.0 in omega arith)
    go false h = rw h refl

place_fails : (boards : ℕ) (w : List ℕ) (k : SetupKind) → place_in boards w ≡ Err k → k ≡ Number
place_fails boards w k e = go (number_within boards (number_of w)) e
  where
    go : (x : Result ℕ TextKind) → place_within x ≡ Err k → k ≡ Number
    go (Err t) e = cc
    go (Ok m) e = zero_or (eqb m 0) e
      where
        zero_or : (b : Bool) → cond b (Err Number) (Ok m) ≡ Err k → k ≡ Number
        zero_or true e = cc
        zero_or false e = absurd cc

-- ---- the places of a line

pub record TakesPlaces (boards : ℕ) (turns : List ℕ) (ws : Words) (after : List ℕ) : Type 0 where
  pub places : List ℕ
  pub fit : AllByRecursion (IsPlace boards) places
  pub words : ws ≡ map decimal places
  pub value : after ≡ turns ++ places

pub record StopsAtPlace (boards : ℕ) (ws : Words) (kind : SetupKind) : Type 0 where
  pub places : List ℕ
  pub fit : AllByRecursion (IsPlace boards) places
  pub here : List ℕ
  pub rest : Words
  pub words : ws ≡ map decimal places ++ here ∷ rest
  pub none : (n : ℕ) → IsPlace boards n → here ≡ decimal n → ⊥
  pub kind_is : kind ≡ Number

line_takes :
    (boards : ℕ) (turns : List ℕ) (ws : Words) (after : List ℕ) → boards ≤ 16 → places_on boards turns ws ≡ Ok after
    → TakesPlaces boards turns ws after
unfolding places_on
line_takes boards turns [] after few e =
    let same : turns ≡ after = cc in
    record { places = []; fit = tt; words = refl; value = sym same ∙ sym (append-nil turns) }
line_takes boards turns (w ∷ ws) after few e =
    go (place_in boards w) refl e (λ n h. line_takes boards (turns ++ n ∷ []) ws after few h)
  where
    go :
        (x : Result ℕ SetupKind) → place_in boards w ≡ x → (x >>= λ p. places_on boards (turns ++ p ∷ []) ws) ≡ Ok after
        → ((n : ℕ) → places_on boards (turns ++ n ∷ []) ws ≡ Ok after → TakesPlaces boards (turns ++ n ∷ []) ws after)
        → TakesPlaces boards turns (w ∷ ws) after
    go (Err k) h e ih = absurd cc
    go (Ok n) h e ih =
        let one = place_takes boards w n few h in
        let more = ih n e in
        record {
          places = n ∷ more.places;
          fit = (one.1, more.fit);
          words = ap (λ (v : List ℕ). v ∷ ws) one.0 ∙ ap (λ (v : Words). decimal n ∷ v) more.words;
          value = more.value ∙ append_assoc turns (n ∷ []) more.places;
        }

line_again :
    (boards : ℕ) (turns places : List ℕ) → boards ≤ 16 → AllByRecursion (IsPlace boards) places
    → places_on boards turns (map decimal places) ≡ Ok (turns ++ places)
unfolding places_on
line_again boards turns [] few fit = ap (λ (v : List ℕ). Ok v) (sym (append-nil turns))
line_again boards turns (n ∷ places) few fit =
    rw (place_again boards n few fit.0)
    (line_again boards (turns ++ n ∷ []) places few fit.1
    ∙ ap (λ (v : List ℕ). Ok v) (append_assoc turns (n ∷ []) places))

line_stops :
    (boards : ℕ) (turns : List ℕ) (ws : Words) (kind : SetupKind) → boards ≤ 16 → places_on boards turns ws ≡ Err kind
    → StopsAtPlace boards ws kind
unfolding places_on
line_stops boards turns [] kind few e = absurd cc
line_stops boards turns (w ∷ ws) kind few e =
    go (place_in boards w) refl e (λ n h. line_stops boards (turns ++ n ∷ []) ws kind few h)
  where
    go :
        (x : Result ℕ SetupKind) → place_in boards w ≡ x → (x >>= λ p. places_on boards (turns ++ p ∷ []) ws) ≡ Err kind
        → ((n : ℕ) → places_on boards (turns ++ n ∷ []) ws ≡ Err kind → StopsAtPlace boards ws kind)
        → StopsAtPlace boards (w ∷ ws) kind
    go (Err k) h e ih =
        let same : k ≡ kind = cc in
        record {
          places = [];
          fit = tt;
          here = w;
          rest = ws;
          words = refl;
          none =
              λ n fits is.
              (let read : place_in boards w ≡ Ok n = ap (place_in boards) is ∙ place_again boards n few fits in
              let both : ◌≡◌ {A = Result ℕ SetupKind} (Err k) (Ok n) = sym h ∙ read in cc);
          kind_is = sym same ∙ place_fails boards w k h;
        }
    go (Ok n) h e ih =
        let one = place_takes boards w n few h in
        let more = ih n e in
        record {
          places = n ∷ more.places;
          fit = (one.1, more.fit);
          here = more.here;
          rest = more.rest;
          words = ap (λ (v : List ℕ). v ∷ ws) one.0 ∙ ap (λ (v : Words). decimal n ∷ v) more.words;
          none = more.none;
          kind_is = more.kind_is;
        }

-- ---- all lines

abbrev rows_of : List (List ℕ) → List Words
rows_of lines = map (λ (places : List ℕ). map decimal places) lines

abbrev words_of : List Line → List Words
words_of ls = map (λ (l : Line). l.words) ls

abbrev HaveWords : List Line → Type 0
HaveWords ls = AllByRecursion (λ (l : Line). 0 < length l.words) ls

pub record TakesLines (boards : ℕ) (turns : List ℕ) (ls : List Line) (after : List ℕ) : Type 0 where
  pub lines : List (List ℕ)
  pub fit : ScheduleFits boards lines
  pub words : words_of ls ≡ rows_of lines
  pub value : after ≡ turns ++ turns_of lines

some_places : (places : List ℕ) (ws : Words) → ws ≡ map decimal places → 0 < length ws → 0 < length places
some_places [] ws e some = absurd (let none : length ws ≡ 0 = ap length e in omega arith)
some_places (p ∷ places) ws e some = omega arith

lines_take :
    (boards : ℕ) (turns : List ℕ) (ls : List Line) (after : List ℕ) → boards ≤ 16 → HaveWords ls
    → schedule_lines boards turns ls ≡ Ok after → TakesLines boards turns ls after
unfolding schedule_lines
lines_take boards turns [] after few have e =
    let same : turns ≡ after = cc in
    record { lines = []; fit = tt; words = refl; value = sym same ∙ sym (append-nil turns) }
lines_take boards turns (l ∷ ls) after few have e =
    go (places_on boards turns l.words) refl e (λ mid h. lines_take boards mid ls after few have.1 h)
  where
    go :
        (x : Result (List ℕ) SetupKind) → places_on boards turns l.words ≡ x
        → (on_line l.number x >>= λ more. schedule_lines boards more ls) ≡ Ok after
        → ((mid : List ℕ) → schedule_lines boards mid ls ≡ Ok after → TakesLines boards mid ls after)
        → TakesLines boards turns (l ∷ ls) after
    go (Err k) h e ih = absurd cc
    go (Ok mid) h e ih =
        let one = line_takes boards turns l.words mid few h in
        let more = ih mid e in
        record {
          lines = one.places ∷ more.lines;
          fit = ((some_places one.places l.words one.words have.0, one.fit), more.fit);
          words =
              ap (λ (v : Words). v ∷ words_of ls) one.words
              ∙ ap (λ (v : List Words). map decimal one.places ∷ v) more.words;
          value =
              more.value
              ∙ (ap (λ (v : List ℕ). v ++ turns_of more.lines) one.value
              ∙ append_assoc turns one.places (turns_of more.lines));
        }

lines_again :
    (boards : ℕ) (turns : List ℕ) (ls : List Line) (lines : List (List ℕ)) → boards ≤ 16 → ScheduleFits boards lines
    → words_of ls ≡ rows_of lines → schedule_lines boards turns ls ≡ Ok (turns ++ turns_of lines)
unfolding schedule_lines
lines_again boards turns [] [] few fit e = ap (λ (v : List ℕ). Ok v) (sym (append-nil turns))
lines_again boards turns [] (p ∷ lines) few fit e = absurd cc
lines_again boards turns (l ∷ ls) [] few fit e = absurd cc
lines_again boards turns (l ∷ ls) (places ∷ lines) few fit e =
    let first : l.words ≡ map decimal places = cc in
    let others : words_of ls ≡ rows_of lines = cc in
    let one : places_on boards turns l.words ≡ Ok (turns ++ places) =
    ap (places_on boards turns) first ∙ line_again boards turns places few fit.0.1 in
    rw one (lines_again boards (turns ++ places) ls lines few fit.1 others
    ∙ ap (λ (v : List ℕ). Ok v) (append_assoc turns places (turns_of lines)))

-- ---- the first fault

module _ (boards : ℕ) (some : 1 ≤ boards) (few : boards ≤ 16) where
  abbrev J : List Words → Words → List ℕ → SetupKind → Type 0
  J earlier words here kind = ⊥

  closed : IsClosing (text_end ∷ [])
  closed = inr refl

  spelled :
      (lines : List (List ℕ)) → (schedule_grammar boards).spelled lines ≡ lines_items (rows_of lines) ++ text_end ∷ []
  spelled lines = refl

  judged : (x : List Item) (i : Item) (k : SetupKind) → BreaksAtWord J x i k → (schedule_grammar boards).Breaks x i k
  judged x i k (earlier, words, here, at, j) = j

  breaks : (x : List Item) (i : Item) (k : SetupKind) → (schedule_grammar boards).Breaks x i k → BreaksAtWord J x i k
  breaks x i k b = absurd b

  fit_push :
      (done : List (List ℕ)) (places : List ℕ) → ScheduleFits boards done → TurnsFit boards places
      → ScheduleFits boards (done ++ places ∷ [])
  fit_push [] places h fit = (fit, tt)
  fit_push (d ∷ done) places h fit = (h.0, fit_push done places h.1 fit)

  rows_push :
      (done : List (List ℕ)) (places : List ℕ) → rows_of (done ++ places ∷ []) ≡ rows_of done ++ map decimal places ∷ []
  rows_push done places = map-append (λ (places : List ℕ). map decimal places) done (places ∷ [])

  -- a line of a schedule after others
  row_at :
      (done : List Words) (lines : List (List ℕ)) (l : Words) (others : List Words) → ScheduleFits boards lines
      → rows_of lines ≡ done ++ l ∷ others
      → (places : List ℕ) × AllByRecursion (IsPlace boards) places × (l ≡ map decimal places)
  row_at done [] l others fit e = absurd (nothing done e)
    where
      nothing : (done : List Words) → [] ≡ done ++ l ∷ others → ⊥
      nothing [] e = cc
      nothing (d ∷ done) e = cc
  row_at [] (places ∷ lines) l others fit e = (places, fit.0.1, cc)
  row_at (d ∷ done) (places ∷ lines) l others fit e =
      let rest : rows_of lines ≡ done ++ l ∷ others = cc in row_at done lines l others fit.1 rest

  -- no line goes on with a word that is no place
  no_word :
      (front places : List ℕ) (w : List ℕ) (more : Words) → AllByRecursion (IsPlace boards) places
      → map decimal front ++ w ∷ more ≡ map decimal places → (n : ℕ) × IsPlace boards n × (w ≡ decimal n)
  no_word [] [] w more fit e = absurd cc
  no_word [] (p ∷ places) w more fit e = (p, fit.0, cc)
  no_word (f ∷ front) [] w more fit e = absurd cc
  no_word (f ∷ front) (p ∷ places) w more fit e =
      let rest : map decimal front ++ w ∷ more ≡ map decimal places = cc in no_word front places w more fit.1 rest

  begins :
      (done : List (List ℕ)) (front : List ℕ) → ScheduleFits boards done → AllByRecursion (IsPlace boards) front
      → BeginsLine (schedule_grammar boards) rows_of (rows_of done) (map decimal front)
  begins done [] all fit = (
    done ++ (1 ∷ []) ∷ [],
    decimal 1 ∷ [],
    [],
    fit_push done (1 ∷ []) all (omega arith, ((omega arith, some), tt)),
    rows_push done (1 ∷ []),
  )
  begins done (p ∷ front) all fit = (
    done ++ (p ∷ front) ∷ [],
    [],
    [],
    fit_push done (p ∷ front) all (omega arith, fit),
    rows_push done (p ∷ front)
        ∙ ap (λ (v : Words). rows_of done ++ v ∷ []) (sym (append-nil (map decimal (p ∷ front)))),
  )

  stop :
      (done : List (List ℕ)) (n : ℕ) (ws : Words) (rest : List Place) (kind : SetupKind) → ScheduleFits boards done
      → StopsAtPlace boards ws kind
      → FaultBehind (schedule_grammar boards) (rows_of done) (line_places n ws rest) n kind
  stop done n ws rest kind all s =
      stops_in_line (schedule_grammar boards) rows_of (text_end ∷ []) closed spelled J judged breaks (rows_of done) n ws
      rest (map decimal s.places) (Some s.here) s.rest kind s.words (begins done s.places all s.fit)
      (λ p w q e k j. j)
      (unfit_fault (schedule_grammar boards) rows_of (text_end ∷ []) closed spelled J judged breaks (rows_of done)
      (map decimal s.places) (Some s.here) kind none s.kind_is)
    where
      none : NoLine (schedule_grammar boards) rows_of (rows_of done) (map decimal s.places) (Some s.here)
      none lines more others fits e =
          let row = row_at (rows_of done) lines (map decimal s.places ++ s.here ∷ more) others fits e in
          let found = no_word s.places row.0 s.here more row.1 row.2 in
          s.none found.0 found.1 found.2

  lines_stop :
      (done : List (List ℕ)) (turns : List ℕ) (ls : List Line) (end : ℕ) (f : Fault) → ScheduleFits boards done
      → HaveWords ls → schedule_lines boards turns ls ≡ Err f
      → FaultBehind (schedule_grammar boards) (rows_of done) (lines_places ls end) f.line f.kind
  unfolding schedule_lines
  lines_stop done turns [] end f all have e = absurd cc
  lines_stop done turns (l ∷ ls) end f all have e =
      go (places_on boards turns l.words) refl e (λ more mid fit h. lines_stop more mid ls end f fit have.1 h)
    where
      go :
          (x : Result (List ℕ) SetupKind) → places_on boards turns l.words ≡ x
          → (on_line l.number x >>= λ more. schedule_lines boards more ls) ≡ Err f
          → ((more : List (List ℕ)) (mid : List ℕ) → ScheduleFits boards more → schedule_lines boards mid ls ≡ Err f
          → FaultBehind (schedule_grammar boards) (rows_of more) (lines_places ls end) f.line f.kind)
          → FaultBehind (schedule_grammar boards) (rows_of done) (line_places l.number l.words (lines_places ls end))
          f.line f.kind
      go (Err k) h e ih =
          let same : record { line = l.number; kind = k } ≡ f = cc in
          subst (λ (x : Fault).
          FaultBehind (schedule_grammar boards) (rows_of done)
          (line_places l.number l.words (lines_places ls end)) x.line x.kind) same
          (stop done l.number l.words (lines_places ls end) k all (line_stops boards turns l.words k few h))
      go (Ok mid) h e ih =
          let one = line_takes boards turns l.words mid few h in
          let fit : TurnsFit boards one.places = (some_places one.places l.words one.words have.0, one.fit) in
          let more = ih (done ++ one.places ∷ []) mid (fit_push done one.places all fit) e in
          let behind = behind_line (schedule_grammar boards) rows_of (text_end ∷ []) closed spelled J judged breaks
          (rows_of done) l.number (map decimal one.places) (lines_places ls end) f.line f.kind
          (done ++ one.places ∷ [], [], fit_push done one.places all fit, rows_push done one.places) (λ p w q e k j. j)
          (subst (λ (v : List Words). FaultBehind (schedule_grammar boards) v (lines_places ls end) f.line f.kind)
          (rows_push done one.places) more) in
          subst (λ (v : Words).
          FaultBehind (schedule_grammar boards) (rows_of done) (line_places l.number v (lines_places ls end))
          f.line f.kind) (sym one.words) behind

-- ---- what a reader of schedules returned

module _ {X : Type 0} (boards : ℕ) (some : 1 ≤ boards) (few : boards ≤ 16) (bytes : List ℕ) (view : X → List ℕ) where
  abbrev lines_of : List Line
  lines_of = (unread bytes).lines

  taken : (after : List ℕ) → schedule_at boards (unread bytes) ≡ Ok after → TakesLines boards [] lines_of after
  taken after e = lines_take boards [] lines_of after few (numbered_words 1 _) e

  pub is_spelled :
      (r : Result X SetupFault) → Answers view r (schedule_at boards (unread bytes))
      → IfOk r (λ v. IsSchedule boards bytes (view v))
  is_spelled (Err e) given = tt
  is_spelled (Ok v) given =
      let t = taken (view v) given in
      record {
        spelled = t.lines;
        fits = t.fit;
        text = text_items lines_of (unread bytes).end
            ∙ ap (λ (ls : List Words). lines_items ls ++ text_end ∷ []) t.words;
        value = t.value;
      }

  pub is_read :
      (r : Result X SetupFault) → Answers view r (schedule_at boards (unread bytes)) → (lines : List (List ℕ))
      → ScheduleFits boards lines → items (text_places bytes) ≡ schedule_items lines → IsReadAs view r (turns_of lines)
  is_read r given lines fit e =
      let same = same_rows (words_of lines_of) (rows_of lines) (sym (text_items lines_of (unread bytes).end) ∙ e) in
      go r given (lines_again boards [] lines_of lines few fit same)
    where
      go :
          (r : Result X SetupFault) → Answers view r (schedule_at boards (unread bytes))
          → schedule_at boards (unread bytes) ≡ Ok (turns_of lines) → IsReadAs view r (turns_of lines)
      go (Ok v) given read =
          let both : ◌≡◌ {A = Result (List ℕ) Fault} (Ok (view v)) (Ok (turns_of lines)) = sym given ∙ read in cc
      go (Err faults.NoMemory) given read = tt
      go (Err (faults.Bad line kind)) given read =
          let both : ◌≡◌ {A = Result (List ℕ) Fault} (Err (record { line = line; kind = kind })) (Ok (turns_of lines)) =
          sym given ∙ read in
          absurd cc

  all_places : (lines : List (List ℕ)) → ScheduleFits boards lines → ArePlaces boards (turns_of lines)
  all_places [] fit = tt
  all_places (places ∷ lines) fit = join places fit.0.1 (all_places lines fit.1)
    where
      join :
          (places : List ℕ) → AllByRecursion (IsPlace boards) places → ArePlaces boards (turns_of lines)
          → ArePlaces boards (places ++ turns_of lines)
      join [] h k = k
      join (p ∷ places) h k = (h.0, join places h.1 k)

  pub are_places :
      (r : Result X SetupFault) → Answers view r (schedule_at boards (unread bytes))
      → IfOk r (λ v. ArePlaces boards (view v))
  are_places (Err e) given = tt
  are_places (Ok v) given =
      let t = taken (view v) given in subst (ArePlaces boards) (sym t.value) (all_places t.lines t.fit)

  pub is_first :
      (r : Result X SetupFault) → Answers view r (schedule_at boards (unread bytes))
      → IfErr r (IsFirstFault (schedule_grammar boards) bytes)
  is_first (Ok v) given = tt
  is_first (Err faults.NoMemory) given = tt
  is_first (Err (faults.Bad line kind)) given =
      first_fault (schedule_grammar boards) (text_places bytes) line kind
      (lines_stop boards some few [] [] lines_of (unread bytes).end (record { line = line; kind = kind }) tt
      (numbered_words 1 _) given)
