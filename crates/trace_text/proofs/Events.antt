-- Events are read exactly where they are spelled and in range.
use Rattle.std.proofs.Common.{◌≡◌, ℕ, ◌<◌, ◌≤◌, ◌^◌, Bool, true, false, cond, List, [], ◌∷◌, ◌++◌, map, Option, Some, None, refl, sym, ap, ◌∙◌, subst, arith}
use Rattle.std.specs.Prelude.{decimal, codes}
use Rattle.std.specs.Str.{bytes_eq}
use Rattle.fb_text.specs.Places.{Words}
use Rattle.bus_signals.specs.declared.BusEvent.{BusEvent}
use Rattle.moesi_state.specs.declared.State.{State}
use Rattle.moesi_state.specs.declared.Outcome.{Outcome}
use Rattle.journal.specs.declared.answers.Answer.{Answer}
use Rattle.journal.specs.declared.event.Done.{Done}
use Rattle.journal.specs.declared.event.Source.{Source}
use Rattle.journal.specs.declared.event.Takers.{Takers}
use Rattle.journal.specs.declared.event.Connected.{Connected}
use Rattle.journal.specs.declared.event.Carried.{Carried}
use Rattle.journal.specs.declared.event.Event.{Event}
use Rattle.journal.specs.declared.event.Event.TheVariants.{Local, Drop, Raise, Grant, Connect, DataPhase}
use Rattle.class_words.specs.Words.{state_word, bus_event_word, outcome_word, state_of, bus_event_of, outcome_of}
use Rattle.class_words.proofs.WordLaws.{state_is, bus_event_is, outcome_is}
use Rattle.trace_text.specs.Spelling.{placed_word, answers_words, source_word, taker_parts, takers_text, done_words, carried_words, event_words}
use Rattle.trace_text.specs.Ranges.{IsBoard, IsSource, ArePlaces, InRange}
use Rattle.trace_text.specs.Reading.{◌>>=◌, number_between, board_of, source_of, takers_of, answers_at, by, this, states_at, done_at, carried_at, local_at, drop_at, raise_at, grant_at, connect_at, data_at, event_at}
use Rattle.trace_text.proofs.Binds.{bind_some, some_same, is_word, by_some, this_some, ended_some}
use Rattle.trace_text.proofs.Numbers.{number_between_is, board_is}
use Rattle.trace_text.proofs.Spelled.{source_is}
use Rattle.trace_text.proofs.Whole.{takers_is, answers_at_is, states_at_is, done_at_is, carried_at_is}

-- ---- one step, and then the rest

by_word :
    {A B : Type 0} (f : List ℕ → Option A) (spelled : A → List ℕ) (In : A → Type 0)
    → ((w : List ℕ) (x : A) → f w ≡ Some x → (w ≡ spelled x) × In x)
    → (ws : Words) (k : A × Words → Option B) (y : B) (G : Type 0)
    → (by f ws >>= k) ≡ Some y → ((x : A) (more : Words) → ws ≡ spelled x ∷ more → In x → k (x, more) ≡ Some y → G) → G
by_word f spelled In is ws k y G e then =
    let x = bind_some (by f ws) k y e in
    let b = by_some f ws x.0 x.1 in let h = is b.0 x.0.0 b.2 in then x.0.0 x.0.1 (b.1 ∙ (λ i. h.0 i ∷ x.0.1)) h.1 x.2

by_board :
    {B : Type 0} (ws : Words) (k : ℕ × Words → Option B) (y : B) (G : Type 0) → (by board_of ws >>= k) ≡ Some y
    → ((b : ℕ) (more : Words) → ws ≡ decimal b ∷ more → IsBoard b → k (b, more) ≡ Some y → G) → G
by_board ws k y G e then = by_word board_of decimal IsBoard board_is ws k y G e then

by_number :
    {B : Type 0} (least most : ℕ) → most < 2 ^ 64 → (ws : Words) (k : ℕ × Words → Option B) (y : B) (G : Type 0)
    → (by (number_between least most) ws >>= k) ≡ Some y
    → ((n : ℕ) (more : Words) → ws ≡ decimal n ∷ more → (least ≤ n) × (n ≤ most) → k (n, more) ≡ Some y → G) → G
by_number least most small ws k y G e then =
    by_word (number_between least most) decimal (λ n. (least ≤ n) × (n ≤ most))
    (λ w n h. let t = number_between_is least most w n small h in (t.0, (t.1, t.2))) ws k y G e then

by_this :
    {B : Type 0} (v : List ℕ) (ws : Words) (k : Words → Option B) (y : B) (G : Type 0) → (this v ws >>= k) ≡ Some y
    → ((more : Words) → ws ≡ v ∷ more → k more ≡ Some y → G) → G
by_this v ws k y G e then = let m = bind_some (this v ws) k y e in then m.0 (this_some v ws m.0 m.1) m.2

-- An event that these words spell.
pub record IsSpelled (ws : Words) (e : Event) : Type 0 where
  pub words : ws ≡ event_words e
  pub in_range : InRange e

with_event : (ws : Words) (x e : Event) → x ≡ e → ws ≡ event_words x → InRange x → IsSpelled ws e
with_event ws x e same is h = subst (IsSpelled ws) same (record { words = is; in_range = h })

by_state :
    {B : Type 0} (ws : Words) (k : State × Words → Option B) (y : B) (G : Type 0) → (by state_of ws >>= k) ≡ Some y
    → ((s : State) (more : Words) → ws ≡ state_word s ∷ more → k (s, more) ≡ Some y → G) → G
by_state ws k y G e then =
    by_word state_of state_word (λ _. Unit {0}) (λ w s h. (state_is w s h, tt)) ws k y G e
    (λ s more is _ h. then s more is h)

by_event :
    {B : Type 0} (ws : Words) (k : BusEvent × Words → Option B) (y : B) (G : Type 0)
    → (by bus_event_of ws >>= k) ≡ Some y
    → ((v : BusEvent) (more : Words) → ws ≡ bus_event_word v ∷ more → k (v, more) ≡ Some y → G) → G
by_event ws k y G e then =
    by_word bus_event_of bus_event_word (λ _. Unit {0}) (λ w v h. (bus_event_is w v h, tt)) ws k y G e
    (λ v more is _ h. then v more is h)

by_outcome :
    {B : Type 0} (ws : Words) (k : Outcome × Words → Option B) (y : B) (G : Type 0) → (by outcome_of ws >>= k) ≡ Some y
    → ((o : Outcome) (more : Words) → ws ≡ outcome_word o ∷ more → k (o, more) ≡ Some y → G) → G
by_outcome ws k y G e then =
    by_word outcome_of outcome_word (λ _. Unit {0}) (λ w o h. (outcome_is w o h, tt)) ws k y G e
    (λ o more is _ h. then o more is h)

by_source :
    {B : Type 0} (ws : Words) (k : Source × Words → Option B) (y : B) (G : Type 0) → (by source_of ws >>= k) ≡ Some y
    → ((s : Source) (more : Words) → ws ≡ source_word s ∷ more → IsSource s → k (s, more) ≡ Some y → G) → G
by_source ws k y G e then = by_word source_of source_word IsSource source_is ws k y G e then

by_takers :
    {B : Type 0} (ws : Words) (k : Takers × Words → Option B) (y : B) (G : Type 0) → (by takers_of ws >>= k) ≡ Some y
    → ((t : Takers) (more : Words) → ws ≡ takers_text (taker_parts t.memory t.boards) ∷ more → ArePlaces t.boards
    → k (t, more) ≡ Some y → G) → G
by_takers ws k y G e then =
    by_word takers_of (λ t. takers_text (taker_parts t.memory t.boards)) (λ t. ArePlaces t.boards) takers_is ws k y G e
    then

-- ---- what is read is spelled so

raise_is : (ws : Words) (e : Event) → raise_at ws ≡ Some e → IsSpelled (codes "raise" ∷ ws) e
unfolding raise_at
raise_is ws e h = let G : Type 0 = IsSpelled (codes "raise" ∷ ws) e in
    by_board ws _ e G h (λ b w₁ is₁ board h.
    let end = ended_some (Raise b) w₁ e h in let is₂ : w₁ ≡ [] = end.0 in
    with_event (codes "raise" ∷ ws) (Raise b) e end.1 (cc) board)

drop_is : (ws : Words) (e : Event) → drop_at ws ≡ Some e → IsSpelled (codes "drop" ∷ ws) e
unfolding drop_at
drop_is ws e h = let G : Type 0 = IsSpelled (codes "drop" ∷ ws) e in
    by_board ws _ e G h (λ b w₁ is₁ board h.
    by_this (codes "line") w₁ _ e G h (λ w₂ is₂ h.
    by_number 0 4095 (omega arith) w₂ _ e G h (λ l w₃ is₃ line h.
    by_this (codes "from") w₃ _ e G h (λ w₄ is₄ h.
    by_state w₄ _ e G h (λ before w₅ is₅ h.
    let end = ended_some (Drop b l before) w₅ e h in let is₆ : w₅ ≡ [] = end.0 in
    with_event (codes "drop" ∷ ws) (Drop b l before) e end.1 (cc) (board, line.1))))))

grant_is : (ws : Words) (e : Event) → grant_at ws ≡ Some e → IsSpelled (codes "grant" ∷ ws) e
unfolding grant_at
grant_is ws e h = let G : Type 0 = IsSpelled (codes "grant" ∷ ws) e in
    by_board ws _ e G h (λ b w₁ is₁ board h.
    by_this (codes "to") w₁ _ e G h (λ w₂ is₂ h.
    by_board w₂ _ e G h (λ winner w₃ is₃ other h.
    by_this (codes "lines") w₃ _ e G h (λ w₄ is₄ h.
    by_number 1 1023 (omega arith) w₄ _ e G h (λ n w₅ is₅ lines h.
    by_this (codes "rounds") w₅ _ e G h (λ w₆ is₆ h.
    by_number 0 9 (omega arith) w₆ _ e G h (λ r w₇ is₇ rounds h.
    let end = ended_some (Grant b winner n r) w₇ e h in let is₈ : w₇ ≡ [] = end.0 in
    with_event (codes "grant" ∷ ws) (Grant b winner n r) e end.1 (cc) (board, other, lines, rounds.1))))))))

local_is : (ws : Words) (e : Event) → local_at ws ≡ Some e → IsSpelled (codes "local" ∷ ws) e
unfolding local_at
local_is ws e h = let G : Type 0 = IsSpelled (codes "local" ∷ ws) e in
    by_board ws _ e G h (λ b w₁ is₁ board h.
    by_state w₁ _ e G h (λ before w₂ is₂ h.
    by_this (codes "to") w₂ _ e G h (λ w₃ is₃ h.
    by_state w₃ _ e G h (λ after w₄ is₄ h.
    by_this (codes "done") w₄ _ e G h (λ w₅ is₅ h.
    let d = bind_some (done_at w₅) (λ d. Some (Local b before after d)) e h in
    let is = done_at_is w₅ d.0 d.1 in let is₆ : w₅ ≡ done_words d.0 = is.0 in
    with_event (codes "local" ∷ ws) (Local b before after d.0) e (some_same (Local b before after d.0) e d.2) (cc)
    (board, is.1))))))

connect_is : (ws : Words) (e : Event) → connect_at ws ≡ Some e → IsSpelled (codes "connect" ∷ ws) e
unfolding connect_at
connect_is ws e h = let G : Type 0 = IsSpelled (codes "connect" ∷ ws) e in
    by_board ws _ e G h (λ b w₁ is₁ board h.
    by_event w₁ _ e G h (λ event w₂ is₂ h.
    by_this (codes "line") w₂ _ e G h (λ w₃ is₃ h.
    by_number 0 4095 (omega arith) w₃ _ e G h (λ l w₄ is₄ line h.
    by_this (codes "to") w₄ _ e G h (λ w₅ is₅ h.
    by_outcome w₅ _ e G h (λ outcome w₆ is₆ h.
    by_this (codes "answers") w₆ _ e G h (λ w₇ is₇ h.
    let made : List Answer → Connected =
    λ (answers : List Answer).
    record { master = b; event = event; line = l; outcome = outcome; answers = answers } in
    let a = bind_some (answers_at w₇) (λ answers. Some (Connect (made answers))) e h in
    let is = answers_at_is w₇ a.0 a.1 in let is₈ : w₇ ≡ answers_words a.0 = is.0 in
    with_event (codes "connect" ∷ ws) (Connect (made a.0)) e (some_same (Connect (made a.0)) e a.2) (cc)
    (board, line.1, is.1))))))))

data_is : (ws : Words) (e : Event) → data_at ws ≡ Some e → IsSpelled (codes "data" ∷ ws) e
unfolding data_at
data_is ws e h = let G : Type 0 = IsSpelled (codes "data" ∷ ws) e in
    by_board ws _ e G h (λ b w₁ is₁ board h.
    by_event w₁ _ e G h (λ event w₂ is₂ h.
    by_this (codes "line") w₂ _ e G h (λ w₃ is₃ h.
    by_number 0 4095 (omega arith) w₃ _ e G h (λ l w₄ is₄ line h.
    by_this (codes "from") w₄ _ e G h (λ w₅ is₅ h.
    by_source w₅ _ e G h (λ source w₆ is₆ from h.
    by_this (codes "into") w₆ _ e G h (λ w₇ is₇ h.
    by_takers w₇ _ e G h (λ takers w₈ is₈ places h.
    by_this (codes "states") w₈ _ e G h (λ w₉ is₉ h.
    let made : List (ℕ × State) → Option Done → Carried =
    λ (states : List (ℕ × State)) (d : Option Done).
    record { master = b; event = event; line = l; source = source; takers = takers; states = states; done = d } in
    let s =
    bind_some (states_at b w₉) (λ states. carried_at states.1 >>= λ d. Some (DataPhase (made states.0 d))) e h in
    let d = bind_some (carried_at s.0.1) (λ d. Some (DataPhase (made s.0.0 d))) e s.2 in
    let states_are = states_at_is b w₉ s.0 s.1 in let done_is = carried_at_is s.0.1 d.0 d.1 in
    let is₀ : w₉ ≡ map placed_word s.0.0 ++ codes "done" ∷ carried_words d.0 =
    states_are.0 ∙ ap (λ (z : Words). map placed_word s.0.0 ++ codes "done" ∷ z) done_is.0 in
    with_event (codes "data" ∷ ws) (DataPhase (made s.0.0 d.0)) e (some_same (DataPhase (made s.0.0 d.0)) e d.2) (cc)
    (board, line.1, from, places, states_are.1, done_is.1))))))))))

-- What is read is an event in range, and is spelled so.
pub event_is : (ws : Words) (e : Event) → event_at ws ≡ Some e → IsSpelled ws e
unfolding event_at
event_is [] e h = absurd cc
event_is (w ∷ ws) e h = local (bytes_eq w (codes "local")) refl h
  where
    spelled : (v : List ℕ) → bytes_eq w v ≡ true → IsSpelled (v ∷ ws) e → IsSpelled (w ∷ ws) e
    spelled v h s = subst (λ (z : List ℕ). IsSpelled (z ∷ ws) e) (sym (is_word w v h)) s

    carry : (c : Bool) → bytes_eq w (codes "data") ≡ c → cond c (data_at ws) None ≡ Some e → IsSpelled (w ∷ ws) e
    carry true t h = spelled (codes "data") t (data_is ws e h)
    carry false t h = absurd cc

    connect :
        (c : Bool) → bytes_eq w (codes "connect") ≡ c
        → cond c (connect_at ws) (cond (bytes_eq w (codes "data")) (data_at ws) None) ≡ Some e → IsSpelled (w ∷ ws) e
    connect true t h = spelled (codes "connect") t (connect_is ws e h)
    connect false t h = carry (bytes_eq w (codes "data")) refl h

    grant :
        (c : Bool) → bytes_eq w (codes "grant") ≡ c
        → cond c (grant_at ws) (cond (bytes_eq w (codes "connect")) (connect_at ws)
        (cond (bytes_eq w (codes "data")) (data_at ws) None)) ≡ Some e → IsSpelled (w ∷ ws) e
    grant true t h = spelled (codes "grant") t (grant_is ws e h)
    grant false t h = connect (bytes_eq w (codes "connect")) refl h

    raise :
        (c : Bool) → bytes_eq w (codes "raise") ≡ c
        → cond c (raise_at ws) (cond (bytes_eq w (codes "grant")) (grant_at ws)
        (cond (bytes_eq w (codes "connect")) (connect_at ws)
        (cond (bytes_eq w (codes "data")) (data_at ws) None))) ≡ Some e → IsSpelled (w ∷ ws) e
    raise true t h = spelled (codes "raise") t (raise_is ws e h)
    raise false t h = grant (bytes_eq w (codes "grant")) refl h

    dropped :
        (c : Bool) → bytes_eq w (codes "drop") ≡ c
        → cond c (drop_at ws) (cond (bytes_eq w (codes "raise")) (raise_at ws)
        (cond (bytes_eq w (codes "grant")) (grant_at ws)
        (cond (bytes_eq w (codes "connect")) (connect_at ws)
        (cond (bytes_eq w (codes "data")) (data_at ws) None)))) ≡ Some e → IsSpelled (w ∷ ws) e
    dropped true t h = spelled (codes "drop") t (drop_is ws e h)
    dropped false t h = raise (bytes_eq w (codes "raise")) refl h

    local :
        (c : Bool) → bytes_eq w (codes "local") ≡ c
        → cond c (local_at ws) (cond (bytes_eq w (codes "drop")) (drop_at ws)
        (cond (bytes_eq w (codes "raise")) (raise_at ws)
        (cond (bytes_eq w (codes "grant")) (grant_at ws)
        (cond (bytes_eq w (codes "connect")) (connect_at ws)
        (cond (bytes_eq w (codes "data")) (data_at ws) None))))) ≡ Some e → IsSpelled (w ∷ ws) e
    local true t h = spelled (codes "local") t (local_is ws e h)
    local false t h = dropped (bytes_eq w (codes "drop")) refl h
