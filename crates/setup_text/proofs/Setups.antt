-- Setups: what is read is spelled so, and what is spelled so is read.
use Rattle.std.proofs.Common.{◌≡◌, ℕ, ◌<◌, ◌≤◌, List, [], ◌∷◌, ◌++◌, map, length, Result, Ok, Err, refl, sym, ap, ◌∙◌, append_assoc, arith}
use Rattle.std.specs.Prelude.{IfOk}
use Rattle.std.proofs.lemmas.List.{append-nil, length-map}
use Rattle.fb_text.specs.Places.{Words, lines_items, text_end}
use Rattle.fb_text.specs.Unread.{Line, unread}
use Rattle.setup.specs.Setup.{Setup}
use Rattle.table_text.specs.Reading.{◌>>=◌}
use Rattle.setup_text.specs.declared.fault.SetupKind.{SetupKind}
use Rattle.setup_text.specs.declared.fault.SetupFault.{SetupFault}
use Rattle.setup_text.specs.Spelling.{SetupText, setup_rows}
use Rattle.setup_text.specs.Values.{tables_of, board_of, setup_of}
use Rattle.setup_text.specs.Standing.{StandsSoFar, SetupStands}
use Rattle.setup_text.specs.Correct.{IsSetup}
use Rattle.setup_text.specs.Reading.{Mode, Answers, on_line, line_at, lines_at, text_ends, setup_at}
use Rattle.setup_text.proofs.Texts.{text_items}
use Rattle.setup_text.proofs.Parts.{stands}
use Rattle.setup_text.proofs.SetupLines.{Part, begin, top, so_far as part, opened, closed, mode_of, rows_of, Good, line_takes}

abbrev pub words_of : List Line → List Words
words_of ls = map (λ (l : Line). l.words) ls

-- lines that were read to the end of a text
pub record TakesAll (p : Part) (ls : List Line) (setup : Setup) : Type 0 where
  pub spelled : SetupText
  pub good : StandsSoFar spelled
  pub some : 0 < length spelled.boards
  pub rows : setup_rows spelled ≡ rows_of p ++ words_of ls
  pub value : setup ≡ setup_of spelled

ended_at : (p : Part) (end : ℕ) (setup : Setup) → Good p → text_ends (mode_of p) end ≡ Ok setup → TakesAll p [] setup
ended_at begin end setup good e = absurd cc
ended_at (top n) end setup good e = absurd cc
ended_at (part s) end setup good e = absurd cc
ended_at (opened s t) end setup good e = absurd cc
ended_at (closed s) end setup good e =
    let same : setup_of s ≡ setup = cc in
    record { spelled = s; good = good.0; some = good.1; rows = sym (append-nil (setup_rows s)); value = sym same }

pub lines_take :
    (p : Part) (ls : List Line) (end : ℕ) (setup : Setup) → Good p → lines_at (mode_of p) ls end ≡ Ok setup
    → TakesAll p ls setup
unfolding lines_at
lines_take p [] end setup good e = ended_at p end setup good e
lines_take p (l ∷ ls) end setup good e =
    go (line_at (mode_of p) l.words) refl e (λ q h k. lines_take q ls end setup h k)
  where
    go :
        (x : Result Mode SetupKind) → line_at (mode_of p) l.words ≡ x
        → (on_line l.number x >>= λ next. lines_at next ls end) ≡ Ok setup
        → ((q : Part) → Good q → lines_at (mode_of q) ls end ≡ Ok setup → TakesAll q ls setup)
        → TakesAll p (l ∷ ls) setup
    go (Err k) h e ih = absurd cc
    go (Ok m) h e ih =
        let g = line_takes p l.words m good h in
        let rest = ih g.next g.good (ap (λ (x : Mode). lines_at x ls end) g.mode ∙ e) in
        record {
          spelled = rest.spelled;
          good = rest.good;
          some = rest.some;
          rows =
              rest.rows
              ∙ (ap (λ (x : List Words). x ++ words_of ls) g.rows
              ∙ append_assoc (rows_of p) (l.words ∷ []) (words_of ls));
          value = rest.value;
        }

boards_some : (s : SetupText) → SetupStands s → 0 < length s.boards
boards_some s h =
    let low : 1 ≤ length (map (board_of (tables_of s.tables)) s.boards) = h.sound.boards_low in
    omega (arith, length-map s.boards (board_of (tables_of s.tables)))

module _ {X : Type 0} (bytes : List ℕ) (view : X → Setup) where
  pub is_spelled :
      (r : Result X SetupFault) → Answers view r (setup_at (unread bytes)) → IfOk r (λ v. IsSetup bytes (view v))
  is_spelled (Err e) given = tt
  is_spelled (Ok v) given =
      let ls = (unread bytes).lines in
      let t = lines_take begin ls (unread bytes).end (view v) tt given in
      record {
        spelled = t.spelled;
        stands = stands t.spelled t.good t.some;
        text = text_items ls (unread bytes).end
            ∙ ap (λ (x : List Words). lines_items x ++ text_end ∷ []) (sym t.rows);
        value = t.value;
      }
