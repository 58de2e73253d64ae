-- A setup that is written is spelled by what is written.
use Rattle.std.proofs.Common.{◌≡◌, ℕ, ◌*◌, ◌<◌, ◌^◌, List, [], ◌++◌, map, refl, sym, ap, subst, ◌∙◌, arith}
use Rattle.std.proofs.lemmas.List.{append-nil}
use Rattle.fb_text.specs.Lines.{lines}
use Rattle.fb_text.specs.Unread.{unread, numbered}
use Rattle.fb_text.specs.Places.{Words, items, lines_items, lines_places, text_places}
use Rattle.fb_text.proofs.Spaced.{lines_again}
use Rattle.class_relation.specs.Tables.{Table}
use Rattle.setup.specs.Setup.{Setup, WellFormed, line_count}
use Rattle.setup.specs.Setup as checked
use Rattle.setup_text.specs.Spelling.{setup_rows, SetupFits, setup_items}
use Rattle.setup_text.specs.Values.{board_of, setup_of}
use Rattle.setup_text.specs.Correct.{SetupStands, IsSetup}
use Rattle.setup_text.specs.Writing.{text_of, written_setup, boards_from, IsWholeSetup, places_behind}
use Rattle.setup_text.proofs.WrittenWords.{each, memory_again, words_within, words_fit}
use Rattle.setup_text.proofs.WrittenTables.{tables_again, tables_stand, tables_fit}
use Rattle.setup_text.proofs.WrittenBoards.{boards_again, scripts_again, in_places, boards_fit}
use Rattle.setup_text.proofs.WrittenRows.{setup_plain}

-- what is written has the value of the setup
pub value_again : (s : Setup) → IsWholeSetup s → setup_of (text_of s) ≡ s
value_again s h =
    let m = memory_again s.memory (line_count s) h.sound.memory in
    let t = tables_again s.tables h.tables in
    let b = boards_again s s.tables 1 s.boards s.scripts refl h.sound.names
    (each (checked.BoardFits s) s.boards h.sound.boards) in
    let c = scripts_again s.tables 1 s.boards s.scripts h.sound.scripts in
    λ i.
    record {
      memory = m i;
      fair = s.fair;
      tables = t i;
      boards = (ap (λ (v : List Table). map (board_of v) (boards_from s.tables 1 s.boards s.scripts)) t ∙ b) i;
      scripts = c i;
    }

pub fits : (s : Setup) → IsWholeSetup s → SetupFits (text_of s)
fits s h =
    let few = h.sound.lines_high in
    let long = h.sound.memory in
    let boards = h.sound.boards_high in
    record {
      lines = omega arith;
      words = words_fit 0 s.memory (omega arith) (each (λ (w : ℕ). w < 2 ^ 32) s.memory h.sound.words);
      tables = tables_fit s.tables h.tables;
      boards =
          boards_fit s s.tables 1 s.boards s.scripts refl h.tables (omega arith)
          (each (checked.BoardFits s) s.boards h.sound.boards) h.chooses h.scripts;
    }

pub stands : (s : Setup) → IsWholeSetup s → SetupStands (text_of s)
stands s h =
    let long = h.sound.memory in
    record {
      fits = fits s h;
      addresses = words_within 0 (4 * line_count s) s.memory (omega arith);
      cells = tables_stand s.tables h.tables;
      places = in_places s.tables 1 s.boards s.scripts;
      sound = subst WellFormed (sym (value_again s h)) h.sound;
    }

-- the places of what is written, and then those of what follows
pub places_again :
    (s : Setup) → IsWholeSetup s → (rest : List ℕ)
    → items (text_places (written_setup s ++ rest)) ≡ lines_items (setup_rows (text_of s)) ++ places_behind s rest
unfolding written_setup
places_again s h rest =
    let rows : List Words = setup_rows (text_of s) in
    let end : ℕ = (unread (written_setup s ++ rest)).end in
    lines_again rows 1 end rest (setup_plain (text_of s) (fits s h))
    ∙ ap (λ (n : ℕ). lines_items rows ++ items (lines_places (numbered n (lines rest)) end)) (omega arith)

nothing_behind : (s : Setup) → lines_items (setup_rows (text_of s)) ++ places_behind s [] ≡ setup_items (text_of s)
unfolding lines
nothing_behind s = refl

pub is_setup : (s : Setup) → IsWholeSetup s → IsSetup (written_setup s) s
is_setup s h = record {
  spelled = text_of s;
  stands = stands s h;
  text =
      ap (λ (v : List ℕ). items (text_places v)) (sym (append-nil (written_setup s)))
      ∙ (places_again s h [] ∙ nothing_behind s);
  value = sym (value_again s h);
}
