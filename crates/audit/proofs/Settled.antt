-- The configuration after an access that was completed without the bus, in the order in which the auditor's code
-- makes it.
use Rattle.std.proofs.Common.{◌≡◌, ℕ, Bool, true, List, false, length, take, drop, ◌++◌, Some, None, Option, ap, refl, sym, ◌∙◌}
use Rattle.std.specs.Prelude.{if◌then◌else◌}
use Rattle.std.proofs.Math.Seq.{take-append_seam}
use Rattle.moesi_state.specs.declared.State.{State}
use Rattle.bus_model.specs.Setup.{Setup}
use Rattle.bus_model.specs.Events.{Done}
use Rattle.bus_model.specs.Configuration.{Configuration, Phase, Progress, words_at}
use Rattle.bus_model.specs.Board.{access_line}
use Rattle.bus_model.specs.Carrying.{written}
use Rattle.bus_model.specs.Effects.{ask, asking, complete, completed, in_phase, put_copy, put_memory, spend, spent, without_grant}
use Rattle.bus_model.specs.Places.{change_place}
use Rattle.coherence.proofs.Puts.{put_copy-is}
use Rattle.audit.specs.Steps.{after_any_local, displaced, without_displaced}

-- A list that was lent out whole, and came back as long as it was.
pub lent-whole :
    {X : Type 0} (n : ℕ) (xs ys : List X) → n ≡ length xs → length ys ≡ length xs
    → take n (ys ++ drop (length ys) xs) ≡ ys
lent-whole n xs ys long same =
    ap (λ m. take m (ys ++ drop (length ys) xs)) (long ∙ sym same) ∙ take-append_seam ys (drop (length ys) xs)

-- A row that goes leaves what the boards have done.
pub displaced-boards :
    (c : Configuration) (board : ℕ) (o : Option (ℕ × State)) → (without_displaced c board o).boards ≡ c.boards
displaced-boards c board None = refl
displaced-boards c board (Some v) = refl

-- And memory that takes words does so too.
pub remembered-boards :
    (c : Configuration) (b : Bool) (line : ℕ) (words : List ℕ)
    → (if b then put_memory c line words else c).boards ≡ c.boards
remembered-boards c true line words = refl
remembered-boards c false line words = refl

-- The configuration after the copy was put: the phase is that of the one before it.
abbrev concluded : Configuration → Phase → ℕ → Configuration
concluded c phase board = in_phase (without_grant phase board) (ask false (spend (complete c board) board) board)

-- The parts that are made one after another are those of the configuration after the event.
pub settled-parts :
    (setup : Setup) (c d m : Configuration) (board line : ℕ) (state : State) (done : Done) (words : List ℕ)
    (boards : List Progress) (phase : Phase)
    → line ≡ access_line done.access
    → d ≡ without_displaced c board (displaced setup c.rows board line state)
    → words ≡ written done.access (words_at d.rows board line)
    → m ≡ put_copy d board line state words
    → boards ≡ change_place (asking false) (change_place spent (change_place completed m.boards board) board) board
    → phase ≡ without_grant m.phase board
    → ◌≡◌ {A = Configuration} (record {
      memory = m.memory;
      rows = m.rows;
      boards = boards;
      phase = phase;
      arbitration = m.arbitration;
    }) (after_any_local setup c board state done)
settled-parts setup c d m board line state done words boards phase l gone w put b p =
    let made : ◌≡◌ {A = Configuration} (record {
      memory = m.memory;
      rows = m.rows;
      boards = boards;
      phase = phase;
      arbitration = m.arbitration;
    }) (concluded m m.phase board) =
    λ i. record { memory = m.memory; rows = m.rows; boards = b i; phase = p i; arbitration = m.arbitration } in
    let same : m.phase ≡ d.phase =
    ap (λ (x : Configuration). x.phase) put
    ∙ ap (λ (x : Configuration). x.phase) (put_copy-is d board line state words) in
    let before : d ≡ without_displaced c board (displaced setup c.rows board (access_line done.access) state) =
    gone ∙ ap (λ n. without_displaced c board (displaced setup c.rows board n state)) l in
    made
    ∙ ap (λ (ph : Phase). concluded m ph board) same
    ∙ ap (λ (x : Configuration). concluded x d.phase board) put
    ∙ ap (λ (ws : List ℕ). concluded (put_copy d board line state ws) d.phase board) w
    ∙ ap (λ (n : ℕ). concluded (put_copy d board n state (written done.access (words_at d.rows board n))) d.phase board)
    l
    ∙ ap (λ (x : Configuration).
    concluded (put_copy x board (access_line done.access) state
    (written done.access (words_at x.rows board (access_line done.access)))) x.phase board) before
