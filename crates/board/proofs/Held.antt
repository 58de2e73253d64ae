-- A frame that is found holds its line, so a board has no row exactly where its state is I.
use Rattle.std.proofs.Common.{◌≡◌, ℕ, Bool, true, false, cond, List, [], ◌∷◌, refl, Option, Some, None, ◌↔◌}
use Rattle.std.specs.Prelude.{IfSome, IsNone, IsTrue, is_none, not, option_map, unwrap_or}
use Rattle.moesi_state.specs.declared.State.{State}
use Rattle.moesi_state.specs.declared.State.TheVariants.{M, O, E, S, I}
use Rattle.moesi_state.specs.States.{holds}
use Rattle.board.specs.declared.frame.Frame.{Frame}
use Rattle.board.specs.Frames.{AllHeld, frame_at, is_line}

found-held-by :
    (t : Bool) (f : Frame) (o : Option Frame) → IsTrue (holds f.state) → IfSome o (λ x. IsTrue (holds x.state))
    → IfSome (cond t (Some f) o) (λ x. IsTrue (holds x.state))
found-held-by true f o h k = h
found-held-by false f o h k = k

pub found-held :
    (frames : List Frame) (line : ℕ) → AllHeld frames → IfSome (frame_at frames line) (λ f. IsTrue (holds f.state))
found-held [] line h = tt
found-held (f ∷ frames) line h = found-held-by (is_line line f) f _ h.0 (found-held frames line h.1)

held-state : (s : State) → IsTrue (holds s) → s ≡ I → ⊥
held-state M h e = cc
held-state O h e = cc
held-state E h e = cc
held-state S h e = cc
held-state I h e = cc

-- No frame, exactly where the state is I.
pub none-invalid :
    (o : Option Frame) → IfSome o (λ f. IsTrue (holds f.state)) → IsNone o
    ↔ (unwrap_or (option_map (λ (f : Frame). f.state) o) I ≡ I)
none-invalid None h = (λ _. refl, λ _. refl)
none-invalid (Some f) h = (λ e. cc, λ e. absurd (held-state f.state h e))

-- A line has no frame, exactly where its state holds nothing.
pub none-held :
    (o : Option Frame) → IfSome o (λ f. IsTrue (holds f.state))
    → is_none o ≡ not (holds (unwrap_or (option_map (λ (f : Frame). f.state) o) I))
none-held None h = refl
none-held (Some f) h = rw h refl
