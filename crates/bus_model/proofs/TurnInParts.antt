-- The turn of a board is made of its parts.
use Rattle.std.proofs.Common.{◌≡◌, ℕ, Bool, true, false, Option, Some, None, refl}
use Rattle.bus_signals.specs.declared.Access.{Access}
use Rattle.bus_signals.specs.declared.BusEvent.{BusEvent}
use Rattle.bus_signals.specs.declared.BusEvent.TheVariants.{Flu}
use Rattle.moesi_state.specs.declared.State.{State}
use Rattle.moesi_state.specs.declared.State.TheVariants.{I}
use Rattle.moesi_state.specs.declared.Outcome.{Outcome}
use Rattle.moesi_state.specs.declared.Outcome.TheVariants.{Fixed}
use Rattle.class_relation.specs.declared.LocalAction.{LocalAction}
use Rattle.bus_model.specs.Setup.{Setup}
use Rattle.bus_model.specs.Events.{Transaction}
use Rattle.bus_model.specs.Configuration.{Configuration, Phase, Idle, Granted, Connected, present_access, is_granted, is_raised}
use Rattle.bus_model.specs.Board.{access_line, is_clean}
use Rattle.bus_model.specs.Turns.{turn, by_bus, decide, own_transaction, victim_for}
use Rattle.bus_model.specs.TurnParts.{turn_for, bus_turn}

module _ (setup : Setup) (c : Configuration) (board : ℕ) where
  -- Cases 5 to 8.
  bus_in_parts :
      (line : ℕ) (event : BusEvent) (outcome : Outcome)
      → by_bus setup c board line event outcome
      ≡ bus_turn setup c board line event outcome (is_granted c.phase board)
  bus_in_parts line event outcome = of_grant (is_granted c.phase board) refl
    where
      Same : Type 0
      Same =
          by_bus setup c board line event outcome
          ≡ bus_turn setup c board line event outcome (is_granted c.phase board)

      of_phase : (p : Phase) → c.phase ≡ p → is_granted c.phase board ≡ false → is_raised c.boards board ≡ true → Same
      of_phase Idle at granted raised = rw (granted, raised, at, by_bus) refl
      of_phase (Granted b) at granted raised = rw (granted, raised, at, by_bus) refl
      of_phase (Connected t) at granted raised = rw (granted, raised, at, by_bus) refl

      of_request : (r : Bool) → is_raised c.boards board ≡ r → is_granted c.phase board ≡ false → Same
      of_request false raised granted = rw (granted, raised, by_bus) refl
      of_request true raised granted = of_phase c.phase refl granted raised

      of_grant : (g : Bool) → is_granted c.phase board ≡ g → Same
      of_grant true granted = rw (granted, by_bus) refl
      of_grant false granted = of_request (is_raised c.boards board) refl granted

  -- All cases.
  pub in_parts : turn setup c board ≡ turn_for setup c board (present_access setup c.boards board)
  in_parts = of_access (present_access setup c.boards board) refl
    where
      Same : Type 0
      Same = turn setup c board ≡ turn_for setup c board (present_access setup c.boards board)

      of_access : (o : Option Access) → present_access setup c.boards board ≡ o → Same
      of_access None e = rw (e, turn) refl
      of_access (Some access) e = of_transaction (own_transaction c.phase board) refl
        where
          line : ℕ
          line = access_line access

          chosen : LocalAction
          chosen = decide setup c board access

          of_room :
              (clean : Bool) (v : ℕ × State) → own_transaction c.phase board ≡ None → (event : BusEvent)
              → chosen.bus ≡ Some event → victim_for setup c board access chosen.result ≡ Some v
              → is_clean v.1 ≡ clean → Same
          of_room true v own event bus some is = rw (e, own, bus, some, is, turn) refl
          of_room false v own event bus some is =
              rw (e, own, bus, some, is, turn) (bus_in_parts v.0 Flu (Fixed I))

          of_victim :
              (v : Option (ℕ × State)) → own_transaction c.phase board ≡ None → (event : BusEvent)
              → chosen.bus ≡ Some event → victim_for setup c board access chosen.result ≡ v → Same
          of_victim None own event bus none =
              rw (e, own, bus, none, turn) (bus_in_parts line event chosen.result)
          of_victim (Some v) own event bus some = of_room (is_clean v.1) v own event bus some refl

          of_bus : (b : Option BusEvent) → own_transaction c.phase board ≡ None → chosen.bus ≡ b → Same
          of_bus None own none = rw (e, own, none, turn) refl
          of_bus (Some event) own bus =
              of_victim (victim_for setup c board access chosen.result) own event bus refl

          of_transaction : (t : Option Transaction) → own_transaction c.phase board ≡ t → Same
          of_transaction (Some t) own = rw (e, own, turn) refl
          of_transaction None own = of_bus chosen.bus own refl
