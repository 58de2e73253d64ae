-- The facts of a grant together mean that it may happen.
use Rattle.std.proofs.Common.{Bool, List, [], ap, arith, length, refl, sym, true, ℕ, ◌∙◌, ◌∷◌, ◌≡◌, ◌&&◌, ◌==◌}
use Rattle.std.proofs.lemmas.Bool.{and_from, and_parts, eq-eqb, eqb-true}
use Rattle.std.specs.Prelude.{◌↔◌, IsTrue}
use Rattle.bus_model.specs.Settling.{highest, settled_lines, settled_rounds}
use Rattle.arbiter.specs.Raised.{competitors}
use Rattle.board.specs.Rack.{setup_of}
use Rattle.bus_model.specs.Configuration.{Configuration, Idle, is_raised}
use Rattle.bus_model.specs.Arbitration.{does_compete}
use Rattle.bus_model.specs.Setup.{Setup, number_of}
use Rattle.bus_model.specs.Soundness.{PartsFit}
use Rattle.bus_model.specs.Steps.{CanGrant}
use Rattle.backplane.specs.declared.parts.Parts.{Parts}
use Rattle.backplane.specs.Parts.{IsPartOf, PartsShow, phase_of}
use Rattle.backplane.specs.Permits.{AreOfOneSetup, Competes, HasRaised, does_settle}
use Rattle.coherence.proofs.Competing.{competes_raised}
use Rattle.backplane.proofs.Deciding.{all_of, none_left, one_more}
use Rattle.backplane.proofs.Grants.{competes-shown, competitors-shown, raised-shown, some-competes}
use Rattle.backplane.proofs.Requesting.{raised_within}
use Rattle.backplane.proofs.Shown.{number_shown}

-- What a settled contest says of its numbers.
record Settles (numbers : List ℕ) (number lines rounds : ℕ) : Type 0 where
  pub number_highest : number ≡ highest numbers
  pub lines_settled : lines ≡ settled_lines numbers
  pub rounds_settled : rounds ≡ settled_rounds numbers

settles :
    (numbers : List ℕ) (number lines rounds : ℕ) → does_settle numbers number lines rounds ≡ true
    → Settles numbers number lines rounds
settles [] number lines rounds e = cc
settles (n ∷ rest) number lines rounds e =
    let numbers : List ℕ = n ∷ rest in
    let p =
    and_parts (number == highest numbers && lines == settled_lines numbers) (rounds == settled_rounds numbers) e in
    let q = and_parts (number == highest numbers) (lines == settled_lines numbers) p.0 in
    record {
      number_highest = eqb-true number (highest numbers) q.0;
      lines_settled = eqb-true lines (settled_lines numbers) q.1;
      rounds_settled = eqb-true rounds (settled_rounds numbers) p.1;
    }

settled :
    (numbers : List ℕ) (number lines rounds : ℕ) → (numbers ≡ [] → ⊥) → Settles numbers number lines rounds
    → does_settle numbers number lines rounds ≡ true
settled [] number lines rounds some s = absurd (some refl)
settled (n ∷ rest) number lines rounds some s =
    let numbers : List ℕ = n ∷ rest in
    and_from (number == highest numbers && lines == settled_lines numbers) (rounds == settled_rounds numbers)
    (and_from (number == highest numbers) (lines == settled_lines numbers)
    (eq-eqb number (highest numbers) s.number_highest) (eq-eqb lines (settled_lines numbers) s.lines_settled))
    (eq-eqb rounds (settled_rounds numbers) s.rounds_settled)

module _ (setup : Setup) (c : Configuration) (parts : Parts) (shows : PartsShow setup c parts)
    (one : AreOfOneSetup parts) (fit : PartsFit setup c) where
  -- A board has raised a request in the parts exactly where it has in the configuration.
  requested : (board : ℕ) → HasRaised parts board → is_raised c.boards board ≡ true
  requested board h = sym (raised-shown setup c parts board shows h.there) ∙ h.raised

  requesting : (board : ℕ) → is_raised c.boards board ≡ true → HasRaised parts board
  requesting board h =
      let within = raised_within c.boards board h in
      let specs = ap length shows.boards in
      let requests = one.requests in
      let places = one.places in
      let long = fit.boards in
      let low = within.0 in
      let high = within.1 in
      let there : IsPartOf parts board =
      record { low = low; rack = omega arith; requests = omega arith; places = omega arith } in
      record { there = there; raised = raised-shown setup c parts board shows there ∙ h }

  -- A board competes in the parts exactly where it does in the configuration.
  competing_there : (board : ℕ) → Competes parts board → does_compete c.arbitration c.boards board ≡ true
  competing_there board h =
      let specs = ap length shows.boards in
      let high = h.there.rack in
      sym (competes-shown setup c parts shows fit board h.there.low (omega (arith, high, specs))) ∙ h.competes

  competing_here : (board : ℕ) → does_compete c.arbitration c.boards board ≡ true → Competes parts board
  competing_here board h =
      let r = requesting board (competes_raised c.arbitration c.boards board h) in
      let specs = ap length shows.boards in
      let high = r.there.rack in
      record {
        there = r.there;
        competes =
            competes-shown setup c parts shows fit board r.there.low (omega (arith, high, specs)) ∙ h;
      }

  some_compete : (board : ℕ) → is_raised c.boards board ≡ true → competitors parts.requests ≡ [] → ⊥
  some_compete board h =
      let r = requesting board h in some-competes parts.requests board r.there.low r.there.requests r.raised

  -- A board competes, and the contest shows its number, with these lines and in this many rounds.
  abbrev Won : ℕ → ℕ → ℕ → Type 0
  Won winner lines rounds =
      Competes parts winner
      × IsTrue (does_settle (competitors parts.requests) (number_of (setup_of parts.rack) winner) lines rounds)

  pub grant_told : (by winner lines rounds : ℕ) (idle raised wins : Bool)
      → ((idle ≡ true) ↔ (phase_of parts.phase ≡ Idle)) → ((raised ≡ true) ↔ HasRaised parts by)
      → ((wins ≡ true) ↔ Won winner lines rounds)
      → (all_of (idle ∷ raised ∷ wins ∷ []) ≡ true) ↔ CanGrant setup c by winner lines rounds
  grant_told by winner lines rounds idle raised wins i r w = (λ h. build (facts.0 h), λ can. facts.1 (back can))
    where
      facts :
          (all_of (idle ∷ raised ∷ wins ∷ []) ≡ true)
          ↔ ((phase_of parts.phase ≡ Idle) × (HasRaised parts by × (Won winner lines rounds × Unit {0})))
      facts =
          one_more idle (raised ∷ wins ∷ []) _ _ i
          (one_more raised (wins ∷ []) _ _ r (one_more wins [] _ _ w none_left))

      build :
          (phase_of parts.phase ≡ Idle) × (HasRaised parts by × (Won winner lines rounds × Unit {0}))
          → CanGrant setup c by winner lines rounds
      build f =
          let won = f.1.1.0 in
          let s = settles (competitors parts.requests) (number_of (setup_of parts.rack) winner) lines rounds won.1 in
          let compete = competitors-shown setup c parts shows fit in
          record {
            idle = sym shows.phase ∙ f.0;
            by_raised = requested by f.1.0;
            wins = record {
              competes = competing_there winner won.0;
              number_highest = sym (number_shown setup c parts shows winner) ∙ s.number_highest ∙ ap highest compete;
              lines_settled = s.lines_settled ∙ ap settled_lines compete;
              rounds_settled = s.rounds_settled ∙ ap settled_rounds compete;
            };
          }

      back :
          CanGrant setup c by winner lines rounds
          → (phase_of parts.phase ≡ Idle) × (HasRaised parts by × (Won winner lines rounds × Unit {0}))
      back can =
          let compete = sym (competitors-shown setup c parts shows fit) in
          let s : Settles (competitors parts.requests) (number_of (setup_of parts.rack) winner) lines rounds = record {
            number_highest = number_shown setup c parts shows winner ∙ can.wins.number_highest ∙ ap highest compete;
            lines_settled = can.wins.lines_settled ∙ ap settled_lines compete;
            rounds_settled = can.wins.rounds_settled ∙ ap settled_rounds compete;
          } in (
            shows.phase ∙ can.idle,
            (
              requesting by can.by_raised,
              (
                (
                  competing_here winner can.wins.competes,
                  settled (competitors parts.requests) (number_of (setup_of parts.rack) winner) lines rounds
                      (some_compete by can.by_raised) s,
                ),
                tt,
              ),
            ),
          )
