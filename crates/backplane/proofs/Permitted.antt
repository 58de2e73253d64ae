-- What a machine's invariant says of its parts, for the tests of what may happen.
use Rattle.std.proofs.Common.{Bool, List, ap, length, subst, sym, true, ℕ, ◌∙◌, ◌≡◌, ◌≤◌, arith}
use Rattle.std.specs.Prelude.{◌↔◌}
use Rattle.bus_model.specs.Configuration.{Configuration, Connected, Progress}
use Rattle.bus_model.specs.Events.{Event, Transaction}
use Rattle.bus_model.specs.Setup.{BoardSpec, Setup}
use Rattle.backplane.specs.declared.parts.Parts.{Parts}
use Rattle.backplane.specs.Histories.{Histories}
use Rattle.backplane.specs.Machine.{IsBoard, Machine, MayHappen, configuration, configuration_after}
use Rattle.backplane.specs.Parts.{CanCarry, IsPartOf, phase_of}
use Rattle.backplane.specs.Permits.{AreOfOneSetup, SoundParts}
use Rattle.backplane.specs.Standing.{Stands}
use Rattle.backplane.proofs.Counted.{length-mapped}
use Rattle.backplane.proofs.Filling.{can-carry, connected-sound}
use Rattle.backplane.proofs.Stepping.{part-of, part-of-present, stands-sound}

-- A test of an event answers for any equal event too.
pub of_event :
    (m : Machine) (event same : Event) (answer : Bool) → event ≡ same → ((answer ≡ true) ↔ MayHappen m same)
    → ((answer ≡ true) ↔ MayHappen m event)
of_event m event same answer e h = subst (λ x. (answer ≡ true) ↔ MayHappen m x) (sym e) h

module _ (setup : Setup) (events : List Event) (capacity : ℕ) (parts : Parts) (histories : Histories) (m : Machine)
    (stands : Stands setup events capacity parts histories) (view : record { setup = setup; journal = events } ≡ m)
  where
    -- The parts of a machine show its configuration, which is sound.
    pub sound_parts : SoundParts parts m.setup m.journal (configuration m)
    sound_parts =
        subst (λ (x : Machine). SoundParts parts x.setup x.journal (configuration x)) view
        (record {
          fits = stands.fits;
          sound = stands-sound setup events capacity parts histories stands;
          shows = stands.parts;
        })

    -- A board of the machine is one of its parts.
    pub board_part : (board : ℕ) → IsBoard m board → IsPartOf parts board
    board_part board there =
        part-of setup events capacity parts histories stands board there.low
        (subst (λ (x : Machine). board ≤ length x.setup.boards) (sym view) there.high)

    -- The rack, the requests and the places are of the setup's boards.
    pub one_setup : AreOfOneSetup parts
    one_setup =
        let shows = stands.parts in
        let specs = ap length shows.boards in
        let numbers = ap length shows.numbers ∙ length-mapped (λ (spec : BoardSpec). spec.number) setup.boards in
        let places = ap (λ (ns : List ℕ). length ns) shows.places
        ∙ length-mapped (λ (p : Progress). p.place) (configuration_after setup events).boards in
        let boards = (stands-sound setup events capacity parts histories stands).parts.boards in
        record { requests = omega arith; places = omega arith }

    -- The data of the transaction that is connected can move.
    pub carries : (t : Transaction) → phase_of parts.phase ≡ Connected t → CanCarry parts t
    carries t phase =
        let c : Configuration = configuration_after setup events in
        let sound = stands-sound setup events capacity parts histories stands in
        let connected : c.phase ≡ Connected t = sym stands.parts.phase ∙ phase in
        let purpose = (connected-sound setup events c t sound connected).purpose in
        can-carry setup events c parts t stands.fits sound stands.parts
        (part-of-present setup events capacity parts histories stands t.master purpose.0 purpose.1) connected
