use Rattle.std.proofs.Common.{refl, sym}
use Rattle.bus_model.specs.Events.{Connect, Drop, Grant, Local, Raise}
use Rattle.backplane.specs.Machine.{configuration}
use Rattle.backplane.proofs.Permitted.{board_part, of_event, one_setup, sound_parts}
use Rattle.backplane.proofs.machine.Machine.may_happen.Goals as goal

pub permits_local-requires : goal.permits_local-requires
permits_local-requires c =
    board_part c.self.inside.setup c.self.inside.journal.items _ c.self.inside.parts _ c.args.self.now c.self.invariant
    c.self.view_is c.in-Local.board (c.in-Some.ensures.board refl)

pub returns-in-Some : goal.returns-in-Some
returns-in-Some c =
    let m = c.args.self.now in
    let sound = sound_parts c.self.inside.setup c.self.inside.journal.items _ c.self.inside.parts _ m c.self.invariant
    c.self.view_is in
    of_event m c.args.event.now (Local c.in-Local.board c.in-Local.before c.in-Local.after c.in-Local.done)
    c.permits_local.result c.in-Local.is
    (c.permits_local.ensures m.setup m.journal (configuration m) sound (sym c.in-Some.ensures.access))

pub permits_drop-requires : goal.permits_drop-requires
permits_drop-requires c =
    board_part c.self.inside.setup c.self.inside.journal.items _ c.self.inside.parts _ c.args.self.now c.self.invariant
    c.self.view_is c.in-Drop.board (c.in-Some-next.ensures.board refl)

pub returns-in-Some-next : goal.returns-in-Some-next
returns-in-Some-next c =
    let m = c.args.self.now in
    let sound = sound_parts c.self.inside.setup c.self.inside.journal.items _ c.self.inside.parts _ m c.self.invariant
    c.self.view_is in
    of_event m c.args.event.now (Drop c.in-Drop.board c.in-Drop.line c.in-Drop.before) c.permits_drop.result
    c.in-Drop.is
    (c.permits_drop.ensures m.setup m.journal (configuration m) sound (sym c.in-Some-next.ensures.access))

pub permits_raise-requires : goal.permits_raise-requires
permits_raise-requires c =
    board_part c.self.inside.setup c.self.inside.journal.items _ c.self.inside.parts _ c.args.self.now c.self.invariant
    c.self.view_is c.in-Raise.board (c.in-Some-next-2.ensures.board refl)

pub returns-in-Some-next-2 : goal.returns-in-Some-next-2
returns-in-Some-next-2 c =
    let m = c.args.self.now in
    let sound = sound_parts c.self.inside.setup c.self.inside.journal.items _ c.self.inside.parts _ m c.self.invariant
    c.self.view_is in
    of_event m c.args.event.now (Raise c.in-Raise.board) c.permits_raise.result c.in-Raise.is
    (c.permits_raise.ensures m.setup m.journal (configuration m) sound (sym c.in-Some-next-2.ensures.access))

pub permits_connect-requires : goal.permits_connect-requires
permits_connect-requires c =
    board_part c.self.inside.setup c.self.inside.journal.items _ c.self.inside.parts _ c.args.self.now c.self.invariant
    c.self.view_is c.in-Connect.connected.master (c.in-Some-next-3.ensures.board refl)

pub returns-in-Some-next-3 : goal.returns-in-Some-next-3
returns-in-Some-next-3 c =
    let m = c.args.self.now in
    let sound = sound_parts c.self.inside.setup c.self.inside.journal.items _ c.self.inside.parts _ m c.self.invariant
    c.self.view_is in
    of_event m c.args.event.now (Connect c.in-Connect.connected) c.permits_connect.result c.in-Connect.is
    (c.permits_connect.ensures m.setup m.journal (configuration m) sound (sym c.in-Some-next-3.ensures.access))

pub permits_grant-requires : goal.permits_grant-requires
permits_grant-requires c =
    one_setup c.self.inside.setup c.self.inside.journal.items _ c.self.inside.parts _ c.args.self.now c.self.invariant
    c.self.view_is

pub returns-in-Grant : goal.returns-in-Grant
returns-in-Grant c =
    let m = c.args.self.now in
    let sound = sound_parts c.self.inside.setup c.self.inside.journal.items _ c.self.inside.parts _ m c.self.invariant
    c.self.view_is in
    of_event m c.args.event.now (Grant c.in-Grant.by c.in-Grant.winner c.in-Grant.lines c.in-Grant.rounds)
    c.permits_grant.result c.in-Grant.is (c.permits_grant.ensures m.setup m.journal (configuration m) sound)
