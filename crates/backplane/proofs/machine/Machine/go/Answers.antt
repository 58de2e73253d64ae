use Rattle.std.proofs.Common.{ap}
use Rattle.bus_model.specs.Events.{Local, Drop, Connect, Raise, Grant}
use Rattle.bus_model.specs.Turns.{transaction_of}
use Rattle.backplane.specs.Machine.{configuration}
use Rattle.backplane.specs.Plans.{planned}
use Rattle.backplane.proofs.machine.Machine.go.Goals as goal

pub do_local-requires : goal.do_local-requires
do_local-requires c =
    let m = c.args.self.now in
    c.requires (Local c.args.board c.in-Settle.before c.in-Settle.after c.in-Settle.done)
    (ap (planned m.setup (configuration m) c.args.board) c.in-Settle.is)

pub do_drop-requires : goal.do_drop-requires
do_drop-requires c =
    let m = c.args.self.now in
    c.requires (Drop c.args.board c.in-Drop.line c.in-Drop.before)
    (ap (planned m.setup (configuration m) c.args.board) c.in-Drop.is)

pub do_connect_as_picked-requires : goal.do_connect_as_picked-requires
do_connect_as_picked-requires c =
    let m = c.args.self.now in
    c.requires (Connect (transaction_of m.setup (configuration m) c.args.board c.in-Connect.line c.in-Connect.event
    c.in-Connect.outcome)) (ap (planned m.setup (configuration m) c.args.board) c.in-Connect.is)

pub do_raise-requires : goal.do_raise-requires
do_raise-requires c =
    let m = c.args.self.now in
    c.requires (Raise c.args.board) (ap (planned m.setup (configuration m) c.args.board) c.in-Raise.is)

pub do_grant-requires : goal.do_grant-requires
do_grant-requires c =
    let m = c.args.self.now in
    c.requires (Grant c.args.board c.in-Grant.winner c.in-Grant.lines c.in-Grant.rounds)
    (ap (planned m.setup (configuration m) c.args.board) c.in-Grant.is)
