use Rattle.std.proofs.Common.{◌≡◌, take}
use Rattle.class_relation.specs.Rows.{rows}
use Rattle.backplane.specs.Rooms.{rooms}
use Rattle.backplane.specs.Histories.{empty_histories}
use Rattle.backplane.proofs.Listing.{made}
use Rattle.backplane.proofs.histories.Histories.new.Given as goal

abbrev pub invariant-loop-room : goal.invariant-loop-room
invariant-loop-room l = made (rows l.lists.items) (rooms l.lists.items) ≡ empty_histories (take l.room-index l.rooms)
