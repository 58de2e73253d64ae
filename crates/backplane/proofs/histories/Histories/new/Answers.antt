use Rattle.std.proofs.Common.{refl, ap, ◌∙◌, get_or}
use Rattle.std.proofs.lemmas.List.{take_all}
use Rattle.backplane.specs.Histories.{empty_histories}
use Rattle.backplane.proofs.Listing.{new-list}
use Rattle.backplane.proofs.histories.Histories.new.Goals as goal

pub loop-room-init : goal.loop-room-init
loop-room-init c = rw c.new-lists.ensures.items refl

pub loop-room-preserved : goal.loop-room-preserved
loop-room-preserved c =
    new-list c.args.rooms.now c.loop-room.room-index (get_or c.args.rooms.now c.loop-room.room-index 0)
    c.loop-room.lists.items c.push.new.self.items c.in-Ok.list
    c.loop-room-test.true refl c.in-Ok-push.ensures.items c.in-Ok.ensures.items c.in-Ok.ensures.exact
    c.loop-room.invariant

pub returns : goal.returns
returns c =
    c.loop-room.invariant ∙ ap empty_histories (take_all c.loop-room.room-index c.args.rooms.now c.loop-room-test.false)
