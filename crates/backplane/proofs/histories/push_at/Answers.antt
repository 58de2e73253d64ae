use Rattle.backplane.proofs.Listing.{push-rows, push-rooms}
use Rattle.backplane.proofs.histories.push_at.Goals as goal

pub returns-clause-items : goal.returns-clause-items
returns-clause-items g c =
    push-rows c.args.lists.now.items c.args.place c.index_mut-list.result.now c.push_reserved.new.self c.args.item
    c.requires.there c.index_mut-list.ensures.value c.push_reserved.ensures.items

pub returns-clause-rooms : goal.returns-clause-rooms
returns-clause-rooms g c =
    push-rooms c.args.lists.now.items c.args.place c.index_mut-list.result.now c.push_reserved.new.self
    c.index_mut-list.ensures.value c.push_reserved.ensures.capacity
