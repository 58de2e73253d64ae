use Rattle.std.proofs.Common.{◌∙◌, ap}
use Rattle.board.specs.Rack.{Rack, all_ways}
use Rattle.board.proofs.Sharing.{rows-have}
use Rattle.board.proofs.rack.Rack.pool.Goals as goal

pub returns-clause-rows : goal.returns-clause-rows
returns-clause-rows c =
    rw (← c.self.view_is) (rows-have c.self.inside.pool c.self.inside.stations.items _ c.self.invariant.hold)

pub returns-clause-all : goal.returns-clause-all
returns-clause-all c = c.self.invariant.hold.enough ∙ ap (λ (r : Rack). all_ways r.specs) c.self.view_is
