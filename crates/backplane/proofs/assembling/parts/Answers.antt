use Rattle.std.proofs.Common.{◌∙◌, ap, sym, refl, subst, map, List}
use Rattle.bus_model.specs.Setup.{BoardSpec}
use Rattle.board.specs.Rack.{AllFit, empty_rack}
use Rattle.backplane.proofs.Opening.{boards-fit, numbers-contest, parts-open}
use Rattle.backplane.proofs.assembling.parts.Goals as goal

pub rack-requires-clause-fit : goal.rack-requires-clause-fit
rack-requires-clause-fit c =
    subst (λ (bs : List BoardSpec). AllFit c.args.tables.items bs) (sym c.boards.ensures.boards)
    (boards-fit c.args.setup.now c.args.tables.items c.boards.ensures.sound c.requires)

pub new-requires-2 : goal.new-requires-2
new-requires-2 c =
    numbers-contest c.args.setup.now c.in-Ok-numbers.numbers.items c.boards.ensures.sound
    (c.in-Ok-numbers.ensures ∙ ap (map (λ (spec : BoardSpec). spec.number)) c.boards-2.ensures.boards)

pub returns : goal.returns
returns c =
    let setup = c.args.setup.now in
    parts-open setup _ c.args.tables.items c.in-Ok-copied.words.items c.in-Ok-numbers.numbers.items c.fair.result
    c.boards.ensures.sound c.fair.ensures.fair c.requires
    (c.in-Ok.ensures ∙ ap (λ (bs : List BoardSpec). empty_rack c.args.tables.items bs) c.boards.ensures.boards)
    (c.in-Ok-copied.ensures ∙ c.memory.ensures.memory) c.new.ensures
    (c.in-Ok-numbers.ensures ∙ ap (map (λ (spec : BoardSpec). spec.number)) c.boards-2.ensures.boards) c.new-2.ensures
    (c.in-Ok-first_places.ensures ∙ ap (map (λ (spec : BoardSpec). 0)) c.boards-3.ensures.boards) refl
