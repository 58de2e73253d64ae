use Rattle.std.proofs.Common.{arith, ap, length, sym, ◌∙◌, []}
use Rattle.std.proofs.lemmas.List.{length-map, length-replicate}
use Rattle.generator.proofs.make.empty_scripts.Goals as goal

pub push_reserved-requires : goal.push_reserved-requires
push_reserved-requires c =
    let scripts = c.loop-script.scripts in
    let long = sym (length-map scripts.items (λ v. v.items)) ∙ ap length c.loop-script.invariant.items
    ∙ length-replicate c.loop-script._script [] in
    let ok = scripts.ok in
    let room = c.loop-script.invariant.room in
    omega (arith, long, room)
