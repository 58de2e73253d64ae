use Rattle.std.proofs.Common.{arith}
use Rattle.std.proofs.lemmas.List.{length-map}
use Rattle.generator.proofs.Making.{push_access}
use Rattle.generator.proofs.make.deal.Goals as goal

pub returns-in-Ok : goal.returns-in-Ok
returns-in-Ok c =
    let scripts = c.args.scripts.now.items in
    let within = c.requires in
    let long = length-map scripts (λ v. v.items) in
    push_access scripts c.args.index c.args.access c.index_mut.result.now c.push.new.self (omega (arith, within, long))
    c.index_mut.ensures.value c.in-Ok.ensures.items
