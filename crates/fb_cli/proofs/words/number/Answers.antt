use Rattle.std.proofs.Common.{◌≤◌, length, arith}
use Rattle.std.specs.Prelude.{decimal}
use Rattle.std.proofs.lemmas.Fmt.{length-decimal-le}
use Rattle.fb_cli.proofs.words.number.Goals as goal

pub returns-clause-spare : goal.returns-clause-spare
returns-clause-spare c =
    let short : length (decimal c.args.value) ≤ 20 =
    length-decimal-le 20 c.args.value (omega arith) (omega arith) (omega arith) in
    omega arith
