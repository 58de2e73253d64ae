use Rattle.replayer.proofs.Long.{unfit_misspelled}
use Rattle.replayer.proofs.reader.Reader.close_kept.Goals as goal

pub returns-then-not-extend-clause-found : goal.returns-then-not-extend-clause-found
returns-then-not-extend-clause-found c =
    unfit_misspelled c.self.inside.unfinished.items c.args.self.now c.args.bytes.now c.extend.result
    c.extend.ensures.fits c.self.view_is c.if-not-extend.true
