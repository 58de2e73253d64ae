use Rattle.std.proofs.Common.{ap, ◌++◌}
use Rattle.replayer.specs.Reader.{found_in}
use Rattle.replayer.specs.Standing.{Replaying, place_of}
use Rattle.replayer.proofs.Reading.{line_read, line_found}
use Rattle.replayer.proofs.pieces.Replay.close_line.Goals as goal

pub returns-clause-place : goal.returns-clause-place
returns-clause-place c = λ rest.
    line_read c.args.self.now.place c.self.inside.machine c.self.inside.reader c.self.inside.stage c.args.bytes.now rest
    (place_of c.take-self-inside.new.machine c.close-found.new.self c.take-self-inside.result)
    (ap (λ (r : Replaying). r.place) c.self.view_is) c.requires.reading c.close-found.ensures.lacks c.requires.lacks
    (line_found c.self.inside.machine c.take-self-inside.new.machine c.close-found.new.self c.take-self-inside.result
    c.close-found.result (found_in (c.self.inside.reader ++ c.args.bytes.now)) c.close-found.ensures.fresh
    c.take-self-inside.ensures.place c.close-found.ensures.found)
