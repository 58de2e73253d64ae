use Rattle.std.specs.Prelude.{map, string_bytes}
use Rattle.fb_cli.specs.Rows.{command_in, explained_rows}
use Rattle.fb_cli.proofs.Explained.{answer_more, free_comes, words_alone}
use Rattle.fb_cli.proofs.explaining.explain.Goals as goal

pub returns-in-Ok : goal.returns-in-Ok
returns-in-Ok g c =
    free_comes (command_in explained_rows (map string_bytes c.args.words.now)) (g.F.Shelf.file c.args.shelf.now) _
    c.in-Ok.field-0 c.say.result c.in-Ok.ensures c.say.ensures

pub returns-in-Err-Answered : goal.returns-in-Err-Answered
returns-in-Err-Answered g c =
    let stop = c.in-Err-Answered in
    answer_more _ (command_in explained_rows (map string_bytes c.args.words.now)) (g.F.Shelf.file c.args.shelf.now) _
    stop.answer stop.field-0 c.explained_answer.result c.of.result stop.field-0-is c.of.ensures stop.ensures
    c.explained_answer.ensures.status c.explained_answer.ensures.text

pub returns-in-Err-Refused-NoRow : goal.returns-in-Err-Refused-NoRow
returns-in-Err-Refused-NoRow g c =
    let stop = c.in-Err-Refused-NoRow in
    words_alone _ (command_in explained_rows (map string_bytes c.args.words.now)) (g.F.Shelf.file c.args.shelf.now) _
    stop.field-0 stop.field-0-0 stop.field-0-is stop.field-0-0-is stop.ensures
