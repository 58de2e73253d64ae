use Rattle.bus_signals.specs.declared.BusEvent.TheVariants.{Rd}
use Rattle.bus_signals.specs.Responses.{silent}
use Rattle.moesi_state.specs.declared.State.TheVariants.{M}
use Rattle.generator.specs.declared.rows.AnswerRow.{AnswerRow}
use Rattle.generator.proofs.MoreRows.{answer_rows_step, answer_first_fits, answer_rest_fits}
use Rattle.generator.proofs.rows.add_answers.Goals as goal

-- a row where none is
abbrev any : AnswerRow
any = (M, Rd, M, silent)

pub add_answer-requires : goal.add_answer-requires
add_answer-requires c =
    answer_first_fits _ c.args.rows.now c.loop-row.row-index any c.loop-row-test.true c.loop-row.invariant.fits

pub loop-row-preserved : goal.loop-row-preserved
loop-row-preserved c =
    let rows = c.args.rows.now in
    let i = c.loop-row.row-index in
    record {
      table =
          answer_rows_step _ _ _ rows i any c.loop-row-test.true c.loop-row.invariant.table c.in_ok-add_answer.ensures;
      fits = answer_rest_fits _ _ rows i any c.loop-row-test.true c.loop-row.invariant.fits c.in_ok-add_answer.ensures;
    }
