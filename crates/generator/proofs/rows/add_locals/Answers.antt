use Rattle.std.proofs.Common.{None}
use Rattle.bus_signals.specs.declared.LocalEvent.{LocalEvent}
use Rattle.moesi_state.specs.declared.State.TheVariants.{M}
use Rattle.moesi_state.specs.declared.Outcome.TheVariants.{Fixed}
use Rattle.generator.specs.declared.rows.LocalRow.{LocalRow}
use Rattle.generator.proofs.MoreRows.{local_rows_step, local_first_fits, local_rest_fits}
use Rattle.generator.proofs.rows.add_locals.Goals as goal

-- a row where none is
abbrev any : LocalRow
any = (M, LocalEvent.Read, Fixed M, None)

pub add_local-requires : goal.add_local-requires
add_local-requires c =
    local_first_fits _ c.args.rows.now c.loop-row.row-index any c.loop-row-test.true c.loop-row.invariant.fits

pub loop-row-preserved : goal.loop-row-preserved
loop-row-preserved c =
    let rows = c.args.rows.now in
    let i = c.loop-row.row-index in
    record {
      table =
          local_rows_step _ _ _ rows i any c.loop-row-test.true c.loop-row.invariant.table c.in_ok-add_local.ensures;
      fits = local_rest_fits _ _ rows i any c.loop-row-test.true c.loop-row.invariant.fits c.in_ok-add_local.ensures;
    }
