use Rattle.std.proofs.lemmas.Result.{err_from_is_err_and}
use Rattle.run_text.proofs.Behind.{both-behind, failed-first}
use Rattle.run_text.proofs.run.print_ending_through.Goals as goal

pub returns-in_err-print_all_replies : goal.returns-in_err-print_all_replies
returns-in_err-print_all_replies g c =
    let p = err_from_is_err_and c.from_residual.result c.from_residual.ensures.1 in
    record {
      paged =
          rw (p.1, p.2)
          (failed-first _ c.in_err-print_all_replies.field-0.0 c.in_err-print_all_replies.ensures.paged);
    }

pub returns-in_err-print_memory : goal.returns-in_err-print_memory
returns-in_err-print_memory g c =
    let again = c.from_residual-in_err-print_memory in
    let p = err_from_is_err_and again.result again.ensures.1 in
    record {
      paged =
          rw (p.1, p.2)
          (both-behind c.in_ok-print_all_replies.field-0 _ c.in_ok-print_all_replies.ensures.paged
          (failed-first _ c.in_err-print_memory.field-0.0 c.in_err-print_memory.ensures.paged));
    }

pub returns : goal.returns
returns g c = record {
  paged =
      both-behind c.in_ok-print_all_replies.field-0 _ c.in_ok-print_all_replies.ensures.paged
      (both-behind c.in_ok-print_memory.field-0 _ c.in_ok-print_memory.ensures.paged
      c.print_all_copies.ensures.paged);
}
