use Rattle.std.proofs.Common.{ap, sym, inr}
use Rattle.linda_inspect.proofs.ReportLaws.{of_output, seen_of, stands_as}
use Rattle.linda_inspect.proofs.report.write_report.Goals as goal

pub returns-in_ok-write_standing-in-Ok-clause-opens : goal.returns-in_ok-write_standing-in-Ok-clause-opens
returns-in_ok-write_standing-in-Ok-clause-opens g c =
    inr (
      c.in-Ok.chosen.state,
      stands_as _ _ _ _ c.in-Ok.chosen.state (ap seen_of c.in_ok-left.ensures.history)
          (ap seen_of c.in_ok-right.ensures.history) (c.in-Ok.ensures.found tt tt),
    )

pub returns-in_ok-write_fault-in-Err-clause-stands : goal.returns-in_ok-write_fault-in-Err-clause-stands
returns-in_ok-write_fault-in-Err-clause-stands g c = λ st stands.
    of_output c.in-Err.fault c.of_choice.result c.of_choice.ensures
    (c.in-Err.ensures.only st tt tt
    (stands_as _ _ _ _ st (sym (ap seen_of c.in_ok-left.ensures.history)) (sym (ap seen_of c.in_ok-right.ensures.history)) stands)).1
