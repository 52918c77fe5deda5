-- The copy of a receipt was lost; the account noted it.
use Rattle.std.proofs.Common.{rules, Some}
use Rattle.linda_shared_queue.proofs.hearing.hear.Goals as goal

pub returns-in-None-clause-err : goal.returns-in-None-clause-err
returns-in-None-clause-err g c = record {
  told = Some c.in-Deed.receipt;
  account = search rules;
  deed = search rules;
  next = search rules;
}
