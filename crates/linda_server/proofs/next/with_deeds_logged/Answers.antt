use Rattle.std.proofs.Common.{refl, sym, subst}
use Rattle.std.specs.Prelude.{IfSome}
use Rattle.linda_snap.specs.BankWriter.{HasNoRoomFor}
use Rattle.linda_server.specs.Next.{IsSafeIn}
use Rattle.linda_server.proofs.next.with_deeds_logged.Goals as goal

pub returns-in-Ok-true-clause-follows : goal.returns-in-Ok-true-clause-follows
returns-in-Ok-true-clause-follows c st new ranges goes safe = record {
  was = c.in-Some.next;
  is = c.in-Some.is;
  generation = c.buffer_deeds.ensures.generation;
  limit = c.buffer_deeds.ensures.limit;
  place = refl;
  follows = λ front f. c.in-Ok-true.ensures.noted front st new ranges goes
      (λ id taken. subst (λ o. IsSafeIn o st.bag id) c.in-Some.is (safe id taken)) f c.in-Ok-true.field-0-test;
}

pub returns-in-Ok-false-clause-kept : goal.returns-in-Ok-false-clause-kept
returns-in-Ok-false-clause-kept c =
    subst (λ o. IfSome o (λ n. HasNoRoomFor n.writer c.args.deeds.now)) (sym c.in-Some.is) (c.in-Ok-false.ensures.full c.in-Ok-false.field-0-test)
