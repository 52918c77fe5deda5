-- All in one step, or one by one.
use Rattle.std.proofs.Common.{[], inl, Err, refl, ap, subst, arith, rules}
use Rattle.linda_shared_outbox.specs.Waiting.{waits_for}
use Rattle.linda_shared_held.specs.Kept.{kept, TakesAll}
use Rattle.linda_shared_held.specs.Posted.{none}
use Rattle.linda_shared_held.proofs.AloneLaws.{receipts_few}
use Rattle.linda_shared_held.proofs.KeptLaws.{all_same, is_still, keeps_nothing}
use Rattle.linda_shared_held.proofs.held.take.take.Goals as goal

pub returns-then-is_down-clause-takes : goal.returns-then-is_down-clause-takes
returns-then-is_down-clause-takes g c = record {
  keeps = keeps_nothing (is_still (kept c.args.server.now c.args.receipts.now c.args.boxes.now)) (search rules);
  one_each = tt;
  countable = tt;
  some = record { many = 0; told = []; mid = c.args.server.now; went = none (λ q. waits_for c.args.boxes.now q) (λ q. refl) };
  fault = inl refl;
}

pub returns-in-Ok-clause-takes : goal.returns-in-Ok-clause-takes
returns-in-Ok-clause-takes g c =
    let few = receipts_few c.in-Ok.told.items in
    let each = c.in-Ok.ensures.one_each in
    let counted = c.in-Ok.told.ok.0 in
    let room = c.could_pass.ensures.few c.if-could_pass.false in
    record { keeps = c.in-Ok.ensures.keeps; one_each = each; countable = omega (arith, few, each, counted, room); some = tt; fault = tt }

pub returns-in-Ok-clause-done : goal.returns-in-Ok-clause-done
returns-in-Ok-clause-done g c = inl c.in-Ok.ensures.done

pub returns-in-Err-Full-clause-takes : goal.returns-in-Err-Full-clause-takes
returns-in-Err-Full-clause-takes g c =
    let full = c.in-Err-Full.ensures.full (ap Err c.in-Err-Full.field-0-is) in
    subst (λ k. TakesAll k c.args.count c.args.messages.now c.serve_each-in-Err-Full.result
    (kept c.serve_each-in-Err-Full.new.server c.serve_each-in-Err-Full.new.receipts c.serve_each-in-Err-Full.new.boxes))
    (all_same full.0 c.in-Err-Full.ensures.keeps.err full.1) c.serve_each-in-Err-Full.ensures.takes

pub returns-in-Err-clause-takes : goal.returns-in-Err-clause-takes
returns-in-Err-clause-takes g c = record {
  keeps = c.in-Err.ensures.keeps;
  one_each = tt;
  countable = tt;
  some = record { many = 0; told = []; mid = c.args.server.now; went = none (λ q. waits_for c.serve.new.boxes q) c.in-Err.ensures.nothing };
  fault = search rules;
}
