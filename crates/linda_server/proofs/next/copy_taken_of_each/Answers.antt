-- With each turn one message more is spared.
use Rattle.std.proofs.Common.{take, length, ap, sym, refl, ◌∙◌, ◌++◌, ◌∷◌, [], ◌≤◌, subst, rules}
use Rattle.std.proofs.Math.Seq.{take-suc}
use Rattle.linda_server.specs.Next.{AreSpared}
use Rattle.linda_server.proofs.NextLaws.{take_all, none_spared, more_spared}
use Rattle.linda_store_step.proofs.ServedLaws.{one_more}
use Rattle.linda_server.proofs.next.copy_taken_of_each.Goals as goal

pub loop-message-init : goal.loop-message-init
loop-message-init c = record { follows = λ front f. f; safe = none_spared c.args.writer.now c.args.state.now.bag; same = (refl, refl) }

pub returns-in_err-copy_taken_of-clause-follows : goal.returns-in_err-copy_taken_of-clause-follows
returns-in_err-copy_taken_of-clause-follows c front f = c.copy_taken_of.ensures.follows front (c.loop-message.invariant.follows front f)

pub returns-in_err-copy_taken_of-clause-same : goal.returns-in_err-copy_taken_of-clause-same
returns-in_err-copy_taken_of-clause-same c =
    (c.copy_taken_of.ensures.same.0 ∙ c.loop-message.invariant.same.0, c.copy_taken_of.ensures.same.1 ∙ c.loop-message.invariant.same.1)

pub loop-message-preserved : goal.loop-message-preserved
loop-message-preserved c =
    let ms = c.args.messages.now in
    let i = c.loop-message.message-index in
    let next = take-suc ms i c.message-item.result c.loop-message-test.true ∙ ap (λ m. take i ms ++ m ∷ []) (sym c.message-item.is) in
    let now = c.args.state.now.bag in
    record {
      follows = λ front f. c.in_ok-copy_taken_of.ensures.follows front (c.loop-message.invariant.follows front f);
      safe = subst (AreSpared c.copy_taken_of.new.writer now) (sym (ap (λ k. take k ms) (one_more i) ∙ next))
          (more_spared c.copy_taken_of.new.writer now (take i ms) c.message-item.result.0 c.message-item.result.1
          (c.in_ok-copy_taken_of.ensures.others (take i ms) c.loop-message.invariant.safe) c.in_ok-copy_taken_of.ensures.safe);
      same = (c.in_ok-copy_taken_of.ensures.same.0 ∙ c.loop-message.invariant.same.0, c.in_ok-copy_taken_of.ensures.same.1 ∙ c.loop-message.invariant.same.1);
    }

pub returns-clause-follows : goal.returns-clause-follows
returns-clause-follows c front f = c.loop-message.invariant.follows front f

pub returns-clause-safe : goal.returns-clause-safe
returns-clause-safe c =
    let ms = c.args.messages.now in
    let past : length ms ≤ c.loop-message.message-index = search rules in
    subst (AreSpared c.loop-message.writer c.args.state.now.bag) (take_all c.loop-message.message-index ms past) c.loop-message.invariant.safe

pub returns-clause-same : goal.returns-clause-same
returns-clause-same c = c.loop-message.invariant.same
