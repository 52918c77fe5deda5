-- The client is closed, its outbox shut.
use Rattle.std.proofs.Common.{◌≡◌, None, ◌∙◌, ap, subst}
use Rattle.linda_store_step.specs.Dispatch.{on_close}
use Rattle.linda_shared_outbox.specs.Waiting.{waits_for}
use Rattle.linda_shared_held.proofs.GreetLaws.{boxes_shut}
use Rattle.linda_shared_held.proofs.AccountsLaws.{ok_more, err_more}
use Rattle.linda_shared_held.proofs.held.leave.depart.Goals as goal

pub returns-clause-departs : goal.returns-clause-departs
returns-clause-departs g c =
    let old = c.args.server.now.store in
    let mine = c.client-client.ensures.is in
    let closes = c.close_and_post-answer.ensures in
    let r = c.close_and_post-answer.result in
    record {
      done =
          ok_more r _ _ (λ done. record {
            sends = done.sends;
            closed = done.closed ∙ ap (λ k. on_close old.state.bag k old.soft) mine;
            posted_is = λ q differs. c.shut.ensures.others q (λ same. differs (same ∙ mine)) ∙ done.posted_is q;
          }) closes.done;
      soft = ok_more r _ _ (λ done. ap (λ s. s.soft) done.closed ∙ ap (λ k. (on_close old.state.bag k old.soft).soft) mine) closes.done;
      state = closes.state;
      falls = closes.falls;
      disks = closes.disks;
      shut = subst (λ k. waits_for c.shut.new.self k ≡ None) mine c.shut.ensures.at;
      err = err_more r _ _ (λ same q differs. c.shut.ensures.others q (λ is. differs (is ∙ mine)) ∙ same q) closes.err;
      still = closes.still;
      covered = λ st covered.
          boxes_shut st c.client-client.result (λ q. waits_for c.close_and_post-answer.new.boxes q)
          (λ q. waits_for c.shut.new.self q) c.shut.ensures.at c.shut.ensures.others (closes.covered st covered);
    }
