-- Draining of the outboxes: what waits there is handed out.
use Rattle.std.specs.Prelude.{◌≡◌, ◌≢◌, ℕ, [], Option, Some, IfSome, IfNone}
use Rattle.linda_shared_outbox.specs.declared.outboxes.Outboxes.{Outboxes}
use Rattle.linda_shared_outbox.specs.declared.sent.Sent.{Sent}
use Rattle.linda_shared_outbox.specs.Waiting.{waits_for}
use Rattle.linda_shared_outbox.specs.Replies.{handed_out}
use Rattle.linda_shared_held.specs.Kept.{WaitsSame}

-- What waits for some client, which is more than nothing, and its outbox is empty then; or nothing
-- waits for anybody, and nothing changes (`drain_next`).
pub record HandsOutNext (old : Outboxes) (result : Option Sent) (new : Outboxes) : Type 0 where
  pub out : IfSome result (λ next. waits_for old next.client ≡ Some next.replies.items)
  pub some : IfSome result (λ next. next.replies.items ≢ [])
  pub empty : IfSome result (λ next. waits_for new next.client ≡ Some [])
  pub others : IfSome result
      (λ next. (c : ℕ) → c ≢ next.client → waits_for new c ≡ waits_for old c)
  pub none : IfNone result ((c : ℕ) → handed_out (waits_for old c) ≡ [])
  pub none_changes : IfNone result (WaitsSame old new)
