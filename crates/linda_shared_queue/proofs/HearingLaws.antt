-- What an account hears of an answer that is not copied.
use Rattle.std.proofs.Common.{◌≡◌, ◌+◌, ◌-◌, Some, ap, subst, ◌∙◌, Result, Ok, Err, OnOk}
use Rattle.linda_wire.specs.declared.message.Message.{Message}
use Rattle.linda_store_step.specs.Reported.{IsDeedOf}
use Rattle.linda_shared_accounts.specs.declared.receipt.Receipt.{Receipt}
use Rattle.linda_shared_accounts.specs.declared.effect.Effect.{Effect}
use Rattle.linda_shared_accounts.specs.declared.effect.Effect.TheVariants as tidings
use Rattle.linda_shared_accounts.specs.Effect.{weight}
use Rattle.linda_shared_accounts.specs.Account.{Account, account_of}
use Rattle.linda_shared_accounts.specs.Ring.{with_receipt, IsNext}
use Rattle.linda_shared_queue.specs.Seat.{back, IsLost}

-- A deed that the message asks for was reported to the account, which noted the receipt.
pub noted : {T E : Type 0} (result : Result T E) (m : Message) (before heard new : Account) (told : Effect Receipt) (r : Receipt)
    → heard ≡ account_of before.client (before.deeds + weight told) (before.asked - 1) before.ring → told ≡ tidings.Deed r
    → OnOk result (new ≡ account_of heard.client heard.deeds heard.asked (with_receipt heard.ring r))
    → OnOk result (IsDeedOf heard.client m r.deed) → OnOk result (IsNext heard.client heard.ring r)
    → OnOk result (IsLost m (back before) new)
noted (Err e) m before heard new told r is deed more asks next = tt
noted (Ok x) m before heard new told r is deed more asks next =
    let here : heard ≡ account_of before.client (before.deeds + 1) (before.asked - 1) before.ring =
    is ∙ ap (λ t. account_of before.client (before.deeds + weight t) (before.asked - 1) before.ring) deed
    in
    record {
      told = Some r;
      account = more ∙ ap (λ a. account_of a.client a.deeds a.asked (with_receipt a.ring r)) here;
      deed = subst (λ (a : Account). IsDeedOf a.client m r.deed) here asks;
      next = subst (λ (a : Account). IsNext a.client a.ring r) here next;
    }
