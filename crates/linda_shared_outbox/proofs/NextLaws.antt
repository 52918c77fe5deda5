-- The next client that has an outbox is the next one that has a key.
use Rattle.std.proofs.Common.{◌≡◌, ◌<◌, ℕ, true, Option, Some, None, is_some, ap, ◌∙◌}
use Rattle.std.specs.Prelude.{IfSome, IfNone}
use Rattle.linda_shared_outbox.specs.declared.outbox.Outbox.{Outbox}
use Rattle.linda_shared_outbox.specs.Boxes.{replies_in}
use Rattle.linda_shared_outbox.specs.Waiting.{IsAbove}
use Rattle.linda_shared_outbox.proofs.WaitLaws.{is_some_replies}
use Rattle.linda_shared_outbox.proofs.BoxLaws.{boxed, Taken, some_box}

module _ (find : ℕ → Option ℕ) (at : ℕ → Option Outbox) where
  pub open_next : Taken find at → (next : Option ℕ) → IfSome next (λ n. is_some (find n) ≡ true)
      → IfSome next (λ n. is_some (replies_in (boxed at (find n))) ≡ true)
  open_next taken None there = tt
  open_next taken (Some n) there = is_some_replies (boxed at (find n)) ∙ some_box at (find n) (taken n) ∙ there

  pub shut_before : (last next : Option ℕ) → IfSome next (λ n. (c : ℕ) → IsAbove last c → c < n → find c ≡ None)
      → IfSome next (λ n. (c : ℕ) → IsAbove last c → c < n → replies_in (boxed at (find c)) ≡ None)
  shut_before last None least = tt
  shut_before last (Some n) least = λ c above before. ap (λ o. replies_in (boxed at o)) (least c above before)

  pub shut_after : (last next : Option ℕ) → IfNone next ((c : ℕ) → IsAbove last c → find c ≡ None)
      → IfNone next ((c : ℕ) → IsAbove last c → replies_in (boxed at (find c)) ≡ None)
  shut_after last None none = λ c above. ap (λ o. replies_in (boxed at o)) (none c above)
  shut_after last (Some n) none = tt
