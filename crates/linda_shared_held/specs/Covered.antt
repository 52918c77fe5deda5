-- Replies that wait to be drained, and what is kept of them.
use Rattle.std.specs.Prelude.{ℕ, List, Option, All, IfSome}
use Rattle.linda_wire.specs.declared.reply.Reply.{Reply}
use Rattle.linda_store_state.specs.State.{State}
use Rattle.linda_store_step.specs.Covered.{IsCovered}

-- All that waits in an outbox is covered.
abbrev pub BoxesCovered : State → (ℕ → Option (List Reply)) → Type 0
BoxesCovered st waits = (c : ℕ) → IfSome (waits c) (λ rs. All (λ r. IsCovered st (c, r)) rs)
