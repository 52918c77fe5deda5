-- Router, as contracts see it.
use Rattle.std.specs.Prelude.{ℕ, List}
use Rattle.linda_shared_outbox.specs.declared.sent.Sent.{Sent}

-- How many answers are there, and the replies, each list with its client.
pub record Router : Type 0 where
  pub answers : ℕ
  pub replies : List Sent

abbrev pub router_of : ℕ → List Sent → Router
router_of answers replies = record { answers = answers; replies = replies }
