-- Account of a session as contracts see it: what was reported to the session.
use Rattle.std.specs.Prelude.{ℕ, List}
use Rattle.linda_shared_accounts.specs.declared.receipt.Receipt.{Receipt}

-- Its client, how many deeds were reported to it, how many messages are on their way, and the last
-- receipts.
pub record Account : Type 0 where
  pub client : ℕ
  pub deeds : ℕ
  pub asked : ℕ
  pub ring : List Receipt

abbrev pub account_of : ℕ → ℕ → ℕ → List Receipt → Account
account_of client deeds asked ring =
    record { client = client; deeds = deeds; asked = asked; ring = ring }
