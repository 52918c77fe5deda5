-- Tokens under a lock, as contracts see them.
use Rattle.std.specs.Prelude.{ℕ}

-- The total of all amounts, how many deeds were reported to the accounts that are back, and how
-- many accounts are out.
pub record Tokens : Type 0 where
  pub total : ℕ
  pub back : ℕ
  pub out : ℕ

abbrev pub tokens_of : ℕ → ℕ → ℕ → Tokens
tokens_of total back out = record { total = total; back = back; out = out }
