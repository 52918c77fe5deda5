-- Receipts of one number, in a list.
use Rattle.std.specs.Prelude.{◌≡◌, ◌≢◌, List, All, Contains}
use Rattle.linda_shared_accounts.specs.declared.receipt.Receipt.{Receipt}
use Rattle.linda_shared_accounts.specs.Receipts.{number_in}

-- Each of these that has its number is this one.
abbrev pub AgreesWith : List Receipt → Receipt → Type 0
AgreesWith ring r = All (λ mine. number_in mine ≡ number_in r → mine ≡ r) ring

-- One of these has its number, and is another.
pub record HasRival (ring : List Receipt) (r : Receipt) : Type 0 where
  pub mine : Receipt
  pub there : Contains ring mine
  pub number : number_in mine ≡ number_in r
  pub differs : mine ≢ r
