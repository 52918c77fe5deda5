-- Receipts that are forgotten, of which some still have their memory.
use Rattle.std.specs.Prelude.{List, [], ◌∷◌}
use Rattle.linda_shared_accounts.specs.declared.receipt.Receipt.{Receipt}

-- Those that have their memory still: the ones that are forgotten now, if there were none before.
abbrev pub put_behind : List Receipt → List Receipt → List Receipt
put_behind [] receipts = receipts
put_behind (gone ∷ rest) receipts = gone ∷ rest
