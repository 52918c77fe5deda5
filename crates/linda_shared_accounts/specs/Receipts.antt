-- Receipts, one by one and in lists: their deeds, their clients, their numbers, and whether their
-- replies are true.
use Rattle.std.specs.Prelude.{◌≡◌, ℕ, List, [], ◌∷◌, ◌++◌, map, Some}
use Rattle.std.specs.FinMap as map
use Rattle.linda_store_state.specs.declared.deed.Deed.{Deed}
use Rattle.linda_store_state.specs.Deed.{client_of, number_of}
use Rattle.linda_store_state.specs.State.{State}
use Rattle.linda_store_state.specs.After.{reply_of_deed}
use Rattle.linda_shared_accounts.specs.declared.receipt.Receipt.{Receipt}

-- whose it is, and the number of the message that it answers
abbrev pub client_in : Receipt → ℕ
client_in r = client_of r.deed

abbrev pub number_in : Receipt → ℕ
number_in r = number_of r.deed

-- the deeds of the receipts, without the replies
abbrev pub deeds_in : List Receipt → List Deed
deeds_in rs = map (λ (r : Receipt). r.deed) rs

-- The replies are those to the deeds, done one after another after these.
abbrev pub AreTrue : State → List Deed → List Receipt → Type 0
AreTrue st before [] = Unit {0}
AreTrue st before (r ∷ rs) =
    (r.reply ≡ reply_of_deed st before r.deed) × AreTrue st (before ++ r.deed ∷ []) rs

-- It is what the book keeps for its client.
abbrev pub IsKept : State → Receipt → Type 0
IsKept st r = map.get st.book (client_in r) ≡ Some (number_in r, r.reply)
