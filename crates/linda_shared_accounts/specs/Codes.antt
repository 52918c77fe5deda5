-- Codes of receipts, rings and accounts, for a model's value that holds them.
use Rattle.std.specs.Prelude.{ℕ, List, refl}
use Rattle.std.specs.Coded.{Coded, code_by, coded×, coded_ℕ, coded_list}
use Rattle.linda_book.specs.declared.kept_reply.KeptReply.{KeptReply}
use Rattle.linda_book.specs.Codes.{kept_code}
use Rattle.linda_store_state.specs.declared.deed.Deed.{Deed}
use Rattle.linda_store_state.specs.DeedCode.{deed_code}
use Rattle.linda_shared_accounts.specs.declared.receipt.Receipt.{Receipt}
use Rattle.linda_shared_accounts.specs.Ring.{Ring, ring_of}
use Rattle.linda_shared_accounts.specs.Account.{Account, account_of}

-- the code of a receipt, of some, and of a ring
abbrev pub receipt_code : Coded Receipt
receipt_code =
    code_by (Deed × KeptReply) (coded× deed_code kept_code) (λ r. (r.deed, r.reply))
    (λ p. record { deed = p.0; reply = p.1 }) (λ _. refl)

abbrev pub receipts_code : Coded (List Receipt)
receipts_code = coded_list receipt_code

abbrev pub ring_code : Coded Ring
ring_code =
    code_by (ℕ × List Receipt) (coded× coded_ℕ receipts_code) (λ r. (r.client, r.receipts))
    (λ p. ring_of p.0 p.1) (λ _. refl)

-- the code of an account
abbrev pub account_code : Coded Account
account_code =
    code_by (ℕ × (ℕ × (ℕ × List Receipt)))
    (coded× coded_ℕ (coded× coded_ℕ (coded× coded_ℕ receipts_code)))
    (λ a. (a.client, (a.deeds, (a.asked, a.ring)))) (λ p. account_of p.0 p.1.0 p.1.1.0 p.1.1.1)
    (λ _. refl)
