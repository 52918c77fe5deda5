-- What was reported to an account, one message more.
use Rattle.std.proofs.Common.{◌≡◌, ℕ, ◌+◌, ◌-◌, ◌≤◌, List, [], ◌∷◌, ◌++◌, Option, Some, None, refl, ap, ◌∙◌, arith}
use Rattle.linda_wire.specs.declared.message.Message.{Message}
use Rattle.linda_shared_accounts.specs.declared.receipt.Receipt.{Receipt}
use Rattle.linda_shared_accounts.specs.Account.{Account}
use Rattle.linda_shared_queue.specs.Seat.{with_asked, back, with_told, with_all, IsToldOf, AreToldOf}

pub all_snoc : (a : Account) (ts : List (Option Receipt)) (t : Option Receipt) → with_all a (ts ++ t ∷ []) ≡ with_told (with_all a ts) t
all_snoc a [] t = refl
all_snoc a (s ∷ ts) t = all_snoc (with_told a s) ts t

-- What is reported and the number of messages on their way change the account independently.
told_asked : (a : Account) (asked : ℕ) (t : Option Receipt) → with_asked (with_told a t) asked ≡ with_told (with_asked a asked) t
told_asked a asked None = refl
told_asked a asked (Some r) = refl

pub all_asked : (a : Account) (asked : ℕ) (ts : List (Option Receipt)) → with_asked (with_all a ts) asked ≡ with_all (with_asked a asked) ts
all_asked a asked [] = refl
all_asked a asked (t ∷ ts) = all_asked (with_told a t) asked ts ∙ ap (λ (x : Account). with_all x ts) (told_asked a asked t)

pub told_snoc : (c : ℕ) (ms : List Message) (ts : List (Option Receipt)) (m : Message) (t : Option Receipt)
    → AreToldOf c ms ts → IsToldOf c m t → AreToldOf c (ms ++ m ∷ []) (ts ++ t ∷ [])
told_snoc c [] [] m t all one = (one, all)
told_snoc c [] (s ∷ ts) m t all one = absurd all
told_snoc c (n ∷ ms) [] m t all one = absurd all
told_snoc c (n ∷ ms) (s ∷ ts) m t all one = (all.0, told_snoc c ms ts m t all.1 one)

-- If an answer comes back, the client is the same, one message fewer is on its way, and one more deed at most is counted.
pub back_client : (a : Account) (t : Option Receipt) → (with_told (back a) t).client ≡ a.client
back_client a None = refl
back_client a (Some r) = refl

pub back_asked : (a : Account) (t : Option Receipt) → (with_told (back a) t).asked ≡ a.asked - 1
back_asked a None = refl
back_asked a (Some r) = refl

pub back_more : (a : Account) (t : Option Receipt) → a.deeds ≤ (with_told (back a) t).deeds
back_more a None = omega arith
back_more a (Some r) = omega arith

pub back_few : (a : Account) (t : Option Receipt) → (with_told (back a) t).deeds ≤ a.deeds + 1
back_few a None = omega arith
back_few a (Some r) = omega arith

pub back_told : (a : Account) (t : Option Receipt) → with_asked (with_told (back a) t) 0 ≡ with_told (with_asked a 0) t
back_told a None = refl
back_told a (Some r) = refl
