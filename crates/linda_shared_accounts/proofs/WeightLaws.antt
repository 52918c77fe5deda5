-- The weight of what is reported is the number of receipts.
use Rattle.std.proofs.Common.{◌≡◌, ◌+◌, List, [], ◌∷◌, ◌++◌, map, length, length-append, Option, Some, None, option_to_list, refl, arith}
use Rattle.std.proofs.lemmas.List.Sums.{sum_by-cons}
use Rattle.linda_shared_accounts.specs.declared.receipt.Receipt.{Receipt}
use Rattle.linda_shared_accounts.specs.Effect.{weight, weights, told_of}
use Rattle.linda_shared_accounts.specs.Telling.{receipts_in}

weigh_one : (o : Option Receipt) → length (option_to_list o) ≡ weight (told_of o)
weigh_one (Some r) = refl
weigh_one None = refl

-- All together.
pub weigh_all : (told : List (Option Receipt)) → weights (map told_of told) ≡ length (receipts_in told)
weigh_all [] = refl
weigh_all (o ∷ told) =
    let first = sum_by-cons weight (told_of o) (map told_of told) in
    let one = weigh_one o in
    let rest = weigh_all told in
    let long = length-append (option_to_list o) (receipts_in told) in
    omega (arith, first, one, rest, long)

-- One more.
pub receipts_snoc : (os : List (Option Receipt)) (o : Option Receipt) → length (receipts_in (os ++ o ∷ [])) ≡ length (receipts_in os) + weight (told_of o)
receipts_snoc [] o =
    let one = weigh_one o in
    let long = length-append (option_to_list o) (receipts_in []) in
    omega (arith, one, long)
receipts_snoc (q ∷ os) o =
    let rest = receipts_snoc os o in
    let a = length-append (option_to_list q) (receipts_in (os ++ o ∷ [])) in
    let b = length-append (option_to_list q) (receipts_in os) in
    omega (arith, rest, a, b)
