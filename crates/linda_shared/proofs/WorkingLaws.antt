-- What follows of seats that worked.
use Rattle.std.proofs.Common.{◌≡◌, List, [], ◌∷◌, ◌++◌, map, sym, ap, ◌∙◌}
use Rattle.std.proofs.lemmas.List.{map-append}
use Rattle.linda_shared_accounts.specs.Account.{Account}
use Rattle.linda_shared.specs.Working.{HasWorked, AllHaveWorked}

-- One more after each.
pub worked_more : {B : Type 0} (seat_of : B → Account) (xs : List B) (seats : List Account) (x : B) (seat : Account)
    → AllHaveWorked (map seat_of xs) seats → HasWorked (seat_of x) seat → AllHaveWorked (map seat_of (xs ++ x ∷ [])) (seats ++ seat ∷ [])
worked_more f [] [] x seat all one = (one, tt)
worked_more f [] (s ∷ seats) x seat all one = absurd all
worked_more f (y ∷ xs) [] x seat all one = absurd all
worked_more f (y ∷ xs) (s ∷ seats) x seat all one = (all.0, worked_more f xs seats x seat all.1 one)

-- What is seen of two lists stays the same if one more is the same.
pub same_more : {A B C : Type 0} (f : A → C) (g : B → C) (xs : List A) (ys : List B) (x : A) (y : B)
    → map f xs ≡ map g ys → f x ≡ g y → map f (xs ++ x ∷ []) ≡ map g (ys ++ y ∷ [])
same_more f g xs ys x y all one = map-append f xs (x ∷ []) ∙ (ap (λ l. l ++ f x ∷ []) all ∙ (ap (λ v. map g ys ++ v ∷ []) one ∙ sym (map-append g ys (y ∷ []))))
