-- Codes of places and of the accounts, for a model's value that holds them.
use Rattle.std.specs.Prelude.{◌≡◌, ℕ, Bool, Option, Some, None, refl}
use Rattle.std.specs.Coded.{Coded, code_by, coded×, coded_ℕ, coded_bool, coded_option}
use Rattle.std.specs.FinMap as map
use Rattle.linda_shared_accounts.specs.declared.place.Place.{Place}
use Rattle.linda_shared_accounts.specs.declared.place.Place.TheVariants as places
use Rattle.linda_shared_accounts.specs.Ring.{Ring}
use Rattle.linda_shared_accounts.specs.Codes.{ring_code}
use Rattle.linda_shared_accounts.specs.Accounts.{Accounts, Places, accounts_of}

-- a place in parts, and its code
abbrev pub place_parts : Place → Option (Ring × (ℕ × Bool))
place_parts places.Out = None
place_parts (places.Parked ring deeds for_good) = Some (ring, (deeds, for_good))

abbrev pub place_of_parts : Option (Ring × (ℕ × Bool)) → Place
place_of_parts None = places.Out
place_of_parts (Some p) = places.Parked p.0 p.1.0 p.1.1

abbrev pub place_again : (p : Place) → place_of_parts (place_parts p) ≡ p
place_again places.Out = refl
place_again (places.Parked ring deeds for_good) = refl

abbrev pub place_code : Coded Place
place_code =
    code_by (Option (Ring × (ℕ × Bool)))
    (coded_option (coded× ring_code (coded× coded_ℕ coded_bool)))
    place_parts place_of_parts place_again

-- the code of the places
abbrev pub places_code : Coded Places
places_code = map.code coded_ℕ place_code

-- the code of the accounts
abbrev pub accounts_code : Coded Accounts
accounts_code =
    code_by (ℕ × Places) (coded× coded_ℕ places_code) (λ t. (t.total, t.places))
    (λ p. accounts_of p.0 p.1) (λ _. refl)
