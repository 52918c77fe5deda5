-- Classes of a message's number: beside the last number that is kept for its client, 0 if there is
-- none, and whether the client left by that.
use Rattle.std.specs.Prelude.{◌≡◌, ℕ, ◌+◌, ◌<◌, ◌==◌, ◌⊎◌, Bool, true, false, nat_lt, ◌||◌}
use Rattle.std.specs.Prelude.{if◌then◌else◌}
use Rattle.linda_book.specs.declared.class.Class.{Class}
use Rattle.linda_book.specs.declared.class.Class.TheVariants.{Fresh, Kept, Old, Left, Gap}

-- The class of number n after the number last: the first case that holds.
abbrev pub class_of : ℕ → Bool → ℕ → Class
class_of last left n =
    if (n == 0) || nat_lt n last then Old last
    else (if n == last then Kept
    else (if left then Left last
    else (if nat_lt (last + 1) n then Gap last
    else Fresh)))

-- What each class says: the next number; the last one, which there is; none or an earlier one; one
-- beyond that of a Leave; one beyond the next.
abbrev pub IsClass : ℕ → Bool → ℕ → Class → Type 0
IsClass last left n Fresh = (n ≡ last + 1) × (left ≡ false)
IsClass last left n Kept = (n ≡ last) × (0 < last)
IsClass last left n (Old l) = (l ≡ last) × ((n ≡ 0) ⊎ (n < last))
IsClass last left n (Left l) = (l ≡ last) × ((last < n) × (left ≡ true))
IsClass last left n (Gap l) = (l ≡ last) × ((last + 1 < n) × (left ≡ false))
