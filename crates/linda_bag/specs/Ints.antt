-- Sets of ids under integers, which are counted from the least one of 64 bits.
use Rattle.std.specs.Prelude.{◌^◌, ℤ, pos, negsuc, ◌+ℤ◌, Option, None}
use Rattle.std.specs.Ordering.{nat_cmp}
use Rattle.std.specs.FinMap.{FinMap, get}
use Rattle.linda_bag.specs.declared.ids.Ids.{Ids}

-- the integer, counted from the least one of 64 bits
abbrev pub counted : ℤ → ℤ
counted n = n +ℤ pos (2 ^ 63)

-- the set under the count: below the first integer there is none
abbrev pub ids_in : FinMap nat_cmp Ids → ℤ → Option Ids
ids_in sets (pos code) = get sets code
ids_in sets (negsuc below) = None

-- the set under the integer
abbrev pub ids_at : FinMap nat_cmp Ids → ℤ → Option Ids
ids_at sets n = ids_in sets (counted n)
