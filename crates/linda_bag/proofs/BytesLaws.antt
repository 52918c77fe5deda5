-- How the bytes of a bag change with its tuples.
use Rattle.std.proofs.Common.{◌≡◌, ℕ, ◌+◌, List, Option, None, Some, refl, sym, ap, ◌∙◌, arith, nat_cmp}
use Rattle.std.specs.Option.{option_map, unwrap_or}
use Rattle.std.specs.Map.{values_of}
use Rattle.std.specs.List.{sum_by}
use Rattle.std.specs.FinMap.{FinMap, get, insert, remove, empty, entries, len-entries, len-empty}
use Rattle.std.proofs.lemmas.List.{nil_from_length}
use Rattle.linda_tuple.specs.Tuple.{Tuple}
use Rattle.linda_map_laws.proofs.MapLaws.{same_map_by_key, get_same, get_other, get_removed_same, get_removed_other}
use Rattle.linda_map_laws.proofs.SumLaws.{sum_inserted}
use Rattle.linda_bag.specs.Bytes.{tuple_bytes, bytes_of, bytes_at}

-- the bytes of tuples with their ids
abbrev pub bytes_in : List (ℕ × Tuple) → ℕ
bytes_in es = sum_by tuple_bytes (values_of es)

read_at : (o : Option Tuple) → unwrap_or (option_map tuple_bytes o) 0 ≡ bytes_at o
read_at None = refl
read_at (Some row) = refl

-- With an insertion the bytes of the new tuple come, and those of the old one go.
pub put_bytes : (m : FinMap nat_cmp Tuple) (k : ℕ) (v : Tuple) → bytes_of (insert m k v) + bytes_at (get m k) ≡ bytes_of m + tuple_bytes v
put_bytes m k v = ap (λ n. bytes_of (insert m k v) + n) (sym (read_at (get m k))) ∙ sum_inserted tuple_bytes m k v

-- A removed tuple, put again.
again : (m : FinMap nat_cmp Tuple) (k : ℕ) (v : Tuple) → get m k ≡ Some v → insert (remove m k) k v ≡ m
again m k v there = same_map_by_key _ _ k (get_same (remove m k) k v ∙ sym there)
    (λ q apart. get_other (remove m k) k v q apart ∙ get_removed_other m k q apart)

-- With a removal the bytes of the tuple go.
pub gone_bytes : (m : FinMap nat_cmp Tuple) (k : ℕ) (v : Tuple) → get m k ≡ Some v → bytes_of (remove m k) + tuple_bytes v ≡ bytes_of m
gone_bytes m k v there =
    let put = put_bytes (remove m k) k v in
    let none : bytes_at (get (remove m k) k) ≡ 0 = ap bytes_at (get_removed_same m k) in
    let same : bytes_of (insert (remove m k) k v) ≡ bytes_of m = ap bytes_of (again m k v there) in
    omega (arith, put, none, same)

-- A removal of nothing changes nothing.
pub none_gone : (m : FinMap nat_cmp Tuple) (k : ℕ) → get m k ≡ None → remove m k ≡ m
none_gone m k none = same_map_by_key _ _ k (get_removed_same m k ∙ sym none) (λ q apart. get_removed_other m k q apart)

-- No tuples have no bytes.
pub no_bytes : bytes_of empty ≡ 0
no_bytes = ap (λ (es : List (ℕ × Tuple)). bytes_in es)
    (nil_from_length (entries (empty {X = Tuple} {R = nat_cmp})) (sym (len-entries empty) ∙ len-empty nat_cmp Tuple))
