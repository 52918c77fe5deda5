-- Writing entries one after the other, and counting their bytes.
use Rattle.std.proofs.Common.{◌≡◌, ℕ, ◌+◌, ◌*◌, ◌^◌, ◌<◌, ◌≤◌, List, [], ◌∷◌, ◌++◌, All, length, refl, sym, ap, subst}
use Rattle.std.proofs.Common.{◌∙◌, append_assoc, append-nil, length-append, arith}
use Rattle.std.specs.List.{flat_map, sum_by, AllByRecursion}
use Rattle.std.specs.Map.{values_of}
use Rattle.std.specs.Ordering.{nat_cmp}
use Rattle.std.specs.FinMap.{FinMap, entries, len, len-entries}
use Rattle.std.proofs.lemmas.List.Elements.{All-from_recursion}
use Rattle.std.proofs.lemmas.List.Sums.{sum_by-cons}
use Rattle.linda_store_state.specs.DeedFormat.{written}
use Rattle.linda_tuple.specs.Tuple.{Tuple}
use Rattle.linda_codec.specs.Formats.{Format, number, short_number}
use Rattle.linda_codec.specs.Values as value
use Rattle.linda_bag.specs.Bytes.{tuple_bytes, bytes_of}
use Rattle.linda_store_state.specs.State.{State}
use Rattle.linda_snap.specs.Snapshot as format
use Rattle.linda_snap.specs.Snapshot.{listed, spell_state}
use Rattle.linda_snap.specs.Rising.{entries_from}
use Rattle.linda_snap.proofs.RisingLaws.{all_is}

module _ {X : Type 0} (f : Format (ℕ × X)) (m : FinMap nat_cmp X) where
  -- The bytes so far, with what is still to come from this key on, are what there is to write; and if all that is still
  -- to come has a spelling, so has all.
  pub record IsPutTo (start out : List ℕ) (from : ℕ) : Type 0 where
    pub parts : out ++ flat_map f.spell (entries_from from m) ≡ start ++ (listed f).spell (entries m)
    pub fits : AllByRecursion f.Fits (entries_from from m) → AllByRecursion f.Fits (entries m)

  pub none_put : (start out counted : List ℕ) → counted ≡ short_number.spell (length (entries m)) → out ≡ start ++ counted → IsPutTo start out 0
  none_put start out counted is appended = record {
    parts =
        ap (λ l. l ++ flat_map f.spell (entries_from 0 m)) (appended ∙ ap (λ c. start ++ c) is)
        ∙ ap (λ es. (start ++ short_number.spell (length (entries m))) ++ flat_map f.spell es) (all_is m)
        ∙ append_assoc start (short_number.spell (length (entries m))) (flat_map f.spell (entries m));
    fits = λ all. subst (AllByRecursion f.Fits) (all_is m) all;
  }

  pub one_put : (start out piece now : List ℕ) (from next : ℕ) (e : ℕ × X) → IsPutTo start out from
      → entries_from from m ≡ e ∷ entries_from next m → piece ≡ f.spell e → f.Fits e → now ≡ out ++ piece → IsPutTo start now next
  one_put start out piece now from next e so_far first spelled fits appended = record {
    parts =
        ap (λ l. l ++ flat_map f.spell (entries_from next m)) (appended ∙ ap (λ p. out ++ p) spelled)
        ∙ append_assoc out (f.spell e) (flat_map f.spell (entries_from next m))
        ∙ ap (λ es. out ++ flat_map f.spell es) (sym first)
        ∙ so_far.parts;
    fits = λ all. so_far.fits (subst (AllByRecursion f.Fits) (sym first) (fits, all));
  }

  pub all_put : (start out : List ℕ) (from : ℕ) → IsPutTo start out from → entries_from from m ≡ [] → out ≡ start ++ (listed f).spell (entries m)
  all_put start out from so_far none = sym (append-nil out) ∙ ap (λ es. out ++ flat_map f.spell es) (sym none) ∙ so_far.parts

  pub all_fit : (start out : List ℕ) (from : ℕ) → IsPutTo start out from → entries_from from m ≡ [] → All f.Fits (entries m)
  all_fit start out from so_far none = All-from_recursion f.Fits (entries m) (so_far.fits (subst (AllByRecursion f.Fits) (sym none) tt))

  -- ---- counting

  -- What is left of the room, and what there is to write, are the room and what is still to come.
  abbrev pub IsLeft : ℕ → ℕ → ℕ → Type 0
  IsLeft room left from = left + length ((listed f).spell (entries m)) ≡ room + length (flat_map f.spell (entries_from from m))

  pub none_counted : (room left : ℕ) → left + 4 ≡ room → IsLeft room left 0
  none_counted room left is =
      let same : length (flat_map f.spell (entries_from 0 m)) ≡ length (flat_map f.spell (entries m)) = ap (λ es. length (flat_map f.spell es)) (all_is m) in
      omega (arith, is, same)

  pub one_counted : (room left now from next : ℕ) (e : ℕ × X) → IsLeft room left from
      → entries_from from m ≡ e ∷ entries_from next m → now + length (f.spell e) ≡ left → IsLeft room now next
  one_counted room left now from next e so_far first is =
      let same : length (flat_map f.spell (entries_from from m)) ≡ length (f.spell e ++ flat_map f.spell (entries_from next m)) =
      ap (λ es. length (flat_map f.spell es)) first in
      omega (arith, is, same, so_far, length-append (f.spell e) (flat_map f.spell (entries_from next m)))

  pub too_long : (room left from next : ℕ) (e : ℕ × X) → IsLeft room left from
      → entries_from from m ≡ e ∷ entries_from next m → left < length (f.spell e) → room < length ((listed f).spell (entries m))
  too_long room left from next e so_far first is =
      let same : length (flat_map f.spell (entries_from from m)) ≡ length (f.spell e ++ flat_map f.spell (entries_from next m)) =
      ap (λ es. length (flat_map f.spell es)) first in
      omega (arith, is, same, so_far, length-append (f.spell e) (flat_map f.spell (entries_from next m)))

  pub all_counted : (room left from : ℕ) → IsLeft room left from → entries_from from m ≡ [] → left + length ((listed f).spell (entries m)) ≡ room
  all_counted room left from so_far none =
      let same : length (flat_map f.spell (entries_from from m)) ≡ 0 = ap (λ es. length (flat_map f.spell es)) none in
      omega (arith, same, so_far)

  -- A turn more leaves fewer entries to come.
  pub fewer : (from next : ℕ) (e : ℕ × X) → entries_from from m ≡ e ∷ entries_from next m → length (entries_from next m) < length (entries_from from m)
  fewer from next e first = omega (arith, ap length first)

-- ---- the bytes of all tuples

-- Tuples with their ids spell eight bytes for each id, and what the tuples spell.
placed_bytes : (es : List (ℕ × Tuple)) → length (flat_map (format.placed written).spell es) ≡ 8 * length es + sum_by tuple_bytes (values_of es)
placed_bytes [] = refl
placed_bytes (e ∷ es) =
    let all = length-append ((format.placed written).spell e) (flat_map (format.placed written).spell es) in
    let one = length-append (number.spell e.0) ((value.tuple written).spell e.1) in
    omega (arith, all, one, placed_bytes es, sum_by-cons tuple_bytes e.1 (values_of es))

-- So the bytes of the tuples in a snapshot follow from how many there are, and from the bytes that the bag keeps.
pub all_placed : (m : FinMap nat_cmp Tuple) → length ((listed (format.placed written)).spell (entries m)) ≡ 4 + 8 * len m + bytes_of m
all_placed m = omega (arith, placed_bytes (entries m), len-entries m)

-- ---- a whole state

-- Each entry takes some bytes, so there are no more entries than bytes.
few_entries : {A : Type 0} (spell : A → List ℕ) → ((a : A) → 0 < length (spell a)) → (xs : List A) → length xs ≤ length (flat_map spell xs)
few_entries spell some [] = omega arith
few_entries spell some (x ∷ xs) = omega (arith, some x, few_entries spell some xs, length-append (spell x) (flat_map spell xs))

pub few_tuples : (st : State) → length (spell_state written st) < 2 ^ 32 → length (entries st.bag) < 2 ^ 32
few_tuples st short =
    let tuples : List ℕ = (listed (format.placed written)).spell (entries st.bag) in
    omega (
      arith,
      short,
      few_entries (format.placed written).spell (λ e. omega arith) (entries st.bag),
      length-append tuples ((listed (format.kept written)).spell (entries st.book)),
    )

pub few_clients : (st : State) → length (spell_state written st) < 2 ^ 32 → length (entries st.book) < 2 ^ 32
few_clients st short =
    let tuples : List ℕ = (listed (format.placed written)).spell (entries st.bag) in
    omega (
      arith,
      short,
      few_entries (format.kept written).spell (λ e. omega arith) (entries st.book),
      length-append tuples ((listed (format.kept written)).spell (entries st.book)),
    )

pub put_in_row : (start a b c one two three : List ℕ) → one ≡ start ++ a → two ≡ one ++ b → three ≡ two ++ c → three ≡ start ++ (a ++ (b ++ c))
put_in_row start a b c one two three first second third =
    third ∙ ap (λ l. l ++ c) (second ∙ ap (λ l. l ++ b) first) ∙ append_assoc (start ++ a) b c ∙ append_assoc start a (b ++ c)
