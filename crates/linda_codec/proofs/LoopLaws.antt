-- Reading values one after the other, as a loop does, for any reader of a value.
use Rattle.std.proofs.Common.{◌≡◌, ◌≢◌, ℕ, suc, ◌-◌, ◌+◌, ◌≤◌, ◌<◌, List, [], ◌∷◌, ◌++◌, Result, Ok, Err, refl, sym, ap, ◌∙◌, append_assoc, arith}
use Rattle.std.proofs.lemmas.List.{append-nil}
use Rattle.linda_codec.specs.declared.fault.ReadFault.{ReadFault}
use Rattle.linda_codec.specs.declared.fault.ReadFault.TheVariants.{Memory}
use Rattle.linda_codec.specs.Steps.{Read, Reader, ◌>>=◌, GivesUnless, many_at}

-- What was read before, and what is still read.
abbrev pub with_front : {A : Type 0} → List A → Read (List A) → Read (List A)
with_front front read = read >>= λ x. Ok (front ++ x.0, x.1)

regroup : {A : Type 0} (front : List A) (a : A) (read : Read (List A)) → with_front front (read >>= λ x. Ok (a ∷ x.0, x.1)) ≡ with_front (front ++ a ∷ []) read
regroup {A = A} front a (Ok x) = ap (λ (items : List A). Ok (items, x.1)) (simp append_assoc)
regroup {A = A} front a (Err fault) = refl

nothing_before : {A : Type 0} (read : Read (List A)) → with_front [] read ≡ read
nothing_before (Ok x) = refl
nothing_before (Err fault) = refl

pub starts : {A : Type 0} (read : Reader A) (front : List A) (count : ℕ) (bytes : List ℕ) → front ≡ []
    → with_front front (many_at read (count - 0) bytes) ≡ many_at read count bytes
starts read front count bytes none =
    let k : count - 0 ≡ count = omega arith in
    rw (k, none) (nothing_before (many_at read count bytes))

pub goes_on : {A : Type 0} (read : Reader A) (front : List A) (count i : ℕ) (bytes : List ℕ) (a : A) (after : List ℕ) (total : Read (List A))
    → i < count → read bytes ≡ Ok (a, after)
    → with_front front (many_at read (count - i) bytes) ≡ total → with_front (front ++ a ∷ []) (many_at read (count - (i + 1)) after) ≡ total
unfolding many_at
goes_on read front count i bytes a after total lt one so_far =
    let k : count - i ≡ suc (count - (i + 1)) = omega arith in
    let same : with_front front (many_at read (count - i) bytes) ≡ with_front (front ++ a ∷ []) (many_at read (count - (i + 1)) after) =
    rw (k, one) (regroup front a (many_at read (count - (i + 1)) after)) in
    sym same ∙ so_far

pub ends : {A : Type 0} (read : Reader A) (fault : ReadFault) (front : List A) (count i : ℕ) (bytes : List ℕ) (total : Read (List A))
    → i < count → (fault ≢ Memory → read bytes ≡ Err fault)
    → with_front front (many_at read (count - i) bytes) ≡ total → fault ≢ Memory → total ≡ Err fault
unfolding many_at
ends read fault front count i bytes total lt fails so_far is_fault =
    let k : count - i ≡ suc (count - (i + 1)) = omega arith in
    let one : read bytes ≡ Err fault = fails is_fault in
    let same : with_front front (many_at read (count - i) bytes) ≡ Err fault = rw (k, one) refl in
    sym so_far ∙ same

pub is_done : {A : Type 0} (read : Reader A) (front : List A) (count i : ℕ) (bytes : List ℕ) (total : Read (List A))
    → count ≤ i → with_front front (many_at read (count - i) bytes) ≡ total → total ≡ Ok (front, bytes)
unfolding many_at
is_done {A = A} read front count i bytes total le so_far =
    let k : count - i ≡ 0 = omega arith in
    let same : with_front front (many_at read (count - i) bytes) ≡ Ok (front, bytes) = rw k (ap (λ (items : List A). Ok (items, bytes)) (append-nil front)) in
    sym so_far ∙ same

-- One value by itself is read as a list of one is.
pub one_is : {A X : Type 0} (value : X → A) (left : X → List ℕ) (read : Reader A) (bytes : List ℕ) (result : Result X ReadFault)
    → GivesUnless Memory (λ x. (value x, left x)) result (read bytes)
    → GivesUnless Memory (λ x. (value x ∷ [], left x)) result (many_at read 1 bytes)
unfolding many_at
one_is value left read bytes (Ok x) given = rw given refl
one_is value left read bytes (Err fault) given = λ no. rw (given no) refl
