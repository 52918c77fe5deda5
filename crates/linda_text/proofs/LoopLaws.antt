-- Reading values one after the other, as a loop does.
use Rattle.std.proofs.Common.{◌≡◌, ◌≢◌, ℕ, suc, ◌-◌, ◌+◌, ◌≤◌, ◌<◌, Bool, true, false, List, [], ◌∷◌, ◌++◌, Ok, Err, refl, sym, ap, ◌∙◌, append_assoc, arith}
use Rattle.std.proofs.lemmas.List.{append-nil}
use Rattle.linda_text.specs.declared.fault.TextFault.{TextFault}
use Rattle.linda_text.specs.declared.fault.TextFault.TheVariants.{Memory}
use Rattle.linda_codec.specs.Steps.{◌>>=◌}
use Rattle.linda_text.specs.Steps.{Read, Reader}
use Rattle.linda_text.specs.Reading.{after_blanks, more_at, no_more_at, fields_at}

-- What was read before, and what is still read.
abbrev pub with_front : {A : Type 0} → List A → Read (List A) → Read (List A)
with_front front read = read >>= λ x. Ok (front ++ x.0, x.1)

-- One value more was read.
pub regroup : {A : Type 0} (front : List A) (a : A) (read : Read (List A))
    → with_front front (read >>= λ x. Ok (a ∷ x.0, x.1)) ≡ with_front (front ++ a ∷ []) read
regroup {A = A} front a (Ok x) = ap (λ (items : List A). Ok (items, x.1)) (simp append_assoc)
regroup {A = A} front a (Err fault) = refl

pub nothing_before : {A : Type 0} (read : Read (List A)) → with_front [] read ≡ read
nothing_before (Ok x) = refl
nothing_before (Err fault) = refl

-- ---- the loop over fields

pub starts : {A : Type 0} (field : Reader A) (front : List A) (count : ℕ) (bytes : List ℕ) → front ≡ []
    → with_front front (fields_at field (count - 0) bytes) ≡ fields_at field count bytes
starts field front count bytes none =
    let k : count - 0 ≡ count = omega arith in
    rw (k, none) (nothing_before (fields_at field count bytes))

pub goes_on : {A : Type 0} (field : Reader A) (front : List A) (count i : ℕ) (bytes : List ℕ)
    (more : Bool) (after here : List ℕ) (a : A) (behind : List ℕ) (total : Read (List A)) → i < count
    → more ≡ true → more_at (after_blanks bytes) ≡ Ok (more, after) → here ≡ after_blanks after → field here ≡ Ok (a, behind)
    → with_front front (fields_at field (count - i) bytes) ≡ total → with_front (front ++ a ∷ []) (fields_at field (count - (i + 1)) behind) ≡ total
unfolding fields_at
goes_on field front count i bytes more after here a behind total lt is_more found is_here one so_far =
    let k : count - i ≡ suc (count - (i + 1)) = omega arith in
    let read : field (after_blanks after) ≡ Ok (a, behind) = ap field (sym is_here) ∙ one in
    let same : with_front front (fields_at field (count - i) bytes) ≡ with_front (front ++ a ∷ []) (fields_at field (count - (i + 1)) behind) =
    rw (k, found, is_more, read) (regroup front a (fields_at field (count - (i + 1)) behind)) in
    sym same ∙ so_far

-- The closing parenthesis.
pub closes : {A : Type 0} (field : Reader A) (front : List A) (count i : ℕ) (bytes : List ℕ) (more : Bool) (after : List ℕ) (total : Read (List A)) → i < count
    → more ≡ false → more_at (after_blanks bytes) ≡ Ok (more, after) → with_front front (fields_at field (count - i) bytes) ≡ total → total ≡ Ok (front, after)
unfolding fields_at
closes {A = A} field front count i bytes more after total lt is_last found so_far =
    let k : count - i ≡ suc (count - (i + 1)) = omega arith in
    let same : with_front front (fields_at field (count - i) bytes) ≡ Ok (front, after) =
    rw (k, found, is_last) (ap (λ (items : List A). Ok (items, after)) (append-nil front)) in
    sym so_far ∙ same

pub fails_between : {A : Type 0} (field : Reader A) (front : List A) (count i : ℕ) (bytes : List ℕ) (fault : TextFault) (total : Read (List A)) → i < count
    → more_at (after_blanks bytes) ≡ Err fault → with_front front (fields_at field (count - i) bytes) ≡ total → total ≡ Err fault
unfolding fields_at
fails_between field front count i bytes fault total lt more so_far =
    let k : count - i ≡ suc (count - (i + 1)) = omega arith in
    let same : with_front front (fields_at field (count - i) bytes) ≡ Err fault = rw (k, more) refl in
    sym so_far ∙ same

pub fails_inside : {A : Type 0} (field : Reader A) (front : List A) (count i : ℕ) (bytes : List ℕ)
    (more : Bool) (after here : List ℕ) (fault : TextFault) (total : Read (List A)) → i < count
    → more ≡ true → more_at (after_blanks bytes) ≡ Ok (more, after) → here ≡ after_blanks after → (fault ≢ Memory → field here ≡ Err fault)
    → with_front front (fields_at field (count - i) bytes) ≡ total → fault ≢ Memory → total ≡ Err fault
unfolding fields_at
fails_inside field front count i bytes more after here fault total lt is_more found is_here one so_far is_fault =
    let k : count - i ≡ suc (count - (i + 1)) = omega arith in
    let read : field (after_blanks after) ≡ Err fault = ap field (sym is_here) ∙ one is_fault in
    let same : with_front front (fields_at field (count - i) bytes) ≡ Err fault = rw (k, found, is_more, read) refl in
    sym so_far ∙ same

-- After the last field that may be there.
pub is_full : {A : Type 0} (field : Reader A) (front : List A) (count i : ℕ) (bytes rest : List ℕ) (total : Read (List A)) → count ≤ i
    → no_more_at bytes ≡ Ok rest → with_front front (fields_at field (count - i) bytes) ≡ total → total ≡ Ok (front, rest)
unfolding fields_at
is_full {A = A} field front count i bytes rest total le none so_far =
    let k : count - i ≡ 0 = omega arith in
    let same : with_front front (fields_at field (count - i) bytes) ≡ Ok (front, rest) =
    rw (k, none) (ap (λ (items : List A). Ok (items, rest)) (append-nil front)) in
    sym so_far ∙ same

pub fails_full : {A : Type 0} (field : Reader A) (front : List A) (count i : ℕ) (bytes : List ℕ) (fault : TextFault) (total : Read (List A)) → count ≤ i
    → no_more_at bytes ≡ Err fault → with_front front (fields_at field (count - i) bytes) ≡ total → total ≡ Err fault
unfolding fields_at
fails_full field front count i bytes fault total le none so_far =
    let k : count - i ≡ 0 = omega arith in
    let same : with_front front (fields_at field (count - i) bytes) ≡ Err fault = rw (k, none) refl in
    sym so_far ∙ same
