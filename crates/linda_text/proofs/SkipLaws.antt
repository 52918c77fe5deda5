-- What reading leaves after the fields, by what each step leaves.
use Rattle.std.proofs.Common.{◌≡◌, ℕ, suc, ◌-◌, ◌+◌, ◌≤◌, ◌<◌, Bool, true, false, List, [], ◌∷◌, Result, Ok, Err, refl, sym, ap, ◌∙◌, arith}
use Rattle.linda_text.specs.declared.fault.TextFault.{TextFault}
use Rattle.linda_codec.specs.Steps.{◌>>=◌, left_by}
use Rattle.linda_text.specs.Steps.{Read, Reader}
use Rattle.linda_text.specs.Reading.{after_blanks, more_at, no_more_at, fields_at}
use Rattle.linda_codec.proofs.SkipLaws.{left_then, left_fault, left_made}

abbrev with_others : {A : Type 0} → Reader A → ℕ → A × List ℕ → Read (List A)
with_others field room first = fields_at field room first.1 >>= λ others. Ok (first.0 ∷ others.0, others.1)

pub starts : {A : Type 0} (field : Reader A) (count : ℕ) (bytes : List ℕ) → left_by (fields_at field (count - 0) bytes) ≡ left_by (fields_at field count bytes)
starts field count bytes =
    let k : count - 0 ≡ count = omega arith in
    rw k refl

pub goes_on : {A : Type 0} (field : Reader A) (count i : ℕ) (bytes : List ℕ) (more : Bool) (after here behind : List ℕ) (total : Result (List ℕ) TextFault)
    → i < count
    → more ≡ true → more_at (after_blanks bytes) ≡ Ok (more, after) → here ≡ after_blanks after → left_by (field here) ≡ Ok behind
    → left_by (fields_at field (count - i) bytes) ≡ total → left_by (fields_at field (count - (i + 1)) behind) ≡ total
unfolding fields_at
goes_on field count i bytes more after here behind total lt is_more found is_here one so_far =
    let k : count - i ≡ suc (count - (i + 1)) = omega arith in
    let first : left_by (field (after_blanks after)) ≡ Ok behind = ap (λ (b : List ℕ). left_by (field b)) (sym is_here) ∙ one in
    let same : left_by (fields_at field (count - i) bytes) ≡ left_by (fields_at field (count - (i + 1)) behind) =
    rw (k, found, is_more)
    (left_then (field (after_blanks after)) (with_others field (count - (i + 1))) behind (left_by (fields_at field (count - (i + 1)) behind)) first
    (λ a. left_made (fields_at field (count - (i + 1)) behind) (λ others. a ∷ others))) in
    sym same ∙ so_far

-- The closing parenthesis.
pub closes : {A : Type 0} (field : Reader A) (count i : ℕ) (bytes : List ℕ) (more : Bool) (after : List ℕ) (total : Result (List ℕ) TextFault) → i < count
    → more ≡ false → more_at (after_blanks bytes) ≡ Ok (more, after) → left_by (fields_at field (count - i) bytes) ≡ total → total ≡ Ok after
unfolding fields_at
closes field count i bytes more after total lt is_last found so_far =
    let k : count - i ≡ suc (count - (i + 1)) = omega arith in
    let same : left_by (fields_at field (count - i) bytes) ≡ Ok after = rw (k, found, is_last) refl in
    sym so_far ∙ same

pub fails_between : {A : Type 0} (field : Reader A) (count i : ℕ) (bytes : List ℕ) (fault : TextFault) (total : Result (List ℕ) TextFault) → i < count
    → more_at (after_blanks bytes) ≡ Err fault → left_by (fields_at field (count - i) bytes) ≡ total → total ≡ Err fault
unfolding fields_at
fails_between field count i bytes fault total lt more so_far =
    let k : count - i ≡ suc (count - (i + 1)) = omega arith in
    let same : left_by (fields_at field (count - i) bytes) ≡ Err fault = rw (k, more) refl in
    sym so_far ∙ same

pub fails_inside : {A : Type 0} (field : Reader A) (count i : ℕ) (bytes : List ℕ) (more : Bool)
    (after here : List ℕ) (fault : TextFault) (total : Result (List ℕ) TextFault) → i < count
    → more ≡ true → more_at (after_blanks bytes) ≡ Ok (more, after) → here ≡ after_blanks after → left_by (field here) ≡ Err fault
    → left_by (fields_at field (count - i) bytes) ≡ total → total ≡ Err fault
unfolding fields_at
fails_inside field count i bytes more after here fault total lt is_more found is_here one so_far =
    let k : count - i ≡ suc (count - (i + 1)) = omega arith in
    let first : left_by (field (after_blanks after)) ≡ Err fault = ap (λ (b : List ℕ). left_by (field b)) (sym is_here) ∙ one in
    let same : left_by (fields_at field (count - i) bytes) ≡ Err fault =
    rw (k, found, is_more) (left_fault (field (after_blanks after)) (with_others field (count - (i + 1))) fault first) in
    sym so_far ∙ same

left_alone : (A : Type 0) (step : Result (List ℕ) TextFault) → left_by (step >>= λ rest. (let found : Read (List A) = Ok ([], rest) in found)) ≡ step
left_alone A (Ok rest) = refl
left_alone A (Err fault) = refl

-- After the last field that may be there.
pub ends : {A : Type 0} (field : Reader A) (count i : ℕ) (bytes : List ℕ) (total : Result (List ℕ) TextFault) → count ≤ i
    → left_by (fields_at field (count - i) bytes) ≡ total → total ≡ no_more_at bytes
unfolding fields_at
ends field count i bytes total le so_far =
    let k : count - i ≡ 0 = omega arith in
    let same : left_by (fields_at field (count - i) bytes) ≡ no_more_at bytes = rw k (left_alone _ (no_more_at bytes)) in
    sym so_far ∙ same
