-- What reading leaves after the value, by what each step leaves.
use Rattle.std.proofs.Common.{◌≡◌, ℕ, suc, ◌-◌, ◌+◌, ◌≤◌, ◌<◌, List, ◌∷◌, Result, Ok, Err, refl, sym, ◌∙◌, arith}
use Rattle.std.specs.Prelude.{IsOk}
use Rattle.linda_codec.specs.declared.fault.ReadFault.{ReadFault}
use Rattle.linda_codec.specs.Formats.{Format, both, count_at, counted}
use Rattle.linda_codec.specs.Steps.{ReadOr, Reader, ◌>>=◌, left_by, many_at}
use Rattle.linda_codec.specs.Values.{atom, tagged}
use Rattle.linda_tuple.specs.declared.form.Form.{Form}
use Rattle.linda_tuple.specs.Form.{most_fields}
use Rattle.linda_codec.proofs.TakeLaws.{ok_is}

-- If bytes are left, a value is before them.
pub is_there : {F A : Type 0} (read : ReadOr F A) (rest : List ℕ) → left_by read ≡ Ok rest → IsOk read
is_there (Ok x) rest e = refl
is_there (Err fault) rest e = absurd cc

-- A fault that is returned for what is left is the fault.
pub is_fault : {F A : Type 0} (read : ReadOr F A) (fault : F) → left_by read ≡ Err fault → read ≡ Err fault
is_fault (Ok x) fault e = absurd cc
is_fault (Err f) fault e = cc

-- A step that leaves these bytes, and the next one.
pub left_then : {F A B : Type 0} (step : ReadOr F A) (next : A × List ℕ → ReadOr F B) (rest : List ℕ) (total : Result (List ℕ) F) → left_by step ≡ Ok rest
    → ((a : A) → left_by (next (a, rest)) ≡ total) → left_by (step >>= next) ≡ total
left_then (Ok x) next rest total e others = rw (ok_is x.1 rest e) (others x.0)
left_then (Err fault) next rest total e others = absurd cc

-- A step that fails.
pub left_fault : {F A B : Type 0} (step : ReadOr F A) (next : A × List ℕ → ReadOr F B) (fault : F)
    → left_by step ≡ Err fault → left_by (step >>= next) ≡ Err fault
left_fault (Ok x) next fault e = absurd cc
left_fault (Err f) next fault e = e

-- What a step leaves is still left if the next one only makes something of the value.
pub left_made : {F A B : Type 0} (step : ReadOr F A) (make : A → B) → left_by (step >>= λ x. Ok (make x.0, x.1)) ≡ left_by step
left_made (Ok x) make = refl
left_made (Err fault) make = refl

-- After what the first of two formats reads, the second one leaves what both leave.
pub left_behind : {A B : Type 0} (f : Format A) (g : Format B) (bytes : List ℕ) (a : A) (rest : List ℕ)
    → f.read bytes ≡ Ok (a, rest) → left_by ((both f g).read bytes) ≡ left_by (g.read rest)
left_behind f g bytes a rest e = rw e (left_made (g.read rest) (λ b. (a, b)))

-- After a tag and a count, so many values leave what all of it leaves.
pub left_tagged : {A : Type 0} (form : Form) (f : Format A) (bytes rest : List ℕ) (count : ℕ × List ℕ)
    → left_by ((atom form).read bytes) ≡ Ok rest → count_at (most_fields form) rest ≡ Ok count
    → left_by ((tagged form f).read bytes) ≡ left_by (many_at f.read count.0 count.1)
left_tagged form f bytes rest count tag some =
    left_then ((atom form).read bytes) (λ a. (counted (most_fields form) f).read a.1 >>= λ b. Ok ((a.0, b.0), b.1)) rest
    (left_by (many_at f.read count.0 count.1)) tag
    (λ a. rw some (left_made (many_at f.read count.0 count.1) (λ b. (a, b))))

-- A fault of the tag.
pub tag_fault : {A : Type 0} (form : Form) (f : Format A) (bytes : List ℕ) (fault : ReadFault)
    → left_by ((atom form).read bytes) ≡ Err fault → left_by ((tagged form f).read bytes) ≡ Err fault
tag_fault form f bytes fault e = left_fault ((atom form).read bytes) (λ a. (counted (most_fields form) f).read a.1 >>= λ b. Ok ((a.0, b.0), b.1)) fault e

-- A fault of the count.
pub count_fault : {A : Type 0} (form : Form) (f : Format A) (bytes rest : List ℕ) (fault : ReadFault)
    → left_by ((atom form).read bytes) ≡ Ok rest → count_at (most_fields form) rest ≡ Err fault → left_by ((tagged form f).read bytes) ≡ Err fault
count_fault form f bytes rest fault tag none =
    left_then ((atom form).read bytes) (λ a. (counted (most_fields form) f).read a.1 >>= λ b. Ok ((a.0, b.0), b.1)) rest (Err fault) tag (λ a. rw none refl)

-- ---- many values, as a loop passes over them

pub skips_from : {A : Type 0} (read : Reader A) (count : ℕ) (bytes : List ℕ) → left_by (many_at read (count - 0) bytes) ≡ left_by (many_at read count bytes)
skips_from read count bytes =
    let k : count - 0 ≡ count = omega arith in
    rw k refl

pub skips_on : {A : Type 0} (read : Reader A) (count i : ℕ) (bytes after : List ℕ) (total : Result (List ℕ) ReadFault)
    → i < count → left_by (read bytes) ≡ Ok after
    → left_by (many_at read (count - i) bytes) ≡ total → left_by (many_at read (count - (i + 1)) after) ≡ total
unfolding many_at
skips_on read count i bytes after total lt one so_far =
    let k : count - i ≡ suc (count - (i + 1)) = omega arith in
    let same : left_by (many_at read (count - i) bytes) ≡ left_by (many_at read (count - (i + 1)) after) =
    rw k (left_then (read bytes) (λ first. many_at read (count - (i + 1)) first.1 >>= λ others. Ok (first.0 ∷ others.0, others.1)) after
    (left_by (many_at read (count - (i + 1)) after)) one (λ a. left_made (many_at read (count - (i + 1)) after) (λ others. a ∷ others))) in
    sym same ∙ so_far

pub skips_end : {A : Type 0} (read : Reader A) (fault : ReadFault) (count i : ℕ) (bytes : List ℕ) (total : Result (List ℕ) ReadFault)
    → i < count → left_by (read bytes) ≡ Err fault
    → left_by (many_at read (count - i) bytes) ≡ total → total ≡ Err fault
unfolding many_at
skips_end read fault count i bytes total lt fails so_far =
    let k : count - i ≡ suc (count - (i + 1)) = omega arith in
    let same : left_by (many_at read (count - i) bytes) ≡ Err fault =
    rw k (left_fault (read bytes) (λ first. many_at read (count - (i + 1)) first.1 >>= λ others. Ok (first.0 ∷ others.0, others.1)) fault fails) in
    sym so_far ∙ same

pub skips_done : {A : Type 0} (read : Reader A) (count i : ℕ) (bytes : List ℕ) (total : Result (List ℕ) ReadFault)
    → count ≤ i → left_by (many_at read (count - i) bytes) ≡ total → total ≡ Ok bytes
unfolding many_at
skips_done read count i bytes total le so_far =
    let k : count - i ≡ 0 = omega arith in
    let same : left_by (many_at read (count - i) bytes) ≡ Ok bytes = rw k refl in
    sym so_far ∙ same
