-- Laws of a frame's length: the length that is read is the one that was written, and more bytes
-- change nothing.
use Rattle.std.proofs.Common.{◌≡◌, ℕ, ◌+◌, ◌^◌, ◌<◌, ◌≤◌, Bool, true, false, cond, ltb, eqb, List, ◌++◌, length, take}
use Rattle.std.proofs.Common.{Option, Some, None, Result, Ok, Err, refl, sym, ap, subst, ◌∙◌, append_assoc, arith}
use Rattle.std.specs.Int.{w32, from_be_bytes}
use Rattle.std.proofs.lemmas.Bool.{ltb-true, eqb-true}
use Rattle.std.proofs.lemmas.Bool.Decides.{nat_tests}
use Rattle.std.proofs.lemmas.List.{take-append-le, length-append, length-take}
use Rattle.std.proofs.lemmas.Nat.{be_bytes_4, from_be_bytes-to_be_bytes_4}
use Rattle.linda_codec.specs.Lawful.{IsBytes}
use Rattle.linda_codec.proofs.TakeLaws.{IsBytes-take}
use Rattle.linda_wire.specs.declared.fault.FrameFault.{FrameFault}
use Rattle.linda_wire.specs.declared.fault.FrameFault.TheVariants.{Memory, EmptyFrame, FrameTooLong, Malformed}
use Rattle.linda_wire.specs.declared.limits.TheConstants.{LENGTH_BYTES, MAX_PAYLOAD}
use Rattle.linda_wire.specs.Frames.{length_field, told_length, frame}
use Rattle.linda_wire.specs.Stream.{payload_len}

-- ---- four bytes

pub length_field-length : (n : ℕ) → length (length_field n) ≡ LENGTH_BYTES
unfolding length_field
length_field-length n = refl

pub told_length-field : (n : ℕ) (rest : List ℕ) → n < 2 ^ 32 → told_length (length_field n ++ rest) ≡ n
unfolding told_length length_field
told_length-field n rest lt = from_be_bytes-to_be_bytes_4 n lt

pub told_length-append : (bytes more : List ℕ) → LENGTH_BYTES ≤ length bytes → told_length (bytes ++ more) ≡ told_length bytes
unfolding told_length
told_length-append bytes more long = ap (from_be_bytes w32) (take-append-le LENGTH_BYTES bytes more long)

pub length_field-told : (bytes : List ℕ) → IsBytes bytes → LENGTH_BYTES ≤ length bytes → length_field (told_length bytes) ≡ take LENGTH_BYTES bytes
unfolding told_length length_field
length_field-told bytes fits long =
    be_bytes_4 (take LENGTH_BYTES bytes) _ (omega (arith, length-take LENGTH_BYTES bytes)) (IsBytes-take LENGTH_BYTES bytes fits) refl

-- ---- the tests of a length

abbrev judged : ℕ → ℕ → Result (Option ℕ) FrameFault
judged count told =
    cond (ltb count LENGTH_BYTES) (Ok None)
    (cond (eqb told 0) (Err EmptyFrame)
    (cond (ltb MAX_PAYLOAD told) (Err (FrameTooLong told)) (cond (ltb count (LENGTH_BYTES + told)) (Ok None) (Ok (Some told)))))

payload_len-judged : (bytes : List ℕ) → payload_len bytes ≡ judged (length bytes) (told_length bytes)
unfolding payload_len
payload_len-judged bytes = refl

-- A payload that is there: its length is the one that is read, within its limits.
pub record IsThere (count told len : ℕ) : Type 0 where
  pub told-is : told ≡ len
  pub some : 0 < len
  pub short : len ≤ MAX_PAYLOAD
  pub all : LENGTH_BYTES + len ≤ count

judged_there : (count told len : ℕ) → judged count told ≡ Ok (Some len) → IsThere count told len
judged_there count told len e = grind (arith, nat_tests)

judged_again : (count told : ℕ) → 0 < told → told ≤ MAX_PAYLOAD → LENGTH_BYTES + told ≤ count → judged count told ≡ Ok (Some told)
judged_again count told some short all = grind (arith, nat_tests)

judged_broken : (count more told : ℕ) (fault : FrameFault) → judged count told ≡ Err fault → (LENGTH_BYTES ≤ count) × (judged (count + more) told ≡ Err fault)
judged_broken count more told fault e = grind (arith, nat_tests)

-- A length that is none, or too long.
abbrev pub IsFaultOfLength : ℕ → FrameFault → Type 0
IsFaultOfLength told Memory = ⊥
IsFaultOfLength told EmptyFrame = told ≡ 0
IsFaultOfLength told (FrameTooLong len) = (told ≡ len) × (MAX_PAYLOAD < len)
IsFaultOfLength told (Malformed at) = ⊥

fault_by : (few none long partly : Bool) (told : ℕ) (fault : FrameFault) → (none ≡ true → told ≡ 0) → (long ≡ true → MAX_PAYLOAD < told)
    → cond few (Ok None) (cond none (Err EmptyFrame) (cond long (Err (FrameTooLong told)) (cond partly (Ok None) (Ok (Some told))))) ≡ Err fault
    → IsFaultOfLength told fault
fault_by true none long partly told fault n l e = absurd cc
fault_by false true long partly told fault n l e =
    let is : EmptyFrame ≡ fault = cc in
    subst (IsFaultOfLength told) is (n refl)
fault_by false false true partly told fault n l e =
    let is : FrameTooLong told ≡ fault = cc in
    subst (IsFaultOfLength told) is (refl, l refl)
fault_by false false false true told fault n l e = absurd cc
fault_by false false false false told fault n l e = absurd cc

-- ---- the payload's length at the front of a stream

pub payload_len-fault : (bytes : List ℕ) (fault : FrameFault) → payload_len bytes ≡ Err fault → IsFaultOfLength (told_length bytes) fault
payload_len-fault bytes fault e =
    fault_by (ltb (length bytes) LENGTH_BYTES) (eqb (told_length bytes) 0) (ltb MAX_PAYLOAD (told_length bytes))
    (ltb (length bytes) (LENGTH_BYTES + told_length bytes)) (told_length bytes) fault
    (eqb-true (told_length bytes) 0) (ltb-true MAX_PAYLOAD (told_length bytes)) (sym (payload_len-judged bytes) ∙ e)

pub payload_len-long : (bytes : List ℕ) (fault : FrameFault) → payload_len bytes ≡ Err fault → LENGTH_BYTES ≤ length bytes
payload_len-long bytes fault e = (judged_broken (length bytes) 0 (told_length bytes) fault (sym (payload_len-judged bytes) ∙ e)).0

pub payload_there : (bytes : List ℕ) (len : ℕ) → payload_len bytes ≡ Ok (Some len) → IsThere (length bytes) (told_length bytes) len
payload_there bytes len e = judged_there (length bytes) (told_length bytes) len (sym (payload_len-judged bytes) ∙ e)

pub payload_len-there : (bytes : List ℕ) (len : ℕ) → IsThere (length bytes) (told_length bytes) len → payload_len bytes ≡ Ok (Some len)
payload_len-there bytes len there =
    let e = there.told-is in
    let some : 0 < told_length bytes = omega (arith, there.some) in
    let short : told_length bytes ≤ MAX_PAYLOAD = omega (arith, there.short) in
    let all : LENGTH_BYTES + told_length bytes ≤ length bytes = omega (arith, there.all) in
    payload_len-judged bytes ∙ judged_again (length bytes) (told_length bytes) some short all ∙ ap (λ (n : ℕ). Ok (Some n)) e

pub payload_len-append : (bytes more : List ℕ) (len : ℕ) → payload_len bytes ≡ Ok (Some len) → payload_len (bytes ++ more) ≡ Ok (Some len)
payload_len-append bytes more len e =
    let there = payload_there bytes len e in
    let long : LENGTH_BYTES ≤ length bytes = omega (arith, there.all) in
    payload_len-there (bytes ++ more) len record {
      told-is = told_length-append bytes more long ∙ there.told-is;
      some = there.some;
      short = there.short;
      all = omega (arith, there.all, length-append bytes more);
    }

pub payload_len-broken : (bytes more : List ℕ) (fault : FrameFault) → payload_len bytes ≡ Err fault → payload_len (bytes ++ more) ≡ Err fault
payload_len-broken bytes more fault e =
    let b = judged_broken (length bytes) (length more) (told_length bytes) fault (sym (payload_len-judged bytes) ∙ e) in
    payload_len-judged (bytes ++ more) ∙ rw (told_length-append bytes more b.0, length-append bytes more) b.1

pub payload_len-frame : (payload rest : List ℕ) → 0 < length payload → length payload ≤ MAX_PAYLOAD
    → payload_len (frame payload ++ rest) ≡ Ok (Some (length payload))
payload_len-frame payload rest some short =
    let told : told_length (length_field (length payload) ++ (payload ++ rest)) ≡ length payload =
    told_length-field (length payload) (payload ++ rest) (omega (arith, short)) in
    payload_len-there (frame payload ++ rest) (length payload) record {
      told-is = rw append_assoc told;
      some = some;
      short = short;
      all = omega (arith, length-append (frame payload) rest, length-append (length_field (length payload)) payload, length_field-length (length payload));
    }
