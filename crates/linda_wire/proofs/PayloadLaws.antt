-- Laws of whole payloads, for values of any format.
use Rattle.std.proofs.Common.{◌≡◌, ℕ, suc, ◌+◌, ◌≤◌, List, [], ◌∷◌, length, Result, Ok, Err, refl, sym, ap, subst, ◌∙◌, arith}
use Rattle.std.proofs.lemmas.List.{append-nil}
use Rattle.linda_codec.specs.Steps.{Read, left_by}
use Rattle.linda_codec.specs.declared.fault.ReadFault.{ReadFault}
use Rattle.linda_codec.specs.declared.fault.ReadFault.TheVariants as reading
use Rattle.linda_codec.specs.Formats.{Format}
use Rattle.linda_codec.specs.Lawful.{IsBytes, IsLeftOf, IsBounded, IsFormat}
use Rattle.linda_wire.specs.declared.fault.FrameFault.{FrameFault}
use Rattle.linda_wire.specs.declared.fault.FrameFault.TheVariants.{Memory, EmptyFrame, FrameTooLong, Malformed}
use Rattle.linda_wire.specs.declared.limits.TheConstants.{LENGTH_BYTES}
use Rattle.linda_wire.specs.Stream.{frame_fault, malformed_with, with_no_rest, in_frame, whole_of, Judges}

-- ---- what is read

abbrev pair : {A : Type 0} → A → List ℕ → A × List ℕ
pair value rest = (value, rest)

no_rest_is : {A : Type 0} (len : ℕ) (value made : A) (rest : List ℕ) → with_no_rest len made rest ≡ Ok value → (made ≡ value) × (rest ≡ [])
no_rest_is len value made [] e = (cc, refl)
no_rest_is len value made (b ∷ rest) e = absurd cc

both_are : {A : Type 0} (a b : A) (r s : List ℕ) → a ≡ b → r ≡ s → pair a r ≡ pair b s
both_are a b r s e f = cc

-- A value that was read from all of the bytes.
in_frame_is : {A : Type 0} (len : ℕ) (read : Read A) (value : A) → in_frame len read ≡ Ok value → read ≡ Ok (value, [])
in_frame_is len (Ok x) value e =
    let n = no_rest_is len value x.0 x.1 e in
    ap (λ p. Ok p) (both_are x.0 value x.1 [] n.0 n.1)
in_frame_is len (Err fault) value e = absurd cc

-- What is read from a payload is so spelled.
pub whole_takes : {A : Type 0} (f : Format A) → IsFormat f → (payload : List ℕ) (value : A)
    → IsBytes payload → whole_of f payload ≡ Ok value → (payload ≡ f.spell value) × f.Fits value
whole_takes f is payload value fits e =
    let t = is.takes payload (value, []) fits (in_frame_is (length payload) (f.read payload) value e) in
    (t.0.parts ∙ append-nil (f.spell value), t.1)

-- What is spelled is read from the payload that it is.
pub whole_again : {A : Type 0} (f : Format A) → IsFormat f → (value : A) → f.Fits value → whole_of f (f.spell value) ≡ Ok value
whole_again f is value fits =
    let again : f.read (f.spell value) ≡ Ok (value, []) = ap f.read (sym (append-nil (f.spell value))) ∙ is.again value [] fits in
    ap (in_frame (length (f.spell value))) again

-- ---- the places of faults

-- An offset from the kind to the end of a frame whose payload has so many bytes.
abbrev pub IsFaultOfPayload : ℕ → FrameFault → Type 0
IsFaultOfPayload len Memory = ⊥
IsFaultOfPayload len EmptyFrame = ⊥
IsFaultOfPayload len (FrameTooLong n) = ⊥
IsFaultOfPayload len (Malformed at) = (LENGTH_BYTES ≤ at) × (at ≤ LENGTH_BYTES + len)

value_place : (len : ℕ) (fault : ReadFault) → IsLeftOf len fault → IsFaultOfPayload len (frame_fault len fault)
value_place len reading.Memory h = h
value_place len reading.Short h = (omega arith, omega arith)
value_place len (reading.BadKind left) h = (omega (arith, h.1), omega arith)
value_place len (reading.BadBool left) h = (omega (arith, h.1), omega arith)
value_place len (reading.BadText left) h = (omega (arith, h.1), omega arith)
value_place len (reading.TooMany left) h = (omega (arith, h.1), omega arith)
value_place len (reading.LongText left) h = (omega (arith, h.1), omega arith)

rest_place : {A : Type 0} (len : ℕ) (value : A) (rest : List ℕ) (fault : FrameFault) → length rest ≤ len
    → with_no_rest len value rest ≡ Err fault → IsFaultOfPayload len fault
rest_place len value [] fault le e = absurd cc
rest_place len value (b ∷ rest) fault le e =
    let is : malformed_with len (suc (length rest)) ≡ fault = cc in
    subst (IsFaultOfPayload len) is (omega (arith, le), omega arith)

in_frame_place : {A : Type 0} (len : ℕ) (read : Read A) (fault : FrameFault) → IsBounded len read → in_frame len read ≡ Err fault → IsFaultOfPayload len fault
in_frame_place len (Ok x) fault bounded e = rest_place len x.0 x.1 fault bounded e
in_frame_place len (Err f) fault bounded e =
    let is : frame_fault len f ≡ fault = cc in
    subst (IsFaultOfPayload len) is (value_place len f bounded)

-- Each fault of a payload is an offset in its frame.
pub whole_place : {A : Type 0} (f : Format A) → IsFormat f → (payload : List ℕ) (fault : FrameFault)
    → whole_of f payload ≡ Err fault → IsFaultOfPayload (length payload) fault
whole_place f is payload fault e = in_frame_place (length payload) (f.read payload) fault (is.bounded payload) e

-- ---- judging a payload by what is left of it

left_is : (x y : List ℕ) → (let a : Result (List ℕ) ReadFault = Ok x in a) ≡ Ok y → x ≡ y
left_is x y e = cc

with_rest : {U A : Type 0} (len : ℕ) (unit : U) (value : A) (rest : List ℕ) → Judges (with_no_rest len unit rest) (with_no_rest len value rest)
with_rest len unit value [] = refl
with_rest len unit value (b ∷ rest) = ((λ e. absurd cc), refl)

-- A value was read: the payload spells it exactly if no bytes are left after it.
pub judged_ok : {U A : Type 0} (len : ℕ) (read : Read A) (unit : U) (rest : List ℕ) → left_by read ≡ Ok rest
    → Judges (with_no_rest len unit rest) (in_frame len read)
judged_ok len (Ok x) unit rest e = rw (← left_is x.1 rest e) (with_rest len unit x.0 x.1)
judged_ok len (Err f) unit rest e = absurd cc

told_fault : (len : ℕ) (fault : ReadFault) → (fault ≡ reading.Memory → ⊥) → frame_fault len fault ≡ Memory → ⊥
told_fault len reading.Memory other e = other refl
told_fault len reading.Short other e = absurd cc
told_fault len (reading.BadKind left) other e = absurd cc
told_fault len (reading.BadBool left) other e = absurd cc
told_fault len (reading.BadText left) other e = absurd cc
told_fault len (reading.TooMany left) other e = absurd cc
told_fault len (reading.LongText left) other e = absurd cc

-- A fault that is reported for what is left is the payload's.
pub judged_err : {A : Type 0} (len : ℕ) (read : Read A) (fault : ReadFault) → (fault ≡ reading.Memory → ⊥)
    → left_by read ≡ Err fault → (frame_fault len fault ≡ Memory → ⊥) × (in_frame len read ≡ Err (frame_fault len fault))
judged_err len (Ok x) fault other e = absurd cc
judged_err len (Err f) fault other e =
    let same : f ≡ fault = cc in
    (told_fault len fault other, rw same refl)
