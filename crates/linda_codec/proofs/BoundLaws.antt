-- What a reader leaves, and what a fault counts, are bytes that are there.
use Rattle.std.proofs.Common.{◌≡◌, ◌≢◌, ℕ, zero, suc, ◌-◌, ◌≤◌, Bool, true, false, cond, List, ◌∷◌, length, drop, Ok}
use Rattle.std.proofs.Common.{Err, sym, ap, subst, ◌∙◌, arith, length-drop}
use Rattle.linda_codec.specs.declared.fault.ReadFault.{ReadFault}
use Rattle.linda_codec.specs.declared.fault.ReadFault.TheVariants.{Memory, Short, BadKind, BadBool, BadText, TooMany, LongText}
use Rattle.linda_codec.specs.Steps.{Read, Reader, ◌>>=◌, many_at}
use Rattle.linda_codec.specs.Lawful.{IsLeftOf, IsBounded}
use Rattle.linda_codec.specs.Places.{placed, IsPlace}

more_left : (m n : ℕ) (fault : ReadFault) → m ≤ n → IsLeftOf m fault → IsLeftOf n fault
more_left m n Memory le h = h
more_left m n Short le h = h
more_left m n (BadKind left) le h = (h.0, omega (arith, h.1))
more_left m n (BadBool left) le h = (h.0, omega (arith, h.1))
more_left m n (BadText left) le h = (h.0, omega (arith, h.1))
more_left m n (TooMany left) le h = (h.0, omega (arith, h.1))
more_left m n (LongText left) le h = (h.0, omega (arith, h.1))

pub more_bounded : {A : Type 0} (m n : ℕ) (read : Read A) → m ≤ n → IsBounded m read → IsBounded n read
more_bounded m n (Ok x) le h = omega (arith, h)
more_bounded m n (Err fault) le h = more_left m n fault le h

-- A step, and the next one.
pub bounded_then : {A B : Type 0} (n : ℕ) (step : Read A) (next : A × List ℕ → Read B) → IsBounded n step
    → ((x : A × List ℕ) → IsBounded (length x.1) (next x)) → IsBounded n (step >>= next)
bounded_then n (Ok x) next one others = more_bounded (length x.1) n (next x) one (others x)
bounded_then n (Err fault) next one others = one

pub guarded : {A : Type 0} (n : ℕ) (b : Bool) (fault : ReadFault) (read : Read A) → IsLeftOf n fault → IsBounded n read → IsBounded n (cond b (Err fault) read)
guarded n true fault read f r = f
guarded n false fault read f r = r

pub many_bounded : {A : Type 0} (read : Reader A) → ((bytes : List ℕ) → IsBounded (length bytes) (read bytes))
    → (n : ℕ) (bytes : List ℕ) → IsBounded (length bytes) (many_at read n bytes)
unfolding many_at
many_bounded read one zero bytes = omega arith
many_bounded read one (suc n) bytes =
    bounded_then (length bytes) (read bytes) (λ first. many_at read n first.1 >>= λ others. Ok (first.0 ∷ others.0, others.1)) (one bytes)
    (λ first. bounded_then (length first.1) (many_at read n first.1) (λ others. Ok (first.0 ∷ others.0, others.1))
    (many_bounded read one n first.1) (λ others. omega arith))

-- A fault that counts some of the bytes from an offset on is reported at one of those.
place_of : (from to : ℕ) (fault : ReadFault) → IsLeftOf (to - from) fault → IsPlace from to (placed to fault)
place_of from to Memory h = tt
place_of from to Short h = tt
place_of from to (BadKind left) h = (omega (arith, h.0, h.1), omega (arith, h.0, h.1))
place_of from to (BadBool left) h = (omega (arith, h.0, h.1), omega (arith, h.0, h.1))
place_of from to (BadText left) h = (omega (arith, h.0, h.1), omega (arith, h.0, h.1))
place_of from to (TooMany left) h = (omega (arith, h.0, h.1), omega (arith, h.0, h.1))
place_of from to (LongText left) h = (omega (arith, h.0, h.1), omega (arith, h.0, h.1))

fault_left : {A : Type 0} (read : Reader A) → ((bytes : List ℕ) → IsBounded (length bytes) (read bytes))
    → (bytes : List ℕ) (fault : ReadFault) → read bytes ≡ Err fault → IsLeftOf (length bytes) fault
fault_left {A = A} read bounded bytes fault e = subst (λ (r : Read A). IsBounded (length bytes) r) e (bounded bytes)

told_place : (from to : ℕ) (fault : ReadFault) → (fault ≢ Memory → IsLeftOf (to - from) fault) → IsPlace from to (placed to fault)
told_place from to Memory h = tt
told_place from to Short h = tt
told_place from to (BadKind left) h = place_of from to (BadKind left) (h (λ e. cc))
told_place from to (BadBool left) h = place_of from to (BadBool left) (h (λ e. cc))
told_place from to (BadText left) h = place_of from to (BadText left) (h (λ e. cc))
told_place from to (TooMany left) h = place_of from to (TooMany left) (h (λ e. cc))
told_place from to (LongText left) h = place_of from to (LongText left) (h (λ e. cc))

-- The fault of a reader from an offset on is reported within the bytes.
pub is_place : {A : Type 0} (read : Reader A) → ((bytes : List ℕ) → IsBounded (length bytes) (read bytes))
    → (bytes tail : List ℕ) (at : ℕ) (fault told : ReadFault) → tail ≡ drop at bytes
    → (fault ≢ Memory → read tail ≡ Err fault) → told ≡ placed (length bytes) fault → IsPlace at (length bytes) told
is_place read bounded bytes tail at fault told is_tail fails is_told =
    let count : length tail ≡ length bytes - at = ap length is_tail ∙ length-drop at bytes in
    let left : fault ≢ Memory → IsLeftOf (length bytes - at) fault =
    λ no. subst (λ (n : ℕ). IsLeftOf n fault) count (fault_left read bounded tail fault (fails no)) in
    subst (λ (f : ReadFault). IsPlace at (length bytes) f) (sym is_told) (told_place at (length bytes) fault left)
