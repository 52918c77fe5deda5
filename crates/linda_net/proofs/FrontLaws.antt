-- Messages in front of which none is a Hello.
use Rattle.std.proofs.Common.{◌≡◌, ◌+◌, ◌-◌, ◌≤◌, ℕ, suc, List, [], ◌∷◌, All, length, take, drop, slice_index_or, subst, arith}
use Rattle.std.proofs.lemmas.List.{take_rest}
use Rattle.std.proofs.lemmas.List.Elements.{All-cons}
use Rattle.linda_wire.specs.declared.message.Message.{Message}
use Rattle.linda_shared_queue.specs.Seat.{IsRequest}

-- If the first one is none, there is one more than in front of the others.
pub front_more : (ms : List Message) (first : Message) (count : ℕ) → 1 ≤ length ms → first ≡ slice_index_or ms 0 first → IsRequest first
    → All IsRequest (take count (take (length ms - 1) (drop 1 ms))) → All IsRequest (take (1 + count) ms)
front_more [] first count some is own rest = absurd (omega (arith, some))
front_more (m ∷ ms) first count some is own rest =
    let more : 1 + count ≡ suc count = omega arith in
    rw more (All-cons IsRequest m (take count ms) (subst IsRequest is own)
    (subst (λ (later : List Message). All IsRequest (take count later)) (take_rest (m ∷ ms) 1) rest))
