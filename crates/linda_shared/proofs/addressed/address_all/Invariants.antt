use Rattle.std.proofs.Common.{◌≡◌, ◌≤◌, All, map, take, length, vec_len, vec_capacity}
use Rattle.std.specs.Arc.{arc_value}
use Rattle.linda_shared.specs.Addressed.{up_to}
use Rattle.linda_shared.proofs.addressed.address_all.Given as goal

abbrev pub invariant-loop-place : goal.invariant-loop-place
invariant-loop-place g l =
    (map (λ m. m.0) l.all.items ≡ take l.place l.messages)
    × (map (λ m. m.1.place) l.all.items ≡ up_to l.place)
    × All (λ m. m.1.client ≡ (arc_value l.mailbox).client) l.all.items
    × (vec_len l.all ≡ l.place)
    × (length l.messages ≤ vec_capacity l.all)
