use Rattle.std.proofs.Common.{ℕ, List, ◌++◌, ◌+◌, ◌≤◌, length}
use Rattle.linda_store_state.specs.State.{State}
use Rattle.linda_snap.specs.declared.entry.TheConstants.{MAX_KEPT_BYTES}
use Rattle.linda_snap.specs.Clients.{OwesClients}
use Rattle.linda_snap.proofs.ClientsLaws.{up_to}
use Rattle.linda_snap.proofs.clients.Clients.push_next.Given as goal

-- What was spelled so far comes after what is written, and the rest is owed.
abbrev pub invariant-loop : goal.invariant-loop
invariant-loop l =
    ((begun : State) (bytes : List ℕ) → OwesClients begun l.self (bytes ++ l.fn.out.items)
    → OwesClients begun (up_to l.last l.self) (bytes ++ l.out.items))
    × (length l.fn.out.items ≤ length l.out.items)
    × (length l.out.items ≤ l.most + MAX_KEPT_BYTES)
