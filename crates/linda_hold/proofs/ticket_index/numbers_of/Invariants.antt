use Rattle.std.proofs.Common.{◌≡◌, ℕ, ◌||◌, nat_cmp}
use Rattle.std.specs.BTreeMap as tree
use Rattle.std.specs.BTreeSet.{contains}
use Rattle.std.specs.List.{list_any}
use Rattle.linda_hold.proofs.ticket_index.numbers_of.Given as goal

-- The numbers so far and those that are left are all.
abbrev pub invariant-loop-number : goal.invariant-loop-number
invariant-loop-number l =
    (q : ℕ) → (contains nat_cmp l.numbers q || list_any (tree.is_at (nat_cmp q)) l.number-iterator) ≡ list_any (tree.is_at (nat_cmp q)) (tree.values l.tickets)
