use Rattle.std.proofs.Common.{◌≡◌, ◌+◌, nat_cmp}
use Rattle.std.specs.FinMap.{from_entries}
use Rattle.linda_bag.specs.Bytes.{bytes_of}
use Rattle.linda_bag.proofs.BytesLaws.{bytes_in}
use Rattle.linda_bag.proofs.list_bag.ListBagBag.room_after.Given as goal

-- What is left, with all tuples, is the room with those that are still to come.
abbrev pub invariant-loop-tuple : goal.invariant-loop-tuple
invariant-loop-tuple l =
    l.left + bytes_of (from_entries {R = nat_cmp} l.self.tuples.entries)
    ≡ l.fn.room + bytes_in l.tuple-iterator
