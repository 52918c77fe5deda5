use Rattle.std.proofs.Common.{◌≡◌, ◌+◌, ◌*◌, ◌<◌, ◌⊎◌, ◌↔◌, length}
use Rattle.linda_journal.proofs.RenewalLaws.{IsWrittenTo}
use Rattle.linda_journal.proofs.whole.write_pieces.Given as goal

-- The front of the bytes was written in whole pieces, and no call failed.
abbrev pub invariant-loop-rest : goal.invariant-loop-rest
invariant-loop-rest g l =
    (g.D.Disk.honest l.fn.disk → IsWrittenTo l.bytes (g.D.Disk.view l.fn.disk) (g.D.Disk.view l.disk) l.at l.rest)
    × (l.at + length l.rest ≡ 1 + length l.bytes)
    × (g.D.Disk.honest l.fn.disk ↔ g.D.Disk.honest l.disk)
    × (g.D.Disk.failures l.disk ≡ g.D.Disk.failures l.fn.disk)
    × (g.D.Disk.honest l.fn.disk → (g.D.Disk.view l.disk).moment * 65536 + 1 ≡ (g.D.Disk.view l.fn.disk).moment * 65536 + l.at)
    × ((l.at ≡ 1) ⊎ (0 < length l.rest))

abbrev pub decreases-loop-rest : goal.decreases-loop-rest
decreases-loop-rest g l = length l.rest
