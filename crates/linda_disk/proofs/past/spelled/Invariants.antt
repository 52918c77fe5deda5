-- The bytes so far are spelled.
use Rattle.std.proofs.Common.{◌≡◌, take}
use Rattle.linda_disk.specs.Past.{bytes_of}
use Rattle.linda_disk.proofs.past.spelled.Given as goal

abbrev pub invariant-loop-byte : goal.invariant-loop-byte
invariant-loop-byte l = bytes_of l.so_far.value ≡ take l.byte-index l.bytes
