use Rattle.std.proofs.Common.{drop}
use Rattle.linda_snap.proofs.BookCopyLaws.{CopiesBut}
use Rattle.linda_snap.proofs.book_copy.BookCopy.renew.Given as goal

-- Only the clients of the deeds that are still to come may have other entries than in the book.
abbrev pub invariant-loop-deed : goal.invariant-loop-deed
invariant-loop-deed l = CopiesBut l.fn.self l.deeds l.book → CopiesBut l.copy (drop l.deed-index l.deeds) l.book
