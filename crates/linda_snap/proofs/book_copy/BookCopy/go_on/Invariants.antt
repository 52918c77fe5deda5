use Rattle.linda_snap.specs.BookCopy.{Copies}
use Rattle.linda_snap.proofs.book_copy.BookCopy.go_on.Given as goal

-- It is a copy still, if it was one.
abbrev pub invariant-loop : goal.invariant-loop
invariant-loop l = Copies l.fn.self l.book → Copies l.copy l.book
