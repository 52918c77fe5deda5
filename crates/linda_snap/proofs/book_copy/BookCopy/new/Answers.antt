use Rattle.std.proofs.Common.{sym, ap, ◌∙◌}
use Rattle.linda_snap.specs.Snapshot.{clients_bytes}
use Rattle.linda_snap.proofs.BookCopyLaws.{no_bytes, none_yet}
use Rattle.linda_snap.proofs.book_copy.BookCopy.new.Goals as goal

pub invariant_of-result : goal.invariant_of-result
invariant_of-result c = record { counted = sym (ap clients_bytes c.new.ensures ∙ no_bytes) }

pub returns : goal.returns
returns c = record { copies = λ book. none_yet c.new.result book c.new.ensures }
