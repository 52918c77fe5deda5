use Rattle.linda_snap.proofs.BookCopyLaws.{whole_bytes}
use Rattle.linda_snap.proofs.book_copy.BookCopy.bytes.Goals as goal

pub returns-then-self : goal.returns-then-self
returns-then-self c book copies = whole_bytes c.args.self.now book copies c.if-self.true
