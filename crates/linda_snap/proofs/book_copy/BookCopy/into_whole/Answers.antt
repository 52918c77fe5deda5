use Rattle.linda_snap.proofs.BookCopyLaws.{whole_is}
use Rattle.linda_snap.proofs.book_copy.BookCopy.into_whole.Goals as goal

pub returns-then-is_whole : goal.returns-then-is_whole
returns-then-is_whole c book copies = whole_is c.args.self book copies c.if-is_whole.true
