-- Whether there is a copy of a book is a fact of which there is one proof at most.
use Rattle.std.proofs.Common.{Option, None, Some}
use Rattle.std.proofs.Props.{props}
use Rattle.std.proofs.Math.Logic.{∥∥₁_elim}
use Rattle.std.specs.Coded.{Coded-set, coded_option, coded×, coded_ℕ, Π_prop}
use Rattle.linda_book.specs.Codes.{kept_code}
use Rattle.linda_snap.specs.declared.book_copy.BookCopy.{BookCopy}
use Rattle.linda_snap.specs.BookCopy.{Clients, IsCopyFor}

one_way : (copy : Option BookCopy) (book : Clients) → IsProp (IsCopyFor copy book)
one_way None book = hlevel props
one_way (Some copy) book = Π_prop (λ c. Coded-set (coded_option (coded× coded_ℕ kept_code)) _ _)

pub copied_so : (copy : Option BookCopy) (book : Clients) → ∥ IsCopyFor copy book ∥₁ → IsCopyFor copy book
copied_so copy book some = ∥∥₁_elim some (one_way copy book) (λ is. is)
