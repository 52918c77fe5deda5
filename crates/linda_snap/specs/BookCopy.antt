-- A copy of a book that is made in pieces, while the book changes between them.
use Rattle.std.specs.Prelude.{◌≡◌, ◌+◌, ◌||◌, ℕ, nat_lt, Bool, length, Option, Some, None, IfSome}
use Rattle.std.specs.Prelude.{if◌then◌else◌}
use Rattle.std.specs.Ordering.{nat_cmp}
use Rattle.std.specs.FinMap.{FinMap, get}
use Rattle.linda_book.specs.Entries.{Entry}
use Rattle.linda_store_state.specs.DeedFormat.{written}
use Rattle.linda_snap.specs.declared.book_copy.BookCopy.{BookCopy}
use Rattle.linda_snap.specs.declared.entry.TheConstants.{CLIENT_BYTES}
use Rattle.linda_snap.specs.Rising.{first_after}
use Rattle.linda_snap.specs.Snapshot.{reply}

-- entries by client
abbrev pub Clients : Type 0
Clients = FinMap nat_cmp Entry

-- whether the copy has come to this client: it is one of those up to the last one, or the copy is
-- whole
abbrev pub reaches : BookCopy → ℕ → Bool
reaches copy c = copy.is_whole || nat_lt c (first_after copy.last)

-- Each client that it has come to has in the copy what it has in the book, and no other client is
-- there.
abbrev pub Copies : BookCopy → Clients → Type 0
Copies copy book = (c : ℕ) → get copy.book c ≡ (if reaches copy c then get book c else None)

-- If there is a copy, it is one of this book.
abbrev pub IsCopyFor : Option BookCopy → Clients → Type 0
IsCopyFor copy book = IfSome copy (λ c. Copies c book)

-- how many bytes the entry of a client spells in a snapshot, with the client
abbrev pub entry_bytes : Entry → ℕ
entry_bytes entry = CLIENT_BYTES + length ((reply written).spell entry.1)

-- the same of the entry that is there, if one is
abbrev pub bytes_at : Option Entry → ℕ
bytes_at None = 0
bytes_at (Some entry) = entry_bytes entry
