-- Clients that are away, and took a tuple by their last message.
use Rattle.std.specs.Prelude.{◌≡◌, ◌≤◌, ◌<◌, ◌++◌, ◌&&◌, not, ℕ, Bool, true, false, List, [], ◌∷◌}
use Rattle.std.specs.Prelude.{Option, None, Some, IfSome, length, filter}
use Rattle.std.specs.Option.{is_some}
use Rattle.std.specs.Ordering.{nat_cmp}
use Rattle.std.specs.FinMap as fin
use Rattle.linda_wire.specs.declared.reply.Reply.{Reply}
use Rattle.linda_book.specs.Entries.{Entry}
use Rattle.linda_book.specs.declared.kept_reply.KeptReply.{KeptReply}
use Rattle.linda_book.specs.declared.kept_reply.KeptReply.TheVariants as kept
use Rattle.linda_snap.specs.Rising.{entries_from}
use Rattle.linda_shared_listing.specs.declared.limits.TheConstants.{MOST_LOOKED}
use Rattle.linda_shared_listing.specs.declared.taken.TakenCount.{TakenCount}

-- whether the reply is a Taken
abbrev pub is_taken : KeptReply → Bool
is_taken (kept.Stored id) = false
is_taken (kept.Taken id tuple) = true
is_taken kept.Gone = false
is_taken kept.Left = false

-- Whether the client of an entry has no outbox, and its reply is a Taken.
abbrev pub is_taken_by_absent : (ℕ → Option (List Reply)) → ℕ × Entry → Bool
is_taken_by_absent boxes e = is_taken e.1.1 && not (is_some (boxes e.0))

-- The first one, if there is one.
abbrev pub first_client : List (ℕ × Entry) → Option ℕ
first_client [] = None
first_client (e ∷ es) = Some e.0

-- Some first entries from that client on were looked at, 1,000 at most. It says how many of them
-- are of clients that are away and took a tuple by their last message, and which entry is the first
-- after them; there is none only if all were looked at.
pub record IsTakenCount (book : fin.FinMap nat_cmp Entry) (boxes : ℕ → Option (List Reply))
    (from : ℕ) (count : TakenCount) : Type 0 where
  pub looked : List (ℕ × Entry)
  pub later : List (ℕ × Entry)
  pub parts : looked ++ later ≡ entries_from from book
  pub few : length looked ≤ MOST_LOOKED
  pub clients : count.clients ≡ length (filter (is_taken_by_absent boxes) looked)
  pub next : count.next ≡ first_client later
  pub onward : IfSome count.next (λ client. from < client)
