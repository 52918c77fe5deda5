-- Replies that report a deed: Stored, Taken, Gone and Left; where they are kept, and which deed
-- they report.
use Rattle.std.specs.Prelude.{◌≡◌, ℕ, Bool, true, List, ◌∷◌, ◌++◌, All, Option, Some, None, is_some}
use Rattle.std.specs.FinMap as map
use Rattle.linda_wire.specs.declared.reply.Reply.{Reply}
use Rattle.linda_wire.specs.declared.reply.Reply.TheVariants as replies
use Rattle.linda_book.specs.declared.kept_reply.KeptReply.TheVariants as kept
use Rattle.linda_book.specs.Entries.{Entry}
use Rattle.linda_store_state.specs.declared.deed.Deed.{Deed}
use Rattle.linda_store_state.specs.Deed.{client_of, number_of}
use Rattle.linda_store_state.specs.State.{State, empty_state}
use Rattle.linda_store_state.specs.After.{reply_of_deed}
use Rattle.linda_store_step.specs.Answer.{reply_of_kept}

-- the number and the kept reply that a reply sends, if it reports a deed
abbrev pub kept_in : Reply → Option Entry
kept_in (replies.Stored n id) = Some (n, kept.Stored id)
kept_in (replies.Taken n id tuple) = Some (n, kept.Taken id tuple)
kept_in (replies.Gone n) = Some (n, kept.Gone)
kept_in (replies.Left n) = Some (n, kept.Left)
kept_in _ = None

-- whether the reply reports a deed
abbrev pub reports_deed : Reply → Bool
reports_deed r = is_some (kept_in r)

-- The book of this state has the reply for its client.
pub record KeepsReply (st : State) (c : ℕ) (r : Reply) : Type 0 where
  pub entry : Entry
  pub kept : map.get st.book c ≡ Some entry
  pub reply : r ≡ reply_of_kept entry.0 entry.1

-- The book of this state has each of these replies that reports a deed.
abbrev pub KeepsReports : State → List (ℕ × Reply) → Type 0
KeepsReports st sends =
    All (λ (send : ℕ × Reply). reports_deed send.1 ≡ true → KeepsReply st send.0 send.1) sends

-- The reply reports one of these deeds, which is the client's, as the book had it when it was done.
pub record ReportsOne (ds : List Deed) (c : ℕ) (r : Reply) : Type 0 where
  pub before : List Deed
  pub deed : Deed
  pub later : List Deed
  pub parts : ds ≡ before ++ deed ∷ later
  pub client : client_of deed ≡ c
  pub reply : r ≡ reply_of_kept (number_of deed) (reply_of_deed empty_state before deed)
