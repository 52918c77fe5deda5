-- Greetings: whether a client gets a seat, or why not.
use Rattle.std.specs.Prelude.{◌≡◌, ◌≢◌, ◌⊎◌, ℕ, ◌+◌, ◌*◌, ◌<◌, Bool, true, false, Result, Ok, Err}
use Rattle.std.specs.FinMap as map
use Rattle.linda_wire.specs.declared.limits.TheConstants.{VERSION}
use Rattle.linda_wire.specs.declared.message.Message.{Message}
use Rattle.linda_wire.specs.declared.message.Message.TheVariants as messages
use Rattle.linda_wire.specs.declared.refusal.Refusal.{Refusal}
use Rattle.linda_wire.specs.declared.refusal.Refusal.TheVariants as refusals
use Rattle.linda_wire.specs.declared.reply.Reply.{Reply}
use Rattle.linda_wire.specs.declared.reply.Reply.TheVariants as replies
use Rattle.linda_wire.specs.Refusal.{code_of, detail_of}
use Rattle.linda_store_state.specs.State.{State}
use Rattle.linda_store_step.specs.Answer.{greeting}
use Rattle.linda_shared_accounts.specs.declared.limits.TheConstants.{ACCOUNT_PARTS, PARTS}
use Rattle.linda_shared_accounts.specs.Account.{Account}
use Rattle.linda_shared_accounts.specs.Accounts.{Places, is_away, account_at, seats_out}
use Rattle.linda_shared_held.specs.declared.admission.Admission.{Admission}
use Rattle.linda_shared_held.specs.declared.admission.Admission.TheVariants as admissions

-- The account and the kept number, or the code and detail.
abbrev pub admission_of : {L : Type 0} → Admission L → Result (Account × ℕ) (ℕ × ℕ)
admission_of (admissions.Welcome account last) = Ok (account, last)
admission_of (admissions.Refused code detail) = Err (code, detail)

-- Its code and detail.
abbrev pub told_why : Refusal → ℕ × ℕ
told_why refusal = (code_of refusal, detail_of refusal)

-- The reply welcomes.
abbrev pub IsWelcome : Reply → Type 0
IsWelcome (replies.Welcome last) = Unit {0}
IsWelcome (replies.Refused code detail) = ⊥
IsWelcome (replies.Stored n id) = ⊥
IsWelcome (replies.Taken n id tuple) = ⊥
IsWelcome (replies.Gone n) = ⊥
IsWelcome (replies.Left n) = ⊥
IsWelcome (replies.Offer ticket id tuple) = ⊥
IsWelcome (replies.Read ticket id tuple) = ⊥

-- A client whose seat is not out is greeted as the server says: it gets what was parked for it, or
-- a new account, and the number of its last request that is kept; or it is refused, and also if the
-- server welcomes it and no parts are left for an account.
abbrev pub IsAdmitted : State → Places → ℕ → Bool → Result (Account × ℕ) (ℕ × ℕ) → Type 0
IsAdmitted st ps client fresh (Ok got) =
    (greeting st client VERSION fresh ≡ replies.Welcome got.1)
    × (got.0 ≡ account_at client (map.get ps client))
IsAdmitted st ps client fresh (Err why) =
    (greeting st client VERSION fresh ≡ replies.Refused why.0 why.1)
    ⊎ ((why ≡ told_why refusals.TooManyClients) × (PARTS < ACCOUNT_PARTS * (seats_out ps + 1))
    × IsWelcome (greeting st client VERSION fresh))

-- A Hello is refused for its version, then if its client can have no seat now, then as the server
-- says. Any other message is refused.
abbrev pub IsGreeted : State → Places → Message → Result (Account × ℕ) (ℕ × ℕ) → Type 0
IsGreeted st ps (messages.Hello version client fresh) answer =
    ((version ≢ VERSION) × (answer ≡ Err (told_why refusals.Version)))
    ⊎ (((version ≡ VERSION) × (is_away (map.get ps client) ≡ true)
    × (answer ≡ Err (told_why refusals.Busy)))
    ⊎ ((version ≡ VERSION) × (is_away (map.get ps client) ≡ false)
    × IsAdmitted st ps client fresh answer))
IsGreeted st ps _ answer = answer ≡ Err (told_why refusals.NoHello)

-- This holds if a greeting gave no seat.
abbrev pub OnNoSeat : {L E : Type 0} → Result (Admission L) E → Type 0 → Type 0
OnNoSeat (Ok (admissions.Welcome account last)) P = Unit {0}
OnNoSeat (Ok (admissions.Refused code detail)) P = P
OnNoSeat (Err fault) P = P

-- It welcomes or refuses.
abbrev pub IsGreetingReply : Reply → Type 0
IsGreetingReply (replies.Welcome last) = Unit {0}
IsGreetingReply (replies.Refused code detail) = Unit {0}
IsGreetingReply (replies.Stored n id) = ⊥
IsGreetingReply (replies.Taken n id tuple) = ⊥
IsGreetingReply (replies.Gone n) = ⊥
IsGreetingReply (replies.Left n) = ⊥
IsGreetingReply (replies.Offer ticket id tuple) = ⊥
IsGreetingReply (replies.Read ticket id tuple) = ⊥
