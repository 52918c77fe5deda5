-- Results of messages under the lock: what the server answers, what is reported of it, and what
-- waits in the outboxes.
use Rattle.std.specs.Prelude.{◌≡◌, ◌≢◌, ℕ, ◌+◌, ◌<◌, ◌≤◌, ◌^◌, ◌⊎◌, true, List, [], ◌∷◌, ◌++◌}
use Rattle.std.specs.Prelude.{length, map, reverse}
use Rattle.std.specs.Prelude.{take, Option, None}
use Rattle.linda_wire.specs.declared.message.Message.{Message}
use Rattle.linda_wire.specs.declared.reply.Reply.{Reply}
use Rattle.linda_wire.specs.declared.refusal.Refusal.{Refusal}
use Rattle.linda_wire.specs.declared.refusal.Refusal.TheVariants as refusals
use Rattle.linda_wire.specs.Refusal.{refused}
use Rattle.linda_store_state.specs.State.{State}
use Rattle.linda_store_step.specs.Answer.{last_number}
use Rattle.linda_store_step.specs.Soft.{Soft, Bagged}
use Rattle.linda_store_step.specs.Dispatch.{on_close}
use Rattle.linda_store_step.specs.Reported.{number_of_message, comes_next}
use Rattle.linda_disk.specs.declared.disk.Disk.{Ghosts}
use Rattle.linda_server.specs.declared.durable.Durable.{Durable}
use Rattle.linda_server.specs.Handled.{HasNoRoomFor}
use Rattle.linda_server.specs.Server.{IsPutOn}
use Rattle.linda_shared_outbox.specs.Replies.{replies_to, with_more}
use Rattle.linda_shared_accounts.specs.declared.receipt.Receipt.{Receipt}
use Rattle.linda_shared_accounts.specs.declared.effect.Effect.{Effect}
use Rattle.linda_shared_accounts.specs.Telling.{receipts_in, HasTold}
use Rattle.linda_shared_accounts.specs.Effect.{told_of}

-- The messages were answered one after another in one step, this is reported of them, and what is
-- sent to a client comes after what waited in its outbox, if it has one.
pub record HasPosted (st : State) (soft : Soft) (ms : List (ℕ × Message))
    (told : List (Option Receipt))
    (old posted : ℕ → Option (List Reply)) (new : State) (behind : Soft) : Type 0 where
  pub sends : List (ℕ × Reply)
  pub has_told : HasTold st soft ms told sends new behind
  pub posted_is : (c : ℕ) → posted c ≡ with_more (replies_to c sends) (old c)

-- Why a message is refused: what it asks for has no record on the bank in use; or it would do a
-- deed, and the count of deeds is spent.
abbrev pub IsWhy : {D : Type 0} {g : Ghosts D} → Durable D g → ℕ → ℕ × Message → Refusal → Type 0
IsWhy s count m refusal =
    ((refusal ≡ refusals.Full) × HasNoRoomFor s (m ∷ []))
    ⊎ ((refusal ≡ refusals.Spent) × (2 ^ 64 ≤ count + 1)
    × (comes_next (number_of_message m.1) (last_number s.store.state m.0) ≡ true))

module _ {D : Type 0} {g : Ghosts D} where
  -- A message was refused: that is posted to its client, and nothing else changed.
  pub record IsTurnedAway (s : Durable D g) (count : ℕ) (m : ℕ × Message) (told : Option Receipt)
      (old posted : ℕ → Option (List Reply)) (new : Durable D g) : Type 0 where
    pub refusal : Refusal
    pub why : IsWhy s count m refusal
    pub none_told : told ≡ None
    pub posted_is : (c : ℕ)
        → posted c ≡ with_more (replies_to c ((m.0, refused refusal) ∷ [])) (old c)
    pub same : new ≡ s

  -- These were answered in one step: if they did deeds, four device calls in all were made on the
  -- bank in use; else no disk was touched.
  pub record GoTogether (s : Durable D g) (ms : List (ℕ × Message)) (told : List (Option Receipt))
      (old posted : ℕ → Option (List Reply)) (new : Durable D g) : Type 0 where
    pub posts : HasPosted s.store.state s.store.soft ms told old posted
        new.store.state new.store.soft
    pub idle : receipts_in told ≡ [] → new.disks ≡ s.disks
    pub clock : 0 < length (receipts_in told) → IsPutOn s.disks new.disks

  -- One message by itself: it was answered, or refused.
  abbrev pub GoesAlone : Durable D g → ℕ → ℕ × Message → (ℕ → Option (List Reply)) → Option Receipt
      → (ℕ → Option (List Reply)) → Durable D g → Type 0
  GoesAlone s count m old told posted new =
      GoTogether s (m ∷ []) (told ∷ []) old posted new ⊎ IsTurnedAway s count m told old posted new

  -- These messages went one by one, in order, each by itself.
  pub data WentAlone (s : Durable D g) (count : ℕ) (old : ℕ → Option (List Reply)) :
      List (ℕ × Message) → List (Option Receipt) → (ℕ → Option (List Reply)) → Durable D g
      → Type 0 where
    none : (posted : ℕ → Option (List Reply)) → ((c : ℕ) → posted c ≡ old c)
        → WentAlone s count old [] [] posted s
    more : (ms : List (ℕ × Message)) (told : List (Option Receipt)) (mid : Durable D g)
        (waits : ℕ → Option (List Reply)) (m : ℕ × Message) (one : Option Receipt)
        (posted : ℕ → Option (List Reply))
        (new : Durable D g)
        → WentAlone s count old ms told waits mid
        → GoesAlone mid (count + length (receipts_in told)) m waits one posted new
        → WentAlone s count old (ms ++ m ∷ []) (told ++ one ∷ []) posted new

  -- The messages were answered in one step; or they have no record together, or the count could
  -- pass its last value, and they went one by one.
  abbrev pub WereTaken : Durable D g → ℕ → List (ℕ × Message) → List (Option Receipt)
      → (ℕ → Option (List Reply))
      → (ℕ → Option (List Reply)) → Durable D g → Type 0
  WereTaken s count ms told old posted new =
      GoTogether s ms told old posted new
      ⊎ ((HasNoRoomFor s ms ⊎ (2 ^ 64 ≤ count + length ms))
      × WentAlone s count old ms told posted new)

  -- Some first messages went one by one before the server went down, and what they sent is posted.
  pub record WentSome (s : Durable D g) (count : ℕ) (ms : List (ℕ × Message))
      (old posted : ℕ → Option (List Reply))
      : Type 0 where
    pub many : ℕ
    pub told : List (Option Receipt)
    pub mid : Durable D g
    pub went : WentAlone s count old (take many ms) told posted mid

  -- The messages were answered in one step, or went one by one. The receipts of their deeds come
  -- after those of before, and what each message led to is reported, that of the last one first.
  pub record IsHandled (s : Durable D g) (count : ℕ) (ms : List (ℕ × Message))
      (old_receipts : List Receipt)
      (old_posted : ℕ → Option (List Reply)) (old_told : List (Effect Receipt))
      (receipts : List Receipt)
      (posted : ℕ → Option (List Reply)) (new_told : List (Effect Receipt))
      (new : Durable D g) : Type 0 where
    pub told : List (Option Receipt)
    pub taken : WereTaken s count ms told old_posted posted new
    pub receipts_are : receipts ≡ old_receipts ++ receipts_in told
    pub told_are : new_told ≡ old_told ++ reverse (map told_of told)

-- The client was closed, and what is sent to the others is posted.
pub record HasLeft (bag : Bagged) (client : ℕ) (soft : Soft) (old posted : ℕ → Option (List Reply))
    (behind : Soft)
    : Type 0 where
  pub sends : List (ℕ × Reply)
  pub closed : record { sends = sends; soft = behind } ≡ on_close bag client soft
  pub posted_is : (c : ℕ) → c ≢ client → posted c ≡ with_more (replies_to c sends) (old c)

-- The client was closed, and what is sent is posted.
pub record HasClosed (bag : Bagged) (client : ℕ) (soft : Soft)
    (old posted : ℕ → Option (List Reply)) (behind : Soft)
    : Type 0 where
  pub sends : List (ℕ × Reply)
  pub closed : record { sends = sends; soft = behind } ≡ on_close bag client soft
  pub posted_is : (c : ℕ) → posted c ≡ with_more (replies_to c sends) (old c)
