-- Groups of messages that are served together, and what came of them, as contracts see both.
use Rattle.std.specs.Prelude.{◌≡◌, ◌⊎◌, ℕ, Bool, false, List, [], ◌∷◌, map, length, replicate}
use Rattle.std.specs.Prelude.{Option}
use Rattle.linda_wire.specs.declared.message.Message.{Message}
use Rattle.linda_wire.specs.declared.reply.Reply.{Reply}
use Rattle.linda_store_step.specs.Reported.{IsDeedOf}
use Rattle.linda_disk.specs.declared.disk.Disk.{Ghosts}
use Rattle.linda_server.specs.declared.durable.Durable.{Durable}
use Rattle.linda_shared_accounts.specs.declared.effect.Effect.{Effect}
use Rattle.linda_shared_accounts.specs.declared.effect.Effect.TheVariants as effects
use Rattle.linda_shared_accounts.specs.declared.fault.SharedFault.{SharedFault}
use Rattle.linda_shared_accounts.specs.declared.fault.SharedFault.TheVariants as faults
use Rattle.linda_shared_accounts.specs.declared.pending_ack.Ack.{Ack}
use Rattle.linda_shared_accounts.specs.declared.receipt.Receipt.{Receipt}
use Rattle.linda_shared_accounts.specs.Effect.{told_of}
use Rattle.linda_shared_held.specs.Posted.{WereTaken}

-- How many messages there is room for; those that were asked, each with its client, and the
-- addresses of their answers, in order.
pub record MessageGroup (A : Type 0) : Type 0 where
  pub room : ℕ
  pub messages : List (ℕ × Message)
  pub addresses : List A

abbrev pub group_of : {A : Type 0} → ℕ → List (ℕ × Message) → List A → MessageGroup A
group_of room messages addresses =
    record { room = room; messages = messages; addresses = addresses }

-- How many messages there is room for, and those that were served, each with its client and its
-- answer, in order.
pub record ServedGroup (A L : Type 0) : Type 0 where
  pub room : ℕ
  pub answers : List ((ℕ × Message) × Ack A L)

abbrev pub served_of : {A L : Type 0} → ℕ → List ((ℕ × Message) × Ack A L) → ServedGroup A L
served_of room answers = record { room = room; answers = answers }

-- each of these with the one of those at its position
abbrev pub pairs : {X Y : Type 0} → List X → List Y → List (X × Y)
pairs [] ys = []
pairs (x ∷ xs) [] = []
pairs (x ∷ xs) (y ∷ ys) = (x, y) ∷ pairs xs ys

-- what is reported of each
abbrev pub told_in : {A L : Type 0} → ServedGroup A L → List (Effect Receipt)
told_in served = map (λ a. a.1.told) served.answers

-- A deed that is reported of a client's message is one that it asks for.
abbrev pub IsEffectOf : ℕ × Message → Effect Receipt → Type 0
IsEffectOf m (effects.Deed r) = IsDeedOf m.0 m.1 r.deed
IsEffectOf m effects.NoDeed = Unit {0}
IsEffectOf m (effects.Failed fault) = Unit {0}

-- Why none of a group was served: memory ran out, or the server is down, and so is not up.
abbrev pub IsWhyNone : Bool → SharedFault → Type 0
IsWhyNone up fault = (fault ≡ faults.Memory) ⊎ ((fault ≡ faults.Down) × (up ≡ false))

module _ (D : Type 0) (g : Ghosts D) where
  -- A server in some state took these messages, one after another, and this is reported of them.
  pub record WereServed (ms : List (ℕ × Message)) (told : List (Effect Receipt)) : Type 0 where
    pub before : Durable D g
    pub count : ℕ
    pub waited : ℕ → Option (List Reply)
    pub waits : ℕ → Option (List Reply)
    pub after : Durable D g
    pub receipts : List (Option Receipt)
    pub taken : WereTaken before count ms receipts waited waits after
    pub told_is : told ≡ map told_of receipts

  -- By a server that is up afterwards, or not: they were served; or none was, and why is reported
  -- of each.
  abbrev pub AreTold : Bool → List (ℕ × Message) → List (Effect Receipt) → Type 0
  AreTold up ms told =
      WereServed ms told
      ⊎ ((fault : SharedFault) × (IsWhyNone up fault
      × (told ≡ replicate (length ms) (effects.Failed fault))))
