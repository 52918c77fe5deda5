-- The life of a server on two disks: its calls, crashes of both disks at any moments, and openings.
use Rattle.std.specs.Prelude.{◌≡◌, ℕ, true, false, if◌then◌else◌}
use Rattle.std.specs.Prelude.{List, [], ◌++◌, Result, Ok, Err, IfOk, OnErr}
use Rattle.linda_wire.specs.declared.message.Message.{Message}
use Rattle.linda_wire.specs.declared.reply.Reply.{Reply}
use Rattle.linda_store_state.specs.declared.deed.Deed.{Deed}
use Rattle.linda_store_state.specs.State.{State, empty_state}
use Rattle.linda_store_step.specs.Soft.{Soft, no_asks}
use Rattle.linda_store_step.specs.Dispatch.{Sends, on_close}
use Rattle.linda_store_step.specs.History.{Coming, History, Happens}
use Rattle.linda_store.specs.Node.{MayRemain}
use Rattle.linda_disk.specs.declared.disk.Disk.{Ghosts}
use Rattle.linda_snap.specs.Stands.{Stands}
use Rattle.linda_server.specs.declared.durable.Durable.{Durable}
use Rattle.linda_server.specs.declared.fault.OpenFault.{OpenFault}
use Rattle.linda_store_step.specs.declared.served.Served.{Served}
use Rattle.linda_server.specs.Pairs.{Both, two, PairsSince, LeavesNoOther}
use Rattle.linda_server.specs.Server.{both_of, BothHonest, AlwaysLeave}
use Rattle.linda_server.specs.Calls.{IsBeforeOrAfter, IsNothingOr, StandsFor, HasHandled}
use Rattle.linda_store_step.specs.Served.{IsServed}
use Rattle.linda_server.specs.Node.{shown}
use Rattle.linda_server.specs.Reopening.{has_done}

-- Of the deeds in hand those that an opening finds done: all if the last of them is in the book,
-- and else none.
abbrev pub found_of : State → List Deed → List Deed
found_of st hand = if has_done st hand then hand else []

-- this is sent, and the holds and waits are these
abbrev pub sent : List (ℕ × Reply) → Soft → Sends
sent sends soft = record { sends = sends; soft = soft }

module _ {D : Type 0} (g : Ghosts D) where
  -- Two honest disks after a crash at some moment from the old to the new: all that may be left of
  -- each of them, that crash may have left.
  pub record AreLeft (old new : Both) (left right : D) : Type 0 where
    pub honest_left : g.honest left
    pub honest_right : g.honest right
    pub left_was : (image : List ℕ) → (g.view left).may_leave image
        → new.left.left_since old.left.moment image
    pub right_was : (image : List ℕ) → (g.view right).may_leave image
        → new.right.left_since old.right.moment image

  -- what `create` and `open` hand back: a server, or a fault and the two disks
  abbrev pub Made : Type 0
  Made = Result (Durable D g) (OpenFault × D × D)

  -- There is a server, up or down; or there is none, and these were the deeds in hand and these are
  -- the disks.
  pub data Phase : Type 0 where
    Serving : Durable D g → Phase
    Stopped : List Deed → D → D → Phase

module _ {D : Type 0} {g : Ghosts D} where
  -- A call that ended well: the deeds that it did, and what it sent.
  pub data Call (old new : Durable D g) : List Deed → List (ℕ × Reply) → Type 0 where
    -- of `handle` and `handle_all` (`done`)
    handles : (xs : List Coming) (sends : List (ℕ × Reply))
        (handled : HasHandled old.store xs sends new.store)
        → Call old new handled.deeds sends
    -- of `serve` and `serve_all` (`done`)
    serves : (ms : List (ℕ × Message)) (told : Served)
        → IsServed old.store.state old.store.soft ms told new.store.state new.store.soft
        → Call old new told.deeds.items told.sends.items
    -- of `close` (`done`, `same`)
    closes : (client : ℕ) (sends : List (ℕ × Reply))
        → sent sends new.store.soft ≡ on_close old.store.state.bag client old.store.soft
        → new.store.state ≡ old.store.state → Call old new [] sends
    -- of `snapshot`, `renew`, `trim`, `clear`, `begin_snapshot`, `continue_snapshot`,
    -- `preallocate` and `reserve` (`same`), and of `set_limit` (`store`)
    rewrites : new.store ≡ old.store → Call old new [] []

  -- A call in which a server went down.
  pub data Fall (old new : Durable D g) : Type 0 where
    -- of `handle`, `handle_all`, `serve`, `serve_all` and `close` (`before`, `lost`)
    at_work : (xs : List Coming) → new.before.value ≡ old.store.state
        → MayRemain (shown old.before.value old.store old.down old.lost.items) xs new.lost.items
        → Fall old new
    -- of `snapshot`, `renew`, `trim`, `clear`, `begin_snapshot`, `continue_snapshot`,
    -- `preallocate` and `reserve` (`lost`), and of `give_up` (`up`)
    at_rest : new.before.value ≡ old.store.state → new.lost.items ≡ [] → Fall old new

  -- A call that was cut off at some moment, with the deeds that were in hand.
  pub data Cut (old new : Durable D g) : List Deed → Type 0 where
    -- of `handle`, `handle_all`, `serve` and `serve_all` (`any_moment`), with what the call comes
    -- to
    amid_work : (xs : List Coming) (whole : History)
        → Happens old.store.state old.store.soft xs whole
        → AlwaysLeave old.disks new.disks (IsBeforeOrAfter old.store xs) → Cut old new whole.deeds
    -- of `close`, `snapshot`, `renew`, `trim`, `clear`, `begin_snapshot`, `continue_snapshot`,
    -- `preallocate` and `reserve` (`any_moment`)
    amid_rest : AlwaysLeave old.disks new.disks (StandsFor old.store.state) → Cut old new []

  -- the two disks then
  abbrev pub disks_then : Made g → Both
  disks_then (Ok s) = both_of s.disks
  disks_then (Err e) = two (g.view e.1) (g.view e.2)

  -- A server that was never used (`create`: `new`).
  pub record IsNew (s : Durable D g) : Type 0 where
    pub store : s.store ≡ record { state = empty_state; soft = no_asks; is_spent = false }
    pub is_up : s.down ≡ false

  -- A server that was opened on these disks (`open`: `found`, `new`).
  pub record IsOpenedOn (left right : D) (s : Durable D g) : Type 0 where
    pub found : Stands (g.view left).seen (g.view right).seen s.store.state
    pub soft_is : s.store.soft ≡ no_asks
    pub is_up : s.down ≡ false

  -- All lives: the deeds so far, all that was sent, and the phase. A call that finds no room and
  -- one of a server that is down leave the server as it was, and are no step of it.
  pub data Life : List Deed → List (ℕ × Reply) → Phase g → Type 0 where
    made : (s : Durable D g) → IsNew s → Life [] [] (Serving s)
    -- a making that was cut off, or failed (`create`: `any_moment`), and an opening that found a
    -- server all the same
    half_made : (first second left right : D) (made : Made g) (s : Durable D g) → g.honest first
        → g.honest second
        → PairsSince (two (g.view first) (g.view second)) (disks_then made)
        (IsNothingOr empty_state)
        → AreLeft g (two (g.view first) (g.view second)) (disks_then made) left right
        → IsOpenedOn left right s
        → Life [] [] (Serving s)
    called : (ds es : List Deed) (all sends : List (ℕ × Reply)) (old new : Durable D g)
        → Life ds all (Serving old)
        → old.down ≡ false → new.down ≡ false → Call old new es sends
        → Life (ds ++ es) (all ++ sends) (Serving new)
    fell : (ds : List Deed) (all : List (ℕ × Reply)) (old new : Durable D g)
        → Life ds all (Serving old)
        → old.down ≡ false → new.down ≡ true → Fall old new → Life ds all (Serving new)
    cut : (ds hand : List Deed) (all : List (ℕ × Reply)) (old new : Durable D g) (left right : D)
        → Life ds all (Serving old) → old.down ≡ false → BothHonest old.disks → Cut old new hand
        → AreLeft g (both_of old.disks) (both_of new.disks) left right
        → Life ds all (Stopped hand left right)
    -- between two calls, or while it is down
    stopped : (ds : List Deed) (all : List (ℕ × Reply)) (s : Durable D g) (left right : D)
        → Life ds all (Serving s) → BothHonest s.disks
        → AreLeft g (both_of s.disks) (both_of s.disks) left right
        → Life ds all (Stopped s.lost.items left right)
    opened : (ds hand : List Deed) (all : List (ℕ × Reply)) (left right : D) (s : Durable D g)
        → Life ds all (Stopped hand left right) → IsOpenedOn left right s
        → Life (ds ++ found_of s.store.state hand) all (Serving s)
    -- an opening that was cut off, or failed (`open`: `any_moment`)
    not_opened : (ds hand : List Deed) (all : List (ℕ × Reply)) (first second left right : D)
        (made : Made g)
        → Life ds all (Stopped hand first second)
        → LeavesNoOther (two (g.view first) (g.view second)) (disks_then made)
        → AreLeft g (two (g.view first) (g.view second)) (disks_then made) left right
        → Life ds all (Stopped hand left right)

  -- Every life goes on by a call that makes no device call and answers nothing.
  abbrev pub StaysOn : Durable D g → Durable D g → Type 0
  StaysOn old new =
      (ds : List Deed) (all : List (ℕ × Reply)) → Life ds all (Serving old)
      → Life ds all (Serving new)

  -- Every life goes on by a call: at Ok by deeds and by what was sent, with a fault by nothing; and
  -- if the call was cut off at some moment, on what is left of the two disks.
  pub record GoesOn {T E : Type 0} (sends_of : T → List (ℕ × Reply)) (old : Durable D g)
      (result : Result T E)
      (new : Durable D g) : Type 0 where
    pub ok : (ds : List Deed) (all : List (ℕ × Reply)) → Life ds all (Serving old)
        → IfOk result (λ told. (es : List Deed)
        × Life (ds ++ es) (all ++ sends_of told) (Serving new))
    pub err : (ds : List Deed) (all : List (ℕ × Reply)) → Life ds all (Serving old)
        → OnErr result (Life ds all (Serving new))
    pub cut : (ds : List Deed) (all : List (ℕ × Reply)) (left right : D) → Life ds all (Serving old)
        → old.down ≡ false → BothHonest old.disks
        → AreLeft g (both_of old.disks) (both_of new.disks) left right
        → (hand : List Deed) × Life ds all (Stopped hand left right)
