-- The loops of a pump: what holds before each turn, and what follows when they end.
use Rattle.std.proofs.Common.{◌≡◌, ◌≢◌, ℕ, ◌+◌, ◌<◌, ◌≤◌, arith, List, [], ◌++◌, length, take, refl, sym, subst}
use Rattle.std.specs.Prelude.{Option, Some, None, Result, Ok, Err, IfOk, IfErr}
use Rattle.std.specs.Io.KnownBytes.{Keeps, Consumes}
use Rattle.std.proofs.lemmas.List.{length-append, length-take-le, append-nil}
use Rattle.std.proofs.KnownBytes.{Consumes-nil, Consumes-trans, Consumes-kept}
use Rattle.linda_wire.specs.declared.message.Message.{Message}
use Rattle.linda_wire.specs.declared.fault.FrameFault.{FrameFault}
use Rattle.linda_wire.specs.declared.fault.FrameFault.TheVariants.{Memory}
use Rattle.linda_wire.specs.Frames.{message_frame, FitsMessage}
use Rattle.linda_wire.specs.Stream.{payload_len, Partial, Broken, message_front}
use Rattle.linda_store.specs.declared.end.End.TheVariants as ends
use Rattle.linda_store.specs.declared.end.ConverseFault.{ConverseFault}
use Rattle.linda_store.specs.declared.end.ConverseFault.TheVariants as faults
use Rattle.linda_net_pump.specs.Pumping.{IsReading, ReadsOn, Known, Takes, TakesSome, StandsAs, AllTaken, SomeTaken, HandsOver, HasPumped}
use Rattle.linda_store.specs.Conversation.{detail_of}
use Rattle.linda_net_pump.proofs.ReadingLaws.{reading_begins, reading_then, reading_fed, reading_batch, takes_none, takes_then, takes_then_some, takes_no_more}

-- ---- over what was fed

-- the messages so far were taken
abbrev pub TakenUpTo : List ℕ → List ℕ → Known → Known → Type 0
TakenUpTo bytes rest old new = (messages : List Message) × (IsReading bytes messages rest × Takes old new messages)

pub nothing_taken : (bytes : List ℕ) (known : Known) → TakenUpTo bytes bytes known known
nothing_taken bytes known = ([], (reading_begins bytes, takes_none known))

-- one batch more was taken
pub batch_taken : (bytes left mid rest : List ℕ) (first : Message) (messages : List Message) (old known new : Known)
    → TakenUpTo bytes left old known → (left ≡ message_frame first ++ mid) × FitsMessage first
    → ReadsOn mid rest first messages → Takes known new messages → TakenUpTo bytes rest old new
batch_taken bytes left mid rest first messages old known new before frame more takes = (
  before.0 ++ messages,
  (
    reading_then bytes left rest before.0 messages before.1.0 (reading_batch left mid rest first messages frame more),
    takes_then old known new before.0 messages before.1.1 takes,
  ),
)

-- some of one batch more
pub batch_cut : (bytes left mid rest : List ℕ) (first : Message) (messages : List Message) (old known new : Known)
    → TakenUpTo bytes left old known → (left ≡ message_frame first ++ mid) × FitsMessage first
    → ReadsOn mid rest first messages → TakesSome known new messages → SomeTaken bytes old new
batch_cut bytes left mid rest first messages old known new before frame more takes = (
  before.0 ++ messages,
  (
    rest,
    (
      reading_then bytes left rest before.0 messages before.1.0 (reading_batch left mid rest first messages frame more),
      takes_then_some old known new before.0 messages before.1.1 takes,
    ),
  ),
)

-- what was taken so far, and no more
pub up_to_some : (bytes rest : List ℕ) (old new : Known) → TakenUpTo bytes rest old new → SomeTaken bytes old new
up_to_some bytes rest old new before = (
  before.0,
  (
    rest,
    (
      before.1.0,
      subst (λ (messages : List Message). TakesSome old new messages) (append-nil before.0)
          (takes_then_some old new new before.0 [] before.1.1 (takes_no_more new [])),
    ),
  ),
)

pub up_to_all : (bytes rest : List ℕ) (stand : Option ℕ) (old new : Known)
    → TakenUpTo bytes rest old new → StandsAs stand rest → AllTaken bytes stand rest old new
up_to_all bytes rest stand old new before stands = (before.0, (before.1.0, (stands, before.1.1)))

-- ---- over a stream

-- All messages so far were taken; each read gave a byte at least.
pub record IsPumping (input left : Option (List ℕ)) (old new : Known) (unread : List ℕ) (reads : ℕ) : Type 0 where
  pub read : List ℕ
  pub consumed : Consumes input left read
  pub done : AllTaken read None unread old new
  pub many : reads ≤ length read

nothing_whole : message_front [] ≡ Partial
unfolding payload_len
nothing_whole = refl

pub pumping_begins : (input : Option (List ℕ)) (known : Known) (unread : List ℕ) → unread ≡ [] → IsPumping input input known known unread 0
pumping_begins input known unread empty =
    subst (λ (unread : List ℕ). IsPumping input input known known unread 0) (sym empty) (record {
      read = [];
      consumed = Consumes-nil input;
      done = ([], (reading_begins [], (nothing_whole, takes_none known)));
      many = omega arith;
    })

-- the messages that a piece made whole, after those of before
pub piece_taken : (read piece unread rest : List ℕ) (stand : Option ℕ) (old known new : Known)
    → AllTaken read None unread old known → AllTaken (unread ++ piece) stand rest known new
    → AllTaken (read ++ piece) stand rest old new
piece_taken read piece unread rest stand old known new before more = (
  before.0 ++ more.0,
  (
    reading_fed read piece unread rest before.0 more.0 before.1.0 more.1.0,
    (more.1.1.0, takes_then old known new before.0 more.0 before.1.1.1 more.1.1.1),
  ),
)

pub piece_cut : (read piece unread : List ℕ) (old known new : Known)
    → AllTaken read None unread old known → SomeTaken (unread ++ piece) known new → SomeTaken (read ++ piece) old new
piece_cut read piece unread old known new before more = (
  before.0 ++ more.0,
  (
    more.1.0,
    (
      reading_fed read piece unread more.1.0 before.0 more.0 before.1.0 more.1.1.0,
      takes_then_some old known new before.0 more.0 before.1.1.1 more.1.1.1,
    ),
  ),
)

pub pumping_on : (reads : ℕ) (input left after : Option (List ℕ)) (old known new : Known) (unread piece rest : List ℕ)
    → IsPumping input left old known unread reads → Consumes left after piece
    → HandsOver (unread ++ piece) rest known new (Ok None) → 0 < length piece
    → IsPumping input after old new rest (reads + 1)
pumping_on reads input left after old known new unread piece rest so_far consumed over some = record {
  read = so_far.read ++ piece;
  consumed = Consumes-trans input left after so_far.read piece so_far.consumed consumed;
  done = piece_taken so_far.read piece unread rest None old known new so_far.done over;
  many = let longer : reads + 1 ≤ length (so_far.read ++ piece) = omega (arith, so_far.many, some, length-append so_far.read piece) in longer;
}

pub pump_malformed : (reads : ℕ) (input left after : Option (List ℕ)) (old known new : Known) (unread piece rest : List ℕ) (detail : ℕ)
    → IsPumping input left old known unread reads → Consumes left after piece
    → HandsOver (unread ++ piece) rest known new (Ok (Some detail))
    → HasPumped input after old new (Ok (ends.Malformed detail))
pump_malformed reads input left after old known new unread piece rest detail so_far consumed over = record {
  read = so_far.read ++ piece;
  consumed = Consumes-trans input left after so_far.read piece so_far.consumed consumed;
  ends = (rest, piece_taken so_far.read piece unread rest (Some detail) old known new so_far.done over);
}

pub pump_cut : (reads : ℕ) (input left after : Option (List ℕ)) (old known new : Known) (unread piece rest : List ℕ) (fault : ConverseFault)
    → IsPumping input left old known unread reads → Consumes left after piece
    → HandsOver (unread ++ piece) rest known new (Err fault)
    → HasPumped input after old new (Err fault)
pump_cut reads input left after old known new unread piece rest faults.Write so_far consumed over = record {
  read = so_far.read ++ piece;
  consumed = Consumes-trans input left after so_far.read piece so_far.consumed consumed;
  ends = piece_cut so_far.read piece unread old known new so_far.done over.1;
}
pump_cut reads input left after old known new unread piece rest faults.Down so_far consumed over = record {
  read = so_far.read ++ piece;
  consumed = Consumes-trans input left after so_far.read piece so_far.consumed consumed;
  ends = piece_cut so_far.read piece unread old known new so_far.done over.1;
}
pump_cut reads input left after old known new unread piece rest faults.Memory so_far consumed over = record {
  read = so_far.read ++ piece;
  consumed = Consumes-trans input left after so_far.read piece so_far.consumed consumed;
  ends = piece_cut so_far.read piece unread old known new so_far.done over.1;
}
pump_cut reads input left after old known new unread piece rest faults.Read so_far consumed over = absurd over.0
pump_cut reads input left after old known new unread piece rest faults.Turns so_far consumed over = absurd over.0

pub pump_read_failed : (reads : ℕ) (input left after : Option (List ℕ)) (old new : Known) (unread : List ℕ)
    → IsPumping input left old new unread reads → Keeps left after → HasPumped input after old new (Err faults.Read)
pump_read_failed reads input left after old new unread so_far kept = record {
  read = so_far.read;
  consumed = Consumes-kept input left after so_far.read so_far.consumed kept;
  ends = (unread, so_far.done);
}

-- a piece that is not empty has bytes
pub piece_some : (len : ℕ) (bytes : List ℕ) → len ≤ length bytes → (len ≡ 0 → ⊥) → 0 < length (take len bytes)
piece_some len bytes within some = rw (length-take-le len bytes within) (omega (arith, some))

-- a fault of the frame at the front was returned
pub fault_told : (bytes left rest : List ℕ) (old new : Known) (fault : FrameFault) (result : Result (Option ℕ) ConverseFault)
    → TakenUpTo bytes left old new
    → IfOk result (λ o. (fault ≢ Memory) × (o ≡ Some (detail_of fault))) → IfErr result (λ told. told ≡ faults.Memory)
    → (fault ≢ Memory → message_front left ≡ Broken fault) × (rest ≡ left)
    → HandsOver bytes rest old new result
fault_told bytes left rest old new fault (Ok stand) before ok err stands =
    rw (stands.1, ok.1) (up_to_all bytes left (Some (detail_of fault)) old new before (fault, (stands.0 ok.0, refl)))
fault_told bytes left rest old new fault (Err told) before ok err stands =
    rw err (tt, up_to_some bytes left old new before)
