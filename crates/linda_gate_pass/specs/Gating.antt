-- One connection through a gate: the head ahead of it, and what passed after that.
use Rattle.std.specs.Prelude.{ℕ, Bool, false, List, [], ◌++◌, take}
use Rattle.std.specs.Prelude.{Option, None, Some, IfSome, ◌≡◌}
use Rattle.std.specs.List.{flat_map}
use Rattle.linda_wire.specs.Frames.{message_frame}
use Rattle.linda_wire.specs.declared.message.Message.{Message}
use Rattle.linda_wire.specs.Stream.{Partial, message_front}
use Rattle.linda_gate_pass.specs.declared.head.ProxyHead.TheVariants as heads
use Rattle.linda_gate_pass.specs.Head.{IsHead, Heads}
use Rattle.linda_gate_pass.specs.Passing as passing
use Rattle.linda_gate_pass.specs.Passing.{Passing, AreOfOne}

-- What contracts see of a connection: what came until its head was whole, how long that head is,
-- and what is after it.
pub record Gating : Type 0 where
  pub head : List ℕ
  pub len : ℕ
  pub pass : Option Passing
  pub is_refused : Bool

-- Nothing came yet.
abbrev pub begun : Gating
begun = record { head = []; len = 0; pass = None; is_refused = false }

-- All messages that passed.
abbrev pub passed_in : Option Passing → List Message
passed_in None = []
passed_in (Some p) = p.passed

-- Their frames.
abbrev pub frames_in : Option Passing → List ℕ
frames_in pass = flat_map message_frame (passed_in pass)

-- All bytes that came, as long as there is no fault.
abbrev pub came_by : List ℕ → ℕ → Option Passing → List ℕ
came_by head len None = head
came_by head len (Some p) = take len head ++ passing.came p

abbrev pub came : Gating → List ℕ
came g = came_by g.head g.len g.pass

-- The head, and the frames of all that passed, are the first of the bytes.
abbrev pub IsFront : List ℕ → ℕ → Option Passing → List ℕ → Type 0
IsFront head len None bytes = Unit {0}
IsFront head len (Some p) bytes =
    (rest : List ℕ) × (bytes ≡ take len head ++ (flat_map message_frame p.passed ++ rest))

abbrev pub IsOf : List ℕ → Gating → Type 0
IsOf bytes g = IsFront g.head g.len g.pass bytes

-- There is no fault, and more has to come: the head is not whole, or no whole frame is left.
abbrev pub WaitsAfter : List ℕ → Option Passing → Type 0
WaitsAfter head None = Heads head heads.Short
WaitsAfter head (Some p) = (p.fault ≡ None) × (message_front p.unread ≡ Partial)

abbrev pub Waits : Gating → Type 0
Waits g = WaitsAfter g.head g.pass

-- Once its head is whole, all that passed is of one client, which the head allows.
abbrev pub IsOfOne : Gating → Type 0
IsOfOne g = IfSome g.pass (λ p. IsHead g.head p.numbers g.len × AreOfOne p.numbers p.passed)
