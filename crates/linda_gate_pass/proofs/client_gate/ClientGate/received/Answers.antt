use Rattle.std.proofs.Common.{◌≡◌, ℕ, List, ◌++◌, take, sym, subst}
use Rattle.std.specs.Prelude.{IfSome, None}
use Rattle.std.specs.List.{flat_map}
use Rattle.linda_wire.specs.Frames.{message_frame}
use Rattle.linda_gate_pass.specs.Gating.{Gating, came}
use Rattle.linda_gate_pass.specs.Passing as passing
use Rattle.linda_gate_pass.proofs.HeadLaws.{later_front}
use Rattle.linda_gate_pass.proofs.client_gate.ClientGate.received.Goals as goal

-- After the head, what came begins with the head and the frames of the messages that passed.
pub returns-in-Some-clause-front : goal.returns-in-Some-clause-front
returns-in-Some-clause-front c = λ up.
    let i = c.self.inside in
    let up_inside = subst (λ (g : Gating). IfSome g.pass (λ p. p.fault ≡ None)) (sym c.self.view_is) up in
    let up_pass : c.in-Some.pass.fault ≡ None = rw c.in-Some.is at up_inside in
    let front = later_front (take i.len i.head.items) (passing.came c.in-Some.pass) c.args.bytes.now c.received.new.self.passed
    (c.received.ensures.front up_pass) in
    subst (λ (g : Gating). (rest : List ℕ)
    × (came g ++ c.args.bytes.now ≡ take i.len i.head.items ++ (flat_map message_frame c.received.new.self.passed ++ rest)))
    c.self.view_is
    (rw c.in-Some.is front)
