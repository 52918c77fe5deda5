use Rattle.std.proofs.Common.{List, ℕ, ◌++◌, ◌≡◌, take, sym, subst, refl}
use Rattle.std.specs.Prelude.{OnOk, None}
use Rattle.std.specs.List.{flat_map}
use Rattle.linda_wire.specs.Frames.{message_frame}
use Rattle.linda_gate_pass.specs.Gating.{Gating, came}
use Rattle.linda_gate_pass.specs.Passing as passing
use Rattle.linda_gate_pass.proofs.HeadLaws.{begin_came, begin_front}
use Rattle.linda_gate_pass.proofs.client_gate.ClientGate.start_passing.Goals as goal

-- What came is the head, and then what the pass has read.
pub returns-clause-ok : goal.returns-clause-ok
returns-clause-ok c =
    let i = c.self.inside in
    let first = subst (λ (g : Gating). g.pass ≡ None) (sym c.self.view_is) c.requires.first in
    let read = rw (c.new-pass.ensures, c.deref.ensures.value) at c.received-read.ensures.ok in
    subst (λ (g : Gating). OnOk c.received-read.result (take c.args.len i.head.items ++ passing.came c.received-read.new.self ≡ came g))
    c.self.view_is
    (rw first (begin_came c.received-read.result i.head.items _ c.args.len read))

pub returns-clause-front : goal.returns-clause-front
returns-clause-front c =
    let i = c.self.inside in
    let front = rw (c.new-pass.ensures, c.deref.ensures.value) at c.received-read.ensures.front in
    subst (λ (g : Gating). (rest : List ℕ) × (g.head ≡ take c.args.len i.head.items ++ (flat_map message_frame c.received-read.new.self.passed ++ rest)))
    c.self.view_is
    (begin_front i.head.items c.args.len _ (front refl))
