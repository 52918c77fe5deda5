-- More is copied, and nothing else changes.
use Rattle.std.proofs.Common.{sym, subst}
use Rattle.std.proofs.Math.Logic.{∥∥₁_map}
use Rattle.linda_store_state.specs.State.{State}
use Rattle.linda_snap.specs.BookCopy.{IsCopyFor}
use Rattle.linda_server.proofs.durable.Durable.copy_clients.Goals as goal

pub invariant_of-self : goal.invariant_of-self
invariant_of-self g c =
    let s = c.args.self.now in
    let was = subst (λ (st : State). ∥ IsCopyFor s.copy st.book ∥₁) (sym c.state.ensures.state) (s.copied c.if-self.false) in
    let copied = subst (λ o. ∥ IsCopyFor o c.state.result.now.book ∥₁) (sym c.replace-copy.ensures.value) was in
    record {
      there = s.there;
      bounded = s.bounded;
      live = s.live;
      ready = s.ready;
      limited = s.limited;
      none_lost = s.none_lost;
      kept = s.kept;
      begun = s.begun;
      copied = λ up. subst (λ (st : State). ∥ IsCopyFor c.with_more.result st.book ∥₁) c.state.ensures.state (∥∥₁_map copied (λ is. c.with_more.ensures is));
      fallen = s.fallen;
    }
