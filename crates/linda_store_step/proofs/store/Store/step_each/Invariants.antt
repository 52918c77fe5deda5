-- The messages so far were served, the store is not spent, and the room for the next replies has none.
use Rattle.std.proofs.Common.{◌≡◌, [], false, take}
use Rattle.linda_store_step.specs.Served.{IsServed}
use Rattle.linda_store_step.proofs.store.Store.step_each.Given as goal

abbrev pub invariant-loop-message : goal.invariant-loop-message
invariant-loop-message g l = record {
  unspent : l.self.is_spent ≡ false;
  room : l.room.items ≡ [];
  served : IsServed l.fn.self.state l.fn.self.soft (take l.message-index l.messages) l.served l.self.state l.self.soft;
}
