-- A node in memory only, as contracts see it: its store, and the state before the last call.
use Rattle.std.specs.Prelude.{false, [], if◌then◌else◌}
use Rattle.linda_store_state.specs.State.{State}
use Rattle.linda_store_step.specs.Store.{Store}
use Rattle.linda_store.specs.Node.{Node}

abbrev pub shown : State → Store → Node
shown before store = record {
  state = if store.is_spent then before else store.state;
  soft = store.soft;
  is_down = store.is_spent;
  may_fill = false;
  lost = [];
}
