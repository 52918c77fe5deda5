-- A durable server as a node.
use Rattle.std.specs.Prelude.{Bool, true, List, if◌then◌else◌}
use Rattle.linda_store_state.specs.declared.deed.Deed.{Deed}
use Rattle.linda_store_state.specs.State.{State}
use Rattle.linda_store_step.specs.Store.{Store}
use Rattle.linda_store.specs.Node.{Node}

-- While it is down, its state is the one before the call in which it went down; and these deeds may
-- have been done.
abbrev pub shown : State → Store → Bool → List Deed → Node
shown before store down lost = record {
  state = if down then before else store.state;
  soft = store.soft;
  is_down = down;
  may_fill = true;
  lost = lost;
}
