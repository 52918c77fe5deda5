-- Soundness of a server, after all that comes to it.
use Rattle.std.specs.Prelude.{◌≡◌, ℕ, true, false, List, [], ◌++◌, All, Result, Ok, Err}
use Rattle.std.specs.Global.{Vec}
use Rattle.linda_wire.specs.declared.reply.Reply.{Reply}
use Rattle.linda_store_state.specs.declared.deed.Deed.{Deed}
use Rattle.linda_store_state.specs.State.{empty_state}
use Rattle.linda_store_state.specs.After.{IsAfter}
use Rattle.linda_store_state.specs.Proper.{IsProper}
use Rattle.linda_store_step.specs.Store.{IsOrderly}
use Rattle.linda_store.specs.declared.node.NodeFault.{NodeFault}
use Rattle.linda_store.specs.Node.{Node}
use Rattle.linda_store_step.specs.Replies.{reports_deed, ReportsOne}

-- Its deeds are a proper list and its state is the one after them; while it is up it is in order,
-- and while it is down the deeds that it may have done besides would go on from there.
pub record IsSound (ds : List Deed) (node : Node) : Type 0 where
  pub proper : IsProper empty_state ds
  pub after : IsAfter empty_state ds node.state
  pub orderly : node.is_down ≡ false → IsOrderly node.state node.soft
  pub lost : node.is_down ≡ true → IsProper empty_state (ds ++ node.lost)

-- What is sent reports only these deeds.
abbrev pub AreBacked : List Deed → List (ℕ × Reply) → Type 0
AreBacked ds sends =
    All (λ (send : ℕ × Reply). reports_deed send.1 ≡ true → ReportsOne ds send.0 send.1) sends

-- the deeds that a stop has added
abbrev pub added : Result (Vec Deed) NodeFault → List Deed
added (Ok deeds) = deeds.items
added (Err fault) = []
