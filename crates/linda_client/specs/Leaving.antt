-- Leaving of a client, and what it does once it has left.
use Rattle.std.specs.Prelude.{◌≡◌, true, false, List, ◌∷◌, ◌++◌, ◌↔◌, Some, None, All}
use Rattle.linda_client.specs.declared.outcome.Outcome.TheVariants as outcomes
use Rattle.linda_client.specs.Client.{Client, has_left}
use Rattle.linda_client.specs.Ending.{IsCancel}
use Rattle.linda_client.specs.Reaction.{Reaction}
use Rattle.linda_client.specs.History.{Act, all_sent}

-- The client has left, nothing has ended, and only Cancels are sent.
pub record StaysAway (r : Reaction) : Type 0 where
  pub left : has_left r.client.task ≡ true
  pub silent : r.outcome ≡ None
  pub only : All IsCancel r.packets

-- A client that has left stays away; and the outcome is Left exactly if the client leaves.
pub record LeavesForGood (c : Client) (r : Reaction) : Type 0 where
  pub stays : has_left c.task ≡ true → StaysAway r
  pub outcome : (r.outcome ≡ Some outcomes.Left)
      ↔ ((has_left c.task ≡ false) × (has_left r.client.task ≡ true))

-- After the outcome Left only Cancels are sent.
abbrev pub SendsNoMore : List Act → Type 0
SendsNoMore acts =
    (before later : List Act) (act : Act) → acts ≡ before ++ act ∷ later
    → act.reaction.outcome ≡ Some outcomes.Left → All IsCancel (all_sent later)
