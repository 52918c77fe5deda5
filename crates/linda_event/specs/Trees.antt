-- Events as contracts see them: trees whose leaves are bases.
use Rattle.std.specs.Prelude.{ℕ, List, [], ◌∷◌}
use Rattle.linda_tuple.specs.declared.atom.Atom.{Atom}
use Rattle.linda_tuple.specs.Template.{Template}
use Rattle.linda_event.specs.declared.event.Event.{Event, fold-Event}
use Rattle.linda_event.specs.declared.event.Event.TheOpen.{Event-F}

-- What a base waits for.
pub data Kind : Type 0 where
  input : Template → Kind
  read : Template → Kind
  alarm : ℕ → Kind
  always : Atom → Kind
  never : Kind

mutual
  -- An event: a base, a choice, or an event under a label or a nack number.
  pub data Tree : Type 0 where
    leaf : Kind → Tree
    choose : Trees → Tree
    wrap : ℕ → Tree → Tree
    nack : ℕ → Tree → Tree

  -- The members of a choice, in order.
  pub data Trees : Type 0 where
    no_trees : Trees
    and_tree : Tree → Trees → Trees

-- the members of a choice, from their list
abbrev pub members_of : List Tree → Trees
members_of [] = no_trees
members_of (t ∷ ts) = and_tree t (members_of ts)

-- one node of an event, with each event below it already seen as its tree
abbrev pub tree_step : Event-F Tree → Tree
tree_step (Event-F.Input template) = leaf (input template)
tree_step (Event-F.Read template) = leaf (read template)
tree_step (Event-F.Alarm time) = leaf (alarm time)
tree_step (Event-F.Always value) = leaf (always value)
tree_step Event-F.Never = leaf never
tree_step (Event-F.Choose members) = choose (members_of members.items)
tree_step (Event-F.Wrap label below) = wrap label below.value
tree_step (Event-F.Nack number below) = nack number below.value

-- The tree of an event.
abbrev pub tree_of : Event → Tree
tree_of = fold-Event Tree tree_step
