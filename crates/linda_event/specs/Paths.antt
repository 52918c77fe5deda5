-- The nodes of an event in tree order, and what is above a base: its labels, and which nack numbers
-- are raised.
use Rattle.std.specs.Prelude.{ℕ, ◌+◌, ◌==◌, Bool, true, false, ◌&&◌, not, List, [], ◌∷◌, ◌++◌}
use Rattle.std.specs.Prelude.{Option, Some, None, option_map, map, filter, filter_map, reverse}
use Rattle.std.specs.Prelude.{slice_get}
use Rattle.linda_event.specs.Trees.{Kind, Tree, leaf, choose, wrap, nack, Trees, no_trees, and_tree}

-- What is at a node.
pub data Mark : Type 0 where
  at_base : Kind → Mark
  at_choice : Mark
  at_label : ℕ → Mark
  at_nack : ℕ → Mark

-- A place: the member numbers that lead there from the root. What is under a label or a nack number
-- is its member 0.
abbrev pub Place : Type 0
Place = List ℕ

-- A node: its place, and what is there.
pub record Node : Type 0 where
  pub place : Place
  pub mark : Mark

-- the node at the root
abbrev pub root : Mark → Node
root mark = record { place = []; mark = mark }

-- the node of the member of this number, as a node of the event above
abbrev pub under : ℕ → Node → Node
under member node = record { place = member ∷ node.place; mark = node.mark }

abbrev mutual
  -- All nodes of an event in tree order, a node before those below it.
  pub nodes : Tree → List Node
  nodes (leaf kind) = root (at_base kind) ∷ []
  nodes (choose members) = root at_choice ∷ member_nodes 0 members
  nodes (wrap label below) = root (at_label label) ∷ map (under 0) (nodes below)
  nodes (nack number below) = root (at_nack number) ∷ map (under 0) (nodes below)

  -- the nodes of members, the first of which has this number
  pub member_nodes : ℕ → Trees → List Node
  member_nodes member no_trees = []
  member_nodes member (and_tree t ts) = map (under member) (nodes t) ++ member_nodes (member + 1) ts

-- the kind, if a base is there
abbrev pub kind_at : Mark → Option Kind
kind_at (at_base kind) = Some kind
kind_at at_choice = None
kind_at (at_label label) = None
kind_at (at_nack number) = None

-- the label, if one is there
abbrev pub label_at : Mark → Option ℕ
label_at (at_base kind) = None
label_at at_choice = None
label_at (at_label label) = Some label
label_at (at_nack number) = None

-- the nack number, if one is there
abbrev pub nack_at : Mark → Option ℕ
nack_at (at_base kind) = None
nack_at at_choice = None
nack_at (at_label label) = None
nack_at (at_nack number) = Some number

-- the place and the kind, if a base is there
abbrev pub leaf_at : Node → Option (Place × Kind)
leaf_at node = option_map (λ kind. (node.place, kind)) (kind_at node.mark)

-- The leaves of an event in tree order: the place of each, and what it waits for.
abbrev pub leaves : Tree → List (Place × Kind)
leaves event = filter_map leaf_at (nodes event)

-- The bases of an event: what its leaves wait for, numbered from 0 in tree order.
abbrev pub bases_of : Tree → List Kind
bases_of event = map (λ leaf. leaf.1) (leaves event)

-- The place of the base of this number.
abbrev pub place_of : Tree → ℕ → Option Place
place_of event number = option_map (λ leaf. leaf.0) (slice_get (leaves event) number)

-- Whether the way from the root to the second place goes through the first.
abbrev pub leads_to : Place → Place → Bool
leads_to [] place = true
leads_to (m ∷ above) [] = false
leads_to (m ∷ above) (n ∷ place) = (m == n) && leads_to above place

-- Whether the node is on the way to the place; no node is if there is no place.
abbrev pub is_above : Option Place → Node → Bool
is_above None node = false
is_above (Some place) node = leads_to node.place place

-- the labels among nodes, in order
abbrev pub labels_among : List Node → List ℕ
labels_among found = filter_map (λ node. label_at node.mark) found

-- the nack numbers among nodes, in order
abbrev pub nacks_among : List Node → List ℕ
nacks_among found = filter_map (λ node. nack_at node.mark) found

-- the labels on the way to a place, outermost first
abbrev pub labels_above : Option Place → Tree → List ℕ
labels_above place event = labels_among (filter (is_above place) (nodes event))

-- the nack numbers that are not on the way to a place, in tree order
abbrev pub nacks_beside : Option Place → Tree → List ℕ
nacks_beside place event = nacks_among (filter (λ node. not (is_above place node)) (nodes event))

-- The labels of all nodes above a base, innermost first.
abbrev pub labels : Tree → ℕ → List ℕ
labels event number = reverse (labels_above (place_of event number) event)

-- What a commitment to a base raises: the nack numbers of all nodes that are not above it, in tree
-- order. If there is no base of this number, no node is above it.
abbrev pub raised : Tree → ℕ → List ℕ
raised event number = nacks_beside (place_of event number) event

-- What is raised if nothing is chosen: all nack numbers of an event, in tree order.
abbrev pub all_nacks : Tree → List ℕ
all_nacks event = nacks_among (nodes event)
