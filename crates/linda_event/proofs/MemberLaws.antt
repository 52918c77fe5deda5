-- The nodes of the members of a choice that are left.
use Rattle.std.proofs.Common.{◌≡◌, ℕ, ◌+◌, ◌<◌, ◌≤◌, List, [], ◌++◌, length, get_or, drop, map, sym, ap, ◌∙◌}
use Rattle.std.proofs.lemmas.List.{at_drop_more, at_drop_all}
use Rattle.linda_event.specs.declared.event.Event.{Event}
use Rattle.linda_event.specs.Trees.{tree_of, members_of}
use Rattle.linda_event.specs.Paths.{Node, nodes, member_nodes, under}

-- the nodes of all members from this number on
abbrev pub rest_nodes : ℕ → List Event → List Node
rest_nodes i items = member_nodes i (members_of (map tree_of (drop i items)))

-- the nodes of the next member come first
pub rest_nodes_more : (items : List Event) (i : ℕ) (x : Event) → i < length items → x ≡ get_or items i x
    → rest_nodes i items ≡ map (under i) (nodes (tree_of x)) ++ rest_nodes (i + 1) items
rest_nodes_more items i x h is =
    at_drop_more (λ es. member_nodes i (members_of (map tree_of es))) items i x h
    ∙ ap (λ e. map (under i) (nodes (tree_of e)) ++ rest_nodes (i + 1) items) (sym is)

pub rest_nodes_end : (items : List Event) (i : ℕ) → length items ≤ i → rest_nodes i items ≡ []
rest_nodes_end items i h = at_drop_all (λ es. member_nodes i (members_of (map tree_of es))) items i h
