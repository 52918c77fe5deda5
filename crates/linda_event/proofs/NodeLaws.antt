-- What is read off the nodes of an event, if they are under a member.
use Rattle.std.proofs.Common.{◌≡◌, ℕ, ◌==◌, Bool, true, false, not, ◌&&◌, cond, if◌then◌else◌, List, [], ◌∷◌, ◌++◌, map, Option, Some, None, refl, ap, ◌∙◌}
use Rattle.std.specs.Prelude.{filter, filter_map}
use Rattle.std.proofs.lemmas.List.{map-append}
use Rattle.std.proofs.lemmas.List.Elements.{filter_map-append, filter-append}
use Rattle.linda_event.specs.Trees.{Kind}
use Rattle.linda_event.specs.Paths.{Mark, at_base, at_choice, at_label, at_nack, Place, Node, under, leaf_at, label_at}
use Rattle.linda_event.specs.Paths.{nack_at, is_above, leads_to, labels_among, nacks_among}
use Rattle.linda_event.specs.Ways.{leaf_under, way_under}

-- the leaves among nodes
abbrev pub leaves_in : List Node → List (Place × Kind)
leaves_in ns = filter_map leaf_at ns

-- the bases among nodes
abbrev pub bases_in : List Node → List Kind
bases_in ns = map (λ leaf. leaf.1) (leaves_in ns)

-- the labels among nodes on a way
abbrev pub labels_on : Option Place → List Node → List ℕ
labels_on way ns = labels_among (filter (is_above way) ns)

-- the nack numbers among nodes off a way
abbrev pub nacks_off : Option Place → List Node → List ℕ
nacks_off way ns = nacks_among (filter (λ node. not (is_above way node)) ns)

pub leaves_in-append : (xs ys : List Node) → leaves_in (xs ++ ys) ≡ leaves_in xs ++ leaves_in ys
leaves_in-append xs ys = filter_map-append leaf_at xs ys

pub bases_in-append : (xs ys : List Node) → bases_in (xs ++ ys) ≡ bases_in xs ++ bases_in ys
bases_in-append xs ys = ap (map (λ leaf. leaf.1)) (leaves_in-append xs ys) ∙ map-append (λ leaf. leaf.1) (leaves_in xs) (leaves_in ys)

pub labels_on-append : (way : Option Place) (xs ys : List Node) → labels_on way (xs ++ ys) ≡ labels_on way xs ++ labels_on way ys
labels_on-append way xs ys =
    ap labels_among (filter-append (is_above way) xs ys)
    ∙ filter_map-append {X = Node} (λ node. label_at node.mark) (filter (is_above way) xs) (filter (is_above way) ys)

pub nacks_off-append : (way : Option Place) (xs ys : List Node) → nacks_off way (xs ++ ys) ≡ nacks_off way xs ++ nacks_off way ys
nacks_off-append way xs ys =
    let off : Node → Bool = λ node. not (is_above way node) in
    ap nacks_among (filter-append off xs ys) ∙ filter_map-append {X = Node} (λ node. nack_at node.mark) (filter off xs) (filter off ys)

under_at : (m : ℕ) (place : Place) (mark : Mark) (ns : List Node) → leaves_in (map (under m) ns) ≡ map (leaf_under m) (leaves_in ns)
    → leaves_in (under m (record { place = place; mark = mark }) ∷ map (under m) ns)
    ≡ map (leaf_under m) (leaves_in (record { place = place; mark = mark } ∷ ns))
under_at m place (at_base kind) ns more = ap (λ ls. (m ∷ place, kind) ∷ ls) more
under_at m place at_choice ns more = more
under_at m place (at_label n) ns more = more
under_at m place (at_nack n) ns more = more

pub leaves_in_under : (m : ℕ) (ns : List Node) → leaves_in (map (under m) ns) ≡ map (leaf_under m) (leaves_in ns)
leaves_in_under m [] = refl
leaves_in_under m (n ∷ ns) = under_at m n.place n.mark ns (leaves_in_under m ns)

pub kinds_under : (m : ℕ) (ls : List (Place × Kind)) → map (λ leaf. leaf.1) (map (leaf_under m) ls) ≡ map (λ leaf. leaf.1) ls
kinds_under m [] = refl
kinds_under m (l ∷ ls) = ap (λ ks. l.1 ∷ ks) (kinds_under m ls)

pub bases_in_under : (m : ℕ) (ns : List Node) → bases_in (map (under m) ns) ≡ bases_in ns
bases_in_under m ns = ap (map (λ leaf. leaf.1)) (leaves_in_under m ns) ∙ kinds_under m (leaves_in ns)

above_if : (b : Bool) (rest : Place) (node : Node) → (b && leads_to node.place rest) ≡ is_above (if b then Some rest else None) node
above_if true rest node = refl
above_if false rest node = refl

-- a node of a member is on a way exactly if it is on what is left of the way in that member
pub above_under : (m : ℕ) (way : Option Place) (node : Node) → is_above way (under m node) ≡ is_above (way_under m way) node
above_under m None node = refl
above_under m (Some []) node = refl
above_under m (Some (first ∷ rest)) node = above_if (m == first) rest node

-- what is picked at the nodes that pass a test
abbrev pub picked : (Mark → Option ℕ) → (Node → Bool) → List Node → List ℕ
picked pick test ns = filter_map (λ node. pick node.mark) (filter test ns)

picked_one : (pick : Mark → Option ℕ) (b : Bool) (x y : Node) (xs ys : List Node) → x.mark ≡ y.mark
    → filter_map (λ node. pick node.mark) xs ≡ filter_map (λ node. pick node.mark) ys
    → filter_map (λ node. pick node.mark) (cond b (x ∷ xs) xs) ≡ filter_map (λ node. pick node.mark) (cond b (y ∷ ys) ys)
picked_one pick true x y xs ys same more = rw (same, more)
picked_one pick false x y xs ys same more = more

pub picked_under : (m : ℕ) (pick : Mark → Option ℕ) (p q : Node → Bool) → ((node : Node) → p (under m node) ≡ q node) → (ns : List Node)
    → picked pick p (map (under m) ns) ≡ picked pick q ns
picked_under m pick p q same [] = refl
picked_under m pick p q same (n ∷ ns) = rw (same n) (picked_one pick (q n) (under m n) n _ _ refl (picked_under m pick p q same ns))

pub labels_on_under : (m : ℕ) (way : Option Place) (ns : List Node) → labels_on way (map (under m) ns) ≡ labels_on (way_under m way) ns
labels_on_under m way ns = picked_under m label_at (is_above way) (is_above (way_under m way)) (above_under m way) ns

pub nacks_off_under : (m : ℕ) (way : Option Place) (ns : List Node) → nacks_off way (map (under m) ns) ≡ nacks_off (way_under m way) ns
nacks_off_under m way ns =
    picked_under m nack_at (λ node. not (is_above way node)) (λ node. not (is_above (way_under m way) node)) (λ node. ap not (above_under m way node)) ns

-- no label is on no way
pub labels_on_none : (ns : List Node) → labels_on None ns ≡ []
labels_on_none [] = refl
labels_on_none (n ∷ ns) = labels_on_none ns

-- every nack number is off no way
pub nacks_off_none : (ns : List Node) → nacks_off None ns ≡ nacks_among ns
nacks_off_none [] = refl
nacks_off_none (n ∷ ns) = rw (nacks_off_none ns)
