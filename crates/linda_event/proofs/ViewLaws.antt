-- What is read off the nodes of an event, by what is at its root.
use Rattle.std.proofs.Common.{◌≡◌, ℕ, ◌+◌, ◌<◌, ◌≤◌, true, false, List, [], ◌∷◌, ◌++◌, ◌||◌, length, get_or, map}
use Rattle.std.proofs.Common.{append-nil, Option, Some, None, option_map, Bool, Bor, Vec, Box, Global, refl, sym, ap}
use Rattle.std.proofs.Common.{◌∙◌, rules}
use Rattle.std.specs.Prelude.{is_some, count_by, cond}
use Rattle.std.proofs.lemmas.List.Sums.{sum_by-append}
use Rattle.std.proofs.lemmas.List.{map-append}
use Rattle.linda_event.specs.declared.event.Event.{Event, Choose, Wrap, Nack, the_lemmas}
use Rattle.linda_event.specs.declared.base.Base.{Base}
use Rattle.linda_event.specs.Trees.{leaf, choose, wrap, nack, tree_of, members_of}
use Rattle.linda_event.specs.Paths.{Node, Place, at_label, at_nack, at_choice, root, under, nodes, bases_of, leaves}
use Rattle.linda_event.specs.Bases.{is_ready, kind_of}
use Rattle.linda_event.specs.Limits.{is_ask}
use Rattle.linda_event.specs.Ways.{leaf_under, way_under}
use Rattle.std.specs.List.{list_any}
use Rattle.linda_event.proofs.SeekLaws.{any_more}
use Rattle.linda_event.proofs.MemberLaws.{rest_nodes, rest_nodes_more, rest_nodes_end}
use Rattle.linda_event.proofs.NodeLaws.{leaves_in, bases_in, labels_on, nacks_off, leaves_in-append, bases_in-append}
use Rattle.linda_event.proofs.NodeLaws.{labels_on-append, nacks_off-append, leaves_in_under, bases_in_under}
use Rattle.linda_event.proofs.NodeLaws.{labels_on_under, nacks_off_under, labels_on_none}

pub nodes_Choose : (e : Event) (v : Vec Event Global) (items : List Event) → e ≡ Choose v → items ≡ v.items
    → nodes (tree_of e) ≡ root at_choice ∷ rest_nodes 0 items
nodes_Choose e v items is those =
    let view : tree_of (Choose v) ≡ choose (members_of (map tree_of v.items)) = search (rules, the_lemmas) in
    ap (λ x. nodes (tree_of x)) is ∙ ap nodes view ∙ ap (λ es. root at_choice ∷ rest_nodes 0 es) (sym those)

pub nodes_Wrap : (e : Event) (n : ℕ) (b : Box Event Global) (x : Event) → e ≡ Wrap n b → x ≡ b.value
    → nodes (tree_of e) ≡ root (at_label n) ∷ map (under 0) (nodes (tree_of x))
nodes_Wrap e n b x is that =
    let view : tree_of (Wrap n b) ≡ wrap n (tree_of b.value) = search (rules, the_lemmas) in
    ap (λ y. nodes (tree_of y)) is ∙ ap nodes view ∙ ap (λ y. root (at_label n) ∷ map (under 0) (nodes (tree_of y))) (sym that)

pub nodes_Nack : (e : Event) (n : ℕ) (b : Box Event Global) (x : Event) → e ≡ Nack n b → x ≡ b.value
    → nodes (tree_of e) ≡ root (at_nack n) ∷ map (under 0) (nodes (tree_of x))
nodes_Nack e n b x is that =
    let view : tree_of (Nack n b) ≡ nack n (tree_of b.value) = search (rules, the_lemmas) in
    ap (λ y. nodes (tree_of y)) is ∙ ap nodes view ∙ ap (λ y. root (at_nack n) ∷ map (under 0) (nodes (tree_of y))) (sym that)

pub bases_Choose : (e : Event) (v : Vec Event Global) (items : List Event) → e ≡ Choose v → items ≡ v.items
    → bases_of (tree_of e) ≡ bases_in (rest_nodes 0 items)
bases_Choose e v items is those = ap bases_in (nodes_Choose e v items is those)

pub bases_Wrap : (e : Event) (n : ℕ) (b : Box Event Global) (x : Event) → e ≡ Wrap n b → x ≡ b.value → bases_of (tree_of e) ≡ bases_of (tree_of x)
bases_Wrap e n b x is that = ap bases_in (nodes_Wrap e n b x is that) ∙ bases_in_under 0 (nodes (tree_of x))

pub bases_Nack : (e : Event) (n : ℕ) (b : Box Event Global) (x : Event) → e ≡ Nack n b → x ≡ b.value → bases_of (tree_of e) ≡ bases_of (tree_of x)
bases_Nack e n b x is that = ap bases_in (nodes_Nack e n b x is that) ∙ bases_in_under 0 (nodes (tree_of x))

-- the members that are left: the next one, and then the others
pub bases_more : (items : List Event) (i : ℕ) (x : Event) → i < length items → x ≡ get_or items i x
    → bases_in (rest_nodes i items) ≡ bases_of (tree_of x) ++ bases_in (rest_nodes (i + 1) items)
bases_more items i x h is =
    ap bases_in (rest_nodes_more items i x h is) ∙ bases_in-append (map (under i) (nodes (tree_of x))) (rest_nodes (i + 1) items)
    ∙ ap (λ xs. xs ++ bases_in (rest_nodes (i + 1) items)) (bases_in_under i (nodes (tree_of x)))

pub bases_end : (items : List Event) (i : ℕ) → length items ≤ i → bases_in (rest_nodes i items) ≡ []
bases_end items i h = ap bases_in (rest_nodes_end items i h)

pub leaves_Choose : (e : Event) (v : Vec Event Global) (items : List Event) → e ≡ Choose v → items ≡ v.items
    → leaves (tree_of e) ≡ leaves_in (rest_nodes 0 items)
leaves_Choose e v items is those = ap leaves_in (nodes_Choose e v items is those)

pub leaves_Wrap : (e : Event) (n : ℕ) (b : Box Event Global) (x : Event) → e ≡ Wrap n b → x ≡ b.value
    → leaves (tree_of e) ≡ map (leaf_under 0) (leaves (tree_of x))
leaves_Wrap e n b x is that = ap leaves_in (nodes_Wrap e n b x is that) ∙ leaves_in_under 0 (nodes (tree_of x))

pub leaves_Nack : (e : Event) (n : ℕ) (b : Box Event Global) (x : Event) → e ≡ Nack n b → x ≡ b.value
    → leaves (tree_of e) ≡ map (leaf_under 0) (leaves (tree_of x))
leaves_Nack e n b x is that = ap leaves_in (nodes_Nack e n b x is that) ∙ leaves_in_under 0 (nodes (tree_of x))

-- the members that are left: the next one, and then the others
pub leaves_more : (items : List Event) (i : ℕ) (x : Event) → i < length items → x ≡ get_or items i x
    → leaves_in (rest_nodes i items) ≡ map (leaf_under i) (leaves (tree_of x)) ++ leaves_in (rest_nodes (i + 1) items)
leaves_more items i x h is =
    ap leaves_in (rest_nodes_more items i x h is) ∙ leaves_in-append (map (under i) (nodes (tree_of x))) (rest_nodes (i + 1) items)
    ∙ ap (λ xs. xs ++ leaves_in (rest_nodes (i + 1) items)) (leaves_in_under i (nodes (tree_of x)))

pub leaves_end : (items : List Event) (i : ℕ) → length items ≤ i → leaves_in (rest_nodes i items) ≡ []
leaves_end items i h = ap leaves_in (rest_nodes_end items i h)

-- a choice has neither a label nor a nack number
labels_root_choice : (way : Option Place) (ns : List Node) → labels_on way (root at_choice ∷ ns) ≡ labels_on way ns
labels_root_choice None ns = refl
labels_root_choice (Some place) ns = refl

pub labels_Choose : (way : Option Place) (e : Event) (v : Vec Event Global) (items : List Event) → e ≡ Choose v → items ≡ v.items
    → labels_on way (nodes (tree_of e)) ≡ labels_on way (rest_nodes 0 items)
labels_Choose way e v items is those = ap (labels_on way) (nodes_Choose e v items is those) ∙ labels_root_choice way (rest_nodes 0 items)

pub labels_more : (way inner : Option Place) (items : List Event) (i : ℕ) (x : Event) → inner ≡ way_under i way → i < length items → x ≡ get_or items i x
    → labels_on way (rest_nodes i items) ≡ labels_on inner (nodes (tree_of x)) ++ labels_on way (rest_nodes (i + 1) items)
labels_more way inner items i x inside h is =
    ap (labels_on way) (rest_nodes_more items i x h is) ∙ labels_on-append way (map (under i) (nodes (tree_of x))) (rest_nodes (i + 1) items)
    ∙ ap (λ xs. xs ++ labels_on way (rest_nodes (i + 1) items)) (labels_on_under i way (nodes (tree_of x))
    ∙ ap (λ w. labels_on w (nodes (tree_of x))) (sym inside))

pub labels_end : (way : Option Place) (items : List Event) (i : ℕ) → length items ≤ i → labels_on way (rest_nodes i items) ≡ []
labels_end way items i h = ap (labels_on way) (rest_nodes_end items i h)

labels_below : (way inner : Option Place) (x : Event) → inner ≡ way_under 0 way
    → labels_on way (map (under 0) (nodes (tree_of x))) ≡ labels_on inner (nodes (tree_of x))
labels_below way inner x inside = labels_on_under 0 way (nodes (tree_of x)) ∙ ap (λ w. labels_on w (nodes (tree_of x))) (sym inside)

-- a choice has neither a label nor a nack number
nacks_root_choice : (way : Option Place) (ns : List Node) → nacks_off way (root at_choice ∷ ns) ≡ nacks_off way ns
nacks_root_choice None ns = refl
nacks_root_choice (Some place) ns = refl

pub nacks_Choose : (way : Option Place) (e : Event) (v : Vec Event Global) (items : List Event) → e ≡ Choose v → items ≡ v.items
    → nacks_off way (nodes (tree_of e)) ≡ nacks_off way (rest_nodes 0 items)
nacks_Choose way e v items is those = ap (nacks_off way) (nodes_Choose e v items is those) ∙ nacks_root_choice way (rest_nodes 0 items)

pub nacks_more : (way inner : Option Place) (items : List Event) (i : ℕ) (x : Event) → inner ≡ way_under i way → i < length items → x ≡ get_or items i x
    → nacks_off way (rest_nodes i items) ≡ nacks_off inner (nodes (tree_of x)) ++ nacks_off way (rest_nodes (i + 1) items)
nacks_more way inner items i x inside h is =
    ap (nacks_off way) (rest_nodes_more items i x h is) ∙ nacks_off-append way (map (under i) (nodes (tree_of x))) (rest_nodes (i + 1) items)
    ∙ ap (λ xs. xs ++ nacks_off way (rest_nodes (i + 1) items)) (nacks_off_under i way (nodes (tree_of x))
    ∙ ap (λ w. nacks_off w (nodes (tree_of x))) (sym inside))

pub nacks_end : (way : Option Place) (items : List Event) (i : ℕ) → length items ≤ i → nacks_off way (rest_nodes i items) ≡ []
nacks_end way items i h = ap (nacks_off way) (rest_nodes_end items i h)

nacks_below : (way inner : Option Place) (x : Event) → inner ≡ way_under 0 way
    → nacks_off way (map (under 0) (nodes (tree_of x))) ≡ nacks_off inner (nodes (tree_of x))
nacks_below way inner x inside = nacks_off_under 0 way (nodes (tree_of x)) ∙ ap (λ w. nacks_off w (nodes (tree_of x))) (sym inside)

labels_root_nack : (way : Option Place) (n : ℕ) (ns : List Node) → labels_on way (root (at_nack n) ∷ ns) ≡ labels_on way ns
labels_root_nack None n ns = refl
labels_root_nack (Some place) n ns = refl

labels_root_label : (way : Option Place) (n : ℕ) (ns : List Node) → is_some way ≡ true → labels_on way (root (at_label n) ∷ ns) ≡ n ∷ labels_on way ns
labels_root_label None n ns on = cc
labels_root_label (Some place) n ns on = refl

nacks_root_label : (way : Option Place) (n : ℕ) (ns : List Node) → nacks_off way (root (at_label n) ∷ ns) ≡ nacks_off way ns
nacks_root_label None n ns = refl
nacks_root_label (Some place) n ns = refl

nacks_root_on : (way : Option Place) (n : ℕ) (ns : List Node) → is_some way ≡ true → nacks_off way (root (at_nack n) ∷ ns) ≡ nacks_off way ns
nacks_root_on None n ns on = cc
nacks_root_on (Some place) n ns on = refl

nacks_root_off : (way : Option Place) (n : ℕ) (ns : List Node) → is_some way ≡ false → nacks_off way (root (at_nack n) ∷ ns) ≡ n ∷ nacks_off way ns
nacks_root_off None n ns off = refl
nacks_root_off (Some place) n ns off = cc

-- a label on the way comes before those below it
pub labels_Wrap : (way inner : Option Place) (e : Event) (n : ℕ) (b : Box Event Global) (x : Event)
    → is_some way ≡ true → inner ≡ way_under 0 way → e ≡ Wrap n b → x ≡ b.value
    → labels_on way (nodes (tree_of e)) ≡ n ∷ labels_on inner (nodes (tree_of x))
labels_Wrap way inner e n b x on inside is that =
    ap (labels_on way) (nodes_Wrap e n b x is that) ∙ labels_root_label way n _ on ∙ ap (λ ls. n ∷ ls) (labels_below way inner x inside)

pub labels_Nack : (way inner : Option Place) (e : Event) (n : ℕ) (b : Box Event Global) (x : Event) → inner ≡ way_under 0 way → e ≡ Nack n b → x ≡ b.value
    → labels_on way (nodes (tree_of e)) ≡ labels_on inner (nodes (tree_of x))
labels_Nack way inner e n b x inside is that = ap (labels_on way) (nodes_Nack e n b x is that) ∙ labels_root_nack way n _ ∙ labels_below way inner x inside

pub nacks_Wrap : (way inner : Option Place) (e : Event) (n : ℕ) (b : Box Event Global) (x : Event) → inner ≡ way_under 0 way → e ≡ Wrap n b → x ≡ b.value
    → nacks_off way (nodes (tree_of e)) ≡ nacks_off inner (nodes (tree_of x))
nacks_Wrap way inner e n b x inside is that = ap (nacks_off way) (nodes_Wrap e n b x is that) ∙ nacks_root_label way n _ ∙ nacks_below way inner x inside

-- a nack number on the way is not raised
pub nacks_Nack_on : (way inner : Option Place) (e : Event) (n : ℕ) (b : Box Event Global) (x : Event)
    → is_some way ≡ true → inner ≡ way_under 0 way → e ≡ Nack n b → x ≡ b.value
    → nacks_off way (nodes (tree_of e)) ≡ nacks_off inner (nodes (tree_of x))
nacks_Nack_on way inner e n b x on inside is that = ap (nacks_off way) (nodes_Nack e n b x is that) ∙ nacks_root_on way n _ on ∙ nacks_below way inner x inside

-- off the way it is raised, before those below it
pub nacks_Nack_off : (way inner : Option Place) (e : Event) (n : ℕ) (b : Box Event Global) (x : Event)
    → is_some way ≡ false → inner ≡ way_under 0 way → e ≡ Nack n b → x ≡ b.value
    → nacks_off way (nodes (tree_of e)) ≡ n ∷ nacks_off inner (nodes (tree_of x))
nacks_Nack_off way inner e n b x off inside is that =
    ap (nacks_off way) (nodes_Nack e n b x is that) ∙ nacks_root_off way n _ off ∙ ap (λ ls. n ∷ ls) (nacks_below way inner x inside)

pub asks_more : (items : List Event) (i : ℕ) (x : Event) → i < length items → x ≡ get_or items i x
    → count_by is_ask (bases_in (rest_nodes i items)) ≡ count_by is_ask (bases_of (tree_of x)) + count_by is_ask (bases_in (rest_nodes (i + 1) items))
asks_more items i x h is =
    ap (count_by is_ask) (bases_more items i x h is)
    ∙ sum_by-append (λ kind. cond (is_ask kind) 1 0) (bases_of (tree_of x)) (bases_in (rest_nodes (i + 1) items))

-- a base that is pushed
pub pushed_base : (e : Event) (old new : List Base) (b : Base) → new ≡ old ++ b ∷ [] → tree_of e ≡ leaf (kind_of b)
    → map kind_of new ≡ map kind_of old ++ bases_of (tree_of e)
pushed_base e old new b pushed is = rw (pushed, is) (map-append kind_of old (b ∷ []))

-- a way as references is there exactly if the way of their values is
pub some_now : (way : Option (Bor Place)) (b : Bool) → is_some way ≡ b → is_some (option_map (λ s. s.now) way) ≡ b
some_now None b e = e
some_now (Some s) b e = e

-- on no way there is no label
pub no_labels : (way : Option (Bor Place)) (e : Event) (found : List ℕ) → is_some way ≡ false
    → found ≡ found ++ labels_on (option_map (λ s. s.now) way) (nodes (tree_of e))
no_labels None e found off = sym (append-nil found) ∙ ap (λ ls. found ++ ls) (sym (labels_on_none (nodes (tree_of e))))
no_labels (Some s) e found off = cc

-- the next member has a base that is ready, and so have those that are left
pub ready_here : (clock : ℕ) (items : List Event) (i : ℕ) (x : Event) (found : Bool) → i < length items
    → x ≡ get_or items i x → found ≡ list_any (is_ready clock) (bases_of (tree_of x)) → found ≡ true
    → true ≡ list_any (is_ready clock) (bases_in (rest_nodes i items))
ready_here clock items i x found h is told e =
    sym (any_more (is_ready clock) _ (bases_of (tree_of x)) (bases_in (rest_nodes (i + 1) items)) (bases_more items i x h is)
    ∙ ap (λ b. b || list_any (is_ready clock) (bases_in (rest_nodes (i + 1) items))) (sym told ∙ e))

-- the next member has none, and the members after it have one exactly if those that are left do
pub ready_after : (clock : ℕ) (items : List Event) (i : ℕ) (x : Event) (found : Bool) → i < length items
    → x ≡ get_or items i x → found ≡ list_any (is_ready clock) (bases_of (tree_of x)) → found ≡ false
    → list_any (is_ready clock) (bases_in (rest_nodes (i + 1) items)) ≡ list_any (is_ready clock) (bases_in (rest_nodes i items))
ready_after clock items i x found h is told e =
    sym (any_more (is_ready clock) _ (bases_of (tree_of x)) (bases_in (rest_nodes (i + 1) items)) (bases_more items i x h is)
    ∙ ap (λ b. b || list_any (is_ready clock) (bases_in (rest_nodes (i + 1) items))) (sym told ∙ e))
