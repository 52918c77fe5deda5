-- Codes of a base's kind and of a tree, for a model's value that holds one.
use Rattle.std.specs.Prelude.{◌≡◌, ℕ, ◌⊎◌, refl}
use Rattle.std.specs.Coded.{Coded, code_by, coded⊎, coded_ℕ}
use Rattle.std.proofs.Common.{inl, inr, ap}
use base.Stored.{Gv, gnil, gnum, gcons, coded_unit}
use Rattle.linda_tuple.specs.declared.atom.Atom.{Atom}
use Rattle.linda_tuple.specs.Template.{Template}
use Rattle.linda_tuple.specs.Codes.{atom_code, template_code}
use Rattle.linda_event.specs.Trees.{Kind, input, read, alarm, always, never, Tree, leaf, choose}
use Rattle.linda_event.specs.Trees.{wrap, nack, Trees, no_trees, and_tree}

abbrev pub kind_parts : Kind → (Template ⊎ Template) ⊎ (ℕ ⊎ (Atom ⊎ Unit {0}))
kind_parts (input template) = inl (inl template)
kind_parts (read template) = inl (inr template)
kind_parts (alarm time) = inr (inl time)
kind_parts (always value) = inr (inr (inl value))
kind_parts never = inr (inr (inr tt))

abbrev pub kind_of_parts : (Template ⊎ Template) ⊎ (ℕ ⊎ (Atom ⊎ Unit {0})) → Kind
kind_of_parts (inl (inl template)) = input template
kind_of_parts (inl (inr template)) = read template
kind_of_parts (inr (inl time)) = alarm time
kind_of_parts (inr (inr (inl value))) = always value
kind_of_parts (inr (inr (inr _))) = never

abbrev pub kind_again : (k : Kind) → kind_of_parts (kind_parts k) ≡ k
kind_again (input template) = refl
kind_again (read template) = refl
kind_again (alarm time) = refl
kind_again (always value) = refl
kind_again never = refl

-- the code of a kind
abbrev pub kind_code : Coded Kind
kind_code =
    code_by ((Template ⊎ Template) ⊎ (ℕ ⊎ (Atom ⊎ Unit {0})))
    (coded⊎ (coded⊎ template_code template_code)
    (coded⊎ coded_ℕ (coded⊎ atom_code coded_unit))) kind_parts kind_of_parts kind_again

abbrev mutual
  pub tree_stored : Tree → Gv
  tree_stored (leaf kind) = gcons gnil (kind_code.code kind)
  tree_stored (choose members) = gcons (gnum 0) (trees_stored members)
  tree_stored (wrap label below) = gcons (gcons gnil (gnum label)) (tree_stored below)
  tree_stored (nack number below) = gcons (gcons (gnum 0) (gnum number)) (tree_stored below)

  pub trees_stored : Trees → Gv
  trees_stored no_trees = gnil
  trees_stored (and_tree t ts) = gcons (tree_stored t) (trees_stored ts)

mutual
  pub tree_one : (t u : Tree) → tree_stored t ≡ tree_stored u → t ≡ u
  tree_one (leaf k) (leaf l) e = ap leaf (kind_code.inj k l cc)
  tree_one (leaf k) (choose us) e = cc
  tree_one (leaf k) (wrap n u) e = cc
  tree_one (leaf k) (nack n u) e = cc
  tree_one (choose ts) (leaf l) e = cc
  tree_one (choose ts) (choose us) e = ap choose (trees_one ts us cc)
  tree_one (choose ts) (wrap n u) e = cc
  tree_one (choose ts) (nack n u) e = cc
  tree_one (wrap m t) (leaf l) e = cc
  tree_one (wrap m t) (choose us) e = cc
  tree_one (wrap m t) (wrap n u) e =
      let below : t ≡ u = tree_one t u cc in let label : m ≡ n = cc in cc
  tree_one (wrap m t) (nack n u) e = cc
  tree_one (nack m t) (leaf l) e = cc
  tree_one (nack m t) (choose us) e = cc
  tree_one (nack m t) (wrap n u) e = cc
  tree_one (nack m t) (nack n u) e =
      let below : t ≡ u = tree_one t u cc in let number : m ≡ n = cc in cc

  trees_one : (ts us : Trees) → trees_stored ts ≡ trees_stored us → ts ≡ us
  trees_one no_trees no_trees e = refl
  trees_one no_trees (and_tree u us) e = cc
  trees_one (and_tree t ts) no_trees e = cc
  trees_one (and_tree t ts) (and_tree u us) e =
      let first : t ≡ u = tree_one t u cc in
      let rest : ts ≡ us = trees_one ts us cc in
      cc

-- the code of a tree
abbrev pub tree_code : Coded Tree
tree_code = record { code = tree_stored; inj = tree_one }
