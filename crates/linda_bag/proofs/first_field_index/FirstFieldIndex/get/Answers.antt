use Rattle.std.proofs.Common.{◌≡◌, int_cmp, sym, subst}
use Rattle.std.specs.BTreeMap as tree
use Rattle.linda_tuple.specs.contracts.atom.AtomOrd.TheImpl as atom_ord
use Rattle.linda_bag.specs.Filing.{IsIndexed, row_at, rows_at, placed}
use Rattle.linda_bag.specs.Ids.{IsOf}
use Rattle.linda_bag.specs.Ints.{ids_at}
use Rattle.linda_bag.specs.FirstFieldIndex.{int_of, other_of}
use Rattle.linda_bag.proofs.FirstFieldLaws.{bool_first, text_first, int_first}
use Rattle.linda_bag.proofs.first_field_index.FirstFieldIndex.get.Goals as goal

pub returns-in-Bool : goal.returns-in-Bool
returns-in-Bool g c = λ rows known.
    let first = c.args.first.now in
    subst (λ o. IsIndexed IsOf o (rows_at atom_ord.ghosts.cmp g.R.Tagged.first_of first rows)) (sym c.get-in-Bool.ensures.value)
    (subst (IsIndexed IsOf (tree.get atom_ord.ghosts.cmp c.args.self.now.others first))
    (λ j. λ x. subst (λ v. row_at atom_ord.ghosts.cmp v (placed (other_of g.R.Tagged.first_of) (rows x)) ≡ row_at atom_ord.ghosts.cmp v
    (placed g.R.Tagged.first_of (rows x))) (sym c.in-Bool.is) (bool_first g.R.Tagged.first_of c.in-Bool.field-0 (rows x)) j)
    (known.1 first))

pub returns-in-Text : goal.returns-in-Text
returns-in-Text g c = λ rows known.
    let first = c.args.first.now in
    subst (λ o. IsIndexed IsOf o (rows_at atom_ord.ghosts.cmp g.R.Tagged.first_of first rows)) (sym c.get.ensures.value)
    (subst (IsIndexed IsOf (tree.get atom_ord.ghosts.cmp c.args.self.now.others first))
    (λ j. λ x. subst (λ v. row_at atom_ord.ghosts.cmp v (placed (other_of g.R.Tagged.first_of) (rows x)) ≡ row_at atom_ord.ghosts.cmp v
    (placed g.R.Tagged.first_of (rows x))) (sym c.in-Text.is) (text_first g.R.Tagged.first_of c.in-Text.field-0 (rows x)) j)
    (known.1 first))

pub returns-in-Int : goal.returns-in-Int
returns-in-Int g c = λ rows known.
    let n = c.in-Int.int in
    subst (λ o. IsIndexed IsOf o (rows_at atom_ord.ghosts.cmp g.R.Tagged.first_of c.args.first.now rows)) (sym c.find.ensures)
    (subst (IsIndexed IsOf (ids_at c.args.self.now.ints n))
    (λ j. λ x. subst (λ v. row_at int_cmp n (placed (int_of g.R.Tagged.first_of) (rows x)) ≡ row_at atom_ord.ghosts.cmp v
    (placed g.R.Tagged.first_of (rows x))) (sym c.in-Int.is) (int_first g.R.Tagged.first_of n (rows x)) j)
    (known.0 n))
