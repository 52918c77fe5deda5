-- What is under a head, and what is not, as the two maps of heads say.
use Rattle.std.proofs.Common.{◌≡◌, ◌<◌, inl, inr, ℕ, Option, Some, None, sym, ap, subst, ◌∙◌, nat_cmp}
use Rattle.std.specs.Prelude.{⊤}
use Rattle.std.specs.declared.cmp.Ordering.TheVariants.{Less}
use Rattle.std.specs.Borrow.{Bor}
use Rattle.std.specs.Cmp.{nat_cmp_is}
use Rattle.std.specs.BTreeMap as tree
use Rattle.linda_tuple.specs.declared.atom.Atom.{Atom}
use Rattle.linda_tuple.specs.contracts.atom.AtomOrd.TheImpl as atom_ord
use Rattle.linda_bag.specs.declared.tag_index.TagIndex.{TagIndex}
use Rattle.linda_bag.specs.declared.tag_index.Counts.{Counts}
use Rattle.linda_bag.specs.Filing.{Rows, IsBare, IsIndexed, row_at, placed, rows_at}
use Rattle.linda_bag.specs.TagIndex.{HasCounts, HasTags, with_head, IsAfter, IsBefore}
use Rattle.linda_bag.proofs.BareLaws.{own_key}
use Rattle.linda_bag.proofs.OrderLaws.{number_itself, atoms_turn}

module _ {T : Type 0} (tag_of : T → Atom) (count_of : T → ℕ) {S : Type 0} (Has : S → Rows T
    → Type 0) (tag_index : TagIndex S) (rows : Rows T) (filed : HasTags tag_of count_of Has tag_index rows) (tag : Atom) where
  abbrev tagged : Rows T
  tagged = rows_at atom_ord.ghosts.cmp (λ row. Some (tag_of row)) tag rows

  -- There is no such tag.
  pub no_tag : tree.get atom_ord.ghosts.cmp tag_index.tags tag ≡ None → (count : ℕ) → IsBare (with_head tag_of count_of tag count rows)
  no_tag none count id =
      let bare : IsBare tagged = subst (λ s. IsIndexed (HasCounts count_of Has) s tagged) none (filed tag) in
      ap (λ o. row_at nat_cmp count (placed (λ row. Some (count_of row)) o)) (bare id)

  module _ (counts : Counts S) (there : tree.get atom_ord.ghosts.cmp tag_index.tags tag ≡ Some counts) where
    known : IsIndexed (HasCounts count_of Has) (Some counts) tagged
    known = subst (λ s. IsIndexed (HasCounts count_of Has) s tagged) there (filed tag)

    -- No row of the tag has as many fields.
    pub no_count : (count : ℕ) → tree.get nat_cmp counts.groups count ≡ None → IsBare (with_head tag_of count_of tag count rows)
    no_count count none = subst (λ s. IsIndexed Has s (with_head tag_of count_of tag count rows)) none (known.0 count)

    -- Some have.
    pub at_head : (count : ℕ) (id_index : S) → tree.get nat_cmp counts.groups count ≡ Some id_index
        → IsIndexed Has (Some id_index) (with_head tag_of count_of tag count rows)
    at_head count id_index there = subst (λ s. IsIndexed Has s (with_head tag_of count_of tag count rows)) there (known.0 count)

    -- If there is a tag, there is a row of it.
    pub some_count : ((count : ℕ) → tree.get nat_cmp counts.groups count ≡ None) → ⊥
    some_count none = known.1 (λ id. own_key nat_cmp number_itself Has count_of (tagged id) (λ q. no_count q (none q) id))

-- Fewer fields are below more.
pub fewer : (n m : ℕ) → n < m → nat_cmp n m ≡ Less
fewer n m less = sym (nat_cmp_is n m Less less)

module _ {T : Type 0} (tag_of : T → Atom) (count_of : T → ℕ) {S : Type 0} (Has : S → Rows T
    → Type 0) (tag_index : TagIndex S) (rows : Rows T) (filed : HasTags tag_of count_of Has tag_index rows) where
  -- Before the least number of fields of the least tag there is nothing.
  pub tag_least : (last : Option (Bor Atom)) (found : Atom) (counts : Counts S) (n : ℕ) → tree.get atom_ord.ghosts.cmp tag_index.tags found ≡ Some counts
      → ((q : Atom) → IsAfter atom_ord.ghosts.cmp last q → atom_ord.ghosts.cmp q found ≡ Less → tree.get atom_ord.ghosts.cmp tag_index.tags q ≡ None)
      → ((q : ℕ) → ⊤ → nat_cmp q n ≡ Less → tree.get nat_cmp counts.groups q ≡ None) → (tag : Atom) (count : ℕ)
      → IsAfter atom_ord.ghosts.cmp last tag → IsBefore tag count found n → IsBare (with_head tag_of count_of tag count rows)
  tag_least last found counts n there tags numbers tag count past (inl less) = no_tag tag_of count_of Has tag_index rows filed tag (tags tag past less) count
  tag_least last found counts n there tags numbers tag count past (inr same) =
      subst (λ t. IsBare (with_head tag_of count_of t count rows)) (sym same.0)
      (no_count tag_of count_of Has tag_index rows filed found counts there count (numbers count tt (fewer count n same.1)))

module _ {T : Type 0} (tag_of : T → Atom) (count_of : T → ℕ) (rows : Rows T) (own : Atom) (last : ℕ) where
  -- Between two heads of one tag are heads of that tag only.
  pub count_least : (found : Atom) (n : ℕ) → found ≡ own → ((count : ℕ) → last < count → count < n → IsBare (with_head tag_of count_of own count rows))
      → (tag : Atom) (count : ℕ) → IsBefore own last tag count → IsBefore tag count found n → IsBare (with_head tag_of count_of tag count rows)
  count_least found n same least tag count (inl past) (inl less) = absurd (atoms_turn own tag past (subst (λ t. atom_ord.ghosts.cmp tag t ≡ Less) same less))
  count_least found n same least tag count (inl past) (inr is) =
      let turned = subst (λ t. atom_ord.ghosts.cmp own t ≡ Less) (is.0 ∙ same) past in
      absurd (atoms_turn own own turned turned)
  count_least found n same least tag count (inr is) (inl less) =
      let turned = subst (λ t. atom_ord.ghosts.cmp own t ≡ Less) same (subst (λ t. atom_ord.ghosts.cmp t found ≡ Less) (sym is.0) less) in
      absurd (atoms_turn own own turned turned)
  count_least found n same least tag count (inr is) (inr was) = subst (λ t. IsBare (with_head tag_of count_of t count rows)) is.0 (least count is.1 was.1)

  -- After the last head of a tag are heads of later tags only.
  pub past_tag : ((count : ℕ) → last < count → IsBare (with_head tag_of count_of own count rows)) → (tag : Atom) (count : ℕ)
      → (atom_ord.ghosts.cmp own tag ≡ Less → IsBare (with_head tag_of count_of tag count rows))
      → IsBefore own last tag count → IsBare (with_head tag_of count_of tag count rows)
  past_tag none tag count later (inl less) = later less
  past_tag none tag count later (inr is) = subst (λ t. IsBare (with_head tag_of count_of t count rows)) is.0 (none count is.1)
