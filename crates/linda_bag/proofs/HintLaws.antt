-- What becomes of right hints if one of them changes, if a tuple is held or free again, and if the bag changes.
use Rattle.std.proofs.Common.{◌≡◌, ℕ, ◌≤◌, ◌<◌, ◌⊎◌, inl, inr, Bool, true, false, cond, Option, None, Some, is_some}
use Rattle.std.proofs.Common.{IfSome, IfNone, unwrap_or, refl, sym, ap, subst, ◌∙◌, true≢false, arith}
use Rattle.std.specs.Bool.{Decides}
use Rattle.std.specs.Ordering.{is_eq}
use Rattle.std.specs.FinMap as map
use Rattle.std.specs.BTreeMap as tree
use Rattle.std.proofs.lemmas.Bool.{cases_eq, cases_lt}
use Rattle.std.proofs.lemmas.Bool.Decides.{Decides-and, Decides-like}
use Rattle.std.specs.Cmp.Lexicographic.{pointwise, pointwise_decides}
use Rattle.std.proofs.lemmas.Map.Lookups.{exact_signed, exact_bytes}
use Rattle.linda_tuple.specs.declared.atom.Atom.{Atom}
use Rattle.linda_tuple.specs.declared.atom.Atom.TheVariants as atoms
use Rattle.linda_tuple.specs.contracts.atom.AtomOrd.TheImpl as atom_ord
use Rattle.linda_tuple.specs.Tuple.{Tuple}
use Rattle.linda_tuple.specs.Template.{Template}
use Rattle.linda_tuple.specs.Sameness.{same_atom, same_pattern, same_template, same_atom-decides, same_pattern-decides}
use Rattle.linda_tuple.proofs.MatchingLaws.{matched}
use Rattle.linda_bag.specs.FreeMatch.{IsFreeMatch}
use Rattle.linda_bag.specs.declared.tag_hints.Hint.{Hint}
use Rattle.linda_bag.specs.declared.tag_hints.TagHints.{TagHints}
use Rattle.linda_bag.specs.SearchHints.{Bagged, Covers, IsRight, AreBegun, Begins}
use Rattle.linda_bag.proofs.FilingLaws.{tied}
use Rattle.linda_bag.proofs.OrderLaws.{atom_itself}

-- Templates are equal exactly if the test says so.
template_decides : (a b : Template) → Decides (same_template a b) (a ≡ b)
template_decides a b =
    Decides-like (same_template a b) (λ both i. record { tag = both.0 i; fields = both.1 i })
    (λ same. (ap (λ (t : Template). t.tag) same, ap (λ (t : Template). t.fields) same))
    (Decides-and (same_atom a.tag b.tag) (pointwise same_pattern a.fields b.fields)
    (same_atom-decides a.tag b.tag) (pointwise_decides same_pattern-decides a.fields b.fields))

pub one_template : (a b : Template) → same_template a b ≡ true → a ≡ b
one_template a b is = (template_decides a b).0 is

exact_truths : (a b : Bool) → is_eq (atom_ord.ghosts.cmp (atoms.Bool a) (atoms.Bool b)) ≡ true → a ≡ b
exact_truths true true tie = refl
exact_truths true false tie = absurd (true≢false (sym tie))
exact_truths false true tie = absurd (true≢false (sym tie))
exact_truths false false tie = refl

-- Atoms that the order ties are one.
pub exact_atoms : (a b : Atom) → is_eq (atom_ord.ghosts.cmp a b) ≡ true → a ≡ b
exact_atoms (atoms.Int m) (atoms.Int n) tie = ap atoms.Int (exact_signed m n (tied _ tie))
exact_atoms (atoms.Int m) (atoms.Text t) tie = absurd (true≢false (sym tie))
exact_atoms (atoms.Int m) (atoms.Bool b) tie = absurd (true≢false (sym tie))
exact_atoms (atoms.Text s) (atoms.Int n) tie = absurd (true≢false (sym tie))
exact_atoms (atoms.Text s) (atoms.Text t) tie = ap atoms.Text (exact_bytes s t (tied _ tie))
exact_atoms (atoms.Text s) (atoms.Bool b) tie = absurd (true≢false (sym tie))
exact_atoms (atoms.Bool a) (atoms.Int n) tie = absurd (true≢false (sym tie))
exact_atoms (atoms.Bool a) (atoms.Text t) tie = absurd (true≢false (sym tie))
exact_atoms (atoms.Bool a) (atoms.Bool b) tie = ap atoms.Bool (exact_truths a b tie)

abbrev start_at : tree.BTreeMap Atom Hint → Atom → Option Hint
start_at m q = tree.get atom_ord.ghosts.cmp m q

pub IfNone_then : {X P Q : Type 0} (r : Option X) → IfNone r P → (P → Q) → IfNone r Q
IfNone_then None p then = then p
IfNone_then (Some x) p then = tt

pub IfNone_any : {X P : Type 0} (r : Option X) → P → IfNone r P
IfNone_any None p = p
IfNone_any (Some x) p = tt

some_same : {A : Type 0} {x y : A} → Some x ≡ Some y → x ≡ y
some_same {x = x} e = ap (λ o. unwrap_or o x) e

-- One hint was set: what holds of it, and of the others that were there, holds of all.
module _ (P : Atom → Hint → Type 0) (old new : tree.BTreeMap Atom Hint) (k : Atom) (hint : Hint) (updates : (q : Atom)
    → start_at new q ≡ cond (is_eq (atom_ord.ghosts.cmp k q)) (Some hint) (start_at old q)) where
  pub all_set : ((q : Atom) → k ≡ q → P q hint) → ((q : Atom) (s : Hint) → is_eq (atom_ord.ghosts.cmp k q) ≡ false → start_at old q ≡ Some s → P q s)
      → (q : Atom) (s : Hint) → start_at new q ≡ Some s → P q s
  all_set at others q s there =
      elim (is_eq (atom_ord.ghosts.cmp k q)) as (λ b. is_eq (atom_ord.ghosts.cmp k q) ≡ b → P q s) [
        | true ↦ λ tie. subst (P q) (some_same (sym (updates q ∙ ap (λ b. cond b (Some hint) (start_at old q)) tie) ∙ there)) (at q (exact_atoms k q tie))
        | false ↦ λ off. others q s off (sym (updates q ∙ ap (λ b. cond b (Some hint) (start_at old q)) off) ∙ there)
      ] refl

abbrev IsKept : Bagged → (ℕ → Bool) → ℕ → Atom → Hint → Type 0
IsKept bag passed next q hint = (hint.template.tag ≡ q) × IsRight bag passed next hint

-- A hint was lent and written again.
module _ (old new : TagHints) (k : Atom) (hint after : Hint) (there : Some hint ≡ start_at old.by_tag k) (updates : (q : Atom)
    → start_at new.by_tag q ≡ cond (is_eq (atom_ord.ghosts.cmp k q)) (Some after) (start_at old.by_tag q)) (same : after.template ≡ hint.template) where
  -- its search begins further on, if no free match is before
  pub moved_on : (template : Template) (from : ℕ) → hint.template ≡ template → ((next : ℕ) → from ≤ next → hint.from ≤ next → after.from ≤ next)
      → ((j : ℕ) → from ≤ j → Covers hint j → Covers after j) → Begins template from old new
  moved_on template from is below covers bag passed next low none rights =
      let was = rights k hint (sym there) in
      all_set (IsKept bag passed next) old.by_tag new.by_tag k after updates
      (λ q one. (
        ap (λ (t : Template). t.tag) same ∙ was.0 ∙ one,
        record {
          below = below next low was.1.below;
          each = λ j free.
              let at = subst (λ t. IsFreeMatch bag t passed j) same free in
              covers j (none j (subst (λ t. IsFreeMatch bag t passed j) is at)) (was.1.each j at);
        },
      ))
      (λ q s off at. rights q s at)

  pub now_held : (id : ℕ) → after.from ≡ hint.from → ((j : ℕ) → (j ≡ id → ⊥) → Covers hint j → Covers after j)
      → (bag : Bagged) (passed : ℕ → Bool) (next : ℕ) → passed id ≡ true → AreBegun bag passed next old → AreBegun bag passed next new
  now_held id from covers bag passed next held rights =
      let was = rights k hint (sym there) in
      all_set (IsKept bag passed next) old.by_tag new.by_tag k after updates
      (λ q one. (
        ap (λ (t : Template). t.tag) same ∙ was.0 ∙ one,
        record {
          below = subst (λ n. n ≤ next) (sym from) was.1.below;
          each = λ j free. covers j (λ is. true≢false (sym held ∙ ap passed (sym is) ∙ free.free))
              (was.1.each j (subst (λ t. IsFreeMatch bag t passed j) same free));
        },
      ))
      (λ q s off at. rights q s at)

module _ (bag : Bagged) (before after : ℕ → Bool) (next id : ℕ) (row : Tuple) (stored : map.get bag id ≡ Some row)
    (others : (j : ℕ) → (j ≡ id → ⊥) → after j ≡ false → before j ≡ false) where
  still_free : (t : Template) (j : ℕ) → (j ≡ id → ⊥) → IsFreeMatch bag t after j → IsFreeMatch bag t before j
  still_free t j apart free = record { row = free.row; stored = free.stored; matches = free.matches; free = others j apart free.free }

  -- A hint of another tag has nothing to do with the tuple.
  other_tag : (q : Atom) (s : Hint) → is_eq (atom_ord.ghosts.cmp row.tag q) ≡ false → IsKept bag before next q s → IsKept bag after next q s
  other_tag q s off was = (
    was.0,
    record {
      below = was.1.below;
      each = λ j free.
          elim (cases_eq j id) [
            | inl is ↦
                let one = some_same (sym free.stored ∙ ap (map.get bag) is ∙ stored) in
                let tag = sym (ap (λ (t : Tuple). t.tag) one) ∙ sym (matched s.template free.row free.matches).tag ∙ was.0 in
                absurd (true≢false (sym (subst (λ x. is_eq (atom_ord.ghosts.cmp row.tag x) ≡ true) tag (atom_itself row.tag)) ∙ off))
            | inr apart ↦ was.1.each j (still_free s.template j apart free)
          ];
    },
  )

  pub now_free : (old new : TagHints) (k : Atom) (hint now : Hint) → k ≡ row.tag → Some hint ≡ start_at old.by_tag k
      → ((q : Atom) → start_at new.by_tag q ≡ cond (is_eq (atom_ord.ghosts.cmp k q)) (Some now) (start_at old.by_tag q))
      → now.template ≡ hint.template → now.from ≤ hint.from → ((j : ℕ) → Covers hint j → Covers now j) → Covers now id
      → AreBegun bag before next old → AreBegun bag after next new
  now_free old new k hint now own there updates same below covers here rights =
      let was = rights k hint (sym there) in
      let low = was.1.below in
      all_set (IsKept bag after next) old.by_tag new.by_tag k now updates
      (λ q one. (
        ap (λ (t : Template). t.tag) same ∙ was.0 ∙ one,
        record {
          below = omega arith;
          each = λ j free.
              elim (cases_eq j id) [
                | inl is ↦ subst (Covers now) (sym is) here
                | inr apart ↦ covers j (was.1.each j (subst (λ t. IsFreeMatch bag t before j) same (still_free now.template j apart free)))
              ];
        },
      ))
      (λ q s off at. other_tag q s (subst (λ x. is_eq (atom_ord.ghosts.cmp x q) ≡ false) own off) (rights q s at))

  pub free_of_none : (old : TagHints) (k : Atom) → k ≡ row.tag → None ≡ start_at old.by_tag k → AreBegun bag before next old → AreBegun bag after next old
  free_of_none old k own none rights q s there =
      elim (is_eq (atom_ord.ghosts.cmp k q)) as (λ b. is_eq (atom_ord.ghosts.cmp k q) ≡ b → IsKept bag after next q s) [
        | true ↦ λ tie. absurd (true≢false (sym (ap is_some (none ∙ ap (start_at old.by_tag) (exact_atoms k q tie) ∙ there))))
        | false ↦ λ off. other_tag q s (subst (λ x. is_eq (atom_ord.ghosts.cmp x q) ≡ false) own off) (rights q s there)
      ] refl

-- A hint was lent, and written again as it was.
pub untouched : (old new : TagHints) (k : Atom) (hint : Hint) → Some hint ≡ start_at old.by_tag k
    → ((q : Atom) → start_at new.by_tag q ≡ cond (is_eq (atom_ord.ghosts.cmp k q)) (Some hint) (start_at old.by_tag q))
    → (template : Template) (from : ℕ) → Begins template from old new
untouched old new k hint there updates template from bag passed next low none rights =
    let was = rights k hint (sym there) in
    all_set (IsKept bag passed next) old.by_tag new.by_tag k hint updates (λ q one. (was.0 ∙ one, was.1)) (λ q s off at. rights q s at)

-- What a search found is no further than each free match, so the next one may begin there.
pub low_enough : (found : Option ℕ) (low first : ℕ) (Free : ℕ → Type 0) → IfSome found (λ i. low ≤ i)
    → IfSome found (λ id. (k : ℕ) → first ≤ k → k < id → Free k → ⊥) → IfNone found ((k : ℕ) → first ≤ k → Free k → ⊥)
    → ((k : ℕ) → Free k → first ≤ k) → (k : ℕ) → Free k → low ≤ k
low_enough (Some i) low first Free is least none from k free =
    elim (cases_lt k i) [
      | inl below ↦ absurd (least k (from k free) below free)
      | inr above ↦ omega arith
    ]
low_enough None low first Free is least none from k free = absurd (none k (from k free) free)

-- A template got a hint.
pub begun : (old new : TagHints) (k : Atom) (hint : Hint) (template : Template) (from : ℕ)
    → ((q : Atom) → start_at new.by_tag q ≡ cond (is_eq (atom_ord.ghosts.cmp k q)) (Some hint) (start_at old.by_tag q))
    → k ≡ template.tag → hint.template ≡ template → hint.from ≡ from → Begins template from old new
begun old new k hint template from updates tag same is bag passed next low none rights =
    all_set (IsKept bag passed next) old.by_tag new.by_tag k hint updates
    (λ q one. (
      ap (λ (t : Template). t.tag) same ∙ sym tag ∙ one,
      record {
        below = subst (λ n. n ≤ next) (sym is) low;
        each = λ j free. inl (subst (λ n. n ≤ j) (sym is) (none j (subst (λ t. IsFreeMatch bag t passed j) same free)));
      },
    ))
    (λ q s off at. rights q s at)

-- No hint is right beside everything.
pub none_right : (m : TagHints) → ((q : Atom) → start_at m.by_tag q ≡ None) → (bag : Bagged) (passed : ℕ → Bool) (next : ℕ) → AreBegun bag passed next m
none_right m none bag passed next q s there = absurd (true≢false (ap is_some (sym there ∙ none q)))

-- Right hints stay right if tuples are added only from the next id on and no tuple below it becomes free.
pub stay_begun : (bag new : Bagged) (passed after : ℕ → Bool) (next later : ℕ) (hints : TagHints) → next ≤ later
    → ((k : ℕ) (row : Tuple) → map.get new k ≡ Some row → after k ≡ false → (next ≤ k) ⊎ ((map.get bag k ≡ Some row) × (passed k ≡ false)))
    → AreBegun bag passed next hints → AreBegun new after later hints
stay_begun bag new passed after next later hints grows known rights q s there =
    let was = rights q s there in
    let low = was.1.below in (
      was.0,
      record {
        below = omega arith;
        each = λ j free.
            elim (known j free.row free.stored free.free) [
              | inl above ↦ inl (omega arith)
              | inr same ↦ was.1.each j (record { row = free.row; stored = same.0; matches = free.matches; free = same.1 })
            ];
      },
    )
