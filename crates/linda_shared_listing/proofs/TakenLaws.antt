-- The entries that were looked at so far, and how many of them are of clients that are away and took a tuple.
use Rattle.std.proofs.Common.{◌≡◌, ◌+◌, ◌<◌, ◌≤◌, ◌++◌, ℕ, suc, Bool, true, false, cond, List, [], ◌∷◌, Option, Some}
use Rattle.std.proofs.Common.{None, length, refl, sym, ap, subst, ◌∙◌, append_assoc, length-append, arith}
use Rattle.std.specs.Prelude.{IfSome}
use Rattle.std.specs.List.{filter}
use Rattle.std.specs.Ordering.{nat_cmp}
use Rattle.std.specs.FinMap.{FinMap}
use Rattle.std.proofs.lemmas.List.Elements.{filter-append}
use Rattle.linda_wire.specs.declared.reply.Reply.{Reply}
use Rattle.linda_book.specs.Entries.{Entry}
use Rattle.linda_snap.specs.Rising.{entries_from}
use Rattle.linda_shared_listing.specs.declared.limits.TheConstants.{MOST_LOOKED}
use Rattle.linda_shared_listing.specs.declared.taken.TakenCount.{TakenCount}
use Rattle.linda_shared_listing.specs.Taken.{is_taken_by_absent, first_client, IsTakenCount}

-- What is not below a place after the first one is above the first.
pub above_first : (first from : ℕ) (o : Option ℕ) → first < from → IfSome o (λ n. from ≤ n) → IfSome o (λ n. first < n)
above_first first from None lt above = tt
above_first first from (Some n) lt above = omega (arith, lt, above)

module _ (book : FinMap nat_cmp Entry) (boxes : ℕ → Option (List Reply)) where
  -- So many entries were looked at, those before `from`, and so many of them count.
  pub record AreLooked (first from turns clients : ℕ) : Type 0 where
    pub looked : List (ℕ × Entry)
    pub parts : looked ++ entries_from from book ≡ entries_from first book
    pub many : length looked ≡ turns
    pub has : clients ≡ length (filter (is_taken_by_absent boxes) looked)
    pub few : clients ≤ turns

  pub none_looked : (first from : ℕ) → from ≡ first → AreLooked first from 0 0
  none_looked first from same = record { looked = []; parts = ap (λ n. entries_from n book) same; many = refl; has = refl; few = omega arith }

  found_more : (looked : List (ℕ × Entry)) (e : ℕ × Entry)
      → length (filter (is_taken_by_absent boxes) (looked ++ e ∷ []))
      ≡ length (filter (is_taken_by_absent boxes) looked) + length (filter (is_taken_by_absent boxes) (e ∷ []))
  found_more looked e = ap length (filter-append (is_taken_by_absent boxes) looked (e ∷ []))
      ∙ length-append (filter (is_taken_by_absent boxes) looked) (filter (is_taken_by_absent boxes) (e ∷ []))

  one_or_none : (e : ℕ × Entry) (b : Bool) → length (cond b (e ∷ []) []) ≡ cond b 1 0
  one_or_none e true = refl
  one_or_none e false = refl

  at_most_one : (b : Bool) → cond b 1 0 ≤ 1
  at_most_one true = omega arith
  at_most_one false = omega arith

  pub one_looked : (first from turns clients more : ℕ) (e : ℕ × Entry) → AreLooked first from turns clients
      → entries_from from book ≡ e ∷ entries_from (suc e.0) book → more ≡ cond (is_taken_by_absent boxes e) 1 0
      → AreLooked first (suc e.0) (turns + 1) (clients + more)
  one_looked first from turns clients more e far next is =
      let one : length (filter (is_taken_by_absent boxes) (e ∷ [])) ≡ more = one_or_none e (is_taken_by_absent boxes e) ∙ sym is in
      let small : more ≤ 1 = subst (λ n. n ≤ 1) (sym is) (at_most_one (is_taken_by_absent boxes e)) in
      record {
        looked = far.looked ++ e ∷ [];
        parts = append_assoc far.looked (e ∷ []) (entries_from (suc e.0) book) ∙ ap (λ l. far.looked ++ l) (sym next) ∙ far.parts;
        many = length-append far.looked (e ∷ []) ∙ ap (λ n. n + 1) far.many;
        has = omega (arith, far.has, one, found_more far.looked e);
        few = omega (arith, far.few, small);
      }

  pub count_so_far : (first from turns : ℕ) (count : TakenCount) → AreLooked first from turns count.clients → turns ≤ MOST_LOOKED
      → count.next ≡ first_client (entries_from from book) → IfSome count.next (λ client. first < client) → IsTakenCount book boxes first count
  count_so_far first from turns count far few next onward = record {
    looked = far.looked;
    later = entries_from from book;
    parts = far.parts;
    few = subst (λ n. n ≤ MOST_LOOKED) (sym far.many) few;
    clients = far.has;
    next = next;
    onward = onward;
  }
