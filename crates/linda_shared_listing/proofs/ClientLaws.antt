-- The clients that were listed so far, and the page that ends there.
use Rattle.std.proofs.Common.{◌≡◌, ◌≤◌, ◌<◌, ◌++◌, ◌+◌, ℕ, suc, true, List, [], ◌∷◌, Option, Some, None, length}
use Rattle.std.proofs.Common.{length-append, map, max, is_some, refl, sym, ap, ◌∙◌, subst, arith}
use Rattle.std.specs.Prelude.{IfSome, IfNone, All, min}
use Rattle.std.specs.Ordering.{nat_cmp}
use Rattle.std.specs.FinMap.{FinMap}
use Rattle.std.proofs.lemmas.List.{map-append, length-map}
use Rattle.std.proofs.lemmas.List.Elements.{All-nil, All-push}
use Rattle.linda_wire.specs.declared.reply.Reply.{Reply}
use Rattle.linda_book.specs.Entries.{Entry}
use Rattle.linda_hold.specs.Holds.{HeldFor}
use Rattle.linda_hold.specs.Waits.{Wait}
use Rattle.linda_snap.specs.Rising.{first_after}
use Rattle.linda_shared_outbox.specs.Waiting.{IsAbove}
use Rattle.linda_shared_listing.specs.Firsts.{IsNext, AreFirst}
use Rattle.linda_shared_listing.specs.declared.limits.TheConstants.{MOST_LOOKED}
use Rattle.linda_shared_listing.specs.declared.listed.ListedClient.{ListedClient}
use Rattle.linda_shared_listing.specs.declared.listed.ClientPage.{ClientPage}
use Rattle.linda_shared_listing.specs.Clients.{is_listed, client_of, timeless, IsClientRow, IsClientPage}
use Rattle.linda_shared_listing.proofs.FirstLaws.{one_more, onward}

-- The numbers of the clients of some rows.
abbrev pub numbers : List ListedClient → List ℕ
numbers rows = map (λ (row : ListedClient). row.client) rows

-- A client that is not below the first one after the last is above the last, and the other way round.
above_last : (last : Option ℕ) (client : ℕ) → first_after last ≤ client → IsAbove last client
above_last None client le = tt
above_last (Some n) client le = omega (arith, le)

from_first : (last : Option ℕ) (client : ℕ) → IsAbove last client → first_after last ≤ client
from_first None client above = omega arith
from_first (Some n) client above = omega (arith, above)

-- The next client that has an outbox, as the outboxes say it.
pub open_is : (boxes : ℕ → Option (List Reply)) (last next : Option ℕ) → IfSome next (λ n. is_some (boxes n) ≡ true) → IfSome next (λ n. IsAbove last n)
    → IfSome next (λ n. (c : ℕ) → IsAbove last c → c < n → boxes c ≡ None)
    → IfNone next ((c : ℕ) → IsAbove last c → boxes c ≡ None) → IsNext (λ c. is_some (boxes c)) (first_after last) next
open_is boxes last None found above least none = λ c from. ap is_some (none c (above_last last c from))
open_is boxes last (Some n) found above least none = record {
  above = from_first last n above;
  so = found;
  least = λ c from before. ap is_some (least c (above_last last c from) before);
}

module _ (book : FinMap nat_cmp Entry) (boxes : ℕ → Option (List Reply)) (holds : HeldFor) (waits : List Wait) where
  -- The rows have the clients before `next`, as many as were counted.
  pub record AreListed (from : ℕ) (next : Option ℕ) (count : ℕ) (rows : List ListedClient) : Type 0 where
    pub first : AreFirst (is_listed book boxes) from (numbers rows) next
    pub all : All (IsClientRow book boxes holds waits) rows
    pub many : length rows ≡ count

  pub none_listed : (from first : ℕ) (next : Option ℕ) (rows : List ListedClient) → rows ≡ []
      → first ≡ from → IsNext (is_listed book boxes) first next → AreListed from next 0 rows
  none_listed from first next rows none same is =
      subst (λ (rs : List ListedClient). AreListed from next 0 rs) (sym none)
      (record { first = subst (λ n. IsNext (is_listed book boxes) n next) same is; all = All-nil (IsClientRow book boxes holds waits); many = refl })

  pub one_listed : (from count client : ℕ) (next : Option ℕ) (rows new : List ListedClient) (row : ListedClient) → AreListed from (Some client) count rows
      → new ≡ rows ++ row ∷ [] → timeless row ≡ client_of book boxes holds waits client
      → IsNext (is_listed book boxes) (suc client) next → AreListed from next (count + 1) new
  one_listed from count client next rows new row far put is later =
      let named : row.client ≡ client = ap (λ (r : ListedClient). r.client) is in
      let own : IsClientRow book boxes holds waits row = subst (λ n. timeless row ≡ client_of book boxes holds waits n) (sym named) is in
      let longer : length (rows ++ row ∷ []) ≡ count + 1 = omega (arith, far.many, length-append rows (row ∷ [])) in
      subst (λ (rs : List ListedClient). AreListed from next (count + 1) rs) (sym put) (record {
        first =
            subst (λ ns. AreFirst (is_listed book boxes) from ns next)
            (sym (map-append (λ (r : ListedClient). r.client) rows (row ∷ []) ∙ ap (λ n. numbers rows ++ n ∷ []) named))
            (one_more (is_listed book boxes) from (numbers rows) client next far.first later);
        all = All-push (IsClientRow book boxes holds waits) rows row far.all own;
        many = longer;
      })

  some_rows : (next : Option ℕ) (limit count : ℕ) (rows : List ListedClient) → length rows ≡ count
      → IfSome next (λ n. count ≡ min (max limit 1) MOST_LOOKED) → IfSome next (λ n. 0 < length (numbers rows))
  some_rows None limit count rows many full = tt
  some_rows (Some n) limit count rows many full = omega (arith, many, full, length-map rows (λ (r : ListedClient). r.client))

  all_rows : (next : Option ℕ) (most count long : ℕ) → long ≡ count → IfSome next (λ n. count ≡ most) → IfSome next (λ n. long ≡ most)
  all_rows None most count long many full = tt
  all_rows (Some n) most count long many full = many ∙ full

  pub page_listed : (from limit count : ℕ) (page : ClientPage) → AreListed from page.next count page.rows.items → count ≤ min (max limit 1) MOST_LOOKED
      → IfSome page.next (λ n. count ≡ min (max limit 1) MOST_LOOKED) → IsClientPage book boxes holds waits from limit page
  page_listed from limit count page far few full = record {
    first = far.first;
    rows = far.all;
    few = omega (arith, far.many, few);
    within = omega (arith, far.many, few);
    full = all_rows page.next (min (max limit 1) MOST_LOOKED) count (length page.rows.items) far.many full;
    onward = onward (is_listed book boxes) from (numbers page.rows.items) page.next far.first (some_rows page.next limit count page.rows.items far.many full);
  }
