-- The holds of a client: the ids under its requests are those that contracts count.
use Rattle.std.proofs.Common.{◌≡◌, ℕ, ◌==◌, cond, Option, None, Some, is_some, length, refl, ap, ◌∙◌, nat_cmp}
use Rattle.std.specs.BTreeSet.{BTreeSet}
use Rattle.std.specs.BTreeSet as sets
use Rattle.std.specs.BTreeMap.{is_at}
use Rattle.std.specs.Map.{lookup}
use Rattle.std.specs.FinMap as map
use Rattle.std.specs.Cmp.{unsigned_tied}
use Rattle.std.proofs.lemmas.Map.Entries.{option_filter}
use Rattle.linda_bag.specs.Filing.{HasIds, row_at, placed, rows_at}
use Rattle.linda_hold.specs.declared.request.Request.{Request}
use Rattle.linda_hold.specs.Holds.{HeldFor, held_in}
use Rattle.linda_hold.specs.TicketIndex.{Requests, IsCount, client_of}
use Rattle.linda_hold.proofs.RowLaws.{rows_ordered, row_found}
use Rattle.linda_hold.proofs.PartLaws.{found_some, counted_part}

module _ (by_id holds : HeldFor) (view_is : by_id ≡ holds) (client : ℕ) where
  abbrev pub own : Requests
  own = rows_at nat_cmp client_of client (map.get by_id)

  own_at : (o : Option Request) → is_some (row_at nat_cmp client (placed client_of o)) ≡ is_some (option_filter (λ r. r.client == client) o)
  own_at None = refl
  own_at (Some r) = ap (λ b. is_some (cond b (Some r) None)) (unsigned_tied r.client client)

  own_found : (q : ℕ) → is_some (own q) ≡ is_some (option_filter (λ r. r.client == client) (lookup (is_at (nat_cmp q)) (map.entries by_id)))
  own_found q = own_at (map.get by_id q) ∙ ap (λ o. is_some (option_filter (λ r. r.client == client) o)) (row_found by_id q)

  -- The set of the client's ids has them in their order.
  pub own_ids : (ids : BTreeSet ℕ) → sets.IsOrdered nat_cmp ids → HasIds ids own → ids.keys ≡ held_in client (map.entries holds)
  own_ids ids sorted has =
      found_some (λ r. r.client == client) (map.entries by_id) (rows_ordered by_id) own own_found ids sorted has
      ∙ ap (λ m. held_in client (map.entries m)) view_is

  -- There are as many of them as of its requests.
  pub own_count : (count : ℕ) → IsCount client (map.get by_id) count → count ≡ length (held_in client (map.entries holds))
  own_count count counts =
      counted_part (λ r. r.client == client) (map.entries by_id) (rows_ordered by_id) own own_found count counts
      ∙ ap (λ m. length (held_in client (map.entries m))) view_is
