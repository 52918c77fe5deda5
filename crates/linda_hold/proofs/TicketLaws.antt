-- What a change at one ticket of one client does to the look-up of numbers by their requests.
use Rattle.std.proofs.Common.{◌≡◌, ◌≢◌, ◌⊎◌, inl, inr, ℕ, Bool, true, false, cond, Option, None, Some, refl, sym, ap, subst, ◌∙◌, nat_cmp, btree_map_len, arith}
use Rattle.std.specs.Ordering.{is_eq}
use Rattle.std.specs.BTreeMap as tree
use Rattle.std.proofs.lemmas.Grind.{common_steps}
use Rattle.linda_hold.specs.declared.request.Request.{Request}
use Rattle.linda_hold.specs.TicketIndex.{Tickets, Clients, number_in, number_at, AreUsed, Sets}
use Rattle.linda_hold.proofs.NameLaws.{same_number, sets_number}

-- After two changes at the same place only the last one counts.
pub changed_twice : {A : Type 0} (b : Bool) (first last old : A) → cond b last (cond b first old) ≡ cond b last old
changed_twice true first last old = refl
changed_twice false first last old = refl

-- No ticket is in an empty map.
pub none_in_empty : (tickets : Tickets) → btree_map_len tickets ≡ 0 → (t : ℕ) → tree.get nat_cmp tickets t ≡ None
none_in_empty tickets empty t = grind (arith, common_steps)

module _ (old new : Clients) (request : Request) (was : Tickets) (now : Option Tickets)
    (changed : (q : ℕ) → tree.get nat_cmp new q ≡ cond (is_eq (nat_cmp request.client q)) now (tree.get nat_cmp old q)) where
  clients : Sets (tree.get nat_cmp old) (tree.get nat_cmp new) request.client now
  clients = sets_number (tree.get nat_cmp old) (tree.get nat_cmp new) request.client now changed

  -- If the tickets of the client change at the ticket, the numbers change at the request.
  pub sets_request : (number : Option ℕ) → Some was ≡ tree.get nat_cmp old request.client
      → ((t : ℕ) → number_in now t ≡ cond (is_eq (nat_cmp request.ticket t)) number (tree.get nat_cmp was t))
      → Sets (number_at old) (number_at new) request number
  sets_request number there inside = record {
    here = ap (λ o. number_in o request.ticket) clients.here ∙ tickets.here;
    apart = λ q other. by q other (same_number request.client q.client);
  }
    where
      tickets : Sets (tree.get nat_cmp was) (number_in now) request.ticket number
      tickets = sets_number (tree.get nat_cmp was) (number_in now) request.ticket number inside

      by : (q : Request) → request ≢ q → (request.client ≡ q.client) ⊎ (request.client ≢ q.client) → number_at new q ≡ number_at old q
      by q other (inr apart) = ap (λ o. number_in o q.ticket) (clients.apart q.client apart)
      by q other (inl same) =
          ap (λ o. number_in o q.ticket) (subst (λ k. tree.get nat_cmp new k ≡ now) same clients.here)
          ∙ tickets.apart q.ticket (λ t. other (λ i. record { client = same i; ticket = t i }))
          ∙ ap (λ o. number_in o q.ticket) (there ∙ ap (tree.get nat_cmp old) same)

  -- Still no client is there without a ticket, if this one is not.
  pub used_still : ((tickets : Tickets) → now ≡ Some tickets → btree_map_len tickets ≡ 0 → ⊥) → AreUsed old → AreUsed new
  used_still live used client tickets is empty = by (same_number request.client client)
    where
      by : (request.client ≡ client) ⊎ (request.client ≢ client) → ⊥
      by (inl same) = live tickets (sym (subst (λ k. tree.get nat_cmp new k ≡ now) same clients.here) ∙ is) empty
      by (inr apart) = used client tickets (sym (clients.apart client apart) ∙ is) empty
