-- What a dispatch does, said by the requests that wait: the readers' and that of the longest waiting input.
use Rattle.std.proofs.Common.{◌≡◌, ℕ, List, [], ◌∷◌, ◌++◌, map, Option, Some, None, option_map, option_to_list, refl, sym, ap, ◌∙◌, subst, append-nil}
use Rattle.std.proofs.lemmas.Option.{none-some, same_Some}
use Rattle.std.specs.FinMap.{get, insert}
use Rattle.linda_tuple.specs.Tuple.{Tuple}
use Rattle.linda_hold.specs.declared.request.Request.{Request}
use Rattle.linda_hold.specs.Waits.{Wait, is_taker, readers, without_readers, longest, without}
use Rattle.linda_hold.specs.Holds.{IsHeldAt}
use Rattle.linda_wire.specs.declared.reply.Reply.{Reply}
use Rattle.linda_wire.specs.declared.reply.Reply.TheVariants as replies
use Rattle.linda_store_step.specs.Soft.{Soft, AreApart}
use Rattle.linda_store_step.specs.Dispatch.{Sends, read_to, offer_to, held_for, dispatch}
use Rattle.linda_store_step.proofs.WaitLaws.{found_has}

-- A tuple as the answer to the read of a request, and as the offer to its input.
abbrev pub read_for : ℕ → Tuple → Request → ℕ × Reply
read_for id row request = (request.client, replies.Read request.ticket id row)

abbrev pub offer_for : ℕ → Tuple → Request → ℕ × Reply
offer_for id row request = (request.client, replies.Offer request.ticket id row)

reads_by_requests : (id : ℕ) (row : Tuple) (waits : List Wait) → map (read_for id row) (map (λ w. w.0) waits) ≡ map (read_to id row) waits
reads_by_requests id row [] = refl
reads_by_requests id row (w ∷ waits) = ap (λ sends. read_to id row w ∷ sends) (reads_by_requests id row waits)

-- Whether an input takes the tuple, and with what request.
pub record Offered (row : Tuple) (waits : List Wait) (request : Request) : Type 0 where
  pub first : Wait
  pub found : longest row waits ≡ Some first
  pub request_is : first.0 ≡ request

pub no_longest : (row : Tuple) (waits : List Wait) → option_map (λ (w : Wait). w.0) (longest row waits) ≡ None → longest row waits ≡ None
no_longest row waits none = by (longest row waits) none
  where
    by : (o : Option Wait) → option_map (λ (w : Wait). w.0) o ≡ None → o ≡ None
    by None e = refl
    by (Some w) e = absurd (none-some w.0 (sym e))

pub one_longest : (row : Tuple) (waits : List Wait) (request : Request)
    → option_map (λ (w : Wait). w.0) (longest row waits) ≡ Some request → Offered row waits request
one_longest row waits request some = by (longest row waits) refl some
  where
    by : (o : Option Wait) → longest row waits ≡ o → option_map (λ (w : Wait). w.0) o ≡ Some request → Offered row waits request
    by None e is = absurd (none-some request is)
    by (Some w) e is = record { first = w; found = e; request_is = same_Some w.0 request is }

module _ (id : ℕ) (row : Tuple) (soft : Soft) where
  -- No input takes the tuple: the reads are answered, and wait no longer.
  pub told_reads : option_map (λ (w : Wait). w.0) (longest row soft.waits) ≡ None
      → dispatch id row soft ≡ record {
        sends = map (read_for id row) (map (λ w. w.0) (readers row soft.waits));
        soft = record { holds = soft.holds; waits = without_readers row soft.waits };
      }
  told_reads none =
      ap (λ (o : Option Wait). let t : Sends = record {
        sends = map (read_to id row) (readers row soft.waits) ++ map (offer_to id row) (option_to_list o);
        soft = held_for id o (record { holds = soft.holds; waits = without_readers row soft.waits });
      } in t) (no_longest row soft.waits none)
      ∙ ap (λ sends. let t : Sends = record { sends = sends; soft = record { holds = soft.holds; waits = without_readers row soft.waits } } in t)
      (append-nil (map (read_to id row) (readers row soft.waits)) ∙ sym (reads_by_requests id row (readers row soft.waits)))

  -- An input takes the tuple: the reads are answered, the tuple is offered, and these requests wait no longer.
  pub told_offer : (request : Request) → option_map (λ (w : Wait). w.0) (longest row soft.waits) ≡ Some request
      → dispatch id row soft ≡ record {
        sends = map (read_for id row) (map (λ w. w.0) (readers row soft.waits)) ++ offer_for id row request ∷ [];
        soft = record { holds = insert soft.holds id request; waits = without request (without_readers row soft.waits) };
      }
  told_offer request some =
      let offered = one_longest row soft.waits request some in
      ap (λ (o : Option Wait). let t : Sends = record {
        sends = map (read_to id row) (readers row soft.waits) ++ map (offer_to id row) (option_to_list o);
        soft = held_for id o (record { holds = soft.holds; waits = without_readers row soft.waits });
      } in t) offered.found
      ∙ ap (λ (p : Request). let t : Sends = record {
        sends = map (read_to id row) (readers row soft.waits) ++ offer_for id row p ∷ [];
        soft = record { holds = insert soft.holds id p; waits = without p (without_readers row soft.waits) };
      } in t) offered.request_is
      ∙ ap (λ sends. let t : Sends = record {
        sends = sends ++ offer_for id row request ∷ [];
        soft =
            record { holds = insert soft.holds id request; waits = without request (without_readers row soft.waits) };
      } in t)
      (sym (reads_by_requests id row (readers row soft.waits)))

  -- The request that takes the tuple holds nothing, if holds and waits are apart.
  pub longest_holds_nothing : (request : Request) → AreApart soft
      → option_map (λ (w : Wait). w.0) (longest row soft.waits) ≡ Some request → IsHeldAt soft.holds request None
  longest_holds_nothing request apart some =
      let offered = one_longest row soft.waits request some in
      subst (λ p. IsHeldAt soft.holds p None) offered.request_is
      (found_has (is_taker row) (λ w. (k : ℕ) → get soft.holds k ≡ Some w.0 → ⊥) soft.waits offered.first offered.found apart)
