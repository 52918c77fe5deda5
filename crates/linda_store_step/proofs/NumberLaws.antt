-- A numbered message for which there is no reply without a deed: its deed is done, and allowed.
use Rattle.std.proofs.Common.{◌≡◌, ℕ, ◌+◌, ◌<◌, ◌≤◌, false, ◌==◌, nat_le, Option, Some, None, IfSome, IsSome}
use Rattle.std.proofs.Common.{option_map, inl, inr, refl, ap, sym, subst, arith, leb-false, le_trans, lt_of_lt_of_le}
use Rattle.std.proofs.Common.{zero-lt-suc}
use Rattle.std.proofs.lemmas.Option.{none-some}
use Rattle.std.proofs.lemmas.Bool.{eqb-false, or_parts, and_cases}
use Rattle.std.specs.FinMap.{get, len}
use Rattle.linda_wire.specs.declared.limits.TheConstants.{MAX_CLIENTS}
use Rattle.linda_wire.specs.declared.limits.TheConstants.{NUMBER_LIMIT}
use Rattle.linda_tuple.specs.Tuple.{Tuple}
use Rattle.linda_book.specs.Entries.{Entry, number_in}
use Rattle.linda_store_state.specs.declared.deed.Deed.TheVariants.{Out, Take, Pass, Leave}
use Rattle.linda_store_state.specs.State.{State, IsState}
use Rattle.linda_store_state.specs.Proper.{IsAllowed}
use Rattle.linda_store_step.specs.declared.judge.Demand.{Demand}
use Rattle.linda_store_step.specs.declared.judge.Verdict.{Verdict}
use Rattle.linda_store_step.specs.declared.judge.Verdict.TheVariants.{Refused, Repeated, Done}
use Rattle.linda_store_step.specs.Judge.{to_put, to_take, to_leave, judge}
use Rattle.linda_store_step.specs.Answer.{last_number, standing_of, is_one_too_many, reply_by, without_deed}
use Rattle.linda_store_step.specs.Answer.{out_without_deed, accept_without_deed, leave_without_deed, reply_of_kept}
use Rattle.linda_store_step.proofs.JudgeLaws.{IsFresh, IsVerdict, verdict_means}

unmapped : {X Y : Type 0} (f : X → Y) (o : Option X) → option_map f o ≡ None → o ≡ None
unmapped f None none = refl
unmapped f (Some x) none = absurd (none-some (f x) (sym none))

not_below_zero : (n : ℕ) → 0 < n → n ≡ 0 → ⊥
not_below_zero n some none = omega (arith, some, none)

-- If there is no reply without a deed, the verdict is that it is done.
pub none_is_done : (st : State) (c : ℕ) (d : Demand) → without_deed st c d ≡ None → judge d (standing_of st c) ≡ Done
none_is_done st c d = by (judge d (standing_of st c)) (verdict_means d (standing_of st c))
  where
    by : (v : Verdict) → IsVerdict d (standing_of st c) v → reply_by st c d.n v ≡ None → v ≡ Done
    by Done means none = refl
    by Repeated means none =
        absurd (not_below_zero (last_number st c) means.1 (ap number_in (unmapped (λ (e : Entry). reply_of_kept d.n e.1) (get st.book c) none)))
    by (Refused refusal) means none = absurd (none-some _ (sym none))

fresh : (st : State) (c : ℕ) (d : Demand) → without_deed st c d ≡ None → IsFresh d (standing_of st c)
fresh st c d none = subst (IsVerdict d (standing_of st c)) (none_is_done st c d none) (verdict_means d (standing_of st c))

below_limit : (last n limit : ℕ) → n ≡ last + 1 → last < limit → (n ≡ limit → ⊥) → n < limit
below_limit last n limit next low other = omega arith

at_most_but : (n limit : ℕ) → n ≤ limit → (n ≡ limit → ⊥) → n < limit
at_most_but n limit within other = omega arith

number_below : (o : Option Entry) (limit : ℕ) → 0 < limit → IfSome o (λ e. (1 ≤ e.0) × (e.0 < limit)) → number_in o < limit
number_below None limit some within = some
number_below (Some e) limit some within = within.1

module _ (st : State) (c n : ℕ) (is : IsState st) where
  -- There is a place for a client without an entry.
  room_for_new : is_one_too_many st c ≡ false → get st.book c ≡ None → len st.book < MAX_CLIENTS
  room_for_new few none =
      elim (and_cases (last_number st c == 0) (nat_le MAX_CLIENTS (len st.book)) few) [
        | inl known ↦ absurd (eqb-false (last_number st c) 0 known (ap number_in none))
        | inr room ↦ leb-false MAX_CLIENTS (len st.book) room
      ]

  -- The number stays below the limit.
  unspent_number : n ≡ last_number st c + 1 → (n == NUMBER_LIMIT) ≡ false → n < NUMBER_LIMIT
  unspent_number next unspent =
      below_limit (last_number st c) n NUMBER_LIMIT next
      (number_below (get st.book c) NUMBER_LIMIT (lt_of_lt_of_le (zero-lt-suc 0) (le_trans is.next_low is.next_high)) (is.numbers c))
      (eqb-false n NUMBER_LIMIT unspent)

  pub allowed_out : (tuple : Tuple) → out_without_deed st c n ≡ None → IsAllowed st (Out c n tuple)
  allowed_out tuple none =
      let found = fresh st c (to_put n) none in
      let limits = or_parts (n == NUMBER_LIMIT) (st.next == NUMBER_LIMIT) found.unspent in
      record {
        number = found.number;
        stays = found.stays;
        below = unspent_number found.number limits.0;
        client = room_for_new found.few;
        room = (at_most_but st.next NUMBER_LIMIT is.next_high (eqb-false st.next NUMBER_LIMIT limits.1), tt);
      }

  module _ (none : accept_without_deed st c n ≡ None) where
    found : IsFresh (to_take n) (standing_of st c)
    found = fresh st c (to_take n) none

    below : n < NUMBER_LIMIT
    below = unspent_number found.number (or_parts (n == NUMBER_LIMIT) false found.unspent).0

    pub allowed_take : (id : ℕ) → IsSome (get st.bag id) → IsAllowed st (Take c n id)
    allowed_take id there = record { number = found.number; stays = found.stays; below = below; client = room_for_new found.few; room = (tt, there) }

    pub allowed_pass : (id : ℕ) → IsAllowed st (Pass c n id)
    allowed_pass id = record { number = found.number; stays = found.stays; below = below; client = room_for_new found.few; room = (tt, tt) }

  pub allowed_leave : leave_without_deed st c n ≡ None → IsAllowed st (Leave c n)
  allowed_leave none =
      let found : IsFresh (to_leave n) (standing_of st c) = fresh st c (to_leave n) none in
      record {
        number = found.number;
        stays = found.stays;
        below = unspent_number found.number (or_parts (n == NUMBER_LIMIT) false found.unspent).0;
        client = room_for_new found.few;
        room = (tt, tt);
      }
