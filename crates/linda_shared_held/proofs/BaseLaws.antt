-- The base is moved; and what crashes leave of a server that is down.
use Rattle.std.proofs.Common.{◌≡◌, ◌∙◌, ℕ, ◌+◌, inl, inr, Bool, true, false, true≢false, List, [], ◌++◌, length, Option}
use Rattle.std.proofs.Common.{refl, sym, ap, subst, append_assoc, length-append, arith}
use Rattle.std.proofs.lemmas.List.{length-map}
use Rattle.linda_wire.specs.declared.reply.Reply.{Reply}
use Rattle.linda_store_state.specs.declared.deed.Deed.{Deed}
use Rattle.linda_store_state.specs.State.{State}
use Rattle.linda_store_state.specs.Proper.{AreDone}
use Rattle.linda_store_state.proofs.ProperLaws.{none_done, proper_state}
use Rattle.linda_store_step.specs.Store.{Store}
use Rattle.linda_server.specs.Calls.{StandsAround}
use Rattle.linda_shared_accounts.specs.declared.receipt.Receipt.{Receipt}
use Rattle.linda_shared_accounts.specs.Receipts.{deeds_in}
use Rattle.linda_shared_held.specs.Order.{known, IsInOrder, IsReplayed, CountsDeeds, StandsBehind}
use Rattle.linda_store_state.specs.Numbers.{kept_sum}
use Rattle.linda_store_state.proofs.SumLaws.{sum_done}
use Rattle.linda_store_state.proofs.JoinLaws.{joined_done}
use Rattle.linda_shared_held.specs.Covered.{BoxesCovered}
use Rattle.linda_disk.specs.declared.disk.Disk.{Ghosts}
use Rattle.linda_server.specs.declared.durable.Durable.{Durable}
use Rattle.linda_shared_held.specs.Kept.{known_of}
use Rattle.linda_shared_held.proofs.OrderLaws.{base_is, told_all}
use Rattle.linda_shared_held.proofs.LostLaws.{boxes_behind}

-- The deeds since the opening, as many as are counted.
all_done : (opening base : State) (rs : List Receipt) (count : ℕ) (st : State)
    → (so : IsInOrder opening base rs count false st) → AreDone opening (so.earlier ++ deeds_in rs) st
all_done opening base rs count st so = joined_done opening so.ranges (deeds_in rs) base st so.earlier so.to_base (told_all opening base rs count st so)

as_many : (earlier : List Deed) (rs : List Receipt) (count : ℕ) → count ≡ length earlier + length rs → length (earlier ++ deeds_in rs) ≡ count
as_many earlier rs count counted =
    let long = length-append earlier (deeds_in rs) in
    let same = length-map rs (λ (r : Receipt). r.deed) in
    omega (arith, counted, long, same)

-- The base is the state now, and no receipt is kept.
pub moves_base : (opening base : State) (rs : List Receipt) (count : ℕ) (st : State)
    → IsInOrder opening base rs count false st → IsInOrder opening st [] count false st
moves_base opening base rs count st so =
    let base_ok = base_is opening base rs count false st so in
    let told = told_all opening base rs count st so in
    let many = as_many so.earlier rs count so.counted in
    record {
      ranges = so.ranges;
      earlier = so.earlier ++ deeds_in rs;
      to_base = all_done opening base rs count st so;
      untold = [];
      to_state = none_done st (proper_state base st (deeds_in rs) base_ok told.proper told.after);
      none_untold = λ _. refl;
      replies = tt;
      counted = omega (arith, many);
    }

-- The base is the state now, and no receipt is kept, for a server that stays up with its store.
pub base_moved : {D : Type 0} {g : Ghosts D} (s t : Durable D g) {opening base new_base : State} {rs new_rs : List Receipt} {count : ℕ}
    → IsInOrder opening base rs count s.down (known_of s)
    → (s.down ≡ false) × (t.down ≡ false) → t.store ≡ s.store → new_base ≡ t.store.state → new_rs ≡ []
    → IsInOrder opening new_base new_rs count t.down (known_of t)
base_moved s t {opening} {base} {new_base} {rs} {new_rs} {count} so up same new_is none =
    let was : IsInOrder opening base rs count false s.store.state = subst (λ b. IsInOrder opening base rs count b (known s.before.value s.store b)) up.0 so in
    let there : IsInOrder opening t.store.state [] count false t.store.state =
    moves_base opening base rs count t.store.state (subst (λ (x : Store). IsInOrder opening base rs count false x.state) (sym same) was) in
    subst (λ b. IsInOrder opening new_base new_rs count b (known t.before.value t.store b)) (sym up.1)
    (subst (λ x. IsInOrder opening x new_rs count false t.store.state) (sym new_is)
    (subst (λ l. IsInOrder opening t.store.state l count false t.store.state) (sym none) there))

-- While the server is up.
pub is_replayed : (opening base : State) (rs : List Receipt) (count : ℕ) (is_down : Bool) (before : State) (store : Store)
    → is_down ≡ false → IsInOrder opening base rs count is_down (known before store is_down)
    → IsReplayed base rs store.state
is_replayed opening base rs count true before store is so = absurd (true≢false is)
is_replayed opening base rs count false before store is so = record { done = told_all opening base rs count store.state so; replies = so.replies }

pub counts_deeds : (opening base : State) (rs : List Receipt) (count : ℕ) (is_down : Bool) (before : State) (store : Store)
    → is_down ≡ false → IsInOrder opening base rs count is_down (known before store is_down)
    → CountsDeeds opening count store.state
counts_deeds opening base rs count true before store is so = absurd (true≢false is)
counts_deeds opening base rs count false before store is so =
    record { deeds = so.earlier ++ deeds_in rs; done = all_done opening base rs count store.state so; counted = as_many so.earlier rs count so.counted }

pub sums_kept : (opening base : State) (rs : List Receipt) (count : ℕ) (is_down : Bool) (before : State) (store : Store)
    → is_down ≡ false → IsInOrder opening base rs count is_down (known before store is_down)
    → kept_sum store.state ≡ kept_sum opening + count
sums_kept opening base rs count is_down before store is so =
    let many = counts_deeds opening base rs count is_down before store is so in
    sum_done opening so.ranges many.deeds store.state many.done ∙ ap (λ n. kept_sum opening + n) many.counted

-- While it is down.
pub stands_behind : (opening base : State) (rs : List Receipt) (count : ℕ) (before : State)
    (lost : List Deed) (waits : ℕ → Option (List Reply)) (left right : List ℕ)
    → IsInOrder opening base rs count true before → BoxesCovered before waits → StandsAround before lost left right → StandsBehind base rs waits left right
stands_behind opening base rs count before lost waits left right so covered around =
    elim around.stands [
      | inl old ↦ record { untold = so.untold; state = before; done = so.to_state; stands = old; covered = covered }
      | inr new ↦ record {
        untold = so.untold ++ lost;
        state = around.new;
        done = subst (λ l. AreDone base l around.new) (append_assoc (deeds_in rs) so.untold lost)
            (joined_done base (base_is opening base rs count true before so) lost before around.new (deeds_in rs ++ so.untold) so.to_state around.done);
        stands = new;
        covered = boxes_behind lost before around.new waits around.ranges around.done covered;
      }
    ]

pub is_known_down : (opening base : State) (rs : List Receipt) (count : ℕ) (is_down : Bool) (before : State) (store : Store)
    → is_down ≡ true → IsInOrder opening base rs count is_down (known before store is_down)
    → IsInOrder opening base rs count true before
is_known_down opening base rs count true before store is so = so
is_known_down opening base rs count false before store is so = absurd (true≢false (sym is))
