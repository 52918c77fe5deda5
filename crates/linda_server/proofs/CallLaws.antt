-- What crashes leave within a call of a server, if it is known only that some bank is in use.
use Rattle.std.proofs.Common.{◌≡◌, ℕ, Bool, true, false, sym, subst, ◌<◌, ◌≤◌, ◌⊎◌, inl, inr, List, [], ◌∷◌, length}
use Rattle.std.proofs.Common.{Option, Some, None, All, is_some, IfSome, ◌+◌, option_to_list, ap, length-append}
use Rattle.std.proofs.Common.{append-nil, refl, ◌++◌, ◌∙◌, true≢false, Result, Ok, Err, IfOk, OnOk, OnErr, arith}
use Rattle.std.proofs.Math.Logic.{∥∥₁_map}
use Rattle.std.proofs.lemmas.Grind.{not_there}
use Rattle.std.proofs.lemmas.List.{length-map}
use Rattle.std.proofs.lemmas.Bool.{cases_lt}
use Rattle.std.specs.Vec.{vec_len}
use Rattle.linda_tuple.specs.declared.form.Form.{Form}
use Rattle.linda_wire.specs.declared.message.Message.{Message}
use Rattle.linda_store_state.specs.declared.deed.Deed.{Deed}
use Rattle.linda_store_state.specs.State.{State, IsState}
use Rattle.linda_store_state.specs.Proper.{AreDone}
use Rattle.linda_store_state.specs.DeedFormat.{payload, SuitsForm}
use Rattle.linda_store_state.proofs.ProperLaws.{none_done}
use Rattle.linda_store_step.specs.Soft.{Soft}
use Rattle.linda_store_step.specs.Answer.{Answer}
use Rattle.linda_store_step.specs.Store.{Store, IsOrderly}
use Rattle.linda_store_step.specs.declared.size.Need.{Need}
use Rattle.linda_store_step.specs.Size.{IsNeedOf}
use Rattle.linda_store_step.specs.History.{Coming, comings, history_of, nothing_yet}
use Rattle.linda_store.specs.Node.{Node, MayRemain}
use Rattle.linda_store_step.proofs.HistoryLaws.{happened}
use Rattle.linda_disk.specs.View.{View, IsTimed}
use Rattle.linda_snap.specs.Stands.{Stands}
use Rattle.linda_disk.specs.declared.disk.Disk.{Ghosts}
use Rattle.linda_journal.specs.declared.bank.Bank.{Bank}
use Rattle.linda_server.specs.declared.disks.Disks.{Disks}
use Rattle.linda_server.specs.declared.disks.Disks.TheVariants.{InUse, Shut, Away}
use Rattle.linda_server.specs.declared.fault.ServeFault.{ServeFault}
use Rattle.linda_store_step.specs.declared.served.Served.{Served}
use Rattle.linda_server.specs.Pairs.{Both, PairsSince, PairsNow}
use Rattle.linda_server.specs.Disks.{sides}
use Rattle.linda_store_step.specs.Served.{AreAnswered, deeds_of, counts_of, IsServed}
use Rattle.linda_server.specs.Calls.{LeadTo, IsOldOrNew, IsEither, IsWithOrWithout, StandsAfter, IsBeforeOrAfter, StandsFor, HasHandled, IsTooMuch, room_for}
use Rattle.linda_server.specs.Node.{shown}
use Rattle.linda_server.specs.Server.{both_of, BothHonest, IsUpFor, IsKeptFor}
use Rattle.linda_store_step.proofs.ServedLaws.{served_happens}
use Rattle.linda_server.proofs.PairLaws.{still, stands_now, up_of}

-- ---- what was served

-- Its deeds lead to the state after them.
pub leads_to : (st : State) (soft : Soft) (ms : List (ℕ × Message)) (told : Served) (new : State) (then : Soft)
    → IsOrderly st soft → IsServed st soft ms told new then
    → LeadTo st told.deeds.items new
leads_to st soft ms told new then orderly served opening before is done =
    let end = happened opening st soft (comings ms) before (history_of new then told.deeds.items told.sends.items) is
    (record { proper = done.proper; after = done.after; orderly = orderly }) (served_happens st soft ms told new then served) in
    record { proper = end.proper; after = end.after }

-- Each message has one answer, and each answer one deed at most.
each_answered : (st : State) (soft : Soft) (ms : List (ℕ × Message)) (answers : List Answer) (new : State) (then : Soft)
    → AreAnswered st soft ms answers new then
    → length answers ≡ length ms
each_answered st soft [] answers new then are = ap length are.0
each_answered st soft (m ∷ ms) answers new then are =
    let first : Answer = are.0 in
    let rest = each_answered are.1.0 first.soft ms are.1.1.0 new then are.1.1.1.1.0 in
    let same : length answers ≡ length (first ∷ are.1.1.0) = ap length are.1.1.1.1.1 in
    omega (arith, same, rest)

-- So it has one count of what was served.
pub each_share : (st : State) (soft : Soft) (ms : List (ℕ × Message)) (told : Served) (new : State) (then : Soft) → IsServed st soft ms told new then
    → vec_len told.counts ≡ length ms
each_share st soft ms told new then served =
    let all = ap length served.tells.counts ∙ (length-map served.answers counts_of ∙ each_answered st soft ms served.answers new then served.answered) in
    let counted = told.counts.ok.0 in
    omega (arith, all, counted)

-- What holds of what was served holds of what is returned in the end, if that is the same.
pub told_so : (r : Result Served ServeFault) (served : Served) (P : Served → Type 0) → IfOk r (λ s. s ≡ served) → P served → IfOk r P
told_so (Ok s) served P same p = subst P (sym same) p
told_so (Err fault) served P same p = tt

one_at_most : (o : Option Deed) → length (option_to_list o) ≤ 1
one_at_most None = omega arith
one_at_most (Some d) = omega arith

no_more : (answers : List Answer) → length (deeds_of answers) ≤ length answers
no_more [] = omega arith
no_more (a ∷ answers) =
    let first = one_at_most a.deed in
    let later = no_more answers in
    let both_len = length-append (option_to_list a.deed) (deeds_of answers) in
    omega (arith, first, later, both_len)

pub few : (st : State) (soft : Soft) (ms : List (ℕ × Message)) (told : Served) (new : State) (then : Soft) (most : ℕ)
    → length ms ≤ most → IsServed st soft ms told new then
    → length told.deeds.items ≤ most
few st soft ms told new then most le served =
    let count = each_answered st soft ms served.answers new then served.answered in
    let deeds = no_more served.answers in
    let same = ap length served.tells.deeds in
    omega (arith, le, count, deeds, same)

-- What a need in a form says of deeds: they have records that keep within the limit,
module _ (given form : Form) (same : given ≡ form) (end limit : ℕ) (need : Option Need) (ds : List Deed) (is : IsNeedOf given ds need) where
  abbrev Fits : Option Need → Type 0
  Fits o = IfSome o (λ (n : Need). 0 < n.deeds → end + room_for n.deeds n.bytes ≤ limit)

  pub room_of : Fits need → is_some need ≡ true → 0 < length ds → end + room_for (length ds) (length (payload form ds)) ≤ limit
  room_of = subst (λ f. Fits need → is_some need ≡ true → 0 < length ds → end + room_for (length ds) (length (payload f ds)) ≤ limit) same (by need is)
    where
      by : (o : Option Need) → IsNeedOf given ds o → Fits o → is_some o ≡ true → 0 < length ds → end + room_for (length ds) (length (payload given ds)) ≤ limit
      by None is room there some = absurd (true≢false (sym there))
      by (Some n) is room there some = subst (λ k. end + room_for k (length (payload given ds)) ≤ limit) is.0
          (subst (λ b. end + room_for n.deeds b ≤ limit) is.1 (room (subst (λ k. 0 < k) (sym is.0) some)))

  -- and each has a spelling;
  pub suit_of : is_some need ≡ true → All (SuitsForm form) ds
  suit_of = subst (λ f. is_some need ≡ true → All (SuitsForm f) ds) same (by need is)
    where
      by : (o : Option Need) → IsNeedOf given ds o → is_some o ≡ true → All (SuitsForm given) ds
      by None is there = absurd (true≢false (sym there))
      by (Some n) is there = is.2

  -- or they are too much.
  pub too_much : IfSome need (λ (n : Need). (0 < n.deeds) × (limit < end + room_for n.deeds n.bytes)) → IsTooMuch form end limit ds
  too_much = subst (λ f. IfSome need (λ (n : Need). (0 < n.deeds) × (limit < end + room_for n.deeds n.bytes)) → IsTooMuch f end limit ds) same (by need is)
    where
      by : (o : Option Need) → IsNeedOf given ds o → IfSome o (λ (n : Need). (0 < n.deeds) × (limit < end + room_for n.deeds n.bytes))
          → IsTooMuch given end limit ds
      by None is past = inl is
      by (Some n) is past = inr (
        subst (λ k. 0 < k) is.0 past.0,
        subst (λ k. limit < end + room_for k (length (payload given ds))) is.0 (subst (λ b. limit < end + room_for n.deeds b) is.1 past.1),
      )

  pub not_too_much : Fits need → is_some need ≡ true → IsTooMuch form end limit ds → ⊥
  not_too_much room there (inl unspelled) = unspelled (suit_of there)
  not_too_much room there (inr past) = let over = past.1 in let fits = room_of room there past.0 in absurd (omega (arith, over, fits))

pub handled : (old new : Store) (ms : List (ℕ × Message)) (told : Served)
    → IsServed old.state old.soft ms told new.state new.soft → HasHandled old (comings ms) told.sends.items new
handled old new ms told served = record {
  deeds = told.deeds.items;
  happens = served_happens old.state old.soft ms told new.state new.soft served;
}

-- Deeds that lead on from a state in its ranges are done there.
pub led : (st now : State) (deeds : List Deed) → IsState st → LeadTo st deeds now → AreDone st deeds now
led st now deeds is leads = leads st [] is (none_done st is)

-- Nothing was done.
pub none_remains : (old : Node) (xs : List Coming) (ds : List Deed) → ds ≡ [] → MayRemain old xs ds
none_remains old xs ds none =
    record { first = []; is_first = (xs, refl); all = nothing_yet old.state old.soft; happens = refl; front = ([], ap (λ l. l ++ []) none) }

-- All was done.
pub all_remains : (old : Node) (ms : List (ℕ × Message)) (told : Served) (new : State) (then : Soft) (ds : List Deed)
    → IsServed old.state old.soft ms told new then
    → ds ≡ told.deeds.items → MayRemain old (comings ms) ds
all_remains old ms told new then ds served same = record {
  first = comings ms;
  is_first = ([], append-nil (comings ms));
  all = history_of new then told.deeds.items told.sends.items;
  happens = served_happens old.state old.soft ms told new then served;
  front = ([], append-nil ds ∙ same);
}

-- So it is of a server that was up.
pub all_remains_up : (before : State) (store : Store) (down : Bool) (lost : List Deed) (ms : List (ℕ × Message))
    (told : Served) (new : State) (then : Soft) (ds : List Deed)
    → down ≡ false → IsServed store.state store.soft ms told new then → ds ≡ told.deeds.items → MayRemain (shown before store down lost) (comings ms) ds
all_remains_up before store down lost ms told new then ds is_up served same =
    subst (λ b. MayRemain (shown before store b lost) (comings ms) ds) (sym is_up) (all_remains (shown before store false lost) ms told new then ds served same)

-- What holds after a fault, if the flag is set, which it is not at Ok.
pub at_fault : {A E : Type 0} (r : Result A E) (b : Bool) (P : Type 0) → OnOk r (b ≡ false) → OnErr r P → b ≡ true → P
at_fault (Ok x) b P good bad is = absurd (true≢false (sym is ∙ good))
at_fault (Err e) b P good bad is = bad

-- ---- truncated facts

pub at_most : (m n : ℕ) → ∥ m ≤ n ∥₁ → m ≤ n
at_most m n some =
    elim (cases_lt n m) [
      | inl lt ↦ absurd (not_there some (λ le. omega (arith, lt, le)))
      | inr le ↦ le
    ]

pub from_some : {X : Type 0} (old new : Both) (P Q : List ℕ → List ℕ → Type 0) → ∥ X ∥₁ → (X → PairsSince old new P)
    → ((left right : List ℕ) → P left right → Q left right) → PairsSince old new (λ left right. ∥ Q left right ∥₁)
from_some old new P Q some so goes = record {
  left_later = at_most old.left.moment new.left.moment (∥∥₁_map some (λ x. (so x).left_later));
  right_later = at_most old.right.moment new.right.moment (∥∥₁_map some (λ x. (so x).right_later));
  each = λ left right l r. ∥∥₁_map some (λ x. goes left right ((so x).each left right l r));
}

sides_now : (is_right : Bool) (old : Both) (used other : View) (P Q : List ℕ → List ℕ → Type 0)
    → IsTimed used → IsTimed other → PairsSince old (sides is_right used other) P
    → ((left right : List ℕ) → P left right → Q left right) → PairsNow (sides is_right used other) Q
sides_now true old used other P Q timed_used timed since goes left right l r =
    goes left right (since.each left right (timed.counts_now old.left.moment left since.left_later l)
    (timed_used.counts_now old.right.moment right since.right_later r))
sides_now false old used other P Q timed_used timed since goes left right l r =
    goes left right (since.each left right (timed_used.counts_now old.left.moment left since.left_later l)
    (timed.counts_now old.right.moment right since.right_later r))

-- Either of two states is one with or without the deeds, if these lead from the one to the other.
pub with_or_without : (st now : State) (deeds : List Deed) → IsState st → LeadTo st deeds now
    → (left right : List ℕ) → IsEither st now left right → IsWithOrWithout st deeds left right
with_or_without st now deeds is leads left right some =
    ∥∥₁_map some (λ x. record { new = now; ranges = is; done = led st now deeds is leads; stands = x })

-- Either of two states is the one before or after the messages, if these lead from the one to the other.
pub before_or_after : (old new : Store) (ms : List (ℕ × Message)) (told : Served)
    → IsServed old.state old.soft ms told new.state new.soft → (left right : List ℕ)
    → IsEither old.state new.state left right → IsBeforeOrAfter old (comings ms) left right
before_or_after old new ms told served left right some = ∥∥₁_map some goes
  where
    goes : IsOldOrNew old.state new.state left right → Stands left right old.state ⊎ StandsAfter old (comings ms) left right
    goes (inl x) = inl x
    goes (inr x) = inr record {
      all = history_of new.state new.soft told.deeds.items told.sends.items;
      happens = served_happens old.state old.soft ms told new.state new.soft served;
      stands = x;
    }

pub since_so : (old new : Both) (P Q : List ℕ → List ℕ → Type 0) → PairsSince old new P
    → ((left right : List ℕ) → P left right → Q left right) → PairsSince old new Q
since_so old new P Q since goes = record {
  left_later = since.left_later;
  right_later = since.right_later;
  each = λ left right l r. goes left right (since.each left right l r);
}

-- ---- the calls

module _ {D : Type 0} {g : Ghosts D} (timed : (d : D) → g.honest d → IsTimed (g.view d)) where
  pub up_for : (disks : Disks (Bank D g) D) (st : State) → BothHonest disks → ∥ IsKeptFor disks st ∥₁ → ∥ IsUpFor disks st ∥₁
  up_for disks st are kept = ∥∥₁_map kept (λ k. up_of timed disks st k are)

  -- No disk was touched: the disks represent the state as before.
  pub still_so : (disks : Disks (Bank D g) D) (st : State) → BothHonest disks → ∥ IsKeptFor disks st ∥₁
      → PairsSince (both_of disks) (both_of disks) (StandsFor st)
  still_so disks st are kept =
      from_some (both_of disks) (both_of disks) (λ left right. Stands left right st) (λ left right. Stands left right st) (up_for disks st are kept)
      (still timed disks st are) (λ left right x. x)

  pub still_before : (disks : Disks (Bank D g) D) (old : Store) (xs : List Coming) → BothHonest disks → ∥ IsKeptFor disks old.state ∥₁
      → PairsSince (both_of disks) (both_of disks) (IsBeforeOrAfter old xs)
  still_before disks old xs are kept =
      from_some (both_of disks) (both_of disks) (λ left right. Stands left right old.state)
      (λ left right. Stands left right old.state ⊎ StandsAfter old xs left right)
      (up_for disks old.state are kept) (still timed disks old.state are) (λ left right x. inl x)

  -- Deeds went onto the bank in use.
  pub put_either : (disks new : Disks (Bank D g) D) (st now : State) (deeds : List Deed) → LeadTo st deeds now → BothHonest disks → ∥ IsKeptFor disks st ∥₁
      → ((st now : State) → BothHonest disks → IsUpFor disks st → LeadTo st deeds now → PairsSince (both_of disks) (both_of new) (IsOldOrNew st now))
      → PairsSince (both_of disks) (both_of new) (IsEither st now)
  put_either disks new st now deeds leads are kept put =
      from_some (both_of disks) (both_of new) (IsOldOrNew st now) (IsOldOrNew st now) (up_for disks st are kept)
      (λ u. put st now are u leads) (λ left right x. x)

  pub kept_after : (disks new : Disks (Bank D g) D) (st now : State) (deeds : List Deed) → LeadTo st deeds now → ∥ IsKeptFor disks st ∥₁
      → ((st now : State) → IsKeptFor disks st → LeadTo st deeds now → IsKeptFor new now)
      → ∥ IsKeptFor new now ∥₁
  kept_after disks new st now deeds leads kept goes = ∥∥₁_map kept (λ k. goes st now k leads)

  -- What crashes since leave, they leave now.
  pub now_since : (old disks : Disks (Bank D g) D) (P Q : List ℕ → List ℕ → Type 0) → BothHonest disks → PairsSince (both_of old) (both_of disks) P
      → ((left right : List ℕ) → P left right → Q left right) → PairsNow (both_of disks) Q
  now_since old (InUse pair) P Q are since goes =
      sides_now pair.is_right (both_of old) (g.view pair.bank.disk) (g.view pair.other) P Q (timed pair.bank.disk are.0) (timed pair.other are.1) since goes
  now_since old (Shut left right) P Q are since goes =
      λ l r la ra. goes l r (since.each l r ((timed left are.0).counts_now (both_of old).left.moment l since.left_later la)
      ((timed right are.1).counts_now (both_of old).right.moment r since.right_later ra))
  now_since old Away P Q are since goes = absurd are

  -- The disks represent the state now.
  pub stands_so : (disks : Disks (Bank D g) D) (st : State) → BothHonest disks → ∥ IsKeptFor disks st ∥₁
      → PairsNow (both_of disks) (StandsFor st)
  stands_so disks st are kept left right l r =
      ∥∥₁_map (up_for disks st are kept) (λ u. stands_now timed disks st u left right l r)

  pub stands_with : (disks : Disks (Bank D g) D) (st : State) (deeds : List Deed) → deeds ≡ [] → IsState st → BothHonest disks
      → ∥ IsKeptFor disks st ∥₁ → PairsNow (both_of disks) (IsWithOrWithout st deeds)
  stands_with disks st deeds none is are kept left right l r =
      ∥∥₁_map (stands_so disks st are kept left right l r)
      (λ x. record { new = st; ranges = is; done = subst (λ ds. AreDone st ds st) (sym none) (none_done st is); stands = inl x })

  -- A call that served this, and then put its deeds onto the bank in use, or could not.
  pub served_since : (disks mid new : Disks (Bank D g) D) (old after : Store) (ms : List (ℕ × Message)) (told : Served) (before : State)
      → mid ≡ disks → before ≡ old.state
      → IsServed old.state old.soft ms told after.state after.soft → BothHonest disks
      → (BothHonest mid → PairsSince (both_of mid) (both_of new) (IsEither before after.state))
      → PairsSince (both_of disks) (both_of new) (IsBeforeOrAfter old (comings ms))
  served_since disks mid new old after ms told before same was served are put =
      let since = subst (λ d. PairsSince (both_of d) (both_of new) (IsEither before after.state)) same (put (subst (BothHonest) (sym same) are)) in
      since_so (both_of disks) (both_of new) (IsEither before after.state) (IsBeforeOrAfter old (comings ms)) since
      (λ left right e. before_or_after old after ms told served left right (subst (λ st. IsEither st after.state left right) was e))
