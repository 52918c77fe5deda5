-- A new server: its snapshot, and what crashes leave while it is made.
use Rattle.std.proofs.Common.{◌≡◌, ℕ, ◌<◌, ◌≤◌, ◌^◌, inl, inr, List, [], ◌∷◌, length, refl, sym, ap, subst, ◌∙◌, arith}
use Rattle.std.specs.FinMap.{entries, empty, len-entries, len-empty}
use Rattle.std.specs.Ordering.{nat_cmp}
use Rattle.linda_store_state.specs.DeedFormat.{written}
use Rattle.linda_tuple.specs.declared.form.Form.{Form}
use Rattle.linda_store_state.specs.State.{State, IsState, empty_state}
use Rattle.linda_store_state.proofs.StateLaws.{empty_is_state}
use Rattle.linda_store_state.proofs.ProperLaws.{none_done}
use Rattle.linda_disk.specs.View.{View, IsDurable, IsTimed}
use Rattle.linda_disk.specs.Run.{LeavesOnly}
use Rattle.linda_disk.proofs.RunLaws.{joined}
use Rattle.linda_journal.specs.Gate.{IsShut}
use Rattle.linda_journal.specs.Bank.{IsSettled, IsNoneOrNew}
use Rattle.linda_journal.specs.Renewal.{IsNoBank}
use Rattle.linda_journal.proofs.BankLaws.{no_candidate}
use Rattle.linda_snap.specs.Snapshot.{Parts, snapshot, spell_state, FitsState}
use Rattle.linda_snap.specs.Stands.{IsStored, IsUp}
use Rattle.linda_server.specs.Pairs.{PairsSince, two, IsVoid}
use Rattle.linda_server.specs.Disks.{IsKept}
use Rattle.linda_server.specs.Calls.{IsNothingOr}

-- An empty server's snapshot has 16 bytes.
no_entries : {X : Type 0} → entries (empty {K = ℕ} {X = X} {R = nat_cmp}) ≡ []
no_entries {X} = no_items (entries (empty {K = ℕ} {X = X} {R = nat_cmp})) (sym (len-entries (empty {K = ℕ} {X = X} {R = nat_cmp})) ∙ len-empty nat_cmp X)
  where
    no_items : {A : Type 0} (xs : List A) → length xs ≡ 0 → xs ≡ []
    no_items [] none = refl
    no_items (x ∷ xs) none = absurd (omega (arith, none))

pub empty_short : length (spell_state written empty_state) ≡ 16
empty_short = ap (λ (p : Parts). length ((snapshot written).spell p)) (λ i. (1, (no_entries i, no_entries i)))

pub is_empty_state : (st : State) → st ≡ empty_state → IsState st
is_empty_state st same = subst IsState (sym same) empty_is_state

pub short_state : (st : State) → st ≡ empty_state → length (spell_state written st) < 2 ^ 32
short_state st same =
    let long = ap (λ s. length (spell_state written s)) same ∙ empty_short in
    omega (arith, long)

-- ---- what crashes leave while it is made

-- Fewer bytes than a bank has are none.
few_none : (image : List ℕ) → length image ≤ 1 → IsNoBank image
few_none image few candidate = let long = candidate.0 in absurd (omega (arith, few, long))

void_none : (image : List ℕ) → image ≡ [] → IsNoBank image
void_none image none = few_none image (let long = ap length none in omega (arith, long))

pub nothing_made : (left left_new right right_new : View) → LeavesOnly left left_new (λ image. image ≡ []) → LeavesOnly right right_new (λ image. image ≡ [])
    → PairsSince (two left right) (two left_new right_new) (IsNothingOr empty_state)
nothing_made left left_new right right_new l r = record {
  left_later = l.later;
  right_later = r.later;
  each = λ a b x y. inl (void_none a (l.each a x), void_none b (r.each b y));
}

pub gate_made : (left left_new right right_new : View) → LeavesOnly left left_new (λ image. image ≡ []) → LeavesOnly right right_new (λ image. length image ≤ 1)
    → PairsSince (two left right) (two left_new right_new) (IsNothingOr empty_state)
gate_made left left_new right right_new l r = record {
  left_later = l.later;
  right_later = r.later;
  each = λ a b x y. inl (void_none a (l.each a x), few_none b (r.each b y));
}

-- A whole new bank represents the empty state, if the other disk has none.
new_stands : (left right : List ℕ) → FitsState written empty_state → IsNoBank right
    → IsNoneOrNew written 1 (spell_state written empty_state) left → IsNothingOr empty_state left right
new_stands left right fits none (inl no_bank) = inl (no_bank, none)
new_stands left right fits none (inr bank) = inr (inl record {
  generation = 1;
  stands = record {
    form = written;
    opening = empty_state;
    ranges = empty_is_state;
    fits = fits;
    records = [];
    bank = bank;
    done = none_done empty_state empty_is_state;
  };
  lesser = inl none;
})

pub bank_made : (left left_new right right_new : View) → FitsState written empty_state
    → LeavesOnly left left_new (IsNoneOrNew written 1 (spell_state written empty_state)) → LeavesOnly right right_new (λ image. length image ≤ 1)
    → PairsSince (two left right) (two left_new right_new) (IsNothingOr empty_state)
bank_made left left_new right right_new fits l r = record {
  left_later = l.later;
  right_later = r.later;
  each = λ a b x y. new_stands a b fits (few_none b (r.each b y)) (l.each a x);
}

pub made_up : (end : ℕ) (used other : View) → FitsState written empty_state
    → IsSettled written 1 (spell_state written empty_state) [] end used → IsShut [] 0 other → IsUp written 1 end used other empty_state
made_up end used other fits settled shut = record {
  stored = record { opening = empty_state; ranges = empty_is_state; fits = fits; records = []; settled = settled; done = none_done empty_state empty_is_state };
  lesser = inl (no_candidate other.seen shut.file);
  durable = shut.durable;
}

pub up_as : (form : Form) (generation end : ℕ) (used other : View) (st : State) → form ≡ written → generation ≡ 1
    → st ≡ empty_state → IsUp written 1 end used other empty_state → IsUp form generation end used other st
up_as form generation end used other st new first same up =
    subst (λ s. IsUp form generation end used other s) (sym same)
    (subst (λ g. IsUp form g end used other empty_state) (sym first) (subst (λ f. IsUp f 1 end used other empty_state) (sym new) up))

pub kept_as : (is_used_honest is_other_honest : Type 0) (form : Form) (generation end : ℕ) (used other : View) (st : State)
    → form ≡ written → generation ≡ 1 → st ≡ empty_state → FitsState written empty_state
    → (is_used_honest → IsSettled written 1 (spell_state written empty_state) [] end used)
    → (is_other_honest → IsShut [] 0 other) → IsKept is_used_honest is_other_honest form generation end used other st
kept_as is_used_honest is_other_honest form generation end used other st new first same fits settled shut = record {
  stored = λ h.
      subst (λ s. IsStored form generation end used s) (sym same) (subst (λ g. IsStored form g end used empty_state) (sym first)
      (subst (λ f. IsStored f 1 end used empty_state) (sym new)
      (record {
        opening = empty_state;
        ranges = empty_is_state;
        fits = fits;
        records = [];
        settled =
            settled h;
        done = none_done empty_state empty_is_state;
      })));
  durable = λ h. (shut h).durable;
  lesser = λ _ h. inl (no_candidate other.seen (shut h).file);
}

-- ---- runs

-- A crash leaves no byte: so it reads as none, and stays so.
pub void_durable : (v : View) → IsTimed v → IsVoid v → IsDurable v
void_durable v timed void image left = void image left ∙ sym (void v.seen timed.stays)

pub void_seen : (v : View) → IsTimed v → IsVoid v → v.seen ≡ []
void_seen v timed void = void v.seen timed.stays

pub then_gate : (old mid new : View) → LeavesOnly old mid (λ image. image ≡ [])
    → LeavesOnly mid new (λ image. length image ≤ 1) → LeavesOnly old new (λ image. length image ≤ 1)
then_gate old mid new first second =
    joined old mid new (λ image. image ≡ []) (λ image. length image ≤ 1) (λ image. length image ≤ 1) first second
    (λ image none. let long = ap length none in omega (arith, long)) (λ image few. few)

pub then_bank : (old mid new : View) (body : List ℕ) → body ≡ spell_state written empty_state
    → LeavesOnly old mid (λ image. image ≡ []) → LeavesOnly mid new (IsNoneOrNew written 1 body)
    → LeavesOnly old new (IsNoneOrNew written 1 (spell_state written empty_state))
then_bank old mid new body same first second =
    joined old mid new (λ image. image ≡ []) (IsNoneOrNew written 1 body) (IsNoneOrNew written 1 (spell_state written empty_state)) first second
    (λ image none. inl (void_none image none)) (λ image is. subst (λ b. IsNoneOrNew written 1 b image) same is)
