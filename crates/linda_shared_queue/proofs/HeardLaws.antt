-- One message more of a batch is heard.
use Rattle.std.proofs.Common.{◌≡◌, ℕ, ◌+◌, ◌<◌, ◌≤◌, Bool, true, false, true≢false, cond, List, [], ◌∷◌, ◌++◌, length}
use Rattle.std.proofs.Common.{length-append, Option, Some, None, IfSome, IfNone, refl, sym, ap, ◌∙◌, subst, arith}
use Rattle.linda_wire.specs.declared.message.Message.{Message}
use Rattle.linda_shared_accounts.specs.declared.receipt.Receipt.{Receipt}
use Rattle.linda_shared_accounts.specs.declared.fault.SharedFault.{SharedFault}
use Rattle.linda_shared_accounts.specs.declared.fault.SharedFault.TheVariants as faults
use Rattle.linda_shared_accounts.specs.Account.{Account}
use Rattle.linda_shared_queue.specs.Seat.{with_asked, back, with_deed, with_told, IsToldOf, IsLost, IsLeft, AreLost, IsLeftBy}
use Rattle.linda_shared_queue.specs.Heard.{is_severe, is_receipt, worse_fault, told_fault, UnlessReceipt, IsFaultOf, IsToldAll, HasNoted, HasHeard}
use Rattle.linda_shared_queue.proofs.SeatLaws.{all_snoc, all_asked, told_snoc, back_client, back_asked, back_more, back_few, back_told}

-- ---- a message that led to this

one_more : (xs : List Message) (x : Message) → length (xs ++ x ∷ []) ≡ length xs + 1
one_more xs x = length-append xs (x ∷ [])

one_told : (ts : List (Option Receipt)) (t : Option Receipt) → length (ts ++ t ∷ []) ≡ length ts + 1
one_told ts t = length-append ts (t ∷ [])

all_more : (before a : Account) (ms : List Message) (ts : List (Option Receipt)) (m : Message) (t : Option Receipt)
    → a.client ≡ before.client → IsToldOf a.client m t → IsToldAll before ms a ts → IsToldAll before (ms ++ m ∷ []) (with_told (back a) t) (ts ++ t ∷ [])
all_more before a ms ts m t client its all = record {
  account = back_told a t ∙ (ap (λ x. with_told x t) all.account ∙ sym (all_snoc (with_asked before 0) ts t));
  deeds = told_snoc before.client ms ts m t all.deeds (subst (λ c. IsToldOf c m t) client its);
  each = let l = one_more ms m in let r = one_told ts t in let each = all.each in omega (arith, l, r, each);
}

still_none : (fault : Option SharedFault) (before a : Account) (ms : List Message) (ts : List (Option Receipt)) (m : Message) (t : Option Receipt)
    → a.client ≡ before.client → IsToldOf a.client m t
    → IfNone fault (IsToldAll before ms a ts) → IfNone fault (IsToldAll before (ms ++ m ∷ []) (with_told (back a) t) (ts ++ t ∷ []))
still_none (Some fault) before a ms ts m t client its all = tt
still_none None before a ms ts m t client its all = all_more before a ms ts m t client its all

noted_more : (before a : Account) (ms : List Message) (m : Message) (t : Option Receipt)
    → a.client ≡ before.client → IsToldOf a.client m t → HasNoted before ms a → HasNoted before (ms ++ m ∷ []) (with_told (back a) t)
noted_more before a ms m t client its noted = record { told = noted.told ++ t ∷ []; all = all_more before a ms noted.told m t client its noted.all }

unless_more : (fault : Option SharedFault) (P Q : Type 0) → (P → Q) → UnlessReceipt fault P → UnlessReceipt fault Q
unless_more None P Q so p = so p
unless_more (Some fault) P Q so p = λ mild. so (p mild)

same_still : (a before : Account) (t : Option Receipt) → t ≡ None → with_asked a 0 ≡ with_asked before 0
    → with_asked (with_told (back a) t) 0 ≡ with_asked before 0
same_still a before t none is = back_told a t ∙ (ap (with_told (with_asked a 0)) none ∙ is)

pub heard_told : (before a new : Account) (ms : List Message) (ts : List (Option Receipt))
    (fault : Option SharedFault) (same next_same : Bool) (m : Message) (t : Option Receipt)
    → 0 < a.asked → new ≡ with_told (back a) t → IsToldOf a.client m t → (next_same ≡ true → (same ≡ true) × (t ≡ None))
    → HasHeard before ms a ts fault same → HasHeard before (ms ++ m ∷ []) new (ts ++ t ∷ []) fault next_same
heard_told before a new ms ts fault same next_same m t some is its as_before h =
    subst (λ (x : Account). HasHeard before (ms ++ m ∷ []) x (ts ++ t ∷ []) fault next_same) (sym is) (
    let l = one_more ms m in
    let r = one_told ts t in
    let asked = h.asked in
    let less = back_asked a t in
    let few = h.few in
    let more = h.more in
    let up = back_more a t in
    let by_one = back_few a t in
    let each = h.each in
    record {
      client = back_client a t ∙ h.client;
      asked = omega (arith, l, asked, less, some);
      more = omega (arith, more, up);
      few = omega (arith, l, few, by_one);
      each = omega (arith, l, r, each);
      told_all = still_none fault before a ms ts m t h.client its h.told_all;
      its = h.its;
      noted = unless_more fault (HasNoted before ms a) (HasNoted before (ms ++ m ∷ []) (with_told (back a) t))
          (noted_more before a ms m t h.client its) h.noted;
      same = λ yes_it_is. same_still a before t (as_before yes_it_is).1 (h.same (as_before yes_it_is).0);
    })

-- ---- a message that led to a fault

-- What a fault leaves of the account.
pub record IsLeftSo (a : Account) (fault : SharedFault) (new : Account) : Type 0 where
  pub client : new.client ≡ a.client
  pub asked : new.asked ≡ a.asked
  pub more : a.deeds ≤ new.deeds
  pub few : new.deeds ≤ a.deeds + 1
  pub mild : is_severe fault ≡ false → new ≡ a
  pub its : IsFaultOf a.client fault

same_so : (a : Account) (fault : SharedFault) (new : Account) → IsFaultOf a.client fault → new ≡ a → IsLeftSo a fault new
same_so a fault new its is = subst (IsLeftSo a fault) (sym is) (record {
  client = refl;
  asked = refl;
  more = omega arith;
  few = omega arith;
  mild = λ _. refl;
  its = its;
})

deed_so : (a : Account) (fault : SharedFault) (new : Account) → is_severe fault ≡ true → IsFaultOf a.client fault → new ≡ with_deed a → IsLeftSo a fault new
deed_so a fault new severe its is = subst (IsLeftSo a fault) (sym is) (record {
  client = refl;
  asked = refl;
  more = omega arith;
  few = omega arith;
  mild = λ mild. absurd (true≢false (sym severe ∙ mild));
  its = its;
})

told_so : (a : Account) (t : Option Receipt) → IsLeftSo a faults.Down (with_told a t)
told_so a None = same_so a faults.Down a tt refl
told_so a (Some r) = record {
  client = refl;
  asked = refl;
  more = omega arith;
  few = omega arith;
  mild = λ mild. absurd (true≢false mild);
  its = tt;
}

left_so : (m : Message) (a : Account) (fault : SharedFault) (new : Account) → IsLeft m a fault new → IsLeftSo a fault new
left_so m a faults.Down new lost = subst (IsLeftSo a faults.Down) (sym lost.account) (told_so a lost.told)
left_so m a faults.Full new is = same_so a faults.Full new tt is
left_so m a faults.SeatMissing new is = same_so a faults.SeatMissing new tt is
left_so m a (faults.Receipt client number) new is = deed_so a (faults.Receipt client number) new refl is.1 is.0
left_so m a (faults.Stuck client) new is = same_so a (faults.Stuck client) new tt is
left_so m a faults.NoThread new is = same_so a faults.NoThread new tt is
left_so m a faults.Memory new is = same_so a faults.Memory new tt is

as_before_so : (m : Message) (a new : Account) → new ≡ a → IsLost m a new
as_before_so m a new is = record { told = None; account = is; deed = tt; next = tt }

-- Unless the fault is that of a receipt, nothing was reported to the account, or a deed that the message asks for.
left_lost : (m : Message) (a : Account) (fault : SharedFault) (new : Account) → IsLeft m a fault new → is_receipt fault ≡ false → IsLost m a new
left_lost m a faults.Down new lost mild = lost
left_lost m a faults.Full new is mild = as_before_so m a new is
left_lost m a faults.SeatMissing new is mild = as_before_so m a new is
left_lost m a (faults.Receipt client number) new is mild = absurd (true≢false mild)
left_lost m a (faults.Stuck client) new is mild = as_before_so m a new is
left_lost m a faults.NoThread new is mild = as_before_so m a new is
left_lost m a faults.Memory new is mild = as_before_so m a new is

lost_more : (before a new : Account) (ms : List Message) (m : Message) → a.client ≡ before.client
    → HasNoted before ms a → IsLost m (back a) new → HasNoted before (ms ++ m ∷ []) new
lost_more before a new ms m client noted lost =
    subst (HasNoted before (ms ++ m ∷ [])) (sym lost.account) (noted_more before a ms m lost.told client lost.deed noted)

-- ---- the fault of several messages

worse_its : (c : ℕ) (before : Option SharedFault) (fault : SharedFault) → IfSome before (IsFaultOf c)
    → IsFaultOf c fault → IsFaultOf c (worse_fault before fault)
worse_its c None fault old its = its
worse_its c (Some first) fault old its = by (is_receipt first) (is_receipt fault)
  where
    by : (x y : Bool) → IsFaultOf c (cond x first (cond y fault first))
    by true y = old
    by false true = its
    by false false = old

worse_unless : (before : Option SharedFault) (fault : SharedFault) (P Q R : Type 0) → UnlessReceipt before P → (is_receipt fault ≡ false → Q) → (P → Q → R)
    → UnlessReceipt (Some (worse_fault before fault)) R
worse_unless None fault P Q R p q both = λ mild. both p (q mild)
worse_unless (Some first) fault P Q R p q both = by (is_receipt first) (is_receipt fault) refl refl
  where
    by : (x y : Bool) → is_receipt first ≡ x → is_receipt fault ≡ y → is_receipt (cond x first (cond y fault first)) ≡ false → R
    by true y one other mild = absurd (true≢false (sym one ∙ mild))
    by false true one other mild = absurd (true≢false (sym other ∙ mild))
    by false false one other mild = both (p one) (q other)

pub heard_fault : (before a new : Account) (ms : List Message) (ts : List (Option Receipt))
    (old : Option SharedFault) (fault : SharedFault) (same next_same : Bool) (m : Message)
    → 0 < a.asked → IsLeft m (back a) fault new → (next_same ≡ true → (same ≡ true) × (is_severe fault ≡ false))
    → HasHeard before ms a ts old same → HasHeard before (ms ++ m ∷ []) new (ts ++ None ∷ []) (Some (worse_fault old fault)) next_same
heard_fault before a new ms ts old fault same next_same m some left as_before h =
    let so : IsLeftSo (back a) fault new = left_so m (back a) fault new left in
    let l = one_more ms m in
    let r = one_told ts None in
    let asked = h.asked in
    let less = so.asked in
    let few = h.few in
    let more = h.more in
    let up = so.more in
    let by_one = so.few in
    let each = h.each in
    record {
      client = so.client ∙ h.client;
      asked = omega (arith, l, asked, less, some);
      more = omega (arith, more, up);
      few = omega (arith, l, few, by_one);
      each = omega (arith, l, r, each);
      told_all = tt;
      its = worse_its before.client old fault h.its (subst (λ c. IsFaultOf c fault) h.client so.its);
      noted = worse_unless old fault (HasNoted before ms a) (IsLost m (back a) new) (HasNoted before (ms ++ m ∷ []) new) h.noted
          (left_lost m (back a) fault new left) (lost_more before a new ms m h.client);
      same = λ yes_it_is. ap (λ (x : Account). with_asked x 0) (so.mild (as_before yes_it_is).1) ∙ h.same (as_before yes_it_is).0;
    }

-- ---- the end of a batch

ends_lost : (before a : Account) (ms : List Message) → HasNoted before ms a → AreLost ms (with_asked before a.asked) a
ends_lost before a ms noted = record {
  told = noted.told;
  account = ap (λ (x : Account). with_asked x a.asked) noted.all.account ∙ all_asked (with_asked before 0) a.asked noted.told;
  deeds = noted.all.deeds;
}

ends_mild : (before a : Account) (ms : List Message) (ts : List (Option Receipt)) (fault : SharedFault) (same : Bool) → is_receipt fault ≡ false
    → (a ≡ with_asked before a.asked → IsLeftBy ms (with_asked before a.asked) fault a)
    → HasHeard before ms a ts (Some fault) same → IsLeftBy ms (with_asked before a.asked) (cond same fault faults.Down) a
ends_mild before a ms ts fault true mild so h = so (ap (λ (x : Account). with_asked x a.asked) (h.same refl))
ends_mild before a ms ts fault false mild so h = ends_lost before a ms (h.noted mild)

ends_receipt : (before a : Account) (ms : List Message) (ts : List (Option Receipt)) (client number : ℕ) (same : Bool)
    → HasHeard before ms a ts (Some (faults.Receipt client number)) same → IsLeftBy ms (with_asked before a.asked) (faults.Receipt client number) a
ends_receipt before a ms ts client number same h = (record { client = h.client; asked = refl; more = h.more; few = h.few }, h.its)

pub ends_left : (before a : Account) (ms : List Message) (ts : List (Option Receipt)) (fault : SharedFault) (same : Bool)
    → HasHeard before ms a ts (Some fault) same → IsLeftBy ms (with_asked before a.asked) (told_fault fault same) a
ends_left before a ms ts faults.Down true h = ends_lost before a ms (h.noted refl)
ends_left before a ms ts faults.Down false h = ends_lost before a ms (h.noted refl)
ends_left before a ms ts faults.Full true h = ends_mild before a ms ts faults.Full true refl (λ is. is) h
ends_left before a ms ts faults.Full false h = ends_mild before a ms ts faults.Full false refl (λ is. is) h
ends_left before a ms ts faults.SeatMissing true h = ends_mild before a ms ts faults.SeatMissing true refl (λ is. is) h
ends_left before a ms ts faults.SeatMissing false h = ends_mild before a ms ts faults.SeatMissing false refl (λ is. is) h
ends_left before a ms ts (faults.Receipt client number) true h = ends_receipt before a ms ts client number true h
ends_left before a ms ts (faults.Receipt client number) false h = ends_receipt before a ms ts client number false h
ends_left before a ms ts (faults.Stuck client) true h = ends_mild before a ms ts (faults.Stuck client) true refl (λ is. is) h
ends_left before a ms ts (faults.Stuck client) false h = ends_mild before a ms ts (faults.Stuck client) false refl (λ is. is) h
ends_left before a ms ts faults.NoThread true h = ends_mild before a ms ts faults.NoThread true refl (λ is. is) h
ends_left before a ms ts faults.NoThread false h = ends_mild before a ms ts faults.NoThread false refl (λ is. is) h
ends_left before a ms ts faults.Memory true h = ends_mild before a ms ts faults.Memory true refl (λ is. is) h
ends_left before a ms ts faults.Memory false h = ends_mild before a ms ts faults.Memory false refl (λ is. is) h
