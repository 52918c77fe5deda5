-- A Hello changes nothing, and its answer is the greeting.
use Rattle.std.proofs.Common.{◌≡◌, ◌≢◌, ℕ, Bool, true, false, not, cond, ◌==◌, ◌&&◌, nat_lt, List, [], ◌∷◌, ◌++◌}
use Rattle.std.proofs.Common.{Option, Some, None, All, IfSome, option_to_list, sym, ap, ◌∙◌, subst, append-nil, inl}
use Rattle.std.proofs.Common.{inr, arith}
use Rattle.std.proofs.lemmas.Bool.{cases_eq}
use Rattle.std.proofs.lemmas.List.Elements.{All-nil}
use Rattle.linda_wire.specs.declared.message.Message.TheVariants as messages
use Rattle.linda_wire.specs.declared.limits.TheConstants.{VERSION}
use Rattle.linda_wire.specs.declared.refusal.Refusal.TheVariants as refusals
use Rattle.linda_wire.specs.Refusal.{refused}
use Rattle.linda_wire.specs.declared.reply.Reply.{Reply}
use Rattle.linda_wire.specs.declared.reply.Reply.TheVariants as replies
use Rattle.linda_store_state.specs.State.{State, IsState}
use Rattle.linda_store_state.specs.declared.deed.Deed.{Deed}
use Rattle.linda_store_state.specs.DeedFormat.{SuitsForm}
use Rattle.linda_store_state.specs.After.{IsAfter}
use Rattle.linda_store_state.proofs.AfterLaws.{none_after, one_after}
use Rattle.linda_disk.specs.declared.disk.Disk.{Ghosts}
use Rattle.linda_server.specs.declared.durable.Durable.{Durable}
use Rattle.linda_server.specs.Handled.{HasNoRoomFor}
use Rattle.linda_server.specs.Server.{form_in_use, end_in_use}
use Rattle.linda_store_step.specs.Soft.{Soft}
use Rattle.linda_store_step.specs.Store.{IsOrderly}
use Rattle.linda_store_step.specs.History.{History, says}
use Rattle.linda_store_step.proofs.ExistLaws.{outcome_of}
use Rattle.linda_store_step.specs.Answer.{Answer, only_reply, greeting, is_one_too_many, last_number, IsStep}
use Rattle.linda_store_step.specs.declared.served.Served.{Served}
use Rattle.linda_store_step.specs.Served.{sends_of, deeds_of, IsServed}
use Rattle.linda_server.specs.Calls.{IsTooMuch}
use Rattle.linda_store_step.specs.Covered.{IsCovered}
use Rattle.linda_shared_held.specs.Covered.{BoxesCovered}
use Rattle.linda_shared_outbox.specs.Replies.{opened}
use Rattle.linda_shared_held.specs.Greeting.{IsGreetingReply}

pub record IsGreeting (st : State) (soft : Soft) (c version : ℕ) (fresh : Bool) (sends : List (ℕ × Reply)) (new : State) (behind : Soft) : Type 0 where
  pub sends_are : sends ≡ (c, greeting st c version fresh) ∷ []
  pub state_is : new ≡ st
  pub soft_is : behind ≡ soft

pub hello_served : (st : State) (soft : Soft) (c client version : ℕ) (fresh : Bool) (served : Served) (new : State) (behind : Soft) → IsState st
    → IsServed st soft ((c, messages.Hello version client fresh) ∷ []) served new behind → IsGreeting st soft c version fresh served.sends.items new behind
hello_served st soft c client version fresh served new behind is has =
    let a : Answer = has.answered.0 in
    let mid : State = has.answered.1.0 in
    let step : IsStep st soft c (messages.Hello version client fresh) a mid = has.answered.1.1.1.0 in
    let rest = has.answered.1.1.1.1.0 in
    let said : a ≡ only_reply c (greeting st c version fresh) soft = step.answer in
    let all : has.answers ≡ a ∷ [] = has.answered.1.1.1.1.1 ∙ ap (λ (l : List Answer). a ∷ l) rest.0 in
    let after : IsAfter st [] mid = subst (λ (x : Answer). IsAfter st (option_to_list x.deed) mid) said step.state_is in
    record {
      sends_are = has.tells.sends ∙ (ap sends_of all ∙ (append-nil a.sends ∙ ap (λ (x : Answer). x.sends) said));
      state_is = rest.1.0 ∙ one_after st [] mid st after (none_after st is);
      soft_is = rest.1.1 ∙ ap (λ (x : Answer). x.soft) said;
    }

-- It does no deed.
pub hello_does_nothing : (st : State) (soft : Soft) (c client version : ℕ) (fresh : Bool) (served : Served) (new : State) (behind : Soft)
    → IsServed st soft ((c, messages.Hello version client fresh) ∷ []) served new behind → served.deeds.items ≡ []
hello_does_nothing st soft c client version fresh served new behind has =
    let a : Answer = has.answered.0 in
    let mid : State = has.answered.1.0 in
    let step : IsStep st soft c (messages.Hello version client fresh) a mid = has.answered.1.1.1.0 in
    let all : has.answers ≡ a ∷ [] = has.answered.1.1.1.1.1 ∙ ap (λ (l : List Answer). a ∷ l) has.answered.1.1.1.1.0.0 in
    has.tells.deeds ∙ (ap deeds_of all ∙ (append-nil (option_to_list a.deed) ∙ ap (λ (x : Answer). option_to_list x.deed) step.answer))

-- So there is always room for it.
pub hello_has_room : {D : Type 0} {g : Ghosts D} (s : Durable D g) (c client version : ℕ) (fresh : Bool) → IsOrderly s.store.state s.store.soft
    → HasNoRoomFor s ((c, messages.Hello version client fresh) ∷ []) → ⊥
hello_has_room s c client version fresh orderly lacks =
    let whole = outcome_of s.store.state s.store.soft (says c (messages.Hello version client fresh) ∷ []) orderly in
    let a : Answer = whole.1.0 in
    let mid : State = whole.1.1.0 in
    let later : History = whole.1.1.1.0 in
    let step : IsStep s.store.state s.store.soft c (messages.Hello version client fresh) a mid = whole.1.1.1.1.0 in
    let none : later.deeds ≡ [] = ap (λ (h : History). h.deeds) whole.1.1.1.1.1.0 in
    let all : whole.0.deeds ≡ [] =
    ap (λ (h : History). h.deeds) whole.1.1.1.1.1.1
    ∙ (ap (λ (l : List Deed). option_to_list a.deed ++ l) none
    ∙ (append-nil (option_to_list a.deed) ∙ ap (λ (x : Answer). option_to_list x.deed) step.answer)) in
    elim (subst (λ ds. IsTooMuch (form_in_use s.disks) (end_in_use s.disks) s.limit ds) all (lacks whole.0 whole.1)) [
      | inl unspelled ↦ unspelled (All-nil (SuitsForm (form_in_use s.disks)))
      | inr much ↦ absurd (omega (arith, much.0))
    ]

-- One outbox is opened, if there was none.
pub boxes_opened : (st : State) (client : ℕ) (waits0 waits1 : ℕ → Option (List Reply)) → waits1 client ≡ opened (waits0 client)
    → ((c : ℕ) → c ≢ client → waits1 c ≡ waits0 c) → BoxesCovered st waits0 → BoxesCovered st waits1
boxes_opened st client waits0 waits1 at others covered c =
    elim (cases_eq c client) [
      | inl here ↦ subst (λ c. IfSome (waits1 c) (All (λ (r : Reply). IsCovered st (c, r)))) (sym here)
          (subst (λ o. IfSome o (All (λ (r : Reply). IsCovered st (client, r)))) (sym at) (there (waits0 client) (covered client)))
      | inr apart ↦ subst (λ o. IfSome o (All (λ (r : Reply). IsCovered st (c, r)))) (sym (others c apart)) (covered c)
    ]
  where
    there : (o : Option (List Reply)) → IfSome o (All (λ (r : Reply). IsCovered st (client, r)))
        → IfSome (opened o) (All (λ (r : Reply). IsCovered st (client, r)))
    there None none = All-nil (λ (r : Reply). IsCovered st (client, r))
    there (Some rs) some = some

-- One outbox is shut.
pub boxes_shut : (st : State) (client : ℕ) (waits0 waits1 : ℕ → Option (List Reply)) → waits1 client ≡ None
    → ((c : ℕ) → c ≢ client → waits1 c ≡ waits0 c) → BoxesCovered st waits0 → BoxesCovered st waits1
boxes_shut st client waits0 waits1 at others covered c =
    elim (cases_eq c client) [
      | inl here ↦ subst (λ c. IfSome (waits1 c) (All (λ (r : Reply). IsCovered st (c, r)))) (sym here)
          (subst (λ o. IfSome o (All (λ (r : Reply). IsCovered st (client, r)))) (sym at) tt)
      | inr apart ↦ subst (λ o. IfSome o (All (λ (r : Reply). IsCovered st (c, r)))) (sym (others c apart)) (covered c)
    ]

-- A greeting welcomes or refuses.
pub greets : (st : State) (c version : ℕ) (fresh : Bool) → IsGreetingReply (greeting st c version fresh)
greets st c version fresh = by (not (version == VERSION)) (fresh && nat_lt 0 (last_number st c)) (is_one_too_many st c)
  where
    by : (a b d : Bool) → IsGreetingReply
        (cond a (refused refusals.Version)
        (cond b (refused (refusals.Known (last_number st c))) (cond d (refused refusals.TooManyClients) (replies.Welcome (last_number st c)))))
    by true b d = tt
    by false true d = tt
    by false false true = tt
    by false false false = tt
