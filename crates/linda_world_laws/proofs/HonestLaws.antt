-- Each step keeps a world honest, and what is honest is safe.
use Rattle.std.proofs.Common.{◌≡◌, ◌≢◌, ℕ, ◌≤◌, true, true≢false, List, [], ◌∷◌, ◌++◌, length, option_to_list, Contains}
use Rattle.std.proofs.Common.{slice_get, set, ◌⊎◌, inl, inr, refl, sym, ap, ◌∙◌, subst, arith, append-nil}
use Rattle.std.specs.Prelude.{Some, None, IfSome, Ok, Err, option_map}
use Rattle.std.proofs.lemmas.Option.{none-some, same_Some}
use Rattle.std.proofs.lemmas.List.{length-set}
use Rattle.std.proofs.lemmas.List.Elements.{All-nil, All-weaker, All-contains, All-contains_itself, Contains-push_cases}
use Rattle.std.specs.FinMap.{get}
use Rattle.linda_client.specs.declared.limits.TheConstants.{MAX_SERVERS}
use Rattle.linda_map_laws.proofs.MapLaws.{get_empty}
use Rattle.linda_wire.specs.declared.message.Message.{Message}
use Rattle.linda_wire.specs.declared.message.Message.TheVariants as messages
use Rattle.linda_wire.specs.declared.reply.Reply.{Reply}
use Rattle.linda_wire.specs.declared.reply.Reply.TheVariants as replies
use Rattle.linda_store_state.specs.declared.deed.Deed.{Deed}
use Rattle.linda_store_state.specs.declared.deed.Deed.TheVariants.{Take}
use Rattle.linda_store_state.specs.State.{empty_state}
use Rattle.linda_store_state.specs.Deed as deeds
use Rattle.linda_store_state.specs.After.{IsAfter}
use Rattle.linda_store_state.specs.Proper.{IsProper}
use Rattle.linda_store_state.proofs.StateLaws.{empty_is_state}
use Rattle.linda_store_state.proofs.AfterLaws.{none_after}
use Rattle.linda_store_state.proofs.ProperLaws.{none_proper}
use Rattle.linda_store_step.specs.Store.{IsOrderly}
use Rattle.linda_store_step.proofs.OrderLaws.{no_asks_orderly}
use Rattle.linda_store_step.specs.Replies.{reports_deed, ReportsOne}
use Rattle.linda_store_step.specs.Deeds.{HandsOver}
use Rattle.linda_store.specs.Node.{NodeAnswer, Sent, IsFull, IsDown}
use Rattle.linda_store.specs.Sound.{IsSound}
use Rattle.linda_client.specs.Client.{Client, IsClient, next_at}
use Rattle.linda_client.specs.Packets as packets
use Rattle.linda_client.specs.Numbers.{number_of, IsUnanswered}
use Rattle.linda_client.proofs.ListLaws.{nowhere}
use Rattle.linda_client.specs.React.{Call, new_client}
use Rattle.linda_world_laws.specs.declared.event.WorldEvent.{WorldEvent}
use Rattle.linda_world_laws.specs.declared.packet.Body.{Body}
use Rattle.linda_world_laws.specs.declared.packet.Body.TheVariants as bodies
use Rattle.linda_world_laws.specs.declared.packet.Packet.{Packet}
use Rattle.linda_world_laws.specs.World.{Server, Member, World, handed_by, place_of, tuple_taken_by, member_then, sent_by, sent_from}
use Rattle.linda_world_laws.specs.declared.seen.Seen.{Seen}
use Rattle.linda_world_laws.specs.Steps.{Told, Task, served, sends_of, HasReacted, HasServed, HasJoined, Steps}
use Rattle.linda_world_laws.specs.Reached.{IsNew, IsStart, IsReached, begins, joins, goes}
use Rattle.linda_world_laws.specs.Promises.{OfEach, IsOnce, OfServer, DeedsStay, IsRightful, IsBacked, IsGone, OfPackets, IsSafe, IsHanded}
use Rattle.linda_world_laws.specs.Honest.{IsEarned, IsHonest}
use Rattle.linda_world_laws.specs.Below.{OfSound, OfDeeds, OfCalls}
use Rattle.linda_world_laws.proofs.PlaceLaws.{set_there, each_of_set, each_of_insert, same_or_apart, placed, none_there, none_twice, pushed_once}
use Rattle.linda_world_laws.proofs.DeliverLaws.{of_more}
use Rattle.linda_world_laws.proofs.CallLaws.{rises, unanswered_from, IsGiven, given_now, given_used}
use Rattle.linda_world_laws.proofs.Course.{IsCalled, Course, reacts, serves, course, received_told}
use Rattle.linda_world_laws.proofs.StayLaws.{does_sound, does_backed, backed_still, earned_still, same_stay}

served_stay : (task : Task) (s : ℕ) (ks : List ℕ) (w new : World) (told : Told) → HasServed task s ks w told new → DeedsStay w new
served_stay task s ks w new told served k old there = by (same_or_apart k s)
  where
    after : Server
    after = record { deeds = served.server.deeds ++ served.deeds; node = served.node }

    by : (k ≡ s) ⊎ (k ≢ s) → OfServer new.servers k (λ ds. (more : List Deed) × (ds ≡ old.deeds ++ more))
    by (inl same) =
        let old_is : served.server ≡ old = same_Some served.server old (sym served.there ∙ ap (slice_get w.servers) (sym same) ∙ there) in (
          after,
          (
            ap (λ l. slice_get l k) served.servers ∙ ap (slice_get (set w.servers s after)) same
                ∙ set_there w.servers s after served.server served.there,
            (served.deeds, ap (λ (v : Server). v.deeds ++ served.deeds) old_is),
          ),
        )
    by (inr apart) = (
      old,
      (
        ap (λ l. slice_get l k) served.servers
            ∙ Rattle.linda_world_laws.proofs.PlaceLaws.set_elsewhere w.servers s k after apart ∙ there,
        ([], sym (append-nil old.deeds)),
      ),
    )

-- Deeds stay at each step.
pub deeds_stay : (w new : World) (event : WorldEvent) (told : Told) → Steps w event told new → DeedsStay w new
deeds_stay w new event told step = by (course w new event told step)
  where
    by : Course w told new → DeedsStay w new
    by (reacts call c ks called reaction) = same_stay w new reaction.servers
    by (serves task s ks asked served) = served_stay task s ks w new told served

-- P holds of each client, as before.
same_members : (P : ℕ → Member → Type 0) (w new : World) → new.members ≡ w.members → OfEach w P → OfEach new P
same_members P w new same old c m known = old c m (ap (λ x. get x c) (sym same) ∙ known)

-- A server did what it was asked.
module _ (laws : OfSound) (task : Task) (s : ℕ) (ks : List ℕ) (w new : World) (told : Told)
    (honest : IsHonest w) (served : HasServed task s ks w told new) where
  abbrev after : Server
  after = record { deeds = served.server.deeds ++ served.deeds; node = served.node }

  was : IsSound served.server.deeds served.server.node
  was = honest.sound s served.server served.there

  stay : DeedsStay w new
  stay = served_stay task s ks w new told served

  after_there : slice_get new.servers s ≡ Some after
  after_there = ap (λ l. slice_get l s) served.servers ∙ set_there w.servers s after served.server served.there

  count : length new.servers ≡ length w.servers
  count = ap length served.servers ∙ length-set w.servers s after

  pub served_honest : IsHonest new
  served_honest = record {
    some = let n = honest.some in omega (arith, count, n);
    few = let n = honest.few in omega (arith, count, n);
    sound = λ k v found. each_of_set (λ k v. IsSound v.deeds v.node) w.servers s after served.server served.there
        (does_sound laws served.server.deeds served.deeds served.server.node served.node served.answer was task served.done)
        (λ k v apart at. honest.sound k v at) k v (ap (λ l. slice_get l k) (sym served.servers) ∙ found);
    backed = of_more (IsBacked new.servers) (sent_from s) ks w.packets new.packets (sends_of task served.answer) served.packets
        (All-weaker (λ (p : Packet). IsBacked w.servers p.server p.client p.body) (λ (p : Packet). IsBacked new.servers p.server p.client p.body)
        (λ p. backed_still w new stay p.server p.client p.body) w.packets honest.backed)
        (All-weaker (λ (r : ℕ × Reply). reports_deed r.1 ≡ true → ReportsOne after.deeds r.0 r.1)
        (λ (r : ℕ × Reply). IsBacked new.servers s r.0 (bodies.Reply r.1))
        (λ r tells is. (after, (after_there, tells is))) (sends_of task served.answer)
        (does_backed laws served.server.deeds served.deeds served.server.node served.node served.answer was task served.done));
    clients = same_members (λ c m. IsClient m.client) w new served.members honest.clients;
    earned = same_members (λ c m. (pair : ℕ × ℕ) → Contains m.got pair → IsEarned new.servers c m.client pair) w new served.members
        (λ c m known pair given. earned_still w new stay c m.client pair (honest.earned c m known pair given));
    once = same_members (λ c m. IsOnce m.got) w new served.members honest.once;
  }

-- A client reacted.
module _ (of_deeds : OfDeeds) (of_calls : OfCalls) (call : Call) (c : ℕ) (ks : List ℕ) (w new : World)
    (told : Told) (honest : IsHonest w) (called : IsCalled w call c ks) (reacts : HasReacted call c ks w told new) where
  abbrev was_client : Client
  was_client = reacts.member.client

  abbrev now : Client
  now = reacts.reaction.client

  is_client : IsClient was_client
  is_client = honest.clients c reacts.member reacts.known

  given_or_not : (handed_by reacts.reaction.outcome ≡ None) ⊎ IsGiven of_calls was_client call reacts.reaction is_client reacts.answer
  given_or_not = given_now of_calls was_client call reacts.reaction is_client reacts.answer

  -- what was earned is earned still
  earned_on : (pair : ℕ × ℕ) → IsEarned w.servers c was_client pair → IsEarned w.servers c now pair
  earned_on pair old = record {
    server = old.server;
    there = old.there;
    number = old.number;
    taken = old.taken;
    used = let low = old.used in let more = (rises of_calls was_client call reacts.reaction is_client reacts.answer).numbers pair.0 in omega (arith, low, more);
    over = λ k there. by k (unanswered_from of_calls was_client call reacts.reaction is_client reacts.answer pair.0 k there);
  }
    where
      by : (k : Message) → IsUnanswered was_client pair.0 k ⊎ (number_of k ≡ Some (next_at was_client pair.0)) → number_of k ≢ Some old.number
      by k (inl before) = old.over k before
      by k (inr next) = λ number.
          let low = old.used in
          let same : old.number ≡ next_at was_client pair.0 = same_Some old.number (next_at was_client pair.0) (sym number ∙ next) in
          omega (arith, low, same)

  -- what is given now
  module _ (g : IsGiven of_calls was_client call reacts.reaction is_client reacts.answer) where
    backing : OfServer w.servers g.server (λ ds. ReportsOne ds c (replies.Taken g.number g.id g.tuple))
    backing = received_told w call c ks called honest.backed g.server (replies.Taken g.number g.id g.tuple) g.call_is refl

    sound : IsSound backing.0.deeds backing.0.node
    sound = honest.sound g.server backing.0 backing.1.0

    taken : Contains backing.0.deeds (Take c g.number g.id)
    taken = of_deeds.told_take backing.0.deeds c g.number g.id g.tuple backing.1.1

    given_is : tuple_taken_by reacts.reaction.outcome ≡ (g.server, g.id) ∷ []
    given_is = ap (λ o. option_to_list (option_map place_of o)) g.handed

    handed_over : HandsOver backing.0.deeds c g.id g.tuple
    handed_over =
        let handed = of_deeds.handed backing.0.deeds c g.number g.id sound.proper taken in
        let same : handed.0 ≡ g.tuple =
        same_Some handed.0 g.tuple (sym handed.1.put ∙ of_deeds.told_tuple backing.0.deeds c g.number g.id g.tuple backing.1.1) in
        subst (HandsOver backing.0.deeds c g.id) same handed.1

    earned_now : IsEarned w.servers c now (g.server, g.id)
    earned_now = record {
      server = backing.0;
      there = backing.1.0;
      number = g.number;
      taken = taken;
      used =
          let low = given_used of_calls was_client call reacts.reaction is_client reacts.answer g in
          let more = (rises of_calls was_client call reacts.reaction is_client reacts.answer).numbers g.server in
          omega (arith, low, more);
      over = λ k there. nowhere {X = packets.Packet} (g.server, k) (subst (λ l. Contains {X = packets.Packet} l (g.server, k)) g.over there);
    }

    not_before : Contains reacts.member.got (g.server, g.id) → ⊥
    not_before given =
        let e = honest.earned c reacts.member reacts.known (g.server, g.id) given in
        let same : e.server ≡ backing.0 = same_Some e.server backing.0 (sym e.there ∙ backing.1.0) in
        let before : Contains backing.0.deeds (Take c e.number g.id) = subst (λ (v : Server). Contains v.deeds (Take c e.number g.id)) same e.taken in
        let one : Take c e.number g.id ≡ Take c g.number g.id =
        of_deeds.one_take backing.0.deeds c c e.number g.number g.id
        (of_deeds.taken_once empty_state backing.0.deeds empty_is_state sound.proper) before taken in
        e.over (messages.Accept g.number g.ticket g.id) g.was
        (ap (λ d. Some (deeds.number_of d)) (sym one))

  all_earned : (pair : ℕ × ℕ) → Contains (reacts.member.got ++ tuple_taken_by reacts.reaction.outcome) pair → IsEarned w.servers c now pair
  all_earned pair there = by given_or_not
    where
      before : Contains reacts.member.got pair → IsEarned w.servers c now pair
      before given = earned_on pair (honest.earned c reacts.member reacts.known pair given)

      by : (handed_by reacts.reaction.outcome ≡ None) ⊎ IsGiven of_calls was_client call reacts.reaction is_client reacts.answer → IsEarned w.servers c now pair
      by (inl none) = before (subst (λ l. Contains l pair)
          (ap (λ o. reacts.member.got ++ option_to_list (option_map place_of o)) none ∙ append-nil reacts.member.got) there)
      by (inr g) = elim (Contains-push_cases reacts.member.got (g.server, g.id) pair (subst (λ l. Contains (reacts.member.got ++ l) pair) (given_is g) there)) [
        | inl old ↦ before old
        | inr new_one ↦ subst (IsEarned w.servers c now) new_one (earned_now g)
      ]

  given_once : IsOnce (reacts.member.got ++ tuple_taken_by reacts.reaction.outcome)
  given_once = by given_or_not
    where
      old : IsOnce reacts.member.got
      old = honest.once c reacts.member reacts.known

      by : (handed_by reacts.reaction.outcome ≡ None) ⊎ IsGiven of_calls was_client call reacts.reaction is_client reacts.answer
          → IsOnce (reacts.member.got ++ tuple_taken_by reacts.reaction.outcome)
      by (inl none) = subst (λ l. IsOnce l)
          (sym (ap (λ o. reacts.member.got ++ option_to_list (option_map place_of o)) none ∙ append-nil reacts.member.got)) old
      by (inr g) = subst (λ l. IsOnce (reacts.member.got ++ l)) (sym (given_is g)) (pushed_once reacts.member.got (g.server, g.id) old (not_before g))

  of_each_now : (P : ℕ → Member → Type 0) → P c (member_then reacts.member reacts.reaction) → OfEach w P → OfEach new P
  of_each_now P own others d m known = each_of_insert P w.members c (member_then reacts.member reacts.reaction) own
      (λ d m apart at. others d m at) d m (ap (λ x. get x d) (sym reacts.members) ∙ known)

  -- What is handed over is what was put.
  pub handed_right : IsHanded new c (handed_by reacts.reaction.outcome)
  handed_right = subst (λ l. IfSome (handed_by reacts.reaction.outcome) (λ h. OfServer l h.server (λ ds. HandsOver ds c h.id h.tuple)))
      (sym reacts.servers) (by given_or_not)
    where
      by : (handed_by reacts.reaction.outcome ≡ None) ⊎ IsGiven of_calls was_client call reacts.reaction is_client reacts.answer
          → IfSome (handed_by reacts.reaction.outcome) (λ h. OfServer w.servers h.server (λ ds. HandsOver ds c h.id h.tuple))
      by (inl none) = subst (λ o. IfSome o (λ h. OfServer w.servers h.server (λ ds. HandsOver ds c h.id h.tuple))) (sym none) tt
      by (inr g) = subst (λ o. IfSome o (λ h. OfServer w.servers h.server (λ ds. HandsOver ds c h.id h.tuple)))
          (sym g.handed) ((backing g).0, ((backing g).1.0, handed_over g))

  pub reacted_honest : IsHonest new
  reacted_honest = record {
    some = subst (λ (l : List Server). 1 ≤ length l) (sym reacts.servers) honest.some;
    few = subst (λ (l : List Server). length l ≤ MAX_SERVERS) (sym reacts.servers) honest.few;
    sound = λ s v found. honest.sound s v (ap (λ l. slice_get l s) (sym reacts.servers) ∙ found);
    backed = of_more (IsBacked new.servers) (sent_by c) ks w.packets new.packets reacts.reaction.packets reacts.packets
        (subst (λ l. OfPackets (IsBacked l) w.packets) (sym reacts.servers) honest.backed) (λ k d within. tt);
    clients = of_each_now (λ d m. IsClient m.client) (of_calls.kept was_client call reacts.reaction is_client reacts.answer) honest.clients;
    earned = of_each_now (λ d m. (pair : ℕ × ℕ) → Contains m.got pair → IsEarned new.servers d m.client pair)
        (λ pair given. subst (λ l. IsEarned l c now pair) (sym reacts.servers) (all_earned pair given))
        (λ d m known pair given. subst (λ l. IsEarned l d m.client pair) (sym reacts.servers) (honest.earned d m known pair given));
    once = of_each_now (λ d m. IsOnce m.got) given_once honest.once;
  }

-- A client joined.
pub joined_honest : (of_calls : OfCalls) (c : ℕ) (w new : World) → IsHonest w → HasJoined c w new → IsHonest new
joined_honest of_calls c w new honest joined = record {
  some = subst (λ (l : List Server). 1 ≤ length l) (sym joined.servers) honest.some;
  few = subst (λ (l : List Server). length l ≤ MAX_SERVERS) (sym joined.servers) honest.few;
  sound = λ s v found. honest.sound s v (ap (λ l. slice_get l s) (sym joined.servers) ∙ found);
  backed = subst (λ l. OfPackets (IsBacked l) new.packets) (sym joined.servers) (subst (OfPackets (IsBacked w.servers)) (sym joined.packets) honest.backed);
  clients = of_each_now (λ d m. IsClient m.client) (of_calls.new c (length w.servers) honest.some honest.few) honest.clients;
  earned = of_each_now (λ d m. (pair : ℕ × ℕ) → Contains m.got pair → IsEarned new.servers d m.client pair)
      (λ pair given. absurd (none_there pair given))
      (λ d m known pair given. subst (λ l. IsEarned l d m.client pair) (sym joined.servers) (honest.earned d m known pair given));
  once = of_each_now (λ d m. IsOnce m.got) none_twice honest.once;
}
  where
    fresh : Member
    fresh = record { client = new_client c (length w.servers); got = [] }

    of_each_now : (P : ℕ → Member → Type 0) → P c fresh → OfEach w P → OfEach new P
    of_each_now P own others d m known =
        each_of_insert P w.members c fresh own (λ d m apart at. others d m at) d m (ap (λ x. get x d) (sym joined.members) ∙ known)

-- A world begins honest.
pub nobody : (w : World) → IsStart w → (c : ℕ) (m : Member) → get w.members c ≡ Some m → ⊥
nobody w start c m known = none-some m (sym (get_empty c) ∙ ap (λ x. get x c) (sym start.members) ∙ known)

start_honest : (w : World) → IsStart w → IsHonest w
start_honest w start = record {
  some = start.some;
  few = start.few;
  sound = λ s server there. new_sound server (All-contains IsNew w.servers server start.servers (placed w.servers s server there));
  backed = subst (OfPackets (IsBacked w.servers)) (sym start.packets) (All-nil (λ (p : Packet). IsBacked w.servers p.server p.client p.body));
  clients = λ c m known. absurd (nobody w start c m known);
  earned = λ c m known. absurd (nobody w start c m known);
  once = λ c m known. absurd (nobody w start c m known);
}
  where
    new_sound : (server : Server) → IsNew server → IsSound server.deeds server.node
    new_sound server is = record {
      proper = subst (IsProper empty_state) (sym is.deeds) (none_proper empty_state);
      after = subst (λ l. IsAfter empty_state l server.node.state) (sym is.deeds)
          (subst (IsAfter empty_state []) (sym is.unused.state) (none_after empty_state empty_is_state));
      orderly = λ up. subst (λ st. IsOrderly st server.node.soft) (sym is.unused.state)
          (subst (IsOrderly empty_state) (sym is.unused.soft) (no_asks_orderly empty_state empty_is_state));
      lost = λ down. absurd (true≢false (sym down ∙ is.unused.is_up));
    }

abbrev saw : Seen → Told
saw seen = Ok seen

module _ (of_sound : OfSound) (of_deeds : OfDeeds) (of_calls : OfCalls) where
  pub step_honest : (w new : World) (told : Told) → IsHonest w → Course w told new → IsHonest new
  step_honest w new told honest (reacts call c ks called reaction) = reacted_honest of_deeds of_calls call c ks w new told honest called reaction
  step_honest w new told honest (serves task s ks asked served) = served_honest of_sound task s ks w new told honest served

  pub reached_honest : (w : World) → IsReached w → IsHonest w
  reached_honest w (begins _ start) = start_honest w start
  reached_honest new (joins w _ c reached joined) = joined_honest of_calls c w new (reached_honest w reached) joined
  reached_honest new (goes w _ event told reached step) = step_honest w new told (reached_honest w reached) (course w new event told step)

  -- What is reported as gone was passed over.
  gone_right : (w : World) → IsHonest w → (s c : ℕ) (body : Body) → IsBacked w.servers s c body → IsGone w.servers s c body
  gone_right w honest s c (bodies.Message m) told = tt
  gone_right w honest s c (bodies.Reply (replies.Gone n)) told =
      let found = told refl in
      (found.0, (found.1.0, of_deeds.told_gone found.0.deeds c n (honest.sound s found.0 found.1.0).proper found.1.1))
  gone_right w honest s c (bodies.Reply (replies.Welcome last)) told = tt
  gone_right w honest s c (bodies.Reply (replies.Stored n id)) told = tt
  gone_right w honest s c (bodies.Reply (replies.Offer ticket id row)) told = tt
  gone_right w honest s c (bodies.Reply (replies.Read ticket id row)) told = tt
  gone_right w honest s c (bodies.Reply (replies.Taken n id row)) told = tt
  gone_right w honest s c (bodies.Reply (replies.Refused code detail)) told = tt
  gone_right w honest s c (bodies.Reply (replies.Left n)) told = tt

  -- What is honest is safe.
  honest_safe : (w : World) → IsHonest w → IsSafe w
  honest_safe w honest = record {
    given_once = record {
      one_client = λ c d m n pair c_known d_known first second.
          let a = honest.earned c m c_known pair first in
          let b = honest.earned d n d_known pair second in
          let same : b.server ≡ a.server = same_Some b.server a.server (sym b.there ∙ a.there) in
          let taken : Contains a.server.deeds (Take d b.number pair.1) = subst (λ (v : Server). Contains v.deeds (Take d b.number pair.1)) same b.taken in
          let once = of_deeds.taken_once empty_state a.server.deeds empty_is_state (honest.sound pair.0 a.server a.there).proper in
          ap deeds.client_of (of_deeds.one_take a.server.deeds c d a.number b.number pair.1 once a.taken taken);
      one_place = honest.once;
    };
    rightful = λ c m known. All-weaker (Contains m.got) (IsRightful w c) (λ pair given.
        let e = honest.earned c m known pair given in
        (e.server, (e.there, of_deeds.handed e.server.deeds c e.number pair.1 (honest.sound pair.0 e.server e.there).proper e.taken))) m.got
        (All-contains_itself m.got);
    backed = honest.backed;
    gone = All-weaker (λ (p : Packet). IsBacked w.servers p.server p.client p.body) (λ (p : Packet). IsGone w.servers p.server p.client p.body)
        (λ p. gone_right w honest p.server p.client p.body) w.packets honest.backed;
  }

  pub reached_safe : (w : World) → IsReached w → IsSafe w
  reached_safe w reached = honest_safe w (reached_honest w reached)

  -- What is handed over by a step is what was put.
  pub reached_handed : (w new : World) (event : WorldEvent) (seen : Seen) → IsReached w
      → Steps w event (Ok seen) new → IfSome seen.client (λ c. IsHanded new c (handed_by seen.outcome))
  reached_handed w new event seen reached step = by (course w new event (Ok seen) step)
    where
      same_seen : (a b : Seen) → saw a ≡ saw b → a ≡ b
      same_seen a b e = cc

      by_answer : (s : ℕ) (a : NodeAnswer) → Ok seen ≡ served s a → IfSome seen.client (λ c. IsHanded new c (handed_by seen.outcome))
      by_answer s (Sent sends) e = subst (λ (x : Seen). IfSome x.client (λ c. IsHanded new c (handed_by x.outcome))) (sym (same_seen seen _ e)) tt
      by_answer s IsFull e = subst (λ (x : Seen). IfSome x.client (λ c. IsHanded new c (handed_by x.outcome))) (sym (same_seen seen _ e)) tt
      by_answer s IsDown e = absurd (never s e)
        where
          never : (s : ℕ) → Ok seen ≡ Err s → ⊥
          never s e = cc

      by : Course w (Ok seen) new → IfSome seen.client (λ c. IsHanded new c (handed_by seen.outcome))
      by (reacts call c ks called reaction) =
          subst (λ (x : Seen). IfSome x.client (λ c. IsHanded new c (handed_by x.outcome))) (sym (same_seen seen _ reaction.told_is))
          (handed_right of_deeds of_calls call c ks w new (Ok seen) (reached_honest w reached) called reaction)
      by (serves task s ks asked is) = by_answer s is.answer is.told_is
