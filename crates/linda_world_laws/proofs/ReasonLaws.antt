-- Each step keeps a reason for each hold, so each hold in a world that a run leads to has one.
use Rattle.std.proofs.Common.{◌≡◌, ◌≢◌, ℕ, ◌<◌, ◌≤◌, true, false, true≢false, List, [], ◌∷◌, Contains, slice_get, ◌⊎◌}
use Rattle.std.proofs.Common.{inl, inr, refl, sym, ap, ◌∙◌, subst, arith}
use Rattle.std.specs.Prelude.{Option, Some, None, is_some, All, IsSomeAnd}
use Rattle.std.proofs.lemmas.Option.{none-some, same_Some}
use Rattle.std.proofs.lemmas.List.Elements.{All-nil, All-weaker, All-contains, All-contains_itself}
use Rattle.std.specs.FinMap.{get}
use Rattle.linda_map_laws.proofs.MapLaws.{get_same, get_other, get_empty}
use Rattle.linda_tuple.specs.Tuple.{Tuple}
use Rattle.linda_hold.specs.declared.request.Request.{Request}
use Rattle.linda_hold.specs.Request.{request_of}
use Rattle.linda_wire.specs.declared.message.Message.TheVariants as messages
use Rattle.linda_wire.specs.declared.reply.Reply.{Reply}
use Rattle.linda_wire.specs.declared.reply.Reply.TheVariants as replies
use Rattle.linda_store_state.specs.declared.deed.Deed.{Deed}
use Rattle.linda_store_state.specs.declared.deed.Deed.TheVariants.{Take, Pass}
use Rattle.linda_store_step.specs.Soft.{Soft}
use Rattle.linda_store_step.specs.Deeds.{last_in as last_number}
use Rattle.linda_store_step.specs.Replies.{reports_deed, ReportsOne}
use Rattle.linda_client.specs.declared.arrived_tuple.PendingAccept.{PendingAccept}
use Rattle.linda_client.specs.declared.ask.Ask.{Ask}
use Rattle.linda_client.specs.Pending.{Pending, ask_at, is_fit}
use Rattle.linda_client.specs.Client.{Client, IsClient, asked_in, next_at, pending_in, servers}
use Rattle.linda_client.specs.Packets as client_packets
use Rattle.linda_client.specs.Reaction.{Reaction}
use Rattle.linda_client.specs.React.{Call, Receive, next_accept, react}
use Rattle.linda_client.specs.Offers.{IsSaved, IsTreated, InHand, AcceptIsAnswered, Becomes}
use Rattle.linda_world_laws.specs.declared.packet.Packet.{Packet}
use Rattle.linda_world_laws.specs.World.{Server, Member, World, member_then, sent_by, sent_from, delivered}
use Rattle.linda_world_laws.specs.Steps.{Told, HasReacted, HasJoined}
use Rattle.linda_world_laws.specs.Reached.{IsNew, IsStart, IsReached, begins, joins, goes}
use Rattle.linda_world_laws.specs.Promises.{OfPackets, HasCancel, HasOffer, IsOpenAt, AreHeldRightly}
use Rattle.linda_world_laws.specs.Honest.{IsHonest}
use Rattle.linda_world_laws.specs.Reasons.{OfMember, OfTicket, Suits, IsSaid, IsSane, IsUsedBy, IsWaitOf, HasInHand, HasReason, IsReasoned, HasReasons}
use Rattle.linda_world_laws.specs.Below.{OfSound, OfDeeds, OfSteps, OfCalls}
use Rattle.linda_world_laws.proofs.PlaceLaws.{same_or_apart, placed}
use Rattle.linda_world_laws.proofs.DeliverLaws.{of_more}
use Rattle.linda_world_laws.proofs.CallLaws.{same_later, later, rises, asks_on, sent_said, next_above, received_within}
use Rattle.linda_world_laws.proofs.Course.{IsCalled, Course, reacts, serves, course, received_told, received_or_same}
use Rattle.linda_world_laws.proofs.HonestLaws.{reached_honest}
use Rattle.linda_world_laws.proofs.NumberLaws.{last_used}
use Rattle.linda_world_laws.proofs.ServeLaws.{Goes, sane_on, reasoned_on, kept_there, sent_there, cancel_there, served_reasons}

some_and : {X : Type 0} (P : X → Type 0) (o : Option X) → IsSomeAnd o P → (x : X) × ((o ≡ Some x) × P x)
some_and P None never = absurd never
some_and P (Some x) is = (x, (refl, is))

-- A client reacted.
module _ (of_deeds : OfDeeds) (of_calls : OfCalls) (call : Call) (c : ℕ) (ks : List ℕ) (w new : World) (told : Told)
    (honest : IsHonest w) (reasons : HasReasons w) (called : IsCalled w call c ks) (reaction : HasReacted call c ks w told new) where
  abbrev was : Client
  was = reaction.member.client

  abbrev now : Client
  now = reaction.reaction.client

  abbrev after : Member
  after = member_then reaction.member reaction.reaction

  is_client : IsClient was
  is_client = honest.clients c reaction.member reaction.known

  known_now : get new.members c ≡ Some after
  known_now = ap (λ m. get m c) reaction.members ∙ get_same w.members c after

  others : (d : ℕ) → d ≢ c → get new.members d ≡ get w.members d
  others d apart = ap (λ m. get m d) reaction.members ∙ get_other w.members c after d apart

  go : Goes w.members new.members
  go d m known = by (same_or_apart d c)
    where
      by : (d ≡ c) ⊎ (d ≢ c) → (n : Member) × ((get new.members d ≡ Some n) × Rattle.linda_world_laws.proofs.CallLaws.IsLater m.client n.client)
      by (inl same) =
          let is : reaction.member ≡ m = same_Some reaction.member m (sym reaction.known ∙ ap (get w.members) (sym same) ∙ known) in (
            after,
            (
              ap (get new.members) same ∙ known_now,
              subst (λ (x : Member). Rattle.linda_world_laws.proofs.CallLaws.IsLater x.client now) is
                  (later of_calls was call reaction.reaction is_client reaction.answer),
            ),
          )
      by (inr apart) = (m, (others d apart ∙ known, same_later m.client))

  cancel_sent : (s k : ℕ) → Contains reaction.reaction.packets (s, messages.Cancel k) → HasCancel new.packets s (request_of c k)
  cancel_sent s k there = (false, sent_there (sent_by c) ks w.packets new.packets reaction.reaction.packets reaction.packets (s, messages.Cancel k) there)

  -- the same client, by its number
  own_member : (P : Client → Type 0) → OfMember w.members c P → P was
  own_member P is = subst (λ (m : Member). P m.client) (same_Some is.member reaction.member (sym is.known ∙ reaction.known)) is.holds

  module _ (s : ℕ) (server : Server) (there : slice_get w.servers s ≡ Some server) (k id : ℕ) where
    abbrev last : ℕ
    last = last_number server.deeds c

    -- the next number is not done
    next_undone : s < servers was → last < next_at was s
    next_undone within = last_used w.members s c server.deeds reaction.member
        (reasons.servers s server there).deeds reaction.known (next_above was s is_client within)

    -- What is in hand at the client then is so in the world.
    in_hand_now : (pending then : Pending) (ask : Ask) → s < servers was → pending_in was.task ≡ Some pending
        → pending_in now.task ≡ Some then → ask_at pending k ≡ Some ask
        → InHand (λ a. last < a.n) then s k id → HasReason new.members new.packets s server.deeds id (request_of c k)
    in_hand_now pending then ask within before pending_now is_open hand = inr (inr (record {
      member = after;
      known = known_now;
      holds = record {
        within = let same = (rises of_calls was call reaction.reaction is_client reaction.answer).same_servers in omega (arith, within, same);
        pending = then;
        pending_is = pending_now;
        ask = ask;
        is_open = asks_on of_calls was call reaction.reaction is_client reaction.answer pending then before pending_now k ∙ is_open;
        hand = hand;
      };
    }))

    -- an Accept that is answered was done
    done_by : (n : ℕ) (r : Reply) → call ≡ Receive s r → reports_deed r ≡ true
        → ((ds : List Deed) → ReportsOne ds c r → Rattle.linda_store_state.specs.Proper.IsProper Rattle.linda_store_state.specs.State.empty_state ds
        → n ≤ last_number ds c) → n ≤ last
    done_by n r e tells low =
        let found = received_told w call c ks called honest.backed s r e tells in
        let same : found.0 ≡ server = same_Some found.0 server (sym found.1.0 ∙ there) in
        subst (λ (v : Server). n ≤ last_number v.deeds c) same (low found.0.deeds found.1.1 (honest.sound s found.0 found.1.0).proper)

    gone_done : (n : ℕ) → call ≡ Receive s (replies.Gone n) → n ≤ last
    gone_done n e = done_by n (replies.Gone n) e refl (λ ds reply proper. let is =
        of_deeds.told_gone ds c n proper reply in (of_deeds.numbered ds proper).low (Pass c n is.id) is.passed)

    taken_done : (n i : ℕ) (row : Tuple) → call ≡ Receive s (replies.Taken n i row) → n ≤ last
    taken_done n i row e = done_by n (replies.Taken n i row) e refl
        (λ ds reply proper. (of_deeds.numbered ds proper).low (Take c n i) (of_deeds.told_take ds c n i row reply))

    -- what the client had in hand
    own_hand : HasInHand s last k id was → HasReason new.members new.packets s server.deeds id (request_of c k)
    own_hand h = by (of_calls.in_hand was call reaction.reaction is_client reaction.answer h.pending h.pending_is last s k id h.within h.ask h.is_open h.hand)
      where
        still : (then : Pending) → InHand (λ a. (last < a.n) ⊎ (a.n ≡ next_at was s)) then s k id → InHand (λ a. last < a.n) then s k id
        still then (inl saved) = inl saved
        still then (inr (a, inl low)) = inr (a, low)
        still then (inr (a, inr next)) = inr (a, let low = next_undone h.within in omega (arith, low, next))

        never : AcceptIsAnswered (λ a. last < a.n) call h.pending s k id → ⊥
        never a = elim a.answer [
          | inl gone ↦ (let done = gone_done a.accepted.own.n gone in let low = a.holds in omega (arith, done, low))
          | inr taken ↦ (let done = taken_done a.accepted.own.n id taken.0 taken.1 in let low = a.holds in omega (arith, done, low))
        ]

        by : Becomes (λ a. last < a.n) call was h.pending s k id reaction.reaction → HasReason new.members new.packets s server.deeds id (request_of c k)
        by (inl cancelled) = inr (inl (cancel_sent s k cancelled))
        by (inr (inl stays)) = in_hand_now h.pending stays.later h.ask h.within h.pending_is stays.after h.is_open (still stays.later stays.hand)
        by (inr (inr answered)) = absurd (never answered)

    -- an Offer that comes now
    offer_comes : (row : Tuple) → call ≡ Receive s (replies.Offer k id row) → OfTicket k (Suits row) was
        → HasReason new.members new.packets s server.deeds id (request_of c k)
    offer_comes row e suits = by_pending (pending_in was.task) refl
      where
        treated : IsTreated was s k id row reaction.reaction
        treated = of_calls.treated was call reaction.reaction is_client reaction.answer s k id row e

        within : s < servers was
        within = received_within was s (replies.Offer k id row) reaction.reaction (ap (react was) (sym e) ∙ reaction.answer)

        stray : asked_in (pending_in was.task) k ≡ None → HasReason new.members new.packets s server.deeds id (request_of c k)
        stray none = inr (inl (cancel_sent s k
            (subst (λ (r : Reaction). Contains {X = client_packets.Packet} r.packets (s, messages.Cancel k)) (sym (treated.stray none))
            (placed {X = client_packets.Packet} ((s, messages.Cancel k) ∷ []) 0 (s, messages.Cancel k) refl))))

        by_accepted : (pending : Pending) (ask : Ask) → pending_in was.task ≡ Some pending
            → ask_at pending k ≡ Some ask → is_fit ask true row ≡ true → (o : Option PendingAccept) → pending.accepted ≡ o
            → HasReason new.members new.packets s server.deeds id (request_of c k)
        by_accepted pending ask before is_open fits (Some own) accepted =
            let then = some_and (λ then. IsSaved then s k id) (pending_in now.task) (treated.saved pending ask before is_open fits (ap is_some accepted)) in
            in_hand_now pending then.0 ask within before then.1.0 is_open (inl then.1.1)
        by_accepted pending ask before is_open fits None free =
            let then = some_and (λ (then : Pending). then.accepted ≡ Some (next_accept was s k id))
            (pending_in now.task) (treated.accepted pending ask before is_open fits free) in
            in_hand_now pending then.0 ask within before then.1.0 is_open
            (inr (record { own = next_accept was s k id; there = then.1.1; server_is = refl; ticket_is = refl; id_is = refl }, next_undone within))

        by_ask : (pending : Pending) → pending_in was.task ≡ Some pending → (o : Option Ask)
            → ask_at pending k ≡ o → HasReason new.members new.packets s server.deeds id (request_of c k)
        by_ask pending before None none = stray (ap (λ o. asked_in o k) before ∙ none)
        by_ask pending before (Some ask) is_open =
            by_accepted pending ask before is_open (suits.asked ask (ap (λ o. asked_in o k) before ∙ is_open)) pending.accepted refl

        by_pending : (o : Option Pending) → pending_in was.task ≡ o → HasReason new.members new.packets s server.deeds id (request_of c k)
        by_pending None none = stray (ap (λ o. asked_in o k) none)
        by_pending (Some pending) before = by_ask pending before (ask_at pending k) refl

    -- A reason stays one, whosever it is, or there is another.
    reason_on : (d : ℕ) → HasReason w.members w.packets s server.deeds id (request_of d k)
        → HasReason new.members new.packets s server.deeds id (request_of d k)
    reason_on d (inr (inl cancel)) =
        inr (inl (cancel_there (sent_by c) ks w.packets new.packets reaction.reaction.packets reaction.packets s (request_of d k) cancel))
    reason_on d (inr (inr hand)) = by (same_or_apart d c)
      where
        by : (d ≡ c) ⊎ (d ≢ c) → HasReason new.members new.packets s server.deeds id (request_of d k)
        by (inl same) = subst (λ x. HasReason new.members new.packets s server.deeds id (request_of x k)) (sym same)
            (own_hand (own_member (HasInHand s last k id) (subst (λ x. OfMember w.members x (HasInHand s (last_number server.deeds x) k id)) same hand)))
        by (inr apart) = inr (inr (record { member = hand.member; known = others d apart ∙ hand.known; holds = hand.holds }))
    reason_on d (inl offer) = by (received_or_same w call c ks called (sent_from s (d, replies.Offer k id row)) (replies.Offer k id row) refl offer.sent)
      where
        row : Tuple
        row = offer.tuple

        suits : OfMember w.members d (OfTicket k (Suits row))
        suits = All-contains (λ (p : Packet). IsSane w.members p.server p.client p.body) w.packets
            (sent_from s (d, replies.Offer k id row)) reasons.sane offer.sent

        by : Contains (delivered ks w.packets) (sent_from s (d, replies.Offer k id row)) ⊎ ((d ≡ c) × (call ≡ Receive s (replies.Offer k id row)))
            → HasReason new.members new.packets s server.deeds id (request_of d k)
        by (inl same) = inl (record {
          tuple = row;
          put = offer.put;
          sent = kept_there (sent_by c) ks w.packets new.packets reaction.reaction.packets reaction.packets (sent_from s (d, replies.Offer k id row)) same;
        })
        by (inr comes) = subst (λ x. HasReason new.members new.packets s server.deeds id (request_of x k)) (sym comes.0)
            (offer_comes row comes.1 (own_member (OfTicket k (Suits row)) (subst (λ x. OfMember w.members x (OfTicket k (Suits row))) comes.0 suits)))

  pub reacted_reasons : HasReasons new
  reacted_reasons = record {
    sane = of_more (IsSane new.members) (sent_by c) ks w.packets new.packets reaction.reaction.packets reaction.packets
        (All-weaker (λ (p : Packet). IsSane w.members p.server p.client p.body) (λ (p : Packet). IsSane new.members p.server p.client p.body)
        (λ p. sane_on w.members new.members go p.server p.client p.body) w.packets reasons.sane)
        (All-weaker (Contains reaction.reaction.packets) (λ (p : client_packets.Packet). OfMember new.members c (IsSaid p.0 p.1))
        (λ p there. record { member = after; known = known_now; holds = sent_said of_calls was call reaction.reaction is_client reaction.answer p.0 p.1 there })
        reaction.reaction.packets (All-contains_itself reaction.reaction.packets));
    servers = λ s server found.
        let there : slice_get w.servers s ≡ Some server = ap (λ l. slice_get l s) (sym reaction.servers) ∙ found in
        reasoned_on w.members new.members go w.packets new.packets s server
        (λ id request is. reason_on s server there request.ticket id request.client is) (reasons.servers s server there);
  }

-- A client joined.
joined_reasons : (c : ℕ) (w new : World) → HasReasons w → HasJoined c w new → HasReasons new
joined_reasons c w new reasons joined = record {
  sane = subst (OfPackets (IsSane new.members)) (sym joined.packets)
      (All-weaker (λ (p : Packet). IsSane w.members p.server p.client p.body) (λ (p : Packet). IsSane new.members p.server p.client p.body)
      (λ p. sane_on w.members new.members go p.server p.client p.body) w.packets reasons.sane);
  servers = λ s server found. subst (λ l. IsReasoned new.members l s server) (sym joined.packets)
      (reasoned_on w.members new.members go w.packets w.packets s server (λ id request is. reason_on s server.deeds id request is)
      (reasons.servers s server (ap (λ l. slice_get l s) (sym joined.servers) ∙ found)));
}
  where
    same : (d : ℕ) (m : Member) → get w.members d ≡ Some m → get new.members d ≡ Some m
    same d m known =
        ap (λ x. get x d) joined.members ∙ get_other w.members c _ d (λ is. none-some m (sym joined.unknown ∙ ap (get w.members) (sym is) ∙ known)) ∙ known

    go : Goes w.members new.members
    go d m known = (m, (same d m known, same_later m.client))

    reason_on : (s : ℕ) (ds : List Deed) (id : ℕ) (request : Request) → HasReason w.members w.packets s ds id request
        → HasReason new.members w.packets s ds id request
    reason_on s ds id request (inl offer) = inl offer
    reason_on s ds id request (inr (inl cancel)) = inr (inl cancel)
    reason_on s ds id request (inr (inr hand)) =
        inr (inr (record { member = hand.member; known = same request.client hand.member hand.known; holds = hand.holds }))

-- A world begins with nothing held.
start_reasons : (w : World) → IsStart w → HasReasons w
start_reasons w start = record {
  sane = subst (OfPackets (IsSane w.members)) (sym start.packets) (All-nil (λ (p : Packet). IsSane w.members p.server p.client p.body));
  servers = λ s server there. new_reasoned s server (All-contains IsNew w.servers server start.servers (placed w.servers s server there));
}
  where
    nothing : (server : Server) → IsNew server → (id : ℕ) (request : Request) → get server.node.soft.holds id ≡ Some request → ⊥
    nothing server is id request held = none-some request (sym (get_empty id) ∙ sym (ap (λ (f : Soft). get f.holds id) is.unused.soft) ∙ held)

    new_reasoned : (s : ℕ) (server : Server) → IsNew server → IsReasoned w.members w.packets s server
    new_reasoned s server is = record {
      deeds = subst (All (IsUsedBy w.members s)) (sym is.deeds) (All-nil (IsUsedBy w.members s));
      lost = λ down. absurd (true≢false (sym down ∙ is.unused.is_up));
      up = λ _. record {
        waits = subst (λ (f : Soft). All (IsWaitOf w.members) f.waits) (sym is.unused.soft) (All-nil (IsWaitOf w.members));
        fits = λ id request row held. absurd (nothing server is id request held);
        held = λ id request held. absurd (nothing server is id request held);
      };
    }

module _ (of_sound : OfSound) (of_deeds : OfDeeds) (of_steps : OfSteps) (of_calls : OfCalls) where
  step_reasons : (w new : World) (told : Told) → IsHonest w → HasReasons w → Course w told new → HasReasons new
  step_reasons w new told honest reasons (reacts call c ks called reaction) =
      reacted_reasons of_deeds of_calls call c ks w new told honest reasons called reaction
  step_reasons w new told honest reasons (serves task s ks asked served) = served_reasons of_sound of_steps task s ks w new told honest reasons asked served

  reached_reasons : (w : World) → IsReached w → HasReasons w
  reached_reasons w (begins _ start) = start_reasons w start
  reached_reasons new (joins w _ c reached joined) = joined_reasons c w new (reached_reasons w reached) joined
  reached_reasons new (goes w _ event told reached step) =
      step_reasons w new told (reached_honest of_sound of_deeds of_calls w reached) (reached_reasons w reached) (course w new event told step)

  -- Each hold is right.
  pub reached_right : (w : World) → IsReached w → AreHeldRightly w
  reached_right w reached s server id request there up held = by ((((reached_reasons w reached).servers s server there).up up).held id request held)
    where
      by : HasReason w.members w.packets s server.deeds id request → IsOpenAt w.members request
          ⊎ (HasCancel w.packets s request ⊎ HasOffer w.packets s server.deeds request id)
      by (inl offer) = inr (inr offer)
      by (inr (inl cancel)) = inr (inl cancel)
      by (inr (inr h)) = inl (record {
        member = h.member;
        known = h.known;
        is_open =
            ap is_some (ap (λ o. asked_in o request.ticket) h.holds.pending_is ∙ h.holds.is_open);
      })
