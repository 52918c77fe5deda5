-- What a server is asked keeps a reason for each hold.
use Rattle.std.proofs.Common.{◌≡◌, ℕ, Bool, true, false, true≢false, List, [], ◌∷◌, ◌++◌, map, Contains, slice_get, inl}
use Rattle.std.proofs.Common.{inr, refl, sym, ap, ◌∙◌, subst, arith, append-nil}
use Rattle.std.specs.Prelude.{Some, Ok, Err, All, Result}
use Rattle.std.specs.Global.{Vec}
use Rattle.std.proofs.lemmas.Option.{none-some, same_Some}
use Rattle.std.proofs.lemmas.List.Elements.{All-nil, All-cons, All-append, All-weaker, Contains-append_left, Contains-append_right}
use Rattle.std.specs.FinMap.{get}
use Rattle.linda_map_laws.proofs.MapLaws.{get_empty}
use Rattle.linda_tuple.specs.Tuple.{Tuple}
use Rattle.linda_hold.specs.declared.request.Request.{Request}
use Rattle.linda_wire.specs.declared.message.Message.{Message}
use Rattle.linda_wire.specs.declared.message.Message.TheVariants as messages
use Rattle.linda_wire.specs.declared.reply.Reply.{Reply}
use Rattle.linda_wire.specs.declared.reply.Reply.TheVariants as replies
use Rattle.linda_wire.specs.declared.refusal.Refusal.TheVariants as refusals
use Rattle.linda_wire.specs.Refusal.{refused}
use Rattle.linda_store_state.specs.declared.deed.Deed.{Deed}
use Rattle.linda_store_step.specs.Soft.{Soft}
use Rattle.linda_store_step.specs.History.{Coming, says, hangs_up, comings}
use Rattle.linda_store.specs.declared.node.NodeFault.{NodeFault}
use Rattle.linda_store.specs.declared.node.NodeFault.TheVariants as faults
use Rattle.linda_store.specs.Node.{Node, NodeAnswer, Sent, IsFull, IsDown, IsDone, WentDown, IsOpened, Works, Closes, Snaps, Stops}
use Rattle.linda_store.specs.Sound.{IsSound, added}
use Rattle.linda_client.specs.declared.ask.Ask.{Ask}
use Rattle.linda_client.specs.Client.{Client}
use Rattle.linda_world_laws.specs.declared.packet.Body.{Body}
use Rattle.linda_world_laws.specs.declared.packet.Body.TheVariants as bodies
use Rattle.linda_world_laws.specs.declared.packet.Packet.{Packet}
use Rattle.linda_world_laws.specs.World.{Server, Member, Members, World, sent_by, sent_from, delivered}
use Rattle.linda_world_laws.specs.Steps.{Told, Task, Takes, HangsUp, Saves, Halts, silent, Does, without_room, sends_of, HasServed, AreMessagesAt}
use Rattle.linda_world_laws.specs.Promises.{OfPackets, HasCancel, HasOffer, IsPut}
use Rattle.linda_world_laws.specs.Honest.{IsHonest}
use Rattle.linda_world_laws.specs.Reasons.{OfMember, OfTicket, Asks, Suits, IsSaid, IsReplied, IsSane, IsUsedBy}
use Rattle.linda_world_laws.specs.Reasons.{IsWaitOf, HasReason, IsWaitedFor, IsReasoned, HasReasons}
use Rattle.linda_world_laws.specs.Below.{OfSound, OfSteps}
use Rattle.linda_world_laws.proofs.PlaceLaws.{each_of_set}
use Rattle.linda_world_laws.proofs.PutLaws.{put_still}
use Rattle.linda_world_laws.proofs.DeliverLaws.{mapped_there, of_more, of_one, still_there, same_or_delivered, unmoved}
use Rattle.linda_world_laws.proofs.CallLaws.{IsLater, same_later, ticket_still, said_still}
use Rattle.linda_world_laws.proofs.Course.{IsAsked, takes, hangs_up as closes, saves, halts}
use Rattle.linda_world_laws.proofs.StayLaws.{does_sound}
use Rattle.linda_world_laws.proofs.ComingLaws.{IsSpoken, front_of, used_left, single, sends_suit, deeds_used, waited_then}

-- Clients go on: each is there still, later on.
abbrev pub Goes : Members → Members → Type 0
Goes ms news = (d : ℕ) (m : Member) → get ms d ≡ Some m → (n : Member) × ((get news d ≡ Some n) × IsLater m.client n.client)

module _ (ms news : Members) (go : Goes ms news) where
  member_on : (P : Client → Type 0) → ((c new : Client) → IsLater c new → P c → P new) → (d : ℕ) → OfMember ms d P → OfMember news d P
  member_on P more d is =
      let now = go d is.member is.known in
      record { member = now.0; known = now.1.0; holds = more is.member.client now.0.client now.1.1 is.holds }

  pub ticket_on : (d k : ℕ) (P : Ask → Type 0) → OfMember ms d (OfTicket k P) → OfMember news d (OfTicket k P)
  ticket_on d k P = member_on (OfTicket k P) (λ c new on. ticket_still c new on k P) d

  replied_on : (d : ℕ) (r : Reply) → IsReplied ms d r → IsReplied news d r
  replied_on d (replies.Welcome last) is = tt
  replied_on d (replies.Stored n id) is = tt
  replied_on d (replies.Offer k id row) is = ticket_on d k (Suits row) is
  replied_on d (replies.Read k id row) is = tt
  replied_on d (replies.Taken n id row) is = tt
  replied_on d (replies.Gone n) is = tt
  replied_on d (replies.Refused code detail) is = tt
  replied_on d (replies.Left n) is = tt

  pub sane_on : (s d : ℕ) (body : Body) → IsSane ms s d body → IsSane news s d body
  sane_on s d (bodies.Message m) is = member_on (IsSaid s m) (λ c new on. said_still c new on s m) d is
  sane_on s d (bodies.Reply r) is = replied_on d r is

  used_on : (s : ℕ) (d : Deed) → IsUsedBy ms s d → IsUsedBy news s d
  used_on s d = member_on _ (λ c new on low. let more = on.numbers s in omega (arith, low, more)) _

  -- What is kept of a server is kept, if its holds still have a reason.
  pub reasoned_on : (ps new : List Packet) (s : ℕ) (server : Server)
      → ((id : ℕ) (request : Request) → HasReason ms ps s server.deeds id request → HasReason news new s server.deeds id request)
      → IsReasoned ms ps s server → IsReasoned news new s server
  reasoned_on ps new s server held is = record {
    deeds = All-weaker (IsUsedBy ms s) (IsUsedBy news s) (used_on s) server.deeds is.deeds;
    lost = λ down. All-weaker (IsUsedBy ms s) (IsUsedBy news s) (used_on s) server.node.lost (is.lost down);
    up = λ up. record {
      waits = All-weaker (IsWaitOf ms) (IsWaitOf news)
          (λ v. ticket_on v.0.client v.0.ticket (Asks v.1.remove v.1.template)) server.node.soft.waits (is.up up).waits;
      fits = λ id request row h b. ticket_on request.client request.ticket (Suits row) ((is.up up).fits id request row h b);
      held = λ id request h. held id request ((is.up up).held id request h);
    };
  }

-- Packets of before, and those that are sent, are among the new ones.
module _ {X : Type 0} (f : X → Packet) (ks : List ℕ) (ps new : List Packet) (sent : List X) (is : new ≡ delivered ks ps ++ map f sent) where
  pub kept_there : (p : Packet) → Contains (delivered ks ps) p → Contains new p
  kept_there p there = subst (λ l. Contains l p) (sym is) (Contains-append_left (delivered ks ps) (map f sent) p there)

  pub sent_there : (x : X) → Contains sent x → Contains new (f x)
  sent_there x there = subst (λ l. Contains l (f x)) (sym is) (Contains-append_right (delivered ks ps) (map f sent) (f x) (mapped_there f sent x there))

  pub cancel_there : (s : ℕ) (r : Request) → HasCancel ps s r → HasCancel new s r
  cancel_there s r (b, there) =
      let now = still_there ks ps (record (sent_by r.client (s, messages.Cancel r.ticket)) { delivered = b }) there in
      (now.is_delivered, kept_there (record (sent_by r.client (s, messages.Cancel r.ticket)) { delivered = now.is_delivered }) now.there)

-- What a task lets come to its server.
abbrev comings_of : Task → List Coming
comings_of (Takes c m) = says c m ∷ []
comings_of (HangsUp c) = hangs_up c ∷ []
comings_of Saves = []
comings_of (Halts xs) = xs

message_spoken : (ms : Members) (s : ℕ) (p : Packet) (m : Message) → p.body ≡ bodies.Message m
    → IsSane ms p.server p.client p.body → p.server ≡ s → (c : ℕ) → p.client ≡ c → OfMember ms c (IsSaid s m)
message_spoken ms s p m body sane server c client =
    subst (λ d. OfMember ms d (IsSaid s m)) client (subst (λ t. OfMember ms p.client (IsSaid t m)) server (subst (IsSane ms p.server p.client) body sane))

in_hand_spoken : (ms : Members) (ps : List Packet) (s : ℕ) (ks : List ℕ) (xs : List (ℕ × Message))
    → OfPackets (IsSane ms) ps → AreMessagesAt ps s ks xs → All (IsSpoken ms s) (comings xs)
in_hand_spoken ms ps s [] xs sane are = subst (λ l. All (IsSpoken ms s) (comings l)) (sym are) (All-nil (IsSpoken ms s))
in_hand_spoken ms ps s (k ∷ ks) [] sane are = absurd are
in_hand_spoken ms ps s (k ∷ ks) (x ∷ xs) sane are =
    All-cons (IsSpoken ms s) (says x.0 x.1) (comings xs)
    (message_spoken ms s are.0.packet x.1 are.0.body (of_one (IsSane ms) ps k are.0.packet sane are.0.there) are.0.server x.0 are.0.client)
    (in_hand_spoken ms ps s ks xs sane are.1)

spoken : (w : World) (task : Task) (s : ℕ) (ks : List ℕ) → HasReasons w → IsAsked w task s ks → All (IsSpoken w.members s) (comings_of task)
spoken w task s ks reasons (takes k p m there body) =
    All-cons (IsSpoken w.members p.server) (says p.client m) []
    (message_spoken w.members p.server p m body (of_one (IsSane w.members) w.packets k p reasons.sane there) refl p.client refl)
    (All-nil (IsSpoken w.members p.server))
spoken w task s ks reasons (closes c _) = All-cons (IsSpoken w.members s) (hangs_up c) [] tt (All-nil (IsSpoken w.members s))
spoken w task s ks reasons (saves _) = All-nil (IsSpoken w.members s)
spoken w task s ks reasons (halts _ _ ms are) = in_hand_spoken w.members w.packets s ks ms reasons.sane are

-- An Offer stays undelivered when messages are delivered.
offer_unmoved : (w : World) (task : Task) (s : ℕ) (ks : List ℕ) → IsAsked w task s ks → (p : Packet)
    → ((m : Message) → p.body ≡ bodies.Message m → ⊥) → Contains w.packets p → Contains (delivered ks w.packets) p
offer_unmoved w task s ks (takes k q m at body) p apart there = elim (same_or_delivered k w.packets p there) [
  | inl same ↦ same
  | inr it ↦ absurd (apart m (ap (λ (x : Packet). x.body) (same_Some p q (sym it ∙ at)) ∙ body))
]
offer_unmoved w task s ks (closes c _) p apart there = there
offer_unmoved w task s ks (saves _) p apart there = there
offer_unmoved w task s ks (halts _ _ ms are) p apart there = unmoved w.packets s ks ms are p apart there

suits_full : (ms : Members) (task : Task) → All (λ (r : ℕ × Reply). IsReplied ms r.0 r.1) (without_room task)
suits_full ms (Takes c m) = All-cons (λ (r : ℕ × Reply). IsReplied ms r.0 r.1) (c, refused refusals.Full) [] tt
    (All-nil (λ (r : ℕ × Reply). IsReplied ms r.0 r.1))
suits_full ms (HangsUp c) = All-nil (λ (r : ℕ × Reply). IsReplied ms r.0 r.1)
suits_full ms Saves = All-nil (λ (r : ℕ × Reply). IsReplied ms r.0 r.1)
suits_full ms (Halts xs) = All-nil (λ (r : ℕ × Reply). IsReplied ms r.0 r.1)

-- A server did what it was asked.
module _ (of_sound : OfSound) (of_steps : OfSteps) (task : Task) (s : ℕ) (ks : List ℕ) (w new : World) (told : Told)
    (honest : IsHonest w) (reasons : HasReasons w) (asked : IsAsked w task s ks) (served : HasServed task s ks w told new) where
  abbrev ms : Members
  ms = w.members

  abbrev old : Node
  old = served.server.node

  abbrev after : Server
  after = record { deeds = served.server.deeds ++ served.deeds; node = served.node }

  sound : IsSound served.server.deeds old
  sound = honest.sound s served.server served.there

  sound_then : IsSound after.deeds after.node
  sound_then = does_sound of_sound served.server.deeds served.deeds old served.node served.answer sound task served.done

  was : IsReasoned ms w.packets s served.server
  was = reasons.servers s served.server served.there

  cancels : (t : ℕ) (r : Request) → HasCancel w.packets t r → HasCancel new.packets t r
  cancels = cancel_there (sent_from s) ks w.packets new.packets (sends_of task served.answer) served.packets

  offers : (t : ℕ) (ds later : List Deed) (r : Request) (id : ℕ) → ((row : Tuple) → IsPut ds id row → IsPut later id row)
      → HasOffer w.packets t ds r id → HasOffer new.packets t later r id
  offers t ds later r id still offer = record {
    tuple = offer.tuple;
    put = still offer.tuple offer.put;
    sent = kept_there (sent_from s) ks w.packets new.packets (sends_of task served.answer) served.packets
        (sent_from t (r.client, replies.Offer r.ticket id offer.tuple))
        (offer_unmoved w task s ks asked (sent_from t (r.client, replies.Offer r.ticket id offer.tuple))
        (λ m e. apart m (replies.Offer r.ticket id offer.tuple) e) offer.sent);
  }
    where
      apart : (m : Message) (r : Reply) → bodies.Reply r ≡ bodies.Message m → ⊥
      apart m r e = cc

  -- a reason stays one
  reason_on : (t : ℕ) (ds : List Deed) (id : ℕ) (request : Request) → HasReason ms w.packets t ds id request → HasReason ms new.packets t ds id request
  reason_on t ds id request (inl offer) = inl (offers t ds ds request id (λ row put. put) offer)
  reason_on t ds id request (inr (inl cancel)) = inr (inl (cancels t request cancel))
  reason_on t ds id request (inr (inr hand)) = inr (inr hand)

  same : Goes ms ms
  same d m known = (m, (known, same_later m.client))

  idle_at : (t : ℕ) (server : Server) → IsReasoned ms w.packets t server → IsReasoned ms new.packets t server
  idle_at t server = reasoned_on ms ms same w.packets new.packets t server (reason_on t server.deeds)

  -- The server then, and what it sends.
  abbrev IsGood : Type 0
  IsGood = IsReasoned ms new.packets s after × All (λ (r : ℕ × Reply). IsReplied ms r.0 r.1) (sends_of task served.answer)

  suits_none : sends_of task served.answer ≡ [] → All (λ (r : ℕ × Reply). IsReplied ms r.0 r.1) (sends_of task served.answer)
  suits_none none = subst (All (λ (r : ℕ × Reply). IsReplied ms r.0 r.1)) (sym none) (All-nil (λ (r : ℕ × Reply). IsReplied ms r.0 r.1))

  none_more : served.deeds ≡ [] → served.server.deeds ≡ after.deeds
  none_more none = sym (ap (λ l. served.server.deeds ++ l) none ∙ append-nil served.server.deeds)

  unchanged : served.deeds ≡ [] → served.node ≡ old → IsReasoned ms new.packets s after
  unchanged none is =
      subst (λ n. IsReasoned ms new.packets s (record { deeds = after.deeds; node = n })) (sym is)
      (subst (λ l. IsReasoned ms new.packets s (record { deeds = l; node = old })) (none_more none) (idle_at s served.server was))

  by_down : (A : Type 0) → (old.is_down ≡ false → A) → (old.is_down ≡ true → A) → A
  by_down A up down = by old.is_down refl
    where
      by : (b : Bool) → old.is_down ≡ b → A
      by false e = up e
      by true e = down e

  went_down : (xs : List Coming) → All (IsSpoken ms s) xs → served.deeds ≡ [] → WentDown old xs served.node → IsReasoned ms new.packets s after
  went_down xs heard none went = record {
    deeds = subst (All (IsUsedBy ms s)) (none_more none) was.deeds;
    lost = λ _. by_down (All (IsUsedBy ms s) served.node.lost)
        (λ up. used_left of_steps ms s old xs served.node.lost (sound.orderly up) heard (went.from_up up))
        (λ down. subst (λ (n : Node). All (IsUsedBy ms s) n.lost) (sym (went.from_down down)) (was.lost down));
    up = λ up. absurd (true≢false (sym went.is_down ∙ up));
  }

  opened : (xs : List Coming) → All (IsSpoken ms s) xs → IsOpened old xs served.deeds served.node → IsReasoned ms new.packets s after
  opened xs heard is = record {
    deeds = All-append (IsUsedBy ms s) served.server.deeds served.deeds was.deeds
        (by_down (All (IsUsedBy ms s) served.deeds) (λ up. used_left of_steps ms s old xs served.deeds (sound.orderly up) heard (is.from_up up))
        (λ down. front_of of_steps ms s (IsUsedBy ms s) served.deeds old.lost (is.from_down down) (was.lost down)));
    lost = λ down. absurd (true≢false (sym down ∙ is.is_up));
    up = λ _. record {
      waits = subst (λ (f : Soft). All (IsWaitOf ms) f.waits) (sym is.soft_is) (All-nil (IsWaitOf ms));
      fits = λ id request row held. absurd (nothing id request held);
      held = λ id request held. absurd (nothing id request held);
    };
  }
    where
      nothing : (id : ℕ) (request : Request) → get served.node.soft.holds id ≡ Some request → ⊥
      nothing id request held = none-some request (sym (get_empty id) ∙ sym (ap (λ (f : Soft). get f.holds id) is.soft_is) ∙ held)

  done : (x : Coming) (sends : List (ℕ × Reply)) → IsSpoken ms s x → sends_of task served.answer ≡ sends
      → IsDone old (x ∷ []) served.deeds sends served.node → IsGood
  done x sends heard sends_are is = (
    record {
      deeds = All-append (IsUsedBy ms s) served.server.deeds served.deeds was.deeds
          (deeds_used of_steps ms w.packets s served.server.deeds served.deeds old served.node x sends waited (sound.orderly is.was_up) heard one);
      lost = λ down. absurd (true≢false (sym down ∙ is.is_up));
      up = λ _. waited_then of_steps ms w.packets s served.server.deeds served.deeds old served.node x sends waited (sound.orderly is.was_up) heard one
          sound sound_then new.packets (cancels s)
          (λ r id. offers s served.server.deeds after.deeds r id (λ row. put_still served.server.deeds served.deeds id row)) offered;
    },
    subst (All (λ (r : ℕ × Reply). IsReplied ms r.0 r.1)) (sym sends_are)
        (sends_suit of_steps ms w.packets s served.server.deeds served.deeds old served.node x sends waited (sound.orderly is.was_up) heard one),
  )
    where
      waited : IsWaitedFor ms w.packets s served.server
      waited = was.up is.was_up

      one : Rattle.linda_world_laws.proofs.ComingLaws.IsSingle old x served.deeds sends served.node
      one = single old x served.deeds sends served.node is.happens

      offered : (r : Request) (id : ℕ) (row : Tuple) → IsPut after.deeds id row
          → Contains sends (r.client, replies.Offer r.ticket id row) → HasOffer new.packets s after.deeds r id
      offered r id row put there = record {
        tuple = row;
        put = put;
        sent = sent_there (sent_from s) ks w.packets new.packets (sends_of task served.answer) served.packets (r.client, replies.Offer r.ticket id row)
            (subst (λ l. Contains {X = ℕ × Reply} l (r.client, replies.Offer r.ticket id row)) (sym sends_are) there);
      }

  good : IsGood
  good = by task refl served.done
    where
      heard : (t : Task) → task ≡ t → All (IsSpoken ms s) (comings_of t)
      heard t e = subst (λ t. All (IsSpoken ms s) (comings_of t)) e (spoken w task s ks reasons asked)

      heard_one : (t : Task) (x : Coming) → task ≡ t → comings_of t ≡ x ∷ [] → IsSpoken ms s x
      heard_one t x e is = Rattle.std.proofs.lemmas.List.Elements.All-head (IsSpoken ms s) x [] (subst (All (IsSpoken ms s)) is (heard t e))

      full_at : served.answer ≡ IsFull → All (λ (r : ℕ × Reply). IsReplied ms r.0 r.1) (sends_of task served.answer)
      full_at e = subst (λ a. All (λ (r : ℕ × Reply). IsReplied ms r.0 r.1) (sends_of task a)) (sym e) (suits_full ms task)

      down_at : served.answer ≡ IsDown → All (λ (r : ℕ × Reply). IsReplied ms r.0 r.1) (sends_of task served.answer)
      down_at e = suits_none (ap (sends_of task) e)

      taking : (c : ℕ) (m : Message) → task ≡ Takes c m → (a : NodeAnswer) → served.answer ≡ a → Works old (says c m ∷ []) a served.deeds served.node → IsGood
      taking c m e (Sent sends) f is = done (says c m) sends (heard_one (Takes c m) (says c m) e refl) (ap (sends_of task) f) is
      taking c m e IsFull f is = (unchanged is.1 is.0.unchanged, full_at f)
      taking c m e IsDown f is = (went_down (comings_of (Takes c m)) (heard (Takes c m) e) is.1 is.0, down_at f)

      leaving : (c : ℕ) → task ≡ HangsUp c → served.deeds ≡ [] → (a : NodeAnswer) → served.answer ≡ a → Closes old c a served.node → IsGood
      leaving c e none (Sent sends) f is = done (hangs_up c) sends (heard_one (HangsUp c) (hangs_up c) e refl)
          (ap (sends_of task) f) (subst (λ l. IsDone old (hangs_up c ∷ []) l sends served.node) (sym none) is)
      leaving c e none IsFull f never = absurd never
      leaving c e none IsDown f is = (went_down (comings_of (HangsUp c)) (heard (HangsUp c) e) none is, down_at f)

      saving : task ≡ Saves → served.deeds ≡ [] → (result : Result (Unit {0}) NodeFault) → served.answer ≡ silent result → Snaps old result served.node → IsGood
      saving e none (Ok _) f is = (unchanged none is.1, suits_none (ap (sends_of task) f))
      saving e none (Err faults.Full) f is = (unchanged none is.1.1, full_at f)
      saving e none (Err faults.Down) f is = (went_down [] (heard Saves e) none is, down_at f)

      halting : (xs : List Coming) → task ≡ Halts xs → (result : Result (Vec Deed) NodeFault)
          → served.deeds ≡ added result → served.answer ≡ silent result → Stops old xs result served.node → IsGood
      halting xs e (Ok es) are f is =
          (opened xs (heard (Halts xs) e) (subst (λ l. IsOpened old xs l served.node) (sym are) is), suits_none (ap (sends_of task) f))
      halting xs e (Err faults.Full) are f never = absurd never
      halting xs e (Err faults.Down) are f is = (went_down xs (heard (Halts xs) e) are is, down_at f)

      by : (t : Task) → task ≡ t → Does t old served.answer served.deeds served.node → IsGood
      by (Takes c m) e is = taking c m e served.answer refl is
      by (HangsUp c) e is = leaving c e is.1 served.answer refl is.0
      by Saves e is = saving e is.1.1.1 is.0 is.1.1.0 is.1.0
      by (Halts xs) e is = halting xs e is.0 is.1.1.1 is.1.1.0 is.1.0

  pub served_reasons : HasReasons new
  served_reasons = record {
    sane = subst (λ m. OfPackets (IsSane m) new.packets) (sym served.members)
        (of_more (IsSane ms) (sent_from s) ks w.packets new.packets (sends_of task served.answer) served.packets reasons.sane good.1);
    servers = λ t server found. subst (λ m. IsReasoned m new.packets t server) (sym served.members)
        (each_of_set (IsReasoned ms new.packets) w.servers s after served.server served.there good.0
        (λ t v apart at. idle_at t v (reasons.servers t v at)) t server
        (ap (λ l. slice_get l t) (sym served.servers) ∙ found));
  }
