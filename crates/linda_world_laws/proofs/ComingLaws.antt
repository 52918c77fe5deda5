-- What comes to a server keeps the numbers of its deeds, its waits, its offers and its holds in order.
use Rattle.std.proofs.Common.{◌≡◌, ◌≢◌, ℕ, ◌+◌, ◌<◌, ◌≤◌, ◌==◌, ◌&&◌, Bool, true, false, true≢false, List, [], ◌∷◌}
use Rattle.std.proofs.Common.{◌++◌, option_to_list, All, Contains, ◌⊎◌, inl, inr, refl, sym, ap, ◌∙◌, subst, arith}
use Rattle.std.proofs.Common.{append-nil, eqb-true}
use Rattle.std.specs.Prelude.{Option, Some, None, is_some}
use Rattle.std.proofs.lemmas.Option.{none-some, same_Some}
use Rattle.std.proofs.lemmas.List.Elements.{All-nil, All-cons, All-head, All-tail, All-append, All-weaker, All-contains}
use Rattle.std.proofs.lemmas.List.Elements.{All-contains_itself, Contains-append_left}
use Rattle.std.specs.FinMap.{get}
use Rattle.linda_tuple.specs.Tuple.{Tuple}
use Rattle.linda_tuple.specs.Matching.{is_match}
use Rattle.linda_hold.specs.declared.request.Request.{Request}
use Rattle.linda_hold.specs.Request.{request_of}
use Rattle.linda_hold.specs.Waits.{Wait}
use Rattle.linda_book.specs.Entries.{number_in}
use Rattle.linda_wire.specs.declared.message.Message.{Message}
use Rattle.linda_wire.specs.declared.message.Message.TheVariants as messages
use Rattle.linda_wire.specs.declared.reply.Reply.{Reply}
use Rattle.linda_wire.specs.declared.reply.Reply.TheVariants as replies
use Rattle.linda_store_state.specs.declared.deed.Deed.{Deed}
use Rattle.linda_store_state.specs.Deed.{client_of, number_of, is_taken}
use Rattle.linda_store_state.specs.State.{State, IsState}
use Rattle.linda_store_state.specs.After.{IsAfter}
use Rattle.linda_store_state.proofs.AfterLaws.{none_after, old_id, taken_id}
use Rattle.linda_store_step.specs.Soft.{Soft}
use Rattle.linda_store_step.specs.Answer.{Answer, IsStep}
use Rattle.linda_store_step.specs.History.{Coming, says, hangs_up, Comes, History, nothing_yet, first_then, Happens}
use Rattle.linda_store_step.specs.Course.{IsFront}
use Rattle.linda_store_step.specs.Store.{IsOrderly}
use Rattle.linda_store_step.proofs.OrderLaws.{step_orderly, close_orderly}
use Rattle.linda_store_step.specs.Reported.{number_of_message, LetsGo, DoesAsAsked}
use Rattle.linda_store_step.specs.Reported.{reported_deed}
use Rattle.linda_store_step.specs.Deeds.{last_in as last_number}
use Rattle.linda_store_step.specs.Offers.{Seeks, HasTaker, MakesOffer, OffersWhatIsSought}
use Rattle.linda_store.specs.Node.{Node, Sent as Gives, MayRemain, Works}
use Rattle.linda_store.specs.Sound.{IsSound}
use Rattle.linda_client.specs.declared.arrived_tuple.PendingAccept.{PendingAccept}
use Rattle.linda_client.specs.Client.{Client}
use Rattle.linda_client.specs.Numbers.{IsUnanswered}
use Rattle.linda_client.specs.Offers.{InHand}
use Rattle.linda_world_laws.specs.declared.packet.Packet.{Packet as Sent}
use Rattle.linda_world_laws.specs.World.{Member, Members}
use Rattle.linda_world_laws.specs.Promises.{HasCancel, HasOffer, IsPut}
use Rattle.linda_world_laws.specs.Reasons.{OfMember, OfTicket, Suits, HasSent, IsSaid, IsReplied, IsUsedBy, IsWaitOf, HasInHand, HasReason, IsWaitedFor}
use Rattle.linda_world_laws.specs.Below.{OfSteps}
use Rattle.linda_world_laws.proofs.CallLaws.{from_some, accepted_unanswered}
use Rattle.linda_world_laws.proofs.NumberLaws.{own_last, other_last}
use Rattle.linda_world_laws.proofs.PutLaws.{put_under}

-- A client that comes with a message did say it.
abbrev pub IsSpoken : Members → ℕ → Coming → Type 0
IsSpoken ms s (says c m) = OfMember ms c (IsSaid s m)
IsSpoken ms s (hangs_up c) = Unit {0}

-- a numbered message was sent under its number
said_numbered : (s n : ℕ) (m : Message) (c : Client) → number_of_message m ≡ Some n → IsSaid s m c → HasSent s n m c
said_numbered s n (messages.Hello version client fresh) c e is = absurd (none-some n e)
said_numbered s n (messages.Out k row) c e is = subst (λ x. HasSent s x (messages.Out k row) c) (same_Some k n e) is
said_numbered s n (messages.Ask k remove template) c e is = absurd (none-some n e)
said_numbered s n (messages.Accept k ticket id) c e is = subst (λ x. HasSent s x (messages.Accept k ticket id) c) (same_Some k n e) is
said_numbered s n (messages.Cancel k) c e is = absurd (none-some n e)
said_numbered s n (messages.Leave k) c e is = subst (λ x. HasSent s x (messages.Leave k) c) (same_Some k n e) is

-- The deeds of what comes have numbers that were used.
module _ (laws : OfSteps) (ms : Members) (s : ℕ) where
  used_deed : (c : ℕ) (m : Message) (soft : Soft) (d : Deed) → OfMember ms c (IsSaid s m) → DoesAsAsked c m soft d → IsUsedBy ms s d
  used_deed c m soft d is of = record {
    member = is.member;
    known = ap (get ms) of.client ∙ is.known;
    holds = (said_numbered s (number_of d) m is.member.client of.number is.holds).used;
  }

  used_first : (st new : State) (soft : Soft) (x : Coming) (a : Answer) → IsOrderly st soft
      → IsSpoken ms s x → Comes st soft x a new → All (IsUsedBy ms s) (option_to_list a.deed)
  used_first st new soft (hangs_up c) a orderly spoken comes =
      subst (λ (b : Answer). All (IsUsedBy ms s) (option_to_list b.deed)) (sym comes.0) (All-nil (IsUsedBy ms s))
  used_first st new soft (says c m) a orderly spoken comes = by a.deed refl
    where
      by : (o : Option Deed) → a.deed ≡ o → All (IsUsedBy ms s) (option_to_list o)
      by None e = All-nil (IsUsedBy ms s)
      by (Some d) e = All-cons (IsUsedBy ms s) d []
          (used_deed c m a.soft d spoken (laws.step_deed st new c soft m a d orderly.soft_is.there comes e)) (All-nil (IsUsedBy ms s))

  orderly_then : (st new : State) (soft : Soft) (x : Coming) (a : Answer) → IsOrderly st soft → Comes st soft x a new → IsOrderly new a.soft
  orderly_then st new soft (says c m) a orderly comes = step_orderly st new soft c orderly m a comes
  orderly_then st new soft (hangs_up c) a orderly comes =
      subst (λ (t : State). IsOrderly t a.soft) (sym comes.1) (subst (λ (b : Answer). IsOrderly st b.soft) (sym comes.0) (close_orderly st soft c orderly))

  used_all : (st : State) (soft : Soft) (xs : List Coming) (all : History) → IsOrderly st soft
      → All (IsSpoken ms s) xs → Happens st soft xs all → All (IsUsedBy ms s) all.deeds
  used_all st soft [] all orderly spoken happens = subst (λ (a : History). All (IsUsedBy ms s) a.deeds) (sym happens) (All-nil (IsUsedBy ms s))
  used_all st soft (x ∷ xs) all orderly spoken happens =
      let first : Answer = happens.0 in
      let later : History = happens.1.1.0 in
      subst (λ (a : History). All (IsUsedBy ms s) a.deeds) (sym happens.1.1.1.1.1)
      (All-append (IsUsedBy ms s) (option_to_list first.deed) later.deeds
      (used_first st happens.1.0 soft x first orderly (All-head (IsSpoken ms s) x xs spoken) happens.1.1.1.0)
      (used_all happens.1.0 first.soft xs later (orderly_then st happens.1.0 soft x first orderly happens.1.1.1.0)
      (All-tail (IsSpoken ms s) x xs spoken) happens.1.1.1.1.0))

  -- So have some first ones of them.
  pub front_of : {X : Type 0} (P : X → Type 0) (front all : List X) → IsFront front all → All P all → All P front
  front_of P front all is every =
      All-weaker (Contains front) P (λ x there. All-contains P all x every (subst (λ l. Contains l x) is.1 (Contains-append_left front is.0 x there))) front
      (All-contains_itself front)

  pub used_left : (old : Node) (xs : List Coming) (ds : List Deed) → IsOrderly old.state old.soft
      → All (IsSpoken ms s) xs → MayRemain old xs ds → All (IsUsedBy ms s) ds
  used_left old xs ds orderly spoken left =
      front_of (IsUsedBy ms s) ds left.all.deeds left.front
      (used_all old.state old.soft left.first left.all orderly (front_of (IsSpoken ms s) left.first xs left.is_first spoken) left.happens)

-- One thing came to a node: the deed or none, what it sends, and the node after that.
pub record IsSingle (old : Node) (x : Coming) (ds : List Deed) (sends : List (ℕ × Reply)) (new : Node) : Type 0 where
  pub deed : Option Deed
  pub deeds_are : ds ≡ option_to_list deed
  pub comes : Comes old.state old.soft x (record { deed = deed; sends = sends; soft = new.soft }) new.state

pub single : (old : Node) (x : Coming) (ds : List Deed) (sends : List (ℕ × Reply)) (new : Node)
    → Happens old.state old.soft (x ∷ []) (record { deeds = ds; sends = sends; soft = new.soft; state = new.state }) → IsSingle old x ds sends new
single old x ds sends new happens =
    let first : Answer = happens.0 in
    let mid : State = happens.1.0 in
    let all : History = record { deeds = ds; sends = sends; soft = new.soft; state = new.state } in
    let is : all ≡ first_then first (nothing_yet mid first.soft) = happens.1.1.1.1.1 ∙ ap (first_then first) happens.1.1.1.1.0 in
    let sends_are : first.sends ≡ sends = sym (ap (λ (a : History). a.sends) is ∙ append-nil first.sends) in
    let soft_is : first.soft ≡ new.soft = sym (ap (λ (a : History). a.soft) is) in
    let state_is : mid ≡ new.state = sym (ap (λ (a : History). a.state) is) in
    record {
      deed = first.deed;
      deeds_are = ap (λ (a : History). a.deeds) is ∙ append-nil (option_to_list first.deed);
      comes = subst (λ t. Comes old.state old.soft x (record { deed = first.deed; sends = sends; soft = new.soft }) t) state_is
          (subst (λ f. Comes old.state old.soft x (record { deed = first.deed; sends = sends; soft = f }) mid) soft_is
          (subst (λ l. Comes old.state old.soft x (record { deed = first.deed; sends = l; soft = first.soft }) mid) sends_are happens.1.1.1.0));
    }

-- A tuple that is in the bag before and after is the same.
same_tuple : (st new : State) (ds : List Deed) (id : ℕ) (row later : Tuple) → IsState st → IsAfter st ds new
    → get st.bag id ≡ Some row → get new.bag id ≡ Some later → row ≡ later
same_tuple st new ds id row later is after was now = by (is_taken id ds) refl
  where
    by : (b : Bool) → is_taken id ds ≡ b → row ≡ later
    by true gone = absurd (none-some later (sym (taken_id st ds id gone) ∙ sym (after.bag id) ∙ now))
    by false there =
        let below = (from_some (λ (_ : Tuple). (1 ≤ id) × (id < st.next)) (get st.bag id) row was (is.ids id)).1 in
        same_Some row later (sym was ∙ sym (old_id st ds id there below) ∙ sym (after.bag id) ∙ now)

-- One thing comes to a server that is up.
module _ (laws : OfSteps) (ms : Members) (ps : List Sent) (s : ℕ) (ds es : List Deed) (old new : Node) (x : Coming) (sends : List (ℕ × Reply))
    (waited : IsWaitedFor ms ps s (record { deeds = ds; node = old })) (orderly : IsOrderly old.state old.soft)
    (spoken : IsSpoken ms s x) (one : IsSingle old x es sends new) where
  answered : Answer
  answered = record { deed = one.deed; sends = sends; soft = new.soft }

  spreads_by : (y : Coming) (a : Answer) (t : State) → Comes old.state old.soft y a t → OffersWhatIsSought t.bag y old.soft a.sends a.soft
  spreads_by (says c m) a t comes = laws.step_spreads old.state t old.soft c m a orderly.state_is comes
  spreads_by (hangs_up c) a t comes =
      subst (λ (u : State). OffersWhatIsSought u.bag (hangs_up c) old.soft a.sends a.soft) (sym comes.1)
      (subst (λ (b : Answer). OffersWhatIsSought old.state.bag (hangs_up c) old.soft b.sends b.soft)
      (sym comes.0) (laws.close_spreads old.state.bag (hangs_up c) c old.soft))

  spreads : OffersWhatIsSought new.state.bag x old.soft sends new.soft
  spreads = spreads_by x (record { deed = one.deed; sends = sends; soft = new.soft }) new.state one.comes

  after_by : (y : Coming) (a : Answer) (t : State) → Comes old.state old.soft y a t → IsAfter old.state (option_to_list a.deed) t
  after_by (says c m) a t comes = comes.state_is
  after_by (hangs_up c) a t comes =
      subst (λ (b : Answer). IsAfter old.state (option_to_list b.deed) t) (sym comes.0)
      (subst (IsAfter old.state []) (sym comes.1) (none_after old.state orderly.state_is))

  -- what asks is of a client that asks so
  asks_so : (v : Wait) → Seeks old.soft x v → IsWaitOf ms v
  asks_so v (inl waits) = All-contains (IsWaitOf ms) old.soft.waits v waited.waits waits
  asks_so v (inr comes) = subst (IsSpoken ms s) comes spoken

  wanted_suits : (request : Request) (row : Tuple) → HasTaker old.soft x request row → OfMember ms request.client (OfTicket request.ticket (Suits row))
  wanted_suits request row wanted =
      let is = asks_so wanted.wait wanted.seeks in
      subst (λ (p : Request). OfMember ms p.client (OfTicket p.ticket (Suits row))) wanted.request_is (record {
        member = is.member;
        known = is.known;
        holds = record {
          below = is.holds.below;
          asked = λ ask e.
              let same = is.holds.asked ask e in
              ap (λ b. b && is_match ask.template row) (same.0 ∙ wanted.removes) ∙ ap (λ t. is_match t row) same.1 ∙ wanted.matches;
        };
      })

  held_suits : (id : ℕ) (request : Request) (row : Tuple) → get old.soft.holds id ≡ Some request
      → get new.state.bag id ≡ Some row → OfMember ms request.client (OfTicket request.ticket (Suits row))
  held_suits id request row held there = by (get old.state.bag id) refl
    where
      by : (o : Option Tuple) → get old.state.bag id ≡ o → OfMember ms request.client (OfTicket request.ticket (Suits row))
      by None e = absurd (true≢false (sym (orderly.soft_is.there id (ap is_some held)) ∙ ap is_some e))
      by (Some was) e =
          let same = same_tuple old.state new.state (option_to_list one.deed) id was row orderly.state_is
          (after_by x (record { deed = one.deed; sends = sends; soft = new.soft }) new.state one.comes) e there in
          subst (λ t. OfMember ms request.client (OfTicket request.ticket (Suits t))) same (waited.fits id request was held e)

  fits_then : (id : ℕ) (request : Request) (row : Tuple) → get new.soft.holds id ≡ Some request
      → get new.state.bag id ≡ Some row → OfMember ms request.client (OfTicket request.ticket (Suits row))
  fits_then id request row held there = by (spreads.holds id request held)
    where
      by : (get old.soft.holds id ≡ Some request) ⊎ MakesOffer new.state.bag old.soft x sends id request
          → OfMember ms request.client (OfTicket request.ticket (Suits row))
      by (inl was) = held_suits id request row was there
      by (inr offered) = subst (λ t. OfMember ms request.client (OfTicket request.ticket (Suits t)))
          (same_Some offered.tuple row (sym offered.there ∙ there)) (wanted_suits request offered.tuple offered.taker)

  offer_suits : (request : Request) (id : ℕ) (row : Tuple) → Contains sends (request.client, replies.Offer request.ticket id row)
      → OfMember ms request.client (OfTicket request.ticket (Suits row))
  offer_suits request id row there = by (spreads.offers request id row there)
    where
      by : ((get old.soft.holds id ≡ Some request) × (get new.state.bag id ≡ Some row)) ⊎ HasTaker old.soft x request row
          → OfMember ms request.client (OfTicket request.ticket (Suits row))
      by (inl held) = held_suits id request row held.0 held.1
      by (inr wanted) = wanted_suits request row wanted

  -- What is sent offers only what suits.
  pub sends_suit : All (λ (r : ℕ × Reply). IsReplied ms r.0 r.1) sends
  sends_suit = All-weaker (Contains sends) (λ (r : ℕ × Reply). IsReplied ms r.0 r.1) (λ r there. by r.0 r.1 there) sends (All-contains_itself sends)
    where
      by : (c : ℕ) (r : Reply) → Contains sends (c, r) → IsReplied ms c r
      by c (replies.Welcome last) there = tt
      by c (replies.Stored n id) there = tt
      by c (replies.Offer k id row) there = offer_suits (request_of c k) id row there
      by c (replies.Read k id row) there = tt
      by c (replies.Taken n id row) there = tt
      by c (replies.Gone n) there = tt
      by c (replies.Refused code detail) there = tt
      by c (replies.Left n) there = tt

  pub deeds_used : All (IsUsedBy ms s) es
  deeds_used = subst (All (IsUsedBy ms s)) (sym one.deeds_are)
      (used_first laws ms s old.state new.state old.soft x (record { deed = one.deed; sends = sends; soft = new.soft }) orderly spoken one.comes)

  -- An accepted offer that is not done is not done now, if its tuple is held still.
  module _ (sound : IsSound ds old) (then : IsSound (ds ++ es) new) where
    not_done : (c k id : ℕ) (a : PendingAccept) (member : Member) → get ms c ≡ Some member → IsUnanswered member.client s (messages.Accept a.n k id)
        → get new.soft.holds id ≡ Some (request_of c k) → last_number ds c < a.n → last_number (ds ++ es) c < a.n
    not_done c k id a member known awaits held low = by x refl one.deed refl
      where
        none : es ≡ [] → last_number (ds ++ es) c < a.n
        none e = subst (λ l. last_number l c < a.n) (sym (ap (λ l. ds ++ l) e ∙ append-nil ds)) low

        -- the message whose deed this is would be the Accept, which is let go
        let_go : (y : ℕ) (m : Message) (d : Deed) → y ≡ c → OfMember ms y (IsSaid s m)
            → number_of_message m ≡ Some (number_of d) → a.n ≡ number_of d → LetsGo y m new.soft → ⊥
        let_go y m d y_is is number same gone =
            let member_is : is.member ≡ member = same_Some is.member member (sym is.known ∙ ap (get ms) y_is ∙ known) in
            let said = said_numbered s (number_of d) m is.member.client number is.holds in
            let waits : IsUnanswered is.member.client s (messages.Accept a.n k id) =
            subst (λ (m : Member). IsUnanswered m.client s (messages.Accept a.n k id)) (sym member_is) awaits in
            let m_is : messages.Accept a.n k id ≡ m = said.own (messages.Accept a.n k id) waits (ap (λ n. Some n) same) in
            subst (λ z. LetsGo y z new.soft) (sym m_is) gone (held ∙ ap (λ z. Some (request_of z k)) (sym y_is))

        done : (y : ℕ) (m : Message) (d : Deed) → x ≡ says y m → one.deed ≡ Some d → DoesAsAsked y m new.soft d → last_number (ds ++ es) c < a.n
        done y m d x_is e is = subst (λ l. last_number (ds ++ l) c < a.n) (sym es_are) (by_client (client_of d == c) refl)
          where
            es_are : es ≡ d ∷ []
            es_are = one.deeds_are ∙ ap option_to_list e

            next : number_of d ≡ last_number ds (client_of d) + 1
            next =
                let allowed = (subst (λ l. IsSound (ds ++ l) new) es_are then).proper ds d [] old.state refl sound.after in
                allowed.number ∙ ap (λ o. number_in o + 1) (sound.after.book (client_of d))

            by_client : (b : Bool) → (client_of d == c) ≡ b → last_number (ds ++ d ∷ []) c < a.n
            by_client false other = let l = other_last ds d c other in omega (arith, l, low)
            by_client true mine =
                let l = own_last ds d c mine in
                let c_is = eqb-true (client_of d) c mine in
                let at : last_number ds (client_of d) ≡ last_number ds c = ap (last_number ds) c_is in
                let apart : a.n ≢ number_of d = λ same. let_go y m d (sym is.client ∙ c_is) (subst (IsSpoken ms s) x_is spoken) is.number same is.let_go in
                let n = next in
                omega (arith, l, low, n, at, apart)

        by : (y : Coming) → x ≡ y → (o : Option Deed) → one.deed ≡ o → last_number (ds ++ es) c < a.n
        by y x_is None e = none (one.deeds_are ∙ ap option_to_list e)
        by (hangs_up d) x_is (Some deed) e =
            let closed = subst (λ z. Comes old.state old.soft z (record { deed = one.deed; sends = sends; soft = new.soft }) new.state) x_is one.comes in
            absurd (none-some deed (sym (ap (λ (b : Answer). b.deed) closed.0) ∙ e))
        by (says y m) x_is (Some d) e =
            let step = subst (λ z. Comes old.state old.soft z (record { deed = one.deed; sends = sends; soft = new.soft }) new.state) x_is one.comes in
            done y m d x_is e (laws.step_deed old.state new.state y old.soft m
            (record { deed = one.deed; sends = sends; soft = new.soft }) d orderly.soft_is.there step e)

    -- What is held then has a reason, if packets stay and those that are sent are among them.
    held_then : (news : List Sent) → ((r : Request) → HasCancel ps s r → HasCancel news s r)
        → ((r : Request) (id : ℕ) → HasOffer ps s ds r id → HasOffer news s (ds ++ es) r id)
        → ((r : Request) (id : ℕ) (row : Tuple) → IsPut (ds ++ es) id row
        → Contains sends (r.client, replies.Offer r.ticket id row) → HasOffer news s (ds ++ es) r id)
        → (id : ℕ) (request : Request) → get new.soft.holds id ≡ Some request → HasReason ms news s (ds ++ es) id request
    held_then news cancels offers offered id request held = by (spreads.holds id request held)
      where
        in_hand : OfMember ms request.client (HasInHand s (last_number ds request.client) request.ticket id)
            → OfMember ms request.client (HasInHand s (last_number (ds ++ es) request.client) request.ticket id)
        in_hand is = record {
          member = is.member;
          known = is.known;
          holds = record {
            within = is.holds.within;
            pending = is.holds.pending;
            pending_is = is.holds.pending_is;
            ask = is.holds.ask;
            is_open = is.holds.is_open;
            hand = by_hand is.holds.hand;
          };
        }
          where
            by_hand : InHand (λ a. last_number ds request.client < a.n) is.holds.pending s request.ticket id
                → InHand (λ a. last_number (ds ++ es) request.client < a.n) is.holds.pending s request.ticket id
            by_hand (inl saved) = inl saved
            by_hand (inr accepted) =
                let a : PendingAccept = accepted.0.own in
                let awaits : IsUnanswered is.member.client s (messages.Accept a.n request.ticket id) =
                subst (λ z. IsUnanswered is.member.client s (messages.Accept a.n request.ticket z)) accepted.0.id_is
                (subst (λ z. IsUnanswered is.member.client s (messages.Accept a.n z a.id)) accepted.0.ticket_is
                (subst (λ z. IsUnanswered is.member.client z (messages.Accept a.n a.ticket a.id)) accepted.0.server_is
                (accepted_unanswered is.member.client is.holds.pending a is.holds.pending_is accepted.0.there))) in
                inr (accepted.0, not_done request.client request.ticket id a is.member is.known awaits held accepted.1)

        by : (get old.soft.holds id ≡ Some request) ⊎ MakesOffer new.state.bag old.soft x sends id request → HasReason ms news s (ds ++ es) id request
        by (inr offer) = inl (offered request id offer.tuple (put_under (ds ++ es) new.state id offer.tuple then.after offer.there) offer.sent)
        by (inl was) = elim (waited.held id request was) [
          | inl offer ↦ inl (offers request id offer)
          | inr other ↦ elim other [
            | inl cancel ↦ inr (inl (cancels request cancel))
            | inr hand ↦ inr (inr (in_hand hand))
          ]
        ]

    -- So the server is as it should be.
    pub waited_then : (news : List Sent) → ((r : Request) → HasCancel ps s r → HasCancel news s r)
        → ((r : Request) (id : ℕ) → HasOffer ps s ds r id → HasOffer news s (ds ++ es) r id)
        → ((r : Request) (id : ℕ) (row : Tuple) → IsPut (ds ++ es) id row
        → Contains sends (r.client, replies.Offer r.ticket id row) → HasOffer news s (ds ++ es) r id)
        → IsWaitedFor ms news s (record { deeds = ds ++ es; node = new })
    waited_then news cancels offers offered = record {
      waits = All-weaker (Contains new.soft.waits) (IsWaitOf ms) (λ v there. asks_so v (spreads.waits v there)) new.soft.waits
          (All-contains_itself new.soft.waits);
      fits = fits_then;
      held = held_then news cancels offers offered;
    }

-- The deed of a message is the one that the deeds of before and what is sent give.
pub learned : ((st new : State) (c : ℕ) (old : Soft) (m : Message) (answered : Answer) → IsState st
    → IsStep st old c m answered new → answered.deed ≡ reported_deed c m (number_in (get st.book c)) answered.sends)
    → (ds es : List Deed) (old new : Node) (c : ℕ) (m : Message) (sends : List (ℕ × Reply)) → IsSound ds old
    → Works old (says c m ∷ []) (Gives sends) es new → es ≡ option_to_list (reported_deed c m (last_number ds c) sends)
learned told ds es old new c m sends sound done =
    let one = single old (says c m) es sends new done.happens in
    one.deeds_are
    ∙ ap option_to_list (told old.state new.state c old.soft m (record { deed = one.deed; sends = sends; soft = new.soft })
    (sound.orderly done.was_up).state_is one.comes)
    ∙ ap (λ o. option_to_list (reported_deed c m (number_in o) sends)) (sound.after.book c)
