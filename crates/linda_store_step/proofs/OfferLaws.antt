-- What a move offers is sought.
use Rattle.std.proofs.Common.{◌≡◌, ℕ, true, false, true≢false, not, List, [], ◌∷◌, ◌++◌, map, Option, Some, None}
use Rattle.std.proofs.Common.{option_to_list, All, Contains, ◌⊎◌, inl, inr, refl, sym, ap, ◌∙◌, subst}
use Rattle.std.proofs.lemmas.Option.{same_Some}
use Rattle.std.proofs.lemmas.Bool.{and_parts}
use Rattle.std.proofs.lemmas.List.Elements.{All-nil, All-cons, All-append, All-map, All-push, All-filter, All-weaker}
use Rattle.std.proofs.lemmas.List.Elements.{All-contains, All-contains_itself, Contains-append_left}
use Rattle.std.proofs.lemmas.List.Elements.{Contains-append_right}
use Rattle.std.specs.FinMap.{get, insert}
use Rattle.linda_tuple.specs.Tuple.{Tuple}
use Rattle.linda_tuple.specs.Matching.{is_match}
use Rattle.linda_hold.specs.declared.request.Request.{Request}
use Rattle.linda_hold.specs.Request.{request_of, same_request}
use Rattle.linda_hold.specs.Waits.{Wait, is_reader, is_taker, readers, without_readers, longest}
use Rattle.linda_wire.specs.declared.message.Message.{Message}
use Rattle.linda_wire.specs.declared.reply.Reply.{Reply}
use Rattle.linda_wire.specs.declared.reply.Reply.TheVariants as replies
use Rattle.linda_store_state.specs.State.{State, IsState}
use Rattle.linda_store_step.specs.Soft.{Soft, Bagged}
use Rattle.linda_store_step.specs.Dispatch.{Sends, read_to, offer_to, held_for, on_close}
use Rattle.linda_store_step.specs.Asking.{offer_of}
use Rattle.linda_store_step.specs.Answer.{Answer, IsStep}
use Rattle.linda_store_step.specs.History.{Coming, says}
use Rattle.linda_store_step.proofs.ApartLaws.{new_or_before}
use Rattle.linda_store_step.proofs.WaitLaws.{found_passes, found_has}
use Rattle.linda_store_step.specs.Offers.{IsAskOf, Seeks, HasTaker, MakesOffer, OffersAgain, OffersWhatIsSought, is_offer}
use Rattle.linda_store_step.proofs.MoveLaws.{Move, gives_up, tells, dispatches, repeats, reads, offers, waits, goes_on, KnownIn, step_move, close_move}

-- two offers that are one
same_offer : (p q : Request) (i k : ℕ) (s t : Tuple)
    → ◌≡◌ {A = ℕ × Reply} (p.client, replies.Offer p.ticket i s) (q.client, replies.Offer q.ticket k t) → (p ≡ q) × ((i ≡ k) × (s ≡ t))
same_offer p q i k s t e =
    let reply : replies.Offer p.ticket i s ≡ replies.Offer q.ticket k t = ap (λ (send : ℕ × Reply). send.1) e in
    let ticket : p.ticket ≡ q.ticket = cc in
    let id : i ≡ k = cc in
    let tuple : s ≡ t = cc in
    (λ n. request_of (ap (λ (send : ℕ × Reply). send.0) e n) (ticket n), (id, tuple))

one_of : {X : Type 0} (x : X) → Contains (x ∷ []) x
one_of x = (0, Rattle.std.proofs.Common.zero-lt-suc 0, refl)

module _ (bag : Bagged) (x : Coming) where
  -- What is said of one send: if it is an offer, it is made again or has a taker.
  abbrev IsSought : Soft → ℕ × Reply → Type 0
  IsSought old send =
      (request : Request) (id : ℕ) (tuple : Tuple) → send ≡ (request.client, replies.Offer request.ticket id tuple)
      → OffersAgain bag old id request tuple ⊎ HasTaker old x request tuple

  -- the same as `OffersWhatIsSought`, of all elements
  record IsFair (old : Soft) (told : Sends) : Type 0 where
    holds : (id : ℕ) (request : Request) → get told.soft.holds id ≡ Some request
        → (get old.holds id ≡ Some request) ⊎ MakesOffer bag old x told.sends id request
    waits : All (Seeks old x) told.soft.waits
    offers : All (IsSought old) told.sends

  no_offer : (old : Soft) (c : ℕ) (r : Reply) → is_offer r ≡ false → IsSought old (c, r)
  no_offer old c r none request id tuple e = absurd (true≢false (sym (ap (λ (send : ℕ × Reply). is_offer send.1) e) ∙ none))

  all_wait : (old : Soft) (ws : List Wait) → All (Contains old.waits) ws → All (Seeks old x) ws
  all_wait old ws there = All-weaker (Contains old.waits) (Seeks old x) (λ w h. inl h) ws there

  itself : (old : Soft) → All (Seeks old x) old.waits
  itself old = all_wait old old.waits (All-contains_itself old.waits)

  -- ---- a tuple that is dispatched

  module _ (old : Soft) (id : ℕ) (tuple : Tuple) (there : get bag id ≡ Some tuple) where
    taker_of : (w : Wait) → longest tuple old.waits ≡ Some w → HasTaker old x w.0 tuple
    taker_of w found =
        let parts = and_parts w.1.remove (is_match w.1.template tuple) (found_passes {X = Wait} (is_taker tuple) old.waits w found) in
        record {
          wait = w;
          seeks = inl (found_has {X = Wait} (is_taker tuple) (Contains old.waits) old.waits w found (All-contains_itself old.waits));
          request_is = refl;
          removes = parts.0;
          matches = parts.1;
        }

    taker_sought : (w : Wait) → longest tuple old.waits ≡ Some w → IsSought old (offer_to id tuple w)
    taker_sought w found request k other e =
        let same = same_offer w.0 request id k tuple other e in
        inr (subst (λ p. HasTaker old x p other) same.0 (subst (HasTaker old x w.0) same.1.1 (taker_of w found)))

    reads_sought : All (IsSought old) (map (read_to id tuple) (readers tuple old.waits))
    reads_sought = All-map (IsSought old) (read_to id tuple) (readers tuple old.waits) (λ k d within. no_offer old _ _ refl)

    abbrev left : Soft
    left = record { holds = old.holds; waits = without_readers tuple old.waits }

    left_wait : All (Contains old.waits) left.waits
    left_wait = All-filter (λ (w : Wait). not (is_reader tuple w)) (Contains old.waits) old.waits (All-contains_itself old.waits)

    dispatched_by : (o : Option Wait) → longest tuple old.waits ≡ o
        → IsFair old (record {
          sends = map (read_to id tuple) (readers tuple old.waits) ++ map (offer_to id tuple) (option_to_list o);
          soft = held_for id o left;
        })
    dispatched_by None found = record {
      holds = λ k request h. inl h;
      waits = all_wait old left.waits left_wait;
      offers = All-append (IsSought old) (map (read_to id tuple) (readers tuple old.waits)) [] reads_sought (All-nil (IsSought old));
    }
    dispatched_by (Some w) found = record {
      holds = λ k request h. held k request (new_or_before old.holds id k w.0 request h);
      waits = all_wait old _ (All-filter (λ (v : Wait). not (same_request w.0 v.0)) (Contains old.waits) left.waits left_wait);
      offers =
          All-append (IsSought old) (map (read_to id tuple) (readers tuple old.waits)) (offer_to id tuple w ∷ []) reads_sought
          (All-cons (IsSought old) (offer_to id tuple w) [] (taker_sought w found) (All-nil (IsSought old)));
    }
      where
        all_sends : List (ℕ × Reply)
        all_sends = map (read_to id tuple) (readers tuple old.waits) ++ offer_to id tuple w ∷ []

        made : MakesOffer bag old x all_sends id w.0
        made = record {
          tuple = tuple;
          there = there;
          sent = Contains-append_right (map (read_to id tuple) (readers tuple old.waits))
              (offer_to id tuple w ∷ []) (offer_to id tuple w) (one_of (offer_to id tuple w));
          taker = taker_of w found;
        }

        held : (k : ℕ) (request : Request) → ((k ≡ id) × (w.0 ≡ request)) ⊎ (get old.holds k ≡ Some request)
            → (get old.holds k ≡ Some request) ⊎ MakesOffer bag old x all_sends k request
        held k request (inr before) = inl before
        held k request (inl new) =
            inr (subst (λ i. MakesOffer bag old x all_sends i request) (sym new.0) (subst (MakesOffer bag old x all_sends id) new.1 made))

  -- ---- an offer to a request that asks

  -- what is sent of the tuple of an id
  all_of_id : (P : ℕ × Reply → Type 0) (f : Tuple → ℕ × Reply) (id : ℕ)
      → ((tuple : Tuple) → get bag id ≡ Some tuple → P (f tuple)) → All P (map f (option_to_list (get bag id)))
  all_of_id P f id gives = by (get bag id) refl
    where
      by : (o : Option Tuple) → get bag id ≡ o → All P (map f (option_to_list o))
      by None there = All-nil P
      by (Some tuple) there = All-cons P (f tuple) [] (gives tuple there) (All-nil P)

  repeated : (old : Soft) (id : ℕ) (request : Request) → get old.holds id ≡ Some request → All (IsSought old) (offer_of bag id request)
  repeated old id request held = all_of_id (IsSought old) _ id (λ tuple there other k t e.
      let same = same_offer request other id k tuple t e in
      inl (ap (get old.holds) (sym same.1.0) ∙ held ∙ ap Some same.0, ap (get bag) (sym same.1.0) ∙ there ∙ ap Some same.1.1))

  module _ (old : Soft) (id : ℕ) (w : Wait) (tuple : Tuple) (asked : IsAskOf x w) (removes : w.1.remove ≡ true)
      (there : get bag id ≡ Some tuple) (fits : is_match w.1.template tuple ≡ true) where
    asker : HasTaker old x w.0 tuple
    asker = record { wait = w; seeks = inr asked; request_is = refl; removes = removes; matches = fits }

    made_to_asker : MakesOffer bag old x (offer_of bag id w.0) id w.0
    made_to_asker = record {
      tuple = tuple;
      there = there;
      sent = subst (λ o. Contains {X = ℕ × Reply} (map (λ (t : Tuple). (w.0.client, replies.Offer w.0.ticket id t)) (option_to_list o))
          (w.0.client, replies.Offer w.0.ticket id tuple)) (sym there) (one_of _);
      taker = asker;
    }

    first_offer : IsFair old (record { sends = offer_of bag id w.0; soft = record { holds = insert old.holds id w.0; waits = old.waits } })
    first_offer = record {
      holds = λ k request h. held k request (new_or_before old.holds id k w.0 request h);
      waits = itself old;
      offers = all_of_id (IsSought old) _ id (λ s s_there other k t e.
          let same = same_offer w.0 other id k s t e in
          let t_is : tuple ≡ t = same_Some tuple s (sym there ∙ s_there) ∙ same.1.1 in
          inr (subst (λ p. HasTaker old x p t) same.0 (subst (HasTaker old x w.0) t_is asker)));
    }
      where
        held : (k : ℕ) (request : Request) → ((k ≡ id) × (w.0 ≡ request)) ⊎ (get old.holds k ≡ Some request)
            → (get old.holds k ≡ Some request) ⊎ MakesOffer bag old x (offer_of bag id w.0) k request
        held k request (inr before) = inl before
        held k request (inl new) =
            inr (subst (λ i. MakesOffer bag old x (offer_of bag id w.0) i request) (sym new.0)
            (subst (MakesOffer bag old x (offer_of bag id w.0) id) new.1 made_to_asker))

  -- ---- one after the other

  module _ (old : Soft) (first later : Sends) (a : IsFair old first) (b : IsFair first.soft later) where
    seeks_first : (w : Wait) → Seeks first.soft x w → Seeks old x w
    seeks_first w (inl there) = All-contains (Seeks old x) first.soft.waits w a.waits there
    seeks_first w (inr asked) = inr asked

    taker_first : (request : Request) (tuple : Tuple) → HasTaker first.soft x request tuple → HasTaker old x request tuple
    taker_first request tuple t = record {
      wait = t.wait;
      seeks = seeks_first t.wait t.seeks;
      request_is =
          t.request_is;
      removes = t.removes;
      matches = t.matches;
    }

    held_first : (id : ℕ) (request : Request) → (get old.holds id ≡ Some request) ⊎ MakesOffer bag old x first.sends id request
        → (get old.holds id ≡ Some request) ⊎ MakesOffer bag old x (first.sends ++ later.sends) id request
    held_first id request (inl before) = inl before
    held_first id request (inr o) =
        inr (record { tuple = o.tuple; there = o.there; sent = Contains-append_left first.sends later.sends _ o.sent; taker = o.taker })

    held_both : (id : ℕ) (request : Request) → (get first.soft.holds id ≡ Some request) ⊎ MakesOffer bag first.soft x later.sends id request
        → (get old.holds id ≡ Some request) ⊎ MakesOffer bag old x (first.sends ++ later.sends) id request
    held_both id request (inl before) = held_first id request (a.holds id request before)
    held_both id request (inr o) =
        inr (record {
          tuple = o.tuple;
          there = o.there;
          sent = Contains-append_right first.sends later.sends _ o.sent;
          taker = taker_first request o.tuple o.taker;
        })

    -- what is made again was held, or offered first
    again_first : (request : Request) (id : ℕ) (tuple : Tuple) → get bag id ≡ Some tuple → (get old.holds id ≡ Some request)
        ⊎ MakesOffer bag old x first.sends id request → OffersAgain bag old id request tuple ⊎ HasTaker old x request tuple
    again_first request id tuple there (inl before) = inl (before, there)
    again_first request id tuple there (inr o) = inr (subst (HasTaker old x request) (same_Some o.tuple tuple (sym o.there ∙ there)) o.taker)

    sought_first : (send : ℕ × Reply) → IsSought first.soft send → IsSought old send
    sought_first send sought request id tuple e = by (sought request id tuple e)
      where
        by : OffersAgain bag first.soft id request tuple ⊎ HasTaker first.soft x request tuple
            → OffersAgain bag old id request tuple ⊎ HasTaker old x request tuple
        by (inl h) = again_first request id tuple h.1 (a.holds id request h.0)
        by (inr t) = inr (taker_first request tuple t)

    both_fair : IsFair old (record { sends = first.sends ++ later.sends; soft = later.soft })
    both_fair = record {
      holds = λ id request h. held_both id request (b.holds id request h);
      waits = All-weaker (Seeks first.soft x) (Seeks old x) seeks_first later.soft.waits b.waits;
      offers = All-append (IsSought old) first.sends later.sends a.offers (All-weaker (IsSought first.soft) (IsSought old) sought_first later.sends b.offers);
    }

  -- ---- all moves

  fair : (Known : ℕ → Reply → Type 0) (old : Soft) (told : Sends) → Move Known bag x old told → IsFair old told
  fair Known _ _ (gives_up old new less) =
      record { holds = λ id request h. inl (less.holds id request h); waits = all_wait old new.waits less.waits; offers = All-nil (IsSought old) }
  fair Known _ _ (tells old c r none known) =
      record { holds = λ id request h. inl h; waits = itself old; offers = All-cons (IsSought old) (c, r) [] (no_offer old c r none) (All-nil (IsSought old)) }
  fair Known _ _ (dispatches old id tuple there) = dispatched_by old id tuple there (longest tuple old.waits) refl
  fair Known _ _ (repeats old id request held) = record { holds = λ k p h. inl h; waits = itself old; offers = repeated old id request held }
  fair Known _ _ (reads old id request) =
      record { holds = λ k p h. inl h; waits = itself old; offers = all_of_id (IsSought old) _ id (λ tuple there. no_offer old request.client _ refl) }
  fair Known _ _ (offers old id w tuple asked removes there fits) = first_offer old id w tuple asked removes there fits
  fair Known _ _ (waits old w asked) =
      record { holds = λ id request h. inl h; waits = All-push (Seeks old x) old.waits w (itself old) (inr asked); offers = All-nil (IsSought old) }
  fair Known _ _ (goes_on old first later a b) = both_fair old first later (fair Known old first a) (fair Known first.soft later b)

  sought : (Known : ℕ → Reply → Type 0) (old : Soft) (told : Sends) → Move Known bag x old told → OffersWhatIsSought bag x old told.sends told.soft
  sought Known old told move =
      let f = fair Known old told move in
      record {
        holds = f.holds;
        waits = λ w there. All-contains (Seeks old x) told.soft.waits w f.waits there;
        offers = λ request id tuple sent. All-contains (IsSought old) told.sends (
          request.client,
          replies.Offer request.ticket id tuple,
        ) f.offers sent request id tuple refl;
      }

-- A step, and a closing.
pub step_sought : (st new : State) (old : Soft) (c : ℕ) (m : Message) (answered : Answer) → IsState st
    → IsStep st old c m answered new → OffersWhatIsSought new.bag (says c m) old answered.sends answered.soft
step_sought st new old c m answered is step = sought new.bag (says c m) (KnownIn new) old _ (step_move st new c old is m answered step)

pub close_sought : (bag : Bagged) (x : Coming) (client : ℕ) (old : Soft)
    → OffersWhatIsSought bag x old (on_close bag client old).sends (on_close bag client old).soft
close_sought bag x client old = sought bag x (λ c r. Unit {0}) old (on_close bag client old) (close_move (λ c r. Unit {0}) bag x client old)
