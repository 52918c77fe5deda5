-- What a client does with an offer that comes, and what becomes of one that it has in hand.
use Rattle.std.proofs.Common.{◌≡◌, ℕ, ◌==◌, ◌&&◌, Bool, true, false, cond, not, nat_lt, [], ◌∷◌, ◌++◌, refl, sym, ap, ◌∙◌, subst, eqb-true}
use Rattle.std.specs.Prelude.{Option, Some, None, is_some, Ok, IfOk, IsSome, IsSomeAnd}
use Rattle.std.proofs.lemmas.Bool.{false≢true}
use Rattle.std.proofs.lemmas.Option.{none-some, same_Some}
use Rattle.std.proofs.lemmas.List.Elements.{Contains-push}
use Rattle.linda_tuple.specs.Tuple.{Tuple}
use Rattle.linda_tuple.specs.Matching.{is_match}
use Rattle.linda_wire.specs.declared.reply.Reply.TheVariants as replies
use Rattle.linda_wire.specs.declared.limits.TheConstants.{NUMBER_LIMIT}
use Rattle.linda_client.specs.declared.arrived_tuple.PendingAccept.{PendingAccept}
use Rattle.linda_client.specs.declared.arrived_tuple.ArrivedTuple.{ArrivedTuple}
use Rattle.linda_client.specs.declared.ask.Ask.{Ask}
use Rattle.linda_client.specs.declared.task.Task.TheVariants.{Syncing}
use Rattle.linda_client.specs.Pending.{Pending, ask_at, is_fit, is_saved, same_arrival}
use Rattle.linda_client.specs.Client.{Client, IsClient, asked_in, next_at, pending_in, servers}
use Rattle.linda_client.specs.Reaction.{Answer, Reaction, no_reaction}
use Rattle.linda_client.specs.React as spec
use Rattle.linda_client.specs.React.{Call, Receive, next_accept, react}
use Rattle.linda_client.specs.Offers.{IsSaved, IsTreated}
use Rattle.linda_client.proofs.TestLaws.{both, by_test, not_false}
use Rattle.linda_client.proofs.ListLaws.{any_one}

not_some : (o : Option PendingAccept) → is_some o ≡ false → IsSome o → ⊥
not_some o none some = false≢true (sym none ∙ some)

some_not : (o : Option PendingAccept) → is_some o ≡ true → o ≡ None → ⊥
some_not o some none = false≢true (sym (ap is_some none) ∙ some)

-- An offer that comes.
module _ (c : Client) (server ticket id : ℕ) (row : Tuple) where
  abbrev this : ArrivedTuple
  this = record { server = server; ticket = ticket; id = id; tuple = row }

  abbrev TreatedOn : Answer → Type 0
  TreatedOn answer = IfOk answer (IsTreated c server ticket id row)

  treated_stray : asked_in (pending_in c.task) ticket ≡ None → IsTreated c server ticket id row (spec.on_stray c true this)
  treated_stray none = record {
    stray = λ _. refl;
    saved = λ pending ask there asked fits some. absurd (none-some ask (sym none ∙ ap (λ o. asked_in o ticket) there ∙ asked));
    accepted = λ pending ask there asked fits free. absurd (none-some ask (sym none ∙ ap (λ o. asked_in o ticket) there ∙ asked));
  }

  module _ (pending : Pending) (there : pending_in c.task ≡ Some pending) (ask : Ask) (asked : ask_at pending ticket ≡ Some ask) where
    -- the synchronization and the ask of the ticket are these, however they are named
    for_these : (r : Reaction)
        → (is_fit ask true row ≡ true → IsSome pending.accepted → IsSomeAnd (pending_in r.client.task) (λ later. IsSaved later server ticket id))
        → (is_fit ask true row ≡ true → pending.accepted ≡ None
        → IsSomeAnd (pending_in r.client.task) (λ later. later.accepted ≡ Some (next_accept c server ticket id))) → IsTreated c server ticket id row r
    for_these r saved accepted = record {
      stray = λ none. absurd (none-some ask (sym none ∙ ap (λ o. asked_in o ticket) there ∙ asked));
      saved = λ other wants is_there wanted fits some.
          let same = same_Some other pending (sym is_there ∙ there) in
          let same_ask = same_Some wants ask (sym wanted ∙ ap (λ (x : Pending). ask_at x ticket) same ∙ asked) in
          saved (subst (λ (x : Ask). is_fit x true row ≡ true) same_ask fits) (subst (λ (x : Pending). IsSome x.accepted) same some);
      accepted = λ other wants is_there wanted fits free.
          let same = same_Some other pending (sym is_there ∙ there) in
          let same_ask = same_Some wants ask (sym wanted ∙ ap (λ (x : Pending). ask_at x ticket) same ∙ asked) in
          accepted (subst (λ (x : Ask). is_fit x true row ≡ true) same_ask fits) (subst (λ (x : Pending). x.accepted ≡ None) same free);
    }

    treated_unfit : not (is_fit ask true row) ≡ true → IsTreated c server ticket id row (no_reaction c)
    treated_unfit unfit = for_these (no_reaction c) (λ fits. absurd (false≢true (sym (ap not fits) ∙ unfit)))
        (λ fits. absurd (false≢true (sym (ap not fits) ∙ unfit)))

    saved_before : is_saved pending this ≡ true → IsSaved pending server ticket id
    saved_before e =
        let found = any_one (same_arrival this) pending.saved e in
        let tests = both (server == found.0.server) ((ticket == found.0.ticket) && (id == found.0.id)) found.1.1 in
        let more = both (ticket == found.0.ticket) (id == found.0.id) tests.1 in
        record {
          arrival = found.0;
          there = found.1.0;
          server_is = sym (eqb-true server found.0.server tests.0);
          ticket_is = sym (eqb-true ticket found.0.ticket more.0);
          id_is = sym (eqb-true id found.0.id more.1);
        }

    treated_saved : is_some pending.accepted ≡ true → IsTreated c server ticket id row (spec.save c pending this)
    treated_saved awaits =
        for_these (spec.save c pending this) (λ fits some. by (is_saved pending this) refl) (λ fits free. absurd (some_not pending.accepted awaits free))
      where
        by : (b : Bool) → is_saved pending this ≡ b
            → IsSomeAnd (pending_in (cond b c (record c { task = Syncing (record pending { saved = pending.saved ++ this ∷ [] }) })).task)
            (λ later. IsSaved later server ticket id)
        by true e = subst (λ o. IsSomeAnd o (λ later. IsSaved later server ticket id)) (sym there) (saved_before e)
        by false e = record { arrival = this; there = Contains-push pending.saved this; server_is = refl; ticket_is = refl; id_is = refl }

    treated_free : is_some pending.accepted ≡ false → not (is_fit ask true row) ≡ false → TreatedOn (spec.take_up c pending this ask)
    treated_free none fits =
        by_test TreatedOn ask.remove _ _
        (λ _. by_test TreatedOn (next_at c server == NUMBER_LIMIT) _ _ (λ _. tt)
        (λ _. for_these _ (λ _ some. absurd (not_some pending.accepted none some)) (λ _ _. refl)))
        (λ kept. absurd (false≢true (ap (λ b. b && is_match ask.template row) (sym kept) ∙ not_false (is_fit ask true row) fits)))

  treated_on : (o : Option Pending) → pending_in c.task ≡ o → TreatedOn (spec.on_arrival c o true this)
  treated_on None there = treated_stray (ap (λ o. asked_in o ticket) there)
  treated_on (Some pending) there = by (ask_at pending ticket) refl
    where
      by : (o : Option Ask) → ask_at pending ticket ≡ o → TreatedOn (spec.on_arrival_for c pending true this o)
      by None e = treated_stray (ap (λ o. asked_in o ticket) there ∙ e)
      by (Some ask) e =
          by_test TreatedOn (not (is_fit ask true row)) _ _ (λ unfit. treated_unfit pending there ask e unfit)
          (λ fits. by_test TreatedOn (is_some pending.accepted) _ _ (λ awaits. treated_saved pending there ask e awaits)
          (λ none. treated_free pending there ask e none fits))

  treated : (r : Reaction) → IsClient c → react c (Receive server (replies.Offer ticket id row)) ≡ Ok r → IsTreated c server ticket id row r
  treated r is e = subst TreatedOn e (by_test TreatedOn (nat_lt server (servers c)) _ _ (λ _. treated_on (pending_in c.task) refl) (λ _. tt))

-- Each offer that comes is treated so.
pub treats : (c : Client) (call : Call) (r : Reaction) → IsClient c → react c call ≡ Ok r
    → (server ticket id : ℕ) (row : Tuple) → call ≡ Receive server (replies.Offer ticket id row)
    → IsTreated c server ticket id row r
treats c call r is e server ticket id row called = treated c server ticket id row r is (sym (ap (react c) called) ∙ e)
