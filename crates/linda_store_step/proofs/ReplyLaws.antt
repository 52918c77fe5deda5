-- A reply of a move is in the book if it reports a deed; and each reply in the book reports a deed.
use Rattle.std.proofs.Common.{◌≡◌, ℕ, true, false, true≢false, cond, ◌==◌, List, [], ◌∷◌, ◌++◌, map, Some, None}
use Rattle.std.proofs.Common.{option_to_list, All, refl, sym, ap, ◌∙◌, subst, eqb-true}
use Rattle.std.proofs.lemmas.Option.{none-some, same_Some}
use Rattle.std.proofs.lemmas.List.Elements.{All-nil, All-cons, All-append, All-map}
use Rattle.std.specs.FinMap.{get}
use Rattle.linda_map_laws.proofs.MapLaws.{get_empty}
use Rattle.linda_hold.specs.Waits.{readers, longest}
use Rattle.linda_wire.specs.declared.message.Message.{Message}
use Rattle.linda_wire.specs.declared.reply.Reply.{Reply}
use Rattle.linda_wire.specs.declared.reply.Reply.TheVariants as replies
use Rattle.linda_tuple.specs.Tuple.{Tuple}
use Rattle.linda_book.specs.Entries.{Entry}
use Rattle.linda_store_state.specs.declared.deed.Deed.{Deed}
use Rattle.linda_store_state.specs.Deed.{client_of, number_of, last_with, last_of}
use Rattle.linda_store_state.specs.State.{State, IsState, empty_state}
use Rattle.linda_store_state.specs.After.{IsAfter, entry_after, reply_of_deed}
use Rattle.linda_store_step.specs.Soft.{Soft, Bagged}
use Rattle.linda_store_step.specs.Dispatch.{Sends, read_to, offer_to, on_close}
use Rattle.linda_store_step.specs.Answer.{Answer, reply_of_kept, IsStep}
use Rattle.linda_store_step.specs.History.{Coming, hangs_up}
use Rattle.linda_store_step.specs.Replies.{reports_deed, KeepsReply, KeepsReports, ReportsOne}
use Rattle.linda_store_step.proofs.MoveLaws.{Move, gives_up, tells, dispatches, repeats, reads, offers, waits, goes_on, KnownIn, step_move, close_move}

module _ (st : State) (bag : Bagged) (x : Coming) where
  abbrev IsBacked : ℕ × Reply → Type 0
  IsBacked send = reports_deed send.1 ≡ true → KeepsReply st send.0 send.1

  -- replies of which none reports a deed are backed
  silent : {Y : Type 0} (f : Y → ℕ × Reply) (ys : List Y) → ((y : Y) → reports_deed (f y).1 ≡ false) → All IsBacked (map f ys)
  silent f ys none = All-map IsBacked f ys (λ k d within reports. absurd (true≢false (sym reports ∙ none _)))

  backed : (old : Soft) (told : Sends) → Move (KnownIn st) bag x old told → KeepsReports st told.sends
  backed _ _ (gives_up old new less) = All-nil IsBacked
  backed _ _ (tells old c r no_offer known) = All-cons IsBacked (c, r) [] known (All-nil IsBacked)
  backed _ _ (dispatches old id tuple there) =
      All-append IsBacked (map (read_to id tuple) (readers tuple old.waits)) (map (offer_to id tuple) (option_to_list (longest tuple old.waits)))
      (silent (read_to id tuple) (readers tuple old.waits) (λ w. refl)) (silent (offer_to id tuple) (option_to_list (longest tuple old.waits)) (λ w. refl))
  backed _ _ (repeats old id request held) =
      silent (λ (tuple : Tuple). (request.client, replies.Offer request.ticket id tuple)) (option_to_list (get bag id)) (λ tuple. refl)
  backed _ _ (reads old id request) =
      silent (λ (tuple : Tuple). (request.client, replies.Read request.ticket id tuple)) (option_to_list (get bag id)) (λ tuple. refl)
  backed _ _ (offers old id w tuple asked removes there fits) =
      silent (λ (row : Tuple). (w.0.client, replies.Offer w.0.ticket id row)) (option_to_list (get bag id)) (λ row. refl)
  backed _ _ (waits old w asked) = All-nil IsBacked
  backed _ _ (goes_on old first later a b) = All-append IsBacked first.sends later.sends (backed old first a) (backed first.soft later b)

-- What a step reports is what the book then has.
pub step_backed : (st new : State) (old : Soft) (c : ℕ) (m : Message) (answered : Answer) → IsState st
    → IsStep st old c m answered new → KeepsReports new answered.sends
step_backed st new old c m answered is step = backed new new.bag _ old _ (step_move st new c old is m answered step)

-- A closing reports nothing.
pub close_backed : (st : State) (bag : Bagged) (client : ℕ) (old : Soft) → KeepsReports st (on_close bag client old).sends
close_backed st bag client old = backed st bag (hangs_up client) old (on_close bag client old) (close_move (KnownIn st) bag (hangs_up client) client old)

-- ---- the book

-- a client's last deed among others
record IsLastOf (c : ℕ) (ds : List Deed) (last : List Deed × Deed) : Type 0 where
  later : List Deed
  parts : ds ≡ last.0 ++ last.1 ∷ later
  mine : client_of last.1 ≡ c

last_of_is : (c : ℕ) (ds : List Deed) (last : List Deed × Deed) → last_of c ds ≡ Some last → IsLastOf c ds last
last_of_is c [] last none = absurd (none-some last none)
last_of_is c (d ∷ ds) last is =
    elim (last_of c ds) as (λ o. last_of c ds ≡ o → last_with c d o ≡ Some last → IsLastOf c (d ∷ ds) last) [
      | Some found ↦ λ there same.
          let l = last_of_is c ds found there in
          subst (IsLastOf c (d ∷ ds)) (same_Some (d ∷ found.0, found.1) last same)
          (record { later = l.later; parts = ap (λ es. d ∷ es) l.parts; mine = l.mine })
      | None ↦ λ none.
          elim (client_of d == c) as (λ b. (client_of d == c) ≡ b → cond b (Some ([], d)) None ≡ Some last → IsLastOf c (d ∷ ds) last) [
            | true ↦ λ mine same. subst (IsLastOf c (d ∷ ds)) (same_Some ([], d) last same)
                (record { later = ds; parts = refl; mine = eqb-true (client_of d) c mine })
            | false ↦ λ other same. absurd (none-some last same)
          ] refl
    ] refl is

-- What the book has is the reply to one of the deeds.
pub book_reports : (ds : List Deed) (st : State) (c : ℕ) (r : Reply) → IsAfter empty_state ds st → KeepsReply st c r → ReportsOne ds c r
book_reports ds st c r after keeps =
    elim (last_of c ds) as (λ o. last_of c ds ≡ o → entry_after empty_state c o ≡ Some keeps.entry → ReportsOne ds c r) [
      | None ↦ λ none there. absurd (none-some keeps.entry (sym (get_empty c) ∙ there))
      | Some last ↦ λ is there.
          let l = last_of_is c ds last is in
          record {
            before = last.0;
            deed = last.1;
            later = l.later;
            parts = l.parts;
            client = l.mine;
            reply = keeps.reply ∙ ap (λ (e : Entry). reply_of_kept e.0 e.1)
                (sym (same_Some (number_of last.1, reply_of_deed empty_state last.0 last.1) keeps.entry there));
          }
    ] refl (sym (after.book c) ∙ keeps.kept)
