-- What comes of an arrival and of an offer that is gone, by what the client looked up.
use Rattle.std.proofs.Common.{◌≡◌, ℕ, Bool, true, false, cond, not, List, [], ◌∷◌, drop, refl, sym, ap, ◌∙◌, subst}
use Rattle.std.specs.Prelude.{Option, Some, None, is_some, IfSome, Result, Ok, slice_get}
use Rattle.std.proofs.lemmas.Option.{none-some, same_Some}
use Rattle.linda_tuple.specs.Tuple.{Tuple}
use Rattle.linda_client.specs.declared.arrived_tuple.ArrivedTuple.{ArrivedTuple}
use Rattle.linda_client.specs.declared.ask.Ask.{Ask}
use Rattle.linda_client.specs.declared.fault.ClientFault.{ClientFault}
use Rattle.linda_client.specs.declared.outcome.Outcome.{Outcome}
use Rattle.linda_client.specs.declared.reaction.Reaction.{Reaction as Told}
use Rattle.linda_client.specs.declared.task.Task.TheVariants.{Idle}
use Rattle.linda_client.specs.Client.{Client, OfPending, pending_in, servers}
use Rattle.linda_client.specs.Packets.{Packet, cancels, cancels_but, spared_by}
use Rattle.linda_client.specs.Pending.{Pending, ask_at, drop_oldest, is_fit}
use Rattle.linda_client.specs.React.{accept, ask_of_taken, awaits, go_on, got_by_input, got_by_read, on_arrival}
use Rattle.linda_client.specs.React.{on_arrival_for, on_gone, on_saved, on_taken, on_taken_for, save, take_up}
use Rattle.linda_client.specs.Reaction.{Answer, Does, commit, commitment, finish, no_reaction, shown}

-- The arrival fits the ask of its ticket.
pub record Fits (c : Client) (p : Pending) (ask : Ask) (remove : Bool) (a : ArrivedTuple) : Type 0 where
  pub there : Some p ≡ pending_in c.task
  pub asked : Some ask ≡ ask_at p a.ticket
  pub fits : true ≡ is_fit ask remove a.tuple

-- The offer that was accepted is gone, and this is the oldest arrival that was saved, with what its ticket asked.
pub record Frees (c : Client) (p : Pending) (server n : ℕ) (a : ArrivedTuple) (ask : Ask) : Type 0 where
  pub there : Some p ≡ pending_in c.task
  pub answers : true ≡ awaits p.accepted server n
  pub oldest : slice_get p.saved 0 ≡ Some a
  pub asked : ask_at p a.ticket ≡ Some ask

-- a synchronization that awaits nothing, without the oldest arrival
abbrev free : Pending → Pending
free p = record p { accepted = None; saved = drop 1 p.saved }

-- what a copy commits to, with all tickets cancelled everywhere
abbrev pub copied : Client → Pending → Ask → ArrivedTuple → Answer
copied c p ask a = Ok (commit c p.event (cancels_but (servers c) None p) ask.base (got_by_read ask a))

-- what holds of the synchronization that is pending
of_it : (c : Client) (p : Pending) (P : Pending → Type 0) → Some p ≡ pending_in c.task → OfPending c P → P p
of_it c p P there h = subst (λ o. IfSome o P) (sym there) h

fitting : (c : Client) (p : Pending) (ask : Ask) (remove : Bool) (a : ArrivedTuple) → Fits c p ask remove a
    → on_arrival c (pending_in c.task) remove a ≡ cond (is_some p.accepted) (Ok (save c p a)) (take_up c p a ask)
fitting c p ask remove a f =
    ap (λ o. on_arrival c o remove a) (sym f.there) ∙ ap (on_arrival_for c p remove a) (sym f.asked)
    ∙ ap (λ b. cond (not b) (Ok (no_reaction c)) (cond (is_some p.accepted) (Ok (save c p a)) (take_up c p a ask))) (sym f.fits)

none_of : {X : Type 0} (o : Option X) → is_some o ≡ false → o ≡ None
none_of None e = refl
none_of (Some x) e = cc

input_up : (c : Client) (p : Pending) (ask : Ask) (a : ArrivedTuple) → ask.remove ≡ true → take_up c p a ask ≡ accept c p a.server a.ticket a.id
input_up c p ask a input =
    ap (λ b. cond b (accept c p a.server a.ticket a.id)
    (Ok (commit c p.event (cancels_but (servers c) (spared_by p.accepted p.saved) p) ask.base (got_by_read ask a)))) input

copy_up : (c : Client) (p : Pending) (ask : Ask) (a : ArrivedTuple) → p.accepted ≡ None → ask.remove ≡ false → take_up c p a ask ≡ copied c p ask a
copy_up c p ask a none copy =
    ap (λ b. cond b (accept c p a.server a.ticket a.id)
    (Ok (commit c p.event (cancels_but (servers c) (spared_by p.accepted p.saved) p) ask.base (got_by_read ask a)))) copy
    ∙ ap (λ o. Ok (commit c p.event (cancels_but (servers c) (spared_by o p.saved) p) ask.base (got_by_read ask a))) none

-- while an Accept is unanswered the arrival is saved
pub is_kept : (c new : Client) (r : Result Told ClientFault) (p : Pending) (ask : Ask) (remove : Bool) (a : ArrivedTuple)
    → Fits c p ask remove a → true ≡ is_some p.accepted
    → OfPending c (λ s. Does c r new (Ok (save c s a))) → Does c r new (on_arrival c (pending_in c.task) remove a)
is_kept c new r p ask remove a f awaited does =
    subst (Does c r new) (sym (fitting c p ask remove a f ∙ ap (λ b. cond b (Ok (save c p a)) (take_up c p a ask)) (sym awaited)))
    (of_it c p (λ s. Does c r new (Ok (save c s a))) f.there does)

-- else a copy commits to its base
pub is_copied : (c : Client) (p : Pending) (ask : Ask) (remove : Bool) (a : ArrivedTuple) → Fits c p ask remove a → false ≡ is_some p.accepted
    → ask.remove ≡ false
    → on_arrival c (pending_in c.task) remove a ≡ copied c p ask a
is_copied c p ask remove a f free copy =
    fitting c p ask remove a f ∙ ap (λ b. cond b (Ok (save c p a)) (take_up c p a ask)) (sym free) ∙ copy_up c p ask a (none_of p.accepted (sym free)) copy

first_of : (l : List ArrivedTuple) (a : ArrivedTuple) → slice_get l 0 ≡ Some a → l ≡ a ∷ drop 1 l
first_of [] a e = absurd (none-some a e)
first_of (x ∷ xs) a e = ap (λ y. y ∷ xs) (same_Some x a e)

-- what an offer that is gone comes to
pub goes_on : (c : Client) (p : Pending) (server n : ℕ) → Some p ≡ pending_in c.task
    → true ≡ awaits p.accepted server n → on_gone c (pending_in c.task) server n ≡ go_on c p p.saved
goes_on c p server n there answers =
    ap (λ o. on_gone c o server n) (sym there) ∙ ap (λ b. cond b (go_on c p p.saved) (Ok (no_reaction c))) (sym answers)

freed : (c : Client) (p : Pending) (server n : ℕ) (a : ArrivedTuple) (ask : Ask) → Frees c p server n a ask
    → on_gone c (pending_in c.task) server n ≡ take_up c (free p) a ask
freed c p server n a ask f =
    goes_on c p server n f.there f.answers ∙ ap (go_on c p) (first_of p.saved a f.oldest) ∙ ap (on_saved c (free p) a) f.asked

-- with nothing saved the synchronization goes on by its alarms
pub goes_without : (c new : Client) (r : Result Told ClientFault) (p : Pending) (server n : ℕ)
    → Some p ≡ pending_in c.task → true ≡ awaits p.accepted server n → p.saved ≡ []
    → OfPending c (λ s. Does c r new (go_on c s [])) → Does c r new (on_gone c (pending_in c.task) server n)
goes_without c new r p server n there answers none does =
    subst (Does c r new) (sym (goes_on c p server n there answers ∙ ap (go_on c p) none)) (of_it c p (λ s. Does c r new (go_on c s [])) there does)

-- else with the oldest arrival: an offer is accepted
pub oldest_accepted : (c new : Client) (r : Result Told ClientFault) (p : Pending) (server n : ℕ) (a : ArrivedTuple) (ask : Ask)
    → Frees c p server n a ask → ask.remove ≡ true
    → OfPending c (λ s. Does c r new (accept c (drop_oldest s) a.server a.ticket a.id)) → Does c r new (on_gone c (pending_in c.task) server n)
oldest_accepted c new r p server n a ask f input does =
    subst (Does c r new) (sym (freed c p server n a ask f ∙ input_up c (free p) ask a input))
    (of_it c p (λ s. Does c r new (accept c (drop_oldest s) a.server a.ticket a.id)) f.there does)

-- and a copy commits to its base
pub oldest_copied : (c : Client) (p : Pending) (server n : ℕ) (a : ArrivedTuple) (ask : Ask)
    → Frees c p server n a ask → ask.remove ≡ false → on_gone c (pending_in c.task) server n ≡ copied c p ask a
oldest_copied c p server n a ask f copy = freed c p server n a ask f ∙ copy_up c (free p) ask a refl copy

-- a reaction of these parts
abbrev answer : List Packet → Option Outcome → Option (ℕ × ℕ × ℕ) → Client → Answer
answer packets outcome fault c = Ok (record { packets = packets; outcome = outcome; fault = fault; client = c })

-- the reaction that ends what is pending
pub told_ended : (c new : Client) (packets : List Packet) (outcome : Outcome) (told : Told)
    → told.packets.items ≡ packets → told.outcome ≡ Some outcome → told.fault ≡ None → new ≡ record c { task = Idle }
    → ◌≡◌ {A = Answer} (Ok (finish c packets outcome)) (Ok (shown told new))
told_ended c new packets outcome told sent ended fault after =
    ap (λ l. answer l (Some outcome) None (record c { task = Idle })) (sym sent)
    ∙ ap (λ o. answer told.packets.items o None (record c { task = Idle })) (sym ended)
    ∙ ap (λ f. answer told.packets.items told.outcome f (record c { task = Idle })) (sym fault)
    ∙ ap (answer told.packets.items told.outcome told.fault) (sym after)

-- the reaction that commits to a copy
pub told_copied : (c new : Client) (p : Pending) (ask : Ask) (a : ArrivedTuple) (told : Told)
    → told.packets.items ≡ cancels_but (servers c) None p → told.outcome ≡ Some (commitment p.event ask.base (got_by_read ask a))
    → told.fault ≡ None → new ≡ record c { task = Idle } → copied c p ask a ≡ Ok (shown told new)
told_copied c new p ask a told = told_ended c new (cancels_but (servers c) None p) (commitment p.event ask.base (got_by_read ask a)) told

-- a tuple that was taken for the offer that was accepted commits to the base that asked for it
pub is_taken : (c : Client) (p : Pending) (ask : Ask) (server n id : ℕ) (row : Tuple) → Some p ≡ pending_in c.task
    → Some ask ≡ ask_of_taken p p.accepted server n id → true ≡ is_fit ask true row
    → on_taken c (pending_in c.task) server n id row ≡ commit c p.event (cancels (servers c) p) ask.base (got_by_input ask server id row)
is_taken c p ask server n id row there asked fits =
    ap (λ o. on_taken c o server n id row) (sym there) ∙ ap (on_taken_for c p server id row) (sym asked)
    ∙ ap (λ b. cond b (commit c p.event (cancels (servers c) p) ask.base (got_by_input ask server id row)) (no_reaction c)) (sym fits)
