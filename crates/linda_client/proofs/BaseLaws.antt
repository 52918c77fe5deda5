-- A base that an event asks for, or that is ready, is one of its bases, and gets what its kind can get.
use Rattle.std.proofs.Common.{◌≡◌, ℕ, zero, suc, ◌+◌, ◌-◌, ◌≤◌, nat_lt, Bool, true, false, cond, List, [], ◌∷◌, refl, sym, ap, subst, ◌∙◌, arith}
use Rattle.std.specs.Prelude.{Option, Some, None, IsSomeAnd, filter_map, find, slice_get, nat_le, option_map}
use Rattle.std.specs.List.{enumerate_from, cons_option, position_or_len}
use Rattle.std.proofs.lemmas.Bool.{false≢true}
use Rattle.std.proofs.lemmas.Bool.Decides.{nat_tests}
use Rattle.std.proofs.lemmas.Option.{none-some, same_Some}
use Rattle.std.proofs.lemmas.List.Folds.{find_at}
use Rattle.linda_tuple.specs.Tuple.{Tuple}
use Rattle.linda_tuple.specs.Matching.{Matches, bindings_of}
use Rattle.linda_event.specs.Trees.{Tree, Kind, input, read, alarm, always, never}
use Rattle.linda_event.specs.Paths.{bases_of}
use Rattle.linda_client.specs.declared.ask.Ask.{Ask}
use Rattle.linda_client.specs.declared.ask.Alarm.{Alarm}
use Rattle.linda_client.specs.declared.outcome.Got.{Got}
use Rattle.linda_client.specs.declared.outcome.Got.TheVariants as gots
use Rattle.linda_client.specs.Ask.{ask_of, alarm_of, asks, alarms, first_alarm, first_ready, given_by, ready_at}
use Rattle.linda_client.specs.Pending.{Pending, ask_at}
use Rattle.linda_client.specs.Ending.{BaseGets, CanGet}

-- an item that was made of a base: which base, and how
record Made {X : Type 0} (h : ℕ × Kind → Option X) (n : ℕ) (kinds : List Kind) (x : X) : Type 0 where
  pub place : ℕ
  pub kind : Kind
  pub there : slice_get kinds place ≡ Some kind
  pub made : h (n + place, kind) ≡ Some x

made_later : {X : Type 0} (h : ℕ × Kind → Option X) (n : ℕ) (k : Kind) (kinds : List Kind) (x : X) → Made h (n + 1) kinds x → Made h n (k ∷ kinds) x
made_later h n k kinds x m =
    let e : n + suc m.place ≡ (n + 1) + m.place = omega arith in
    record { place = suc m.place; kind = m.kind; there = m.there; made = ap (λ i. h (i, m.kind)) e ∙ m.made }

made_by : {X : Type 0} (h : ℕ × Kind → Option X) (n : ℕ) (k : Kind) (kinds : List Kind) (i : ℕ) (x : X) (o : Option X) (rest : List X)
    → ((j : ℕ) → slice_get rest j ≡ Some x → Made h (n + 1) kinds x) → h (n, k) ≡ o → slice_get (cons_option o rest) i ≡ Some x → Made h n (k ∷ kinds) x
made_by h n k kinds i x None rest later e f = made_later h n k kinds x (later i f)
made_by h n k kinds zero x (Some y) rest later e f =
    let same : n + 0 ≡ n = omega arith in
    record { place = 0; kind = k; there = refl; made = ap (λ j. h (j, k)) same ∙ e ∙ f }
made_by h n k kinds (suc i) x (Some y) rest later e f = made_later h n k kinds x (later i f)

made_of : {X : Type 0} (h : ℕ × Kind → Option X) (n : ℕ) (kinds : List Kind) (i : ℕ) (x : X)
    → slice_get (filter_map h (enumerate_from n kinds)) i ≡ Some x → Made h n kinds x
made_of h n [] i x e = absurd (none-some x e)
made_of h n (k ∷ kinds) i x e =
    made_by h n k kinds i x (h (n, k)) (filter_map h (enumerate_from (n + 1) kinds)) (λ j f. made_of h (n + 1) kinds j x f) refl e

gets_there : (clock : ℕ) (event : Tree) (base place : ℕ) (kind : Kind) (got : Got) → base ≡ place
    → slice_get (bases_of event) place ≡ Some kind → CanGet clock kind got → BaseGets clock event base got
gets_there clock event base place kind got at there gets =
    subst (λ o. IsSomeAnd o (λ k. CanGet clock k got)) (sym (ap (slice_get (bases_of event)) at ∙ there)) gets

asked_input : (clock base : ℕ) (kind : Kind) (ask : Ask) (server id : ℕ) (row : Tuple)
    → ask_of base kind ≡ Some ask → ask.remove ≡ true → Matches ask.template row
    → (ask.base ≡ base) × CanGet clock kind (gots.Took server id row (bindings_of ask.template row))
asked_input clock base (input template) ask server id row e r fits =
    let same = same_Some _ ask e in (
      sym (ap (λ a. a.base) same),
      (subst (λ t. Matches t row) (sym (ap (λ a. a.template) same)) fits, ap (λ t. bindings_of t row) (sym (ap (λ a. a.template) same))),
    )
asked_input clock base (read template) ask server id row e r fits = let same = same_Some _ ask e in absurd (false≢true (ap (λ a. a.remove) same ∙ r))
asked_input clock base (alarm time) ask server id row e r fits = absurd (none-some ask e)
asked_input clock base (always value) ask server id row e r fits = absurd (none-some ask e)
asked_input clock base never ask server id row e r fits = absurd (none-some ask e)

asked_read : (clock base : ℕ) (kind : Kind) (ask : Ask) (server id : ℕ) (row : Tuple)
    → ask_of base kind ≡ Some ask → ask.remove ≡ false → Matches ask.template row
    → (ask.base ≡ base) × CanGet clock kind (gots.Copied server id row (bindings_of ask.template row))
asked_read clock base (input template) ask server id row e r fits = let same = same_Some _ ask e in absurd (false≢true (sym r ∙ sym (ap (λ a. a.remove) same)))
asked_read clock base (read template) ask server id row e r fits =
    let same = same_Some _ ask e in (
      sym (ap (λ a. a.base) same),
      (subst (λ t. Matches t row) (sym (ap (λ a. a.template) same)) fits, ap (λ t. bindings_of t row) (sym (ap (λ a. a.template) same))),
    )
asked_read clock base (alarm time) ask server id row e r fits = absurd (none-some ask e)
asked_read clock base (always value) ask server id row e r fits = absurd (none-some ask e)
asked_read clock base never ask server id row e r fits = absurd (none-some ask e)

open_ask : (pending : Pending) (ticket : ℕ) (ask : Ask) → ask_at pending ticket ≡ Some ask → Made (λ b. ask_of b.0 b.1) 0 (bases_of pending.event) ask
open_ask pending ticket ask e = open_by (nat_lt ticket pending.first) e where
  open_by : (b : Bool) → cond b None (slice_get (asks pending.event) (ticket - pending.first)) ≡ Some ask
      → Made (λ b. ask_of b.0 b.1) 0 (bases_of pending.event) ask
  open_by true f = absurd (none-some ask f)
  open_by false f = made_of (λ b. ask_of b.0 b.1) 0 (bases_of pending.event) (ticket - pending.first) ask f

-- What an open ticket of an input gets is what its base can get.
pub input_gets : (clock : ℕ) (pending : Pending) (ticket : ℕ) (ask : Ask) (server id : ℕ) (row : Tuple)
    → ask_at pending ticket ≡ Some ask → ask.remove ≡ true → Matches ask.template row
    → BaseGets clock pending.event ask.base (gots.Took server id row (bindings_of ask.template row))
input_gets clock pending ticket ask server id row e r fits =
    let m = open_ask pending ticket ask e in
    let g = asked_input clock (0 + m.place) m.kind ask server id row m.made r fits in
    let at : ask.base ≡ m.place = let h = g.0 in omega arith in
    gets_there clock pending.event ask.base m.place m.kind (gots.Took server id row (bindings_of ask.template row)) at m.there g.1

-- What an open ticket of a read gets is what its base can get.
pub read_gets : (clock : ℕ) (pending : Pending) (ticket : ℕ) (ask : Ask) (server id : ℕ) (row : Tuple)
    → ask_at pending ticket ≡ Some ask → ask.remove ≡ false → Matches ask.template row
    → BaseGets clock pending.event ask.base (gots.Copied server id row (bindings_of ask.template row))
read_gets clock pending ticket ask server id row e r fits =
    let m = open_ask pending ticket ask e in
    let g = asked_read clock (0 + m.place) m.kind ask server id row m.made r fits in
    let at : ask.base ≡ m.place = let h = g.0 in omega arith in
    gets_there clock pending.event ask.base m.place m.kind (gots.Copied server id row (bindings_of ask.template row)) at m.there g.1

found_passes : {X : Type 0} (p : X → Bool) (xs : List X) (x : X) → find p xs ≡ Some x → p x ≡ true
found_passes p [] x e = absurd (none-some x e)
found_passes p (y ∷ ys) x e = by (p y) refl e (λ f. found_passes p ys x f)
  where
    by : (b : Bool) → p y ≡ b → cond b (Some y) (find p ys) ≡ Some x → (find p ys ≡ Some x → p x ≡ true) → p x ≡ true
    by true here f later = ap p (sym (same_Some y x f)) ∙ here
    by false other f later = later f

is_alarm : (clock base : ℕ) (kind : Kind) (a : Alarm) → alarm_of base kind ≡ Some a → a.time ≤ clock → (a.base ≡ base) × CanGet clock kind gots.Alarm
is_alarm clock base (input template) a e low = absurd (none-some a e)
is_alarm clock base (read template) a e low = absurd (none-some a e)
is_alarm clock base (alarm time) a e low = let same = same_Some _ a e in (sym (ap (λ x. x.base) same), subst (λ t. t ≤ clock) (sym (ap (λ x. x.time) same)) low)
is_alarm clock base (always value) a e low = absurd (none-some a e)
is_alarm clock base never a e low = absurd (none-some a e)

-- An alarm that is ready rings at its base.
pub alarm_gets : (clock : ℕ) (event : Tree) (a : Alarm) → first_alarm clock event ≡ Some a → BaseGets clock event a.base gots.Alarm
alarm_gets clock event a e =
    let low : a.time ≤ clock = let passes : nat_le a.time clock ≡ true =
    found_passes (λ x. nat_le x.time clock) (alarms event) a e in grind (arith, nat_tests) in
    let m = made_of (λ b. alarm_of b.0 b.1) 0 (bases_of event) (position_or_len (λ x. nat_le x.time clock) (alarms event)) a
    (sym (find_at (λ x. nat_le x.time clock) (alarms event)) ∙ e) in
    let g = is_alarm clock (0 + m.place) m.kind a m.made low in
    let at : a.base ≡ m.place = let h = g.0 in omega arith in
    gets_there clock event a.base m.place m.kind gots.Alarm at m.there g.1

-- what is got without a server: an alarm or a value
abbrev pub IsAlone : Got → Type 0
IsAlone (gots.Took server id row bindings) = ⊥
IsAlone (gots.Copied server id row bindings) = ⊥
IsAlone gots.Alarm = Unit {0}
IsAlone (gots.Always value) = Unit {0}

given_alone : (clock : ℕ) (kind : Kind) (got : Got) → given_by clock kind ≡ Some got → CanGet clock kind got × IsAlone got
given_alone clock (input template) got e = absurd (none-some got e)
given_alone clock (read template) got e = absurd (none-some got e)
given_alone clock (alarm time) got e = by_time (nat_le time clock) refl e where
  by_time : (b : Bool) → nat_le time clock ≡ b → cond b (Some gots.Alarm) None ≡ Some got → CanGet clock (alarm time) got × IsAlone got
  by_time true low f = subst (λ g. CanGet clock (alarm time) g × IsAlone g) (same_Some gots.Alarm got f) (grind (arith, nat_tests), tt)
  by_time false low f = absurd (none-some got f)
given_alone clock (always value) got e = subst (λ g. CanGet clock (always value) g × IsAlone g) (same_Some (gots.Always value) got e) (refl, tt)
given_alone clock never got e = absurd (none-some got e)

ready_alone : (clock base : ℕ) (kind : Kind) (o : Option Got) (ready : ℕ × Got) → given_by clock kind ≡ o
    → option_map (λ got. (base, got)) o ≡ Some ready → (ready.0 ≡ base) × (CanGet clock kind ready.1 × IsAlone ready.1)
ready_alone clock base kind None ready e f = absurd (none-some ready f)
ready_alone clock base kind (Some got) ready e f =
    let same = same_Some (base, got) ready f in
    (sym (ap (λ r. r.0) same), given_alone clock kind ready.1 (e ∙ ap (λ r. Some r.1) same))

-- What is ready at once is what its base can get, and no server gave it.
pub ready_gets : (clock : ℕ) (event : Tree) (ready : ℕ × Got) → first_ready clock event ≡ Some ready → BaseGets clock event ready.0 ready.1 × IsAlone ready.1
ready_gets clock event ready e =
    let m = made_of (ready_at clock) 0 (bases_of event) 0 ready e in
    let g = ready_alone clock (0 + m.place) m.kind (given_by clock m.kind) ready refl m.made in
    let at : ready.0 ≡ m.place = let h = g.0 in omega arith in
    (gets_there clock event ready.0 m.place m.kind ready.1 at m.there g.1.0, g.1.1)
