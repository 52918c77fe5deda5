-- Verdicts on numbered messages. They follow from numbers only, and from whether the client left:
-- its own number, the last one of its client, how many clients are kept, and the next id.
use Rattle.std.specs.Prelude.{ℕ, Bool, true, false, ◌==◌, nat_le, ◌&&◌, ◌||◌, if◌then◌else◌, Option}
use Rattle.std.specs.Prelude.{Some, None}
use Rattle.std.specs.Option.{option_map}
use Rattle.linda_wire.specs.declared.limits.TheConstants.{MAX_CLIENTS, NUMBER_LIMIT}
use Rattle.linda_wire.specs.declared.message.Message.{Message}
use Rattle.linda_wire.specs.declared.message.Message.TheVariants as messages
use Rattle.linda_wire.specs.declared.refusal.Refusal.TheVariants as refusals
use Rattle.linda_book.specs.declared.class.Class.{Class}
use Rattle.linda_book.specs.declared.class.Class.TheVariants as classes
use Rattle.linda_book.specs.Classes.{class_of}
use Rattle.linda_store_step.specs.declared.judge.What.{What}
use Rattle.linda_store_step.specs.declared.judge.What.TheVariants.{Put, Take, Leave}
use Rattle.linda_store_step.specs.declared.judge.Demand.{Demand}
use Rattle.linda_store_step.specs.declared.judge.Standing.{Standing}
use Rattle.linda_store_step.specs.declared.judge.Verdict.{Verdict}
use Rattle.linda_store_step.specs.declared.judge.Verdict.TheVariants.{Refused, Repeated, Done}

-- what an Out of this number asks for, what an Accept does, and what a Leave
abbrev pub to_put : ℕ → Demand
to_put n = record { n = n; what = Put }

abbrev pub to_take : ℕ → Demand
to_take n = record { n = n; what = Take }

abbrev pub to_leave : ℕ → Demand
to_leave n = record { n = n; what = Leave }

-- what a message asks for, if it bears a number
abbrev pub demand_of : Message → Option Demand
demand_of (messages.Hello version client fresh) = None
demand_of (messages.Out n tuple) = Some (to_put n)
demand_of (messages.Ask ticket remove template) = None
demand_of (messages.Accept n ticket id) = Some (to_take n)
demand_of (messages.Leave n) = Some (to_leave n)
demand_of (messages.Cancel ticket) = None

-- the number in what is asked for, and so the number that a message bears, if it bears one
abbrev pub number_asked : Option Demand → Option ℕ
number_asked o = option_map (λ (d : Demand). d.n) o

abbrev pub number_of_message : Message → Option ℕ
number_of_message m = number_asked (demand_of m)

-- whether it puts a tuple, and whether it gives the client's number up
abbrev pub puts : What → Bool
puts Put = true
puts Take = false
puts Leave = false

abbrev pub leaves : What → Bool
leaves Put = false
leaves Take = false
leaves Leave = true

-- whether the client is new and no more clients are kept
abbrev pub has_no_place : Standing → Bool
has_no_place at = (at.last == 0) && nat_le MAX_CLIENTS at.clients

-- whether numbers are spent for it, or ids, which an Out needs too
abbrev pub is_spent_for : Demand → Standing → Bool
is_spent_for d at = (d.n == NUMBER_LIMIT) || (puts d.what && (at.next == NUMBER_LIMIT))

-- the verdict if the number is the client's next: the first case that holds
abbrev pub judge_fresh : Demand → Standing → Verdict
judge_fresh d at =
    if has_no_place at then Refused refusals.TooManyClients
    else (if is_spent_for d at then Refused refusals.Spent
    else Done)

-- the verdict by the class of the number
abbrev pub judge_class : Demand → Standing → Class → Verdict
judge_class d at (classes.Old last) = Refused (refusals.Old last)
judge_class d at classes.Kept = Repeated
judge_class d at (classes.Left last) = Refused (refusals.Left last)
judge_class d at (classes.Gap last) = Refused (refusals.Gap last)
judge_class d at classes.Fresh = judge_fresh d at

-- The verdict on a numbered message.
abbrev pub judge : Demand → Standing → Verdict
judge d at = judge_class d at (class_of at.last at.left d.n)
