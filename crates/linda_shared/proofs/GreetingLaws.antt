-- A greeting is that of the server in the state that it has.
use Rattle.std.proofs.Common.{Result, Ok, Err, IfOk}
use Rattle.linda_wire.specs.declared.message.Message.{Message}
use Rattle.linda_store_state.specs.State.{State}
use Rattle.linda_shared_accounts.specs.Accounts.{Places}
use Rattle.linda_shared_held.specs.declared.admission.Admission.{Admission}
use Rattle.linda_shared_held.specs.Greeting.{IsGreeted, admission_of}
use Rattle.linda_shared.specs.Greeting.{WasGreeted}

pub as_it_stands : {L E : Type 0} (result : Result (Admission L) E) (message : Message) (state : State) (places : Places)
    → IfOk result (λ a. IsGreeted state places message (admission_of a)) → IfOk result (λ a. WasGreeted message (admission_of a))
as_it_stands (Err fault) message state places greeted = tt
as_it_stands (Ok answer) message state places greeted = record { state = state; places = places; greeted = greeted }
