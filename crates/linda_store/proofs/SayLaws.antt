-- What a call has said that puts one answer after the earlier replies.
use Rattle.std.proofs.Common.{◌≡◌, ℕ, Bool, true, List, [], ◌∷◌, ◌++◌, refl, ◌∙◌, ap}
use Rattle.std.specs.Prelude.{Option, Result, Ok, Err, OnOk, IfOk}
use Rattle.linda_wire.specs.declared.message.Message.{Message}
use Rattle.linda_wire.specs.declared.reply.Reply.{Reply}
use Rattle.linda_store.specs.Node.{Node, NodeAnswer, Handles}
use Rattle.linda_store.specs.Turn.{point_at, told, goes_on, IsAsked, IsTurnedAway, HasSaid}

-- the node was asked, and its answer said
pub asked_said : {E : Type 0} (c : ℕ) (m : Message) (greets : NodeAnswer → Option ℕ) (node now : Node)
    (was : Option ℕ) (answer : NodeAnswer) (result : Result Bool E) (old new : List Reply)
    → Handles node c m answer now
    → OnOk result (new ≡ old ++ told c answer)
    → IfOk result (λ is_open. is_open ≡ goes_on answer)
    → HasSaid (λ is_open said. IsAsked c m greets (point_at node was true) said (point_at now (greets answer) is_open)) old result new
asked_said c m greets node now was answer (Ok is_open) old new handled told_is open_is =
    (told c answer, (record { answer = answer; handled = handled; said_is = refl; greeted_is = refl; open_is = open_is }, told_is))
asked_said c m greets node now was answer (Err fault) old new handled told_is open_is =
    (told c answer, (goes_on answer, record { answer = answer; handled = handled; said_is = refl; greeted_is = refl; open_is = refl }))

-- the message was turned away, and nothing else changed
pub turned_away_said : {E : Type 0} (reply told : Reply) (node : Node) (was : Option ℕ) (result : Result Bool E) (old new : List Reply)
    → told ≡ reply → OnOk result (new ≡ old ++ told ∷ [])
    → IfOk result (λ is_open. is_open ≡ true)
    → HasSaid (λ is_open said. IsTurnedAway reply (point_at node was true) said (point_at node was is_open)) old result new
turned_away_said reply told node was (Ok is_open) old new same said_is is_open_is =
    (reply ∷ [], (record { said_is = refl; same = ap (point_at node was) is_open_is }, said_is ∙ ap (λ reply. old ++ reply ∷ []) same))
turned_away_said reply told node was (Err fault) old new same said_is is_open_is =
    (reply ∷ [], (true, record { said_is = refl; same = refl }))

-- what is done may be seen as something that follows from it
pub said_as : {E : Type 0} (does sees : Bool → List Reply → Type 0) (result : Result Bool E) (old new : List Reply)
    → ((is_open : Bool) (said : List Reply) → does is_open said → sees is_open said)
    → HasSaid does old result new → HasSaid sees old result new
said_as does sees (Ok is_open) old new see done = (done.0, (see is_open done.0 done.1.0, done.1.1))
said_as does sees (Err fault) old new see done = (done.0, (done.1.0, see done.1.0 done.0 done.1.1))
