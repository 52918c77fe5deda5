use Rattle.std.proofs.Common.{refl, sym}
use Rattle.linda_wire.specs.Refusal.{refused}
use Rattle.linda_wire.specs.declared.refusal.Refusal.TheVariants as refusals
use Rattle.linda_store.proofs.SayLaws.{turned_away_said, said_as}
use Rattle.linda_store.proofs.TurnLaws.{greeting_turns, first_turns, again_turns, asking_turns}
use Rattle.linda_store.proofs.turn.turn.Goals as goal

pub returns-in-Some-hello_of : goal.returns-in-Some-hello_of
returns-in-Some-hello_of g c =
    said_as _ _ _ _ _ (λ is_open said. greeting_turns _ _ _ _ said _ c.in-None.is (sym c.in-Some-hello_of.ensures)) c.greet.ensures

pub returns-in-None-hello_of : goal.returns-in-None-hello_of
returns-in-None-hello_of g c =
    said_as _ _ _ _ _ (λ is_open said. first_turns _ _ _ said _ c.in-None.is (sym c.in-None-hello_of.ensures))
    (turned_away_said (refused refusals.NoHello) _ _ _ _ _ _ refl c.turn_away.ensures.told c.turn_away.ensures.goes_on)

pub returns-in-Some-hello_of-2 : goal.returns-in-Some-hello_of-2
returns-in-Some-hello_of-2 g c =
    said_as _ _ _ _ _ (λ is_open said. again_turns _ _ _ _ _ said _ c.in-Some.is (sym c.in-Some-hello_of-2.ensures))
    (turned_away_said (refused refusals.Busy) _ _ _ _ _ _ refl c.turn_away-in-Some-hello_of-2.ensures.told c.turn_away-in-Some-hello_of-2.ensures.goes_on)

pub returns-in-None-hello_of-2 : goal.returns-in-None-hello_of-2
returns-in-None-hello_of-2 g c =
    said_as _ _ _ _ _ (λ is_open said. asking_turns _ _ _ _ _ said is_open c.in-Some.is (sym c.in-None-hello_of-2.ensures)) c.ask.ensures
