-- Runs of messages, one after another.
use Rattle.std.proofs.Common.{List, [], ◌∷◌, ◌++◌, refl, ◌∙◌, sym, ap, append_assoc}
use Rattle.linda_wire.specs.declared.message.Message.{Message}
use Rattle.linda_wire.specs.declared.reply.Reply.{Reply}
use Rattle.linda_store.specs.Turn.{Point, Turns, Runs}
use Rattle.std.proofs.lemmas.List.{append-nil}

pub run_none : (from : Point) → Runs from [] [] from
run_none from = (refl, refl)

pub run_one : (from : Point) (m : Message) (said : List Reply) (to : Point) → Turns from m said to → Runs from (m ∷ []) said to
run_one from m said to turn =
    (to, (said, ([], (turn, (refl, refl), sym (append-nil said)))))

pub runs_then : (from : Point) (ms ns : List Message) (one two : List Reply) (mid to : Point)
    → Runs from ms one mid → Runs mid ns two to → Runs from (ms ++ ns) (one ++ two) to
runs_then from [] ns one two mid to first second =
    rw first.0 (rw first.1 at second)
runs_then from (m ∷ ms) ns one two mid to first second =
    let step = first.1.1.1 in (
      first.0,
      (
        first.1.0,
        (
          first.1.1.0 ++ two,
          (step.0, runs_then first.0 ms ns first.1.1.0 two mid to step.1 second, ap (λ said. said ++ two) step.2 ∙ append_assoc first.1.0 first.1.1.0 two),
        ),
      ),
    )
