use Rattle.std.proofs.Common.{◌≡◌, ◌++◌, ℕ, List, false, sym, ap, ◌∙◌}
use Rattle.std.specs.List.{flat_map}
use Rattle.linda_wire.specs.declared.reply.Reply.{Reply}
use Rattle.linda_pipe.specs.Piping.{reply_line}
use Rattle.linda_pipe.specs.Exchanges.{GoesOn}
use Rattle.linda_pipe.proofs.StepLaws.{open_goes, malformed_ends, piece_taken}
use Rattle.linda_pipe.proofs.exchange.Exchange.take_piece.Goals as goal
use Rattle.linda_pipe.proofs.exchange.Exchange.take_piece.Goals.{in-Open, in-Malformed}

pub returns-clause-ok : goal.returns-clause-ok
returns-clause-ok g c =
    let goes : c.take.new.self.is_spent ≡ false → GoesOn c.match-stage.goes_on c.take.new.self =
    λ not_spent. elim c.match-stage.branch [
      | in-Open w ↦ open_goes c.match-stage.goes_on c.take.new.self w.goes_on-is (sym c.stage.ensures ∙ w.in-Open.is) not_spent
      | in-Malformed w ↦ malformed_ends c.match-stage.goes_on c.take.new.self _ w.goes_on-is (sym c.stage.ensures ∙ w.in-Malformed.is)
    ] in
    piece_taken c.args.piece.now c.match-stage.goes_on c.args.self.now _ c.in_ok-taken.taken c.in_ok-taken.ensures.«open»
    (◌∙◌ {A = List ℕ} c.in_ok-push_reply_lines.ensures.ok
    (ap (λ (rs : List Reply). c.args.self.now.replies.items ++ flat_map reply_line rs) c.deref.ensures.value)) goes
