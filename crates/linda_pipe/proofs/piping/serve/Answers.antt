use Rattle.std.proofs.Common.{arith, ◌≤◌, ◌+◌, ℕ, ◌*◌, Bool, Ok, subst}
use Rattle.std.proofs.lemmas.Result.{err_from_is_err_and}
use Rattle.linda_pipe.specs.declared.piping.TheConstants.{BUFFER}
use Rattle.linda_pipe.specs.Exchanges.{TurnsTo}
use Rattle.linda_pipe.proofs.EndLaws.{none_read, turns_spent}
use Rattle.linda_pipe.proofs.piping.serve.Goals as goal

more_lines : (turns old new most : ℕ) → old ≤ turns * most → new ≤ old + most → new ≤ (turns + 1) * most
more_lines turns old new most h k = omega arith

pub loop-turn-init : goal.loop-turn-init
loop-turn-init g c = record {
  count = omega (arith, c.requires.no_lines);
  piping = λ first u. none_read _ _ c.args.exchange.now c.requires.no_replies u;
}

pub returns-in_err-read_once : goal.returns-in_err-read_once
returns-in_err-read_once g c = λ first u.
    let p = err_from_is_err_and c.from_residual.result c.from_residual.ensures.1 in
    rw (p.1, p.2) (c.in_err-read_once.ensures.turns first _ _ _ (c.loop-turn.invariant.piping first u))

pub returns-then-not-branch : goal.returns-then-not-branch
returns-then-not-branch g c = λ first u.
    let h = c.in_ok-read_once.ensures.turns first _ _ _ (c.loop-turn.invariant.piping first u) in
    subst
    (λ (b : Bool). TurnsTo g.N.Node.shown first (c.loop-turn._turn + 1) (g.R.Read.remaining c.args.reader.now)
    (g.R.Read.remaining c.read_once.new.reader) (g.W.Write.contents c.args.writer.now)
    (g.W.Write.contents c.read_once.new.writer) c.read_once.new.exchange (Ok b))
    c.if-not-branch.true h

pub loop-turn-preserved : goal.loop-turn-preserved
loop-turn-preserved g c = record {
  count = more_lines c.loop-turn._turn _ _ (BUFFER + 1) c.loop-turn.invariant.count (omega (arith, c.in_ok-read_once.ensures.count));
  piping = λ first u.
      let h = c.in_ok-read_once.ensures.turns first _ _ _ (c.loop-turn.invariant.piping first u) in
      subst
      (λ (b : Bool). TurnsTo g.N.Node.shown first (c.loop-turn._turn + 1) (g.R.Read.remaining c.args.reader.now)
      (g.R.Read.remaining c.read_once.new.reader) (g.W.Write.contents c.args.writer.now)
      (g.W.Write.contents c.read_once.new.writer) c.read_once.new.exchange (Ok b))
      c.if-not-branch.false h;
}

pub returns : goal.returns
returns g c = λ first u. turns_spent _ _ _ _ c.loop-turn.exchange (omega (arith, c.loop-turn-test.false)) (c.loop-turn.invariant.piping first u)
