use Rattle.std.proofs.Common.{ℕ, ◌+◌, List, [], ◌∷◌, ◌++◌, sym, ap, ◌∙◌, refl, Err, subst}
use Rattle.std.specs.Option.{option_map}
use Rattle.linda_pipe.specs.Lines.{ended}
use Rattle.linda_pipe.specs.Exchanges.{Continues, IsOver}
use Rattle.linda_pipe.specs.declared.fault.PipeFault.TheVariants as faults
use Rattle.linda_pipe.specs.declared.line.TheConstants.{LINE_FEED}
use Rattle.linda_pipe.proofs.StepLaws.{memory_ends_before, bad_ends, line_taken, continued_with}
use Rattle.linda_pipe.proofs.exchange.Exchange.take_line.Goals as goal

pub returns-in_default-clause-leads : goal.returns-in_default-clause-leads
returns-in_default-clause-leads g c = λ first text sent u.
    memory_ends_before text sent c.args.line.now (LINE_FEED ∷ []) c.args.self.now u

pub returns-in_default-decoded-clause-leads : goal.returns-in_default-decoded-clause-leads
returns-in_default-decoded-clause-leads g c = λ first text sent u.
    bad_ends text sent c.args.line.now c.args.self.now
    (sym c.in-Ok.ensures.piece ∙ ap (option_map (λ p. p.items)) c.in_default-decoded.is) u

pub returns-in_default-take_piece-clause-leads : goal.returns-in_default-take_piece-clause-leads
returns-in_default-take_piece-clause-leads g c = λ first text sent u.
    subst (λ (replies : List ℕ). IsOver first (ended text) (sent ++ replies) (Err (faults.Memory (c.args.self.now.lines + 1))))
    (sym c.in_default-take_piece.ensures.err)
    (memory_ends_before text sent c.args.line.now (LINE_FEED ∷ []) c.args.self.now u)

pub returns-clause-leads : goal.returns-clause-leads
returns-clause-leads g c = λ first text sent u.
    line_taken text sent c.args.line.now c.in-Some.piece.items c.args.self.now _ c.in-Ok-take_piece.goes_on
    (sym c.in-Ok.ensures.piece ∙ ap (option_map (λ p. p.items)) c.in-Some.is)
    refl (c.take_piece.ensures.line ∙ c.requires.none_kept)
    (continued_with _ _ _ c.take_piece.new.self (c.args.self.now.lines + 1)
    (subst (λ (piece : List ℕ). Continues g.N.Node.shown piece c.in-Ok-take_piece.goes_on c.args.self.now c.take_piece.new.self) c.deref.ensures.value
    c.in-Ok-take_piece.ensures.ok)) u
