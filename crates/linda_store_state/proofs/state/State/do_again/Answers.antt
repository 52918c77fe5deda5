-- A Pass is done no matter what its id is.
use Rattle.std.proofs.Common.{[], ◌∷◌, sym, subst}
use Rattle.linda_store_state.specs.After.{IsAfter}
use Rattle.linda_store_state.proofs.DoneLaws.{on_ok}
use Rattle.linda_store_state.proofs.state.State.do_again.Goals as goal

pub returns-in-Pass-clause-after : goal.returns-in-Pass-clause-after
returns-in-Pass-clause-after g c =
    on_ok _ _ c.pass.result (λ after. subst (λ d. IsAfter c.args.self.now (d ∷ []) c.pass.new.self)
    (sym c.in-Pass.is) (after c.in-Pass.id)) c.pass.ensures.after
