use Rattle.std.proofs.Common.{refl, sym, ap, ◌∙◌, ◌==◌, subst, false, ◌≡◌}
use Rattle.std.specs.List.{enumerate_from, list_any}
use Rattle.linda_wire.specs.declared.limits.TheConstants.{NUMBER_LIMIT}
use Rattle.linda_client.specs.declared.task.Task.TheVariants.{Leaving}
use Rattle.linda_client.specs.Client.{Client}
use Rattle.linda_client.specs.View.{client_of}
use Rattle.linda_client.proofs.RangeLaws.{left_so}
use Rattle.linda_client.proofs.client.Client.depart.Goals as goal

pub invariant_of-self : goal.invariant_of-self
invariant_of-self c =
    left_so (client_of c.self.inside) _ c.self.invariant
    (subst (λ (d : Client). list_any (λ n. n == NUMBER_LIMIT) d.next ≡ false) (sym c.self.view_is) c.requires.numbers) c.use_each.ensures refl refl
    (ap Leaving (c.requires.leaves ∙ ap (λ (d : Client). enumerate_from 0 d.next) (sym c.self.view_is)))
