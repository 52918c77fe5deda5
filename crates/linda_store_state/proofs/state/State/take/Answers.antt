-- The changes of the maps are those of a Take of the tuple that was found.
use Rattle.std.proofs.Common.{Some, refl, sym, ap, option_copied, ◌∙◌}
use Rattle.std.specs.FinMap as maps
use Rattle.linda_store_state.proofs.DoneLaws.{take_at, take_found}
use Rattle.linda_store_state.proofs.state.State.take.Goals as goal

pub returns-in_ok-keep-in-Some-clause-after : goal.returns-in_ok-keep-in-Some-clause-after
returns-in_ok-keep-in-Some-clause-after g c =
    let there = sym c.get.ensures ∙ ap option_copied c.in-Some.is in
    let copied = there ∙ ap Some (sym c.in_ok-copy-in-Some.ensures) in
    take_found c.args.self.now _ c.args.client c.args.n c.args.id _ c.remove.result (c.remove.ensures.value ∙ copied)
    (take_at _ c.args.self.now _ c.args.client c.args.n c.args.id _ c.self.view_is c.requires
    (ap (λ s. maps.get s.bag c.args.id) (sym c.self.view_is) ∙ copied) c.remove.ensures.removed c.in_ok-keep-in-Some.ensures.ok refl)
