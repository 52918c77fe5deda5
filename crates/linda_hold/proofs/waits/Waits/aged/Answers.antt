use Rattle.std.proofs.Common.{◌≡◌, Some, Contains, sym, ap, ◌∙◌, subst}
use Rattle.std.specs.Option.{option_copied}
use Rattle.linda_hold.specs.Numbered.{wait_at}
use Rattle.linda_hold.proofs.LongLaws.{there}
use Rattle.linda_hold.proofs.waits.Waits.aged.Goals as goal

pub returns : goal.returns
returns c =
    let w = c.in-Some.field-0.now in
    let at : wait_at c.self.inside.by_arrival.entries c.args.age.number ≡ Some w = sym c.get.ensures.value ∙ ap option_copied c.in-Some.is in
    let wait : Contains c.args.self.now w = subst (λ l. Contains l w) c.self.view_is (there c.self.inside.by_arrival.entries c.args.age.number w at) in
    subst (λ t. Contains c.args.self.now (w.0, record { remove = w.1.remove; template = t })) (sym c.in_ok-template.ensures) wait
