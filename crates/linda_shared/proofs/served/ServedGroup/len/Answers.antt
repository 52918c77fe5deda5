-- There are as many answers as messages.
use Rattle.std.proofs.Common.{◌≡◌, length, sym, ap, ◌∙◌}
use Rattle.linda_shared.proofs.GroupLaws.{many}
use Rattle.linda_shared.proofs.served.ServedGroup.len.Goals as goal

pub returns : goal.returns
returns g c =
    let own = c.self.inside in
    let same : length own.answered.items ≡ length own.messages.items = sym own.answered.ok.0 ∙ (c.self.invariant.0 ∙ own.messages.ok.0) in
    c.len.ensures ∙ (own.messages.ok.0 ∙ (sym (many own.messages.items own.answered.items same) ∙ ap (λ v. length v.answers) c.self.view_is))
