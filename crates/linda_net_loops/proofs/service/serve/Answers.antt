-- The room of the group that was served is given back.
use Rattle.std.proofs.Common.{ℕ, [], ap, ◌∙◌}
use Rattle.linda_shared.specs.Group.{MessageGroup, group_of}
use Rattle.linda_net_loops.proofs.service.serve.Goals as goal

pub returns : goal.returns
returns g c =
    c.hear_all.ensures
    ∙ ap (λ (room : ℕ). group_of {A = ℕ} room [] []) (c.serve_group-served.ensures.room
    ∙ ap (λ (group : MessageGroup ℕ). group.room) c.replace-asked.ensures.value)
