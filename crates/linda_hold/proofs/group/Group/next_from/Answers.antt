use Rattle.std.proofs.Common.{◌||◌, Some, is_some, sym, ap, ◌∙◌}
use Rattle.std.specs.FinMap.{contains_key}
use Rattle.linda_bag.specs.Ids.{has_id}
use Rattle.linda_hold.specs.Group.{keyed_at, is_reached}
use Rattle.linda_hold.proofs.NextLaws.{next_as}
use Rattle.linda_hold.proofs.group.Group.next_from.Goals as goal

pub returns-in-Some-get : goal.returns-in-Some-get
returns-in-Some-get c = rw c.in-Some.is (λ asked known.
    let ids = c.in-Some-get.ids.now in
    let unkeyed = c.args.self.now.unkeyed in
    next_as (λ q. has_id ids q || contains_key unkeyed q) (λ q. is_reached (Some c.in-Some.field.now) (asked q)) _ _
    (λ q. sym (ap (λ b. b || contains_key unkeyed q) ((c.in-Some-get.ensures asked known.0).0 q)
    ∙ ap (λ b. is_some (keyed_at (Some c.in-Some.field.now) (asked q)) || b) (known.1 q)))
    (c.sooner.ensures (has_id ids) (contains_key unkeyed) _ c.next_of.ensures c.next_in-unkeyed.ensures))
