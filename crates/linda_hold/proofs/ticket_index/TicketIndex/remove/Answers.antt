-- Only the request loses its number; a client is removed with its last ticket.
use Rattle.std.proofs.Common.{cond, None, Some, IsSome, btree_map_len, nat_cmp, true≢false, refl, sym, ap, subst, ◌∙◌}
use Rattle.std.specs.Ordering.{is_eq}
use Rattle.std.specs.BTreeMap as tree
use Rattle.std.proofs.lemmas.Option.{none-some, same_Some}
use Rattle.linda_hold.proofs.TicketLaws.{changed_twice, none_in_empty, sets_request, used_still}
use Rattle.linda_hold.proofs.ticket_index.TicketIndex.remove.Goals as goal

pub returns-then-is_empty-clause-gone : goal.returns-then-is_empty-clause-gone
returns-then-is_empty-clause-gone c =
    let updates = (c.get_mut.follows.holds c.remove.new.self).3 (subst (λ s. IsSome s) c.in-Some.ensures.value refl) in
    let old = c.args.self.now.by_client in
    let client = c.args.request.client in
    sets_request old c.remove-then-is_empty.new.self c.args.request c.in-Some.tickets.now None
    (λ q. c.remove-then-is_empty.ensures.updates.0 q ∙ ap (cond (is_eq (nat_cmp client q)) None) (updates.0 q)
    ∙ changed_twice (is_eq (nat_cmp client q)) (Some c.remove.new.self) None (tree.get nat_cmp old q))
    None c.in-Some.ensures.value
    (λ t. sym (none_in_empty c.remove.new.self (c.is_empty.ensures.0 c.if-is_empty.true) t) ∙ c.remove.ensures.updates.0 t)

pub returns-then-is_empty-clause-used : goal.returns-then-is_empty-clause-used
returns-then-is_empty-clause-used c =
    let updates = (c.get_mut.follows.holds c.remove.new.self).3 (subst (λ s. IsSome s) c.in-Some.ensures.value refl) in
    let old = c.args.self.now.by_client in
    let client = c.args.request.client in
    used_still old c.remove-then-is_empty.new.self c.args.request c.in-Some.tickets.now None
    (λ q. c.remove-then-is_empty.ensures.updates.0 q ∙ ap (cond (is_eq (nat_cmp client q)) None) (updates.0 q)
    ∙ changed_twice (is_eq (nat_cmp client q)) (Some c.remove.new.self) None (tree.get nat_cmp old q))
    (λ tickets is. absurd (none-some tickets is))

pub returns-else-is_empty-clause-gone : goal.returns-else-is_empty-clause-gone
returns-else-is_empty-clause-gone c =
    let updates = (c.get_mut.follows.holds c.remove.new.self).3 (subst (λ s. IsSome s) c.in-Some.ensures.value refl) in
    sets_request c.args.self.now.by_client (c.get_mut.follows.lender c.remove.new.self) c.args.request c.in-Some.tickets.now (Some c.remove.new.self) updates.0
    None c.in-Some.ensures.value c.remove.ensures.updates.0

pub returns-else-is_empty-clause-used : goal.returns-else-is_empty-clause-used
returns-else-is_empty-clause-used c =
    let updates = (c.get_mut.follows.holds c.remove.new.self).3 (subst (λ s. IsSome s) c.in-Some.ensures.value refl) in
    used_still c.args.self.now.by_client (c.get_mut.follows.lender c.remove.new.self) c.args.request c.in-Some.tickets.now (Some c.remove.new.self) updates.0
    (λ tickets is empty. true≢false (sym (c.is_empty.ensures.1 (ap btree_map_len (same_Some c.remove.new.self tickets is) ∙ empty)) ∙ c.if-is_empty.false))
