use Rattle.std.proofs.Common.{◌≡◌, ◌++◌, ◌∷◌, [], map, sym, ap, subst, ◌∙◌, append_assoc}
use Rattle.linda_hold.specs.Waits.{readers}
use Rattle.linda_store_step.specs.Soft.{Soft, AreApart}
use Rattle.linda_store_step.specs.Dispatch.{dispatch}
use Rattle.linda_store_step.proofs.DispatchLaws.{read_for, offer_for, told_reads, told_offer, longest_holds_nothing}
use Rattle.linda_store_step.proofs.soft.Soft.dispatch.Goals as goal

-- Who waits holds nothing, so the tuple may be held for it.
pub insert-requires : goal.insert-requires
insert-requires c =
    let soft : Soft = record { holds = c.self.inside.holds; waits = c.self.inside.waits } in
    longest_holds_nothing c.args.id c.args.tuple.now soft c.in-Some.request
    (subst AreApart (sym c.self.view_is) c.requires)
    (sym c.in_ok-readers.ensures.longest ∙ c.in-Some.is)

-- The answers to the reads, then the offer.
pub returns-in_ok-insert-clause-sends : goal.returns-in_ok-insert-clause-sends
returns-in_ok-insert-clause-sends c =
    let soft : Soft = record { holds = c.self.inside.holds; waits = c.self.inside.waits } in
    let told = told_offer c.args.id c.args.tuple.now soft c.in-Some.request (sym c.in_ok-readers.ensures.longest ∙ c.in-Some.is) in
    subst
    (λ s. c.push.new.self.items ≡ c.args.sends.now.items ++ (dispatch c.args.id c.args.tuple.now s).sends)
    c.self.view_is
    (c.in_ok-push.ensures.items
    ∙ ap (λ row. c.answer_reads.new.sends.items ++ offer_for c.args.id row c.in-Some.request ∷ []) c.in_ok-tuple.ensures
    ∙ ap (λ sends. sends ++ offer_for c.args.id c.args.tuple.now c.in-Some.request ∷ [])
    (c.in_ok-answer_reads.ensures
    ∙ ap (λ requests. c.args.sends.now.items ++ map (read_for c.args.id c.args.tuple.now) requests) c.in_ok-readers.ensures.readers)
    ∙ append_assoc c.args.sends.now.items (map (read_for c.args.id c.args.tuple.now) (map (λ w. w.0) (readers c.args.tuple.now soft.waits)))
    (offer_for c.args.id c.args.tuple.now c.in-Some.request ∷ [])
    ∙ ap (λ t. c.args.sends.now.items ++ t.sends) (sym told))

-- Only the answers to the reads.
pub returns-in_default-clause-sends : goal.returns-in_default-clause-sends
returns-in_default-clause-sends c =
    let soft : Soft = record { holds = c.self.inside.holds; waits = c.self.inside.waits } in
    let told = told_reads c.args.id c.args.tuple.now soft (sym c.in_ok-readers.ensures.longest ∙ c.in_default.is) in
    subst
    (λ s. c.answer_reads.new.sends.items ≡ c.args.sends.now.items ++ (dispatch c.args.id c.args.tuple.now s).sends)
    c.self.view_is
    (c.in_ok-answer_reads.ensures
    ∙ ap (λ requests. c.args.sends.now.items ++ map (read_for c.args.id c.args.tuple.now) requests) c.in_ok-readers.ensures.readers
    ∙ ap (λ t. c.args.sends.now.items ++ t.sends) (sym told))
