-- The answers come the other way round than the messages went, and the messages are turned around too.
use Rattle.std.proofs.Common.{◌≡◌, ◌+◌, ℕ, arith, List, ◌++◌, length, map, reverse, not, sym, ap, subst, ◌∙◌, vec_len}
use Rattle.std.proofs.lemmas.List.{reverse-reverse}
use Rattle.linda_wire.specs.declared.message.Message.{Message}
use Rattle.linda_shared_accounts.specs.declared.effect.Effect.{Effect}
use Rattle.linda_shared_accounts.specs.declared.receipt.Receipt.{Receipt}
use Rattle.linda_shared.specs.Group.{AreTold}
use Rattle.linda_shared.proofs.GroupLaws.{served_each, served_read}
use Rattle.linda_shared.proofs.DueLaws.{told_of_group, own_of}
use Rattle.linda_shared.proofs.group.MessageGroup.serve.Goals as goal

pub returns-clause-each : goal.returns-clause-each
returns-clause-each g c =
    let own = c.self.inside in
    let new = c.handle_all.new.answered in
    let none : vec_len own.answered ≡ 0 = own.answered.ok.0 ∙ ap length c.self.invariant.1 in
    let more : vec_len new ≡ vec_len own.answered + vec_len own.asked = c.handle_all.ensures.answered.0 in
    let each : vec_len own.asked ≡ vec_len own.messages = c.self.invariant.0 in
    let all : vec_len new ≡ vec_len own.messages = omega (arith, none, more, each) in
    let same : length new.items ≡ length own.messages.items = sym new.ok.0 ∙ (all ∙ own.messages.ok.0) in
    served_each own.messages.items c.reverse.new.self.items new.items c.reverse.ensures.items same ∙ ap (λ v. v.messages) c.self.view_is

pub returns-clause-addresses : goal.returns-clause-addresses
returns-clause-addresses g c =
    let own = c.self.inside in
    let new = c.handle_all.new.answered in
    let none : vec_len own.answered ≡ 0 = own.answered.ok.0 ∙ ap length c.self.invariant.1 in
    let more : vec_len new ≡ vec_len own.answered + vec_len own.asked = c.handle_all.ensures.answered.0 in
    let each : vec_len own.asked ≡ vec_len own.messages = c.self.invariant.0 in
    let all : vec_len new ≡ vec_len own.messages = omega (arith, none, more, each) in
    let same : length new.items ≡ length own.messages.items = sym new.ok.0 ∙ (all ∙ own.messages.ok.0) in
    let asked = map (λ a. a.address) own.asked.items in
    let back = c.handle_all.ensures.addresses ∙ ap (λ l. map (λ a. a.address) l ++ reverse asked) c.self.invariant.1 in
    served_read (λ a. a.address) own.messages.items c.reverse.new.self.items new.items c.reverse.ensures.items same
    ∙ (ap reverse back ∙ (reverse-reverse asked ∙ ap (λ v. v.addresses) c.self.view_is))

pub returns-clause-told : goal.returns-clause-told
returns-clause-told g c =
    let own = c.self.inside in
    let new = c.handle_all.new.answered in
    let none : vec_len own.answered ≡ 0 = own.answered.ok.0 ∙ ap length c.self.invariant.1 in
    let more : vec_len new ≡ vec_len own.answered + vec_len own.asked = c.handle_all.ensures.answered.0 in
    let each : vec_len own.asked ≡ vec_len own.messages = c.self.invariant.0 in
    let all : vec_len new ≡ vec_len own.messages = omega (arith, none, more, each) in
    let same : length new.items ≡ length own.messages.items = sym new.ok.0 ∙ (all ∙ own.messages.ok.0) in
    let read = served_read (λ a. a.told) own.messages.items c.reverse.new.self.items new.items c.reverse.ensures.items same in
    let ms = c.deref-2.ensures.value in
    let down = c.handle_all.new.self.server.down in
    subst (λ (t : List (Effect Receipt)). AreTold g.row.D.Denot g.D.Disk (not down) c.args.self.messages t) (sym read)
    (subst (λ (l : List (ℕ × Message)). AreTold g.row.D.Denot g.D.Disk (not down) l (reverse (map (λ a. a.told) new.items)))
    (ms ∙ ap (λ v. v.messages) c.self.view_is)
    (told_of_group _ (vec_len own.asked) (map (λ a. a.told) own.answered.items) (map (λ a. a.told) new.items) _ _ _ _ _ _ _ c.handle_all.result
    (each ∙ (own.messages.ok.0 ∙ ap length (sym ms))) (ap (map (λ a. a.told)) c.self.invariant.1) c.handle_all.ensures.done
    c.handle_all.ensures.failed c.handle_all.ensures.fails.fault down c.handle_all.ensures.fails.down))

pub returns-clause-own : goal.returns-clause-own
returns-clause-own g c = own_of (λ a. a.told) _ c.args.self.messages (not c.handle_all.new.self.server.down) (returns-clause-each g c) (returns-clause-told g c)
