-- No disk is touched.
use Rattle.std.proofs.Common.{◌≡◌, ℕ, inr, [], ◌∷◌, refl, sym, ap, ◌∙◌, subst}
use Rattle.std.specs.Global.{Vec}
use Rattle.linda_wire.specs.declared.reply.Reply.{Reply}
use Rattle.linda_store_step.specs.Dispatch.{on_close}
use Rattle.linda_store_step.specs.Store.{Store}
use Rattle.linda_store.specs.declared.node.NodeFault.TheVariants.{Down}
use Rattle.linda_store_step.specs.History.{hangs_up}
use Rattle.linda_server.specs.Node.{shown}
use Rattle.linda_server.specs.Pairs.{PairsSince}
use Rattle.linda_server.specs.Calls.{StandsFor}
use Rattle.linda_server.specs.Lives.{sent, closes, at_work, amid_rest}
use Rattle.linda_server.specs.Server.{both_of}
use Rattle.linda_server.proofs.LivesLaws.{goes_on_well, goes_on_still}
use Rattle.linda_server.proofs.CallLaws.{still_so, none_remains}
use Rattle.linda_server.proofs.durable.Durable.close.Goals as goal

pub returns-in_default-clause-any_moment : goal.returns-in_default-clause-any_moment
returns-in_default-clause-any_moment g c is_up are =
    let s = c.args.self.now in
    subst (λ d. PairsSince (both_of s.disks) (both_of d) (StandsFor s.store.state)) (sym c.begin.ensures.same.1)
    (still_so g.met.D.Disk.timed s.disks s.store.state are (s.kept is_up))

pub returns-clause-any_moment : goal.returns-clause-any_moment
returns-clause-any_moment g c is_up are =
    let s = c.args.self.now in
    subst (λ d. PairsSince (both_of s.disks) (both_of d) (StandsFor s.store.state)) (sym c.begin.ensures.same.1)
    (still_so g.met.D.Disk.timed s.disks s.store.state are (s.kept is_up))

pub returns-in_default-clause-lost : goal.returns-in_default-clause-lost
returns-in_default-clause-lost g c is_up is_down =
    let s = c.args.self.now in
    none_remains (shown s.before.value s.store s.down s.lost.items) (hangs_up c.args.client ∷ []) c.begin.new.self.lost.items c.begin.ensures.same.3

pub returns-in_default-clause-life : goal.returns-in_default-clause-life
returns-in_default-clause-life g c =
    let up = c.if-self.false in
    goes_on_still g.met.D.Disk.timed (λ (v : Vec (ℕ × Reply)). v.items) c.args.self.now _ Down
    (inr (up, c.begin.ensures.down, at_work (hangs_up c.args.client ∷ []) c.begin.ensures.before (returns-in_default-clause-lost g c up c.begin.ensures.down)))
    (λ _ orderly. ([], amid_rest (returns-in_default-clause-any_moment g c up)))

pub returns-clause-life : goal.returns-clause-life
returns-clause-life g c =
    let up = c.if-self.false in
    let same = c.begin.ensures.same.0 in
    let sends = c.in-Ok.sends.items in
    goes_on_well g.met.D.Disk.timed (λ (v : Vec (ℕ × Reply)). v.items) c.args.self.now _ [] c.in-Ok.sends up refl
    (closes c.args.client sends (subst (λ (s : Store). sent sends c.close.new.self.soft ≡ on_close s.state.bag c.args.client s.soft) same c.in-Ok.ensures.ok)
    (c.in-Ok.ensures.state ∙ ap (λ (s : Store). s.state) same))
    (λ _ orderly. ([], amid_rest (returns-clause-any_moment g c up)))
