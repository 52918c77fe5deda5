use Rattle.std.proofs.Common.{◌≡◌, ap, subst, ◌∙◌}
use Rattle.std.specs.FinMap.{remove}
use Rattle.linda_shared_accounts.specs.Ring.{KeepsAbove, IsAbove}
use Rattle.linda_shared_accounts.specs.Accounts.{Accounts, ComesBack}
use Rattle.linda_shared_held.specs.Recall.{floor_of, floors_of}
use Rattle.linda_shared_held.proofs.AccountsLaws.{either_way}
use Rattle.linda_shared_held.proofs.ParkedLaws.{parks, loses}
use Rattle.linda_shared_held.proofs.held.recall.put_back.Goals as goal

pub returns-clause-back : goal.returns-clause-back
returns-clause-back g c =
    let a = c.args.account in
    let left = c.forget.new.self in
    let floor : c.take_floor.result ≡ floor_of c.args.recall.now a.client = c.take_floor.ensures.floor
    ∙ ap (floor_of c.args.recall.now) c.client-client.ensures.is in
    record {
      parked = parks (floor_of c.args.recall.now a.client) c.args.accounts.now c.park.new.self a left c.forget.ensures.account c.forget.ensures.cut
          (subst (λ n. KeepsAbove n a.ring left.ring) floor c.forget.ensures.kept)
          (subst (λ n. IsAbove n left.ring) floor c.forget.ensures.gone)
          c.park.ensures.parked;
      lost = loses c.args.accounts.now c.park.new.self a left c.forget.ensures.account c.park.ensures.lost;
    }

pub returns-clause-taken : goal.returns-clause-taken
returns-clause-taken g c =
    c.note.ensures ∙ c.take_floor.ensures.taken ∙ ap (remove (floors_of c.args.recall.now)) c.client-client.ensures.is

pub returns-clause-total : goal.returns-clause-total
returns-clause-total g c =
    either_way (ComesBack c.args.accounts.now.places c.args.account) c.park.new.self.total c.args.accounts.now.total
    (λ comes. ap (λ (t : Accounts). t.total)
    (parks c.take_floor.result c.args.accounts.now c.park.new.self c.args.account c.forget.new.self c.forget.ensures.account
    c.forget.ensures.cut c.forget.ensures.kept c.forget.ensures.gone c.park.ensures.parked comes).is)
    (λ out. ap (λ (t : Accounts). t.total)
    (loses c.args.accounts.now c.park.new.self c.args.account c.forget.new.self c.forget.ensures.account c.park.ensures.lost out))
