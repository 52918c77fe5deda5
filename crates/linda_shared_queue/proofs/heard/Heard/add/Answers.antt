-- The account heard one message more.
use Rattle.std.proofs.Common.{◌++◌, ◌∷◌, [], None, sym, subst}
use Rattle.linda_shared_queue.specs.Heard.{HasHeard}
use Rattle.linda_shared_queue.proofs.HeardLaws.{heard_told, heard_fault}
use Rattle.linda_shared_queue.proofs.heard.Heard.add.Goals as goal

pub returns-in-Ok-clause-so : goal.returns-in-Ok-clause-so
returns-in-Ok-clause-so g c before ms h =
    let old = c.args.self.now in
    let new = c.tell.new.self in
    let m = c.args.message.now in
    let a = c.hear.new.account in
    let one = c.in-Ok.one in
    subst (λ ts. HasHeard before (ms ++ m ∷ []) a ts new.fault new.is_as_before) (sym c.tell.ensures.told)
    (subst (λ f. HasHeard before (ms ++ m ∷ []) a (old.told.items ++ one ∷ []) f new.is_as_before) (sym c.tell.ensures.fault)
    (heard_told before c.args.account.now a ms old.told.items old.fault old.is_as_before new.is_as_before
    m one c.requires.asked c.in-Ok.ensures.ok c.in-Ok.ensures.deed c.tell.ensures.as_before h))

pub returns-in-Err-clause-so : goal.returns-in-Err-clause-so
returns-in-Err-clause-so g c before ms h =
    let old = c.args.self.now in
    let new = c.fail.new.self in
    let m = c.args.message.now in
    let a = c.hear.new.account in
    let fault = c.in-Err.fault in
    subst (λ ts. HasHeard before (ms ++ m ∷ []) a ts new.fault new.is_as_before) (sym c.fail.ensures.told)
    (subst (λ f. HasHeard before (ms ++ m ∷ []) a (old.told.items ++ None ∷ []) f new.is_as_before) (sym c.fail.ensures.fault)
    (heard_fault before c.args.account.now a ms old.told.items old.fault fault old.is_as_before
    new.is_as_before m c.requires.asked c.in-Err.ensures.err c.fail.ensures.as_before h))
