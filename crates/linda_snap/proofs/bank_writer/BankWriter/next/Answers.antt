use Rattle.std.proofs.Common.{◌++◌, subst}
use Rattle.std.specs.Prelude.{IfSome, IfNone}
use Rattle.linda_snap.specs.BankWriter.{Follows, IsBehindTuples}
use Rattle.linda_snap.proofs.bank_writer.BankWriter.next.Goals as goal

pub returns-in-Some-clause-next : goal.returns-in-Some-clause-next
returns-in-Some-clause-next g c front follows =
    subst (λ o. IfSome o (λ v. Follows c.next_tuples.new.self (front ++ v.items) c.args.state.now)) c.in-Some.is (c.in_ok-bytes.ensures.some front follows)

pub returns-in-Some-2-clause-next : goal.returns-in-Some-2-clause-next
returns-in-Some-2-clause-next g c front follows =
    let st = c.args.state.now in
    let behind = subst (λ o. IfNone o (IsBehindTuples c.next_tuples.new.self front st)) c.in-None.is (c.in_ok-bytes.ensures.none front follows) in
    subst (λ o. IfSome o (λ v. Follows c.begin_clients.new.self (front ++ v.items) st)) c.in-Some-2.is (c.in_ok-bytes-in-None.ensures.some front st behind)

pub returns-in-Some-3-clause-next : goal.returns-in-Some-3-clause-next
returns-in-Some-3-clause-next g c front follows =
    let st = c.args.state.now in
    let behind = subst (λ o. IfNone o (IsBehindTuples c.next_tuples.new.self front st)) c.in-None.is (c.in_ok-bytes.ensures.none front follows) in
    let begun = subst (λ o. IfNone o (Follows c.begin_clients.new.self front st)) c.in-None-2.is (c.in_ok-bytes-in-None.ensures.none front st behind) in
    subst (λ o. IfSome o (λ v. Follows c.next_clients.new.self (front ++ v.items) st)) c.in-Some-3.is (c.in_ok-bytes-in-None-2.ensures.some front st begun)
