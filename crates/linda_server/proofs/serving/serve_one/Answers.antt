-- One message more than none.
use Rattle.std.proofs.Common.{[]}
use Rattle.linda_store_step.proofs.ServedLaws.{none_served, served_more}
use Rattle.linda_server.proofs.serving.serve_one.Goals as goal

pub returns-clause-ok : goal.returns-clause-ok
returns-clause-ok c =
    let st = c.args.store.now.state in
    let soft = c.args.store.now.soft in
    let none = c.new-served.result in
    let new = c.add_step.new.self in
    served_more st soft [] none c.add_step.new.served st soft c.args.client c.args.message.now new.state new.soft
    (none_served st soft none c.new-served.ensures.deeds c.new-served.ensures.sends c.new-served.ensures.counts) c.in_ok-add_step.ensures.ok
