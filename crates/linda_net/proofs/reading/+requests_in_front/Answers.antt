use Rattle.linda_net.proofs.FrontLaws.{front_more}
use Rattle.linda_net.proofs.reading.+requests_in_front.Goals as goal

pub returns-in-len1-up-clause-requests : goal.returns-in-len1-up-clause-requests
returns-in-len1-up-clause-requests t c =
    front_more c.args.messages.now c.first-item.result c.requests_in_front.result c.in-len1-up.len_at_least c.first-item.is
    (c.is_request.ensures c.if-is_request.true) c.requests_in_front.ensures.requests
