-- What is put after what waited is the answer to what was sent.
use Rattle.std.proofs.Common.{◌≡◌, ◌++◌, refl, subst}
use Rattle.std.specs.String.{string_bytes}
use Rattle.linda_net_http.specs.Response.{IsReply}
use Rattle.linda_net_http.proofs.ResponseLaws.{served}
use Rattle.linda_net_http.proofs.http_exchange.HttpExchange.answer.Goals as goal

pub returns-in_ok-put : goal.returns-in_ok-put
returns-in_ok-put g c =
    let tells = g.P.PageSource.tells c.args.pages.now in
    let text = string_bytes c.write_response.new.text in
    let was = c.args.self.now in
    let read = subst (λ s. IsReply tells s c.in_ok-write_response.field-0 text) c.deref.ensures.value c.in_ok-write_response.ensures in
    let whole = subst (λ b. IsReply tells was.head.items b text) c.if-branch.true read in
    let put = subst (λ t. c.put.new.self ≡ was.out ++ t) c.as_bytes.ensures.value c.in_ok-put.ensures.ok in
    (refl, served tells was.is_answered was.head.items was.out c.put.new.self text c.if-self.false whole put)
