use Rattle.std.proofs.Common.{◌++◌, codes}
use Rattle.std.specs.String.{string_bytes}
use Rattle.linda_net_http.specs.Response.{fields_text, length_text}
use Rattle.linda_net_http.proofs.ResponseLaws.{then_written}
use Rattle.linda_net_http.proofs.response.push_fields.Goals as goal

pub returns : goal.returns
unfolding fields_text
returns c =
    then_written c.push_length.result (string_bytes c.args.out.now) (string_bytes c.write.new.self) (string_bytes c.push_length.new.out)
    (codes "\r\nContent-Type: " ++ c.args.kind.now) (length_text c.args.length)
    c.in_ok-write.ensures.bytes c.push_length.ensures
