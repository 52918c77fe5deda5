use Rattle.std.proofs.Common.{rules, arith}
use Rattle.linda_gate_pass.proofs.head.read_head.Goals as goal

-- The parts of a whole head that names the numbers of a client.
pub returns-in-Some-numbers_of : goal.returns-in-Some-numbers_of
returns-in-Some-numbers_of c = record {
  client = search rules;
  is_len = c.head_len-len.ensures;
  whole = omega (arith, c.if-bytes-len.false);
  addresses = c.in-Some.addresses;
  family = search rules;
  name = c.in-Some-certificate.name.now;
  shown = search rules;
  names = c.in-Some-numbers_of.ensures;
}
