use Rattle.linda_world_laws.proofs.HonestLaws.{reached_honest}
use Rattle.linda_world_laws.proofs.laws.servers_are_few.Goals as goal

pub returns : goal.returns
returns c = record {
  some = λ w reached. (reached_honest c.laws_below.ensures.sound c.laws_below.ensures.deeds c.laws_below.ensures.calls w reached).some;
  few = λ w reached. (reached_honest c.laws_below.ensures.sound c.laws_below.ensures.deeds c.laws_below.ensures.calls w reached).few;
}
