use Rattle.linda_server.proofs.LivesLaws.{keeps, are_ready, frees}
use Rattle.linda_server.proofs.laws.servers_keep_their_word.Goals as goal

pub returns : goal.returns
returns g c = record {
  word = keeps g.met.D.Disk.timed;
  ready = are_ready g.met.D.Disk.timed;
  freed = frees g.met.D.Disk.timed;
}
