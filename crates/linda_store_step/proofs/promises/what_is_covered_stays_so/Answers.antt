use Rattle.linda_store_step.proofs.CoveredLaws.{all_covered}
use Rattle.linda_store_step.proofs.promises.what_is_covered_stays_so.Goals as goal

pub returns : goal.returns
returns c = record {
  stays = λ st soft xs all send is happens. (all_covered xs st soft all is happens).0 send;
  sent = λ st soft xs all is happens. (all_covered xs st soft all is happens).1;
}
