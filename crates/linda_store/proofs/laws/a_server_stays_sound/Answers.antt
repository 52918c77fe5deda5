use Rattle.linda_store.proofs.ServeLaws.{works_sound, works_backed, closes_sound, closes_backed, snaps_sound, stops_sound}
use Rattle.linda_store.proofs.laws.a_server_stays_sound.Goals as goal

pub returns : goal.returns
returns c = record {
  works = λ ds es old new xs answer sound. works_sound ds old sound xs answer es new;
  works_backed = λ ds es old new xs sends sound. works_backed ds old sound xs sends es new;
  closes = λ ds old new c answer sound. closes_sound ds old sound c answer new;
  closes_backed = λ ds old new c sends sound. closes_backed ds old sound c sends new;
  snaps = λ ds old new answer sound. snaps_sound ds old sound answer new;
  stops = λ ds old new xs answer sound. stops_sound ds old sound xs answer new;
}
