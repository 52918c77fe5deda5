-- The server that is looked at is in order, as each is.
use Rattle.linda_test_server.proofs.host.SharedMemDiskHostSeatOutlet.into_kept.Goals as goal

pub invariant_of-server : goal.invariant_of-server
invariant_of-server g c =
    let s = c.into_server-server.result in
    record {
      there = s.there;
      bounded = s.bounded;
      live = s.live;
      ready = s.ready;
      limited = s.limited;
      none_lost = s.none_lost;
      kept = s.kept;
      begun = s.begun;
      copied = s.copied;
      fallen = s.fallen;
    }
