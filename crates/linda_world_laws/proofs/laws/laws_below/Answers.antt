use Rattle.linda_world_laws.proofs.laws.laws_below.Goals as goal

pub returns : goal.returns
returns c = record {
  sound = record {
    works = c.a_server_stays_sound.ensures.works;
    works_backed = c.a_server_stays_sound.ensures.works_backed;
    closes = c.a_server_stays_sound.ensures.closes;
    closes_backed = c.a_server_stays_sound.ensures.closes_backed;
    snaps = c.a_server_stays_sound.ensures.snaps;
    stops = c.a_server_stays_sound.ensures.stops;
  };
  deeds = record {
    taken_once = c.no_tuple_is_taken_twice.ensures;
    handed = c.takes_hand_over_what_was_put.ensures;
    one_take = c.two_takes_of_a_tuple_are_one.ensures;
    numbered = c.replies_report_what_was_done.ensures.once;
    told_take = c.replies_report_what_was_done.ensures.taken;
    told_tuple = c.replies_report_what_was_done.ensures.tuple;
    told_gone = c.replies_report_what_was_done.ensures.gone;
  };
  steps = record {
    step_spreads = c.steps_offer_only_what_is_sought.ensures;
    close_spreads = c.closings_offer_only_what_is_sought.ensures;
    step_deed = c.steps_do_as_they_are_asked.ensures;
  };
  calls = record {
    new = c.calls_keep_clients.ensures.new;
    kept = c.calls_keep_clients.ensures.kept;
    rises = c.numbers_go_on.ensures.rises;
    numbers = c.numbers_go_on.ensures.numbers;
    packets = c.packets_are_sound.ensures;
    goes_on = c.synchronizations_go_on.ensures;
    taken = c.only_a_taken_takes.ensures;
    treated = c.offers_are_treated.ensures;
    in_hand = c.offers_in_hand_are_kept.ensures;
  };
}
