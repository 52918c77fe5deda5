use Rattle.linda_test_code_sessions.proofs.groups.nothing_is_posted_of_a_group_whose_record_stops.Given as goal

-- The ledger is the one that the blank opens.
abbrev pub ghosts-told_of_a_stop : goal.ghosts-told_of_a_stop
ghosts-told_of_a_stop g a = record { name = a.blank.name; parts = a.blank.parts }
