use Rattle.linda_test_code_sessions.proofs.groups.a_group_is_one_record_and_each_is_answered_in_order.Given as goal

-- The ledger is the one that the blank opens.
abbrev pub ghosts-told_of_groups : goal.ghosts-told_of_groups
ghosts-told_of_groups g a = record { name = a.blank.name; parts = a.blank.parts }
