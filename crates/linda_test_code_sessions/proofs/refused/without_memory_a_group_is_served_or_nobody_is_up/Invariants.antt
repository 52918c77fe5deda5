use Rattle.linda_test_code_sessions.proofs.refused.without_memory_a_group_is_served_or_nobody_is_up.Given as goal

-- The ledger is the one that the blank opens.
abbrev pub ghosts-ends_well : goal.ghosts-ends_well
ghosts-ends_well g a = record { name = a.blank.name; parts = a.blank.parts }
