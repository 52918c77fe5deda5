use Rattle.linda_test_code_sessions.proofs.life.each_reply_of_a_life_is_as_the_model_says.Given as goal

-- The ledger is the one that the blank opens.
abbrev pub ghosts-lived : goal.ghosts-lived
ghosts-lived g a = record { name = a.blank.name; parts = a.blank.parts }
