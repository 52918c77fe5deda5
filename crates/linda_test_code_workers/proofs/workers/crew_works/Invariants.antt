use Rattle.linda_test_code_workers.proofs.workers.crew_works.Given as goal

-- The ledger is the one that the blank opens.
abbrev pub ghosts-play_crew : goal.ghosts-play_crew
ghosts-play_crew g a = record { name = a.blank.name; parts = a.blank.parts }
