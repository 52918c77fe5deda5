use Rattle.linda_test_code_workers.proofs.workers.crew_is_cut.Given as goal

-- The ledger is the one that the blank opens.
abbrev pub ghosts-play_cut : goal.ghosts-play_cut
ghosts-play_cut g a = record { name = a.blank.name; parts = a.blank.parts }
