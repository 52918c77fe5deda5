use Rattle.linda_test_simulator.proofs.servers.lives.play.Given as goal

-- The ledger is the one that the blank opens.
abbrev pub ghosts-live : goal.ghosts-live
ghosts-live g a = record { name = a.blank.name; parts = a.blank.parts }
