use Rattle.linda_test_code_threads.proofs.sockets.served.Given as goal

-- The ledger is the one that the blank opens.
abbrev pub ghosts-served_under : goal.ghosts-served_under
ghosts-served_under g a = record { name = a.blank.name; parts = a.blank.parts }
