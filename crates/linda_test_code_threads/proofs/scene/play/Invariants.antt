use Rattle.linda_test_code_threads.proofs.scene.play.Given as goal

-- The ledger is the one that the blank opens.
abbrev pub ghosts-play_under : goal.ghosts-play_under
ghosts-play_under g a = record { name = a.blank.name; parts = a.blank.parts }
