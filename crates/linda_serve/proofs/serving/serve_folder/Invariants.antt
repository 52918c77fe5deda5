use Rattle.linda_serve.proofs.serving.serve_folder.Given as goal

-- the ledger is that of the blank
abbrev pub ghosts-tell_and_serve : goal.ghosts-tell_and_serve
ghosts-tell_and_serve g a = record { name = a.blank.name; parts = a.blank.parts }
