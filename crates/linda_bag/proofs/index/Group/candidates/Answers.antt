use Rattle.linda_bag.proofs.index.Group.candidates.Goals as goal

pub returns-in-None : goal.returns-in-None
returns-in-None c = rw c.in-None.is (λ rows known. (known.0.0, known.1))

pub returns-in-Some : goal.returns-in-Some
returns-in-Some c = rw c.in-Some.is (λ rows known. c.get.ensures rows known.0.1)
