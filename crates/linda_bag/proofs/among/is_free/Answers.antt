use Rattle.std.proofs.Common.{sym}
use Rattle.linda_bag.proofs.FreeMatchLaws.{free_there, none_there}
use Rattle.linda_bag.proofs.among.is_free.Goals as goal

pub returns-in-Some : goal.returns-in-Some
returns-in-Some g c = free_there _ _ _ _ c.in-Some.tuple.now _ (sym c.in-Some.ensures) c.is_free_match.ensures

pub returns-in-None : goal.returns-in-None
returns-in-None g c = none_there _ _ _ _ (sym c.in-None.ensures)
