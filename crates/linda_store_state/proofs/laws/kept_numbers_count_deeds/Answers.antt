use Rattle.linda_store_state.proofs.SumLaws.{sum_done}
use Rattle.linda_store_state.proofs.laws.kept_numbers_count_deeds.Goals as goal

pub returns : goal.returns
returns c = λ st new ds is all. sum_done st is ds new all
