use Rattle.linda_store_state.proofs.ReplyLaws.{reply_behind, kept_behind}
use Rattle.linda_store_state.proofs.laws.replies_look_back.Goals as goal

pub returns : goal.returns
returns c = record { behind = reply_behind; kept = kept_behind }
