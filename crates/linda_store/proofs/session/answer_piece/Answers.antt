use Rattle.std.proofs.Common.{[], true}
use Rattle.linda_store.proofs.TalkLaws.{talk_begins, lost_answered}
use Rattle.linda_store.proofs.session.answer_piece.Goals as goal

pub returns-in_err-feed : goal.returns-in_err-feed
returns-in_err-feed g c =
    lost_answered _ _ _ _ _ _ _ _ c.from_residual.ensures.0 ([], (_, (true, talk_begins _ _)))
