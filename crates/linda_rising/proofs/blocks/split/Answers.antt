use Rattle.linda_rising.proofs.BlockLaws.{halved}
use Rattle.linda_rising.proofs.blocks.split.Goals as goal

pub returns-clause-same : goal.returns-clause-same
returns-clause-same g c =
    (halved c.args.blocks.now.items c.reserve.new.self.items c.insert.new.self.items c.args.place c.index_mut-block.result.now c.split.new.self _
    c.requires.rising c.requires.within c.in_ok-reserve.ensures.items c.index_mut-block.ensures.value c.in_ok-upper.ensures.ok c.in_ok-insert.ensures.items).0

pub returns-clause-rising : goal.returns-clause-rising
returns-clause-rising g c =
    (halved c.args.blocks.now.items c.reserve.new.self.items c.insert.new.self.items c.args.place c.index_mut-block.result.now c.split.new.self _
    c.requires.rising c.requires.within c.in_ok-reserve.ensures.items c.index_mut-block.ensures.value c.in_ok-upper.ensures.ok c.in_ok-insert.ensures.items).1
