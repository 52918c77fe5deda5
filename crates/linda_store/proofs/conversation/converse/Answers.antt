use Rattle.linda_store.proofs.conversation.converse.Goals as goal

pub returns : goal.returns
returns g c = (_, (c.talk-end.ensures.1, c.close.ensures))
