use Rattle.std.proofs.Common.{ap, ◌∙◌}
use Rattle.std.specs.FinMap.{get}
use Rattle.linda_map_laws.proofs.MapLaws.{get_same, get_other}
use Rattle.linda_snap.proofs.BookCopyLaws.{on_some}
use Rattle.linda_snap.proofs.book_copy.BookCopy.copy_again.Goals as goal

pub returns-clause-here : goal.returns-clause-here
returns-clause-here c =
    on_some _ _ c.put.result (λ put within. ap (λ m. get m c.args.client) put
    ∙ get_same c.args.self.now.book c.args.client (c.in_ok-n.n, c.in_ok-n.reply.now) ∙ c.in_ok-n.ensures) c.put.ensures.put

pub returns-clause-others : goal.returns-clause-others
returns-clause-others c =
    on_some _ _ c.put.result (λ put q apart. ap (λ m. get m q) put
    ∙ get_other c.args.self.now.book c.args.client (c.in_ok-n.n, c.in_ok-n.reply.now) q apart) c.put.ensures.put
