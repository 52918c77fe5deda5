use Rattle.std.proofs.Common.{◌≡◌, ℕ, List, [], ◌++◌, append-nil, sym, ap, ◌∙◌, subst, Ok, rules}
use Rattle.std.proofs.lemmas.List.{nil_from_length}
use Rattle.linda_pipe.specs.Exchanges.{IsEnded}
use Rattle.linda_pipe.proofs.EndLaws.{read_taken}
use Rattle.linda_pipe.proofs.exchange.Exchange.take_read.Goals as goal

pub returns-then-is_empty-clause-reads : goal.returns-then-is_empty-clause-reads
returns-then-is_empty-clause-reads g c = λ first read sent left at_end u.
    let none : c.args.bytes.now ≡ [] = search (rules, nil_from_length) in
    subst (λ (l : List ℕ). IsEnded first l (sent ++ c.finish.new.self.replies.items) left (Ok tt)) (sym (append-nil read) ∙ ap (λ l. read ++ l) (sym none))
    (c.in_ok-finish.ensures.ends first read sent left (at_end none) u)

pub returns-clause-reads : goal.returns-clause-reads
returns-clause-reads g c = λ first read sent left at_end u.
    read_taken g.N.Node.shown first (read ++ c.args.bytes.now) sent left c.take_text.new.self c.take_text.result (c.take_text.ensures.leads first read sent u)
