use Rattle.std.proofs.Common.{None, Some}
use Rattle.std.proofs.lemmas.Result.{MatchResult-from_err}
use Rattle.linda_hold.specs.TicketIndex.{HasNames}
use Rattle.linda_hold.specs.Waits.{Wait}
use Rattle.linda_hold.specs.TagIndex.{HasAsked}
use Rattle.linda_hold.specs.Index.{asked_of, requests_of}
use Rattle.linda_hold.proofs.IndexLaws.{renamed, unchanged, twice}
use Rattle.linda_hold.proofs.NamingLaws.{names_put, names_gone, names_same}
use Rattle.linda_hold.proofs.index.Index.put.Goals as goal

pub returns-in_err-put-clause-err : goal.returns-in_err-put-clause-err
returns-in_err-put-clause-err c = MatchResult-from_err c.from_residual.result _ _ c.from_residual.ensures.0 (λ _. λ rows there known. (
  unchanged _ (λ waiting. HasNames c.put.new.self (requests_of waiting)) None rows there
      (names_same c.args.self.now.ticket_index c.put.new.self c.put.ensures.used c.in_err-put.ensures.err _ known.0),
  unchanged _ (λ waiting. HasAsked c.args.self.now.tag_index (asked_of waiting)) None rows there known.1,
))

pub returns-in-Ok-clause-ok : goal.returns-in-Ok-clause-ok
returns-in-Ok-clause-ok c = λ rows there known. (
  renamed (λ (w : Wait). w.0) (HasNames c.args.self.now.ticket_index) (HasNames c.put.new.self) _ None (Some c.args.wait.now)
      (names_put c.args.self.now.ticket_index c.put.new.self c.put.ensures.used _ _ c.requires c.in_ok-put.ensures.ok) rows there known.0,
  renamed (λ (w : Wait). w.1) (HasAsked c.args.self.now.tag_index) (HasAsked c.put-2.new.self) _ None
      (Some c.args.wait.now) c.in-Ok.ensures.ok rows there known.1,
)

pub returns-in-Err-clause-err : goal.returns-in-Err-clause-err
returns-in-Err-clause-err c = λ rows there known. (
  renamed (λ (w : Wait). w.0) (HasNames c.args.self.now.ticket_index) (HasNames c.remove.new.self) _ None None
      (twice _ (HasNames c.args.self.now.ticket_index) (HasNames c.put.new.self) (HasNames c.remove.new.self) c.args.wait.now.0
      (names_put c.args.self.now.ticket_index c.put.new.self c.put.ensures.used _ _ c.requires c.in_ok-put.ensures.ok)
      (names_gone c.put.new.self c.remove.new.self c.remove.ensures.used _ _ c.remove.ensures.gone)) rows there known.0,
  renamed (λ (w : Wait). w.1) (HasAsked c.args.self.now.tag_index) (HasAsked c.put-2.new.self) _ None None c.in-Err.ensures.err rows there known.1,
)
