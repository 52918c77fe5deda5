use Rattle.std.proofs.Common.{None, Some}
use Rattle.linda_hold.specs.TicketIndex.{HasNames}
use Rattle.linda_hold.specs.Waits.{Wait}
use Rattle.linda_hold.specs.TagIndex.{HasAsked}
use Rattle.linda_hold.proofs.IndexLaws.{renamed}
use Rattle.linda_hold.proofs.NamingLaws.{names_gone}
use Rattle.linda_hold.proofs.index.Index.remove.Goals as goal

pub returns : goal.returns
returns c = λ rows there known. (
  renamed (λ (w : Wait). w.0) (HasNames c.args.self.now.ticket_index) (HasNames c.remove.new.self) _ (Some c.args.wait.now) None
      (names_gone c.args.self.now.ticket_index c.remove.new.self c.remove.ensures.used _ _ c.remove.ensures.gone) rows there known.0,
  renamed (λ (w : Wait). w.1) (HasAsked c.args.self.now.tag_index) (HasAsked c.remove-2.new.self) _
      (Some c.args.wait.now) None c.remove-2.ensures rows there known.1,
)
