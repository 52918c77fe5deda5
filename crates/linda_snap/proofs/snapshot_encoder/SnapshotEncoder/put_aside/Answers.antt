use Rattle.std.proofs.Common.{refl, sym, ap, ◌∙◌}
use Rattle.std.specs.FinMap.{get, insert}
use Rattle.linda_store_state.specs.State.{State}
use Rattle.linda_snap.specs.SnapshotEncoder.{aside_of}
use Rattle.linda_snap.proofs.SnapshotWriterLaws.{aside_too, same_aside, safe_now, safe_still}
use Rattle.linda_snap.proofs.snapshot_encoder.SnapshotEncoder.put_aside.Goals as goal

pub returns-in_err-insert-clause-owes : goal.returns-in_err-insert-clause-owes
returns-in_err-insert-clause-owes g c begun bytes owes =
    same_aside begun c.args.self.now _ bytes c.args.state.now.bag owes refl refl refl refl c.in_err-insert.ensures.err

pub returns-clause-owes : goal.returns-clause-owes
returns-clause-owes g c begun bytes owes =
    let there = sym (ap (λ (s : State). get s.bag c.args.id) c.state.view_is) ∙ sym c.in-Some.ensures in
    let aside = c.in_ok-insert.ensures.ok ∙ ap (insert (aside_of c.args.self.now) c.args.id) c.in_ok-copy.ensures in
    aside_too begun c.args.self.now _ bytes c.args.state.now.bag c.args.id c.in-Some.tuple.now owes there refl refl refl refl aside

pub returns-clause-aside : goal.returns-clause-aside
returns-clause-aside g c =
    let there = sym (ap (λ (s : State). get s.bag c.args.id) c.state.view_is) ∙ sym c.in-Some.ensures in
    let aside = c.in_ok-insert.ensures.ok ∙ ap (insert (aside_of c.args.self.now) c.args.id) c.in_ok-copy.ensures in
    safe_now c.args.self.now (record {
      from = c.args.self.now.from;
      next = c.args.self.now.next;
      aside = c.insert.new.self;
      book =
          c.args.self.now.book;
      count = c.args.self.now.count;
      len = c.args.self.now.len;
    }) c.args.state.now.bag c.args.id c.in-Some.tuple.now there aside

pub returns-clause-others : goal.returns-clause-others
returns-clause-others g c q =
    let there = sym (ap (λ (s : State). get s.bag c.args.id) c.state.view_is) ∙ sym c.in-Some.ensures in
    let aside = c.in_ok-insert.ensures.ok ∙ ap (insert (aside_of c.args.self.now) c.args.id) c.in_ok-copy.ensures in
    safe_still c.args.self.now (record {
      from = c.args.self.now.from;
      next = c.args.self.now.next;
      aside = c.insert.new.self;
      book = c.args.self.now.book;
      count = c.args.self.now.count;
      len = c.args.self.now.len;
    }) c.args.state.now.bag c.args.id c.in-Some.tuple.now q there refl refl aside
