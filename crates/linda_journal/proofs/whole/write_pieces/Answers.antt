use Rattle.std.proofs.Common.{◌≡◌, ◌+◌, inl, inr, ◌++◌, length, take, refl, sym, ap, subst, ◌∙◌, arith}
use Rattle.std.proofs.lemmas.List.{take-append-drop, length-take, length-append}
use Rattle.linda_journal.proofs.RenewalLaws.{IsWrittenTo, pieces_counted, none_written, piece_within, piece_run, one_piece_more, all_seen}
use Rattle.std.proofs.lemmas.Result.{err_from_is_err_and}
use Rattle.linda_journal.proofs.CauseLaws.{fault_told}
use Rattle.linda_journal.proofs.whole.write_pieces.Goals as goal

pub loop-rest-init : goal.loop-rest-init
loop-rest-init g c = (
  λ honest. none_written c.args.bytes.now (g.D.Disk.view c.args.disk.now) (g.met.D.Disk.timed c.args.disk.now honest)
      (c.requires.durable honest) (c.requires.closed honest),
  refl,
  (λ h. h, λ h. h),
  refl,
  λ honest. refl,
  inl refl,
)

pub write_at-requires : goal.write_at-requires
write_at-requires g c still =
    let honest = c.loop-rest.invariant.2.1 still in
    piece_within c.args.bytes.now (g.D.Disk.view c.args.disk.now) (g.D.Disk.view c.loop-rest.disk)
    c.loop-rest.at c.loop-rest.rest.now (c.requires.closed honest).0 (c.loop-rest.invariant.0 honest)

pub write_at-requires-2 : goal.write_at-requires-2
write_at-requires-2 g c still =
    let honest = c.loop-rest.invariant.2.1 still in
    piece_within c.args.bytes.now (g.D.Disk.view c.args.disk.now) (g.D.Disk.view c.loop-rest.disk)
    c.loop-rest.at c.loop-rest.rest.now (c.requires.closed honest).0 (c.loop-rest.invariant.0 honest)

pub returns-in_err-write_at-clause-runs : goal.returns-in_err-write_at-clause-runs
returns-in_err-write_at-clause-runs g c =
    let l = c.loop-rest in
    let fault = c.in_err-write_at.field-0.0 in
    let p = err_from_is_err_and c.from_residual.result c.from_residual.ensures.1 in
    rw (p.1, p.2) (record {
      honest = ((λ h. c.write_at.ensures.honest.0 (l.invariant.2.0 h)), (λ h. l.invariant.2.1 (c.write_at.ensures.honest.1 h)));
      cause = fault_told fault (g.D.Disk.failures c.args.disk.now) (g.D.Disk.failures l.disk)
          (g.D.Disk.failures c.write_at.new.self) l.invariant.3 c.in_err-write_at.ensures.cause;
      any_moment = λ honest.
          let still = l.invariant.2.0 honest in
          piece_run c.args.bytes.now (g.D.Disk.view c.args.disk.now) (g.D.Disk.view l.disk)
          (g.D.Disk.view c.write_at.new.self) l.at l.rest.now c.split_at.result.0.now c.write_at.result
          (g.met.D.Disk.timed l.disk still) (l.invariant.0 honest) (c.write_at.ensures.writes still);
    })

pub loop-rest-preserved : goal.loop-rest-preserved
loop-rest-preserved g c =
    let rest = c.loop-rest.rest.now in
    let piece = c.split_at.result.0.now in
    let later = c.split_at.result.1.now in
    let split : rest ≡ piece ++ later = sym (take-append-drop 65536 rest)
    ∙ ap (λ l. take 65536 rest ++ l) (sym c.split_at.ensures.back) ∙ ap (λ l. l ++ later) (sym c.split_at.ensures.front) in
    let count : length piece ≡ 65536 = ap length c.split_at.ensures.front ∙ omega (arith, length-take 65536 rest, c.loop-rest-test.true) in (
      λ honest.
          let still = c.loop-rest.invariant.2.0 honest in
          subst (λ n. IsWrittenTo c.args.bytes.now (g.D.Disk.view c.args.disk.now) (g.D.Disk.view c.write_at.new.self) (c.loop-rest.at + n) later) count
          (one_piece_more c.args.bytes.now (g.D.Disk.view c.args.disk.now) (g.D.Disk.view c.loop-rest.disk)
          (g.D.Disk.view c.write_at.new.self) c.loop-rest.at rest piece later c.write_at.result (c.requires.closed honest).0
          (g.met.D.Disk.timed c.loop-rest.disk still) (c.loop-rest.invariant.0 honest) split
          (c.write_at.ensures.writes still) (c.in_ok-write_at.ensures.writes still).seen),
      omega (arith, c.loop-rest.invariant.1, count, ap length split, length-append piece later),
      (λ h. c.write_at.ensures.honest.0 (c.loop-rest.invariant.2.0 h), λ h. c.loop-rest.invariant.2.1 (c.write_at.ensures.honest.1 h)),
      c.in_ok-write_at.ensures.cause.ok ∙ c.loop-rest.invariant.3,
      λ honest. omega (arith, c.loop-rest.invariant.4 honest, (c.in_ok-write_at.ensures.writes (c.loop-rest.invariant.2.0 honest)).clock.ok),
      inr (omega (arith, c.loop-rest-test.true, count, ap length split, length-append piece later)),
    )

pub returns-in_err-write_at-2-clause-runs : goal.returns-in_err-write_at-2-clause-runs
returns-in_err-write_at-2-clause-runs g c =
    let l = c.loop-rest in
    let fault = c.in_err-write_at-2.field-0.0 in
    let p = err_from_is_err_and c.from_residual-in_err-write_at-2.result c.from_residual-in_err-write_at-2.ensures.1 in
    rw (p.1, p.2) (record {
      honest = ((λ h. c.write_at-2.ensures.honest.0 (l.invariant.2.0 h)), (λ h. l.invariant.2.1 (c.write_at-2.ensures.honest.1 h)));
      cause = fault_told fault (g.D.Disk.failures c.args.disk.now) (g.D.Disk.failures l.disk)
          (g.D.Disk.failures c.write_at-2.new.self) l.invariant.3 c.in_err-write_at-2.ensures.cause;
      any_moment = λ honest.
          let still = l.invariant.2.0 honest in
          piece_run c.args.bytes.now (g.D.Disk.view c.args.disk.now) (g.D.Disk.view l.disk)
          (g.D.Disk.view c.write_at-2.new.self) l.at l.rest.now l.rest.now c.write_at-2.result
          (g.met.D.Disk.timed l.disk still) (l.invariant.0 honest) (c.write_at-2.ensures.writes still);
    })

pub returns-clause-seen : goal.returns-clause-seen
returns-clause-seen g c honest =
    let still = c.loop-rest.invariant.2.0 honest in
    all_seen c.args.bytes.now (g.D.Disk.view c.args.disk.now) (g.D.Disk.view c.loop-rest.disk)
    (g.D.Disk.view c.write_at-2.new.self) c.loop-rest.at c.loop-rest.rest.now (c.requires.closed honest).0
    (c.loop-rest.invariant.0 honest) (c.in_ok-write_at-2.ensures.writes still).seen

pub returns-clause-runs : goal.returns-clause-runs
returns-clause-runs g c =
    let l = c.loop-rest in
    let old = g.D.Disk.view c.args.disk.now in
    let now = g.D.Disk.view l.disk in
    let new = g.D.Disk.view c.write_at-2.new.self in
    record {
      honest = ((λ h. c.write_at-2.ensures.honest.0 (l.invariant.2.0 h)), (λ h. l.invariant.2.1 (c.write_at-2.ensures.honest.1 h)));
      steady = c.in_ok-write_at-2.ensures.cause.ok ∙ l.invariant.3;
      any_moment = λ honest.
          let still = l.invariant.2.0 honest in
          piece_run c.args.bytes.now old now new l.at l.rest.now l.rest.now c.write_at-2.result
          (g.met.D.Disk.timed l.disk still) (l.invariant.0 honest) (c.write_at-2.ensures.writes still);
      clock = λ honest.
          let still = l.invariant.2.0 honest in
          pieces_counted (length c.args.bytes.now) old.moment now.moment new.moment l.at
          (length l.rest.now) l.invariant.1 (l.invariant.4 honest) l.invariant.5 (omega (arith, c.loop-rest-test.false))
          (c.in_ok-write_at-2.ensures.writes still).clock.ok;
    }
