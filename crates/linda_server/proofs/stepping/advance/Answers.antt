-- The next part is written, and with the last one the bank is taken into use.
use Rattle.std.proofs.Common.{◌<◌, ◌≤◌, ◌+◌, ◌++◌, ◌∙◌, [], length, length-append, ap, sym, subst, rules, arith}
use Rattle.linda_snap.specs.declared.entry.TheConstants.{MAX_KEPT_BYTES}
use Rattle.linda_snap.specs.BankWriter.{Follows, Completes, IsNext, bytes_in}
use Rattle.linda_server.proofs.PairLaws.{still}
use Rattle.linda_server.specs.Switch.{IsTakenOver}
use Rattle.linda_server.proofs.SteppingLaws.{parts_of, begun_of, low_of, within_of, generation_of, fits_of, counts_of}
use Rattle.linda_server.proofs.stepping.advance.Goals as goal

pub returns-in-Err-clause-runs : goal.returns-in-Err-clause-runs
returns-in-Err-clause-runs g c = record {
  any_moment = λ begun are up. still g.met.D.Disk.timed c.args.disks.now c.args.state.now are up;
  kept = search rules;
  there = search rules;
  ready = search rules;
  limit = search rules;
  honest = search rules;
  cause = search rules;
}

pub returns-in-Ok-More-clause-runs : goal.returns-in-Ok-More-clause-runs
returns-in-Ok-More-clause-runs g c =
    let st = c.args.state.now in
    let any = c.in-Ok.ensures.runs st [] in
    record {
      any_moment = λ begun are up.
          let p = parts_of c.args.next c.args.disks.now st begun in
          (c.in-Ok.ensures.runs st p.front).any_moment p.filled are up;
      kept = λ begun kept.
          let p = parts_of c.args.next c.args.disks.now st begun in
          (c.in-Ok.ensures.runs st p.front).kept p.filled kept;
      there = any.there;
      ready = any.ready;
      limit = any.limit;
      honest = any.honest;
      cause = any.cause;
    }

pub returns-clause-runs : goal.returns-clause-runs
returns-clause-runs g c =
    let st = c.args.state.now in
    let any = c.in-Ok-end.ensures.runs st [] in
    record {
      any_moment = λ begun are up.
          let p = parts_of c.args.next c.args.disks.now st begun in
          (c.in-Ok-end.ensures.runs st p.front).any_moment (
            p.filled,
            subst (λ b. Completes c.next.new.self p.front b st)
                (sym c.deref-in-Ok-Last.ensures.value)
                (subst (λ chunk. IsNext chunk c.next.new.self p.front st) c.in-Ok-Last.field-0-is (c.in-Ok-Last.ensures.next p.front p.follows)),
          ) are up;
      kept = λ begun kept.
          let p = parts_of c.args.next c.args.disks.now st begun in
          (c.in-Ok-end.ensures.runs st p.front).kept (
            p.filled,
            subst (λ b. Completes c.next.new.self p.front b st) (sym c.deref-in-Ok-Last.ensures.value)
                (subst (λ chunk. IsNext chunk c.next.new.self p.front st) c.in-Ok-Last.field-0-is (c.in-Ok-Last.ensures.next p.front p.follows)),
          ) kept;
      there = any.there;
      ready = any.ready;
      limit = any.limit;
      honest = any.honest;
      cause = any.cause;
    }

pub returns-in-Err-write_on-clause-runs : goal.returns-in-Err-write_on-clause-runs
returns-in-Err-write_on-clause-runs g c =
    let st = c.args.state.now in
    let any = c.in-Err-write_on.ensures.runs st [] in
    record {
      any_moment = λ begun are up.
          let p = parts_of c.args.next c.args.disks.now st begun in
          (c.in-Err-write_on.ensures.runs st p.front).any_moment p.filled are up;
      kept = search rules;
      there = any.there;
      ready = search rules;
      limit = search rules;
      honest = any.honest;
      cause = let told = any.cause in search (rules, told);
    }

pub returns-in-Err-end-clause-runs : goal.returns-in-Err-end-clause-runs
returns-in-Err-end-clause-runs g c =
    let st = c.args.state.now in
    let any = c.in-Err-end.ensures.runs st [] in
    record {
      any_moment = λ begun are up.
          let p = parts_of c.args.next c.args.disks.now st begun in
          (c.in-Err-end.ensures.runs st p.front).any_moment (
            p.filled,
            subst (λ b. Completes c.next.new.self p.front b st)
                (sym c.deref-in-Ok-Last.ensures.value)
                (subst (λ chunk. IsNext chunk c.next.new.self p.front st) c.in-Ok-Last.field-0-is (c.in-Ok-Last.ensures.next p.front p.follows)),
          ) are up;
      kept = search rules;
      there = any.there;
      ready = search rules;
      limit = search rules;
      honest = any.honest;
      cause = any.cause;
    }

pub write_on-requires-clause-behind : goal.write_on-requires-clause-behind
write_on-requires-clause-behind g c = low_of c.args.next c.args.disks.now c.args.state.now c.requires.begun

pub write_on-requires-clause-within : goal.write_on-requires-clause-within
write_on-requires-clause-within g c = within_of c.args.next c.args.disks.now c.args.state.now c.requires.begun

pub returns-in-Ok-More-clause-begun : goal.returns-in-Ok-More-clause-begun
returns-in-Ok-More-clause-begun g c begun =
    let p = parts_of c.args.next c.args.disks.now c.args.state.now begun in
    let bytes = c.deref.ensures.value in
    begun_of _ c.write_on.new.disks c.args.state.now (p.front ++ c.deref.result.now)
    (subst (λ b. Follows c.next.new.self (p.front ++ b) c.args.state.now) (sym bytes)
    (subst (λ chunk. IsNext chunk c.next.new.self p.front c.args.state.now) c.in-Ok-More.field-0-is (c.in-Ok-More.ensures.next p.front p.follows)))
    (omega (arith, p.place, c.in-Ok.ensures.place, length-append p.front c.deref.result.now)) (c.in-Ok.ensures.filled p.front p.filled)
    (c.next.ensures.generation ∙ p.generation ∙ ap (λ n. n + 1) (sym c.in-Ok.ensures.generation))
    (c.next.ensures.same.0 ∙ p.limit ∙ sym (c.in-Ok.ensures.runs c.args.state.now p.front).limit)

pub end-requires-clause-behind : goal.end-requires-clause-behind
end-requires-clause-behind g c = low_of c.args.next c.args.disks.now c.args.state.now c.requires.begun

pub end-requires-clause-within : goal.end-requires-clause-within
end-requires-clause-within g c = within_of c.args.next c.args.disks.now c.args.state.now c.requires.begun

pub end-requires-clause-generation : goal.end-requires-clause-generation
end-requires-clause-generation g c = c.next.ensures.generation ∙ generation_of c.args.next c.args.disks.now c.args.state.now c.requires.begun

pub end-requires-clause-fits : goal.end-requires-clause-fits
end-requires-clause-fits g c =
    let st = c.args.state.now in
    fits_of c.args.next c.next.new.self c.deref-in-Ok-Last.result.now c.args.disks.now st c.next.ensures.same.0
    (λ front f. subst (λ b. Completes c.next.new.self front b st) (sym c.deref-in-Ok-Last.ensures.value)
    (subst (λ chunk. IsNext chunk c.next.new.self front st) c.in-Ok-Last.field-0-is (c.in-Ok-Last.ensures.next front f)))
    c.requires.begun

pub end-requires-clause-counted : goal.end-requires-clause-counted
end-requires-clause-counted g c =
    let st = c.args.state.now in
    counts_of c.args.next c.next.new.self c.deref-in-Ok-Last.result.now c.args.disks.now st
    (λ front f. subst (λ b. Completes c.next.new.self front b st) (sym c.deref-in-Ok-Last.ensures.value)
    (subst (λ chunk. IsNext chunk c.next.new.self front st) c.in-Ok-Last.field-0-is (c.in-Ok-Last.ensures.next front f)))
    c.requires.begun

pub returns-in-Ok-More-clause-steps : goal.returns-in-Ok-More-clause-steps
returns-in-Ok-More-clause-steps g c =
    let some = subst (λ chunk. 0 < length (bytes_in chunk)) c.in-Ok-More.field-0-is c.in-Ok-More.ensures.some in
    let most = subst (λ chunk. length (bytes_in chunk) ≤ c.args.most + MAX_KEPT_BYTES) c.in-Ok-More.field-0-is c.in-Ok-More.ensures.most in
    let long = ap length c.deref.ensures.value in
    (omega (arith, c.in-Ok.ensures.place, long, some), omega (arith, c.in-Ok.ensures.place, long, most), c.in-Ok.ensures.still)

pub returns-clause-steps : goal.returns-clause-steps
returns-clause-steps g c =
    let most = subst (λ chunk. length (bytes_in chunk) ≤ c.args.most + MAX_KEPT_BYTES) c.in-Ok-Last.field-0-is c.in-Ok-Last.ensures.most in (
      subst (λ n. IsTakenOver n c.args.disks.now c.end.new.disks) c.next.ensures.same.1 c.in-Ok-end.ensures.switched,
      omega (arith, c.in-Ok-end.ensures.place, ap length c.deref-in-Ok-Last.ensures.value, most),
    )
