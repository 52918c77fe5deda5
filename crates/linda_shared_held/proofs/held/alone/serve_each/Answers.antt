-- Each message is taken after those before it; if one takes the server down, their receipts are reported to nobody.
use Rattle.std.proofs.Common.{◌≡◌, ℕ, ◌+◌, List, [], ◌∷◌, ◌++◌, Option, length, take, suc, vec_len, refl, sym, ap, ◌∙◌, subst, length-append, arith, rules, inl}
use Rattle.std.proofs.Math.Seq.{take-length, take-suc, take-append_seam}
use Rattle.linda_wire.specs.declared.message.Message.{Message}
use Rattle.linda_wire.specs.declared.reply.Reply.{Reply}
use Rattle.linda_shared_outbox.specs.Waiting.{waits_for}
use Rattle.linda_shared_accounts.specs.declared.receipt.Receipt.{Receipt}
use Rattle.linda_shared_accounts.specs.Telling.{receipts_in}
use Rattle.linda_shared_held.specs.Posted.{GoesAlone, WentAlone, none, more}
use Rattle.linda_shared_held.proofs.AloneLaws.{receipts_more, keeps_none, keeps_more, keeps_back}
use Rattle.linda_shared_held.proofs.KeptLaws.{keeps_memory}
use Rattle.linda_shared_held.proofs.held.alone.serve_each.Goals as goal

pub returns-in_default-clause-takes : goal.returns-in_default-clause-takes
returns-in_default-clause-takes g c = record {
  keeps = keeps_memory;
  one_each = tt;
  countable = tt;
  some = record { many = 0; told = []; mid = c.args.server.now; went = none (λ q. waits_for c.args.boxes.now q) (λ q. refl) };
  fault = search rules;
}

pub loop-message-init : goal.loop-message-init
loop-message-init g c =
    let s = c.args.server.now in
    let e : c.in-Ok.told.items ≡ [] = c.in-Ok.ensures.items in
    let zero : length (receipts_in c.in-Ok.told.items) ≡ 0 = ap (λ l. length (receipts_in l)) e in (
      subst (λ (l : List (Option Receipt)). WentAlone s c.args.count (λ q. waits_for c.args.boxes.now q) [] l (λ q. waits_for c.args.boxes.now q) s)
          (sym e) (none (λ q. waits_for c.args.boxes.now q) (λ q. refl)),
      keeps_none e,
      c.in-Ok.ensures.len,
      c.in-Ok.ensures.capacity,
      omega (arith, zero),
      refl,
    )

pub loop-message-preserved : goal.loop-message-preserved
loop-message-preserved g c =
    let s = c.args.server.now in
    let l = c.loop-message in
    let i = l.message-index in
    let ms : List (ℕ × Message) = c.args.messages.now in
    let m : ℕ × Message = c.message-item.result in
    let o : Option Receipt = c.in-Ok-take_one.receipt in
    let before : List (Option Receipt) = l.told.items in
    let told : List (Option Receipt) = c.push_reserved.new.self.items in
    let new = c.take_one.new.server in
    let step = c.in-Ok-take_one.ensures in
    let one_more : i + 1 ≡ suc i = omega arith in
    let next : take (i + 1) ms ≡ take i ms ++ m ∷ [] = ap (λ k. take k ms) one_more
    ∙ (take-suc ms i m c.loop-message-test.true ∙ ap (λ (x : ℕ × Message). take i ms ++ x ∷ []) (sym c.message-item.is)) in
    let all : told ≡ before ++ o ∷ [] = c.push_reserved.ensures.items in
    let long : length (receipts_in told) ≡ length (receipts_in before) + length (receipts_in (o ∷ [])) = ap (λ t. length (receipts_in t)) all
    ∙ (ap length (receipts_more before o) ∙ length-append (receipts_in before) (receipts_in (o ∷ []))) in
    let weighed = c.weigh-made.ensures in
    let len = c.push_reserved.ensures.len in
    let capacity = c.push_reserved.ensures.capacity in
    let many = l.invariant.2 in
    let room = l.invariant.3 in
    let made = l.invariant.4 in (
      subst (λ (k : List (ℕ × Message)). WentAlone s c.args.count (λ q. waits_for c.args.boxes.now q) k told (λ q. waits_for c.take_one.new.boxes q) new)
          (sym next)
          (subst (λ (t : List (Option Receipt)). WentAlone s c.args.count (λ q. waits_for c.args.boxes.now q)
          (take i ms ++ m ∷ []) t (λ q. waits_for c.take_one.new.boxes q) new) (sym all)
          (more (take i ms) before l.server (λ q. waits_for l.boxes q) m o (λ q. waits_for c.take_one.new.boxes q) new l.invariant.0
          (subst (λ n. GoesAlone l.server n m (λ q. waits_for l.boxes q) o (λ q. waits_for c.take_one.new.boxes q) new) made step.done))),
      keeps_more l.invariant.1 step.keeps all,
      omega (arith, len, many),
      omega (arith, capacity, room),
      omega (arith, made, weighed, long),
      step.still ∙ l.invariant.5,
    )

pub returns-in-Err-clause-takes : goal.returns-in-Err-clause-takes
returns-in-Err-clause-takes g c =
    let s = c.args.server.now in
    let l = c.loop-message in
    let rs : List Receipt = c.args.receipts.now.items in
    let qs : List Receipt = receipts_in l.told.items in
    let all : c.take_one.new.receipts.items ≡ rs ++ qs = c.in-Err.ensures.keeps.err ∙ l.invariant.1.receipts in
    let many : vec_len c.args.receipts.now ≡ length rs = c.args.receipts.now.ok.0 in
    let back : c.truncate.new.self.items ≡ rs = c.truncate.ensures.items
    ∙ (ap (λ n. take n c.take_one.new.receipts.items) (c.len-before.ensures ∙ many) ∙ (ap (take (length rs)) all ∙ take-append_seam rs qs)) in
    record {
      keeps = keeps_back l.invariant.1 c.in-Err.ensures refl refl back;
      one_each = tt;
      countable = tt;
      some = record {
        many = l.message-index;
        told = l.told.items;
        mid = l.server;
        went = subst (λ (w : ℕ → Option (List Reply)). WentAlone s c.args.count (λ q. waits_for c.args.boxes.now q)
            (take l.message-index c.args.messages.now) l.told.items w l.server)
            (λ i q. sym (c.in-Err.ensures.err.1 q) i) l.invariant.0;
      };
      fault = inl refl;
    }

pub returns-clause-takes : goal.returns-clause-takes
returns-clause-takes g c =
    let l = c.loop-message in
    record { keeps = l.invariant.1; one_each = search rules; countable = search rules; some = tt; fault = tt }

pub returns-clause-done : goal.returns-clause-done
returns-clause-done g c =
    let s = c.args.server.now in
    let l = c.loop-message in
    let xs : List (ℕ × Message) = c.args.messages.now in
    let P : List (ℕ × Message)
    → Type 0 = λ ms. WentAlone s c.args.count (λ q. waits_for c.args.boxes.now q) ms l.told.items (λ q. waits_for l.boxes q) l.server in
    subst P (take-length xs) (subst (λ i. P (take i xs)) (omega (arith, c.loop-message-test.false, l.auto.message-index-end)) l.invariant.0)
