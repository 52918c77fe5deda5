use Rattle.std.proofs.Common.{rules, ◌≡◌, ℕ, ◌++◌, ◌∙◌, ap, ap₂, inr, length, subst, sym}
use Rattle.linda_disk.specs.MemDisk.{view}
use Rattle.linda_journal.specs.Heading.{IsHeading}
use Rattle.linda_snap.specs.Choice.{chosen}
use Rattle.linda_inspect.specs.Json.{json_state}
use Rattle.linda_inspect.specs.Object.{json_bank, json_files, json_standing}
use Rattle.linda_inspect.proofs.ObjectLaws.{bank_for}
use Rattle.linda_inspect.proofs.ReportLaws.{of_output, seen_of, stands_as}
use Rattle.linda_inspect.proofs.json.write_json.Goals as goal

pub returns-in_ok-write_standing-in-Ok-clause-opens : goal.returns-in_ok-write_standing-in-Ok-clause-opens
returns-in_ok-write_standing-in-Ok-clause-opens g c =
    inr (
      c.in-Ok.chosen.state,
      stands_as _ _ _ _ c.in-Ok.chosen.state (ap seen_of c.in_ok-left.ensures.history)
          (ap seen_of c.in_ok-right.ensures.history) (c.in-Ok.ensures.found tt tt),
    )

pub returns-in_ok-write_standing-in-Ok-clause-object : goal.returns-in_ok-write_standing-in-Ok-clause-object
returns-in_ok-write_standing-in-Ok-clause-object g c =
    let found = c.in-Ok.chosen in
    let one = c.read_heading-one.result in
    let two = c.read_heading-two.result in
    let left = ap seen_of c.in_ok-left.ensures.history in
    let right = ap seen_of c.in_ok-right.ensures.history in
    let sides = c.in-Ok.ensures.sides tt tt in
    let bytes : c.len.result ≡ length c.args.left.items = search rules in
    let more : c.len-2.result ≡ length c.args.right.items = search rules in
    let begun = c.in_ok-head.ensures ∙ ap₂ (λ n m. json_files one n two m) bytes more in
    let kept = json_state c.args.lists found.state in
    let counted = c.in-Ok.ensures.counted tt in
    let bank = λ (records most : ℕ). json_bank found.bank.form found.bank.generation records found.bank.end most in (
      c.in_ok-head.head.items ++ json_standing found.is_right c.are_banks-are_two.result ++ bank found.bank.records found.bank.limit ++ kept,
      record {
        one = one;
        two = two;
        one_is = subst (λ file. IsHeading file one) c.deref.ensures.value c.read_heading-one.ensures;
        two_is = subst (λ file. IsHeading file two) c.deref-2.ensures.value c.read_heading-two.ensures;
        kind = inr (record {
          right_one = found.is_right;
          form = found.bank.form;
          generation = found.bank.generation;
          used = found.bank.end;
          st = found.state;
          stands = stands_as _ _ _ _ found.state left right (c.in-Ok.ensures.found tt tt);
          bank = bank_for _ found.bank.form found.bank.generation found.bank.end (view found.bank.disk) found.state counted.stored
              (sides.0 ∙ ap₂ (chosen found.is_right) left right);
          is = λ i. begun i ++ json_standing found.is_right (c.are_banks-are_two.ensures i) ++ bank (counted.count_is i) (c.in-Ok.ensures.new.0 i) ++ kept;
        });
      },
      c.in_ok-write_standing-in-Ok.ensures,
    )

pub returns-in_ok-write_fault-in-Err-clause-stands : goal.returns-in_ok-write_fault-in-Err-clause-stands
returns-in_ok-write_fault-in-Err-clause-stands g c = λ st stands.
    of_output c.in-Err.fault c.of_choice.result c.of_choice.ensures
    (c.in-Err.ensures.only st tt tt
    (stands_as _ _ _ _ st (sym (ap seen_of c.in_ok-left.ensures.history)) (sym (ap seen_of c.in_ok-right.ensures.history)) stands)).1
