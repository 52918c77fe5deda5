use Rattle.std.proofs.Common.{◌≡◌, ◌≢◌, ◌∙◌, true, false, Ok, inl, inr, rules, subst}
use Rattle.linda_snap.specs.Stands.{IsUp, Stands}
use Rattle.linda_snap.specs.Choice.{IsChoice, IsFaultOfFile, IsFaultOfBoth}
use Rattle.linda_snap.proofs.ChoiceLaws.{up_left, up_right, used_here, chosen_fault, one_stands, only_told, nothing_new}
use Rattle.linda_journal.specs.declared.fault.BankFault.TheVariants as banks
use Rattle.linda_snap.specs.declared.choice.ChoiceFault.TheVariants as choices
use Rattle.linda_disk.proofs.CauseLaws.{renamed}
use Rattle.linda_disk.proofs.CauseLaws.{tells_on}
use Rattle.linda_snap.proofs.CauseLaws.{left_told, right_told, side_failed}
use Rattle.linda_snap.proofs.choice.choose_bank.Goals as goal

pub returns-in-Err : goal.returns-in-Err
returns-in-Err g c =
    let l = (g.D.Disk.view c.args.left).seen in
    let r = (g.D.Disk.view c.args.right).seen in
    record {
      found = search rules;
      up = search rules;
      sides = search rules;
      only = λ st left right stands. (tt, only_told l r c.in-Err.fault st stands (λ disk memory. inl (c.in-Err.ensures.fault left right disk memory)));
      fault = search rules;
      any_moment = search rules;
      new = search rules;
      ranges = search rules;
      stored = search rules;
      counted = search rules;
      durable = search rules;
      honest = search rules;
      cause = c.in-Err.ensures.cause;
      steady = search rules;
      clock = search rules;
    }

pub returns-in-Err-open_file : goal.returns-in-Err-open_file
returns-in-Err-open_file g c =
    let is = g.D.Disk.honest in
    let l = (g.D.Disk.view c.args.left).seen in
    let r = (g.D.Disk.view c.args.right).seen in
    let told = c.told_on.result in
    let fault = c.in-Err-open_file.fault in
    let says : is c.args.left → is c.args.right → told ≢ choices.Disk → told ≢ choices.Memory → IsFaultOfBoth l r told = λ left right disk memory.
    let choice = subst (λ b. IsChoice l r (Ok b)) c.in-Ok-true.field-0-test (c.in-Ok-true.ensures.found left right) in
    let still = c.look_at_both.ensures.right_honest.0 right in
    chosen_fault l r true fault told choice c.told_on.ensures
    (λ other. subst (λ f. IsFaultOfFile f fault) (c.in-Ok-true.ensures.right_seen right) (c.in-Err-open_file.ensures.fault still other)) disk
    in
    record {
      found = search rules;
      up = search rules;
      sides = search rules;
      only = λ st left right stands. (tt, only_told l r told st stands (says left right));
      fault = says;
      any_moment = search rules;
      new = search rules;
      ranges = search rules;
      stored = search rules;
      counted = search rules;
      durable = search rules;
      honest = search rules;
      cause =
          let count = g.D.Disk.failures in
          let mid = count c.look_at_both.new.right in
          let steady = c.in-Ok-true.ensures.steady in
          right_told choices.Disk told (count c.args.left) (count c.look_at_both.new.left) (count c.args.right) (count c.in-Err-open_file.right) steady.0
          (renamed choices.Disk told banks.Disk fault (count c.args.right) (count c.in-Err-open_file.right) (side_failed true fault told c.told_on.ensures)
          (tells_on banks.Disk fault (count c.args.right) mid (count c.in-Err-open_file.right) steady.1 c.in-Err-open_file.ensures.cause));
      steady = search rules;
      clock = search rules;
    }

pub returns-in-Ok : goal.returns-in-Ok
returns-in-Ok g c =
    let is = g.D.Disk.honest in
    let view = g.D.Disk.view in
    let l = (view c.args.left).seen in
    let r = (view c.args.right).seen in
    let v = view c.in-Ok.bank.disk in
    let w = view c.look_at_both.new.left in
    let bank = c.in-Ok.bank in
    let here : is c.args.right → v.seen ≡ r = λ right. c.in-Ok.ensures.seen (c.look_at_both.ensures.right_honest.0 right)
    ∙ c.in-Ok-true.ensures.right_seen right in
    let up : is c.args.left → is c.args.right → IsUp bank.form bank.generation bank.end v w c.in-Ok.state = λ left right.
    let choice = subst (λ b. IsChoice l r (Ok b)) c.in-Ok-true.field-0-test (c.in-Ok-true.ensures.found left right) in
    up_right l r bank.form bank.generation bank.end v w c.in-Ok.state choice (c.in-Ok.ensures.found (c.look_at_both.ensures.right_honest.0 right))
    (here right) (c.in-Ok-true.ensures.left_seen left) (c.in-Ok-true.ensures.left_durable left)
    in
    let found : is c.args.left → is c.args.right → Stands l r c.in-Ok.state = λ left right.
    inr (used_here r l bank.form bank.generation bank.end v w c.in-Ok.state (up left right) (here right) (c.in-Ok-true.ensures.left_seen left))
    in
    record {
      found = found;
      up = up;
      sides = search rules;
      only = λ st left right stands. (one_stands l r c.in-Ok.state st (found left right) stands, tt);
      fault = search rules;
      any_moment = λ hl hr.
          let both = c.look_at_both in
          let still = both.ensures.right_honest.0 hr in
          let mid = view both.new.right in
          let here = nothing_new (view c.args.right) mid v (both.ensures.right_moment hr)
          (g.met.D.Disk.timed both.new.right still) (c.in-Ok.ensures.any_moment still).0 in
          (record { left = λ is. cc; right_one = λ is. (here, both.ensures.left_moment hl) }, tt);
      new = search rules;
      ranges = search rules;
      stored = λ honest. c.in-Ok.ensures.found (c.in-Ok.ensures.honest.0.1 honest);
      counted = λ honest. c.in-Ok.ensures.counted (c.in-Ok.ensures.honest.0.1 honest);
      durable = search rules;
      honest = search rules;
      cause = search rules;
      steady = search rules;
      clock = search rules;
    }

pub returns-in-Err-open_file-2 : goal.returns-in-Err-open_file-2
returns-in-Err-open_file-2 g c =
    let is = g.D.Disk.honest in
    let l = (g.D.Disk.view c.args.left).seen in
    let r = (g.D.Disk.view c.args.right).seen in
    let told = c.told_on-in-Err-open_file-2.result in
    let fault = c.in-Err-open_file-2.fault in
    let says : is c.args.left → is c.args.right → told ≢ choices.Disk → told ≢ choices.Memory → IsFaultOfBoth l r told = λ left right disk memory.
    let choice = subst (λ b. IsChoice l r (Ok b)) c.in-Ok-false.field-0-test (c.in-Ok-false.ensures.found left right) in
    let still = c.look_at_both.ensures.left_honest.0 left in
    chosen_fault l r false fault told choice c.told_on-in-Err-open_file-2.ensures
    (λ other. subst (λ f. IsFaultOfFile f fault) (c.in-Ok-false.ensures.left_seen left) (c.in-Err-open_file-2.ensures.fault still other)) disk
    in
    record {
      found = search rules;
      up = search rules;
      sides = search rules;
      only = λ st left right stands. (tt, only_told l r told st stands (says left right));
      fault = says;
      any_moment = search rules;
      new = search rules;
      ranges = search rules;
      stored = search rules;
      counted = search rules;
      durable = search rules;
      honest = search rules;
      cause =
          let count = g.D.Disk.failures in
          let mid = count c.look_at_both.new.left in
          let steady = c.in-Ok-false.ensures.steady in
          left_told choices.Disk told (count c.args.left) (count c.in-Err-open_file-2.left) (count c.args.right) (count c.look_at_both.new.right)
          (renamed choices.Disk told banks.Disk fault (count c.args.left) (count c.in-Err-open_file-2.left)
          (side_failed false fault told c.told_on-in-Err-open_file-2.ensures)
          (tells_on banks.Disk fault (count c.args.left) mid (count c.in-Err-open_file-2.left) steady.0 c.in-Err-open_file-2.ensures.cause)) steady.1;
      steady = search rules;
      clock = search rules;
    }

pub returns-in-Ok-open_file : goal.returns-in-Ok-open_file
returns-in-Ok-open_file g c =
    let is = g.D.Disk.honest in
    let view = g.D.Disk.view in
    let l = (view c.args.left).seen in
    let r = (view c.args.right).seen in
    let v = view c.in-Ok-open_file.bank.disk in
    let w = view c.look_at_both.new.right in
    let bank = c.in-Ok-open_file.bank in
    let here : is c.args.left → v.seen ≡ l = λ left. c.in-Ok-open_file.ensures.seen (c.look_at_both.ensures.left_honest.0 left)
    ∙ c.in-Ok-false.ensures.left_seen left in
    let up : is c.args.left → is c.args.right → IsUp bank.form bank.generation bank.end v w c.in-Ok-open_file.state = λ left right.
    let choice = subst (λ b. IsChoice l r (Ok b)) c.in-Ok-false.field-0-test (c.in-Ok-false.ensures.found left right) in
    up_left l r bank.form bank.generation bank.end v w c.in-Ok-open_file.state choice
    (c.in-Ok-open_file.ensures.found (c.look_at_both.ensures.left_honest.0 left)) (here left)
    (c.in-Ok-false.ensures.right_seen right) (c.in-Ok-false.ensures.right_durable right)
    in
    let found : is c.args.left → is c.args.right → Stands l r c.in-Ok-open_file.state = λ left right.
    inl (used_here l r bank.form bank.generation bank.end v w c.in-Ok-open_file.state (up left right) (here left) (c.in-Ok-false.ensures.right_seen right))
    in
    record {
      found = found;
      up = up;
      sides = search rules;
      only = λ st left right stands. (one_stands l r c.in-Ok-open_file.state st (found left right) stands, tt);
      fault = search rules;
      any_moment = λ hl hr.
          let both = c.look_at_both in
          let still = both.ensures.left_honest.0 hl in
          let mid = view both.new.left in
          let here = nothing_new (view c.args.left) mid v (both.ensures.left_moment hl)
          (g.met.D.Disk.timed both.new.left still) (c.in-Ok-open_file.ensures.any_moment still).0 in
          (record { left = λ is. (here, both.ensures.right_moment hr); right_one = λ is. cc }, tt);
      new = search rules;
      ranges = search rules;
      stored = λ honest. c.in-Ok-open_file.ensures.found (c.in-Ok-open_file.ensures.honest.0.1 honest);
      counted = λ honest. c.in-Ok-open_file.ensures.counted (c.in-Ok-open_file.ensures.honest.0.1 honest);
      durable = search rules;
      honest = search rules;
      cause = search rules;
      steady = search rules;
      clock = search rules;
    }
