use Rattle.std.proofs.Common.{true≢false, Err, refl, sym, ◌∙◌, rules}
use Rattle.linda_shared_held.proofs.FaultLaws.{still_up}
use Rattle.linda_shared_held.proofs.held.leave.close_client.Goals as goal

pub returns-in-Ok : goal.returns-in-Ok
returns-in-Ok g c =
    let up = c.in-Ok.ensures.up in
    record {
      done = c.in-Ok.ensures.done;
      state = c.close.ensures.same.0;
      falls = record { up = up; down = tt; first = λ down. absurd (true≢false (sym down ∙ up.0)); fault = tt };
      disks = (c.close.ensures.same.1, c.close.ensures.same.2);
      still = still_up c.args.server.now c.close.new.self up.0 up.1 c.close.ensures.same.0;
    }

pub returns-in-Err-Down : goal.returns-in-Err-Down
returns-in-Err-Down g c =
    record {
      done = tt;
      state = c.close.ensures.same.0;
      falls = record { up = tt; down = search rules; first = search rules; fault = refl };
      disks = (c.close.ensures.same.1, c.close.ensures.same.2);
      still = search rules;
    }
