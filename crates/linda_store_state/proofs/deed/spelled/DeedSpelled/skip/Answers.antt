-- What comes after the kind byte was passed over.
use Rattle.std.proofs.Common.{◌-◌, take, drop, length, arith, sym, subst}
use Rattle.std.proofs.lemmas.Grind.{common_steps}
use Rattle.linda_codec.specs.Steps.{GivesAlways, left_by}
use Rattle.linda_store_state.proofs.DeedFormatLaws.{out_at, take_at, pass_at}
use Rattle.linda_store_state.proofs.deed.spelled.DeedSpelled.skip.Goals as goal

pub returns-in-1 : goal.returns-in-1
returns-in-1 c =
    subst (λ r. GivesAlways (λ rest. rest.now) c.skip_out.result (left_by r))
    (sym (out_at c.args.form c.args.bytes.now (take (length c.args.bytes.now - 1) (drop 1 c.args.bytes.now)) (grind (arith, common_steps)))) c.skip_out.ensures

pub returns-in-2 : goal.returns-in-2
returns-in-2 c =
    subst (λ r. GivesAlways (λ rest. rest.now) c.skip_take.result (left_by r))
    (sym (take_at c.args.form c.args.bytes.now (take (length c.args.bytes.now - 1) (drop 1 c.args.bytes.now)) (grind (arith, common_steps))))
    c.skip_take.ensures

pub returns-in-3 : goal.returns-in-3
returns-in-3 c =
    subst (λ r. GivesAlways (λ rest. rest.now) c.skip_pass.result (left_by r))
    (sym (pass_at c.args.form c.args.bytes.now (take (length c.args.bytes.now - 1) (drop 1 c.args.bytes.now)) (grind (arith, common_steps))))
    c.skip_pass.ensures
