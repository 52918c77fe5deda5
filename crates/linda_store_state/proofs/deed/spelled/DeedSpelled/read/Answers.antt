use Rattle.std.proofs.Common.{◌-◌, take, drop, length, arith, Result, Ok, Err, sym, subst}
use Rattle.std.proofs.lemmas.Grind.{common_steps}
use Rattle.std.specs.Result.{IsErrOf}
use Rattle.linda_codec.specs.declared.fault.ReadFault.{ReadFault}
use Rattle.linda_codec.specs.declared.fault.ReadFault.TheVariants.{Memory}
use Rattle.linda_codec.specs.Steps.{Gives, GivesAlways}
use Rattle.linda_store_state.proofs.DeedFormatLaws.{out_there, out_at, take_at, pass_at}
use Rattle.linda_store_state.proofs.deed.spelled.DeedSpelled.read.Goals as goal

gives : {X Y : Type 0} (view : X → Y) (r : Result X ReadFault) (read : Result Y ReadFault) → GivesAlways view r read → Gives view r read
gives view (Ok x) read given = given
gives view (Err fault) read given = λ other. given.1

never : {X Y : Type 0} (view : X → Y) (r : Result X ReadFault) (read : Result Y ReadFault) → GivesAlways view r read → IsErrOf r Memory → ⊥
never view (Ok x) read given e = cc
never view (Err fault) read given e = given.0 (cc)

pub returns-in-1-clause-memory : goal.returns-in-1-clause-memory
returns-in-1-clause-memory c e =
    out_there c.args.form c.args.bytes.now (take (length c.args.bytes.now - 1) (drop 1 c.args.bytes.now))
    (grind (arith, common_steps)) (c.out_from.ensures.memory e)

pub returns-in-1-clause-value : goal.returns-in-1-clause-value
returns-in-1-clause-value c =
    subst (Gives (λ x. (x.0, x.1.now)) c.out_from.result)
    (sym (out_at c.args.form c.args.bytes.now (take (length c.args.bytes.now - 1) (drop 1 c.args.bytes.now)) (grind (arith, common_steps))))
    c.out_from.ensures.value

pub returns-in-2-clause-value : goal.returns-in-2-clause-value
returns-in-2-clause-value c =
    subst (Gives (λ x. (x.0, x.1.now)) c.take_from.result)
    (sym (take_at c.args.form c.args.bytes.now (take (length c.args.bytes.now - 1) (drop 1 c.args.bytes.now)) (grind (arith, common_steps))))
    (gives (λ x. (x.0, x.1.now)) c.take_from.result _ c.take_from.ensures)

pub returns-in-2-clause-memory : goal.returns-in-2-clause-memory
returns-in-2-clause-memory c e = absurd (never (λ x. (x.0, x.1.now)) c.take_from.result _ c.take_from.ensures e)

pub returns-in-3-clause-value : goal.returns-in-3-clause-value
returns-in-3-clause-value c =
    subst (Gives (λ x. (x.0, x.1.now)) c.pass_from.result)
    (sym (pass_at c.args.form c.args.bytes.now (take (length c.args.bytes.now - 1) (drop 1 c.args.bytes.now)) (grind (arith, common_steps))))
    (gives (λ x. (x.0, x.1.now)) c.pass_from.result _ c.pass_from.ensures)

pub returns-in-3-clause-memory : goal.returns-in-3-clause-memory
returns-in-3-clause-memory c e = absurd (never (λ x. (x.0, x.1.now)) c.pass_from.result _ c.pass_from.ensures e)
