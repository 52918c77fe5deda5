use Rattle.std.proofs.Common.{rules, ℕ, ◌+◌, ◌-◌, List, drop, ◌∙◌, sym, ap}
use Rattle.std.proofs.lemmas.List.{take_rest}
use Rattle.linda_gate_pass.specs.Head.{field}
use Rattle.linda_gate_pass.proofs.HeadLaws.{field_none, field_later}
use Rattle.linda_gate_pass.proofs.head.+field.Goals as goal

-- Of no fields none is found.
pub returns-then-count-eq0 : goal.returns-then-count-eq0
returns-then-count-eq0 t c = sym (field_none c.args.count c.args.wanted c.args.bytes.now (search (rules, c.if-count-eq0.true)))

-- If the first field is of another kind, the one that is wanted is among the fields after it.
pub returns : goal.returns
returns t c =
    let later = field_later c.args.count c.args.wanted c.args.bytes.now (search (rules, c.if-count-eq0.false))
    (search rules) (search (rules, c.if-bytes-wanted.false)) in
    let less = c.args.count - 1 in
    c.field.ensures ∙ ap (λ (bytes : List ℕ). field less c.args.wanted bytes) (take_rest c.args.bytes.now (3 + c.two-end.result))
    ∙ ap (λ (n : ℕ). field less c.args.wanted (drop (3 + n) c.args.bytes.now)) c.two-end.ensures.is ∙ sym later
