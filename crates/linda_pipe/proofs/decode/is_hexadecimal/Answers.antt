use Rattle.std.proofs.Common.{rules}
use Rattle.linda_pipe.proofs.DigitLaws.{digits_decode}
use Rattle.linda_pipe.proofs.decode.is_hexadecimal.Goals as goal

pub returns-then-text-eq0 : goal.returns-then-text-eq0
returns-then-text-eq0 c =
    let known = digits_decode c.args.text.now (search rules) in
    ((λ all. known.0 (c.are_digits.ensures.0 all)), (λ ok. c.are_digits.ensures.1 (known.1 ok)))
