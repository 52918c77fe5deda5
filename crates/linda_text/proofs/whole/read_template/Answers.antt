use Rattle.std.proofs.Common.{◌≡◌, ap, Err}
use Rattle.linda_text.specs.declared.fault.TextFault.TheVariants.{Memory}
use Rattle.linda_text.proofs.RowLaws.{template_is}
use Rattle.linda_text.proofs.PlaceLaws.{alone_found, alone_only, alone_no_fault, alone_there}
use Rattle.linda_text.proofs.whole.read_template.Goals as goal

pub returns-in-Ok-clause-found : goal.returns-in-Ok-clause-found
returns-in-Ok-clause-found c = alone_found template_is _ _ c.in-Ok.ensures.value

pub returns-in-Ok-clause-only : goal.returns-in-Ok-clause-only
returns-in-Ok-clause-only c = λ a is. let same = alone_only template_is _ _ c.in-Ok.ensures.value a is.0 is.1 in cc

pub returns-in-Err-clause-only : goal.returns-in-Err-clause-only
returns-in-Err-clause-only c = λ a is not_memory.
    absurd (alone_no_fault template_is _ _ c.in-Err.fault c.placed.result c.in-Err.ensures.value c.placed.ensures.value a is.0 is.1 not_memory)

pub returns-in-Err-clause-memory : goal.returns-in-Err-clause-memory
returns-in-Err-clause-memory c = λ e.
    let told : c.placed.result ≡ Memory = cc in
    alone_there template_is _ (c.in-Err.ensures.memory (ap (λ fault. Err fault) (c.placed.ensures.memory told)))
