use Rattle.std.proofs.Common.{◌≡◌, ap, Err}
use Rattle.linda_text.specs.declared.fault.TextFault.TheVariants.{Memory}
use Rattle.linda_shell_text.specs.declared.fault.EventTextFault.TheVariants.{Text}
use Rattle.linda_shell_text.proofs.AloneLaws.{alone_found, alone_only, alone_no_fault, alone_there}
use Rattle.linda_shell_text.proofs.event.read_event.Goals as goal

pub returns-in-Ok-clause-found : goal.returns-in-Ok-clause-found
returns-in-Ok-clause-found c = alone_found _ _ c.in-Ok.ensures.value

pub returns-in-Ok-clause-only : goal.returns-in-Ok-clause-only
returns-in-Ok-clause-only c = λ a alone. let same = alone_only _ _ c.in-Ok.ensures.value a alone in cc

pub returns-in-Err-clause-only : goal.returns-in-Err-clause-only
returns-in-Err-clause-only c =
    λ a alone not_memory. absurd (alone_no_fault _ _ c.in-Err.fault c.placed.result c.in-Err.ensures.value c.placed.ensures.value a alone not_memory)

pub returns-in-Err-clause-memory : goal.returns-in-Err-clause-memory
returns-in-Err-clause-memory c = λ e.
    let told : c.placed.result ≡ Text Memory = cc in
    alone_there _ (c.in-Err.ensures.memory (ap (λ fault. Err fault) (c.placed.ensures.memory told)))
