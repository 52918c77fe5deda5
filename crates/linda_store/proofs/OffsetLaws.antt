-- Faults with an offset: memory has none.
use Rattle.std.proofs.Common.{◌≡◌, ◌≢◌, ◌∙◌, ℕ, Option, Some, sym, ap}
use Rattle.std.specs.Prelude.{unwrap_or}
use Rattle.std.proofs.lemmas.Option.{none-some}
use Rattle.linda_wire.specs.declared.fault.FrameFault.{FrameFault}
use Rattle.linda_wire.specs.declared.fault.FrameFault.TheVariants.{Memory}
use Rattle.linda_wire.specs.Offset.{offset_of}
use Rattle.linda_store.specs.Conversation.{detail_of}

pub has_detail : (fault : FrameFault) (offset : ℕ) → Some offset ≡ offset_of fault → (fault ≢ Memory) × (offset ≡ detail_of fault)
has_detail fault offset is = (
  λ memory. absurd (none-some offset (sym (is ∙ ap offset_of memory))),
  ap (λ (o : Option ℕ). unwrap_or o 0) is,
)
