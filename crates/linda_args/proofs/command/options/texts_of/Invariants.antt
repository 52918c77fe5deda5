use Rattle.std.proofs.Common.{◌≡◌, map, take}
use Rattle.std.specs.String.{string_bytes}
use Rattle.linda_args.proofs.command.options.texts_of.Given as goal

-- The values so far were copied.
abbrev pub invariant-loop-value : goal.invariant-loop-value
invariant-loop-value l = map string_bytes l.texts.items ≡ map (λ s. s.now) (take l.value-index l.values)
