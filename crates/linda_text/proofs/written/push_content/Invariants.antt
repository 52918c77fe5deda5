use Rattle.std.proofs.Common.{◌≡◌, ◌++◌}
use Rattle.std.specs.List.{flat_map}
use Rattle.std.specs.Str.{encode_utf8_all}
use Rattle.std.specs.String.{string_bytes}
use Rattle.linda_text.specs.Written.{written_byte}
use Rattle.linda_text.proofs.written.push_content.Given as goal

-- What was written of the characters so far.
abbrev pub invariant-loop-c : goal.invariant-loop-c
invariant-loop-c l = string_bytes l.out ≡ string_bytes l.initial.out ++ flat_map written_byte (encode_utf8_all l.yielded)
