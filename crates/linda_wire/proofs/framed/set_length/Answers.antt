use Rattle.std.proofs.Common.{◌≡◌, ℕ, ◌+◌, ◌-◌, List, ◌++◌, length, take, drop, refl, sym, ap, ◌∙◌, arith}
use Rattle.std.proofs.lemmas.List.{length-drop, drop-drop}
use Rattle.linda_wire.specs.declared.limits.TheConstants.{LENGTH_BYTES}
use Rattle.linda_wire.specs.Frames.{length_field, frame}
use Rattle.linda_wire.proofs.framed.set_length.Goals as goal

-- A length written over the bytes before a payload makes its frame.
framed : (bytes field : List ℕ) (start : ℕ) → field ≡ length_field (length bytes - (start + LENGTH_BYTES))
    → take start bytes ++ (field ++ drop (start + LENGTH_BYTES - start) (drop start bytes)) ≡ take start bytes ++ frame (drop (start + LENGTH_BYTES) bytes)
framed bytes field start e =
    let four : start + LENGTH_BYTES - start ≡ LENGTH_BYTES = omega arith in
    let rest : drop (start + LENGTH_BYTES - start) (drop start bytes) ≡ drop (start + LENGTH_BYTES) bytes = rw four (drop-drop LENGTH_BYTES start bytes) in
    let same : field ≡ length_field (length (drop (start + LENGTH_BYTES) bytes)) = e ∙ ap length_field (sym (length-drop (start + LENGTH_BYTES) bytes)) in
    rw (rest, same) refl

pub returns : goal.returns
unfolding length_field
returns c = framed c.args.bytes.now c.copy_from_slice.new.self c.args.start (c.copy_from_slice.ensures.after ∙ c.to_be_bytes.ensures)
