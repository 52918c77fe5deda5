-- Offsets that are reported to clients for faults of frames.
use Rattle.std.specs.Prelude.{ℕ, Option, Some, None}
use Rattle.linda_wire.specs.declared.fault.FrameFault.{FrameFault}
use Rattle.linda_wire.specs.declared.fault.FrameFault.TheVariants.{Memory, EmptyFrame, FrameTooLong}
use Rattle.linda_wire.specs.declared.fault.FrameFault.TheVariants.{Malformed}

-- The offset of the first byte at fault, 0 if the length of the frame is; none if memory ran out.
abbrev pub offset_of : FrameFault → Option ℕ
offset_of Memory = None
offset_of EmptyFrame = Some 0
offset_of (FrameTooLong len) = Some 0
offset_of (Malformed offset) = Some offset
