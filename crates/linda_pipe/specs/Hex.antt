-- Hexadecimal lines, and the bytes that they spell.
use Rattle.std.specs.Prelude.{ℕ, List, Option}
use Rattle.std.specs.Result.{result_ok}
use Rattle.std.specs.Io.BufRead.{strip_last}
use Rattle.hex.specs.Hex.{decode_of}
use Rattle.linda_pipe.specs.declared.decode.TheConstants.{CARRIAGE_RETURN}

-- the digits of a line: all of it but a carriage return at its end
abbrev pub digits_of : List ℕ → List ℕ
digits_of line = strip_last CARRIAGE_RETURN line

-- the piece of the stream that a line says, if it is hexadecimal
abbrev pub piece_of : List ℕ → Option (List ℕ)
piece_of line = result_ok (decode_of (digits_of line))
