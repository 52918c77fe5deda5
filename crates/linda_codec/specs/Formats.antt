-- Formats: the one spelling of a value, which values have one, and its reader; and formats made of
-- formats.
use Rattle.std.specs.Prelude.{◌≡◌, ℕ, zero, suc, ◌<◌, ◌≤◌, ◌^◌, ◌==◌, ℤ, Bool, true, false, List}
use Rattle.std.specs.Prelude.{[], ◌∷◌, ◌++◌, length, take, drop, All, Ok, Err, FitsSigned, nat_lt}
use Rattle.std.specs.Prelude.{if◌then◌else◌}
use Rattle.std.specs.List.{flat_map}
use Rattle.std.specs.Int.{Width, w16, w32, w64, byte_len, to_be_bytes, from_be_bytes, cast_signed}
use Rattle.std.specs.Int.{cast_unsigned}
use Rattle.std.specs.Str.{is_utf8}
use Rattle.linda_codec.specs.declared.fault.ReadFault.TheVariants.{Short, BadKind, BadBool, BadText}
use Rattle.linda_codec.specs.declared.fault.ReadFault.TheVariants.{TooMany, LongText}
use Rattle.linda_codec.specs.Steps.{Reader, ◌>>=◌, many_at}

-- The one spelling of a value, which values have one, and the reader.
pub record Format (A : Type 0) : Type 1 where
  pub spell : A → List ℕ
  pub Fits : A → Type 0
  pub read : Reader A

-- ---- numbers and truth values

-- A byte.
abbrev pub byte_at : Reader ℕ
byte_at [] = Err Short
byte_at (b ∷ rest) = Ok (b, rest)

abbrev pub byte : Format ℕ
byte = record { spell = λ n. n ∷ []; Fits = λ n. n < 2 ^ 8; read = byte_at }

-- An unsigned number of that width.
abbrev pub number_at : Width → Reader ℕ
number_at w bytes =
    if nat_lt (length bytes) (byte_len w) then Err Short
    else Ok (from_be_bytes w (take (byte_len w) bytes), drop (byte_len w) bytes)

-- A number of 16 bits that is not above the limit, as a text's length.
abbrev pub length_at : ℕ → Reader ℕ
length_at limit bytes =
    number_at w16 bytes >>= λ n. if nat_lt limit n.0 then Err (LongText (length bytes)) else Ok n

abbrev pub short_length : ℕ → Format ℕ
short_length limit =
    record {
      spell = to_be_bytes w16;
      Fits = λ n. (n ≤ limit) × (n < 2 ^ 16);
      read = length_at limit;
    }

-- A number of 32 bits.
abbrev pub short_number : Format ℕ
short_number = record { spell = to_be_bytes w32; Fits = λ n. n < 2 ^ 32; read = number_at w32 }

-- A number of 64 bits.
abbrev pub number : Format ℕ
number = record { spell = to_be_bytes w64; Fits = λ n. n < 2 ^ 64; read = number_at w64 }

-- A signed number of 64 bits, in two's complement.
abbrev pub integer : Format ℤ
integer = record {
  spell = λ n. to_be_bytes w64 (cast_unsigned w64 n);
  Fits = FitsSigned w64;
  read = λ bytes. number_at w64 bytes >>= λ n. Ok (cast_signed w64 n.0, n.1);
}

-- A truth value: 1 for true, 0 for false.
unfoldable pub truth_at : Reader Bool
truth_at [] = Err Short
truth_at (zero ∷ rest) = Ok (false, rest)
truth_at (suc zero ∷ rest) = Ok (true, rest)
truth_at (suc (suc b) ∷ rest) = Err (BadBool (suc (length rest)))

abbrev pub truth : Format Bool
truth = record { spell = λ b. (if b then 1 else 0) ∷ []; Fits = λ b. Unit {0}; read = truth_at }

-- ---- formats of formats

-- Nothing, of no bytes.
abbrev pub nothing : Format (Unit {0})
nothing = record { spell = λ n. []; Fits = λ n. Unit {0}; read = λ bytes. Ok (tt, bytes) }

-- Two formats, one after the other.
abbrev pub both : {A B : Type 0} → Format A → Format B → Format (A × B)
both f g = record {
  spell = λ p. f.spell p.0 ++ g.spell p.1;
  Fits = λ p. f.Fits p.0 × g.Fits p.1;
  read = λ bytes. f.read bytes >>= λ a. g.read a.1 >>= λ b. Ok ((a.0, b.0), b.1);
}

-- What a format reads, as what it makes.
abbrev pub made_at : {A M : Type 0} → (A → M) → Format A → Reader M
made_at make f bytes = f.read bytes >>= λ a. Ok (make a.0, a.1)

-- A value that is made of another one, spelled as its parts.
abbrev pub made : {A M : Type 0} → (A → M) → (M → A) → Format A → Format M
made make parts f =
    record { spell = λ m. f.spell (parts m); Fits = λ m. f.Fits (parts m); read = made_at make f }

-- The same format, with another statement of which values have a spelling.
abbrev pub known_as : {A : Type 0} → (A → Type 0) → Format A → Format A
known_as Fits f = record { spell = f.spell; Fits = Fits; read = f.read }

-- A text after its length.
abbrev pub sized_text : Format ℕ → Format (List ℕ)
sized_text size = record {
  spell = λ t. size.spell (length t) ++ t;
  Fits = λ t. size.Fits (length t) × (is_utf8 t ≡ true);
  read = λ bytes. size.read bytes >>= λ n.
      if nat_lt (length n.1) n.0 then Err Short
      else (if is_utf8 (take n.0 n.1) then Ok (take n.0 n.1, drop n.0 n.1)
      else Err (BadText (length n.1)));
}

-- A count byte that is not above the limit.
abbrev pub count_at : ℕ → Reader ℕ
count_at limit [] = Err Short
count_at limit (n ∷ rest) =
    if nat_lt limit n then Err (TooMany (suc (length rest))) else Ok (n, rest)

-- A count of at most so many, and that many values.
abbrev pub counted : {A : Type 0} → ℕ → Format A → Format (List A)
counted limit f = record {
  spell = λ items. length items ∷ flat_map f.spell items;
  Fits = λ items. (length items ≤ limit) × All f.Fits items;
  read = λ bytes. count_at limit bytes >>= λ count. many_at f.read count.0 count.1;
}

-- No kind is known: of any byte that is the fault.
abbrev pub no_kind : {A : Type 0} → Reader A
no_kind [] = Err Short
no_kind (kind ∷ rest) = Err (BadKind (suc (length rest)))

-- The body that a table has for a kind byte; for a kind that it has not, what the other reader
-- makes of all the bytes.
abbrev pub body_at : {A : Type 0} → List (ℕ × Reader A) → Reader A → ℕ → Reader A
body_at [] other kind rest = other (kind ∷ rest)
body_at (row ∷ rows) other kind rest =
    if kind == row.0 then row.1 rest else body_at rows other kind rest

-- A choice by a kind byte, before a body of the table.
abbrev pub choice_at : {A : Type 0} → List (ℕ × Reader A) → Reader A → Reader A
choice_at rows other [] = other []
choice_at rows other (kind ∷ rest) = body_at rows other kind rest
