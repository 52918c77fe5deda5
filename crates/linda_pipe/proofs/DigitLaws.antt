-- Which texts are hexadecimal: pairs of digits.
use Rattle.std.proofs.Common.{◌≡◌, ◌↔◌, ℕ, ◌%◌, List, length, Result, Ok, Err, refl, sym, subst}
use Rattle.std.specs.Prelude.{IsOk}
use Rattle.std.specs.List.{AllPass}
use Rattle.hex.specs.declared.error.FromHexError.{FromHexError}
use Rattle.hex.specs.Hex.{decode_of, is_hex_digit}
use Rattle.hex.proofs.HexLemmas.{decode_of-digits, decode_of-ok}

-- A text that decodes has only digits.
digits_of_ok : (s : List ℕ) (r : Result (List ℕ) FromHexError) → decode_of s ≡ r → IsOk r → AllPass is_hex_digit s
digits_of_ok s (Ok bytes) e ok = (decode_of-ok s bytes e).1
digits_of_ok s (Err fault) e ok = absurd cc

-- A text of even length decodes exactly if it has only digits.
pub digits_decode : (s : List ℕ) → length s % 2 ≡ 0 → AllPass is_hex_digit s ↔ IsOk (decode_of s)
digits_decode s even = (
  (λ digits. let found = decode_of-digits s even digits in subst (λ (r : Result (List ℕ) FromHexError). IsOk r) (sym found.1) refl),
  (λ ok. digits_of_ok s (decode_of s) refl ok),
)
