-- The head that HAProxy sends ahead of what a client sends: version 2 of the PROXY protocol, with
-- the name of the client's certificate.
use Rattle.std.specs.Prelude.{◌≡◌, ℕ, suc, zero, ◌+◌, ◌-◌, ◌*◌, ◌^◌, ◌<◌, ◌≤◌, ◌⊎◌, ◌==◌, nat_lt}
use Rattle.std.specs.Prelude.{Bool, true, false, ◌&&◌, ◌||◌, if◌then◌else◌}
use Rattle.std.specs.Prelude.{List, [], ◌∷◌, ◌++◌, length, take, drop, slice_index}
use Rattle.std.specs.Prelude.{Option, Some, None}
use Rattle.std.specs.Option.{option_and_then}
use Rattle.std.specs.Str.{bytes_eq}
use Rattle.std.specs.Str.Parse.{IsNumeral, digits_value}
use Rattle.linda_gate_pass.specs.declared.head.ProxyHead.{ProxyHead}
use Rattle.linda_gate_pass.specs.declared.head.ProxyHead.TheVariants as heads
use Rattle.linda_gate_pass.specs.declared.head.TheConstants.{HEAD_BYTES, SIGNATURE, PROXY}
use Rattle.linda_gate_pass.specs.declared.head.TheConstants.{TCP4, TCP4_BYTES, TCP6, TCP6_BYTES}
use Rattle.linda_gate_pass.specs.declared.head.TheConstants.{FIELDS, TLS, NAME, SHOWN, SHOWN_NOW}
use Rattle.linda_gate_pass.specs.declared.client_numbers.ClientNumbers.{ClientNumbers}

-- ---- the name of a certificate

-- Whether a number may begin so: no other digit is after a leading zero.
abbrev pub begins_number : List ℕ → Bool
begins_number [] = false
begins_number (first ∷ []) = true
begins_number (first ∷ second ∷ later) = nat_lt 48 first

-- The bytes are the decimal digits of a number of 32 bits.
pub record IsNumber (bytes : List ℕ) (n : ℕ) : Type 0 where
  pub begins : begins_number bytes ≡ true
  pub digits : IsNumeral 10 bytes
  pub value : digits_value 10 bytes ≡ n
  pub short : n < 2 ^ 32

-- The first and the last number, with a dash between them.
pub record IsRange (name : List ℕ) (numbers : ClientNumbers) : Type 0 where
  pub first : List ℕ
  pub last : List ℕ
  pub spelled : name ≡ first ++ 45 ∷ last
  pub low : IsNumber first numbers.low
  pub high : IsNumber last numbers.high
  pub order : numbers.low ≤ numbers.high

-- The name says these numbers: it is one number, or the first and the last of several.
abbrev pub Names : List ℕ → ClientNumbers → Type 0
Names name numbers =
    (IsNumber name numbers.low × (numbers.high ≡ numbers.low)) ⊎ IsRange name numbers

-- ---- the fields of a head

-- The number that two bytes are.
abbrev pub two : ℕ → ℕ → ℕ
two high low = high * 256 + low

-- How long the value of the field at the front is.
abbrev pub value_len : List ℕ → ℕ
value_len bytes = two (slice_index bytes 1) (slice_index bytes 2)

-- The value of the first field of a kind, of so many fields at most: each is its kind, how long its
-- value is in two bytes, and the value.
unfoldable pub field : ℕ → ℕ → List ℕ → Option (List ℕ)
field zero wanted bytes = None
field (suc count) wanted bytes =
    if nat_lt (length bytes) (3 + value_len bytes) then None
    else if slice_index bytes 0 == wanted then Some (take (value_len bytes) (drop 3 bytes))
    else field count wanted (drop (3 + value_len bytes) bytes)

-- Whether what is known of TLS is that the client showed a certificate, and that it was verified:
-- four bytes that are zero.
abbrev pub is_verified : List ℕ → Bool
is_verified tls =
    ((slice_index tls 0 == SHOWN) || (slice_index tls 0 == SHOWN_NOW))
    && (slice_index tls 1 == 0) && (slice_index tls 2 == 0)
    && (slice_index tls 3 == 0) && (slice_index tls 4 == 0)

-- The name in what is known of TLS.
abbrev pub name_in : List ℕ → Option (List ℕ)
name_in tls =
    if nat_lt (length tls) 5 then None
    else if is_verified tls then field FIELDS NAME (drop 5 tls)
    else None

-- The name of a verified certificate in the fields of a head.
abbrev pub certificate : List ℕ → Option (List ℕ)
certificate fields = option_and_then name_in (field FIELDS TLS fields)

-- ---- a head

-- Whether it begins as the head of a client's connection.
abbrev pub is_of_client : List ℕ → Bool
is_of_client bytes = bytes_eq (take 12 bytes) SIGNATURE && (slice_index bytes 12 == PROXY)

-- How long the two addresses are.
abbrev pub addresses_of : ℕ → Option ℕ
addresses_of family =
    if family == TCP4 then Some TCP4_BYTES
    else if family == TCP6 then Some TCP6_BYTES
    else None

-- How long a head is.
abbrev pub head_len : List ℕ → ℕ
head_len bytes = HEAD_BYTES + two (slice_index bytes 14) (slice_index bytes 15)

-- The fields of a head of this length, which are after its addresses.
abbrev pub fields_in : List ℕ → ℕ → ℕ → List ℕ
fields_in bytes len addresses =
    take (len - (HEAD_BYTES + addresses)) (drop (HEAD_BYTES + addresses) bytes)

-- The first so many bytes are a head, of a client whose certificate has these numbers for a name.
pub record IsHead (bytes : List ℕ) (numbers : ClientNumbers) (len : ℕ) : Type 0 where
  pub client : is_of_client bytes ≡ true
  pub is_len : len ≡ head_len bytes
  pub whole : len ≤ length bytes
  pub addresses : ℕ
  pub family : addresses_of (slice_index bytes 13) ≡ Some addresses
  pub name : List ℕ
  pub shown : certificate (fields_in bytes len addresses) ≡ Some name
  pub names : Names name numbers

-- What is read of bytes: that a part of a head is missing, or the head.
abbrev pub Heads : List ℕ → ProxyHead → Type 0
Heads bytes heads.Short = (length bytes < HEAD_BYTES) ⊎ (length bytes < head_len bytes)
Heads bytes (heads.Allows numbers len) = IsHead bytes numbers len
Heads bytes heads.Refused = Unit {0}
