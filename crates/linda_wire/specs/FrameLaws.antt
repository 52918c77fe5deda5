-- The formats of messages and replies are lawful, and their spellings fit into frames.
use Rattle.std.specs.Prelude.{◌≡◌, ℕ, ◌+◌, ◌*◌, ◌<◌, ◌≤◌, List, [], ◌∷◌, ◌++◌, All, length, Ok}
use Rattle.std.specs.Prelude.{refl}
use Rattle.std.specs.List.{flat_map, AllByRecursion}
use Rattle.std.proofs.Common.{arith}
use Rattle.std.proofs.lemmas.List.{length-append}
use Rattle.std.proofs.lemmas.List.Elements.{recursion_from_All}
use Rattle.linda_tuple.specs.declared.atom.Atom.{Atom}
use Rattle.linda_tuple.specs.declared.atom.Atom.TheVariants as atoms
use Rattle.linda_tuple.specs.declared.pattern.Pattern.TheVariants as patterns
use Rattle.linda_tuple.specs.Form.{longest_text, most_fields}
use Rattle.linda_tuple.specs.Atom.{IsSoundIn}
use Rattle.linda_tuple.specs.Tuple.{Tuple, FitsIn}
use Rattle.linda_tuple.specs.Template.{Template, IsSoundPatternIn, FitsTemplateIn}
use Rattle.linda_codec.specs.Formats.{Format, no_kind, made_at}
use Rattle.linda_codec.specs.Lawful.{IsFormat}
use Rattle.linda_codec.specs.Values as value
use Rattle.linda_codec.proofs.FormatLaws.{byte_is, short_number_is, number_is, truth_is, both_is}
use Rattle.linda_codec.proofs.FormatLaws.{IsReader, body_is, made_again, no_kind_is, AreBodies}
use Rattle.linda_codec.proofs.FormatLaws.{choice_is}
use Rattle.linda_codec.proofs.ValueLaws.{tuple_is, template_is}
use Rattle.linda_wire.specs.declared.kinds.TheConstants as kind
use Rattle.linda_wire.specs.declared.limits.TheConstants.{MAX_PAYLOAD}
use Rattle.linda_wire.specs.declared.message.Message.{Message}
use Rattle.linda_wire.specs.declared.message.Message.TheVariants.{Hello, Out, Ask, Accept, Cancel}
use Rattle.linda_wire.specs.declared.message.Message.TheVariants.{Leave}
use Rattle.linda_wire.specs.declared.reply.Reply.{Reply}
use Rattle.linda_wire.specs.declared.reply.Reply.TheVariants.{Welcome, Stored, Offer, Read, Taken}
use Rattle.linda_wire.specs.declared.reply.Reply.TheVariants.{Gone, Refused, Left}
use Rattle.linda_wire.specs.Frames as format
use Rattle.linda_wire.specs.Frames.{spoken, of_two, of_three}

-- The first of several facts, and the others.
infixr 5 ◌&◌
◌&◌ : {A B : Type 0} → A → B → A × B
a & b = (a, b)

-- ---- messages

hello_is : IsFormat format.hello
hello_is = both_is byte_is (both_is short_number_is truth_is)

out_is : IsFormat format.out
out_is = both_is number_is (tuple_is spoken)

ask_is : IsFormat format.ask
ask_is = both_is number_is (both_is truth_is (template_is spoken))

accept_is : IsFormat format.accept
accept_is = both_is number_is (both_is number_is number_is)

-- A body after a kind byte that makes a message.
message_body : {A : Type 0} {f : Format A} → IsFormat f → (kind : ℕ) (make : A → Message)
    → ((a : A) → format.spell_message (make a) ≡ kind ∷ f.spell a)
    → ((a : A) → f.Fits a → format.FitsMessage (make a))
    → IsReader format.spell_message format.FitsMessage (kind ∷ []) (made_at make f)
message_body is kind make spelled fits =
    body_is is format.spell_message format.FitsMessage (kind ∷ []) make spelled fits

message_bodies : AreBodies format.spell_message format.FitsMessage format.message_kinds
message_bodies =
    message_body hello_is kind.HELLO (of_three Hello) (λ p. refl) (λ p fits. fits)
    & message_body out_is kind.OUT (of_two Out) (λ p. refl) (λ p fits. fits)
    & message_body ask_is kind.ASK (of_three Ask) (λ p. refl) (λ p fits. fits)
    & message_body accept_is kind.ACCEPT (of_three Accept) (λ p. refl) (λ p fits. fits)
    & message_body number_is kind.CANCEL Cancel (λ n. refl) (λ n fits. fits)
    & message_body number_is kind.LEAVE Leave (λ n. refl) (λ n fits. fits) & tt

message_again : (m : Message) (rest : List ℕ) → format.FitsMessage m
    → format.message.read (format.spell_message m ++ rest) ≡ Ok (m, rest)
message_again (Hello version client fresh) rest fits =
    made_again hello_is (of_three Hello) (version, (client, fresh)) rest fits
message_again (Out n tuple) rest fits = made_again out_is (of_two Out) (n, tuple) rest fits
message_again (Ask ticket remove template) rest fits =
    made_again ask_is (of_three Ask) (ticket, (remove, template)) rest fits
message_again (Accept n ticket id) rest fits =
    made_again accept_is (of_three Accept) (n, (ticket, id)) rest fits
message_again (Cancel ticket) rest fits = made_again number_is Cancel ticket rest fits
message_again (Leave n) rest fits = made_again number_is Leave n rest fits

pub message_is : IsFormat format.message
message_is =
    choice_is format.spell_message format.FitsMessage format.message_kinds no_kind
    message_bodies (no_kind_is format.spell_message format.FitsMessage) message_again

-- ---- replies

stored_is : IsFormat format.stored
stored_is = both_is number_is number_is

entry_is : IsFormat format.entry
entry_is = both_is number_is (both_is number_is (tuple_is spoken))

refusal_is : IsFormat format.refusal
refusal_is = both_is byte_is number_is

-- A body after a kind byte that makes a reply.
reply_body : {A : Type 0} {f : Format A} → IsFormat f → (kind : ℕ) (make : A → Reply)
    → ((a : A) → format.spell_reply (make a) ≡ kind ∷ f.spell a)
    → ((a : A) → f.Fits a → format.FitsReply (make a))
    → IsReader format.spell_reply format.FitsReply (kind ∷ []) (made_at make f)
reply_body is kind make spelled fits =
    body_is is format.spell_reply format.FitsReply (kind ∷ []) make spelled fits

reply_bodies : AreBodies format.spell_reply format.FitsReply format.reply_kinds
reply_bodies =
    reply_body number_is kind.WELCOME Welcome (λ n. refl) (λ n fits. fits)
    & reply_body stored_is kind.STORED (of_two Stored) (λ p. refl) (λ p fits. fits)
    & reply_body entry_is kind.OFFER (of_three Offer) (λ p. refl) (λ p fits. fits)
    & reply_body entry_is kind.READ (of_three Read) (λ p. refl) (λ p fits. fits)
    & reply_body entry_is kind.TAKEN (of_three Taken) (λ p. refl) (λ p fits. fits)
    & reply_body number_is kind.GONE Gone (λ n. refl) (λ n fits. fits)
    & reply_body refusal_is kind.REFUSED (of_two Refused) (λ p. refl) (λ p fits. fits)
    & reply_body number_is kind.LEFT Left (λ n. refl) (λ n fits. fits) & tt

reply_again : (r : Reply) (rest : List ℕ) → format.FitsReply r
    → format.reply.read (format.spell_reply r ++ rest) ≡ Ok (r, rest)
reply_again (Welcome last) rest fits = made_again number_is Welcome last rest fits
reply_again (Stored n id) rest fits = made_again stored_is (of_two Stored) (n, id) rest fits
reply_again (Offer ticket id tuple) rest fits =
    made_again entry_is (of_three Offer) (ticket, (id, tuple)) rest fits
reply_again (Read ticket id tuple) rest fits =
    made_again entry_is (of_three Read) (ticket, (id, tuple)) rest fits
reply_again (Taken n id tuple) rest fits =
    made_again entry_is (of_three Taken) (n, (id, tuple)) rest fits
reply_again (Gone n) rest fits = made_again number_is Gone n rest fits
reply_again (Refused code detail) rest fits =
    made_again refusal_is (of_two Refused) (code, detail) rest fits
reply_again (Left n) rest fits = made_again number_is Left n rest fits

pub reply_is : IsFormat format.reply
reply_is =
    choice_is format.spell_reply format.FitsReply format.reply_kinds no_kind
    reply_bodies (no_kind_is format.spell_reply format.FitsReply) reply_again

-- ---- sizes

-- No more than these bytes are in an atom's spelling.
abbrev ATOM_BYTES : ℕ
ATOM_BYTES = longest_text spoken + 3

-- Each value's spelling is that short.
abbrev AreShort : {A : Type 0} → (A → List ℕ) → (A → Type 0) → Type 0
AreShort {A = A} spell Fits = (a : A) → Fits a → length (spell a) ≤ ATOM_BYTES

atom_short : AreShort (value.atom spoken).spell (IsSoundIn spoken)
atom_short (atoms.Int n) sound = omega arith
atom_short (atoms.Text t) sound = omega (arith, sound.0)
atom_short (atoms.Bool b) sound = omega arith

pattern_short : AreShort (value.pattern spoken).spell (IsSoundPatternIn spoken)
pattern_short (patterns.Value v) sound = atom_short v sound
pattern_short patterns.IntFormal sound = omega arith
pattern_short patterns.TextFormal sound = omega arith
pattern_short patterns.BoolFormal sound = omega arith
pattern_short patterns.Any sound = omega arith

many_short : {A : Type 0} (spell : A → List ℕ) (Fits : A → Type 0) → AreShort spell Fits
    → (many : List A) → AllByRecursion Fits many
    → length (flat_map spell many) ≤ ATOM_BYTES * length many
many_short spell Fits one [] fits = omega arith
many_short spell Fits one (a ∷ many) fits =
    omega (
      arith,
      one a fits.0,
      many_short spell Fits one many fits.1,
      length-append (spell a) (flat_map spell many),
    )

-- No more than these bytes are in the spelling of a tag, a count and that many values.
abbrev VALUE_BYTES : ℕ
VALUE_BYTES = ATOM_BYTES + 1 + ATOM_BYTES * most_fields spoken

tagged_short : {A : Type 0} (spell : A → List ℕ) (Fits : A → Type 0) → AreShort spell Fits
    → (tag : Atom) (many : List A) → IsSoundIn spoken tag → length many ≤ most_fields spoken
    → All Fits many
    → length ((value.atom spoken).spell tag ++ length many ∷ flat_map spell many) ≤ VALUE_BYTES
tagged_short spell Fits one tag many sound count fits =
    omega (
      arith,
      count,
      atom_short tag sound,
      many_short spell Fits one many (recursion_from_All Fits many fits),
      length-append ((value.atom spoken).spell tag) (length many ∷ flat_map spell many),
    )

pub tuple_short : (t : Tuple) → FitsIn spoken t
    → length ((value.tuple spoken).spell t) ≤ VALUE_BYTES
tuple_short t within =
    tagged_short (value.atom spoken).spell (IsSoundIn spoken) atom_short t.tag t.fields
    within.tag within.count within.fields

pub template_short : (t : Template) → FitsTemplateIn spoken t
    → length ((value.template spoken).spell t) ≤ VALUE_BYTES
template_short t within =
    tagged_short (value.pattern spoken).spell (IsSoundPatternIn spoken) pattern_short t.tag t.fields
    within.tag within.count within.fields

-- A payload is not empty, and no longer than a frame's may be.
pub record IsPayload (payload : List ℕ) : Type 0 where
  pub some : 0 < length payload
  pub short : length payload ≤ MAX_PAYLOAD

pub message_size : (m : Message) → format.FitsMessage m → IsPayload (format.spell_message m)
message_size (Hello version client fresh) fits = record { some = omega arith; short = omega arith }
message_size (Out n tuple) fits =
    record { some = omega arith; short = omega (arith, tuple_short tuple fits.1) }
message_size (Ask ticket remove template) fits =
    record { some = omega arith; short = omega (arith, template_short template fits.1.1) }
message_size (Accept n ticket id) fits = record { some = omega arith; short = omega arith }
message_size (Cancel ticket) fits = record { some = omega arith; short = omega arith }
message_size (Leave n) fits = record { some = omega arith; short = omega arith }

pub reply_size : (r : Reply) → format.FitsReply r → IsPayload (format.spell_reply r)
reply_size (Welcome last) fits = record { some = omega arith; short = omega arith }
reply_size (Stored n id) fits = record { some = omega arith; short = omega arith }
reply_size (Offer ticket id tuple) fits =
    record { some = omega arith; short = omega (arith, tuple_short tuple fits.1.1) }
reply_size (Read ticket id tuple) fits =
    record { some = omega arith; short = omega (arith, tuple_short tuple fits.1.1) }
reply_size (Taken n id tuple) fits =
    record { some = omega arith; short = omega (arith, tuple_short tuple fits.1.1) }
reply_size (Gone n) fits = record { some = omega arith; short = omega arith }
reply_size (Refused code detail) fits = record { some = omega arith; short = omega arith }
reply_size (Left n) fits = record { some = omega arith; short = omega arith }
