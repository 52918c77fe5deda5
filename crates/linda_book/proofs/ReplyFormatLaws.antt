-- The format of kept replies is lawful in each form.
use Rattle.std.proofs.Common.{◌≡◌, ℕ, List, [], ◌∷◌, ◌++◌, Ok, refl}
use Rattle.linda_tuple.specs.declared.form.Form.{Form}
use Rattle.linda_tuple.specs.declared.form.Form.TheVariants.{One, Two}
use Rattle.linda_codec.specs.Formats.{no_kind}
use Rattle.linda_codec.specs.Lawful.{IsFormat}
use Rattle.linda_codec.proofs.FormatLaws.{number_is, nothing_is, both_is, body_is, made_again, no_kind_is, AreBodies, choice_is}
use Rattle.linda_codec.proofs.ValueLaws.{tuple_is}
use Rattle.linda_book.specs.declared.kept_reply.KeptReply.{KeptReply}
use Rattle.linda_book.specs.declared.kept_reply.KeptReply.TheVariants.{Stored, Taken, Gone, Left}
use Rattle.linda_book.specs.declared.kinds.TheConstants as kind
use Rattle.linda_book.specs.ReplyFormat as format

pub placed_is : (form : Form) → IsFormat (format.placed form)
placed_is form = both_is number_is (tuple_is form)

left_bodies : (form : Form) → AreBodies (format.spell_reply form) (format.FitsReply form) (format.left_kinds form)
left_bodies One = tt
left_bodies Two = (body_is nothing_is (format.spell_reply Two) (format.FitsReply Two) (kind.LEFT ∷ []) (λ _. Left) (λ n. refl) (λ n fits. tt), tt)

reply_bodies : (form : Form) → AreBodies (format.spell_reply form) (format.FitsReply form) (format.reply_kinds form)
reply_bodies form = (
  body_is number_is (format.spell_reply form) (format.FitsReply form) (kind.STORED ∷ []) (λ id. Stored id) (λ id. refl) (λ id fits. fits),
  (
    body_is (placed_is form) (format.spell_reply form) (format.FitsReply form) (kind.TAKEN ∷ []) (λ p. Taken p.0 p.1) (λ p. refl) (λ p fits. fits),
    (body_is nothing_is (format.spell_reply form) (format.FitsReply form) (kind.GONE ∷ []) (λ _. Gone) (λ n. refl) (λ n fits. tt), left_bodies form),
  ),
)

reply_again : (form : Form) (r : KeptReply) (rest : List ℕ) → format.FitsReply form r
    → (format.reply form).read (format.spell_reply form r ++ rest) ≡ Ok (r, rest)
reply_again form (Stored id) rest fits = made_again number_is (λ id. Stored id) id rest fits
reply_again form (Taken id tuple) rest fits = made_again (placed_is form) (λ p. Taken p.0 p.1) (id, tuple) rest fits
reply_again form Gone rest fits = refl
reply_again One Left rest fits = absurd fits
reply_again Two Left rest fits = refl

pub reply_is : (form : Form) → IsFormat (format.reply form)
reply_is form = choice_is (format.spell_reply form) (format.FitsReply form) (format.reply_kinds form) no_kind
    (reply_bodies form) (no_kind_is (format.spell_reply form) (format.FitsReply form)) (reply_again form)
