use Rattle.std.proofs.Common.{◌≡◌, true, List, ℕ, subst}
use Rattle.std.specs.Str.{is_utf8}
use Rattle.std.proofs.lemmas.Str.{is_utf8-from_IsUtf8, IsUtf8-string_bytes}
use Rattle.linda_tuple.proofs.text.Text.len.Goals as goal

pub returns-clause-utf8 : goal.returns-clause-utf8
returns-clause-utf8 c =
    subst (λ (t : List ℕ). is_utf8 t ≡ true) c.self.view_is (is_utf8-from_IsUtf8 _ (IsUtf8-string_bytes c.self.inside.string))
