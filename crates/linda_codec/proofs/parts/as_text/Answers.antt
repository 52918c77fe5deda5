use Rattle.std.proofs.lemmas.Str.{is_utf8-from_IsUtf8}
use Rattle.linda_codec.proofs.TakeLaws.{is_utf8-not}
use Rattle.linda_codec.proofs.parts.as_text.Goals as goal

pub returns-in-Ok : goal.returns-in-Ok
returns-in-Ok c = (c.in-Ok.ensures.cases.0, is_utf8-from_IsUtf8 _ c.in-Ok.ensures.cases.1)

pub returns-in-Err : goal.returns-in-Err
returns-in-Err c = is_utf8-not _ c.in-Err.ensures.cases.0
