use Rattle.std.proofs.Common.{rules, sym, subst, ◌∙◌, Ok, Some}
use Rattle.std.proofs.lemmas.Result.{err_from_is_err_and}
use Rattle.linda_codec.specs.Lawful.{IsBytes}
use Rattle.linda_wire.proofs.FrontLaws.{told_of_length, found_at_front}
use Rattle.linda_wire.proofs.feed.FrameFeed.next.Goals as goal

pub returns-in_err-len-clause-told : goal.returns-in_err-len-clause-told
returns-in_err-len-clause-told g c =
    let p = err_from_is_err_and c.from_residual.result c.from_residual.ensures.1 in
    rw (p.1, p.2) (told_of_length c.args.self.now c.as_slice-bytes.result.now c.in_err-len.field-0.0
    (c.as_slice-bytes.ensures ∙ c.self.view_is) (sym c.in_err-len.ensures.value))

pub returns-clause-found : goal.returns-clause-found
returns-clause-found g c =
    found_at_front g.T.FramePayload.format g.met.T.FramePayload.framed c.args.self.now (Ok (Some c.in_ok-value.value)) c.pass.new.self
    (subst IsBytes (c.as_slice-bytes.ensures ∙ c.self.view_is) c.len_of_payload.ensures.bytes) (search rules)
