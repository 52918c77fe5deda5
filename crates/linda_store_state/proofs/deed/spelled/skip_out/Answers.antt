use Rattle.std.proofs.Common.{◌∙◌, sym, subst}
use Rattle.linda_codec.specs.Steps.{GivesAlways}
use Rattle.linda_codec.specs.Formats.{short_number, number, both}
use Rattle.linda_codec.specs.Values as value
use Rattle.linda_codec.proofs.SkipLaws.{left_made, left_behind}
use Rattle.linda_store_state.specs.declared.deed.Deed.TheVariants.{Out}
use Rattle.linda_store_state.specs.DeedFormat as format
use Rattle.linda_store_state.proofs.deed.spelled.skip_out.Goals as goal

pub returns : goal.returns
returns c =
    let first = left_behind short_number (both number (value.tuple c.args.form)) c.args.body.now
    c.in_ok-_client._client c.in_ok-_client.rest.now c.in_ok-_client.ensures in
    let second = left_behind number (value.tuple c.args.form) c.in_ok-_client.rest.now c.in_ok-_n._n c.in_ok-_n.rest.now c.in_ok-_n.ensures in
    let same = left_made ((format.out c.args.form).read c.args.body.now) (λ p. Out p.0 p.1.0 p.1.1) ∙ first ∙ second in
    subst (λ l. GivesAlways (λ rest. rest.now) c.skip.result l) (sym same) c.skip.ensures
