use Rattle.std.proofs.Common.{sym, ◌∙◌, true≢false}
use Rattle.linda_bag.proofs.FirstFieldLaws.{first_fields_bare}
use Rattle.linda_bag.proofs.first_field_index.FirstFieldIndex.is_empty.Goals as goal

pub returns-then-is_empty : goal.returns-then-is_empty
returns-then-is_empty g c = λ asked known.
    let bare = first_fields_bare g.R.Tagged.first_of c.args.self.now asked known in (
      (λ yes. bare.0 (c.is_empty.ensures.0 c.if-is_empty.true, c.is_empty-then-is_empty.ensures.0 yes)),
      (λ none. c.is_empty-then-is_empty.ensures.1 (bare.1 none).1),
    )

pub returns-else-is_empty : goal.returns-else-is_empty
returns-else-is_empty g c = λ asked known.
    let bare = first_fields_bare g.R.Tagged.first_of c.args.self.now asked known in (
      (λ yes. absurd (true≢false (sym yes ∙ c.if-is_empty.false))),
      (λ none. c.is_empty.ensures.1 (bare.1 none).0),
    )
