use Rattle.std.proofs.Common.{◌≤◌, List, [], ◌∷◌, map, length, All, take_all, sym, refl, subst, ◌∙◌, arith}
use Rattle.std.proofs.lemmas.List.Elements.{All-nil, All-cons, All-head, All-tail, All-get_or, All-more, All-map}
use Rattle.httparse.specs.Spans.{header_bytes}
use Rattle.httparse.specs.declared.spans.HeaderSpan.{HeaderSpan}
use Rattle.linda_net_http.specs.Head.{NamesUs}
use Rattle.linda_net_http.proofs.host.name_us.Goals as goal

-- what holds of all images holds of each image
of_images : {X Y : Type 0} (P : Y → Type 0) (f : X → Y) (xs : List X) → All P (map f xs) → All (λ x. P (f x)) xs
of_images P f [] all = All-nil (λ x. P (f x))
of_images P f (x ∷ xs) all =
    All-cons (λ x. P (f x)) x xs (All-head P (f x) (map f xs) all) (of_images P f xs (All-tail P (f x) (map f xs) all))

abbrev nowhere : HeaderSpan
nowhere = record { name = record { start = 0; end = 0 }; value = record { start = 0; end = 0 } }

pub returns-then-not-names_us : goal.returns-then-not-names_us
returns-then-not-names_us c = (
  λ wrong. cc,
  λ all.
      let each = of_images NamesUs (header_bytes c.args.head.now) c.args.fields.now all in
      let here = All-get_or (λ s. NamesUs (header_bytes c.args.head.now s)) c.args.fields.now c.loop-field.field-index nowhere c.loop-field-test.true each in
      sym c.if-not-names_us.true ∙ c.names_us.ensures.1 here,
)

pub loop-field-preserved : goal.loop-field-preserved
loop-field-preserved c =
    All-more (λ f. NamesUs (header_bytes c.args.head.now f)) c.args.fields.now c.loop-field.field-index nowhere
    c.loop-field-test.true c.loop-field.invariant (c.names_us.ensures.0 c.if-not-names_us.false)

pub returns : goal.returns
returns c =
    let over : length c.args.fields.now ≤ c.loop-field.field-index = omega (arith, c.loop-field-test.false) in
    let each = subst (All (λ f. NamesUs (header_bytes c.args.head.now f)))
    (take_all c.loop-field.field-index c.args.fields.now over) c.loop-field.invariant in
    (λ _. All-map NamesUs (header_bytes c.args.head.now) c.args.fields.now each, λ _. refl)
