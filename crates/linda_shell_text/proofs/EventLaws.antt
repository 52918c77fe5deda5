-- What the reader of events reads is a text of the event, and each such text is read again.
use Rattle.std.proofs.Common.{◌≡◌, ℕ, zero, suc, ◌^◌, ◌<◌, ◌≤◌, Bool, true, false, cond, List, [], ◌∷◌, ◌++◌, length}
use Rattle.std.proofs.Common.{Ok, refl, sym, ap, subst, ◌∙◌, append_assoc, arith}
use Rattle.std.specs.Prelude.{max}
use Rattle.std.specs.Fmt.{decimal}
use Rattle.std.proofs.Math.Nat.{max-le}
use Rattle.linda_tuple.specs.Template.{Template, IsWithinTemplate}
use Rattle.linda_text.specs.Grammar.{AreBlanks, IsAtomText, IsTemplateText}
use Rattle.linda_text.specs.Reading.{after_blanks, natural_at, template_at, spaced_atom_at}
use Rattle.linda_text.proofs.BlankLaws.{blanks_take}
use Rattle.linda_text.proofs.RowLaws.{template_is, spaced_atom_is}
use Rattle.linda_event.specs.Trees.{Kind, input, read, alarm, always, never, Tree, leaf, choose, wrap, nack, Trees, no_trees, and_tree, members_of}
use Rattle.linda_text.specs.declared.marks.TheConstants.{COMMA}
use Rattle.linda_shell_text.specs.declared.marks.TheConstants.{OPENING_BRACKET, CLOSING_BRACKET}
use Rattle.linda_shell_text.specs.declared.keyword.Keyword.{Keyword}
use Rattle.linda_shell_text.specs.declared.keyword.Keyword.TheVariants as keywords
use Rattle.linda_shell_text.specs.Words.{keyword_text, EndsWord, keyword_at, label_at, open_at, mark_at}
use Rattle.linda_shell_text.specs.EventTexts.{Begins, IsBaseText, IsEventText, IsListText, AreMore}
use Rattle.linda_shell_text.specs.Limits.{IsSoundBase, IsSoundEvent, AreSoundEvents, height, height_of_all}
use Rattle.linda_codec.specs.Steps.{◌>>=◌}
use Rattle.linda_text.specs.Reading.{made}
use Rattle.linda_shell_text.specs.Steps.{Read, Reader, lifted}
use Rattle.linda_shell_text.specs.Reading.{some_members_at, members_at, under_at, node_at, event_at}
use Rattle.linda_codec.proofs.TakeLaws.{bind_ok, ok_is}
use Rattle.linda_shell_text.proofs.LiftLaws.{lifted_ok}
use Rattle.linda_shell_text.proofs.WordLaws.{ends_front, keyword_takes, number_takes, label_takes, mark_of, mark_takes, opened, open_takes}

-- ---- what is read is a text of the event

-- Bytes begin with a text of the event, which is sound and no higher than so much, and these are the bytes after it.
abbrev pub HasEvent : ℕ → List ℕ → Tree × List ℕ → Type 0
HasEvent room bytes x = (text : List ℕ) × IsEventText x.0 text × IsSoundEvent x.0 × (height x.0 ≤ room) × (bytes ≡ text ++ x.1)

-- After the keyword, bytes begin with the rest of such a text.
abbrev HasNode : Keyword → ℕ → List ℕ → Tree × List ℕ → Type 0
HasNode k room bytes x = (tail : List ℕ) × IsEventText x.0 (keyword_text k ++ tail) × IsSoundEvent x.0 × (height x.0 ≤ suc room) × (bytes ≡ tail ++ x.1)

-- What is after a word: blanks, and a text of the value.
behind_word : (word : List ℕ) (IsRest : List ℕ → Type 0) (blanks text rest bytes : List ℕ) → AreBlanks blanks
    → IsRest text → EndsWord bytes → bytes ≡ blanks ++ (text ++ rest)
    → Begins word IsRest (word ++ (blanks ++ text)) × (bytes ≡ (blanks ++ text) ++ rest)
behind_word word IsRest blanks text rest bytes spaces is ends parts =
    let whole : bytes ≡ (blanks ++ text) ++ rest = parts ∙ sym (append_assoc blanks text rest) in
    ((blanks, text, spaces, ends_front (blanks ++ text) rest (subst EndsWord whole ends), is, refl), whole)

template_node : (k : Keyword) (make : Template → Kind)
    → ((t : Template) (text : List ℕ) → Begins (keyword_text k) (λ rest. IsTemplateText t rest) text → IsBaseText (make t) text)
    → ((t : Template) → IsWithinTemplate t → IsSoundBase (make t)) → (room : ℕ) (bytes : List ℕ) (x : Tree × List ℕ) → EndsWord bytes
    → made (λ t. leaf (make t)) (lifted (template_at bytes)) ≡ Ok x → HasNode k room bytes x
template_node k make texts sound room bytes x ends e =
    let y = bind_ok (lifted (template_at bytes)) (λ t. Ok (leaf (make t.0), t.1)) x e in
    let t = template_is.takes bytes y.0 (lifted_ok (template_at bytes) y.0 y.1) in
    let s = t.1 in
    let b = behind_word (keyword_text k) (λ rest. IsTemplateText y.0.0 rest) s.0 s.1 y.0.1 bytes s.2 s.3 ends s.4 in
    let found : Tree × List ℕ = (leaf (make y.0.0), y.0.1) in
    subst (λ (z : Tree × List ℕ). HasNode k room bytes z) {x = found} (ok_is found x y.2)
    (s.0 ++ s.1, texts y.0.0 (keyword_text k ++ (s.0 ++ s.1)) b.0, sound y.0.0 t.0, omega arith, b.1)

alarm_node : (room : ℕ) (bytes : List ℕ) (x : Tree × List ℕ) → EndsWord bytes
    → made (λ time. leaf (alarm time)) (lifted (natural_at (after_blanks bytes))) ≡ Ok x → HasNode keywords.Alarm room bytes x
alarm_node room bytes x ends e =
    let y = bind_ok (lifted (natural_at (after_blanks bytes))) (λ n. Ok (leaf (alarm n.0), n.1)) x e in
    let n = number_takes bytes y.0 (lifted_ok (natural_at (after_blanks bytes)) y.0 y.1) in
    let b = behind_word (keyword_text keywords.Alarm) (λ rest. rest ≡ decimal y.0.0) n.0 (decimal y.0.0) y.0.1 bytes n.1 refl ends n.3 in
    let found : Tree × List ℕ = (leaf (alarm y.0.0), y.0.1) in
    subst (λ (z : Tree × List ℕ). HasNode keywords.Alarm room bytes z) {x = found} (ok_is found x y.2)
    (n.0 ++ decimal y.0.0, b.0, n.2, omega arith, b.1)

always_node : (room : ℕ) (bytes : List ℕ) (x : Tree × List ℕ) → EndsWord bytes
    → made (λ a. leaf (always a)) (lifted (spaced_atom_at bytes)) ≡ Ok x → HasNode keywords.Always room bytes x
always_node room bytes x ends e =
    let y = bind_ok (lifted (spaced_atom_at bytes)) (λ a. Ok (leaf (always a.0), a.1)) x e in
    let t = spaced_atom_is.takes bytes y.0 (lifted_ok (spaced_atom_at bytes) y.0 y.1) in
    let s = t.1 in
    let b = behind_word (keyword_text keywords.Always) (λ rest. IsAtomText y.0.0 rest) s.0 s.1 y.0.1 bytes s.2 s.3 ends s.4 in
    let found : Tree × List ℕ = (leaf (always y.0.0), y.0.1) in
    subst (λ (z : Tree × List ℕ). HasNode keywords.Always room bytes z) {x = found} (ok_is found x y.2)
    (s.0 ++ s.1, b.0, t.0, omega arith, b.1)

never_node : (room : ℕ) (bytes : List ℕ) (x : Tree × List ℕ) → (let found : Read Tree = Ok (leaf never, bytes) in found) ≡ Ok x
    → HasNode keywords.Never room bytes x
never_node room bytes x e =
    let found : Tree × List ℕ = (leaf never, bytes) in
    subst (λ (z : Tree × List ℕ). HasNode keywords.Never room bytes z) {x = found} (ok_is found x e) ([], refl, tt, omega arith, refl)

-- What reads events no higher than so much.
abbrev Takes : ℕ → Type 0
Takes room = (bytes : List ℕ) (x : Tree × List ℕ) → event_at room bytes ≡ Ok x → HasEvent room bytes x

under_node : (k : Keyword) (make : ℕ → Tree → Tree)
    → ((n : ℕ) (t : Tree) (text : List ℕ) → Begins (keyword_text k) (λ rest. Begins (decimal n) (λ event. IsEventText t event) rest) text
    → IsEventText (make n t) text)
    → ((n : ℕ) (t : Tree) → n < 2 ^ 64 → IsSoundEvent t → IsSoundEvent (make n t)) → ((n : ℕ) (t : Tree) → height (make n t) ≡ suc (height t))
    → (room : ℕ) → Takes room → (bytes : List ℕ) (x : Tree × List ℕ) → EndsWord bytes → under_at make (event_at room) bytes ≡ Ok x → HasNode k room bytes x
unfolding under_at
under_node k make texts sound high room takes bytes x ends e =
    let n = bind_ok (lifted (label_at bytes)) (λ label. event_at room (after_blanks label.1) >>= λ event. Ok (make label.0 event.0, event.1)) x e in
    let y = bind_ok (event_at room (after_blanks n.0.1)) (λ event. Ok (make n.0.0 event.0, event.1)) x n.2 in
    let l = label_takes bytes n.0 (lifted_ok (label_at bytes) n.0 n.1) in
    let t = takes (after_blanks n.0.1) y.0 y.1 in
    let b = blanks_take n.0.1 in
    let inner = behind_word (decimal n.0.0) (λ event. IsEventText y.0.0 event) b.0 t.0 y.0.1 n.0.1 b.1 t.1 l.3 (b.2 ∙ ap (λ (w : List ℕ). b.0 ++ w) t.4) in
    let parts : bytes ≡ l.0 ++ ((decimal n.0.0 ++ (b.0 ++ t.0)) ++ y.0.1) = l.4
    ∙ ap (λ (w : List ℕ). l.0 ++ w) (ap (λ (w : List ℕ). decimal n.0.0 ++ w) inner.1 ∙ sym (append_assoc (decimal n.0.0) (b.0 ++ t.0) y.0.1)) in
    let outer = behind_word (keyword_text k) (λ rest. Begins (decimal n.0.0) (λ event. IsEventText y.0.0 event) rest) l.0
    (decimal n.0.0 ++ (b.0 ++ t.0)) y.0.1 bytes l.1 inner.0 ends parts in
    let found : Tree × List ℕ = (make n.0.0 y.0.0, y.0.1) in
    subst (λ (z : Tree × List ℕ). HasNode k room bytes z) {x = found} (ok_is found x y.2) (
      l.0 ++ (decimal n.0.0 ++ (b.0 ++ t.0)),
      texts n.0.0 y.0.0 (keyword_text k ++ (l.0 ++ (decimal n.0.0 ++ (b.0 ++ t.0)))) outer.0,
      sound n.0.0 y.0.0 l.2 t.2,
      omega (arith, high n.0.0 y.0.0, t.3),
      outer.1,
    )

-- ---- members

-- A member, and what comes after it.
abbrev AreSome : Tree → Trees → List ℕ → Type 0
AreSome t ts text = (blanks first rest : List ℕ) × AreBlanks blanks × IsEventText t first × AreMore ts rest × (text ≡ blanks ++ (first ++ rest))

-- The bytes begin with what comes after a member.
abbrev HasMore : ℕ → List ℕ → List Tree × List ℕ → Type 0
HasMore room bytes x = (text : List ℕ) × AreMore (members_of x.0) text × AreSoundEvents (members_of x.0)
    × (height_of_all (members_of x.0) ≤ room) × (bytes ≡ text ++ x.1)

-- Bytes begin with members, of which there is one at least.
abbrev HasSome : ℕ → List ℕ → List Tree × List ℕ → Type 0
HasSome room bytes x =
    (t : Tree) × (ts : List Tree) × (text : List ℕ) × (x.0 ≡ t ∷ ts) × AreSome t (members_of ts) text × IsSoundEvent t × AreSoundEvents (members_of ts)
    × (height t ≤ room) × (height_of_all (members_of ts) ≤ room) × (bytes ≡ text ++ x.1)

-- The members after a mark.
abbrev pub rest_at : Reader Tree → ℕ → Bool × List ℕ → Read (List Tree)
rest_at member most more = cond more.0 (some_members_at member most more.1) (Ok ([], more.1))

rest_by : (room most : ℕ) → ((bytes : List ℕ) (x : List Tree × List ℕ) → some_members_at (event_at room) most bytes ≡ Ok x → HasSome room bytes x)
    → (more : Bool) (behind blanks bytes : List ℕ) (x : List Tree × List ℕ) → AreBlanks blanks → bytes ≡ blanks ++ mark_of more ∷ behind
    → cond more (some_members_at (event_at room) most behind) (Ok ([], behind)) ≡ Ok x → HasMore room bytes x
rest_by room most others false behind blanks bytes x spaces parts e =
    let found : List Tree × List ℕ = ([], behind) in
    subst (λ (z : List Tree × List ℕ). HasMore room bytes z) {x = found} (ok_is found x e)
    (blanks ++ CLOSING_BRACKET ∷ [], (blanks, spaces, refl), tt, omega arith, parts ∙ sym (append_assoc blanks (CLOSING_BRACKET ∷ []) behind))
rest_by room most others true behind blanks bytes x spaces parts e =
    let o = others behind x e in
    let text : List ℕ = o.2 in
    let is = o.4 in
    let more : AreMore (and_tree o.0 (members_of o.1)) (blanks ++ COMMA ∷ text) =
    (blanks, is.0, is.1, is.2, spaces, is.3, is.4, is.5, ap (λ (w : List ℕ). blanks ++ COMMA ∷ w) is.6) in
    let parted : bytes ≡ (blanks ++ COMMA ∷ text) ++ x.1 = parts ∙ ap (λ (w : List ℕ). blanks ++ COMMA ∷ w) o.9
    ∙ sym (append_assoc blanks (COMMA ∷ text) x.1) in
    subst (λ (items : List Tree). HasMore room bytes (items, x.1)) (sym o.3) (blanks ++ COMMA ∷ text, more, (o.5, o.6), max-le o.7 o.8, parted)

some_take : (room : ℕ) → Takes room → (most : ℕ) (bytes : List ℕ) (x : List Tree × List ℕ)
    → some_members_at (event_at room) most bytes ≡ Ok x → HasSome room bytes x
unfolding some_members_at
some_take room takes zero bytes x e = absurd cc
some_take room takes (suc most) bytes x e =
    let first = bind_ok (event_at room (after_blanks bytes))
    (λ first. lifted (mark_at (after_blanks first.1)) >>= λ more. rest_at (event_at room) most more >>= λ others. Ok (first.0 ∷ others.0, others.1)) x e in
    let more = bind_ok (lifted (mark_at (after_blanks first.0.1)))
    (λ more. rest_at (event_at room) most more >>= λ others. Ok (first.0.0 ∷ others.0, others.1)) x first.2 in
    let others = bind_ok (rest_at (event_at room) most more.0) (λ others. Ok (first.0.0 ∷ others.0, others.1)) x more.2 in
    let m = mark_takes first.0.1 more.0 (lifted_ok (mark_at (after_blanks first.0.1)) more.0 more.1) in
    let r = rest_by room most (some_take room takes most) more.0.0 more.0.1 m.0 first.0.1 others.0 m.1 m.2 others.1 in
    let t = takes (after_blanks bytes) first.0 first.1 in
    let b = blanks_take bytes in
    let parts : bytes ≡ (b.0 ++ (t.0 ++ r.0)) ++ others.0.1 = b.2
    ∙ ap (λ (w : List ℕ). b.0 ++ w) (t.4 ∙ ap (λ (w : List ℕ). t.0 ++ w) r.4) ∙ regroup b.0 t.0 r.0 others.0.1 in
    let found : List Tree × List ℕ = (first.0.0 ∷ others.0.0, others.0.1) in
    subst (λ (z : List Tree × List ℕ). HasSome room bytes z) {x = found} (ok_is found x others.2)
    (first.0.0, others.0.0, b.0 ++ (t.0 ++ r.0), refl, (b.0, t.0, r.0, b.1, t.1, r.1, refl), t.2, r.2, t.3, r.3, parts)
  where
    regroup : (a b c d : List ℕ) → a ++ (b ++ (c ++ d)) ≡ (a ++ (b ++ c)) ++ d
    regroup a b c d = simp append_assoc

both_blanks : (xs ys : List ℕ) → AreBlanks xs → AreBlanks ys → AreBlanks (xs ++ ys)
both_blanks [] ys all more = more
both_blanks (b ∷ xs) ys all more = (all.0, both_blanks xs ys all.1 more)

-- Members after blanks and the opening bracket.
joined : (between text : List ℕ) (t : Tree) (ts : Trees) → AreBlanks between → AreSome t ts text
    → IsListText (and_tree t ts) (OPENING_BRACKET ∷ (between ++ text))
joined between text t ts more (blanks, first, rest, spaces, is, others, parts) = (
  between ++ blanks,
  first,
  rest,
  both_blanks between blanks more spaces,
  is,
  others,
  ap (λ (w : List ℕ). OPENING_BRACKET ∷ w) (ap (λ (w : List ℕ). between ++ w) parts ∙ sym (append_assoc between blanks (first ++ rest))),
)

-- A choice, from the members between its brackets.
choice_by : (room : ℕ) → Takes room → (some : Bool) (behind before between bytes : List ℕ) (x : List Tree × List ℕ)
    → AreBlanks before → AreBlanks between → EndsWord bytes
    → bytes ≡ before ++ OPENING_BRACKET ∷ (between ++ opened (some, behind))
    → cond some (some_members_at (event_at room) (length behind) behind) (Ok ([], behind)) ≡ Ok x
    → HasNode keywords.Choose room bytes (choose (members_of x.0), x.1)
choice_by room takes false behind before between bytes x spaces more ends parts e =
    let list : List ℕ = OPENING_BRACKET ∷ (between ++ CLOSING_BRACKET ∷ []) in
    let is : IsListText no_trees list = (between, more, refl) in
    let whole : bytes ≡ before ++ (list ++ behind) = parts
    ∙ ap (λ (w : List ℕ). before ++ OPENING_BRACKET ∷ w) (sym (append_assoc between (CLOSING_BRACKET ∷ []) behind)) in
    let b = behind_word (keyword_text keywords.Choose) (λ rest. IsListText no_trees rest) before list behind bytes spaces is ends whole in
    let found : List Tree × List ℕ = ([], behind) in
    subst (λ (z : List Tree × List ℕ). HasNode keywords.Choose room bytes (choose (members_of z.0), z.1)) {x = found} (ok_is found x e)
    (before ++ list, b.0, tt, omega arith, b.1)
choice_by room takes true behind before between bytes x spaces more ends parts e =
    let o = some_take room takes (length behind) behind x e in
    let text : List ℕ = o.2 in
    let list : List ℕ = OPENING_BRACKET ∷ (between ++ text) in
    let members : IsListText (and_tree o.0 (members_of o.1)) list = joined between text o.0 (members_of o.1) more o.4 in
    let parted : bytes ≡ before ++ (list ++ x.1) = parts
    ∙ ap (λ (w : List ℕ). before ++ OPENING_BRACKET ∷ w) (ap (λ (w : List ℕ). between ++ w) o.9 ∙ sym (append_assoc between text x.1)) in
    let b = behind_word (keyword_text keywords.Choose) (λ rest. IsListText (and_tree o.0 (members_of o.1)) rest)
    before list x.1 bytes spaces members ends parted in
    let tall : max (height o.0) (height_of_all (members_of o.1)) ≤ room = max-le o.7 o.8 in
    subst (λ (items : List Tree). HasNode keywords.Choose room bytes (choose (members_of items), x.1))
    (sym o.3) (before ++ list, b.0, (o.5, o.6), omega (arith, tall), b.1)

choice_node : (room : ℕ) → Takes room → (bytes : List ℕ) (x : Tree × List ℕ) → EndsWord bytes
    → made (λ members. choose (members_of members)) (members_at (event_at room) bytes) ≡ Ok x → HasNode keywords.Choose room bytes x
unfolding members_at
choice_node room takes bytes x ends e =
    let y = bind_ok (members_at (event_at room) bytes) (λ members. Ok (choose (members_of members.0), members.1)) x e in
    let some = bind_ok (lifted (open_at bytes)) (λ some. cond some.0 (some_members_at (event_at room) (length some.1) some.1) (Ok ([], some.1))) y.0 y.1 in
    let o = open_takes bytes some.0 (lifted_ok (open_at bytes) some.0 some.1) in
    let found : Tree × List ℕ = (choose (members_of y.0.0), y.0.1) in
    subst (λ (z : Tree × List ℕ). HasNode keywords.Choose room bytes z) {x = found} (ok_is found x y.2)
    (choice_by room takes some.0.0 some.0.1 o.0 o.1 bytes y.0 o.2 o.3 ends o.4 some.2)

-- ---- nodes

node_takes : (room : ℕ) → Takes room → (k : Keyword) (bytes : List ℕ) (x : Tree × List ℕ) → EndsWord bytes
    → node_at (event_at room) k bytes ≡ Ok x → HasNode k room bytes x
node_takes room takes keywords.In bytes x ends e = template_node keywords.In input (λ t text is. is) (λ t fits. fits) room bytes x ends e
node_takes room takes keywords.Rd bytes x ends e = template_node keywords.Rd read (λ t text is. is) (λ t fits. fits) room bytes x ends e
node_takes room takes keywords.Alarm bytes x ends e = alarm_node room bytes x ends e
node_takes room takes keywords.Always bytes x ends e = always_node room bytes x ends e
node_takes room takes keywords.Never bytes x ends e = never_node room bytes x e
node_takes room takes keywords.Choose bytes x ends e = choice_node room takes bytes x ends e
node_takes room takes keywords.Wrap bytes x ends e =
    under_node keywords.Wrap (λ label event. wrap label event) (λ n t text is. is) (λ n t lt sound. (lt, sound)) (λ n t. refl) room takes bytes x ends e
node_takes room takes keywords.Nack bytes x ends e =
    under_node keywords.Nack (λ number event. nack number event) (λ n t text is. is) (λ n t lt sound. (lt, sound)) (λ n t. refl) room takes bytes x ends e

pub event_takes : (room : ℕ) (bytes : List ℕ) (x : Tree × List ℕ) → event_at room bytes ≡ Ok x → HasEvent room bytes x
unfolding event_at
event_takes zero bytes x e = absurd cc
event_takes (suc room) bytes x e =
    let k = bind_ok (lifted (keyword_at bytes)) (λ keyword. node_at (event_at room) keyword.0 keyword.1) x e in
    let w = keyword_takes bytes k.0 (lifted_ok (keyword_at bytes) k.0 k.1) in
    let n = node_takes room (event_takes room) k.0.0 k.0.1 x w.1 k.2 in
    (keyword_text k.0.0 ++ n.0, n.1, n.2, n.3, w.0 ∙ ap (λ (t : List ℕ). keyword_text k.0.0 ++ t) n.4 ∙ sym (append_assoc (keyword_text k.0.0) n.0 x.1))
