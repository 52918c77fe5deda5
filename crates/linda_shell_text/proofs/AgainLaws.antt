-- Each text of an event within its limits is read again, as that event.
use Rattle.std.proofs.Common.{◌≡◌, inl, inr, ℕ, zero, suc, ◌^◌, ◌+◌, ◌<◌, ◌≤◌, Bool, true, false, List, [], ◌∷◌, ◌++◌}
use Rattle.std.proofs.Common.{length, Ok, refl, ap, ◌∙◌, append_assoc, arith}
use Rattle.std.specs.Prelude.{◌==◌}
use Rattle.std.specs.Char.{is_ascii_alphanumeric}
use Rattle.std.specs.Fmt.{decimal}
use Rattle.std.proofs.Math.Nat.{le-max_left, le-max_right}
use Rattle.std.proofs.lemmas.Bool.{eqb-true, or_cases}
use Rattle.std.proofs.lemmas.List.{length-append}
use Rattle.linda_tuple.specs.Template.{Template, IsWithinTemplate}
use Rattle.linda_text.specs.Letters.{is_blank}
use Rattle.linda_text.specs.Grammar.{AreBlanks, IsAtomText, IsTemplateText}
use Rattle.linda_text.specs.Reading.{after_blanks, natural_at, template_at, spaced_atom_at}
use Rattle.linda_text.proofs.BlankLaws.{blanks_again}
use Rattle.linda_text.proofs.RowLaws.{template_is, spaced_atom_is}
use Rattle.linda_event.specs.Trees.{Kind, input, read, alarm, always, never, Tree, leaf, choose, wrap, nack, Trees, no_trees, and_tree, members_of}
use Rattle.linda_text.specs.declared.marks.TheConstants.{COMMA, SPACE, TAB}
use Rattle.linda_shell_text.specs.declared.marks.TheConstants.{OPENING_BRACKET, CLOSING_BRACKET}
use Rattle.linda_shell_text.specs.declared.keyword.Keyword.{Keyword}
use Rattle.linda_shell_text.specs.declared.keyword.Keyword.TheVariants as keywords
use Rattle.linda_shell_text.specs.Words.{keyword_text, EndsWord, inside, mark_at}
use Rattle.linda_shell_text.specs.EventTexts.{Begins, IsBaseText, IsEventText, IsListText, AreMore}
use Rattle.linda_shell_text.specs.Limits.{IsSoundBase, IsSoundEvent, AreSoundEvents, height, height_of_all}
use Rattle.linda_text.specs.Reading.{made}
use Rattle.linda_shell_text.specs.Steps.{Reader, lifted}
use Rattle.linda_shell_text.specs.Reading.{some_members_at, members_at, under_at, node_at, event_at}
use Rattle.linda_shell_text.proofs.WordLaws.{ends_both, ends_numeral, keyword_again, keyword_begins, keyword_inside}
use Rattle.linda_shell_text.proofs.WordLaws.{keyword_long, number_again, label_again, comma_again, close_again}
use Rattle.linda_shell_text.proofs.WordLaws.{open_again}
use Rattle.linda_shell_text.proofs.EventLaws.{rest_at}

-- ---- how a text of an event begins

-- A keyword, and what comes after it.
abbrev HasWord : List ℕ → Type 0
HasWord text = (k : Keyword) × (tail : List ℕ) × (text ≡ keyword_text k ++ tail)

word_of : (k : Keyword) (IsRest : List ℕ → Type 0) (text : List ℕ) → Begins (keyword_text k) IsRest text → HasWord text
word_of k IsRest text (blanks, rest, spaces, ends, is, parts) = (k, blanks ++ rest, parts)

base_word : (kind : Kind) (text : List ℕ) → IsBaseText kind text → HasWord text
base_word (input t) text is = word_of keywords.In (λ rest. IsTemplateText t rest) text is
base_word (read t) text is = word_of keywords.Rd (λ rest. IsTemplateText t rest) text is
base_word (alarm time) text is = word_of keywords.Alarm (λ rest. rest ≡ decimal time) text is
base_word (always a) text is = word_of keywords.Always (λ rest. IsAtomText a rest) text is
base_word never text is = (keywords.Never, [], is)

event_word : (t : Tree) (text : List ℕ) → IsEventText t text → HasWord text
event_word (leaf kind) text is = base_word kind text is
event_word (choose members) text is = word_of keywords.Choose (λ list. IsListText members list) text is
event_word (wrap n t) text is = word_of keywords.Wrap (λ rest. Begins (decimal n) (λ event. IsEventText t event) rest) text is
event_word (nack n t) text is = word_of keywords.Nack (λ rest. Begins (decimal n) (λ event. IsEventText t event) rest) text is

-- No blank begins it.
pub event_begins : (t : Tree) (text rest : List ℕ) → IsEventText t text → after_blanks (text ++ rest) ≡ text ++ rest
event_begins t text rest is =
    let w = event_word t text is in
    rw (w.2, append_assoc (keyword_text w.0) w.1 rest) (keyword_begins w.0 (w.1 ++ rest))

event_inside : (t : Tree) (text rest : List ℕ) → IsEventText t text → inside (text ++ rest) ≡ (true, text ++ rest)
event_inside t text rest is =
    let w = event_word t text is in
    rw (w.2, append_assoc (keyword_text w.0) w.1 rest) (keyword_inside w.0 (w.1 ++ rest))

event_long : (t : Tree) (text : List ℕ) → IsEventText t text → 1 ≤ length text
event_long t text is =
    let w = event_word t text is in
    omega (arith, ap length w.2, length-append (keyword_text w.0) w.1, keyword_long w.0)

-- ---- what ends a word

pub blank_ends : (b : ℕ) → is_blank b ≡ true → is_ascii_alphanumeric b ≡ false
blank_ends b e = elim (or_cases (b == SPACE) (b == TAB) e) [
  | inl s ↦ rw (eqb-true b SPACE s) refl
  | inr t ↦ rw (eqb-true b TAB t) refl
]

marks_end : (blanks : List ℕ) (mark : ℕ) (rest : List ℕ) → AreBlanks blanks → is_ascii_alphanumeric mark ≡ false → EndsWord (blanks ++ mark ∷ rest)
marks_end [] mark rest all e = e
marks_end (b ∷ blanks) mark rest all e = blank_ends b all.0

more_ends : (ts : Trees) (text rest : List ℕ) → AreMore ts text → EndsWord (text ++ rest)
more_ends no_trees text rest (blanks, spaces, parts) =
    rw (parts, append_assoc blanks (CLOSING_BRACKET ∷ []) rest) (marks_end blanks CLOSING_BRACKET rest spaces refl)
more_ends (and_tree t ts) text rest (before, between, next, others, spaces, more, is, are, parts) =
    rw (parts, append_assoc before (COMMA ∷ (between ++ (next ++ others))) rest) (marks_end before COMMA ((between ++ (next ++ others)) ++ rest) spaces refl)

-- ---- nodes

-- A keyword, and what comes after it.
node_again : (k : Keyword) (t : Tree) (room : ℕ) (text tail rest : List ℕ) → text ≡ keyword_text k ++ tail → EndsWord tail → EndsWord rest
    → node_at (event_at room) k (tail ++ rest) ≡ Ok (t, rest) → event_at (suc room) (text ++ rest) ≡ Ok (t, rest)
unfolding event_at
node_again k t room text tail rest parts ends behind node =
    rw (parts, append_assoc (keyword_text k) tail rest, keyword_again k (tail ++ rest) (ends_both tail rest ends behind)) node

template_again : (k : Keyword) (make : Template → Kind) (t : Template)
    → ((bytes : List ℕ) (below : Reader Tree) → node_at below k bytes ≡ made (λ template. leaf (make template)) (lifted (template_at bytes)))
    → (room : ℕ) (text rest : List ℕ) → Begins (keyword_text k) (λ behind. IsTemplateText t behind) text
    → IsWithinTemplate t → EndsWord rest → event_at (suc room) (text ++ rest) ≡ Ok (leaf (make t), rest)
template_again k make t reads room text rest (blanks, inner, spaces, ends, is, parts) within behind =
    let found : template_at ((blanks ++ inner) ++ rest) ≡ Ok (t, rest) =
    template_is.again t ((blanks ++ inner) ++ rest) rest (blanks, inner, spaces, is, append_assoc blanks inner rest) within tt in
    node_again k (leaf (make t)) room text (blanks ++ inner) rest parts ends behind
    (reads ((blanks ++ inner) ++ rest) (event_at room) ∙ ap (λ r. made (λ template. leaf (make template)) (lifted r)) found)

base_again : (kind : Kind) (room : ℕ) (text rest : List ℕ) → IsBaseText kind text → IsSoundBase kind
    → EndsWord rest → event_at (suc room) (text ++ rest) ≡ Ok (leaf kind, rest)
base_again (input t) room text rest is sound behind = template_again keywords.In input t (λ bytes below. refl) room text rest is sound behind
base_again (read t) room text rest is sound behind = template_again keywords.Rd read t (λ bytes below. refl) room text rest is sound behind
base_again (alarm time) room text rest (blanks, digits, spaces, ends, is, parts) sound behind =
    let whole : (blanks ++ digits) ++ rest ≡ blanks ++ (decimal time ++ rest) = append_assoc blanks digits rest
    ∙ ap (λ (t : List ℕ). blanks ++ (t ++ rest)) is in
    let found : natural_at (after_blanks ((blanks ++ digits) ++ rest)) ≡ Ok (time, rest) = rw whole (number_again blanks time rest spaces sound behind) in
    node_again keywords.Alarm (leaf (alarm time)) room text (blanks ++ digits) rest parts ends behind (rw found refl)
base_again (always a) room text rest (blanks, inner, spaces, ends, is, parts) sound behind =
    let found : spaced_atom_at ((blanks ++ inner) ++ rest) ≡ Ok (a, rest) =
    spaced_atom_is.again a ((blanks ++ inner) ++ rest) rest (blanks, inner, spaces, is, append_assoc blanks inner rest) sound (ends_numeral rest behind) in
    node_again keywords.Always (leaf (always a)) room text (blanks ++ inner) rest parts ends behind (rw found refl)
base_again never room text rest is sound behind = node_again keywords.Never (leaf never) room text [] rest is tt behind refl

under_again : (make : ℕ → Tree → Tree) (n : ℕ) (t : Tree) (room : ℕ) (before label blanks event rest : List ℕ)
    → AreBlanks before → n < 2 ^ 64 → AreBlanks blanks → EndsWord (blanks ++ event) → IsEventText t event
    → label ≡ decimal n ++ (blanks ++ event) → EndsWord rest → event_at room (event ++ rest) ≡ Ok (t, rest)
    → under_at make (event_at room) ((before ++ label) ++ rest) ≡ Ok (make n t, rest)
unfolding under_at
under_again make n t room before label blanks event rest spaces lt more ends is parts behind below =
    let whole : (before ++ label) ++ rest ≡ before ++ (decimal n ++ ((blanks ++ event) ++ rest)) = append_assoc before label rest
    ∙ ap (λ (w : List ℕ). before ++ w) (ap (λ (w : List ℕ). w ++ rest) parts ∙ append_assoc (decimal n) (blanks ++ event) rest) in
    let number = label_again before n ((blanks ++ event) ++ rest) spaces lt (ends_both (blanks ++ event) rest ends behind) in
    let inner : after_blanks ((blanks ++ event) ++ rest) ≡ event ++ rest = ap after_blanks (append_assoc blanks event rest)
    ∙ blanks_again blanks (event ++ rest) more ∙ event_begins t event rest is in
    rw (whole, number, inner, below) refl

-- ---- members

abbrev pub list_of : Trees → List Tree
list_of no_trees = []
list_of (and_tree t ts) = t ∷ list_of ts

members_list : (ts : Trees) → members_of (list_of ts) ≡ ts
members_list no_trees = refl
members_list (and_tree t ts) = ap (and_tree t) (members_list ts)

abbrev count : Trees → ℕ
count no_trees = 0
count (and_tree t ts) = suc (count ts)

-- There are no more members than bytes.
more_long : (ts : Trees) (text : List ℕ) → AreMore ts text → count ts ≤ length text
more_long no_trees text are = omega arith
more_long (and_tree t ts) text (before, between, next, others, spaces, more, is, are, parts) =
    let rest = more_long ts others are in
    let behind : length (next ++ others) ≡ length next + length others = length-append next others in
    let inner : length (between ++ (next ++ others)) ≡ length between + length (next ++ others) = length-append between (next ++ others) in
    let all : length (before ++ COMMA ∷ (between ++ (next ++ others))) ≡ length before + suc (length (between ++ (next ++ others))) =
    length-append before (COMMA ∷ (between ++ (next ++ others))) in
    omega (arith, ap length parts, rest, behind, inner, all)

-- What comes after a member is read as these members.
abbrev MoreAgain : ℕ → Trees → List ℕ → List ℕ → Type 0
MoreAgain room ts text rest =
    (n : ℕ) → count ts ≤ n → (more : Bool × List ℕ) × (mark_at (after_blanks (text ++ rest)) ≡ Ok more)
    × (rest_at (event_at room) n more ≡ Ok (list_of ts, rest))

some_again : (room n : ℕ) (t : Tree) (ts : Trees) (blanks first more rest : List ℕ) → AreBlanks blanks
    → IsEventText t first → event_at room (first ++ (more ++ rest)) ≡ Ok (t, more ++ rest)
    → MoreAgain room ts more rest → suc (count ts) ≤ n → some_members_at (event_at room) n (blanks ++ (first ++ (more ++ rest))) ≡ Ok (t ∷ list_of ts, rest)
unfolding some_members_at
some_again room zero t ts blanks first more rest spaces is one others few = absurd (omega (arith, few))
some_again room (suc n) t ts blanks first more rest spaces is one others few =
    let inner : after_blanks (blanks ++ (first ++ (more ++ rest))) ≡ first ++ (more ++ rest) =
    blanks_again blanks (first ++ (more ++ rest)) spaces ∙ event_begins t first (more ++ rest) is in
    let o = others n (omega (arith, few)) in
    rw (inner, one, o.1, o.2) refl

none_again : (room : ℕ) (before between rest : List ℕ) → AreBlanks before → AreBlanks between
    → members_at (event_at room) ((before ++ OPENING_BRACKET ∷ (between ++ CLOSING_BRACKET ∷ [])) ++ rest) ≡ Ok ([], rest)
unfolding members_at after_blanks
none_again room before between rest spaces more =
    let whole : (before ++ OPENING_BRACKET ∷ (between ++ CLOSING_BRACKET ∷ [])) ++ rest ≡ before ++ OPENING_BRACKET ∷ (between ++ CLOSING_BRACKET ∷ rest) =
    append_assoc before (OPENING_BRACKET ∷ (between ++ CLOSING_BRACKET ∷ [])) rest
    ∙ ap (λ (w : List ℕ). before ++ OPENING_BRACKET ∷ w) (append_assoc between (CLOSING_BRACKET ∷ []) rest) in
    rw (whole, open_again before between (CLOSING_BRACKET ∷ rest) spaces more refl) refl

list_again : (room : ℕ) (t : Tree) (ts : Trees) (before between first more rest : List ℕ) → AreBlanks before
    → AreBlanks between → IsEventText t first → AreMore ts more
    → event_at room (first ++ (more ++ rest)) ≡ Ok (t, more ++ rest) → MoreAgain room ts more rest
    → members_at (event_at room) ((before ++ OPENING_BRACKET ∷ (between ++ (first ++ more))) ++ rest) ≡ Ok (t ∷ list_of ts, rest)
unfolding members_at
list_again room t ts before between first more rest spaces blanks is are one others =
    let whole : (before ++ OPENING_BRACKET ∷ (between ++ (first ++ more))) ++ rest ≡ before
    ++ OPENING_BRACKET ∷ (between ++ (first ++ (more ++ rest))) = simp append_assoc in
    let opens = open_again before between (first ++ (more ++ rest)) spaces blanks (event_begins t first (more ++ rest) is) in
    let some = some_again room (length (first ++ (more ++ rest))) t ts [] first more rest tt is one others
    (omega (arith, event_long t first is, more_long ts more are, length-append first (more ++ rest), length-append more rest)) in
    rw (whole, opens, event_inside t first (more ++ rest) is, some) refl

choice_again : (room : ℕ) (ts : Trees) (text blanks list rest : List ℕ)
    → text ≡ keyword_text keywords.Choose ++ (blanks ++ list) → EndsWord (blanks ++ list) → EndsWord rest
    → members_at (event_at room) ((blanks ++ list) ++ rest) ≡ Ok (list_of ts, rest) → event_at (suc room) (text ++ rest) ≡ Ok (choose ts, rest)
choice_again room ts text blanks list rest parts ends behind members =
    node_again keywords.Choose (choose ts) room text (blanks ++ list) rest parts ends behind (rw (members, members_list ts) refl)

comma_behind : (before between next others rest : List ℕ)
    → (before ++ COMMA ∷ (between ++ (next ++ others))) ++ rest ≡ before ++ COMMA ∷ (between ++ (next ++ (others ++ rest)))
comma_behind before between next others rest = simp append_assoc

mutual
  pub event_again : (t : Tree) (room : ℕ) (text rest : List ℕ) → IsEventText t text → IsSoundEvent t
      → height t ≤ room → EndsWord rest → event_at room (text ++ rest) ≡ Ok (t, rest)
  event_again (leaf kind) zero text rest is sound high ends = absurd (omega (arith, high))
  event_again (leaf kind) (suc room) text rest is sound high ends = base_again kind room text rest is sound ends
  event_again (choose ts) zero text rest is sound high ends = absurd (omega (arith, high))
  event_again (choose no_trees) (suc room) text rest (before, list, spaces, ends, (between, more, same), parts) sound high behind =
      choice_again room no_trees text before list rest parts ends behind (rw same (none_again room before between rest spaces more))
  event_again (choose (and_tree t ts)) (suc room) text rest (
    before,
    list,
    spaces,
    ends,
    (between, first, more, blanks, is, are, same),
    parts,
  ) sound high behind =
      choice_again room (and_tree t ts) text before list rest parts ends behind
      (rw same
      (list_again room t ts before between first more rest spaces blanks is are
      (event_again t room first (more ++ rest) is sound.0 (omega (arith, high, le-max_left (height t) (height_of_all ts))) (more_ends ts more rest are))
      (λ n few. more_again ts room n more rest are sound.1 (omega (arith, high, le-max_right (height t) (height_of_all ts))) few)))
  event_again (wrap n t) zero text rest is sound high ends = absurd (omega (arith, high))
  event_again (wrap n t) (suc room) text rest (before, label, spaces, ends, (blanks, event, more, inner, is, same), parts) sound high behind =
      node_again keywords.Wrap (wrap n t) room text (before ++ label) rest parts ends behind
      (under_again (λ k below. wrap k below) n t room before label blanks event rest spaces sound.0 more inner is same behind
      (event_again t room event rest is sound.1 (omega (arith, high)) behind))
  event_again (nack n t) zero text rest is sound high ends = absurd (omega (arith, high))
  event_again (nack n t) (suc room) text rest (before, label, spaces, ends, (blanks, event, more, inner, is, same), parts) sound high behind =
      node_again keywords.Nack (nack n t) room text (before ++ label) rest parts ends behind
      (under_again (λ k below. nack k below) n t room before label blanks event rest spaces sound.0 more inner is same behind
      (event_again t room event rest is sound.1 (omega (arith, high)) behind))

  more_again : (ts : Trees) (room n : ℕ) (text rest : List ℕ) → AreMore ts text → AreSoundEvents ts → height_of_all ts ≤ room → count ts ≤ n
      → (more : Bool × List ℕ) × (mark_at (after_blanks (text ++ rest)) ≡ Ok more) × (rest_at (event_at room) n more ≡ Ok (list_of ts, rest))
  more_again no_trees room n text rest (blanks, spaces, parts) sound high few =
      ((false, rest), rw (parts, append_assoc blanks (CLOSING_BRACKET ∷ []) rest) (close_again blanks rest spaces), refl)
  more_again (and_tree t ts) room n text rest (before, between, next, others, spaces, blanks, is, are, parts) sound high few = (
    (true, between ++ (next ++ (others ++ rest))),
    rw (parts, comma_behind before between next others rest) (comma_again before (between ++ (next ++ (others ++ rest))) spaces),
    some_again room n t ts between next others rest blanks is
        (event_again t room next (others ++ rest) is sound.0 (omega (arith, high, le-max_left (height t) (height_of_all ts))) (more_ends ts others rest are))
        (λ m less. more_again ts room m others rest are sound.1 (omega (arith, high, le-max_right (height t) (height_of_all ts))) less) few,
  )
