-- What reading leaves after an event, by what each step leaves.
use Rattle.std.proofs.Common.{◌≡◌, ℕ, zero, suc, ◌-◌, ◌+◌, ◌≤◌, ◌<◌, Bool, true, false, List, ◌∷◌, length, Result, Ok, Err, refl, sym, ap, ◌∙◌, arith}
use Rattle.linda_text.specs.declared.fault.TextFault.{TextFault}
use Rattle.linda_text.specs.declared.fault.TextFault.TheVariants.{SyntaxAt}
use Rattle.linda_text.specs.Reading.{after_blanks}
use Rattle.linda_event.specs.Trees.{Tree, choose, members_of}
use Rattle.linda_shell_text.specs.declared.fault.EventTextFault.{EventTextFault}
use Rattle.linda_shell_text.specs.declared.fault.EventTextFault.TheVariants.{Text}
use Rattle.linda_codec.specs.Steps.{◌>>=◌, left_by}
use Rattle.linda_shell_text.specs.Steps.{Read, Reader, lifted}
use Rattle.linda_shell_text.specs.declared.keyword.Keyword.{Keyword}
use Rattle.linda_shell_text.specs.declared.keyword.Keyword.TheVariants as keywords
use Rattle.linda_shell_text.specs.Words.{keyword_at, open_at, mark_at}
use Rattle.linda_shell_text.specs.Reading.{some_members_at, members_at, event_at}
use Rattle.linda_codec.proofs.SkipLaws.{left_then, left_fault, left_made}
use Rattle.linda_shell_text.proofs.EventLaws.{rest_at}

-- ---- the loop over members

abbrev with_first : Tree → Read (List Tree) → Read (List Tree)
with_first t read = read >>= λ others. Ok (t ∷ others.0, others.1)

-- What is after a member.
abbrev behind_first : Reader Tree → ℕ → Tree × List ℕ → Read (List Tree)
behind_first member most first = lifted (mark_at (after_blanks first.1)) >>= λ more. rest_at member most more >>= λ others. Ok (first.0 ∷ others.0, others.1)

pub open_fails : (member : Reader Tree) (bytes : List ℕ) (fault : TextFault) → open_at bytes ≡ Err fault → left_by (members_at member bytes) ≡ Err (Text fault)
unfolding members_at
open_fails member bytes fault e = rw e refl

pub opens_none : (member : Reader Tree) (bytes : List ℕ) (some : Bool) (rest : List ℕ) → some ≡ false
    → open_at bytes ≡ Ok (some, rest) → left_by (members_at member bytes) ≡ Ok rest
unfolding members_at
opens_none member bytes some rest is_none e = rw (e, is_none) refl

pub opens_some : (member : Reader Tree) (bytes : List ℕ) (some : Bool) (rest : List ℕ) → some ≡ true → open_at bytes ≡ Ok (some, rest)
    → left_by (some_members_at member (length rest - 0) rest) ≡ left_by (members_at member bytes)
unfolding members_at
opens_some member bytes some rest is_some e =
    let k : length rest - 0 ≡ length rest = omega arith in
    rw (e, is_some, k) refl

-- What so many members leave, from the first on, by what is after it.
by_first : (member : Reader Tree) (count i : ℕ) (bytes here behind : List ℕ) (total : Result (List ℕ) EventTextFault)
    → i < count → here ≡ after_blanks bytes → left_by (member here) ≡ Ok behind
    → ((t : Tree) → left_by (behind_first member (count - (i + 1)) (t, behind)) ≡ total) → left_by (some_members_at member (count - i) bytes) ≡ total
unfolding some_members_at
by_first member count i bytes here behind total lt is_here one others =
    let k : count - i ≡ suc (count - (i + 1)) = omega arith in
    let first : left_by (member (after_blanks bytes)) ≡ Ok behind = ap (λ (b : List ℕ). left_by (member b)) (sym is_here) ∙ one in
    rw k (left_then (member (after_blanks bytes)) (behind_first member (count - (i + 1))) behind total first others)

pub goes_on : (member : Reader Tree) (count i : ℕ) (bytes here behind : List ℕ) (more : Bool) (after : List ℕ) (total : Result (List ℕ) EventTextFault)
    → i < count
    → here ≡ after_blanks bytes → left_by (member here) ≡ Ok behind → mark_at (after_blanks behind) ≡ Ok (more, after) → more ≡ true
    → left_by (some_members_at member (count - i) bytes) ≡ total → left_by (some_members_at member (count - (i + 1)) after) ≡ total
goes_on member count i bytes here behind more after total lt is_here one found is_more so_far =
    sym (by_first member count i bytes here behind (left_by (some_members_at member (count - (i + 1)) after)) lt is_here one
    (λ t. rw (found, is_more) (left_made (some_members_at member (count - (i + 1)) after) (λ others. t ∷ others)))) ∙ so_far

pub closes : (member : Reader Tree) (count i : ℕ) (bytes here behind : List ℕ) (more : Bool) (after : List ℕ) (total : Result (List ℕ) EventTextFault)
    → i < count
    → here ≡ after_blanks bytes → left_by (member here) ≡ Ok behind → mark_at (after_blanks behind) ≡ Ok (more, after) → more ≡ false
    → left_by (some_members_at member (count - i) bytes) ≡ total → total ≡ Ok after
closes member count i bytes here behind more after total lt is_here one found is_last so_far =
    sym so_far ∙ by_first member count i bytes here behind (Ok after) lt is_here one (λ t. rw (found, is_last) refl)

pub fails_behind : (member : Reader Tree) (count i : ℕ) (bytes here behind : List ℕ) (fault : TextFault) (total : Result (List ℕ) EventTextFault) → i < count
    → here ≡ after_blanks bytes → left_by (member here) ≡ Ok behind → mark_at (after_blanks behind) ≡ Err fault
    → left_by (some_members_at member (count - i) bytes) ≡ total → total ≡ Err (Text fault)
fails_behind member count i bytes here behind fault total lt is_here one found so_far =
    sym so_far ∙ by_first member count i bytes here behind (Err (Text fault)) lt is_here one (λ t. rw found refl)

pub fails_inside : (member : Reader Tree) (count i : ℕ) (bytes here : List ℕ) (fault : EventTextFault) (total : Result (List ℕ) EventTextFault) → i < count
    → here ≡ after_blanks bytes → left_by (member here) ≡ Err fault → left_by (some_members_at member (count - i) bytes) ≡ total → total ≡ Err fault
unfolding some_members_at
fails_inside member count i bytes here fault total lt is_here one so_far =
    let k : count - i ≡ suc (count - (i + 1)) = omega arith in
    let first : left_by (member (after_blanks bytes)) ≡ Err fault = ap (λ (b : List ℕ). left_by (member b)) (sym is_here) ∙ one in
    let same : left_by (some_members_at member (count - i) bytes) ≡ Err fault =
    rw k (left_fault (member (after_blanks bytes)) (behind_first member (count - (i + 1))) fault first) in
    sym so_far ∙ same

-- No byte is left for a member.
pub ends : (member : Reader Tree) (count i : ℕ) (bytes : List ℕ) (total : Result (List ℕ) EventTextFault) → count ≤ i
    → left_by (some_members_at member (count - i) bytes) ≡ total → total ≡ Err (Text (SyntaxAt (length bytes)))
unfolding some_members_at
ends member count i bytes total le so_far =
    let k : count - i ≡ 0 = omega arith in
    let same : left_by (some_members_at member (count - i) bytes) ≡ Err (Text (SyntaxAt (length bytes))) = rw k refl in
    sym so_far ∙ same

-- ---- a choice

pub choice_left : (room : ℕ) (bytes : List ℕ) (keyword : Keyword) (rest : List ℕ) → 0 < room → keyword ≡ keywords.Choose → keyword_at bytes ≡ Ok (keyword, rest)
    → left_by (event_at room bytes) ≡ left_by (members_at (event_at (room - 1)) rest)
unfolding event_at
choice_left zero bytes keyword rest some is word = absurd (omega (arith, some))
choice_left (suc room) bytes keyword rest some is word =
    let k : suc room - 1 ≡ room = omega arith in
    rw (k, word, is) (left_made (members_at (event_at room) rest) (λ members. choose (members_of members)))
