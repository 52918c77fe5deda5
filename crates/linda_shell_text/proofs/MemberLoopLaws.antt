-- Reading the members of a choice one after the other, as a loop does.
use Rattle.std.proofs.Common.{◌≡◌, ◌≢◌, ℕ, suc, ◌-◌, ◌+◌, ◌≤◌, ◌<◌, Bool, true, false, List, [], ◌∷◌, ◌++◌, length, Ok}
use Rattle.std.proofs.Common.{Err, refl, sym, ap, ◌∙◌, append_assoc, arith}
use Rattle.linda_text.specs.declared.fault.TextFault.{TextFault}
use Rattle.linda_text.specs.declared.fault.TextFault.TheVariants.{Memory, SyntaxAt}
use Rattle.linda_text.specs.Reading.{after_blanks}
use Rattle.linda_event.specs.Trees.{Tree}
use Rattle.linda_shell_text.specs.declared.fault.EventTextFault.{EventTextFault}
use Rattle.linda_shell_text.specs.declared.fault.EventTextFault.TheVariants.{Text}
use Rattle.linda_codec.specs.Steps.{◌>>=◌}
use Rattle.linda_shell_text.specs.Steps.{Read, Reader}
use Rattle.linda_shell_text.specs.Words.{open_at, mark_at}
use Rattle.linda_shell_text.specs.Reading.{some_members_at, members_at}

-- What was read before, and what is still read.
abbrev pub with_front : List Tree → Read (List Tree) → Read (List Tree)
with_front front read = read >>= λ x. Ok (front ++ x.0, x.1)

regroup : (front : List Tree) (t : Tree) (read : Read (List Tree)) → with_front front (read >>= λ x. Ok (t ∷ x.0, x.1)) ≡ with_front (front ++ t ∷ []) read
regroup front t (Ok x) = ap (λ (items : List Tree). Ok (items, x.1)) (simp append_assoc)
regroup front t (Err fault) = refl

nothing_before : (read : Read (List Tree)) → with_front [] read ≡ read
nothing_before (Ok x) = refl
nothing_before (Err fault) = refl

-- ---- the opening bracket

pub open_fails : (member : Reader Tree) (bytes : List ℕ) (fault : TextFault) → open_at bytes ≡ Err fault → members_at member bytes ≡ Err (Text fault)
unfolding members_at
open_fails member bytes fault e = rw e refl

pub opens_none : (member : Reader Tree) (bytes : List ℕ) (some : Bool) (rest : List ℕ) (front : List Tree)
    → front ≡ [] → some ≡ false → open_at bytes ≡ Ok (some, rest) → members_at member bytes ≡ Ok (front, rest)
unfolding members_at
opens_none member bytes some rest front none is_none e = rw (e, is_none, none) refl

pub opens_some : (member : Reader Tree) (bytes : List ℕ) (some : Bool) (rest : List ℕ) (front : List Tree)
    → front ≡ [] → some ≡ true → open_at bytes ≡ Ok (some, rest)
    → with_front front (some_members_at member (length rest - 0) rest) ≡ members_at member bytes
unfolding members_at
opens_some member bytes some rest front none is_some e =
    let k : length rest - 0 ≡ length rest = omega arith in
    rw (e, is_some, none, k) (nothing_before (some_members_at member (length rest) rest))

-- ---- the loop

pub goes_on : (member : Reader Tree) (front : List Tree) (count i : ℕ) (bytes here : List ℕ) (t : Tree)
    (behind : List ℕ) (more : Bool) (after : List ℕ) (total : Read (List Tree)) → i < count
    → here ≡ after_blanks bytes → member here ≡ Ok (t, behind) → mark_at (after_blanks behind) ≡ Ok (more, after) → more ≡ true
    → with_front front (some_members_at member (count - i) bytes) ≡ total
    → with_front (front ++ t ∷ []) (some_members_at member (count - (i + 1)) after) ≡ total
unfolding some_members_at
goes_on member front count i bytes here t behind more after total lt is_here one found is_more so_far =
    let k : count - i ≡ suc (count - (i + 1)) = omega arith in
    let read : member (after_blanks bytes) ≡ Ok (t, behind) = ap member (sym is_here) ∙ one in
    let same : with_front front (some_members_at member (count - i) bytes) ≡ with_front (front ++ t ∷ []) (some_members_at member (count - (i + 1)) after) =
    rw (k, read, found, is_more) (regroup front t (some_members_at member (count - (i + 1)) after)) in
    sym same ∙ so_far

-- The closing bracket.
pub closes : (member : Reader Tree) (front : List Tree) (count i : ℕ) (bytes here : List ℕ) (t : Tree)
    (behind : List ℕ) (more : Bool) (after : List ℕ) (total : Read (List Tree)) → i < count
    → here ≡ after_blanks bytes → member here ≡ Ok (t, behind) → mark_at (after_blanks behind) ≡ Ok (more, after) → more ≡ false
    → with_front front (some_members_at member (count - i) bytes) ≡ total → total ≡ Ok (front ++ t ∷ [], after)
unfolding some_members_at
closes member front count i bytes here t behind more after total lt is_here one found is_last so_far =
    let k : count - i ≡ suc (count - (i + 1)) = omega arith in
    let read : member (after_blanks bytes) ≡ Ok (t, behind) = ap member (sym is_here) ∙ one in
    let same : with_front front (some_members_at member (count - i) bytes) ≡ Ok (front ++ t ∷ [], after) = rw (k, read, found, is_last) refl in
    sym so_far ∙ same

pub fails_inside : (member : Reader Tree) (front : List Tree) (count i : ℕ) (bytes here : List ℕ) (fault : EventTextFault) (total : Read (List Tree))
    → i < count
    → here ≡ after_blanks bytes → (fault ≢ Text Memory → member here ≡ Err fault)
    → with_front front (some_members_at member (count - i) bytes) ≡ total → fault ≢ Text Memory → total ≡ Err fault
unfolding some_members_at
fails_inside member front count i bytes here fault total lt is_here one so_far is_fault =
    let k : count - i ≡ suc (count - (i + 1)) = omega arith in
    let read : member (after_blanks bytes) ≡ Err fault = ap member (sym is_here) ∙ one is_fault in
    let same : with_front front (some_members_at member (count - i) bytes) ≡ Err fault = rw (k, read) refl in
    sym so_far ∙ same

pub fails_behind : (member : Reader Tree) (front : List Tree) (count i : ℕ) (bytes here : List ℕ)
    (t : Tree) (behind : List ℕ) (fault : TextFault) (total : Read (List Tree)) → i < count
    → here ≡ after_blanks bytes → member here ≡ Ok (t, behind) → mark_at (after_blanks behind) ≡ Err fault
    → with_front front (some_members_at member (count - i) bytes) ≡ total → total ≡ Err (Text fault)
unfolding some_members_at
fails_behind member front count i bytes here t behind fault total lt is_here one found so_far =
    let k : count - i ≡ suc (count - (i + 1)) = omega arith in
    let read : member (after_blanks bytes) ≡ Ok (t, behind) = ap member (sym is_here) ∙ one in
    let same : with_front front (some_members_at member (count - i) bytes) ≡ Err (Text fault) = rw (k, read, found) refl in
    sym so_far ∙ same

-- No byte is left for a member.
pub ends : (member : Reader Tree) (front : List Tree) (count i : ℕ) (bytes : List ℕ) (total : Read (List Tree)) → count ≤ i
    → with_front front (some_members_at member (count - i) bytes) ≡ total → total ≡ Err (Text (SyntaxAt (length bytes)))
unfolding some_members_at
ends member front count i bytes total le so_far =
    let k : count - i ≡ 0 = omega arith in
    let same : with_front front (some_members_at member (count - i) bytes) ≡ Err (Text (SyntaxAt (length bytes))) = rw k refl in
    sym so_far ∙ same
