-- A client that left does no deed more, and what is kept for it stays.
use Rattle.std.proofs.Common.{◌≡◌, ◌≢◌, ℕ, true, List, [], ◌∷◌, ◌++◌, All, refl, sym, ap, ◌∙◌}
use Rattle.std.proofs.lemmas.Bool.{true≢false}
use Rattle.std.proofs.lemmas.List.Elements.{All-nil, All-cons}
use Rattle.std.specs.FinMap.{get}
use Rattle.linda_map_laws.proofs.MapLaws.{get_same, get_other}
use Rattle.linda_book.specs.Entries.{left_in}
use Rattle.linda_book.specs.declared.kept_reply.KeptReply.TheVariants as kept
use Rattle.linda_store_state.specs.declared.deed.Deed.{Deed}
use Rattle.linda_store_state.specs.declared.deed.Deed.TheVariants.{Leave}
use Rattle.linda_store_state.specs.Deed.{client_of, number_of}
use Rattle.linda_store_state.specs.State.{State, IsState}
use Rattle.linda_store_state.specs.After.{reply_of_deed}
use Rattle.linda_store_state.specs.Proper.{IsAllowed, IsProper, AreDone}
use Rattle.linda_store_state.proofs.AfterLaws.{none_after, one_after}
use Rattle.linda_store_state.proofs.DoneLaws.{done, done_state}
use Rattle.linda_store_state.proofs.ProperLaws.{reached}
use Rattle.linda_store_state.proofs.JoinLaws.{behind_one}

-- The deed is another client's.
abbrev pub IsOther : ℕ → Deed → Type 0
IsOther c d = client_of d ≢ c

-- The deeds are other clients', and what is kept for this one stays.
pub record AreOthers (st : State) (ds : List Deed) (new : State) (c : ℕ) : Type 0 where
  pub others : All (IsOther c) ds
  pub stays : get new.book c ≡ get st.book c

-- A deed that is allowed is not of a client that left.
other : (st : State) (d : Deed) (c : ℕ) → IsAllowed st d → left_in (get st.book c) ≡ true → IsOther c d
other st d c allowed left same = true≢false (sym left ∙ (ap (λ k. left_in (get st.book k)) (sym same) ∙ allowed.stays))

pub others_later : (ds : List Deed) (st new : State) (c : ℕ) → IsState st → AreDone st ds new → left_in (get st.book c) ≡ true → AreOthers st ds new c
others_later [] st new c is all left =
    record { others = All-nil (IsOther c); stays = ap (λ (s : State). get s.book c) (one_after st [] new st all.after (none_after st is)) }
others_later (d ∷ ds) st new c is all left =
    let allowed : IsAllowed st d = all.proper [] d ds st refl (none_after st is) in
    let apart : IsOther c d = other st d c allowed left in
    let kept : get (done st d).book c ≡ get st.book c = get_other st.book (client_of d) (number_of d, reply_of_deed st [] d) c (λ e. apart (sym e)) in
    let rest = others_later ds (done st d) new c (done_state st d is allowed) (behind_one st new d ds is allowed all) (ap left_in kept ∙ left) in
    record { others = All-cons (IsOther c) d ds apart rest.others; stays = rest.stays ∙ kept }

others_behind : (front : List Deed) (st new : State) (later : List Deed) (c n : ℕ) → IsState st
    → AreDone st (front ++ Leave c n ∷ later) new → All (IsOther c) later
others_behind [] st new later c n is all =
    let allowed : IsAllowed st (Leave c n) = all.proper [] (Leave c n) later st refl (none_after st is) in
    let left : left_in (get (done st (Leave c n)).book c) ≡ true = ap left_in (get_same st.book c (n, kept.Left)) in
    (others_later later (done st (Leave c n)) new c (done_state st (Leave c n) is allowed) (behind_one st new (Leave c n) later is allowed all) left).others
others_behind (d ∷ front) st new later c n is all =
    let allowed : IsAllowed st d = all.proper [] d (front ++ Leave c n ∷ later) st refl (none_after st is) in
    others_behind front (done st d) new later c n (done_state st d is allowed) (behind_one st new d (front ++ Leave c n ∷ later) is allowed all)

-- No deed of a client comes after its Leave.
pub others_after : (st : State) (front later : List Deed) (c n : ℕ) → IsState st → IsProper st (front ++ Leave c n ∷ later) → All (IsOther c) later
others_after st front later c n is proper =
    let there = reached st (front ++ Leave c n ∷ later) is proper in
    others_behind front st there.new later c n is (record { proper = proper; after = there.after })

-- What is kept for a client that left stays.
pub left_stays : (st new : State) (ds : List Deed) (c : ℕ) → IsState st → AreDone st ds new → left_in (get st.book c) ≡ true → get new.book c ≡ get st.book c
left_stays st new ds c is all left = (others_later ds st new c is all left).stays
