-- A stream of frames has one story.
use Rattle.std.proofs.Common.{◌≡◌, ℕ, List, [], ◌∷◌, ◌++◌, refl, sym, ap, subst, ◌∙◌, append_assoc}
use Rattle.std.specs.List.{flat_map, AllByRecursion}
use Rattle.std.proofs.lemmas.List.Elements.{recursion_from_All}
use Rattle.linda_wire.specs.declared.message.Message.{Message}
use Rattle.linda_wire.specs.Frames.{message, message_frame, FitsMessage}
use Rattle.linda_wire.specs.FrameLaws.{message_is, message_size}
use Rattle.linda_wire.specs.Stream.{IsFramed, Front, Whole, HasNoValue, message_front}
use Rattle.linda_wire.proofs.FrontLaws.{front_again}
use Rattle.linda_net_session.specs.Session.{Session, messages}
use Rattle.linda_net_session.specs.Lawful.{IsPrefixOf, IsLawful, HaveOneStory}

framed : IsFramed message
framed = record { lawful = message_is; sized = message_size }

-- bytes that begin with the frame of a message have that message at the front
pub message_again : (m : Message) (rest : List ℕ) → FitsMessage m → message_front (message_frame m ++ rest) ≡ Whole m rest
message_again m rest fits = front_again message framed m rest fits

abbrev whole_at : Message → List ℕ → Front Message
whole_at m rest = Whole m rest

same_whole : (m : Message) (r : List ℕ) (n : Message) (s : List ℕ) → whole_at m r ≡ whole_at n s → (m ≡ n) × (r ≡ s)
same_whole m r n s e = (cc, cc)

no_whole : (bytes : List ℕ) (m : Message) (rest : List ℕ) → HasNoValue (message_front bytes) → message_front bytes ≡ Whole m rest → ⊥
no_whole bytes m rest none e = subst HasNoValue e none

-- the messages of a stream are the first ones of those of a longer stream whose rest has no message
first_ones : (ms ns : List Message) (left rest : List ℕ) → AllByRecursion FitsMessage ms → AllByRecursion FitsMessage ns
    → HasNoValue (message_front rest) → flat_map message_frame ms ++ left ≡ flat_map message_frame ns ++ rest → IsPrefixOf ms ns
first_ones [] ns left rest fits fits' none e = (ns, refl)
first_ones (m ∷ ms) [] left rest fits fits' none e =
    let whole : rest ≡ message_frame m ++ (flat_map message_frame ms ++ left) =
    sym e ∙ append_assoc (message_frame m) (flat_map message_frame ms) left in
    absurd (no_whole rest m (flat_map message_frame ms ++ left) none (ap message_front whole ∙ message_again m (flat_map message_frame ms ++ left) fits.0))
first_ones (m ∷ ms) (n ∷ ns) left rest fits fits' none e =
    let after : List ℕ = flat_map message_frame ms ++ left in
    let other : List ℕ = flat_map message_frame ns ++ rest in
    let em : flat_map message_frame (m ∷ ms) ++ left ≡ message_frame m ++ after = append_assoc (message_frame m) (flat_map message_frame ms) left in
    let en : flat_map message_frame (n ∷ ns) ++ rest ≡ message_frame n ++ other = append_assoc (message_frame n) (flat_map message_frame ns) rest in
    let both = same_whole m after n other
    (sym (message_again m after fits.0) ∙ ap message_front (sym em ∙ (e ∙ en)) ∙ message_again n other fits'.0) in
    let more = first_ones ms ns left rest fits.1 fits'.1 none both.1 in
    (more.0, ap (λ (l : List Message). n ∷ l) more.1 ∙ ap (λ (k : Message). k ∷ (ms ++ more.0)) (sym both.0))

pub one_story : (one other : Session) → IsLawful one → IsLawful other → HaveOneStory one other
one_story one other l m prefix none =
    let ms : List Message = messages one.taken in
    let ns : List Message = messages other.taken in
    let whole : flat_map message_frame ms ++ (one.unread ++ prefix.0) ≡ flat_map message_frame ns ++ other.unread =
    sym (append_assoc (flat_map message_frame ms) one.unread prefix.0)
    ∙ (ap (λ (all : List ℕ). all ++ prefix.0) (sym l.read.spelled) ∙ (sym prefix.1 ∙ m.read.spelled)) in
    first_ones ms ns (one.unread ++ prefix.0) other.unread
    (recursion_from_All FitsMessage ms l.read.fit) (recursion_from_All FitsMessage ns m.read.fit) none whole
