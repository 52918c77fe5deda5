-- Messages of a group, and the answers that come of them.
use Rattle.std.proofs.Common.{◌≡◌, arith, List, [], ◌∷◌, ◌++◌, length, map, reverse, refl, sym, ap, ◌∙◌}
use Rattle.std.proofs.lemmas.List.{length-reverse, reverse-append, reverse-reverse, map-append}
use Rattle.linda_shared.specs.Group.{pairs}

firsts_of : {X Y : Type 0} (xs : List X) (ys : List Y) → length xs ≡ length ys → map (λ p. p.0) (pairs xs ys) ≡ xs
firsts_of [] ys same = refl
firsts_of (x ∷ xs) [] same = absurd (omega (arith, same))
firsts_of (x ∷ xs) (y ∷ ys) same = ap (λ l. x ∷ l) (firsts_of xs ys (omega (arith, same)))

seconds_of : {X Y Z : Type 0} (f : Y → Z) (xs : List X) (ys : List Y) → length xs ≡ length ys → map (λ p. f p.1) (pairs xs ys) ≡ map f ys
seconds_of f [] [] same = refl
seconds_of f [] (y ∷ ys) same = absurd (omega (arith, same))
seconds_of f (x ∷ xs) [] same = absurd (omega (arith, same))
seconds_of f (x ∷ xs) (y ∷ ys) same = ap (λ l. f y ∷ l) (seconds_of f xs ys (omega (arith, same)))

length_of : {X Y : Type 0} (xs : List X) (ys : List Y) → length xs ≡ length ys → length (pairs xs ys) ≡ length xs
length_of [] ys same = refl
length_of (x ∷ xs) [] same = absurd (omega (arith, same))
length_of (x ∷ xs) (y ∷ ys) same = let rest : length (pairs xs ys) ≡ length xs = length_of xs ys (omega (arith, same)) in omega (arith, rest)

-- The last ones of both are the first pair.
pub next_is : {X A : Type 0} (ms : List X) (m : X) (rest : List A) (a : A)
    → pairs (reverse (ms ++ m ∷ [])) (reverse (rest ++ a ∷ [])) ≡ (m, a) ∷ pairs (reverse ms) (reverse rest)
next_is ms m rest a =
    ap (λ l. pairs l (reverse (rest ++ a ∷ []))) (reverse-append ms (m ∷ []))
    ∙ ap (λ l. pairs (m ∷ reverse ms) l) (reverse-append rest (a ∷ []))

pub many : {X A : Type 0} (ms : List X) (answers : List A) → length answers ≡ length ms → length (pairs (reverse ms) (reverse answers)) ≡ length ms
many ms answers same = length_of (reverse ms) (reverse answers) (length-reverse ms ∙ (sym same ∙ sym (length-reverse answers))) ∙ length-reverse ms

map_reverse : {X Y : Type 0} (f : X → Y) (xs : List X) → map f (reverse xs) ≡ reverse (map f xs)
map_reverse f [] = refl
map_reverse f (x ∷ xs) =
    ap (map f) (reverse-append (x ∷ []) xs)
    ∙ (map-append f (reverse xs) (x ∷ []) ∙ (ap (λ l. l ++ f x ∷ []) (map_reverse f xs) ∙ sym (reverse-append (f x ∷ []) (map f xs))))

-- Messages that were turned around, with answers that come the last one first: each message is there, in order;
pub served_each : {X A : Type 0} (messages turned : List X) (answers : List A) → turned ≡ reverse messages → length answers ≡ length messages
    → map (λ p. p.0) (pairs (reverse turned) (reverse answers)) ≡ messages
served_each messages turned answers is same =
    ap (λ l. map (λ p. p.0) (pairs (reverse l) (reverse answers))) is
    ∙ (ap (λ l. map (λ p. p.0) (pairs l (reverse answers))) (reverse-reverse messages)
    ∙ firsts_of messages (reverse answers) (sym same ∙ sym (length-reverse answers)))

-- and what is read off the answers is in order too.
pub served_read : {X A T : Type 0} (read : A → T) (messages turned : List X) (answers : List A) → turned ≡ reverse messages → length answers ≡ length messages
    → map (λ p. read p.1) (pairs (reverse turned) (reverse answers)) ≡ reverse (map read answers)
served_read read messages turned answers is same =
    ap (λ l. map (λ p. read p.1) (pairs (reverse l) (reverse answers))) is
    ∙ (ap (λ l. map (λ p. read p.1) (pairs l (reverse answers))) (reverse-reverse messages)
    ∙ (seconds_of read messages (reverse answers) (sym same ∙ sym (length-reverse answers)) ∙ map_reverse read answers))
