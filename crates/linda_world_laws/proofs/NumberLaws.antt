-- The last number of a client, and what holds of its last deed.
use Rattle.std.proofs.Common.{◌≡◌, ℕ, ◌<◌, Bool, true, false, cond, ◌==◌, List, [], ◌∷◌, ◌++◌, Some, None, All, refl, sym, ap, ◌∙◌, subst, arith, eqb-true}
use Rattle.std.specs.Prelude.{Option}
use Rattle.std.proofs.lemmas.Option.{none-some, same_Some}
use Rattle.std.proofs.lemmas.List.Elements.{All-head, All-tail}
use Rattle.std.specs.FinMap.{get}
use Rattle.linda_map_laws.proofs.MapLaws.{get_empty}
use Rattle.linda_book.specs.Entries.{number_in}
use Rattle.linda_store_state.specs.declared.deed.Deed.{Deed}
use Rattle.linda_store_state.specs.Deed.{client_of, number_of, last_of, last_with}
use Rattle.linda_store_state.specs.State.{empty_state}
use Rattle.linda_store_state.specs.After.{entry_after}
use Rattle.linda_store_state.proofs.DeedLaws.{last_of-joined, last_later}
use Rattle.linda_store_step.specs.Deeds.{last_in as last_number}
use Rattle.linda_client.specs.Client.{next_at}
use Rattle.linda_world_laws.specs.World.{Member, Members}
use Rattle.linda_world_laws.specs.Reasons.{IsUsedBy}

-- One deed more of the client is its last; one of another leaves it.
pub own_last : (ds : List Deed) (d : Deed) (c : ℕ) → (client_of d == c) ≡ true → last_number (ds ++ d ∷ []) c ≡ number_of d
own_last ds d c own = ap (λ o. number_in (entry_after empty_state c o)) (last_of-joined c ds (d ∷ [])
    ∙ ap (λ b. last_later c ds (cond b (Some ([], d)) None)) own)

pub other_last : (ds : List Deed) (d : Deed) (c : ℕ) → (client_of d == c) ≡ false → last_number (ds ++ d ∷ []) c ≡ last_number ds c
other_last ds d c other = ap (λ o. number_in (entry_after empty_state c o)) (last_of-joined c ds (d ∷ [])
    ∙ ap (λ b. last_later c ds (cond b (Some ([], d)) None)) other)

-- What holds of all deeds holds of a client's last one.
module _ (P : Deed → Type 0) (c : ℕ) where
  with_last : (d : Deed) (o : Option (List Deed × Deed)) (last : List Deed × Deed) → P d
      → ((found : List Deed × Deed) → o ≡ Some found → P found.1 × (client_of found.1 ≡ c))
      → last_with c d o ≡ Some last → P last.1 × (client_of last.1 ≡ c)
  with_last d (Some found) last here deeper e =
      subst (λ (x : List Deed × Deed). P x.1 × (client_of x.1 ≡ c)) (same_Some (d ∷ found.0, found.1) last e) (deeper found refl)
  with_last d None last here deeper e = by (client_of d == c) refl e
    where
      by : (b : Bool) → (client_of d == c) ≡ b → cond b (Some ([], d)) None ≡ Some last → P last.1 × (client_of last.1 ≡ c)
      by true own f = subst (λ (x : List Deed × Deed). P x.1 × (client_of x.1 ≡ c)) (same_Some ([], d) last f) (here, eqb-true (client_of d) c own)
      by false other f = absurd (none-some last f)

  of_last : (ds : List Deed) (last : List Deed × Deed) → All P ds → last_of c ds ≡ Some last → P last.1 × (client_of last.1 ≡ c)
  of_last [] last all e = absurd (none-some last e)
  of_last (d ∷ ds) last all e = with_last d (last_of c ds) last (All-head P d ds all) (λ found f. of_last ds found (All-tail P d ds all) f) e

-- The last number of a client at a server was used by it.
pub last_used : (ms : Members) (s c : ℕ) (ds : List Deed) (m : Member) → All (IsUsedBy ms s) ds
    → get ms c ≡ Some m → 0 < next_at m.client s → last_number ds c < next_at m.client s
last_used ms s c ds m used known some = by (last_of c ds) refl
  where
    by : (o : Option (List Deed × Deed)) → last_of c ds ≡ o → last_number ds c < next_at m.client s
    by None e =
        let none : last_number ds c ≡ 0 = ap (λ o. number_in (entry_after empty_state c o)) e ∙ ap number_in (get_empty c) in
        omega (arith, none, some)
    by (Some last) e =
        let is = of_last (IsUsedBy ms s) c ds last used e in
        let same : is.0.member ≡ m = same_Some is.0.member m (sym is.0.known ∙ ap (get ms) is.1 ∙ known) in
        let number : last_number ds c ≡ number_of last.1 = ap (λ o. number_in (entry_after empty_state c o)) e in
        let low : number_of last.1 < next_at m.client s = subst (λ (x : Member). number_of last.1 < next_at x.client s) same is.0.holds in
        omega (arith, number, low)
