-- `of` makes a value of no bytes. The proof chooses what its ghost field is: the value that the reference points to.
use mathlib.Core.Path.{refl, sym, subst}
use mathlib.Core.List.{List, [], ◌∷◌, ◌++◌}
use Prim.Native.Nat.{ℕ}
use seplogic.Ra.Ura.{Ura}
use mir.Syntax.{Fn, a_type}
use mir.Val.{Val, vptr, vstruct, vcons, vnil}
use mir.MapTy.{inst_fn}
use base.Logic.{SProp, ent, via, fst∗, snd∗}
use base.Fml.{Fml}
use prog.Memory.{Memory}
use prog.Routine.{Routine}
use prog.Wp.{Calls, Loops, WpFn, Tables}
use types.Logic.{Logic, sem}
use contract.Monad.{Fun, fact_use}
use contract.Running.{tables, tables_of}
use sound.WpLaws.{WpFn-mono}
use types.Kit.{‵, raw, ◌⊛◌, ◌$◌, ◌∵◌, !, qed, move, keep, split, join, fjoin, use0, suffices, done}
use types.Run.{no_more, and_then, returns, enter}
use types.Part.{agg}
use types.ByLocal.{alloc_all, pass_all, free_all, look_at, get, sets}
use denote.RattleType.{RattleType, owns}
use denote.Exit.{yes}
use denote.Laws.{Are, Ises, owns_show, showss}
use denote.Param.{param, layouts}
use denote.Param.Laws.{Laws}
use denote.Shadow.{makes_shadow}
use denote.Builtin.{RefOf}
use denote.Signature.{types_at, type_at, plain}
use denote.Steps.{nothing}
use denote.Triple.Clauses.{Clauses, closing}
use denote.Triple.Entry.{on_entry, alive}
use denote.Triple.Spec.{Meets, triple_of}
use denote.Triple.Table.{entered}
use denote.Triple.Walked.{says, Stays, stay_dropped, walk_of, ends_at, Goes-dropped, walk_Meets}
use Rattle.linda_ghost.specs.contracts.Moment.of.{ended, clauses}
use Rattle.linda_ghost.specs.contracts.Moment.of.Key.{name as #self}
use Rattle.linda_ghost.proofs.Moment.of.Statement as stated
use Rattle.linda_ghost.proofs.Moment.of.Code as code

-- the function at a type, and that nothing is borrowed in it when it ends
module _ (T : RattleType) where
  abbrev here : RattleType
  here = param 0 T

  abbrev body : Fn
  body = inst_fn (layouts (a_type ∷ []) (T, tt)) code.function

  abbrev stays : Stays (ended T).signature.params (ended T).kept
  stays = (stay_dropped (RefOf (0 ∷ []) tt (plain (λ _. here)) (λ _. tt)) yes, tt)

module _ (T : RattleType) (laws : Laws T) {M : Type 1} {𝓤 : Ura M} (𝓛 : Logic 𝓤) (memory : Memory → SProp 𝓤)
    (run : Routine → Fun 𝓤) where
  open 𝓛 use {H}

  abbrev told : Clauses 𝓤 (ended T)
  told = clauses T 𝓛 memory run

  module _ (C : Calls 𝓤 H) (Λ : Loops 𝓤 H) (z : (walk_of 𝓛 (ended T) (stays T) told).Ghost) where
    abbrev at : List Val → (walk_of 𝓛 (ended T) (stays T) told).Ghost
    at us = ((z.0.0, z.0.1, z.0.2, z.0.3, (us, tt)), z.1)

    abbrev Walks : List Val → Type 1
    Walks us =
        ent 𝓤 ((walk_of 𝓛 (ended T) (stays T) told).pre (at us))
        (WpFn 𝓤 H C Λ (body T) (us ++ []) ((walk_of 𝓛 (ended T) (stays T) told).post (at us)))

    abbrev block : ℕ
    block = z.0.3.0.ref_ptr.0

    abbrev offset : ℕ
    offset = z.0.3.0.ref_ptr.1

    abbrev tokens : SProp 𝓤
    tokens = alive 𝓛 (ended T).signature z.0.0 z.0.1

    abbrev given : Fml
    given = owns (types_at (ended T).signature.params z.0.0) z.0.3 (vptr block offset ∷ [], tt)

    walks : Walks (vptr block offset ∷ [])
    walks =
        let made : Val = vstruct (vcons (vstruct vnil) vnil) in
        let result : denote.Triple.Entry.Res (ended T).signature z.0.0 = record { marker = record {}; value = z.0.3.0.now } in
        let owned : Fml = (type_at (ended T).signature.result z.0.0).own_val result (made ∷ []) in
        qed 𝓛 ((raw tokens ⊛ ‵ given) ∷ raw ((told z.0.0 z.0.3).requires z.1) ∷ []) ∵ split ! $ keep ! (0 ∷ []) $
        enter ! C Λ (body T) (vptr block offset ∷ []) _ $ alloc_all ! (λ l. pass_all ! refl ((tt, tt), tt) $
        sets ! (agg ! (no_more !)) refl (tt, tt) $ sets ! (agg ! (and_then ! (get ! refl) (no_more !))) refl (tt, (tt, tt)) $
        returns ! (look_at ! 0 refl) $ free_all ! refl $
        use0 𝓛 (‵ owned) (makes_shadow 𝓛 owned ((λ vss. (tt, ((λ uss. (tt, tt)), tt))), tt) (((vstruct vnil ∷ [], tt), (refl, ((tt, (refl, tt)), tt))), tt)) $
        suffices ! _ (ends_at 𝓛 (ended T) (stays T) told (at (vptr block offset ∷ [])) made result (tt, tt) (tt, tt)) $
        says ! refl $ nothing ! $ nothing ! $ fjoin ! $ join ! $ move ! (1 ∷ 0 ∷ []) $ join ! $ done !)

  meets : (𝓣 : Tables 𝓤 H) → Meets 𝓛 (ended T).signature (WpFn 𝓤 H 𝓣.C 𝓣.Λ (body T)) (closing 𝓛 (ended T) told)
  meets 𝓣 =
      walk_Meets 𝓛 (ended T) (stays T)
      (Goes-dropped 𝓛 2 (RefOf (0 ∷ []) tt (plain (λ _. here T)) (λ _. tt)) yes (λ κs x f. refl), tt) told
      (WpFn 𝓤 H 𝓣.C 𝓣.Λ (body T)) (WpFn-mono 𝓤 H 𝓛.laws 𝓣 (body T))
      (λ z.
      let values = z.0.4 in
      let types : List RattleType = types_at (ended T).signature.params z.0.0 in
      fact_use 𝓤 (Are types (Ises types) z.0.3 values)
      (via 𝓤 (sem 𝓛 (owns types z.0.3 values))
      (via 𝓤 (on_entry 𝓛 (ended T).signature z.0.0 z.0.1 z.0.3 values)
      (fst∗ 𝓤 (on_entry 𝓛 (ended T).signature z.0.0 z.0.1 z.0.3 values) ((told z.0.0 z.0.3).requires z.1))
      (snd∗ 𝓤 (alive 𝓛 (ended T).signature z.0.0 z.0.1) (sem 𝓛 (owns types z.0.3 values))))
      (owns_show 𝓛 types (Ises types) (showss 𝓛 types) z.0.3 values))
      (λ are. subst (Walks 𝓣.C 𝓣.Λ z) (sym are.0.0) (walks 𝓣.C 𝓣.Λ z)))

pub of_spec : {M : Type 1} → stated.statement M
unfolding tables_of
of_spec 𝓤 𝓛 𝓜 𝓡 wired T laws =
    let 𝓣 : Tables 𝓤 𝓛.H = tables_of 𝓤 𝓛.H 𝓜 (tables 𝓤 𝓛.H 𝓜 𝓡 𝓡.env) in
    entered 𝓤 𝓛.H (triple_of 𝓛 (ended T).signature (closing 𝓛 (ended T) (clauses T 𝓛 𝓜.mem 𝓡.returns))) 𝓣.C 𝓣.Λ
    (#self (layouts (a_type ∷ []) (T, tt))) (body T) (code.unfolded 𝓤 𝓛.H 𝓜 𝓡 wired (T, tt))
    (meets T laws 𝓛 𝓜.mem 𝓡.returns 𝓣)
