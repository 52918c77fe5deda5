-- What an argument's bond and a command's table make of rules.
use Rattle.std.proofs.Common.{◌≡◌, ◌∙◌, ◌&&◌, ◌++◌, ◌+◌, ℕ, arith, Bool, List, [], ◌∷◌}
use lib.Dec.{eqb-suc-zero}
use Rattle.std.proofs.Common.{ap, false, fold, length, not, refl, subst, suc, sym, true}
use Rattle.std.specs.Borrow.{Bor}
use Rattle.std.specs.Prelude.{Result, IfOk}
use Rattle.std.proofs.lemmas.List.{map-append}
use Rattle.std.proofs.lemmas.List.Sums.{fold-append}
use Rattle.std.proofs.lemmas.Result.{IfOk-weaker}
use Rattle.clap.specs.Walk.{is_empty}
use Rattle.clap.specs.Words.{AddsArg, AddsConflicts, AddsRequiredUnless, AddsRequirements, App, Rule, rule_of, with_rule}
use Rattle.clap.specs.declared.builder.arg.Arg.{Arg}
use Rattle.clap.specs.declared.builder.arg.ArgPredicate.{ArgPredicate}
use Rattle.clap.specs.declared.builder.command.Command.{Command}
use Rattle.linda_args.specs.Entries.{rule_in, rules_in}
use Rattle.linda_args.specs.Rules.{IsCommand}
use Rattle.linda_args.specs.declared.command.table.Entry.{Entry}
use Rattle.linda_args.proofs.CommandLaws.{with_arg}

-- ---- bonds

none_after : {X : Type 0} (xs : List X) (x : X) → is_empty (xs ++ x ∷ []) ≡ false
none_after [] x = refl
none_after (y ∷ ys) x = eqb-suc-zero (length (ys ++ x ∷ []))

and_false : (a : Bool) → a && false ≡ false
and_false true = refl
and_false false = refl

-- an argument's rule, if it goes by another one
abbrev pub Goes : Arg → Arg → Type 0
Goes old new = (rule_of new ≡ record (rule_of old) { is_free = false }) × (new.global ≡ old.global)

goes : (old : Arg) (free : Bool) → free ≡ false → record (rule_of old) { is_free = free } ≡ record (rule_of old) { is_free = false }
goes old free is = ap (λ (f : Bool). record (rule_of old) { is_free = f }) is

pub unless : (old new : Arg) (other : Bor (List ℕ)) → AddsRequiredUnless old new (other ∷ []) → Goes old new
unless old new other h = (
  ap rule_of h.0
      ∙ goes old _ (
      ap (λ (b : Bool). not old.exclusive
      && (is_empty old.conflicts.items
      && (is_empty old.needs.items
      && (is_empty old.r_ifs.items && (is_empty old.r_ifs_all.items && (b && is_empty old.r_unless_all.items))))))
      (ap (λ (xs : List (Bor (List ℕ))). is_empty xs) h.1 ∙ none_after old.r_unless.items other)
      ∙ ap (λ (b : Bool). not old.exclusive && (is_empty old.conflicts.items && (is_empty old.needs.items && (is_empty old.r_ifs.items && b))))
      (and_false (is_empty old.r_ifs_all.items))
      ∙ ap (λ (b : Bool). not old.exclusive && (is_empty old.conflicts.items && (is_empty old.needs.items && b))) (and_false (is_empty old.r_ifs.items))
      ∙ ap (λ (b : Bool). not old.exclusive && (is_empty old.conflicts.items && b)) (and_false (is_empty old.needs.items))
      ∙ ap (λ (b : Bool). not old.exclusive && b) (and_false (is_empty old.conflicts.items))
      ∙ and_false (not old.exclusive)),
  ap (λ (a : Arg). a.global) h.0,
)

pub beside : (old new : Arg) (other : ArgPredicate × Bor (List ℕ)) → AddsRequirements old new (other ∷ []) → Goes old new
beside old new other h = (
  ap rule_of h.0
      ∙ goes old _ (
      ap (λ (b : Bool). not old.exclusive
      && (is_empty old.conflicts.items
      && (b
      && (is_empty old.r_ifs.items && (is_empty old.r_ifs_all.items && (is_empty old.r_unless.items && is_empty old.r_unless_all.items))))))
      (ap (λ (xs : List (ArgPredicate × Bor (List ℕ))). is_empty xs) h.1 ∙ none_after old.needs.items other)
      ∙ ap (λ (b : Bool). not old.exclusive && b) (and_false (is_empty old.conflicts.items))
      ∙ and_false (not old.exclusive)),
  ap (λ (a : Arg). a.global) h.0,
)

pub against : (old new : Arg) (other : Bor (List ℕ)) → AddsConflicts old new (other ∷ []) → Goes old new
against old new other h = (
  ap rule_of h.0
      ∙ goes old _ (
      ap (λ (b : Bool). not old.exclusive
      && (b
      && (is_empty old.needs.items
      && (is_empty old.r_ifs.items && (is_empty old.r_ifs_all.items && (is_empty old.r_unless.items && is_empty old.r_unless_all.items))))))
      (ap (λ (xs : List (Bor (List ℕ))). is_empty xs) h.1 ∙ none_after old.conflicts.items other)
      ∙ and_false (not old.exclusive)),
  ap (λ (a : Arg). a.global) h.0,
)

-- the two facts of it, if memory may run out
pub rule_goes : {E : Type 0} (old : Arg) (result : Result Arg E) (P : Arg → Type 0) → ((new : Arg) → P new → Goes old new) → IfOk result P
    → IfOk result (λ r. rule_of r ≡ record (rule_of old) { is_free = false })
rule_goes old result P law h = IfOk-weaker result _ _ (λ new p. (law new p).0) h

pub own_goes : {E : Type 0} (old : Arg) (result : Result Arg E) (P : Arg → Type 0) → ((new : Arg) → P new → Goes old new) → IfOk result P
    → IfOk result (λ r. r.global ≡ old.global)
own_goes old result P law h = IfOk-weaker result _ _ (λ new p. (law new p).1) h

-- ---- tables

pub one_more : (i : ℕ) → i + 1 ≡ suc i
one_more i = omega arith

-- with one more entry it is the command with one more rule
pub with_entry : (app : App) (front : List Entry) (e : Entry) (old new : Command) (arg : Arg) → IsCommand (fold with_rule app (rules_in front)) old
    → rule_of arg ≡ rule_in e → arg.global ≡ false → AddsArg old arg new → IsCommand (fold with_rule app (rules_in (front ++ e ∷ []))) new
with_entry app front e old new arg h is own adds =
    let path : fold with_rule app (rules_in (front ++ e ∷ [])) ≡ with_rule (fold with_rule app (rules_in front)) (rule_in e) =
    ap (λ (rules : List Rule). fold with_rule app rules) (map-append rule_in front (e ∷ [])) ∙ fold-append with_rule app (rules_in front) (rule_in e ∷ []) in
    subst (λ (a : App). IsCommand a new) (sym path) (with_arg (fold with_rule app (rules_in front)) (rule_in e) old new arg h is own adds)
