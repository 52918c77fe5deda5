-- What each release and each removal of waits keeps, giving up a request and closing a client keep too.
use Rattle.std.proofs.Common.{ℕ, Bool, true, false, cond, not, ◌==◌, List, [], ◌∷◌, Option, Some, None, filter}
use Rattle.std.specs.FinMap as maps
use Rattle.linda_hold.specs.declared.request.Request.{Request}
use Rattle.linda_hold.specs.Request.{same_request}
use Rattle.linda_hold.specs.Waits.{Wait, is_waiting, without}
use Rattle.linda_hold.specs.Holds.{held_in}
use Rattle.linda_store_step.specs.Soft.{Soft, Bagged}
use Rattle.linda_store_step.specs.Dispatch.{no_sends, release, release_if, on_cancel, release_all, on_close}

-- The holds as they are, and the waits that a test keeps.
abbrev pub kept_waits : (Wait → Bool) → Soft → Soft
kept_waits p soft = record { holds = soft.holds; waits = filter p soft.waits }

module _ (bag : Bagged) (P : Soft → Type 0)
    (freed_keeps : (id : ℕ) (soft : Soft) → P soft → P (release bag id soft).soft)
    (fewer_keeps : (p : Wait → Bool) (soft : Soft) → P soft → P (kept_waits p soft)) where
  freed_if_keeps : (held : Option ℕ) (soft : Soft) → P soft → P (release_if bag held soft).soft
  freed_if_keeps None soft is = is
  freed_if_keeps (Some id) soft is = freed_keeps id soft is

  pub cancelling_keeps : (request : Request) (held : Option ℕ) (soft : Soft) → P soft → P (on_cancel bag request held soft).soft
  cancelling_keeps request held soft is =
      elim (is_waiting request soft.waits) as
      (λ b. P (cond b (no_sends (record { holds = soft.holds; waits = without request soft.waits })) (release_if bag held soft)).soft) [
        | true ↦ fewer_keeps (λ w. not (same_request request w.0)) soft is
        | false ↦ freed_if_keeps held soft is
      ]

  pub all_freed_keeps : (ids : List ℕ) (soft : Soft) → P soft → P (release_all bag ids soft).soft
  all_freed_keeps [] soft is = is
  all_freed_keeps (id ∷ ids) soft is = all_freed_keeps ids (release bag id soft).soft (freed_keeps id soft is)

  pub closing_keeps : (client : ℕ) (soft : Soft) → P soft → P (on_close bag client soft).soft
  closing_keeps client soft is =
      all_freed_keeps (held_in client (maps.entries soft.holds)) (kept_waits (λ w. not (client == w.0.client)) soft)
      (fewer_keeps (λ w. not (client == w.0.client)) soft is)
