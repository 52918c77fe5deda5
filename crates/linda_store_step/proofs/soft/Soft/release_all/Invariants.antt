use Rattle.std.proofs.Common.{◌≡◌, ◌++◌, ℕ}
use Rattle.linda_bag.specs.SearchHints.{AreRight}
use Rattle.linda_store_step.specs.Soft.{AreApart}
use Rattle.linda_store_step.specs.Looking.{is_held}
use Rattle.linda_store_step.specs.Dispatch.{release_all}
use Rattle.linda_store_step.proofs.soft.Soft.release_all.Given as goal

-- to release the holds that are left, now, comes to the same as to release all of them at first
abbrev pub invariant-loop-id : goal.invariant-loop-id
invariant-loop-id g l = record {
  apart : AreApart l.self;
  sends : l.sends.items ++ (release_all (g.B.Bag.contents l.bag) l.id-iterator.rest.items l.self).sends
      ≡ l.fn.sends.items ++ (release_all (g.B.Bag.contents l.bag) l.fn.ids.items l.fn.self).sends;
  soft : (release_all (g.B.Bag.contents l.bag) l.id-iterator.rest.items l.self).soft ≡ (release_all (g.B.Bag.contents l.bag) l.fn.ids.items l.fn.self).soft;
  right : (next : ℕ) → AreRight (g.B.Bag.contents l.bag) (is_held l.fn.self.holds) next l.fn.hints
      → AreRight (g.B.Bag.contents l.bag) (is_held l.self.holds) next l.hints;
}
