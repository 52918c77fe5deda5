use Rattle.std.proofs.Common.{◌≡◌, ◌+◌, All, List, [], ◌∷◌, ◌++◌, length, map, sym, ap, subst, ◌∙◌}
use Rattle.std.proofs.lemmas.List.{length-append, map-append}
use Rattle.std.proofs.lemmas.List.Elements.{All-append, All-cons, All-nil}
use Rattle.linda_store.specs.Node.{Node}
use Rattle.linda_world_laws.specs.Reached.{IsUnused}
use Rattle.linda_server.specs.Node as server
use Rattle.linda_shell.proofs.script.unused_nodes.Goals as goal

one_more : {X : Type 0} (shown : X → Node) (old new : List X) (x : X) → new ≡ old ++ x ∷ []
    → IsUnused (shown x) → All IsUnused (map shown old) → All IsUnused (map shown new)
one_more shown old new x items one all =
    subst (All IsUnused) (sym (ap (map shown) items ∙ map-append shown old (x ∷ [])))
    (All-append IsUnused (map shown old) (shown x ∷ []) all (All-cons IsUnused (shown x) [] one (All-nil IsUnused)))

pub loop-preserved : goal.loop-preserved
loop-preserved c =
    let old = c.loop.nodes.items in
    let items = c.in_ok-push.ensures.items in (
      ap length items ∙ length-append old (c.in_ok-unused_node.field-0 ∷ []) ∙ ap (λ n. n + 1) c.loop.invariant.0,
      one_more (λ node. server.shown node.before.value node.store node.down node.lost.items) old
          c.push.new.self.items c.in_ok-unused_node.field-0 items c.in_ok-unused_node.ensures c.loop.invariant.1,
    )
