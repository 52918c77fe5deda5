use Rattle.std.proofs.Common.{◌≡◌, length, map, false, sym, subst, arith}
use Rattle.std.proofs.lemmas.List.{length-map}
use Rattle.linda_world_laws.specs.Reached.{IsReached, begins}
use Rattle.linda_world.specs.Scene.{world_of}
use Rattle.linda_world.proofs.WorldLaws.{is_run, start_of}
use Rattle.linda_world.proofs.world.World.new.Goals as goal

pub invariant_of-result : goal.invariant_of-result
invariant_of-result g c =
    let count : length (map (λ n. g.N.Node.shown n) c.args.nodes.items) ≡ length c.args.nodes.items = length-map c.args.nodes.items (λ n. g.N.Node.shown n) in
    is_run c.in_ok-scene.scene false (subst IsReached (sym c.in_ok-scene.ensures) (begins (world_of (map (λ n. g.N.Node.shown n) c.args.nodes.items))
    (start_of (map (λ n. g.N.Node.shown n) c.args.nodes.items) (omega (arith, count, c.requires.some))
    (omega (arith, count, c.requires.few)) c.requires.unused)))
