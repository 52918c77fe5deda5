-- Members of a world: what a call of a client comes to, for that client and among all.
use Rattle.std.specs.Prelude.{◌≡◌, ℕ, List, ◌++◌, Option, Some, None, Result, Ok, Err, map}
use Rattle.std.specs.Option.{option_map}
use Rattle.std.specs.FinMap as maps
use Rattle.linda_client.specs.Reaction.{Answer, Reaction}
use Rattle.linda_client.specs.React.{Call, react}
use Rattle.linda_world_laws.specs.declared.packet.Packet.{Packet}
use Rattle.linda_world_laws.specs.declared.seen.Seen.{Seen}
use Rattle.linda_world_laws.specs.World.{Member, Members, member_then, sent_by}
use Rattle.linda_world_laws.specs.Steps.{Told, reacted}
use Rattle.linda_world.specs.declared.fault.WorldFault.{WorldFault}
use Rattle.linda_world.specs.declared.fault.WorldFault.TheVariants as faults
use Rattle.linda_world.specs.Answer.{Tells}

-- why a call is refused, if it is
abbrev pub refusal_of : Answer → Option WorldFault
refusal_of (Ok reaction) = None
refusal_of (Err fault) = Some (faults.Client fault)

-- A client made this call: it reacted so.
pub record Reacts (call : Call) (c : ℕ) (old : Member) (ps : List Packet) (told : Told)
    (new : Member) (later : List Packet) : Type 0 where
  pub reaction : Reaction
  pub answer : react old.client call ≡ Ok reaction
  pub member_is : new ≡ member_then old reaction
  pub packets_are : later ≡ ps ++ map (sent_by c) reaction.packets
  pub told_is : told ≡ reacted c reaction

-- A client made this call; or it is refused, and nothing changed; or memory ran out, and what it
-- was given is as before.
abbrev pub ReactsOrNot : Call → ℕ → Member → List Packet → Result Seen WorldFault → Member
    → List Packet → Type 0
ReactsOrNot call c old ps result new later =
    Tells (λ told. Reacts call c old ps told new later)
    (λ fault. (refusal_of (react old.client call) ≡ Some fault) × ((new ≡ old) × (later ≡ ps)))
    ((refusal_of (react old.client call) ≡ None) × ((new.got ≡ old.got) × (later ≡ ps))) result

-- why a call of a client is refused, if it is: there is no such client, or the client refuses it
abbrev pub refusal_to : Option Member → Call → Option WorldFault
refusal_to None call = Some faults.NoClient
refusal_to (Some member) call = refusal_of (react member.client call)

-- The client of this number did that, and the others are as they were.
pub record ReactsIn (call : Call) (c : ℕ) (old : Members) (ps : List Packet) (told : Told)
    (new : Members) (later : List Packet) : Type 0 where
  pub member : Member
  pub known : maps.get old c ≡ Some member
  pub now : Member
  pub reacts : Reacts call c member ps told now later
  pub members : new ≡ maps.insert old c now

-- Each client was given what it was given before.
abbrev pub SameGot : Members → Members → Type 0
SameGot old new = (d : ℕ) → option_map (λ (m : Member). m.got) (maps.get new d)
    ≡ option_map (λ (m : Member). m.got) (maps.get old d)

abbrev pub ReactsInOrNot : Call → ℕ → Members → List Packet → Result Seen WorldFault → Members
    → List Packet → Type 0
ReactsInOrNot call c old ps result new later =
    Tells (λ told. ReactsIn call c old ps told new later)
    (λ fault. (refusal_to (maps.get old c) call ≡ Some fault) × ((new ≡ old) × (later ≡ ps)))
    ((refusal_to (maps.get old c) call ≡ None) × (SameGot old new × (later ≡ ps))) result
