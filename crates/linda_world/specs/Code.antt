-- Codes of the parts of a world, for a model's value that holds them.
use Rattle.std.specs.Prelude.{◌≡◌, ℕ, Bool, ◌⊎◌, List, refl}
use Rattle.std.specs.Coded.{Coded, code_by, coded×, coded⊎, coded_ℕ, coded_bool, coded_list}
use Rattle.std.specs.FinMap as map
use Rattle.std.proofs.Common.{inl, inr, ap}
use Rattle.linda_wire.specs.declared.message.Message.{Message}
use Rattle.linda_wire.specs.declared.reply.Reply.{Reply}
use Rattle.linda_store_state.specs.declared.deed.Deed.{Deed}
use Rattle.linda_store_state.specs.State.{State}
use Rattle.linda_store_state.specs.Codes.{state_code}
use Rattle.linda_store_state.specs.DeedCode.{deed_code}
use Rattle.linda_store_step.specs.Soft.{Soft}
use Rattle.linda_store_step.specs.Codes.{soft_code}
use Rattle.linda_store.specs.Node.{Node}
use Rattle.linda_client.specs.Client.{Client}
use Rattle.linda_client.specs.ClientCode.{client_code}
use Rattle.linda_world_laws.specs.declared.packet.Body.{Body}
use Rattle.linda_world_laws.specs.declared.packet.Body.TheVariants as bodies
use Rattle.linda_world_laws.specs.declared.packet.Packet.{Packet}
use Rattle.linda_world_laws.specs.World.{Server, Member, Members, World}
use Rattle.linda_world.specs.MessageCode.{pair_code, message_code, reply_code}

-- the code of a client with what it was given
abbrev pub member_code : Coded Member
member_code = code_by (Client × List (ℕ × ℕ)) (coded× client_code (coded_list pair_code))
    (λ m. (m.client, m.got)) (λ p. record { client = p.0; got = p.1 }) (λ _. refl)

-- the code of a node
abbrev pub node_code : Coded Node
node_code = code_by (State × (Soft × (Bool × (Bool × List Deed))))
    (coded× state_code
    (coded× soft_code (coded× coded_bool (coded× coded_bool (coded_list deed_code)))))
    (λ n. (n.state, (n.soft, (n.is_down, (n.may_fill, n.lost)))))
    (λ p. record {
      state = p.0;
      soft = p.1.0;
      is_down = p.1.1.0;
      may_fill = p.1.1.1.0;
      lost = p.1.1.1.1;
    }) (λ _. refl)

-- the code of a server
abbrev pub server_code : Coded Server
server_code = code_by (List Deed × Node) (coded× (coded_list deed_code) node_code)
    (λ s. (s.deeds, s.node)) (λ p. record { deeds = p.0; node = p.1 }) (λ _. refl)

abbrev pub body_parts : Body → Message ⊎ Reply
body_parts (bodies.Message m) = inl m
body_parts (bodies.Reply r) = inr r

abbrev pub body_of_parts : Message ⊎ Reply → Body
body_of_parts (inl m) = bodies.Message m
body_of_parts (inr r) = bodies.Reply r

abbrev pub body_again : (b : Body) → body_of_parts (body_parts b) ≡ b
body_again (bodies.Message m) = refl
body_again (bodies.Reply r) = refl

-- the code of a packet
abbrev pub packet_code : Coded Packet
packet_code = code_by (ℕ × (ℕ × ((Message ⊎ Reply) × Bool)))
    (coded× coded_ℕ (coded× coded_ℕ (coded× (coded⊎ message_code reply_code) coded_bool)))
    (λ p. (p.server, (p.client, (body_parts p.body, p.delivered))))
    (λ q. record {
      server = q.0;
      client = q.1.0;
      body = body_of_parts q.1.1.0;
      delivered = q.1.1.1;
    })
    (λ p. ap (λ (b : Body). record p { body = b }) (body_again p.body))

-- the code of a world
abbrev pub world_code : Coded World
world_code = code_by (List Server × (Members × List Packet))
    (coded× (coded_list server_code)
    (coded× (map.code coded_ℕ member_code) (coded_list packet_code)))
    (λ w. (w.servers, (w.members, w.packets)))
    (λ p. record { servers = p.0; members = p.1.0; packets = p.1.1 }) (λ _. refl)
