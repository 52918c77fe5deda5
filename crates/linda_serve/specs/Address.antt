-- Address of a server, and the line that it prints once it listens.
use Rattle.std.specs.Prelude.{◌≡◌, ◌++◌, ℕ, List, [], ◌∷◌, codes}
use Rattle.std.specs.Fmt.{decimal}
use Rattle.std.specs.Net.Addr.{ipv4_octets}
use Rattle.std.specs.Net.Socket.{v4_ip, v4_port}
use Rattle.std.specs.declared.net.socket_addr.SocketAddr.{SocketAddr}
use Rattle.std.specs.declared.net.socket_addr.SocketAddr.TheVariants.{V4, V6}

-- It is 127.0.0.1, which only programs of this machine reach, with this port.
abbrev pub IsOfThisMachine : SocketAddr → ℕ → Type 0
IsOfThisMachine (V4 a) port = (ipv4_octets (v4_ip a) ≡ 127 ∷ 0 ∷ 0 ∷ 1 ∷ []) × (v4_port a ≡ port)
IsOfThisMachine (V6 a) port = ⊥

-- `ready PORT`, as a line
abbrev pub ready_line : ℕ → List ℕ
ready_line port = codes "ready " ++ decimal port ++ 10 ∷ []

-- `ready PATH`, as a line
abbrev pub ready_line_at : List ℕ → List ℕ
ready_line_at path = codes "ready " ++ path ++ 10 ∷ []
