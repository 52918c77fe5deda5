-- The links of a call.
use Rattle.std.specs.Prelude.{◌≡◌, ℕ, Bool, List, Option, map, option_map, Some, All}
use Rattle.std.specs.String.{string_bytes}
use Rattle.std.specs.List.{enumerate_from}
use Rattle.linda_net_proxy.specs.declared.link.ServerLink.{ServerLink}

-- the number of a link's server, and its port
abbrev pub place_of : ServerLink → ℕ × ℕ
place_of link = (link.server, link.port)

-- a link of this client, which was never used or goes on
abbrev pub IsOf : ℕ → Bool → ServerLink → Type 0
IsOf client fresh link = (link.client ≡ client) × (link.fresh ≡ fresh)

-- The links of a client, one to each port in their order: the server of the first port is 0, and so
-- on.
abbrev pub IsLinked : ℕ → Bool → List ℕ → List ServerLink → Type 0
IsLinked client fresh ports links =
    (map place_of links ≡ enumerate_from 0 ports) × All (IsOf client fresh) links

-- the number of a link's server, and its path
abbrev pub path_of : ServerLink → ℕ × Option (List ℕ)
path_of link = (link.server, option_map string_bytes link.path)

-- The links of a client, one to the socket at each path in their order.
abbrev pub IsLinkedAt : ℕ → Bool → List (List ℕ) → List ServerLink → Type 0
IsLinkedAt client fresh paths links =
    (map path_of links ≡ enumerate_from 0 (map (λ path. Some path) paths))
    × All (IsOf client fresh) links
