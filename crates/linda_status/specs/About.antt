-- Members of a JSON object that stay the same while a server serves.
use Rattle.std.specs.Prelude.{ℕ, List, ◌++◌, codes, Option, Some, None}
use Rattle.std.specs.Borrow.{Bor}
use Rattle.linda_inspect.specs.Json.{json_member, json_string}
use Rattle.linda_status.specs.declared.about.About.{About}

-- The version of the program.
unfoldable pub json_version : List ℕ → List ℕ
json_version version = codes ",\"version\":" ++ json_string version

-- The folder of the store.
unfoldable pub json_folder : List ℕ → List ℕ
json_folder folder = codes ",\"folder\":" ++ json_string folder

-- The port that it listens on, if it does.
unfoldable pub json_port : Option ℕ → List ℕ
json_port None = codes ",\"port\":null"
json_port (Some port) = json_member (codes ",\"port\":") port

-- The path of a unix socket.
unfoldable pub json_place : List ℕ → List ℕ
json_place path = codes ",\"socket\":" ++ json_string path

-- The unix socket that it listens on, if it does.
unfoldable pub json_socket : Option (Bor (List ℕ)) → List ℕ
json_socket None = codes ",\"socket\":null"
json_socket (Some path) = json_place path.now

-- For how many seconds it serves, if that is known.
unfoldable pub json_uptime : Option ℕ → List ℕ
json_uptime None = codes ",\"uptime_seconds\":null"
json_uptime (Some seconds) = json_member (codes ",\"uptime_seconds\":") seconds

-- Where it listens, and for how many seconds it serves.
unfoldable pub json_places : About → Option ℕ → List ℕ
json_places about uptime = json_port about.port ++ json_socket about.socket ++ json_uptime uptime

-- All of it.
unfoldable pub json_about : About → Option ℕ → List ℕ
json_about about uptime =
    json_version about.version.now ++ json_folder about.folder.now ++ json_places about uptime
