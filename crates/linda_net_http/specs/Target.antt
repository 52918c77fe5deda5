-- A target: a path and a query, maybe with the host that has them.
use Rattle.std.specs.Prelude.{ℕ, ◌+◌, ◌==◌, Bool, ◌&&◌, ◌||◌, not, List, take, drop, codes}
use Rattle.std.specs.Prelude.{Option, Some, None, if◌then◌else◌}
use Rattle.std.specs.List.{prefix_len}
use Rattle.std.specs.Str.{str_eq_ignore_ascii_case}

-- A target in absolute form begins with `http://`.
abbrev pub is_absolute : List ℕ → Bool
is_absolute target = str_eq_ignore_ascii_case (take 7 target) (codes "http://")

-- How long the host is that bytes begin with: up to a slash or a question mark.
abbrev pub host_len : List ℕ → ℕ
host_len bytes = prefix_len (λ b. not (b == 47 || b == 63)) bytes

-- The host of a target in absolute form, with its port.
abbrev pub host_of : List ℕ → Option (List ℕ)
host_of target =
    if is_absolute target then Some (take (host_len (drop 7 target)) (drop 7 target)) else None

-- What of a target is its path and its query.
abbrev pub local_of : List ℕ → List ℕ
local_of target =
    if is_absolute target then drop (host_len (drop 7 target)) (drop 7 target) else target

-- How many bytes are before the first question mark.
abbrev pub path_len : List ℕ → ℕ
path_len local = prefix_len (λ b. not (b == 63)) local

-- The path: after a host nothing is the same as a slash.
abbrev pub path_of : List ℕ → List ℕ
path_of target =
    if is_absolute target && (path_len (local_of target) == 0) then codes "/"
    else take (path_len (local_of target)) (local_of target)

-- The query.
abbrev pub query_of : List ℕ → List ℕ
query_of target = drop (path_len (local_of target) + 1) (local_of target)
