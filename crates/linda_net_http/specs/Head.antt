-- The head that a connection sent, and what it asks for.
use Rattle.std.specs.Prelude.{◌≡◌, ◌≢◌, ℕ, ◌<◌, ◌≤◌, ◌⊎◌, Bool, List, length, take, map, codes, All}
use Rattle.std.specs.Prelude.{Option, Some, None, if◌then◌else◌}
use Rattle.httparse.specs.Grammar.{RequestHead, ReadsRequest, HasNoRequest}
use Rattle.httparse.specs.Spans.{name_and_value, RequestOverflows}
use Rattle.linda_net_http.specs.declared.head.HeadResult.{HeadResult}
use Rattle.linda_net_http.specs.declared.head.HeadResult.TheVariants as heads
use Rattle.linda_net_http.specs.declared.head.TheConstants.{MOST_HEAD, MOST_FIELDS}
use Rattle.linda_net_http.specs.Host.{IsSame, IsOwn}
use Rattle.linda_net_http.specs.Target.{host_of, path_of, query_of}

-- A field that names a host names this machine.
abbrev pub NamesUs : List ℕ × List ℕ → Type 0
NamesUs field = IsSame field.0 (codes "host") → IsOwn field.1

-- The host of the target is this machine; or it has none, and each field names this machine or
-- none.
abbrev pub IsForUs : Option (List ℕ) → List (List ℕ × List ℕ) → Type 0
IsForUs (Some host) fields = IsOwn host
IsForUs None fields = All NamesUs fields

-- GET asks for a whole page, and HEAD for what goes before it.
abbrev pub IsAskedBy : Bool → List ℕ → Type 0
IsAskedBy is_whole method = method ≡ (if is_whole then codes "GET" else codes "HEAD")

-- What a method asks for at a target.
abbrev pub IsReadAs : List ℕ → List ℕ → HeadResult → Type 0
IsReadAs method target heads.Partly = ⊥
IsReadAs method target heads.Nothing = ⊥
IsReadAs method target heads.Foreign = ⊥
IsReadAs method target heads.Other = (method ≢ codes "GET") × (method ≢ codes "HEAD")
IsReadAs method target (heads.Page asked is_whole) =
    IsAskedBy is_whole method
    × (asked.path.now ≡ path_of target) × (asked.query.now ≡ query_of target)

-- What a method, a target and fields ask for.
abbrev pub Asks : List ℕ → List ℕ → List (List ℕ × List ℕ) → HeadResult → Type 0
Asks method target fields heads.Partly = ⊥
Asks method target fields heads.Nothing = ⊥
Asks method target fields heads.Foreign = ¬ (IsForUs (host_of target) fields)
Asks method target fields heads.Other =
    IsForUs (host_of target) fields × IsReadAs method target heads.Other
Asks method target fields (heads.Page asked is_whole) =
    IsForUs (host_of target) fields × IsReadAs method target (heads.Page asked is_whole)

-- As much of what was sent as may be a head.
abbrev pub front : List ℕ → List ℕ
front sent = take MOST_HEAD sent

-- What was sent begins with a head that asks for this.
abbrev pub Begins : List ℕ → HeadResult → Type 0
Begins sent head =
    (h : RequestHead) × (rest : List ℕ) × ReadsRequest (front sent) h rest
    × Asks h.method h.target (map name_and_value h.fields) head

-- What was sent so far comes to this: it has no whole head yet; or nothing can follow by which it
-- begins with one that is short enough; or it begins with one.
abbrev pub IsHeadOf : List ℕ → HeadResult → Type 0
IsHeadOf sent heads.Partly = (length sent < MOST_HEAD) × HasNoRequest sent
IsHeadOf sent heads.Nothing =
    RequestOverflows MOST_FIELDS (front sent)
    ⊎ ((MOST_HEAD ≤ length sent) × HasNoRequest (front sent))
IsHeadOf sent heads.Foreign = Begins sent heads.Foreign
IsHeadOf sent heads.Other = Begins sent heads.Other
IsHeadOf sent (heads.Page asked is_whole) = Begins sent (heads.Page asked is_whole)
