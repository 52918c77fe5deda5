-- Longest waits and holds, as JSON.
use Rattle.std.specs.Prelude.{ℕ, Bool, true, false, List, [], ◌∷◌, ◌++◌, codes}
use Rattle.std.specs.List.{flat_map}
use Rattle.linda_tuple.specs.Template.{Template}
use Rattle.linda_hold.specs.declared.long.LongWait.{LongWait}
use Rattle.linda_text.specs.Written.{written_template}
use Rattle.linda_shared_listing.specs.declared.longest.LongestWaitsAndHolds.{LongestWaitsAndHolds}
use Rattle.linda_inspect.specs.Json.{json_member, json_string}
use Rattle.linda_status.specs.Listed.{json_rows_to_end}

-- The request that waits.
unfoldable pub json_asker : ℕ → ℕ → List ℕ
json_asker client ticket =
    json_member (codes "{\"client\":") client ++ json_member (codes ",\"ticket\":") ticket

-- Whether it takes what it waits for.
unfoldable pub json_takes : Bool → List ℕ
json_takes true = codes ",\"takes\":true"
json_takes false = codes ",\"takes\":false"

-- The text of what it waits for.
unfoldable pub json_template : Template → List ℕ
json_template template = codes ",\"text\":" ++ json_string (written_template template)

-- For how many seconds it waits, up to the end of its row.
unfoldable pub json_waited : ℕ → List ℕ
json_waited seconds = json_member (codes ",\"seconds\":") seconds ++ codes "}"

-- What it waits for and for how long, up to the end of its row.
unfoldable pub json_wanted : Template → ℕ → List ℕ
json_wanted template seconds = json_template template ++ json_waited seconds

-- Whether it takes what it waits for, that, and for how long it does.
unfoldable pub json_asked : Bool → Template → ℕ → List ℕ
json_asked takes template seconds = json_takes takes ++ json_wanted template seconds

-- A request that waits.
unfoldable pub json_wait : LongWait → List ℕ
json_wait row =
    json_asker row.request.client row.request.ticket
    ++ json_asked row.asked.remove row.asked.template row.seconds

-- One after a comma.
unfoldable pub json_later_wait : LongWait → List ℕ
json_later_wait row = codes ",\n" ++ json_wait row

-- Each of them on a line of its own.
unfoldable pub json_waits : List LongWait → List ℕ
json_waits [] = []
json_waits (row ∷ rows) = codes "\n" ++ json_wait row ++ flat_map json_later_wait rows

-- Those that wait, and the beginning of the list of those that are held.
unfoldable pub json_waits_to_end : List LongWait → List ℕ
json_waits_to_end rows = json_waits rows ++ codes "\n],\n\"holds\":["

-- The same, from the beginning of the object on.
unfoldable pub json_waits_to_holds : List LongWait → List ℕ
json_waits_to_holds rows = codes "{\n\"waits\":[" ++ json_waits_to_end rows

-- The whole object.
unfoldable pub json_longest : LongestWaitsAndHolds → List ℕ
json_longest found = json_waits_to_holds found.waits.items ++ json_rows_to_end found.holds.items
