-- A page of tuples or of clients as JSON.
use Rattle.std.specs.Prelude.{ℕ, Bool, true, false, List, [], ◌∷◌, ◌++◌, codes, Option, Some, None}
use Rattle.std.specs.List.{flat_map}
use Rattle.linda_tuple.specs.Tuple.{Tuple}
use Rattle.linda_hold.specs.declared.request.Request.{Request}
use Rattle.linda_text.specs.Written.{written_tuple}
use Rattle.linda_shared_listing.specs.declared.listed.ListedTuple.{ListedTuple}
use Rattle.linda_shared_listing.specs.declared.listed.TuplePage.{TuplePage}
use Rattle.linda_shared_listing.specs.declared.listed.ListedReply.{ListedReply}
use Rattle.linda_shared_listing.specs.declared.listed.ListedReply.TheVariants as listed
use Rattle.linda_shared_listing.specs.declared.listed.ListedClient.{ListedClient}
use Rattle.linda_shared_listing.specs.declared.listed.ClientPage.{ClientPage}
use Rattle.linda_inspect.specs.Json.{json_member, json_string, json_tuple}

-- The number from which the next page goes on.
unfoldable pub json_next : Option ℕ → List ℕ
json_next None = codes "{\n\"next\":null"
json_next (Some number) = json_member (codes "{\n\"next\":") number

-- The same, and the beginning of a list.
unfoldable pub json_begun : Option ℕ → List ℕ → List ℕ
json_begun next list = json_next next ++ list

-- A tuple with its id.
unfoldable pub json_placed : ℕ → Tuple → List ℕ
json_placed id tuple = json_member (codes "{\"id\":") id ++ codes ",\"tuple\":" ++ json_tuple tuple

-- The text of a tuple.
unfoldable pub json_text : Tuple → List ℕ
json_text tuple = codes ",\"text\":" ++ json_string (written_tuple tuple)

-- For how many seconds something is so, after this name; nothing if that is not known.
unfoldable pub json_age : List ℕ → Option ℕ → List ℕ
json_age name None = name ++ codes "null"
json_age name (Some seconds) = json_member name seconds

-- The ticket of the request that a tuple is held for.
unfoldable pub json_ticket : ℕ → List ℕ
json_ticket ticket = json_member (codes ",\"ticket\":") ticket ++ codes "}"

-- That request.
unfoldable pub json_holder : ℕ → ℕ → List ℕ
json_holder client ticket =
    json_member (codes ",\"held\":{\"client\":") client ++ json_ticket ticket

-- For whom a tuple is held.
unfoldable pub json_held : Option Request → List ℕ
json_held None = codes ",\"held\":null"
json_held (Some request) = json_holder request.client request.ticket

-- For how many seconds a tuple is held, up to the end of its row.
unfoldable pub json_held_for : Option ℕ → List ℕ
json_held_for seconds = json_age (codes ",\"held_seconds\":") seconds ++ codes "}"

-- For whom a tuple is held and for how long, up to the end of its row.
unfoldable pub json_holding : Option Request → Option ℕ → List ℕ
json_holding held seconds = json_held held ++ json_held_for seconds

-- A tuple: its id, itself, its text, for whom it is held and for how long.
unfoldable pub json_row : ListedTuple → List ℕ
json_row row =
    json_placed row.id row.tuple ++ json_text row.tuple ++ json_holding row.held row.held_for

-- A tuple after a comma.
unfoldable pub json_later_row : ListedTuple → List ℕ
json_later_row row = codes ",\n" ++ json_row row

-- The tuples of a page, each on a line of its own.
unfoldable pub json_rows : List ListedTuple → List ℕ
json_rows [] = []
json_rows (row ∷ rows) = codes "\n" ++ json_row row ++ flat_map json_later_row rows

-- The same, and the end of the object.
unfoldable pub json_rows_to_end : List ListedTuple → List ℕ
json_rows_to_end rows = json_rows rows ++ codes "\n]\n}\n"

-- A page of tuples.
unfoldable pub json_tuple_page : TuplePage → List ℕ
json_tuple_page page =
    json_begun page.next (codes ",\n\"tuples\":[") ++ json_rows_to_end page.rows.items

-- A client with its last number.
unfoldable pub json_named : ℕ → ℕ → List ℕ
json_named client number =
    json_member (codes "{\"client\":") client ++ json_member (codes ",\"number\":") number

-- The reply that is kept for a client, and the id of the tuple that it speaks of.
unfoldable pub json_reply : Option ListedReply → List ℕ
json_reply None = codes ",\"reply\":null,\"id\":null"
json_reply (Some (listed.Stored id)) = json_member (codes ",\"reply\":\"stored\",\"id\":") id
json_reply (Some (listed.Taken id)) = json_member (codes ",\"reply\":\"taken\",\"id\":") id
json_reply (Some listed.Gone) = codes ",\"reply\":\"gone\",\"id\":null"
json_reply (Some listed.Left) = codes ",\"reply\":\"left\",\"id\":null"

-- A client with its last number and the reply to that.
unfoldable pub json_kept : ℕ → ℕ → Option ListedReply → List ℕ
json_kept client number reply = json_named client number ++ json_reply reply

-- Whether a client has a connection.
unfoldable pub json_connected : Bool → List ℕ
json_connected true = codes ",\"connected\":true"
json_connected false = codes ",\"connected\":false"

-- Whether a client has a connection, and for how many seconds.
unfoldable pub json_connection : Bool → Option ℕ → List ℕ
json_connection is_connected seconds =
    json_connected is_connected ++ json_age (codes ",\"connected_seconds\":") seconds

-- How many tuples are held for a client, and how many of its asks wait, up to the end of its row.
unfoldable pub json_counts : ℕ → ℕ → List ℕ
json_counts holds waits =
    json_member (codes ",\"holds\":") holds ++ json_member (codes ",\"waits\":") waits ++ codes "}"

-- A client.
unfoldable pub json_client : ListedClient → List ℕ
json_client row =
    json_kept row.client row.number row.reply
    ++ json_connection row.is_connected row.connected_for
    ++ json_counts row.holds row.waits

-- A client after a comma.
unfoldable pub json_later_client : ListedClient → List ℕ
json_later_client row = codes ",\n" ++ json_client row

-- The clients of a page, each on a line of its own.
unfoldable pub json_clients : List ListedClient → List ℕ
json_clients [] = []
json_clients (row ∷ rows) = codes "\n" ++ json_client row ++ flat_map json_later_client rows

-- The same, and the end of the object.
unfoldable pub json_clients_to_end : List ListedClient → List ℕ
json_clients_to_end rows = json_clients rows ++ codes "\n]\n}\n"

-- A page of clients.
unfoldable pub json_client_page : ClientPage → List ℕ
json_client_page page =
    json_begun page.next (codes ",\n\"clients\":[") ++ json_clients_to_end page.rows.items
