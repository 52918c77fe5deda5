-- JSON of what a state keeps.
use Rattle.std.specs.Prelude.{◌≡◌, ℕ, ◌==◌, ◌+◌, ◌-◌, ◌/◌, ◌%◌, nat_lt, List, [], ◌∷◌, ◌++◌, codes}
use Rattle.std.specs.Prelude.{Bool, Vec, true, false, if◌then◌else◌}
use Rattle.std.specs.declared.alloc.Global.{Global}
use Rattle.std.specs.List.{flat_map}
use Rattle.std.specs.FinMap.{entries, len}
use Rattle.std.specs.Fmt.{decimal, signed_decimal}
use Rattle.linda_tuple.specs.declared.atom.Atom.{Atom}
use Rattle.linda_tuple.specs.declared.atom.Atom.TheVariants as atoms
use Rattle.linda_tuple.specs.Tuple.{Tuple}
use Rattle.linda_book.specs.Entries.{Entry}
use Rattle.linda_book.specs.declared.kept_reply.KeptReply.{KeptReply}
use Rattle.linda_book.specs.declared.kept_reply.KeptReply.TheVariants as kept
use Rattle.linda_store_state.specs.State.{State}
use Rattle.linda_inspect.specs.declared.lists.Lists.{Lists}
use Rattle.linda_inspect.specs.declared.json.value.TheConstants as mark

-- These bytes were written after what was there.
abbrev pub IsPushed : Vec ℕ Global → Vec ℕ Global → List ℕ → Type 0
IsPushed old new bytes = new.items ≡ old.items ++ bytes

-- The hexadecimal digit of a number below 16.
abbrev pub hex_digit : ℕ → ℕ
hex_digit n = if nat_lt n 10 then mark.ZERO + n else mark.TEN + (n - 10)

-- A byte of a string: a quote and a backslash after a backslash, a control character by its number,
-- each other one as itself.
abbrev pub json_byte : ℕ → List ℕ
json_byte b =
    if b == mark.QUOTE then codes "\\\""
    else (if b == mark.BACKSLASH then codes "\\\\"
    else (if nat_lt b mark.SPACE
    then codes "\\u00" ++ hex_digit (b / 16) ∷ hex_digit (b % 16) ∷ []
    else b ∷ []))

-- A string: its bytes between quotes.
abbrev pub json_string : List ℕ → List ℕ
json_string bytes = mark.QUOTE ∷ (flat_map json_byte bytes ++ mark.QUOTE ∷ [])

-- An integer is a number, a text a string, and a truth value is one.
abbrev pub json_atom : Atom → List ℕ
json_atom (atoms.Int n) = signed_decimal n
json_atom (atoms.Text t) = json_string t
json_atom (atoms.Bool true) = codes "true"
json_atom (atoms.Bool false) = codes "false"

-- A field after its comma.
abbrev pub json_field : Atom → List ℕ
json_field field = codes "," ++ json_atom field

-- A tuple: an array of its tag and its fields.
abbrev pub json_tuple : Tuple → List ℕ
json_tuple tuple =
    codes "[" ++ json_atom tuple.tag ++ flat_map json_field tuple.fields ++ codes "]"

-- A name, as it is, and a number.
abbrev pub json_member : List ℕ → ℕ → List ℕ
json_member name n = name ++ decimal n

-- The rows of a list, the first after this mark, each later one after a comma.
abbrev pub json_rows : {A : Type 0} → (A → List ℕ) → List ℕ → List A → List ℕ
json_rows row mark [] = []
json_rows row mark (x ∷ xs) = (mark ++ row x) ++ json_rows row (codes ",\n") xs

-- The members of a tuple with its id.
abbrev pub json_placed : ℕ × Tuple → List ℕ
json_placed e = json_member (codes "\"id\":") e.0 ++ codes ",\"tuple\":" ++ json_tuple e.1

-- A tuple with its id.
abbrev pub json_entry : ℕ × Tuple → List ℕ
json_entry e = codes "{" ++ json_placed e ++ codes "}"

-- The member of a kept reply, and those of what it has.
abbrev pub json_reply : KeptReply → List ℕ
json_reply (kept.Stored id) = json_member (codes ",\"reply\":\"stored\",\"id\":") id
json_reply (kept.Taken id tuple) = codes ",\"reply\":\"taken\"," ++ json_placed (id, tuple)
json_reply kept.Gone = codes ",\"reply\":\"gone\""
json_reply kept.Left = codes ",\"reply\":\"left\""

-- A client with its last number and the reply to that.
abbrev pub json_client : ℕ × Entry → List ℕ
json_client e =
    json_member (codes "{\"client\":") e.0 ++ json_member (codes ",\"number\":") e.1.0
    ++ json_reply e.1.1 ++ codes "}"

abbrev pub json_tuples : List (ℕ × Tuple) → List ℕ
json_tuples rows = json_rows json_entry (codes "\n") rows

abbrev pub json_clients : List (ℕ × Entry) → List ℕ
json_clients rows = json_rows json_client (codes "\n") rows

-- The next id, and how many tuples and clients are kept.
abbrev pub json_numbers : ℕ → ℕ → ℕ → List ℕ
json_numbers next tuples clients =
    json_member (codes ",\n\"next\":") next ++ json_member (codes ",\n\"tuple_count\":") tuples
    ++ json_member (codes ",\n\"client_count\":") clients

abbrev pub json_counts : State → List ℕ
json_counts st = json_numbers st.next (len st.bag) (len st.book)

-- The tuples by rising id, if they are asked for.
abbrev pub json_tuple_list : Bool → State → List ℕ
json_tuple_list false st = []
json_tuple_list true st =
    codes ",\n\"tuples\":[" ++ json_tuples (entries st.bag) ++ codes "\n]"

-- The clients by rising number, if they are asked for.
abbrev pub json_client_list : Bool → State → List ℕ
json_client_list false st = []
json_client_list true st =
    codes ",\n\"clients\":[" ++ json_clients (entries st.book) ++ codes "\n]"

-- What a state keeps, up to the end of the object.
abbrev pub json_state : Lists → State → List ℕ
json_state lists st =
    json_counts st ++ json_tuple_list lists.tuples st ++ json_client_list lists.clients st
    ++ codes "\n}\n"
