-- A page of the clients of a server.
use Rattle.std.specs.Prelude.{◌≡◌, ◌≤◌, ◌<◌, ◌||◌, ℕ, Bool, List, Option, None, Some, All, IfSome}
use Rattle.std.specs.Prelude.{length, map, max, min}
use Rattle.std.specs.Option.{is_some}
use Rattle.std.specs.Ordering.{nat_cmp}
use Rattle.std.specs.FinMap as fin
use Rattle.linda_wire.specs.declared.reply.Reply.{Reply}
use Rattle.linda_book.specs.Entries.{Entry, number_in}
use Rattle.linda_book.specs.declared.kept_reply.KeptReply.{KeptReply}
use Rattle.linda_book.specs.declared.kept_reply.KeptReply.TheVariants as kept
use Rattle.linda_hold.specs.Holds.{HeldFor, held_in}
use Rattle.linda_hold.specs.Waits.{Wait, waits_of}
use Rattle.linda_shared_listing.specs.Firsts.{AreFirst}
use Rattle.linda_shared_listing.specs.declared.limits.TheConstants.{MOST_LOOKED}
use Rattle.linda_shared_listing.specs.declared.listed.ListedReply.{ListedReply}
use Rattle.linda_shared_listing.specs.declared.listed.ListedReply.TheVariants as listed
use Rattle.linda_shared_listing.specs.declared.listed.ListedClient.{ListedClient}
use Rattle.linda_shared_listing.specs.declared.listed.ClientPage.{ClientPage}

-- The kept reply as it is listed: without its tuple.
abbrev pub listed_reply : KeptReply → ListedReply
listed_reply (kept.Stored id) = listed.Stored id
listed_reply (kept.Taken id tuple) = listed.Taken id
listed_reply kept.Gone = listed.Gone
listed_reply kept.Left = listed.Left

-- the reply of an entry as it is listed, if there is an entry
abbrev pub reply_in : Option Entry → Option ListedReply
reply_in None = None
reply_in (Some entry) = Some (listed_reply entry.1)

-- A client as it is listed, but for how long it has a connection: contracts do not see time.
abbrev pub timeless : ListedClient → ListedClient
timeless row = record row { connected_for = None }

module _ (book : fin.FinMap nat_cmp Entry) (boxes : ℕ → Option (List Reply)) where
  -- Whether a client is listed: a reply is kept for it, or it has an outbox.
  abbrev pub is_listed : ℕ → Bool
  is_listed client = is_some (fin.get book client) || is_some (boxes client)

  module _ (holds : HeldFor) (waits : List Wait) where
    -- A client of this number as it is listed: what is kept for it, whether it has an outbox, and
    -- how many tuples are held for it and asks of it wait.
    abbrev pub client_of : ℕ → ListedClient
    client_of client = record {
      client = client;
      number = number_in (fin.get book client);
      reply = reply_in (fin.get book client);
      is_connected = is_some (boxes client);
      connected_for = None;
      holds = length (held_in client (fin.entries holds));
      waits = length (waits_of client waits);
    }

    -- The row has what there is of its client.
    abbrev pub IsClientRow : ListedClient → Type 0
    IsClientRow row = timeless row ≡ client_of row.client

    -- The page has the first clients from `from` on that are listed, in rising order, each once and
    -- none left out, and says which one is the next. It has as many as are asked for, unless there
    -- are no others: one at least, and 1,000 at most.
    pub record IsClientPage (from limit : ℕ) (page : ClientPage) : Type 0 where
      pub first : AreFirst is_listed from (map (λ row. row.client) page.rows.items) page.next
      pub rows : All IsClientRow page.rows.items
      pub few : length page.rows.items ≤ MOST_LOOKED
      pub within : length page.rows.items ≤ max limit 1
      pub full : IfSome page.next (λ client.
          length page.rows.items ≡ min (max limit 1) MOST_LOOKED)
      pub onward : IfSome page.next (λ client. from < client)
