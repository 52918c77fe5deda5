-- One connection: it is answered once, to what it sent until then.
use Rattle.std.specs.Prelude.{◌≡◌, ℕ, Bool, true, false, List, [], ◌++◌}
use Rattle.linda_net_http.specs.declared.http_exchange.HttpExchange.{HttpExchange}
use Rattle.linda_net_http.specs.declared.pages.PageStatus.{PageStatus}
use Rattle.linda_net_http.specs.Response.{IsReply}

-- What it sends is kept until it is answered, and nothing else changes.
pub record HasHeard (old : HttpExchange) (bytes : List ℕ) (new : HttpExchange) : Type 0 where
  pub out : new.out ≡ old.out
  pub answered : new.is_answered ≡ old.is_answered
  pub head : old.is_answered ≡ false → new.head.items ≡ old.head.items ++ bytes

-- Whether it was answered before, and is now; what waited to be written, and what waits now.
abbrev pub ServesAt : (List ℕ → List ℕ → PageStatus → List ℕ → List ℕ → Type 0)
    → Bool → Bool → List ℕ → List ℕ → List ℕ → Type 0
ServesAt tells true now sent old new = (now ≡ true) × (new ≡ old)
ServesAt tells false false sent old new = IsReply tells sent false [] × (new ≡ old)
ServesAt tells false true sent old new =
    (text : List ℕ) × IsReply tells sent true text × (new ≡ old ++ text)

-- It is answered what is answered to what it sent; once it was, nothing is added.
abbrev pub IsServed : (List ℕ → List ℕ → PageStatus → List ℕ → List ℕ → Type 0)
    → HttpExchange → HttpExchange → Type 0
IsServed tells old new =
    (new.head ≡ old.head)
    × ServesAt tells old.is_answered new.is_answered old.head.items old.out new.out
