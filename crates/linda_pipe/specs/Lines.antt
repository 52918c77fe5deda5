-- Texts as lines, each of which ends with a line feed.
use Rattle.std.specs.Prelude.{◌≡◌, ◌≢◌, ℕ, List, [], ◌∷◌, ◌++◌, All, Option, Some, None}
use Rattle.std.specs.List.{flat_map}
use Rattle.linda_pipe.specs.declared.line.TheConstants.{LINE_FEED}

-- no line feed is among these bytes
abbrev pub HasNoFeed : List ℕ → Type 0
HasNoFeed bytes = All (λ b. b ≢ LINE_FEED) bytes

-- a line and the line feed that ends it
abbrev pub ended : List ℕ → List ℕ
ended line = line ++ LINE_FEED ∷ []

-- The text is these lines, one after the other, each with the line feed that ends it; and then
-- there is more.
pub record IsCut (text : List ℕ) (lines : List (List ℕ)) (more : List ℕ) : Type 0 where
  pub spelled : text ≡ flat_map ended lines ++ more
  pub whole : All HasNoFeed lines

-- An unfinished line gets the front of a text. After that front the text has a line feed and a
-- rest; with no line feed in the text, it all goes to the line.
abbrev pub Extends : List ℕ → List ℕ → List ℕ → Option (List ℕ) → Type 0
Extends line text longer (Some rest) =
    (front : List ℕ) × (HasNoFeed front
    × ((text ≡ front ++ LINE_FEED ∷ rest) × (longer ≡ line ++ front)))
Extends line text longer None = HasNoFeed text × (longer ≡ line ++ text)
