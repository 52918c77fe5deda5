-- The answer to what a connection sent.
use Rattle.std.specs.Prelude.{◌≡◌, ℕ, Bool, true, false, List, [], ◌++◌, length, codes}
use Rattle.std.specs.Prelude.{if◌then◌else◌}
use Rattle.std.specs.Fmt.{decimal}
use Rattle.linda_net_http.specs.declared.response.Code.{Code}
use Rattle.linda_net_http.specs.declared.response.Code.TheVariants as codes_of
use Rattle.linda_net_http.specs.declared.head.HeadResult.{HeadResult}
use Rattle.linda_net_http.specs.declared.head.HeadResult.TheVariants as heads
use Rattle.linda_net_http.specs.declared.pages.PageQuery.{PageQuery}
use Rattle.linda_net_http.specs.declared.pages.PageStatus.{PageStatus}
use Rattle.linda_net_http.specs.declared.pages.PageStatus.TheVariants as statuses
use Rattle.linda_net_http.specs.Head.{IsHeadOf}

-- What text is that is no page.
abbrev pub plain : List ℕ
plain = codes "text/plain"

-- The number of a code, its words, and what has to be said with it.
abbrev pub line_of : Code → List ℕ
line_of codes_of.Found = codes "200 OK"
line_of codes_of.BadQuery = codes "400 Bad Request"
line_of codes_of.Unavailable = codes "503 Service Unavailable"
line_of codes_of.Malformed = codes "400 Bad Request"
line_of codes_of.NotFound = codes "404 Not Found"
line_of codes_of.MethodNotAllowed = codes "405 Method Not Allowed\r\nAllow: GET, HEAD"
line_of codes_of.Forbidden = codes "403 Forbidden"

-- The text that is answered with a code, after what was spelled.
abbrev pub text_of : Code → List ℕ
text_of codes_of.Found = []
text_of codes_of.BadQuery = []
text_of codes_of.Unavailable = []
text_of codes_of.Malformed = codes "no request of HTTP/1\n"
text_of codes_of.NotFound = codes "no such page\n"
text_of codes_of.MethodNotAllowed = codes "only GET and HEAD\n"
text_of codes_of.Forbidden = codes "only for the hosts 127.0.0.1, localhost and [::1]\n"

-- The code of what was said to somebody who asked for a page.
abbrev pub code_of : PageStatus → Code
code_of (statuses.Page kind) = codes_of.Found
code_of statuses.BadQuery = codes_of.BadQuery
code_of statuses.Unavailable = codes_of.Unavailable
code_of statuses.NotFound = codes_of.NotFound

-- Of which kind is what was said.
abbrev pub kind_of : PageStatus → List ℕ
kind_of (statuses.Page kind) = kind.now
kind_of statuses.BadQuery = plain
kind_of statuses.Unavailable = plain
kind_of statuses.NotFound = plain

-- How long a page is, and what all answers end with before their page.
unfoldable pub length_text : ℕ → List ℕ
length_text len =
    codes "\r\nContent-Length: " ++ decimal len
    ++ codes "\r\nCache-Control: no-store\r\nConnection: close\r\n\r\n"

-- Of which kind a page is, and how long.
unfoldable pub fields_text : List ℕ → ℕ → List ℕ
fields_text kind len = (codes "\r\nContent-Type: " ++ kind) ++ length_text len

-- What goes before a page of this kind and so many bytes.
unfoldable pub head_text : Code → List ℕ → ℕ → List ℕ
head_text code kind len = (codes "HTTP/1.1 " ++ line_of code) ++ fields_text kind len

-- An answer: what goes before a page, and the page unless only the former was asked for.
abbrev pub answer_text : Code → List ℕ → List ℕ → Bool → List ℕ
answer_text code kind page is_whole =
    head_text code kind (length page) ++ (if is_whole then page else [])

-- A refusal, with its text.
abbrev pub refusal_text : Code → List ℕ
refusal_text code = answer_text code plain (text_of code) true

-- The answer to a path and a query, of pages that say this of them and spell such a page.
abbrev pub IsPage : (List ℕ → List ℕ → PageStatus → List ℕ → List ℕ → Type 0)
    → PageQuery → Bool → List ℕ → Type 0
IsPage tells asked is_whole text =
    (told : PageStatus) × (page : List ℕ) × tells asked.path.now asked.query.now told [] page
    × (text ≡ answer_text (code_of told) (kind_of told) (page ++ text_of (code_of told)) is_whole)

-- The answer to a head.
abbrev pub Answers : (List ℕ → List ℕ → PageStatus → List ℕ → List ℕ → Type 0)
    → HeadResult → List ℕ → Type 0
Answers tells heads.Partly text = ⊥
Answers tells heads.Nothing text = text ≡ refusal_text codes_of.Malformed
Answers tells heads.Foreign text = text ≡ refusal_text codes_of.Forbidden
Answers tells heads.Other text = text ≡ refusal_text codes_of.MethodNotAllowed
Answers tells (heads.Page asked is_whole) text = IsPage tells asked is_whole text

-- What was sent is answered by this text, or is no whole head yet.
abbrev pub IsReply : (List ℕ → List ℕ → PageStatus → List ℕ → List ℕ → Type 0)
    → List ℕ → Bool → List ℕ → Type 0
IsReply tells sent false text = IsHeadOf sent heads.Partly
IsReply tells sent true text = (head : HeadResult) × IsHeadOf sent head × Answers tells head text
