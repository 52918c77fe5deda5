-- Answers that are written one part after another, and put after what waits.
use Rattle.std.proofs.Common.{◌≡◌, ℕ, Bool, true, false, List, ◌++◌, ap, ◌∙◌, append_assoc, sym, Result, Ok, Err, IfOk}
use Rattle.std.proofs.lemmas.Bool.{false≢true}
use Rattle.linda_net_http.specs.declared.pages.PageStatus.{PageStatus}
use Rattle.linda_net_http.specs.Response.{IsReply}
use Rattle.linda_net_http.specs.HttpExchange.{ServesAt}

pub then_written : {T E : Type 0} (r : Result T E) (old mid new one other : List ℕ)
    → mid ≡ old ++ one → IfOk r (λ _. new ≡ mid ++ other) → IfOk r (λ _. new ≡ old ++ (one ++ other))
then_written (Ok x) old mid new one other first second = second ∙ ap (λ b. b ++ other) first ∙ append_assoc old one other
then_written (Err e) old mid new one other first second = tt

-- What was not answered before is answered by a text that is put after what waited.
pub served : (tells : List ℕ → List ℕ → PageStatus → List ℕ → List ℕ → Type 0) (was : Bool) (sent old new text : List ℕ)
    → was ≡ false → IsReply tells sent true text → new ≡ old ++ text → ServesAt tells was true sent old new
served tells true sent old new text open_before reply put = absurd (false≢true (sym open_before))
served tells false sent old new text open_before reply put = (text, reply, put)
