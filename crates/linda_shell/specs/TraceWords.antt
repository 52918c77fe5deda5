-- Deeds in the words of a trace, as linda_shell_text has those of messages and replies.
use Rattle.std.specs.Prelude.{ℕ, List, codes}
use Rattle.std.specs.Fmt.{decimal}
use Rattle.linda_shell_text.specs.MessageWords.{numbered_then, twice_numbered_then, entry_words}
use Rattle.linda_store_state.specs.declared.deed.Deed.{Deed}
use Rattle.linda_store_state.specs.declared.deed.Deed.TheVariants as deeds

-- Whose deed it is, its number, and what it puts or which tuple it is about, if it is about one.
abbrev pub deed_words : Deed → List ℕ
deed_words (deeds.Out client n tuple) = entry_words (codes "out") client n tuple
deed_words (deeds.Take client n id) = twice_numbered_then (codes "take") client n (decimal id)
deed_words (deeds.Pass client n id) = twice_numbered_then (codes "pass") client n (decimal id)
deed_words (deeds.Leave client n) = numbered_then (codes "leave") client (decimal n)
