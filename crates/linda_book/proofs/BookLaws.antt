-- The book as contracts see it, and the tree that keeps it.
use Rattle.std.proofs.Common.{◌≡◌, ℕ, BTreeMap, sym, ap, ◌∙◌, nat_cmp}
use Rattle.std.specs.BTreeMap as tree
use Rattle.std.specs.FinMap as map
use Rattle.linda_map_laws.proofs.MapLaws.{get_is_lookup}
use Rattle.linda_book.specs.Entries.{Entry}

-- A look-up in the book is one in the tree.
pub viewed : (entries : BTreeMap ℕ Entry) (book : map.FinMap nat_cmp Entry) → map.from_entries entries.entries ≡ book
    → (client : ℕ) → map.get book client ≡ tree.get nat_cmp entries client
viewed entries book view_is client = sym (ap (λ m. map.get m client) view_is) ∙ get_is_lookup entries client
