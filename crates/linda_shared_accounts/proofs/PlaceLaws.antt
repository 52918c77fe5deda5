-- The places as contracts see them, and the tree that keeps them.
use Rattle.std.proofs.Common.{◌≡◌, ℕ, BTreeMap, sym, ap, ◌∙◌, nat_cmp}
use Rattle.std.specs.BTreeMap as tree
use Rattle.std.specs.FinMap as map
use Rattle.linda_map_laws.proofs.MapLaws.{get_is_lookup}
use Rattle.linda_shared_accounts.specs.declared.place.Place.{Place}

-- A look-up in the places is one in the tree.
pub viewed : (entries : BTreeMap ℕ Place) (ps : map.FinMap nat_cmp Place) → map.from_entries entries.entries ≡ ps
    → (client : ℕ) → map.get ps client ≡ tree.get nat_cmp entries client
viewed entries ps view_is client = sym (ap (λ m. map.get m client) view_is) ∙ get_is_lookup entries client
