-- Laws of `linda_map_laws` for the functions of this crate that are proved from these laws only: `using` names files of its own crate only.
pub use Rattle.linda_map_laws.proofs.MapLaws.{get_is_lookup, one_set, one_gone, len_entries}
