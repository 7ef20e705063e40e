-- What proofs of the crates above may use of this crate: lemmas on each member of a list, on parts of lists, and on tests.
pub use Rattle.nc_base.proofs.Members.{each_map, each_both, each_get, each_contains, each_set, each_replicate, each_take, each_drop}
pub use Rattle.nc_base.proofs.Members.{each_append, each_from, each_take_from, each_drop_from, each_set_but, each_at_set, each_unset}
pub use Rattle.nc_base.proofs.Members.{each_middle, each_out, each_in, each_split}
pub use Rattle.nc_base.proofs.Tests.{both, both_made, true_or_false, either, cond_is_true, cond_is_false, each_below, each, some, same}
pub use Rattle.nc_base.proofs.Tests.{implies, same_is, same_made, not_is, implied, chosen_true, chosen_false, cond_true, cond_false}
pub use Rattle.nc_base.proofs.Tests.{each_below-at, each-at, each-Contains, found, finds, finds-Contains}
pub use Rattle.nc_base.proofs.Lists.{slice_rest, over_one_more, some_same}
