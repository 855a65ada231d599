-- What the proofs of other crates may use of this one.
pub use Rattle.rewriting.proofs.HeadLaws.{same_head-true, same_head-refl, both, self}
pub use Rattle.rewriting.proofs.EachKind.{OfEachKind, each_kind, each_rewritten}
pub use Rattle.rewriting.proofs.Leaves.{AllLeaves, all_leaves, sites_stay, one_tree}
pub use Rattle.rewriting.proofs.Depths.{depth_in, depths_agree, depth_stays}
pub use Rattle.rewriting.proofs.Changes.{one_block, one_function, changed_is_one, changed_fits, changed_count}
pub use Rattle.rewriting.proofs.Puts.{puts-push, puts-empty}
pub use Rattle.rewriting.proofs.LeafStatements.{leaf_of}
pub use Rattle.rewriting.proofs.Places.{CameOf, came_of}
