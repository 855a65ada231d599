-- What the proofs of other crates may use of this one.
pub use Rattle.il_paths.proofs.Blocks.{tree_of-block_of, block_of-tree_of, before_rest-leaf}
pub use Rattle.il_paths.proofs.HeadsInOrder.{sites_agree, heads_agree, all_heads_of, heads_at_sites, length-heads_in, site_within}
pub use Rattle.il_paths.proofs.Trees.{layer, before_rest-out, before_rest-if, before_rest-while, tree_of-block, tree_of-drop, sites_of-drop, Shape, plain_shape, if_shape, while_shape, shape_of, sites_of-before, head_of-call}
pub use Rattle.il_paths.proofs.Running.{join_assoc, join-end, runs_more, runs_join, runs_halves, runs_first, path_runs, runs_path, path_halves, some_path, before_reaches, reaches_before, after_departs, departs_after}
pub use Rattle.il_paths.proofs.Stepping.{runs_step, step_runs, site_fixes, paths_by_sites}
pub use Rattle.il_paths.proofs.Resuming.{at_first, first_of, goes_on_in, behind_all, next_bound, heads_next, all_placed, all_first, all_go, all_join, all_heads_more}
pub use Rattle.il_paths.proofs.AtomLaws.{atoms_equal-true, atoms_equal-refl, at_most_self, at_most_trans, at_most_both, lower_is, first_is_least}
pub use Rattle.il_paths.proofs.PathsBySites.{sites-append}
