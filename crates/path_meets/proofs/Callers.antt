-- What the proofs of other crates may use of this one.
pub use Rattle.path_meets.proofs.Forward.{least_is, least_rank, least_above, turned_rank, turned_above, turned_closed, turned_monotone, Agrees, fold_forward-append, exit_monotone, exit_gets, fits_runs, fits_below, IsPostFixpoint, fits_less, agrees_fits}
pub use Rattle.path_meets.proofs.Backward.{enter_monotone, enter_below, fold_backward-append}
pub use Rattle.path_meets.proofs.Tabled.{length-table, agrees-whole, table_least, exit_least, Inside, inside-placed}
pub use Rattle.path_meets.proofs.AfterTable.{length-after, after_least, enter_least}
pub use Rattle.path_meets.proofs.ExitLaws.{exit_is_least, exit-join}
pub use Rattle.path_meets.proofs.TreeWalks.{exit-placed, table-placed, enter-placed, after-placed}
pub use Rattle.path_meets.proofs.TreeSteps.{exit_tree-drop, table_tree-drop, enter_tree-drop, after_tree-drop, exit_tree-if, exit_tree-while, table_tree-if, table_tree-while, enter_tree-if, enter_tree-while, after_tree-if, after_tree-while}
pub use Rattle.path_meets.proofs.SitedSteps.{exit-drop, table-drop, exit-if, exit-while, table-if, table-while}
pub use Rattle.path_meets.proofs.MeetLaws.{before_exist, through_exist, after_exist, from_exist, are_one, runs_above}
pub use Rattle.path_meets.proofs.YesNo.{some_path_before, some_path_through, all_paths_after, yes_of}
