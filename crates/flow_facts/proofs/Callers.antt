-- What the proofs of other crates may use of this one.
pub use Rattle.flow_facts.proofs.LevelLaws.{rank_bounded, rank_injective, transfer_monotone, change_monotone, step_monotone, more_along, levels_go, levels_are_lowest, levels_exist, levels_are_one, above_nothing, both_know_more}
pub use Rattle.flow_facts.proofs.KeptLaws.{Came, by_store, by_load, kept, came, made_or_kept, levels_come_from}
pub use Rattle.flow_facts.proofs.RowLaws.{nothing-higher, higher-nothing, higher_assoc, higher_kept, level_in-append, items-at, items-drop, loop_step}
pub use Rattle.flow_facts.proofs.TableLaws.{own, best_of_table, best_is_one}
