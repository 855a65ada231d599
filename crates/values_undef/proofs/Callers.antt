-- What a caller's proof needs: how values, updates and events stand below others, and what kind of event it is.
pub use Rattle.values_undef.proofs.Orders.{below_refl, below_trans, below_undef, undef_below, below_antisym, below_cases, below_from_cases, strict_in_undef_below, divisor_below, arithmetic_monotone}
pub use Rattle.values_undef.proofs.Updates.{updated_below, undef_fails, update_below}
pub use Rattle.values_undef.proofs.Events.{values_refl, values_trans, event_refl, event_trans}
pub use Rattle.values_undef.proofs.Events.{traced_same, weight_same, failure_same, ends_same, finish_same, spend_same, printed_same}
pub use Rattle.values_undef.proofs.Events.{failure_traced, failure_weight, failure_no_spend, failure_prints_not, untraced_weight, untraced_goes, untraced_no_spend, untraced_finishes_not, untraced_prints_not, goes_no_spend, end_is_finish, is_nonatomic_read}
pub use Rattle.values_undef.proofs.ListFacts.{all_get, all_or, all_got, all_set, all_push, all_pop, all_append, all_map, all_images, all_replicate, all_tested}
