-- What the proofs of other crates may use of this one.
pub use Rattle.pass_chain.proofs.ChainLaws.{opt_is_one, opt_all_is_one}
pub use Rattle.pass_chain.proofs.WellFormedChains.{StandsFor, ChainFits, chain_fits, few_names, opt_all_is_well_formed}
pub use Rattle.pass_chain.proofs.HoistedLoads.{hoisted_loads_are_gone}
pub use Rattle.pass_chain.proofs.CountLaws.{small_functions}
