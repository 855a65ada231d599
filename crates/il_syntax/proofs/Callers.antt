-- What proofs of other crates use.
-- tests of all elements of a list
pub use Rattle.il_syntax.proofs.Passing.{all_weaker, all_both, all_left, all_right, passing_at}
-- sites of a block, and of the blocks of an `if` and of a `while`
pub use Rattle.il_syntax.proofs.Inner.{first_statement, length-statements_of, length-statements_in, in_first_block, in_second_block, in_body, slice_get-left, slice_get-right, statements_in-drop, heads_of_statements}
-- the rules one by one, and in the order of the code
pub use Rattle.il_syntax.proofs.EachRule.{function_fits-is_well_formed, well_formed-function_fits}
pub use Rattle.il_syntax.proofs.EachProgram.{globals-distinct, distinct-globals, program_fits-is_well_formed, well_formed-program_fits}
pub use Rattle.il_syntax.proofs.Globals.{declarable_globals}
-- a well-formed program taken apart
pub use Rattle.il_syntax.proofs.WellFormedFacts.{FunctionFacts, WellFormedFacts, function_facts, facts_of, declarable_names, free_names}
pub use Rattle.il_syntax.proofs.EachLaw.{functions_well_formed, function_small}
pub use Rattle.il_syntax.proofs.GivenLaw.{given_registers_exist}
-- other functions in the place of a program's
pub use Rattle.il_syntax.proofs.Replaced.{functions_fit, functions_replaced, fitting_functions_may_be_replaced, fitting_is_well_formed}
pub use Rattle.il_syntax.proofs.Changed.{names_of_changed}
