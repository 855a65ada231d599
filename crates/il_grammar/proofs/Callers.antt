-- What proofs of other crates use.
pub use Rattle.il_grammar.proofs.Instance.{no_place, reads}
pub use Rattle.il_grammar.proofs.Building.{snoc_push, tree_if, tree_if_else, tree_simply, tree_while, trees_push}
pub use Rattle.il_grammar.proofs.Renaming.{spelled_after, spelled_before}
pub use Rattle.il_grammar.proofs.Unread.{no_unknown}
