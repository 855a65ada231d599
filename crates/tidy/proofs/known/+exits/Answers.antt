use Rattle.std.proofs.Common.{◌+◌, ◌++◌, Bool, List, drop, sym, ap, ◌∙◌, append_assoc}
use Rattle.il_paths.specs.Tree.{Tree, Empty, before_rest, tree_of_all}
use Rattle.il_paths.proofs.Callers.{tree_of-block}
use Rattle.path_meets.specs.Chain.{must_rank}
use Rattle.path_meets.proofs.Callers.{exit_tree-drop}
use Rattle.tidy.specs.Known.{known_change}
use Rattle.tidy.specs.Rows.{known_in, known_column, exit_known}
use Rattle.tidy.specs.Turns.{turns_known}
use Rattle.tidy.proofs.TurnLaws.{turns_known-drop}
use Rattle.tidy.proofs.known.+exits.Goals as goal

pub exit_block-loop-statement-init : goal.exit_block-loop-statement-init
exit_block-loop-statement-init t c =
    let e = sym (tree_of-block c.args.block.now ∙ ap tree_of_all (sym c.as_slice-statement-items.ensures)) in
    record {
      after = λ r a. ap (λ (tree : Tree). exit_known r a tree (known_in c.args.row r a)) e;
      turns = λ r a. ap (λ (tree : Tree). known_column r a c.args.turns.now.items ++ turns_known r a tree (known_in c.args.row r a)) e;
    }

pub exit_block-loop-statement-preserved : goal.exit_block-loop-statement-preserved
exit_block-loop-statement-preserved t c =
    let ss = c.as_slice-statement-items.result.now in
    let i = c.loop-statement.statement-index in
    let s = c.statement-item.result in
    let old = c.loop-statement.known in
    record {
      after = λ r a.
          ap (λ (b : Bool). exit_known r a (tree_of_all (drop (i + 1) ss)) b) (c.in_ok-known.ensures.after r a)
          ∙ sym (exit_tree-drop Bool must_rank 1 (known_change r a) ss i s (known_in old r a) c.loop-statement-test.true c.statement-item.is)
          ∙ c.loop-statement.invariant.after r a;
      turns = λ r a.
          (λ j. c.in_ok-known.ensures.turns r a j ++ turns_known r a (tree_of_all (drop (i + 1) ss)) (c.in_ok-known.ensures.after r a j))
          ∙ append_assoc (known_column r a c.loop-statement.turns.items) (turns_known r a (before_rest s Empty) (known_in old r a)) (turns_known r a (tree_of_all (drop (i + 1) ss)) (exit_known r a (before_rest s Empty) (known_in old r a)))
          ∙ ap (λ (bs : List Bool). known_column r a c.loop-statement.turns.items ++ bs) (sym (turns_known-drop r a ss i s (known_in old r a) c.loop-statement-test.true c.statement-item.is))
          ∙ c.loop-statement.invariant.turns r a;
    }
