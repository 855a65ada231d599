use Rattle.std.proofs.Common.{Bool, ◌&&◌, List, [], ◌∷◌, ◌++◌, sym, ap, ◌∙◌, subst}
use Rattle.std.proofs.lemmas.List.{drop_all}
use Rattle.il_syntax.specs.declared.statement.Stmt.{Stmt}
use Rattle.il_paths.specs.Tree.{Tree, Empty, before_rest, tree_of, tree_of_all}
use Rattle.il_paths.proofs.Callers.{tree_of-block}
use Rattle.tidy.specs.Rows.{known_in, known_column}
use Rattle.path_meets.specs.Chain.{must_rank}
use Rattle.backward_sets.specs.Turns.{AreFound, AreTurns}
use Rattle.tidy.specs.declared.known.KnownPair.{KnownPair}
use Rattle.tidy.specs.Turns.{turns_known, FillsRows}
use Rattle.tidy.proofs.TurnLaws.{fills_none, fills_on, fills_if, fills_while}
use Rattle.tidy.proofs.known.+fills.Goals as goal

pub fill_block-loop-statement-init : goal.fill_block-loop-statement-init
fill_block-loop-statement-init t c r a after left filled =
    let e = sym (tree_of-block c.args.block.now ∙ ap tree_of_all (sym c.as_slice-statement-items.ensures)) in
    subst (λ (tree : Tree). FillsRows r a tree (known_in c.args.row r a) (known_column r a c.args.turns.now.items) (known_column r a c.args.rows.now.items) after left filled) e

pub fill_block-loop-statement-preserved : goal.fill_block-loop-statement-preserved
fill_block-loop-statement-preserved t c r a after left filled rest =
    c.loop-statement.invariant r a after left filled (fills_on r a c.as_slice-statement-items.result.now c.loop-statement.statement-index c.statement-item.result
    (known_in c.loop-statement.known r a) (known_in c.in_ok-known.known r a) after
    (known_column r a c.loop-statement.turns.items) (known_column r a c.fill.new.turns.items) left
    (known_column r a c.loop-statement.rows.items) (known_column r a c.fill.new.rows.items) filled
    c.loop-statement-test.true c.statement-item.is (c.in_ok-known.ensures r a) rest)

pub fill_block-returns : goal.fill_block-returns
fill_block-returns t c r a =
    let known = known_in c.loop-statement.known r a in
    let turns = known_column r a c.loop-statement.turns.items in
    let rows = known_column r a c.loop-statement.rows.items in
    let none = drop_all c.loop-statement.statement-index c.as_slice-statement-items.result.now c.loop-statement-test.false in
    c.loop-statement.invariant r a known turns rows (subst (λ (ss : List Stmt). FillsRows r a (tree_of_all ss) known turns rows known turns rows) (sym none) (fills_none r a known turns rows))

pub fill-returns-in_ok-meet_rows-in-If : goal.fill-returns-in_ok-meet_rows-in-If
fill-returns-in_ok-meet_rows-in-If t c r a =
    let rows = known_column r a c.args.rows.now.items in
    let turns = known_column r a c.args.turns.now.items in
    let turns1 = known_column r a c.fill_block.new.turns.items in
    let rows1 = known_column r a c.push_row.new.rows.items in
    let rows2 = known_column r a c.fill_block.new.rows.items in
    let one = known_in c.in_ok-one-in-If.one r a in
    fills_if r a c.args.statement.now (known_in c.args.row r a) turns turns1 (known_column r a c.fill_block-in-If.new.turns.items) rows rows1 rows2 (known_column r a c.fill_block-in-If.new.rows.items)
    c.in-If.a c.in-If.yes c.in-If.no c.in-If.is one (known_in c.in_ok-other-in-If.other r a) (known_in c.in_ok-meet_rows-in-If.field-0 r a)
    (c.in_ok-push_row-in-If.ensures r a ∙ ap (λ (row : List KnownPair). rows ++ known_in row r a ∷ []) c.as_slice.ensures)
    (subst (λ (row : List KnownPair). FillsRows r a (tree_of c.in-If.yes) (known_in row r a) turns rows1 one turns1 rows2) (c.in_ok-copy-in-If.ensures ∙ c.as_slice-in-If.ensures) (c.in_ok-one-in-If.ensures r a))
    (c.in_ok-other-in-If.ensures r a)
    (c.in_ok-meet_rows-in-If.ensures r a ∙ (λ i. known_in (c.as_slice-in-If-2.ensures i) r a && known_in (c.as_slice-in-If-3.ensures i) r a))

pub fill-returns-in_ok-fill_block-in-While : goal.fill-returns-in_ok-fill_block-in-While
fill-returns-in_ok-fill_block-in-While t c r a =
    let s = c.args.statement.now in
    let body = c.in-While.body in
    let found = turns_known r a (before_rest s Empty) in
    let rows = known_column r a c.args.rows.now.items in
    let turns = known_column r a c.args.turns.now.items in
    let told = known_column r a c.find_turns.new.turns.items in
    let turns1 = known_column r a c.last_turn-turn.new.turns.items in
    let turns2 = known_column r a c.fill_block-in-While.new.turns.items in
    let rows1 = known_column r a c.push_row-in-While.new.rows.items in
    let last = known_column r a c.fill_block-in-While.new.rows.items in
    let again = known_in c.in_ok-fill_block-in-While.field-0 r a in
    fills_while r a s (known_in c.args.row r a) turns turns1 turns2 rows rows1 rows1 last c.in-While.a body c.in-While.is told (known_in c.last_turn-turn.result r a) (known_in c.in_ok-low-in-While.low r a) again
    (subst (λ (row : List KnownPair). (others : List Bool) → AreTurns must_rank found (known_in row r a) turns others → AreFound must_rank found (known_in row r a) told others) c.as_slice-in-While.ensures (c.in_ok-find_turns-in-While.ensures r a))
    (c.last_turn-turn.ensures r a)
    (c.in_ok-low-in-While.ensures r a ∙ (λ i. known_in (c.as_slice-in-While-2.ensures i) r a && known_in (c.as_slice-in-While-3.ensures i) r a))
    (c.in_ok-push_row-in-While.ensures r a ∙ ap (λ (row : List KnownPair). rows ++ known_in row r a ∷ []) c.as_slice-in-While-4.ensures)
    (subst (λ (row : List KnownPair). FillsRows r a (tree_of body) (known_in row r a) turns1 rows1 again turns2 last) (c.in_ok-copy-in-While.ensures ∙ c.as_slice-in-While-5.ensures) (c.in_ok-fill_block-in-While.ensures r a))
