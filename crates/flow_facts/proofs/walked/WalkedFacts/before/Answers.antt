use Rattle.std.proofs.Common.{◌≡◌, ◌+◌, List, [], ◌∷◌, ◌++◌, drop, sym, ap, ◌∙◌, subst, append_assoc, append-nil, arith}
use Rattle.std.proofs.lemmas.List.{drop_all}
use Rattle.il_paths.specs.Tree.{tree_of}
use Rattle.il_paths.proofs.Callers.{sites_agree}
use Rattle.flow_facts.specs.declared.given.Pair.{Pair}
use Rattle.flow_facts.specs.declared.known.Known.{Known}
use Rattle.flow_facts.specs.declared.walked.Column.{Column}
use Rattle.flow_facts.specs.Rows.{level_at}
use Rattle.flow_facts.specs.Rounds.{given_of}
use Rattle.flow_facts.specs.Columns.{AreLevels, level_by_columns}
use Rattle.flow_facts.proofs.RowLaws.{items-at}
use Rattle.flow_facts.proofs.ColumnLaws.{Exact, pairs_of, exact_push, pairs_push, table_of_columns}
use Rattle.flow_facts.proofs.walked.WalkedFacts.before.Goals as goal

pub column_of-requires-clause-all : goal.column_of-requires-clause-all
column_of-requires-clause-all c = c.sites-count.ensures ∙ sym (sites_agree c.args.f.now.body)

pub loop-pair-preserved : goal.loop-pair-preserved
loop-pair-preserved c =
    let tree = tree_of c.args.f.now.body in
    let kind = c.args.kind in
    let items = c.as_slice-pair-items.result.now in
    let i = c.loop-pair.pair-index in
    let columns = c.loop-pair.columns in
    let column = c.in_ok-column_of.field-0 in
    let pushed = c.in_ok-push.ensures.ok in
    let own = c.in_ok-column_of.ensures in
    let rest = drop (i + 1) items in
    record {
      exact = subst (Exact tree kind) (sym pushed) (exact_push tree kind columns column c.loop-pair.invariant.exact (subst (λ (p : Pair). AreLevels tree kind p column.levels) (sym own.pair) own.levels));
      pairs =
          ap (λ (cs : List Column). pairs_of cs ++ rest) pushed
          ∙ ap (λ (ps : List Pair). ps ++ rest) (pairs_push columns column ∙ ap (λ (p : Pair). pairs_of columns ++ p ∷ []) own.pair)
          ∙ append_assoc (pairs_of columns) _ rest
          ∙ ap (λ (ps : List Pair). pairs_of columns ++ ps) (sym (items-at items i _ c.loop-pair-test.true))
          ∙ c.loop-pair.invariant.pairs;
    }

pub returns : goal.returns
returns c =
    let tree = tree_of c.args.f.now.body in
    let items = c.as_slice-pair-items.result.now in
    let columns = c.loop-pair.columns in
    let none = drop_all c.loop-pair.pair-index items c.loop-pair-test.false in
    let all : pairs_of columns ≡ given_of tree =
    sym (append-nil (pairs_of columns)) ∙ ap (λ (ps : List Pair). pairs_of columns ++ ps) (sym none) ∙ c.loop-pair.invariant.pairs ∙ c.as_slice-pair-items.ensures
    ∙ c.in_ok-list_given.ensures ∙ ap (λ (ps : List Pair). ps ++ given_of tree) c.new-given.ensures in
    table_of_columns tree c.args.kind columns c.new.result c.loop-pair.invariant.exact all (λ site x a h.
    ap (λ (rows : List (List Known)). level_at rows site x a) c.new.ensures
    ∙ c.in_ok-rows_of.ensures site x a (omega (arith, h, sites_agree c.args.f.now.body, c.sites-count.ensures))
    ∙ ap (λ (cs : List Column). level_by_columns cs site x a) c.as_slice.ensures)
