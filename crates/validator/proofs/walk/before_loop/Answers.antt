use Rattle.std.proofs.Common.{◌+◌, ◌&&◌, Bool, true, cond, drop, sym, ap, ◌∙◌}
use Rattle.il_syntax.specs.Statements.{head_of}
use Rattle.il_paths.specs.Tree.{tree_of_all}
use Rattle.validator.specs.Walk.{is_inserted, before_loop}
use Rattle.validator.proofs.WalkLaws.{before_loop-drop}
use Rattle.validator.proofs.walk.before_loop.Goals as goal

pub returns-then-is_loop : goal.returns-then-is_loop
returns-then-is_loop c =
    let s = c.statement-item.result in
    let new = c.args.new in
    let i = c.loop-statement.statement-index in
    let ss = c.args.statements.now in
    let rest = before_loop new (tree_of_all (drop (i + 1) ss)) in
    let e = before_loop-drop new ss i s c.loop-statement-test.true c.statement-item.is in
    sym (ap (λ (t : Bool). cond t true (is_inserted new (head_of s) && rest)) (sym c.is_loop.ensures ∙ c.if-is_loop.true)) ∙ sym e ∙ c.loop-statement.invariant

pub returns-then-not-is_inserted : goal.returns-then-not-is_inserted
returns-then-not-is_inserted c =
    let s = c.statement-item.result in
    let new = c.args.new in
    let i = c.loop-statement.statement-index in
    let ss = c.args.statements.now in
    let rest = before_loop new (tree_of_all (drop (i + 1) ss)) in
    let e = before_loop-drop new ss i s c.loop-statement-test.true c.statement-item.is in
    let loop = sym c.is_loop.ensures ∙ c.if-is_loop.false in
    let own = sym c.is_inserted.ensures ∙ c.if-not-is_inserted.true in
    sym (λ j. cond (loop j) true (own j && rest)) ∙ sym e ∙ c.loop-statement.invariant

pub loop-statement-preserved : goal.loop-statement-preserved
loop-statement-preserved c =
    let s = c.statement-item.result in
    let new = c.args.new in
    let i = c.loop-statement.statement-index in
    let ss = c.args.statements.now in
    let rest = before_loop new (tree_of_all (drop (i + 1) ss)) in
    let e = before_loop-drop new ss i s c.loop-statement-test.true c.statement-item.is in
    let loop = sym c.is_loop.ensures ∙ c.if-is_loop.false in
    let own = sym c.is_inserted.ensures ∙ c.if-not-is_inserted.false in
    sym (λ j. cond (loop j) true (own j && rest)) ∙ sym e ∙ c.loop-statement.invariant
