use Rattle.std.proofs.Common.{◌≡◌, ℕ, length, sym, ◌∙◌, subst, arith}
use Rattle.il_paths.specs.Tree.{tree_of}
use Rattle.validator.specs.declared.fault.Fault.TheVariants.{V1}
use Rattle.validator.specs.declared.fault.Judged.TheVariants.{No}
use Rattle.validator.specs.Walk.{walk}
use Rattle.validator.specs.Faults.{IsJudged}
use Rattle.validator.proofs.JudgeLaws.{parts_within, parts_whole, apart_judged, heads_judged, together_judged, if_ok}
use Rattle.validator.proofs.judge.validate.Goals as goal

pub overflow_cast-site : goal.overflow_cast-site
overflow_cast-site t c =
    let f = c.args.f.now in
    let g = c.args.g.now in
    let walked = (λ i. walk (sym c.new_registers.ensures i) (tree_of g.body) (tree_of f.body) (sym c.new-list.ensures.items i)) ∙ c.in_ok-whole.ensures in
    let long = parts_within f g c.in_ok-whole.whole c.walk_block.new.parts.items walked c.requires in
    omega (arith, long, c.len-site.ensures)

pub returns-then-not-whole : goal.returns-then-not-whole
returns-then-not-whole t c =
    let f = c.args.f.now in
    let g = c.args.g.now in
    let walked = (λ i. walk (sym c.new_registers.ensures i) (tree_of g.body) (tree_of f.body) (sym c.new-list.ensures.items i)) ∙ c.in_ok-whole.ensures in
    let count : length c.walk_block.new.parts.items ≡ c.len-site.result = omega (arith, c.len-site.ensures) in
    subst (λ (n : ℕ). IsJudged f g (No n V1)) count (apart_judged f g c.in_ok-whole.whole c.walk_block.new.parts.items walked c.if-not-whole.true)

pub returns-then-not-same_heads : goal.returns-then-not-same_heads
returns-then-not-same_heads t c =
    let f = c.args.f.now in
    let g = c.args.g.now in
    let walked = (λ i. walk (sym c.new_registers.ensures i) (tree_of g.body) (tree_of f.body) (sym c.new-list.ensures.items i)) ∙ c.in_ok-whole.ensures in
    let count : length c.walk_block.new.parts.items ≡ c.len-site.result = omega (arith, c.len-site.ensures) in
    subst (λ (n : ℕ). IsJudged f g (No n V1)) count (heads_judged f g c.in_ok-whole.whole c.walk_block.new.parts.items walked c.if-not-whole.false (sym c.same_heads.ensures ∙ c.if-not-same_heads.true))

pub judge_walked-requires-clause-whole : goal.judge_walked-requires-clause-whole
judge_walked-requires-clause-whole t c =
    let f = c.args.f.now in
    let g = c.args.g.now in
    let walked = (λ i. walk (sym c.new_registers.ensures i) (tree_of g.body) (tree_of f.body) (sym c.new-list.ensures.items i)) ∙ c.in_ok-whole.ensures in
    parts_whole f g c.in_ok-whole.whole c.walk_block.new.parts.items walked c.if-not-whole.false

pub returns : goal.returns
returns t c =
    let f = c.args.f.now in
    let g = c.args.g.now in
    let walked = (λ i. walk (sym c.new_registers.ensures i) (tree_of g.body) (tree_of f.body) (sym c.new-list.ensures.items i)) ∙ c.in_ok-whole.ensures in
    if_ok c.judge_walked.result _ _ (λ judged k. together_judged f g c.in_ok-whole.whole c.walk_block.new.parts.items walked c.if-not-whole.false (sym c.same_heads.ensures ∙ c.if-not-same_heads.false) judged k) c.judge_walked.ensures
