use Rattle.std.proofs.Common.{◌≡◌, ◌+◌, ◌-◌, ◌%◌, suc, List, [], ◌∷◌, ◌++◌, sym, ap, ◌∙◌, append_assoc, arith}
use Rattle.std.proofs.lemmas.List.{append-nil}
use Rattle.il_syntax.specs.declared.program.Function.{Function}
use Rattle.gen_program.specs.Generated.{draws, functions_from}
use Rattle.gen_program.proofs.Steps.{functions-suc, functions-zero}
use Rattle.gen_program.proofs.program.make_functions.Goals as goal

pub loop-number-preserved : goal.loop-number-preserved
loop-number-preserved c =
    let i = c.loop-number.number in
    let n = c.args.count in
    let more : n - i ≡ suc (n - (i + 1)) = let test = c.loop-number-test.true in omega (arith, test) in
    let old = c.loop-number.functions in
    let g = c.loop-number.generator in
    let new = c.make_function.new.generator in
    let body = draws 64 (i % 4) g in
    (λ j. c.in_ok-push.ensures.ok j ++ functions_from (n - (i + 1)) (i + 1) new) ∙
    append_assoc old (c.in_ok-make_function.field-0 ∷ []) (functions_from (n - (i + 1)) (i + 1) new) ∙
    (λ j. old ++ (c.in_ok-make_function.ensures.function j ∷ functions_from (n - (i + 1)) (i + 1) (c.in_ok-make_function.ensures.generator j))) ∙
    ap (λ (fs : List Function). old ++ fs) (sym (functions-suc (n - i) (n - (i + 1)) i g more)) ∙
    c.loop-number.invariant

pub returns : goal.returns
returns c =
    let i = c.loop-number.number in
    let none : c.args.count - i ≡ 0 = let test = c.loop-number-test.false in omega (arith, test) in
    sym (append-nil c.loop-number.functions) ∙ ap (λ (fs : List Function). c.loop-number.functions ++ fs) (sym (functions-zero (c.args.count - i) i c.loop-number.generator none)) ∙ c.loop-number.invariant
