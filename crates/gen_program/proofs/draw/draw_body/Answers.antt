use Rattle.std.proofs.Common.{◌≡◌, ◌+◌, ◌-◌, suc, ◌++◌, sym, ap, ◌∙◌, append_assoc, arith}
use Rattle.std.proofs.lemmas.List.{append-nil}
use Rattle.gen_program.specs.Generated.{Drawn, one_draw, draws}
use Rattle.gen_program.proofs.Steps.{draws-suc, draws-zero}
use Rattle.gen_program.proofs.draw.draw_body.Goals as goal

pub loop-draw-preserved : goal.loop-draw-preserved
loop-draw-preserved c =
    let i = c.loop-draw._draw in
    let x = c.args.x in
    let more : 64 - i ≡ suc (64 - (i + 1)) = let test = c.loop-draw-test.true in omega (arith, test) in
    let g = c.loop-draw.generator in
    let new = c.push_draw.new.generator in
    let old = c.loop-draw.body in
    let one = one_draw x g in
    let step = draws-suc (64 - i) (64 - (i + 1)) x g more in
    let later = draws (64 - (i + 1)) x in
    record {
      statements =
          (λ j. c.in_ok-push_draw.ensures.statements j ++ (later (c.in_ok-push_draw.ensures.generator j)).statements) ∙
          append_assoc old one.statements (later one.generator).statements ∙ ap (λ (d : Drawn). old ++ d.statements) (sym step) ∙ c.loop-draw.invariant.statements;
      generator = (λ j. (later (c.in_ok-push_draw.ensures.generator j)).generator) ∙ ap (λ (d : Drawn). d.generator) (sym step) ∙ c.loop-draw.invariant.generator;
    }

pub returns-clause-statements : goal.returns-clause-statements
returns-clause-statements c =
    let i = c.loop-draw._draw in
    let none : 64 - i ≡ 0 = let test = c.loop-draw-test.false in omega (arith, test) in
    sym (append-nil c.loop-draw.body) ∙ ap (λ (d : Drawn). c.loop-draw.body ++ d.statements) (sym (draws-zero (64 - i) c.args.x c.loop-draw.generator none)) ∙ c.loop-draw.invariant.statements

pub returns-clause-generator : goal.returns-clause-generator
returns-clause-generator c =
    let i = c.loop-draw._draw in
    let none : 64 - i ≡ 0 = let test = c.loop-draw-test.false in omega (arith, test) in
    ap (λ (d : Drawn). d.generator) (sym (draws-zero (64 - i) c.args.x c.loop-draw.generator none)) ∙ c.loop-draw.invariant.generator
