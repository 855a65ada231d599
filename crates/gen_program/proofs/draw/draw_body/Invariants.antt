use Rattle.std.proofs.Common.{◌≡◌, ◌-◌, ◌++◌}
use Rattle.gen_program.specs.Generated.{draws}
use Rattle.gen_program.proofs.draw.draw_body.Given as goal

abbrev pub invariant-loop-draw : goal.invariant-loop-draw
invariant-loop-draw l =
    let left = draws (64 - l._draw) l.x l.generator in
    let all = draws 64 l.x l.fn.generator in
    record {
      statements : l.body ++ left.statements ≡ all.statements;
      generator : left.generator ≡ all.generator;
    }
