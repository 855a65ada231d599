use Rattle.std.proofs.Common.{◌≡◌, ◌≤◌, ◌*◌, take, map}
use Rattle.std.specs.Prelude.{sum}
use Rattle.il_syntax.specs.declared.program.Function.{Function}
use Rattle.std.specs.Prelude.{count_by}
use Rattle.il_syntax.specs.Statements.{heads_of_all}
use Rattle.pass_chain.specs.Counts.{is_counted}
use Rattle.pass_chain.proofs.counts.count_all.Given as goal

abbrev pub invariant-loop-f : goal.invariant-loop-f
invariant-loop-f l =
    record {
      value : l.count ≡ sum (map (λ (f : Function). count_by (is_counted l.counted) (heads_of_all f.body.statements)) (take l.f-index l.functions));
      bound : l.count ≤ 4096 * l.f-index;
    }
