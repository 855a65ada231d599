use Rattle.std.proofs.Common.{◌≡◌, ◌≤◌, ◌*◌, take, map}
use Rattle.std.specs.Prelude.{sum}
use Rattle.il_syntax.specs.declared.program.Function.{Function}
use Rattle.il_syntax.specs.Statements.{site_count}
use Rattle.pass_chain.proofs.counts.count_sites.Given as goal

abbrev pub invariant-loop-f : goal.invariant-loop-f
invariant-loop-f l =
    record {
      value : l.count ≡ sum (map (λ (f : Function). site_count f.body.statements) (take l.f-index l.functions));
      bound : l.count ≤ 4096 * l.f-index;
    }
