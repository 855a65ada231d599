use Rattle.std.proofs.Common.{◌≡◌, ◌<◌, ◌^◌, ◌+◌, drop}
use Rattle.std.specs.Prelude.{count_by}
use Rattle.il_syntax.specs.Statements.{heads_of_all, site_count}
use Rattle.pass_chain.specs.Counts.{is_counted}
use Rattle.pass_chain.proofs.counts.+counts.Given as goal

abbrev pub invariant-count_in-loop-statement : goal.invariant-count_in-loop-statement
invariant-count_in-loop-statement l =
    record {
      value : l.count + count_by (is_counted l.counted) (heads_of_all (drop l.statement-index l.statements)) ≡ count_by (is_counted l.counted) (heads_of_all l.fn.statements);
      few : site_count (drop l.statement-index l.statements) < 2 ^ 32;
    }
