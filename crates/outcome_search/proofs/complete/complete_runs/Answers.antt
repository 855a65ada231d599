use Rattle.std.proofs.Common.{rules, ◌≡◌, ◌≤◌, List, length, get_or, arith}
use Rattle.outcome_search.specs.Runs.{nodes_of}
use Rattle.outcome_search.proofs.Keeping.{reached_each}
use Rattle.outcome_search.proofs.Showing.{have_all, failures_kept, one_more_ends, each_ends}
use Rattle.outcome_search.proofs.complete.complete_runs.Goals as goal

pub loop-k-preserved : goal.loop-k-preserved
loop-k-preserved c =
    let p = c.args.p.now in
    let steps = c.args.steps in
    let h = c.loop-k.invariant in
    let a = c.in_ok-add_ended.ensures in
    let kept = c.in_ok-kept.kept.items in
    let runs = c.loop-k.runs.items in
    let more = c.add_ended.new.runs.items in
    let entries = c.deref.result.now in
    let here : get_or kept c.loop-k.k entries ≡ entries = first_of (search rules, cc) in
    record {
      complete = a.complete;
      failures = failures_kept p steps (nodes_of p steps kept) runs more a.grows h.failures;
      endings = one_more_ends p steps kept runs more c.loop-k.k entries a.grows (omega (arith, c.loop-k-test.true, c.len-k-end.ensures)) here h.endings a.ending;
    }

pub returns-clause-all : goal.returns-clause-all
returns-clause-all c =
    let p = c.args.p.now in
    let steps = c.args.steps in
    let h = c.loop-k.invariant in
    let w = c.in_ok-kept.ensures.whole in
    let kept = c.in_ok-kept.kept.items in
    let l : length kept ≤ c.loop-k.k = omega (arith, c.loop-k-test.false, c.len-k-end.ensures) in
    have_all p steps (nodes_of p steps kept) c.loop-k.runs.items c.requires.proper w.closed (λ n q. reached_each p steps (length kept) kept n w.runs.short q) h.complete h.failures
    (each_ends p steps kept c.loop-k.runs.items c.loop-k.k l h.endings)
