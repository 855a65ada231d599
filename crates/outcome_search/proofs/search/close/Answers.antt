use Rattle.std.proofs.Common.{◌≡◌, ◌+◌, ◌≤◌, length, get_or, sym, ap, ◌∙◌, subst, arith}
use Rattle.std.proofs.lemmas.List.{length-map}
use Rattle.std.specs.List.{Contains}
use Rattle.outcome_nodes.specs.Standing.{node_of}
use Rattle.outcome_search.specs.Runs.{nodes_of, IsShortRun, AreCompleteRuns}
use Rattle.outcome_search.proofs.Lists.{contains_map, longer}
use Rattle.outcome_search.proofs.Counting.{no_more}
use Rattle.outcome_search.proofs.Exploring.{nodes_more, done_more, closed, failures}
use Rattle.outcome_search.proofs.Showing.{first_is, first_short}
use Rattle.outcome_search.proofs.search.close.Goals as goal

pub loop-done-preserved : goal.loop-done-preserved
loop-done-preserved c =
    let p = c.args.p.now in
    let steps = c.args.steps in
    let h = c.loop-done.invariant in
    let a = c.in_ok-explore.ensures in
    let kept = c.loop-done.kept.runs.items in
    let more = c.explore.new.kept.runs.items in
    let failed = c.loop-done.failed.items in
    let other = c.explore.new.failed.items in
    record {
      kept = a.kept;
      complete = a.complete;
      within = omega (arith, longer kept more a.grows, c.loop-done-test.true, c.len.ensures);
      first = nodes_more p steps kept more failed other a.grows a.grows_too _ h.first;
      explored = done_more p steps kept more failed other a.grows a.grows_too c.loop-done.done (omega (arith, c.loop-done-test.true, c.len.ensures)) h.explored a.explored;
    }

pub returns-clause-whole : goal.returns-clause-whole
returns-clause-whole c =
    let p = c.args.p.now in
    let steps = c.args.steps in
    let h = c.loop-done.invariant in
    let kept = c.loop-done.kept.runs.items in
    let failed = c.loop-done.failed.items in
    let l : length kept ≤ c.loop-done.done = omega (arith, c.loop-done-test.false, c.len.ensures) in
    record {
      runs = h.kept.runs;
      closed = closed p steps c.loop-done.done kept failed l h.explored h.first;
      failures = failures p steps c.loop-done.done kept failed l h.explored;
      complete = h.complete;
    }

pub returns-clause-exact : goal.returns-clause-exact
returns-clause-exact c =
    let p = c.args.p.now in
    let steps = c.args.steps in
    let h = c.loop-done.invariant in
    let kept = c.loop-done.kept.runs.items in
    let l : length kept ≤ c.loop-done.done = omega (arith, c.loop-done-test.false, c.len.ensures) in
    no_more p steps c.args.limit (nodes_of p steps kept) (closed p steps c.loop-done.done kept c.loop-done.failed.items l h.explored h.first)
    (omega (arith, h.kept.runs.few, length-map kept (node_of p steps)))

pub add-requires-clause-run : goal.add-requires-clause-run
add-requires-clause-run c = subst (IsShortRun c.args.p.now c.args.steps (length c.new-runs.result.items + 1)) (sym c.new-entries.ensures.items) (first_short c.args.p.now c.args.steps (length c.new-runs.result.items + 1))

pub loop-done-init : goal.loop-done-init
loop-done-init c =
    let p = c.args.p.now in
    let steps = c.args.steps in
    let a = c.in_ok-add.ensures in
    record {
      kept = a.kept;
      complete = subst (AreCompleteRuns p steps) (sym c.new-failed.ensures.items) tt;
      within = omega arith;
      first = subst (Contains (nodes_of p steps c.add.new.kept.runs.items)) (ap (node_of p steps) c.new-entries.ensures.items ∙ first_is p steps c.requires.proper) a.added;
      explored = λ k n l there q. absurd (omega (arith, l));
    }
