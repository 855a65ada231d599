use Rattle.std.proofs.Common.{rules, ◌≡◌, true, false, List, take, Err, refl, sym, ap, ◌∙◌, subst}
use Rattle.std.specs.List.{AllByRecursion}
use Rattle.std.proofs.lemmas.Result.{err_from_is_err_and}
use Rattle.seq_pair.specs.declared.trace.PairLabel.{PairLabel}
use Rattle.seq_pair.specs.Labels.{LabelMatches}
use Rattle.seq_pair.specs.Pair.{Came}
use Rattle.seq_pair.specs.Pairing.{pair_in}
use Rattle.seq_pair.proofs.Along.{run_takes_one, run_stops, run_whole, led}
use Rattle.seq_pair.proofs.Pairs.{are_paired, no_fault}
use Rattle.seq_pair.proofs.run.seq_pair.Goals as goal

pub begin-requires : goal.begin-requires
begin-requires c = record { programs = are_paired c.args.source.now c.args.target.now c.args.function c.requires.accepted }

pub returns-in_err-pair-clause-fault : goal.returns-in_err-pair-clause-fault
returns-in_err-pair-clause-fault c =
    let q = err_from_is_err_and c.from_residual.result c.from_residual.ensures.1 in
    no_fault c.args.source.now c.args.target.now c.args.function c.args.events.now c.from_residual.result (q.1 ∙ ap Err q.2)

pub admits-requires-clause-programs : goal.admits-requires-clause-programs
admits-requires-clause-programs c = are_paired c.args.source.now c.args.target.now c.args.function c.requires.accepted

pub returns-then-not-admits-clause-fault : goal.returns-then-not-admits-clause-fault
returns-then-not-admits-clause-fault c =
    let p = c.args.source.now in
    let q = c.args.target.now in
    let f = c.args.function in
    let events = c.args.events.now in
    let at = c.loop-at.at in
    let s = pair_in p q c.loop-at.pair in
    let h = c.loop-at.invariant in
    let l : c.admits.result ≡ false = search rules in
    record {
      run = run_stops p q f events at s _ _ c.loop-at-test.true refl h.reached (sym c.admits.ensures ∙ l);
      pair = s;
      before = h.reached;
      related = c.pairs_stay_related.ensures p q f (take at events) s c.requires.accepted h.reached;
    }

pub play-requires-clause-programs : goal.play-requires-clause-programs
play-requires-clause-programs c = are_paired c.args.source.now c.args.target.now c.args.function c.requires.accepted

pub play-requires-clause-led : goal.play-requires-clause-led
play-requires-clause-led c =
    led c.args.source.now c.args.target.now c.args.function c.pairs_stay_in_step.ensures c.requires.accepted (take c.loop-at.at c.args.events.now) (pair_in c.args.source.now c.args.target.now c.loop-at.pair) c.loop-at.invariant.reached

pub returns-in_err-play-clause-fault : goal.returns-in_err-play-clause-fault
returns-in_err-play-clause-fault c =
    let q = err_from_is_err_and c.from_residual-in_err-play.result c.from_residual-in_err-play.ensures.1 in
    no_fault c.args.source.now c.args.target.now c.args.function c.args.events.now c.from_residual-in_err-play.result (q.1 ∙ ap Err q.2)

pub loop-at-preserved : goal.loop-at-preserved
loop-at-preserved c =
    let p = c.args.source.now in
    let q = c.args.target.now in
    let l : c.admits.result ≡ true = search rules in
    record {
      reached = run_takes_one p q c.args.function c.args.events.now c.loop-at.at (pair_in p q c.loop-at.pair) _ _ c.loop-at-test.true refl c.loop-at.invariant.reached (sym c.admits.ensures ∙ l) ∙ ap Came (sym c.in_ok-play.ensures.state);
      pair = c.in_ok-play.ensures.pair;
    }

pub returns-clause-trace : goal.returns-clause-trace
returns-clause-trace c =
    let p = c.args.source.now in
    let q = c.args.target.now in
    let f = c.args.function in
    let events = c.args.events.now in
    let s = pair_in p q c.loop-at.pair in
    let run = run_whole p q f events c.loop-at.at s c.loop-at-test.false c.loop-at.invariant.reached in
    record {
      pair = s;
      run = run;
      labels = c.trace_of.ensures.labels;
      end = c.trace_of.ensures.end;
      related = c.pairs_stay_related.ensures p q f events s c.requires.accepted run;
    }

pub returns-clause-matching : goal.returns-clause-matching
returns-clause-matching c =
    let p = c.args.source.now in
    let q = c.args.target.now in
    let f = c.args.function in
    let events = c.args.events.now in
    let s = pair_in p q c.loop-at.pair in
    let run = run_whole p q f events c.loop-at.at s c.loop-at-test.false c.loop-at.invariant.reached in
    subst (λ (z : List PairLabel). AllByRecursion LabelMatches z) (sym c.trace_of.ensures.labels) (c.pairs_stay_related.ensures p q f events s c.requires.accepted run).labels
