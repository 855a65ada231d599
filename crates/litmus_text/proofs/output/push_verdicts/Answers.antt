use Rattle.std.proofs.Common.{◌∙◌, ◌&&◌, ◌++◌, ◌≤◌, Bool, List, length, ap, sym, arith}
use Rattle.std.proofs.lemmas.List.{take_all}
use Rattle.litmus_text.specs.Expectation.{Expected}
use Rattle.litmus_text.specs.Output.{is_met, verdict_lines}
use Rattle.litmus_text.proofs.Verdicts.{all_more, verdicts_more}
use Rattle.litmus_text.proofs.output.push_verdicts.Goals as goal
use Rattle.litmus_text.proofs.output.push_verdicts.Goals.{then-all, else-all}

pub loop-expectation-preserved : goal.loop-expectation-preserved
loop-expectation-preserved c =
    let es = c.args.expectations.now in
    let os = c.args.outcomes.now in
    let i = c.loop-expectation.expectation-index in
    let e = c.expectation-item.result in
    let here = ap (is_met os) c.expectation-item.is in
    let same = c.in_ok-met.ensures ∙ here in
    let all = all_more (is_met os) es c.loop-expectation.all c.in_ok-met.met i e c.loop-expectation-test.true c.loop-expectation.invariant.met same in
    record {
      written = verdicts_more (is_met os) es c.args.out.now.items c.loop-expectation.out.items c.push_verdict.new.out.items c.in_ok-met.met i e c.loop-expectation-test.true c.loop-expectation.invariant.written same c.in_ok-push_verdict.ensures;
      met = elim c.if-all.branch [
        | then-all w ↦ w.all-is ∙ sym (ap (λ (b : Bool). b && c.in_ok-met.met) w.if-all.true) ∙ all
        | else-all w ↦ w.all-is ∙ w.if-all.false ∙ sym (ap (λ (b : Bool). b && c.in_ok-met.met) w.if-all.false) ∙ all
      ];
    }

pub returns-clause-written : goal.returns-clause-written
returns-clause-written c =
    let es = c.args.expectations.now in
    let os = c.args.outcomes.now in
    let past : length es ≤ c.loop-expectation.expectation-index = omega (arith, c.loop-expectation-test.false) in
    c.loop-expectation.invariant.written ∙ ap (λ (xs : List Expected). c.args.out.now.items ++ verdict_lines (is_met os) xs) (take_all c.loop-expectation.expectation-index es past)
