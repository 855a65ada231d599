use Rattle.std.proofs.Common.{◌∙◌, ◌&&◌, ◌++◌, ◌≤◌, Bool, List, length, ap, sym, arith}
use Rattle.std.proofs.lemmas.List.{take_all}
use Rattle.litmus_text.specs.Expectation.{Expected}
use Rattle.litmus_text.specs.Output.{verdict_lines}
use Rattle.litmus_text.proofs.Callers.{all_more, verdicts_more}
use Rattle.outcomes_session.specs.Judging.{is_met_by}
use Rattle.outcomes_session.proofs.judging.push_judged.Goals as goal
use Rattle.outcomes_session.proofs.judging.push_judged.Goals.{then-all, else-all}

pub loop-expectation-preserved : goal.loop-expectation-preserved
loop-expectation-preserved c =
    let es = c.args.expectations.now in
    let test = is_met_by c.args.p.now c.args.list.now in
    let i = c.loop-expectation.expectation-index in
    let e = c.expectation-item.result in
    let same = c.in_ok-met.ensures ∙ ap test c.expectation-item.is in
    let all = all_more test es c.loop-expectation.all c.in_ok-met.met i e c.loop-expectation-test.true c.loop-expectation.invariant.met same in
    record {
      written = verdicts_more test es c.args.out.now.items c.loop-expectation.out.items c.push_verdict.new.out.items c.in_ok-met.met i e c.loop-expectation-test.true c.loop-expectation.invariant.written same c.in_ok-push_verdict.ensures;
      met = elim c.if-all.branch [
        | then-all w ↦ w.all-is ∙ sym (ap (λ (b : Bool). b && c.in_ok-met.met) w.if-all.true) ∙ all
        | else-all w ↦ w.all-is ∙ w.if-all.false ∙ sym (ap (λ (b : Bool). b && c.in_ok-met.met) w.if-all.false) ∙ all
      ];
    }

pub returns-clause-written : goal.returns-clause-written
returns-clause-written c =
    let es = c.args.expectations.now in
    let past : length es ≤ c.loop-expectation.expectation-index = omega (arith, c.loop-expectation-test.false) in
    c.loop-expectation.invariant.written
    ∙ ap (λ (xs : List Expected). c.args.out.now.items ++ verdict_lines (is_met_by c.args.p.now c.args.list.now) xs) (take_all c.loop-expectation.expectation-index es past)
