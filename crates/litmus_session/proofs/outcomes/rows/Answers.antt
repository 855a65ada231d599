use Rattle.std.proofs.Common.{subst, rules}
use Rattle.reports.specs.Targets.{target_program}
use Rattle.litmus.specs.declared.table.Sample.{Sample}
use Rattle.litmus_session.specs.Session.{IsRowText}
use Rattle.litmus_session.proofs.RowTexts.{outcomes_more, rows_more}
use Rattle.litmus_session.proofs.outcomes.rows.Goals as goal

pub loop-sample-preserved : goal.loop-sample-preserved
loop-sample-preserved g c =
    let chain = c.args.chain.now in
    let target = target_program chain in
    let samples = c.args.samples.now in
    let i = c.loop-sample.sample-index in
    let below = c.loop-sample-test.true in
    let s = c.sample-item.result in
    let old = c.loop-sample.invariant in
    let row = subst (λ (x : Sample). IsRowText chain.source target x c.in_ok-row.row.items) c.sample-item.is c.in_ok-row.ensures in
    record {
      text = rows_more chain.source target samples c.loop-sample.text.items c.extend_from_slice.new.self.items c.in_ok-row.row.items i s below old.text row (search rules);
      outcomes = outcomes_more target samples c.loop-sample.outcomes.items c.push.new.self.items i s below old.outcomes (search rules);
    }
