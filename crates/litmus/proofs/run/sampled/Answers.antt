use Rattle.std.proofs.Common.{◌≡◌, ◌∙◌, ℕ, List, ap, subst}
use Rattle.litmus.specs.Outcome.{outcome_in}
use Rattle.litmus.specs.Sampled.{IsDrawnWalk, drawn_order}
use Rattle.litmus.proofs.run.sampled.Goals as goal

pub returns : goal.returns
returns g c =
    let threads = c.len-threads.ensures in
    let order = c.as_slice.ensures.value ∙ c.in_ok-order.ensures ∙ ap (drawn_order c.args.seed) threads in
    record {
      sampled = subst (λ (order : List ℕ). IsDrawnWalk c.args.p.now order c.args.seed c.args.steps c.in_ok-journal.field-0.journal) order c.in_ok-journal.ensures;
      outcome = c.in_ok-outcome.ensures ∙ ap (outcome_in c.in_ok-journal.field-0.journal) threads;
    }
