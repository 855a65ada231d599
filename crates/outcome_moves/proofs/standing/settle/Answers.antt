use Rattle.std.proofs.Common.{◌≡◌, ◌-◌, ◌≤◌, ltb, ℕ, ap, ◌∙◌, subst}
use Rattle.values_undef.specs.Journal.{used_steps}
use Rattle.view_machine.specs.State.{State, next_in}
use Rattle.view_machine.specs.Held.{state_in}
use Rattle.outcome_moves.proofs.There.{running_from, stands_behind, silent_is, what_is}
use Rattle.outcome_moves.proofs.standing.settle.Goals as goal

pub run_to-silent-requires-clause-running : goal.run_to-silent-requires-clause-running
run_to-silent-requires-clause-running c _ =
    running_from c.args.p.now c.args.steps c.args.entries.now c.args.thread c.requires.proper c.requires.run c.requires.there (state_in c.args.p.now c.args.machine.now) c.requires.stands

pub returns-clause-silent : goal.returns-clause-silent
returns-clause-silent c =
    let p = c.args.p.now in
    let q = c.run_to-silent.ensures in
    let used : c.args.steps - c.used_by.result ≡ c.args.steps - used_steps c.args.entries.now c.args.thread = ap (λ (x : ℕ). c.args.steps - x) c.used_by.ensures in
    silent_is p c.args.steps c.args.entries.now c.args.thread c.requires.proper c.requires.run c.requires.there (state_in p c.args.machine.now) c.requires.stands
    c.run_to-silent.result.0 c.run_to-silent.result.1 (subst (λ (x : ℕ). c.run_to-silent.result.0 ≤ x) used q.most) q.silent (q.next ∙ ap (λ (t : State). next_in t c.args.thread) q.state) (λ e. q.stops e ∙ used)

pub returns-clause-what : goal.returns-clause-what
returns-clause-what c =
    let p = c.args.p.now in
    let q = c.run_to-silent.ensures in
    let used : c.args.steps - c.used_by.result ≡ c.args.steps - used_steps c.args.entries.now c.args.thread = ap (λ (x : ℕ). c.args.steps - x) c.used_by.ensures in
    let w = c.what_next.ensures in
    what_is p c.args.steps c.args.entries.now c.args.thread c.requires.proper c.requires.run c.requires.there (state_in p c.args.machine.now) c.requires.stands
    c.run_to-silent.result.0 c.run_to-silent.result.1 (subst (λ (x : ℕ). c.run_to-silent.result.0 ≤ x) used q.most) q.silent (q.next ∙ ap (λ (t : State). next_in t c.args.thread) q.state) (λ e. q.stops e ∙ used)
    c.what_next.result q.proper w.silent w.finished
    (λ a e f b. w.asks a e f (ap (ltb c.run_to-silent.result.0) used ∙ b))
    (λ a e f b. w.spent a e f (ap (ltb c.run_to-silent.result.0) used ∙ b))

pub returns-clause-stands : goal.returns-clause-stands
returns-clause-stands c =
    let p = c.args.p.now in
    let q = c.run_to-silent.ensures in
    let used : c.args.steps - c.used_by.result ≡ c.args.steps - used_steps c.args.entries.now c.args.thread = ap (λ (x : ℕ). c.args.steps - x) c.used_by.ensures in
    stands_behind p c.args.steps c.args.entries.now c.args.thread c.requires.proper c.requires.run c.requires.there (state_in p c.args.machine.now) c.requires.stands
    c.run_to-silent.result.0 c.run_to-silent.result.1 (subst (λ (x : ℕ). c.run_to-silent.result.0 ≤ x) used q.most) q.silent (q.next ∙ ap (λ (t : State). next_in t c.args.thread) q.state) (λ e. q.stops e ∙ used)
    (state_in p c.run_to-silent.new.self) q.state
