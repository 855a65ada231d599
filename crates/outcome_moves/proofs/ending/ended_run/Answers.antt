use Rattle.std.proofs.Common.{rules, ◌≡◌, ◌⊎◌, ℕ, length, sym, ap, ◌∙◌, subst, arith}
use Rattle.outcome_nodes.specs.Nodes.{IsFinished, IsSpent}
use Rattle.outcome_nodes.specs.Reached.{IsEndedRun}
use Rattle.outcome_nodes.specs.Standing.{node_of, last_entry, with_last_entries}
use Rattle.outcome_nodes.proofs.Callers.{ended_with}
use Rattle.outcome_moves.specs.Moves.{last_state}
use Rattle.view_machine.specs.Held.{state_in}
use Rattle.outcome_moves.proofs.Making.{none_spends}
use Rattle.outcome_moves.proofs.There.{from_anywhere}
use Rattle.outcome_moves.proofs.Closing.{many_last, one_last, one_more}
use Rattle.outcome_moves.proofs.ending.ended_run.Goals as goal

pub stand-requires-clause-unspent : goal.stand-requires-clause-unspent
stand-requires-clause-unspent c = none_spends c.args.entries.now c.requires.run.stands.unspent

pub loop-thread-preserved : goal.loop-thread-preserved
loop-thread-preserved c =
    let p = c.args.p.now in
    let s = last_state p c.args.entries.now in
    let n = node_of p c.args.steps c.args.entries.now in
    let told : (c.in-Some.entry ≡ last_entry c.args.p.now c.args.steps c.args.entries.now (last_state c.args.p.now c.args.entries.now) c.loop-thread.thread)
    × (IsFinished (node_of c.args.p.now c.args.steps c.args.entries.now) c.loop-thread.thread ⊎ IsSpent c.args.steps (node_of c.args.p.now c.args.steps c.args.entries.now) c.loop-thread.thread) = search rules in
    record {
      after = one_last p c.args.steps c.args.entries.now s c.loop-thread.thread c.loop-thread.after.items c.push.new.self.items c.in-Some.entry c.loop-thread.invariant.after told.0 c.in_ok-push.ensures.items;
      ends = one_more (λ (j : ℕ). IsFinished n j ⊎ IsSpent c.args.steps n j) c.loop-thread.thread c.loop-thread.invariant.ends told.1;
      stands = c.last_entry.ensures.stands;
      program = c.last_entry.ensures.program;
    }

pub returns-in_default-clause-none : goal.returns-in_default-clause-none
returns-in_default-clause-none c =
    let never : IsFinished (node_of c.args.p.now c.args.steps c.args.entries.now) c.loop-thread.thread ⊎ IsSpent c.args.steps (node_of c.args.p.now c.args.steps c.args.entries.now) c.loop-thread.thread → ⊥ = search rules in
    λ _ each. never (each c.loop-thread.thread (omega (arith, c.loop-thread-test.true, c.len-threads.ensures)))

pub returns-clause-ended : goal.returns-clause-ended
returns-clause-ended c =
    let p = c.args.p.now in
    let n = node_of p c.args.steps c.args.entries.now in
    let all : c.loop-thread.thread ≡ length c.args.p.now.threads = omega (arith, c.loop-thread-test.false, c.loop-thread.auto.thread-end, c.len-threads.ensures) in
    subst (IsEndedRun p c.args.steps n) (ap (with_last_entries p c.args.steps c.args.entries.now (last_state p c.args.entries.now)) (sym all) ∙ sym c.loop-thread.invariant.after)
    (ended_with p c.args.steps c.args.entries.now c.requires.proper c.requires.run (λ j l. c.loop-thread.invariant.ends j (omega (arith, l, all))))

pub returns-clause-longer : goal.returns-clause-longer
returns-clause-longer c =
    let p = c.args.p.now in
    let many : length c.loop-thread.after.items ≡ length (with_last_entries c.args.p.now c.args.steps c.args.entries.now (last_state c.args.p.now c.args.entries.now) c.loop-thread.thread) = ap {B = ℕ} length c.loop-thread.invariant.after in
    omega (arith, many, many_last p c.args.steps c.args.entries.now (last_state p c.args.entries.now) c.loop-thread.thread, c.loop-thread-test.false, c.loop-thread.auto.thread-end, c.len-threads.ensures)
