use Rattle.std.proofs.Common.{take, arith}
use Rattle.std.proofs.lemmas.List.{length-take}
use Rattle.view_machine.specs.Held.{state_in}
use Rattle.view_machine.proofs.Callers.{runs_have_room}
use Rattle.outcome_moves.proofs.Playing.{entry_at, more_at}
use Rattle.outcome_moves.proofs.Using.{no_entry}
use Rattle.outcome_moves.proofs.standing.stand.Goals as goal

pub play-requires-clause-versions : goal.play-requires-clause-versions
play-requires-clause-versions c =
    let p = c.args.p.now in
    let few = length-take c.loop-k.k c.args.entries.now in
    runs_have_room p (take c.loop-k.k c.args.entries.now) (state_in p c.loop-k.machine) c.requires.proper c.loop-k.invariant.to (omega (arith, few, c.requires.few))

pub play-requires-clause-entry : goal.play-requires-clause-entry
play-requires-clause-entry c =
    let p = c.args.p.now in
    entry_at p c.args.entries.now c.loop-k.k no_entry (state_in p c.loop-k.machine) c.requires.run c.loop-k-test.true c.loop-k.invariant.to

pub loop-k-preserved : goal.loop-k-preserved
loop-k-preserved c =
    let p = c.args.p.now in
    record {
      to = more_at p c.args.entries.now c.loop-k.k no_entry (state_in p c.loop-k.machine) (state_in p c.play.new.machine) c.requires.run c.loop-k-test.true c.loop-k.invariant.to c.play.ensures.state;
      program = c.play.ensures.program;
      room = omega (arith, c.play.ensures.room, c.loop-k.invariant.room);
    }
