use Rattle.std.proofs.Common.{◌≡◌, ⊎_elim, [], sym, subst, arith}
use Rattle.std.specs.List.{AllByRecursion}
use Rattle.std.proofs.lemmas.Bool.{cases_eq}
use Rattle.outcome_nodes.specs.Standing.{node_of}
use Rattle.outcome_moves.specs.Moves.{HasMovesOf, IsSomeMove, IsSmallMove}
use Rattle.view_machine.specs.Held.{state_in}
use Rattle.outcome_moves.proofs.Making.{none_spends}
use Rattle.outcome_moves.proofs.There.{from_anywhere}
use Rattle.outcome_moves.proofs.Growing.{grows_none, grows_then, has_more}
use Rattle.outcome_moves.proofs.all.moves_by.Goals as goal

pub stand-requires-clause-unspent : goal.stand-requires-clause-unspent
stand-requires-clause-unspent c = none_spends c.args.entries.now c.requires.run.stands.unspent

pub loop-thread-preserved : goal.loop-thread-preserved
loop-thread-preserved c =
    let p = c.args.p.now in
    let n = node_of p c.args.steps c.args.entries.now in
    let h = c.loop-thread.invariant in
    let old = c.loop-thread.moves.items in
    let new = c.add_moves.new.moves.items in
    let a = c.in_ok-add_moves.ensures in
    record {
      grows = grows_then p c.args.steps n c.args.entries.now [] old new h.grows a.grows;
      all = λ i l.
          ⊎_elim
          (λ (e : i ≡ c.loop-thread.thread). subst (HasMovesOf p c.args.steps n new) (sym e) a.all)
          (λ (e : i ≡ c.loop-thread.thread → ⊥). λ x b asks move. has_more p c.args.steps n c.args.entries.now old new i x b a.grows (h.all i (omega (arith, l, e)) x b asks move))
          (cases_eq i c.loop-thread.thread);
      stands = a.stands;
      program = a.program;
    }

pub returns-clause-all : goal.returns-clause-all
returns-clause-all c = λ i l. c.loop-thread.invariant.all i (omega (arith, l, c.loop-thread-test.false))

pub returns-clause-only : goal.returns-clause-only
returns-clause-only c =
    let g = c.loop-thread.invariant.grows in
    subst (AllByRecursion (IsSomeMove c.args.p.now c.args.steps (node_of c.args.p.now c.args.steps c.args.entries.now))) (sym g.1) g.2

pub returns-clause-small : goal.returns-clause-small
returns-clause-small c =
    let g = c.loop-thread.invariant.grows in
    subst (AllByRecursion (IsSmallMove c.args.entries.now)) (sym g.1) g.3
