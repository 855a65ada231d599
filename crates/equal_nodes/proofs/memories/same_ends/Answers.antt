use Rattle.std.proofs.Common.{rules, ◌≡◌, ℕ, ⊎_elim, false, get_or, take, Some, None, sym, ◌∙◌, subst}
use Rattle.std.proofs.lemmas.Bool.{false≢true}
use Rattle.std.proofs.lemmas.Option.{none-some, same_Some}
use Rattle.message_memory.specs.Memory.{messages, message_at}
use Rattle.outcome_moves.specs.Ends.{end_in, HasEnd}
use Rattle.outcome_moves.proofs.Callers.{end_or_before, no_entry}
use Rattle.equal_nodes.proofs.Comparing.{has_end}
use Rattle.equal_nodes.proofs.memories.same_ends.Goals as goal
use Rattle.equal_nodes.proofs.memories.same_ends.Goals.{in-Some+else-not-same_at, in_default}

pub returns-then-not-same_at : goal.returns-then-not-same_at
returns-then-not-same_at c =
    let entries = c.args.entries.now in
    let there : end_in c.args.y (get_or entries c.loop-k.k no_entry).event ≡ Some c.in-Some.to = search rules in
    let differs : c.same_at.result ≡ false = search rules in
    (λ t. absurd (false≢true t), λ h. sym differs ∙ c.same_at.ensures.1 (h c.in-Some.to (has_end entries c.loop-k.k no_entry c.args.y c.in-Some.to c.loop-k-test.true there)))

pub loop-k-preserved : goal.loop-k-preserved
loop-k-preserved c =
    let entries = c.args.entries.now in
    let k = c.loop-k.k in
    let y = c.args.y in
    let m = c.args.a.now.memory in
    let n = c.args.b.now.memory in
    λ to q.
    ⊎_elim
    (λ (r : HasEnd (take k entries) y to). c.loop-k.invariant to r)
    (λ (r : end_in y (get_or entries k no_entry).event ≡ Some to).
    elim c.match-end_in.branch [
      | in-Some+else-not-same_at w ↦
          let there : end_in y (get_or entries k no_entry).event ≡ Some w.in-Some.to = search rules in
          subst (λ (z : ℕ). message_at z (messages m y) ≡ message_at z (messages n y)) (same_Some w.in-Some.to to (sym there ∙ r)) (w.same_at.ensures.0 (search rules))
      | in_default w ↦
          let none : end_in y (get_or entries k no_entry).event ≡ None = search rules in
          absurd (none-some to (sym none ∙ r))
    ])
    (end_or_before entries k no_entry y to c.loop-k-test.true q)
