use Rattle.std.proofs.Common.{ℕ, [], get_or, arith}
use Rattle.location_sets.specs.Sets.{has}
use Rattle.tidy.specs.Tidied.{folded_leaf}
use Rattle.rewriting.proofs.Callers.{changed_count}
use Rattle.tidy.proofs.Counts.{count_propagated}
use Rattle.tidy.proofs.passes.tidy.Goals as goal

pub rewritten-requires-clause-known : goal.rewritten-requires-clause-known
rewritten-requires-clause-known c = let same = count_propagated c.args.f.now c.in_ok-read.read c.in_ok-read.ensures in let few = c.requires.sites in omega (arith, same, few)

pub rewritten-requires-clause-small : goal.rewritten-requires-clause-small
rewritten-requires-clause-small c = let same = count_propagated c.args.f.now c.in_ok-read.read c.in_ok-read.ensures in let few = c.requires.sites in omega (arith, same, few)

pub rewritten-requires-2-clause-known : goal.rewritten-requires-2-clause-known
rewritten-requires-2-clause-known c =
    let same = count_propagated c.args.f.now c.in_ok-read.read c.in_ok-read.ensures in
    let still = changed_count (λ site. folded_leaf) c.in_ok-read.read c.in_ok-computed.computed c.in_ok-computed.ensures in
    let few = c.requires.sites in
    omega (arith, same, still, few)

pub rewritten-requires-2-clause-small : goal.rewritten-requires-2-clause-small
rewritten-requires-2-clause-small c =
    let same = count_propagated c.args.f.now c.in_ok-read.read c.in_ok-read.ensures in
    let still = changed_count (λ site. folded_leaf) c.in_ok-read.read c.in_ok-computed.computed c.in_ok-computed.ensures in
    let few = c.requires.sites in
    omega (arith, same, still, few)

pub returns : goal.returns
returns c =
    let sets = c.in_ok-sets.sets in
    record {
      read = c.in_ok-read.read;
      computed = c.in_ok-computed.computed;
      propagated = c.in_ok-read.ensures;
      folded = c.in_ok-computed.ensures;
      cleared = record { live = λ (site r : ℕ). has r (get_or sets site []); is_live = c.in_ok-sets.ensures; changed = c.in_ok-rewritten.ensures };
    }
