use Rattle.std.proofs.Common.{◌≡◌, ◌∙◌, ◌+◌, ℕ, List, [], ◌∷◌, ◌++◌, ap, sym, arith}
use Rattle.std.specs.List.{range_with_len}
use Rattle.litmus.proofs.Tables.{range_more}
use Rattle.litmus.proofs.driver.seeds_from.Goals as goal

pub loop-k-preserved : goal.loop-k-preserved
loop-k-preserved c =
    let test = c.loop-k-test.true in
    record {
      few = omega (arith, test);
      list = c.in_ok-push.ensures.items ∙ ap (λ (xs : List ℕ). xs ++ (c.args.seed + c.loop-k.k) ∷ []) c.loop-k.invariant.list ∙ sym (range_more c.args.seed c.loop-k.k);
    }

pub returns : goal.returns
returns c =
    let test = c.loop-k-test.false in
    let all : c.loop-k.k ≡ c.args.seeds = omega (arith, test, c.loop-k.invariant.few) in
    c.loop-k.invariant.list ∙ ap (range_with_len c.args.seed) all
