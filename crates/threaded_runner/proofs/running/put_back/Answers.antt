use Rattle.std.proofs.Common.{◌≡◌, ◌+◌, ◌++◌, ◌∷◌, [], ℕ, List, length, sym, ap, ◌∙◌, subst, arith, length-append}
use Rattle.std.specs.List.{AllByRecursion}
use Rattle.values_undef.proofs.Callers.{all_push, all_pop}
use Rattle.shared_memory.specs.Passes.{PassValue, IsPassOf, IsRow, own_calls}
use Rattle.threaded_runner.specs.declared.worker.Worker.{Worker}
use Rattle.threaded_runner.specs.Worked.{Worked}
use Rattle.threaded_runner.specs.Workers.{IsDescending}
use Rattle.threaded_runner.proofs.Rows.{row_push, descends_pop}
use Rattle.threaded_runner.proofs.running.put_back.Goals as goal

pub loop-worker-preserved : goal.loop-worker-preserved
loop-worker-preserved g c =
    let h = c.loop-worker.invariant in
    let p = c.args.p.now in
    let memory = c.args.shared.now in
    let n : ℕ = length p.threads in
    let ws : List (Worker g.row.M.Denot) = c.pop.new.self.items in
    let w : Worker g.row.M.Denot = c.in-Some.worker in
    let list : List PassValue = c.loop-worker.passes.list in
    let was : c.loop-worker.workers.items ≡ ws ++ w ∷ [] = c.in-Some.ensures.items in
    let down = descends_pop n ws w (subst (IsDescending n) was h.descending) in
    let of = all_pop (λ (w : Worker g.row.M.Denot). IsPassOf memory w.pass) ws w (subst (AllByRecursion (λ (w : Worker g.row.M.Denot). IsPassOf memory w.pass)) was h.passes) in
    let worked = all_pop (λ (w : Worker g.row.M.Denot). Worked p w.pass.thread w.pass.seen (own_calls w.pass) c.args.seed c.args.steps) ws w
    (subst (AllByRecursion (λ (w : Worker g.row.M.Denot). Worked p w.pass.thread w.pass.seen (own_calls w.pass) c.args.seed c.args.steps)) was h.worked) in
    let many : length c.loop-worker.workers.items ≡ length ws + 1 = ap length was ∙ length-append ws (w ∷ []) in
    let count = h.count in
    let down_is = down.1 in
    let thread : w.pass.thread ≡ 0 + length list = omega (arith, many, count, down_is) in
    let pushed : c.put.new.self.list ≡ list ++ w.pass ∷ [] = c.put.ensures.list in
    let longer : length c.put.new.self.list ≡ length list + 1 = ap length pushed ∙ length-append list (w.pass ∷ []) in
    record {
      made = c.put.ensures.made ∙ h.made;
      count = omega (arith, longer, count, many);
      few = let f = h.few in let e = c.put.ensures.made in omega (arith, f, e);
      row = subst (IsRow memory 0) (sym pushed) (row_push memory 0 list w.pass h.row of.1 thread);
      done = subst (AllByRecursion (λ (pass : PassValue). Worked p pass.thread pass.seen (own_calls pass) c.args.seed c.args.steps)) (sym pushed) (all_push (λ (pass : PassValue). Worked p pass.thread pass.seen (own_calls pass) c.args.seed c.args.steps) list w.pass h.done worked.1);
      descending = down.0;
      passes = of.0;
      worked = worked.0;
    }
