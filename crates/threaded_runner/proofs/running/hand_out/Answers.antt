use Rattle.std.proofs.Common.{◌≡◌, inl, ◌+◌, ◌++◌, ◌∷◌, [], ℕ, List, length, map, sym, ap, ◌∙◌, subst, arith, length-append}
use Rattle.std.specs.List.{AllByRecursion}
use Rattle.values_undef.proofs.Callers.{all_push, all_pop}
use Rattle.thread_core.specs.Steps.{Positions, stack_in, ArePositions}
use Rattle.view_machine.specs.State.{start_of, local_in, initial_state}
use Rattle.shared_memory.specs.Passes.{PassValue, IsRow, own_calls}
use Rattle.chooser.specs.Draws.{generator}
use Rattle.threaded_runner.specs.declared.worker.Worker.{Worker}
use Rattle.threaded_runner.specs.Workers.{IsReady, IsDescending}
use Rattle.threaded_runner.proofs.Rows.{row_pop, descends_push, last_local, stacks_pop, ready_at, fits_taken}
use Rattle.threaded_runner.proofs.running.hand_out.Goals as goal

pub loop-local-preserved : goal.loop-local-preserved
loop-local-preserved g c =
    let h = c.loop-local.invariant in
    let p = c.args.p.now in
    let memory = c.args.shared.now in
    let n : ℕ = length p.threads in
    let locals : List Positions = c.pop.new.self.items in
    let l : Positions = c.in-Some.local in
    let list : List PassValue = c.take.new.self.list in
    let q : PassValue = c.in-Some-take.pass in
    let ws : List (Worker g.row.M.Denot) = c.loop-local.workers.items in
    let w : Worker g.row.M.Denot = record { pass = q; local = l; draw = c.new-draw.result } in
    let was_locals : c.loop-local.locals.items ≡ locals ++ l ∷ [] = c.in-Some.ensures.items in
    let was_list : c.loop-local.passes.list ≡ list ++ q ∷ [] = c.in-Some-take.ensures.list in
    let row = row_pop memory 0 list q (subst (IsRow memory 0) was_list h.row) in
    let fresh = all_pop (λ (pass : PassValue). own_calls pass ≡ []) list q (subst (AllByRecursion (λ (pass : PassValue). own_calls pass ≡ [])) was_list h.fresh) in
    let at = all_pop (ArePositions p) locals l (subst (AllByRecursion (ArePositions p)) was_locals h.positions) in
    let many_locals : length c.loop-local.locals.items ≡ length locals + 1 = ap length was_locals ∙ length-append locals (l ∷ []) in
    let many_list : length c.loop-local.passes.list ≡ length list + 1 = ap length was_list ∙ length-append list (q ∷ []) in
    let alike : length list ≡ length locals = (let a = h.alike in omega (arith, a, many_locals, many_list)) in
    let thread : q.thread ≡ length locals = (let a = row.2 in omega (arith, a, alike)) in
    let gone = h.stacks.0 in
    let whole = subst (λ (x : List Positions). map (stack_in p) x ++ gone ≡ map (start_of p) p.threads) was_locals h.stacks.1 in
    let stands : stack_in p l ≡ local_in (initial_state p) q.thread = last_local p locals l gone whole ∙ ap (local_in (initial_state p)) (sym thread) in
    let pushed : c.push_reserved.new.self.items ≡ ws ++ w ∷ [] = c.push_reserved.ensures.items in
    let many : length c.push_reserved.new.self.items ≡ length ws + 1 = ap length pushed ∙ length-append ws (w ∷ []) in
    let count = h.count in
    let draw = c.new-draw.ensures ∙ ap (generator c.args.seed) c.thread.ensures in
    record {
      stacks = (stack_in p l ∷ gone, sym (stacks_pop p locals l gone) ∙ whole);
      positions = at.0;
      alike = alike;
      row = row.0;
      fresh = fresh.0;
      made = c.in-Some-take.ensures.made ∙ h.made;
      count = omega (arith, many, count, many_locals);
      few = inl (fits_taken n c.loop-local.passes.made c.take.new.self.made ws (length c.loop-local.locals.items) (length c.loop-local.passes.list) c.in-Some-take.ensures.made count h.alike c.in-Some-take.ensures.few h.few);
      room = let r = h.room in let e = c.push_reserved.ensures.capacity in omega (arith, r, e);
      descending = subst (IsDescending n) (sym pushed) (descends_push n ws w h.descending (omega (arith, thread, count, many_locals)));
      ready = subst (AllByRecursion (IsReady p memory c.args.seed c.args.steps)) (sym pushed) (all_push (IsReady p memory c.args.seed c.args.steps) ws w h.ready (ready_at p memory c.args.seed c.args.steps w row.1 at.1 fresh.1 stands draw));
    }
