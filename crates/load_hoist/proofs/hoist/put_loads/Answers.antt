use Rattle.std.proofs.Common.{◌≡◌, ◌+◌, ◌-◌, suc, sym, ap, ◌∙◌, subst, arith}
use Rattle.il_paths.specs.Tree.{tree_of}
use Rattle.load_hoist.specs.declared.growth.Growing.{Growing}
use Rattle.load_hoist.specs.Taken.{IsTaken}
use Rattle.load_hoist.proofs.PutLoads.{step_put, step_skip}
use Rattle.load_hoist.proofs.hoist.put_loads.Goals as goal
use Rattle.load_hoist.proofs.hoist.put_loads.Goals.{then-gets_load+in_ok-put_load+in_ok-push, else-gets_load}

pub loop-x-preserved : goal.loop-x-preserved
loop-x-preserved c =
    let names = c.args.names.now in
    let body = tree_of c.args.body.now in
    let inside = c.args.inside.now in
    let n = c.args.na in
    let x = c.loop-x.x in
    let g = c.loop-x.growing.growth in
    let old = c.loop-x.invariant in
    let test = c.loop-x-test.true in
    let more : n - x ≡ suc (n - (x + 1)) = omega (arith, test) in
    elim c.if-gets_load.branch [
      | then-gets_load+in_ok-put_load+in_ok-push w ↦
          let s = step_put names body inside (n - x) (n - (x + 1)) x g c.if-gets_load.growing.growth more c.loop-x.within c.if-gets_load.within c.loop-x.kept c.if-gets_load.kept (sym c.gets_load.ensures ∙ w.if-gets_load.true) (ap (λ (g : Growing). g.growth) w.growing-is ∙ w.in_ok-put_load.ensures.growth) (w.within-is ∙ w.in_ok-push.ensures.ok) (w.kept-is ∙ w.in_ok-put_load.ensures.kept) in
          record { within = s.locations ∙ old.within; growth = s.growth ∙ old.growth; taken = subst (IsTaken names) (sym w.growing-is) w.in_ok-put_load.ensures.taken; kept = s.loads_put ∙ old.kept }
      | else-gets_load w ↦
          let s = step_skip names body inside (n - x) (n - (x + 1)) x g c.if-gets_load.growing.growth more c.loop-x.within c.if-gets_load.within c.loop-x.kept c.if-gets_load.kept (sym c.gets_load.ensures ∙ w.if-gets_load.false) (ap (λ (g : Growing). g.growth) w.growing-is) w.within-is w.kept-is in
          record { within = s.locations ∙ old.within; growth = s.growth ∙ old.growth; taken = subst (IsTaken names) (sym w.growing-is) old.taken; kept = s.loads_put ∙ old.kept }
    ]
