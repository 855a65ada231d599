-- Of each site and each location it is decided whether every path from just after the site overwrites it first.
use Rattle.std.proofs.Common.{◌≡◌, ◌<◌, ℕ, Bool, true, false, List, ap, ◌∙◌, arith}
use Rattle.std.specs.Prelude.{◌↔◌}
use Rattle.il_paths.specs.Code.{Visit, placed}
use Rattle.il_paths.specs.Tree.{Tree, sites_of}
use Rattle.il_paths.specs.Meets.{fold_backward}
use Rattle.path_meets.specs.Chain.{must_rank}
use Rattle.path_meets.proofs.Callers.{after_exist, all_paths_after}
use Rattle.dead_store.specs.Overwritten.{IsOverwrittenAfter}
use Rattle.dead_store.specs.Backward.{overwritten_step}
use Rattle.dead_store.proofs.Callers.{step_monotone, must_bounded, fold_overwritten, fold_stored}

pub dead_decided : (t : Tree) (site x : ℕ) → site < sites_of t → (dead : Bool) × ((dead ≡ true) ↔ IsOverwrittenAfter t site x)
dead_decided t site x lt =
    let m = after_exist Bool must_rank 1 (overwritten_step x) (step_monotone x) must_bounded t false site lt in
    let all = all_paths_after (overwritten_step x) false (placed 0 t) site m.0 m.1 in (
      m.0,
      (
        λ e q a. fold_overwritten x q (all.0 e q a),
        λ f. all.1 (λ q a. let o = f q a in ap (λ (p : List Visit). fold_backward (overwritten_step x) p false) o.is ∙ fold_stored x o.before o.store o.after o.stores o.untouched),
      ),
    )
