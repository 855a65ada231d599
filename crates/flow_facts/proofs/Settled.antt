-- A round of one pair's levels, and what it leaves at the end.
use Rattle.std.proofs.Common.{◌≡◌, ◌≤◌, List, length, get_or, sum_by, sym, ap, ◌∙◌, subst, ⊎_elim, arith}
use Rattle.il_paths.specs.Tree.{Tree, sites_of}
use Rattle.il_paths.specs.Code.{placed}
use Rattle.path_meets.specs.Walks.{table}
use Rattle.path_meets.proofs.Callers.{inside-placed}
use Rattle.flow_facts.specs.declared.given.Pair.{Pair}
use Rattle.flow_facts.specs.declared.level.Kind.{Kind}
use Rattle.flow_facts.specs.declared.level.Level.{Level}
use Rattle.flow_facts.specs.declared.level.Level.TheVariants.{Nothing, Fresh}
use Rattle.flow_facts.specs.Levels.{rank_of, level_step}
use Rattle.flow_facts.specs.Rounds.{round}
use Rattle.flow_facts.specs.Columns.{AreLevels}
use Rattle.flow_facts.proofs.LevelLaws.{rank_bounded, rank_injective, step_monotone}
use Rattle.flow_facts.proofs.Round.{Above, Falls, falls_weight, round_length, round_falls, round_above_exact, fixed_least}

module _ (tree : Tree) (kind : Kind) (pair : Pair) (kept new : List Level) (is : new ≡ (round Level rank_of (level_step kind pair.x pair.a) (placed 0 tree) kept Nothing).0) (long : length kept ≡ sites_of tree) where
  falls : Falls Level rank_of kept new
  falls = subst (λ t. Falls Level rank_of kept t) (sym is) (round_falls Level rank_of (level_step kind pair.x pair.a) (sites_of tree) (placed 0 tree) kept Nothing (inside-placed tree (sites_of tree) 0 (omega arith)) long)

  pub round_long : length new ≡ sites_of tree
  round_long = ap length is ∙ round_length Level rank_of (level_step kind pair.x pair.a) (placed 0 tree) kept Nothing ∙ long

  pub round_lighter : sum_by rank_of new ≤ sum_by rank_of kept
  round_lighter = falls_weight Level rank_of kept new falls

  pub round_still_above : Above Level rank_of (λ s. get_or (table Level rank_of 2 (level_step kind pair.x pair.a) (placed 0 tree) Nothing) s Fresh) Fresh kept → Above Level rank_of (λ s. get_or (table Level rank_of 2 (level_step kind pair.x pair.a) (placed 0 tree) Nothing) s Fresh) Fresh new
  round_still_above above =
      subst (λ t. Above Level rank_of (λ s. get_or (table Level rank_of 2 (level_step kind pair.x pair.a) (placed 0 tree) Nothing) s Fresh) Fresh t) (sym is) (round_above_exact Level rank_of 2 (level_step kind pair.x pair.a) (step_monotone kind pair.x pair.a) rank_bounded tree Nothing Fresh kept long above)

  -- where the weight stays, the levels are exact
  pub round_exact : Above Level rank_of (λ s. get_or (table Level rank_of 2 (level_step kind pair.x pair.a) (placed 0 tree) Nothing) s Fresh) Fresh kept → sum_by rank_of new ≡ sum_by rank_of kept → AreLevels tree kind pair new
  round_exact above same =
      let e : new ≡ kept = ⊎_elim (λ h. h) (λ w. absurd (omega arith)) falls in
      let least = fixed_least Level rank_of 2 (level_step kind pair.x pair.a) (step_monotone kind pair.x pair.a) rank_bounded rank_injective tree Nothing Fresh kept long (sym is ∙ e) above in
      subst (AreLevels tree kind pair) (sym e) (long, least)
