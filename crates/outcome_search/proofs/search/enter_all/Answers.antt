use Rattle.std.proofs.Common.{◌≡◌, ◌⊎◌, inl, inr, ⊎_elim, ◌+◌, length, [], ◌∷◌, ◌++◌, List, sym, subst, ◌∙◌, arith}
use Rattle.std.specs.List.{Contains, AllByRecursion}
use Rattle.values_undef.proofs.Callers.{all_pop}
use Rattle.outcome_moves.specs.declared.moves.Move.{Move}
use Rattle.outcome_search.specs.Search.{IsUsable, IsEntered}
use Rattle.outcome_search.proofs.Lists.{extends_more, last_cases, none_in}
use Rattle.outcome_search.proofs.Exploring.{entered_more, usable_more}
use Rattle.outcome_search.proofs.search.enter_all.Goals as goal

pub loop-m-preserved : goal.loop-m-preserved
loop-m-preserved c =
    let p = c.args.p.now in
    let steps = c.args._steps in
    let h = c.loop-m.invariant in
    let a = c.in_ok-enter.ensures in
    let m = c.in-Some.m in
    let rest = c.pop.new.self.items in
    let kept = c.loop-m.kept.runs.items in
    let more = c.enter.new.kept.runs.items in
    let failed = c.loop-m.failed.items in
    let other = c.enter.new.failed.items in
    let e : c.loop-m.left.items ≡ rest ++ m ∷ [] = c.in-Some.ensures.items in
    record {
      kept = a.kept;
      complete = a.complete;
      grows = extends_more c.args.kept.now.runs.items kept more h.grows a.grows;
      grows_too = extends_more c.args.failed.now.items failed other h.grows_too a.grows_too;
      usable = usable_more p steps kept more a.grows rest
          (all_pop (IsUsable p steps (length kept + 1)) rest m (subst (AllByRecursion (IsUsable p steps (length kept + 1))) e h.usable)).0;
      entered = λ n q.
          ⊎_elim
          (λ (r : IsEntered p steps kept failed n). inl (entered_more p steps kept more failed other a.grows a.grows_too n r))
          (λ (r : Contains c.loop-m.left.items n).
          ⊎_elim (λ (s : Contains rest n). inr s) (λ (s : n ≡ m). inl (subst (IsEntered p steps more other) (sym s) a.entered))
          (last_cases rest m n (subst (λ (l : List Move). Contains l n) e r)))
          (h.entered n q);
    }

pub returns-clause-entered : goal.returns-clause-entered
returns-clause-entered c = λ m q.
    ⊎_elim
    (λ (r : IsEntered c.args.p.now c.args._steps c.loop-m.kept.runs.items c.loop-m.failed.items m). r)
    (λ (r : Contains c.loop-m.left.items m). absurd (omega (arith, r.1, c.in_default.ensures.cases.0)))
    (c.loop-m.invariant.entered m q)
