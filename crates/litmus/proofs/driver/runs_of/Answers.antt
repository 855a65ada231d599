use Rattle.std.proofs.Common.{◌≡◌, ℕ, List, map, sym, ◌∙◌, subst}
use Rattle.std.specs.Prelude.{IfOk}
use Rattle.std.specs.List.{AllZip, Contains}
use Rattle.std.specs.declared.result.Result.{Result}
use Rattle.std.specs.declared.result.Result.TheVariants.{Ok, Err}
use denote.Exit.{unseen}
use denote.Param.Send.{Quiet-if}
use mir.Syntax.{of_param}
use Rattle.rayon.proofs.ToStd.{slice-AllZip}
use Rattle.values_undef.specs.declared.no_memory.NoMemory.{NoMemory}
use Rattle.litmus.specs.Table.{Run, IsSeedRun}
use Rattle.litmus.proofs.Results.{ok_zip, if_matched}
use Rattle.litmus.proofs.driver.runs_of.Goals as goal

pub returns : goal.returns
returns g c =
    let h = c.in_ok-collect.ensures in
    let seeds = c.args.seeds.now in
    let R = λ (seed : ℕ) (r : Run). IsSeedRun c.args.p.now seed c.args.steps r in
    let chain = rw (c.map.ensures.base, c.map.ensures.f, c.with_min_len.ensures.base) at h.1 in
    let zipped = slice-AllZip chain.0 seeds (chain.1 ∙ c.par_iter.ensures) (λ (seed : ℕ) (r : Result Run NoMemory). IfOk r (R seed)) h.0 chain.2 in
    if_matched c.in_ok-collect.field-0 (λ v. (ys : List Run) × (h.0 ≡ map Ok ys) × (v.items ≡ ys)) (λ v. AllZip R seeds v.items) (λ e. Contains h.0 (Err e))
    (λ v k. subst (AllZip R seeds) (sym k.2) (ok_zip NoMemory R seeds k.0 (subst (AllZip (λ (seed : ℕ) (r : Result Run NoMemory). IfOk r (R seed)) seeds) k.1 zipped)))
    h.2

pub collect-requires-clause-ready : goal.collect-requires-clause-ready
collect-requires-clause-ready g c κs within =
    rw c.map.ensures.f (λ k d lt x is. ((c.requires, record { owned = c.type_bounds.send-M.owned; leaving = λ kept. Quiet-if (kept (of_param 0)) unseen unseen (λ value last. tt) (λ value last. tt) }), λ y h. tt))
