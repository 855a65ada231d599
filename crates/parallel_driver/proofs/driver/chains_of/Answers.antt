use Rattle.std.proofs.Common.{◌≡◌, List, map, sym, ◌∙◌, subst}
use Rattle.std.specs.Prelude.{IfOk}
use Rattle.std.specs.List.{AllZip, Contains}
use Rattle.std.specs.declared.result.Result.{Result}
use Rattle.std.specs.declared.result.Result.TheVariants.{Ok, Err}
use Rattle.rayon.proofs.ToStd.{slice-AllZip}
use Rattle.il_syntax.specs.declared.program.Function.{Function}
use Rattle.values_undef.specs.declared.no_memory.NoMemory.{NoMemory}
use Rattle.pass_chain.specs.declared.chains.FunctionChain.{FunctionChain}
use Rattle.pass_chain.specs.Chain.{IsOpt}
use Rattle.parallel_driver.proofs.OkLaws.{ok_zip, if_matched}
use Rattle.parallel_driver.proofs.driver.chains_of.Goals as goal

pub returns : goal.returns
returns g c =
    let h = c.in_ok-collect.ensures in
    let fs = c.args.functions.now in
    let R = IsOpt c.args.na c.args.names.now in
    let chain = rw (c.map.ensures.base, c.map.ensures.f, c.with_min_len.ensures.base) at h.1 in
    let zipped = slice-AllZip chain.0 fs (chain.1 ∙ c.par_iter.ensures) (λ (f : Function) (r : Result FunctionChain NoMemory). IfOk r (R f)) h.0 chain.2 in
    if_matched c.in_ok-collect.field-0 (λ v. (ys : List FunctionChain) × (h.0 ≡ map Ok ys) × (v.items ≡ ys)) (λ v. AllZip R fs v.items) (λ e. Contains h.0 (Err e))
    (λ v k. subst (AllZip R fs) (sym k.2) (ok_zip NoMemory R fs k.0 (subst (AllZip (λ (f : Function) (r : Result FunctionChain NoMemory). IfOk r (R f)) fs) k.1 zipped)))
    h.2
