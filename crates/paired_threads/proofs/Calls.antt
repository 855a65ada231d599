-- A call of a function begins beside the same call of the source, and ends with a result below.
use Rattle.std.proofs.Common.{◌≡◌, ℕ, pos, ◌+◌, List, [], ◌∷◌, length, refl, sym, ap, ◌∙◌, subst, set}
use Rattle.std.proofs.lemmas.List.{length-set, length-replicate}
use Rattle.values_undef.specs.declared.value.Val.{Val}
use Rattle.values_undef.specs.declared.value.Val.TheVariants.{Def}
use Rattle.values_undef.proofs.Callers.{below_refl}
use Rattle.il_paths.specs.Tree.{tree_of}
use Rattle.il_paths.specs.Code.{Code, placed, AllCode}
use Rattle.il_paths.specs.Paths.{here}
use Rattle.il_paths.proofs.Callers.{all_placed, all_heads_more}
use Rattle.thread_core.specs.Programs.{code_of, IsProperHead}
use Rattle.thread_core.specs.Frames.{blank, loaded, evaluated}
use Rattle.thread_core.proofs.Callers.{proper_more, length-loaded, code_is, result_is}
use Rattle.validator.specs.Beside.{Beside}
use Rattle.paired_threads.specs.Values.{register, RegistersBelow, ValuesBelow}
use Rattle.paired_threads.specs.Functions.{old_registers}
use Rattle.paired_threads.specs.Calls.{CallsBeginPaired, ResultsAreBelow}
use Rattle.paired_threads.proofs.Below.{set_below, atom_below, below_at}

loaded_below : (old from : ℕ) (ts ss rt rs : List Val) → ValuesBelow ts ss → length rt ≡ length rs → RegistersBelow old rt rs → RegistersBelow old (loaded from ts rt) (loaded from ss rs)
loaded_below old from [] [] rt rs below same h = h
loaded_below old from [] (c ∷ ss) rt rs below same h = absurd below
loaded_below old from (b ∷ ts) [] rt rs below same h = absurd below
loaded_below old from (b ∷ ts) (c ∷ ss) rt rs below same h =
    loaded_below old (from + 1) ts ss (set rt from b) (set rs from c) below.1 (length-set rt from b ∙ same ∙ sym (length-set rs from c)) (set_below old rt rs from b c same below.0 h)

pub calls_begin_paired : CallsBeginPaired
calls_begin_paired p q k fn ts ss below =
    let old : ℕ = old_registers fn in
    let es = code_is p k fn.source fn.source_there in
    let et = code_is q k fn.target fn.target_there in
    record {
      target_function = refl;
      source_function = refl;
      target_whole = length-loaded 0 ts blank ∙ length-replicate 64 (Def (pos 0));
      source_whole = length-loaded 0 ss blank ∙ length-replicate 64 (Def (pos 0));
      registers = loaded_below old 0 ts ss blank blank below refl (λ r l. below_refl (register blank r));
      merged = placed 0 fn.accepted.merged;
      run = here;
      beside = subst (λ (c : Code). Beside old fn.accepted.role c (code_of q k) (placed 0 fn.accepted.merged)) (sym es)
          (subst (λ (c : Code). Beside old fn.accepted.role (placed 0 (tree_of fn.source.body)) c (placed 0 fn.accepted.merged)) (sym et) fn.accepted.beside);
      source_proper = subst (AllCode (IsProperHead p old)) (sym es) (all_placed (IsProperHead p old) 0 (tree_of fn.source.body) fn.source_proper.heads);
      target_proper = subst (AllCode (IsProperHead q 64)) (sym et)
          (all_placed (IsProperHead q 64) 0 (tree_of fn.target.body)
          (all_heads_more (IsProperHead q (length fn.target.registers)) (IsProperHead q 64) (λ x h. proper_more q (length fn.target.registers) x fn.target_proper.few h) (tree_of fn.target.body) fn.target_proper.heads));
    }

pub results_are_below : ResultsAreBelow
results_are_below p q k fn path t s h =
    below_at _ _ _ _ (result_is q k fn.target t h.target_function fn.target_there ∙ ap (evaluated t.registers) fn.accepted.result) (result_is p k fn.source s h.source_function fn.source_there)
    (atom_below (old_registers fn) t.registers s.registers h.registers fn.source.result fn.source_proper.result)
