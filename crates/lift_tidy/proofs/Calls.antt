-- A call begins beside the same call of the source, and its result is the same.
use Rattle.std.proofs.Common.{◌≡◌, ◌<◌, ◌≤◌, ℕ, pos, ◌+◌, true, List, [], ◌∷◌, length, get_or, set, refl, sym, ap, ◌∙◌, subst, arith}
use Rattle.std.proofs.lemmas.Bool.{and_parts, false≢true, leb-true, ltb-true}
use Rattle.std.proofs.lemmas.Bool.Decides.{Decides-int_eq}
use Rattle.std.proofs.lemmas.List.{length-replicate, get_or-set_other, get_or-replicate}
use Rattle.values_undef.specs.declared.value.Val.{Val}
use Rattle.values_undef.specs.declared.value.Val.TheVariants.{Def, Undef}
use Rattle.il_syntax.specs.declared.statement.Atom.{Atom}
use Rattle.il_syntax.specs.declared.statement.Atom.TheVariants.{Const, Reg}
use Rattle.il_syntax.specs.declared.program.Program.{Program}
use Rattle.il_paths.specs.Tree.{tree_of}
use Rattle.il_paths.specs.Code.{Code, End, placed}
use Rattle.il_paths.specs.Paths.{IsPath, ends, RunsTo, here}
use Rattle.thread_core.specs.Programs.{code_of}
use Rattle.thread_core.specs.Frames.{Frame, blank, loaded, evaluated, called, function_result}
use Rattle.tidy.specs.Known.{known_at_entry, IsKnownAtEnd}
use Rattle.tidy.specs.Live.{is_result}
use Rattle.tidy.specs.SameSites.{SameSites}
use Rattle.il_paths.proofs.Callers.{atoms_equal-true}
use Rattle.tidy.proofs.Callers.{placed_beside, known_at_end}
use Rattle.lift_tidy.specs.Functions.{TidiedFunction}
use Rattle.lift_tidy.specs.Frames.{FramesTidied}
use Rattle.lift_tidy.proofs.Atoms.{stands}
use Rattle.thread_core.proofs.Callers.{length-loaded, code_is, result_is}

-- registers behind the arguments stay
loaded_behind : (from : ℕ) (vs rs : List Val) (r : ℕ) → from + length vs ≤ r → get_or (loaded from vs rs) r Undef ≡ get_or rs r Undef
loaded_behind from [] rs r l = refl
loaded_behind from (v ∷ vs) rs r l = loaded_behind (from + 1) vs (set rs from v) r (omega (arith, l)) ∙ get_or-set_other rs from r v Undef (λ (e : r ≡ from). omega (arith, l, e))

module _ {source target : Program} (k : ℕ) (f : TidiedFunction source target k) (vs : List Val) (fits : length vs ≡ f.old.params) where
  zero_there : (r : ℕ) (a : Atom) → known_at_entry f.old r a ≡ true → evaluated (loaded 0 vs blank) (Reg r) ≡ evaluated (loaded 0 vs blank) a
  zero_there r (Const n) e =
      let parts = and_parts _ _ e in
      let inner = and_parts _ _ parts.1 in
      let behind : f.old.params ≤ r = leb-true f.old.params r parts.0 in
      let within : r < length f.old.registers = ltb-true r (length f.old.registers) inner.0 in
      let zero : n ≡ pos 0 = (Decides-int_eq n (pos 0)).0 inner.1 in
      loaded_behind 0 vs blank r (omega (arith, behind, fits)) ∙ get_or-replicate 64 r (Def (pos 0)) Undef (omega (arith, within, f.source_proper.few)) ∙ ap Def (sym zero)
  zero_there r (Reg j) e = absurd (false≢true e)

  pub begins : FramesTidied source target (called target k vs) (called source k vs)
  begins =
      let es = code_is source k f.old f.source_has in
      let et = code_is target k f.new f.target_has in
      record {
        number = k;
        function = f;
        target_function = refl;
        source_function = refl;
        target_whole = length-loaded 0 vs blank ∙ length-replicate 64 (Def (pos 0));
        source_whole = length-loaded 0 vs blank ∙ length-replicate 64 (Def (pos 0));
        source_path = [];
        target_path = [];
        source_run = subst (RunsTo (placed 0 (tree_of f.old.body)) []) (sym es) here;
        target_run = subst (RunsTo (placed 0 (tree_of f.new.body)) []) (sym et) here;
        beside = subst (λ (c : Code). SameSites c (code_of target k)) (sym es)
            (subst (λ (c : Code). SameSites (placed 0 (tree_of f.old.body)) c) (sym et) (placed_beside 0 (tree_of f.old.body) (tree_of f.new.body) f.accepted.blocks));
        known = zero_there;
        live = λ r q is w. refl;
      }

-- at the end both have one result
pub one_result : {source target : Program} {t s : Frame} (h : FramesTidied source target t s) → s.continuation ≡ End → t.continuation ≡ End → function_result target t ≡ function_result source s
one_result {source} {target} {t} {s} h es et =
    result_is target h.number h.function.new t h.target_function h.function.target_has
    ∙ stands t.registers s.registers (IsKnownAtEnd h.function.old)
    (λ r a k. h.known r a (known_at_end h.function.old h.source_path r a (subst (RunsTo (placed 0 (tree_of h.function.old.body)) h.source_path) es h.source_run) k))
    h.function.old.result h.function.new.result h.function.accepted.result
    (λ k e. h.live k [] (subst (λ (c : Code). IsPath c []) (sym et) ends) (is_result (atoms_equal-true h.function.new.result (Reg k) e)))
    ∙ sym (result_is source h.number h.function.old s h.source_function h.function.source_has)
