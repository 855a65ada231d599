-- To refine is reflexive and, where nothing stands after a failure, transitive.
use Rattle.std.proofs.Common.{◌≡◌, ℕ, true, false, List, [], ◌∷◌, ◌++◌, length, sym, ap, ◌∙◌, subst, arith, inl, inr, ⊎_elim}
use Rattle.std.proofs.lemmas.Bool.{cases_Bool}
use Rattle.std.proofs.lemmas.List.{length-append}
use Rattle.std.specs.List.{AllZip}
use Rattle.values_undef.specs.Access.{is_failure}
use Rattle.values_undef.specs.Matching.{is_traced}
use Rattle.values_undef.proofs.Callers.{failure_same, failure_traced}
use Rattle.values_undef.specs.declared.journal.Entry.{Entry}
use Rattle.refinement.specs.Refinement.{Traced, trace, IsTracedBelow, BeginsBelow, EndsInFailure, StopsAtFailure, FailsSooner}
use Rattle.refinement.specs.Laws.{RefinesIsReflexive, RefinesIsTransitive, FailuresAreKept}
use Rattle.refinement.proofs.Traces.{traced, trace_kept, trace_skipped, trace-append, zip_refl, zip_trans, zip_begins, begins_trans}

pub refines_refl : RefinesIsReflexive
refines_refl js = record { cases = inl (zip_refl (trace js)); steps = λ i. omega arith }

-- a journal whose trace matches one that ends in a failure ends in one, and matches before it
pub record EndsBelow (ts : List Traced) (js : List Entry) : Type 0 where
  pub end : EndsInFailure js
  pub matches : AllZip IsTracedBelow ts (trace end.before)

longer : (e : Entry) (ts ts' : List Traced) (js : List Entry) (end : EndsInFailure js) → AllZip IsTracedBelow ts' (trace (e ∷ end.before)) → EndsBelow ts' (e ∷ js)
longer e ts ts' js end m = record {
  end = record { before = e ∷ end.before; last = end.last; split = ap (λ r. e ∷ r) end.split; fails = end.fails };
  matches = m;
}

pub last_failure : (ts : List Traced) (x : Traced) (js : List Entry) → is_failure x.event ≡ true → StopsAtFailure js → AllZip IsTracedBelow (ts ++ x ∷ []) (trace js) → EndsBelow ts js
last_failure [] x [] f s z = absurd z
last_failure (t ∷ ts) x [] f s z = absurd z
last_failure ts x (e ∷ js) f s z =
    ⊎_elim
    (λ (b : is_traced e.event ≡ true). kept b ts (subst (AllZip IsTracedBelow (ts ++ x ∷ [])) (trace_kept e js b) z) (λ ts' h. last_failure ts' x js f s.1 h))
    (λ (b : is_traced e.event ≡ false).
    let r = last_failure ts x js f s.1 (subst (AllZip IsTracedBelow (ts ++ x ∷ [])) (trace_skipped e js b) z) in
    longer e ts ts js r.end (subst (AllZip IsTracedBelow ts) (sym (trace_skipped e r.end.before b)) r.matches))
    (cases_Bool (is_traced e.event))
  where
    kept : is_traced e.event ≡ true → (ts : List Traced) → AllZip IsTracedBelow (ts ++ x ∷ []) (traced e ∷ trace js)
        → ((ts' : List Traced) → AllZip IsTracedBelow (ts' ++ x ∷ []) (trace js) → EndsBelow ts' js) → EndsBelow ts (e ∷ js)
    kept b [] z ih =
        let fails : is_failure e.event ≡ true = sym (failure_same x.event e.event z.0.event) ∙ f in
        record {
          end = record { before = []; last = e; split = ap (λ r. e ∷ r) (s.0 fails); fails = fails };
          matches = tt;
        }
    kept b (t ∷ ts) z ih =
        let r = ih ts z.1 in
        longer e ts (t ∷ ts) js r.end (subst (AllZip IsTracedBelow (t ∷ ts)) (sym (trace_kept e r.end.before b)) (z.0, r.matches))

not_empty : (js : List Entry) (e : Entry) → js ++ e ∷ [] ≡ [] → ⊥
not_empty js e h = omega (arith, length-append js (e ∷ []), ap {B = ℕ} length h)

-- what matches a beginning of a trace that ends in a failure, before a failure of its own, matches before that
pub short_of_failure : (ts : List Traced) (x : Traced) (js : List Entry) (last : Entry) → is_failure x.event ≡ true → StopsAtFailure (js ++ last ∷ []) → BeginsBelow (ts ++ x ∷ []) (trace js) → BeginsBelow ts (trace js)
short_of_failure ts x [] last f s z = tt
short_of_failure ts x (e ∷ js) last f s z =
    ⊎_elim
    (λ (b : is_traced e.event ≡ true).
    subst (BeginsBelow ts) (sym (trace_kept e js b)) (kept ts (subst (BeginsBelow (ts ++ x ∷ [])) (trace_kept e js b) z) (λ ts' h. short_of_failure ts' x js last f s.1 h)))
    (λ (b : is_traced e.event ≡ false).
    subst (BeginsBelow ts) (sym (trace_skipped e js b)) (short_of_failure ts x js last f s.1 (subst (BeginsBelow (ts ++ x ∷ [])) (trace_skipped e js b) z)))
    (cases_Bool (is_traced e.event))
  where
    kept : (ts : List Traced) → BeginsBelow (ts ++ x ∷ []) (traced e ∷ trace js) → ((ts' : List Traced) → BeginsBelow (ts' ++ x ∷ []) (trace js) → BeginsBelow ts' (trace js)) → BeginsBelow ts (traced e ∷ trace js)
    kept [] z ih = absurd (not_empty js last (s.0 (sym (failure_same x.event e.event z.0.event) ∙ f)))
    kept (t ∷ ts) z ih = (z.0, ih ts z.1)

-- the trace of a journal that ends in a failure
trace_end : (js : List Entry) (end : EndsInFailure js) → trace js ≡ trace end.before ++ traced end.last ∷ []
trace_end js end =
    ap trace end.split ∙ trace-append end.before (end.last ∷ []) ∙ ap (λ r. trace end.before ++ r) (trace_kept end.last [] (failure_traced end.last.event end.fails))

-- the source's case 2, its end known
sooner : (a c : List Entry) (end : EndsInFailure c) → BeginsBelow (trace a) (trace end.before) → FailsSooner a c
sooner a c end m = record { end = end; matches = m }

pub refines_trans : RefinesIsTransitive
refines_trans a b c stops p q = record {
  cases =
      ⊎_elim
      (λ (pz : AllZip IsTracedBelow (trace a) (trace b)).
      ⊎_elim
      (λ (qz : AllZip IsTracedBelow (trace b) (trace c)). inl (zip_trans (trace a) (trace b) (trace c) pz qz))
      (λ (qf : FailsSooner b c). inr (sooner a c qf.end (begins_trans (trace a) (trace b) (trace qf.end.before) (zip_begins (trace a) (trace b) pz) qf.matches)))
      q.cases)
      (λ (pf : FailsSooner a b).
      ⊎_elim
      (λ (qz : AllZip IsTracedBelow (trace b) (trace c)).
      let r = last_failure (trace pf.end.before) (traced pf.end.last) c pf.end.fails stops (subst (λ (ts : List Traced). AllZip IsTracedBelow ts (trace c)) (trace_end b pf.end) qz) in
      inr (sooner a c r.end (begins_trans (trace a) (trace pf.end.before) (trace r.end.before) pf.matches (zip_begins (trace pf.end.before) (trace r.end.before) r.matches))))
      (λ (qf : FailsSooner b c).
      inr (sooner a c qf.end (begins_trans (trace a) (trace pf.end.before) (trace qf.end.before) pf.matches
      (short_of_failure (trace pf.end.before) (traced pf.end.last) qf.end.before qf.end.last pf.end.fails (subst StopsAtFailure qf.end.split stops)
      (subst (λ (ts : List Traced). BeginsBelow ts (trace qf.end.before)) (trace_end b pf.end) qf.matches)))))
      q.cases)
      p.cases;
  steps = λ i. omega (arith, p.steps i, q.steps i);
}

pub failures_kept : FailuresAreKept
failures_kept a b stops p end =
    ⊎_elim
    (λ (z : AllZip IsTracedBelow (trace a) (trace b)).
    (last_failure (trace end.before) (traced end.last) b end.fails stops (subst (λ (ts : List Traced). AllZip IsTracedBelow ts (trace b)) (trace_end a end) z)).end)
    (λ (f : FailsSooner a b). f.end)
    p.cases
