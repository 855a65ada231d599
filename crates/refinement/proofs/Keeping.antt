-- The books are kept.
use Rattle.std.proofs.Common.{◌≡◌, ℕ, ◌+◌, ◌<◌, true, false, List, [], ◌∷◌, ◌++◌, length, get_or, set, refl, sym, ap, ◌∙◌, subst, arith, inl, inr, ⊎_elim}
use Rattle.std.proofs.lemmas.Bool.{cases_Bool, false≢true}
use Rattle.std.proofs.lemmas.List.{get_or-set_same, get_or-set_other, append-nil}
use Rattle.std.specs.List.{AllZip}
use Rattle.values_undef.specs.declared.access.Event.{Event}
use Rattle.values_undef.specs.Journal.{used_steps}
use Rattle.values_undef.specs.Matching.{IsEventBelow, is_traced}
use Rattle.values_undef.proofs.Callers.{traced_same, weight_same, failure_weight, untraced_weight}
use Rattle.values_undef.specs.declared.journal.Entry.{Entry}
use Rattle.refinement.specs.Refinement.{Traced, trace, IsTracedBelow, BeginsBelow}
use Rattle.values_undef.specs.Access.{weight}
use Rattle.refinement.specs.Books.{at_thread, entry_of, BooksBegin, BooksOpen, SilentStepsAreCarried, QuietStepsAreRecorded, EventsAreRecorded, NewsAreLeftOut, BooksRefine, FailuresRefine}
use Rattle.refinement.proofs.Traces.{traced, trace_kept, trace_skipped, trace-append, zip_append, zip_begins, begins_more, used_steps-append, IsAt, IsElsewhere, at_or_elsewhere}

pub books_begin : BooksBegin
books_begin news carry zero = record {
  traces = tt;
  within = λ j. omega (arith, zero j);
  exact = λ e j. refl;
  idle = λ e j. zero j;
}

pub books_open : BooksOpen
books_open news i done js carry b = record {
  traces = b.traces;
  within = λ j. omega (arith, b.within j);
  exact = λ e j. ⊎_elim
      (λ (h : IsAt i j). omega (arith, b.exact e j, b.idle e j, h.number 0))
      (λ (h : IsElsewhere i j). omega (arith, b.exact e j, b.idle e j, h.number 0)) (at_or_elsewhere i j);
  idle = λ e j h. b.idle e j;
}

-- ---- what is carried

carry_same : (carry : List ℕ) (i j n : ℕ) → i < length carry → j ≡ i → get_or (set carry i n) j 0 ≡ n
carry_same carry i j n l e = ap (λ (k : ℕ). get_or (set carry i n) k 0) e ∙ get_or-set_same carry i n 0 l

carry_other : (carry : List ℕ) (i j n : ℕ) → (j ≡ i → ⊥) → get_or (set carry i n) j 0 ≡ get_or carry j 0
carry_other carry i j n e = get_or-set_other carry i j n 0 e

pub silent_carried : SilentStepsAreCarried
silent_carried news i k done js carry l b = record {
  traces = b.traces;
  within = λ j. ⊎_elim
      (λ (h : IsAt i j). omega (arith, b.within j, h.number k, h.number (k + 1), carry_same carry i j (get_or carry i 0 + 1) l h.same, ap (λ (q : ℕ). get_or carry q 0) h.same))
      (λ (h : IsElsewhere i j). omega (arith, b.within j, h.number k, h.number (k + 1), carry_other carry i j (get_or carry i 0 + 1) h.other)) (at_or_elsewhere i j);
  exact = λ e j. ⊎_elim
      (λ (h : IsAt i j). omega (arith, b.exact e j, h.number k, h.number (k + 1), carry_same carry i j (get_or carry i 0 + 1) l h.same, ap (λ (q : ℕ). get_or carry q 0) h.same))
      (λ (h : IsElsewhere i j). omega (arith, b.exact e j, h.number k, h.number (k + 1), carry_other carry i j (get_or carry i 0 + 1) h.other)) (at_or_elsewhere i j);
  idle = λ e j h. carry_other carry i j (get_or carry i 0 + 1) h ∙ b.idle e j h;
}

-- ---- what is recorded

trace_untraced : (js : List Entry) (e : Entry) → is_traced e.event ≡ false → trace (js ++ e ∷ []) ≡ trace js
trace_untraced js e h = trace-append js (e ∷ []) ∙ ap (λ r. trace js ++ r) (trace_skipped e [] h) ∙ append-nil (trace js)

trace_traced : (js : List Entry) (e : Entry) → is_traced e.event ≡ true → trace (js ++ e ∷ []) ≡ trace js ++ traced e ∷ []
trace_traced js e h = trace-append js (e ∷ []) ∙ ap (λ r. trace js ++ r) (trace_kept e [] h)

-- the steps used_steps with one more entry
used_steps_more : (js : List Entry) (i n : ℕ) (e : Event) (j : ℕ) → used_steps (js ++ entry_of i n e ∷ []) j ≡ used_steps js j + at_thread i (n + weight e) j
used_steps_more js i n e j = omega (arith, used_steps-append js (entry_of i n e ∷ []) j)

pub quiet_recorded : QuietStepsAreRecorded
quiet_recorded news i k done js carry f l untraced b = record {
  traces = subst (AllZip IsTracedBelow (trace done)) (sym (trace_untraced js (entry_of i (get_or carry i 0) f) untraced)) b.traces;
  within = λ j. ⊎_elim
      (λ (h : IsAt i j). omega (arith, b.within j, h.number k, h.number (k + 1), h.number (get_or carry i 0 + weight f), used_steps_more js i (get_or carry i 0) f j, untraced_weight f untraced, carry_same carry i j 0 l h.same, ap (λ (q : ℕ). get_or carry q 0) h.same))
      (λ (h : IsElsewhere i j). omega (arith, b.within j, h.number k, h.number (k + 1), h.number (get_or carry i 0 + weight f), used_steps_more js i (get_or carry i 0) f j, carry_other carry i j 0 h.other)) (at_or_elsewhere i j);
  exact = λ e j. ⊎_elim
      (λ (h : IsAt i j). omega (arith, b.exact e j, h.number k, h.number (k + 1), h.number (get_or carry i 0 + weight f), used_steps_more js i (get_or carry i 0) f j, untraced_weight f untraced, carry_same carry i j 0 l h.same, ap (λ (q : ℕ). get_or carry q 0) h.same))
      (λ (h : IsElsewhere i j). omega (arith, b.exact e j, h.number k, h.number (k + 1), h.number (get_or carry i 0 + weight f), used_steps_more js i (get_or carry i 0) f j, carry_other carry i j 0 h.other)) (at_or_elsewhere i j);
  idle = λ e j h. carry_other carry i j 0 h ∙ b.idle e j h;
}

-- one entry more on both sides
traces_more : (done js : List Entry) (i n m : ℕ) (e f : Event) → IsEventBelow e f → AllZip IsTracedBelow (trace done) (trace js) → AllZip IsTracedBelow (trace (done ++ entry_of i n e ∷ [])) (trace (js ++ entry_of i m f ∷ []))
traces_more done js i n m e f below z =
    ⊎_elim
    (λ (h : is_traced e ≡ true).
    subst (λ (ts : List Traced). AllZip IsTracedBelow ts (trace (js ++ entry_of i m f ∷ []))) (sym (trace_traced done (entry_of i n e) h))
    (subst (AllZip IsTracedBelow (trace done ++ record { thread = i; event = e } ∷ [])) (sym (trace_traced js (entry_of i m f) (sym (traced_same e f below) ∙ h)))
    (zip_append (trace done) (trace js) _ _ z (record { thread = refl; event = below }, tt))))
    (λ (h : is_traced e ≡ false).
    subst (λ (ts : List Traced). AllZip IsTracedBelow ts (trace (js ++ entry_of i m f ∷ []))) (sym (trace_untraced done (entry_of i n e) h))
    (subst (AllZip IsTracedBelow (trace done)) (sym (trace_untraced js (entry_of i m f) (sym (traced_same e f below) ∙ h))) z))
    (cases_Bool (is_traced e))

pub events_recorded : EventsAreRecorded
events_recorded news i k done js carry e f l below b = record {
  traces = traces_more done js i k (get_or carry i 0) e f below b.traces;
  within = λ j. ⊎_elim
      (λ (h : IsAt i j). omega (arith, b.within j, h.number k, h.number (k + weight e), h.number (get_or carry i 0 + weight f), used_steps_more done i k e j, used_steps_more js i (get_or carry i 0) f j, weight_same e f below, carry_same carry i j 0 l h.same, ap (λ (q : ℕ). get_or carry q 0) h.same))
      (λ (h : IsElsewhere i j). omega (arith, b.within j, h.number k, h.number (k + weight e), h.number (get_or carry i 0 + weight f), used_steps_more done i k e j, used_steps_more js i (get_or carry i 0) f j, carry_other carry i j 0 h.other)) (at_or_elsewhere i j);
  exact = λ o j. ⊎_elim
      (λ (h : IsAt i j). omega (arith, b.exact o j, h.number k, h.number (k + weight e), h.number (get_or carry i 0 + weight f), used_steps_more done i k e j, used_steps_more js i (get_or carry i 0) f j, weight_same e f below, ap (λ (q : ℕ). get_or carry q 0) h.same))
      (λ (h : IsElsewhere i j). omega (arith, b.exact o j, b.idle o j h.other, h.number k, h.number (k + weight e), h.number (get_or carry i 0 + weight f), used_steps_more done i k e j, used_steps_more js i (get_or carry i 0) f j)) (at_or_elsewhere i j);
  idle = λ o j. ⊎_elim
      (λ (h : IsAt i j). carry_same carry i j 0 l h.same)
      (λ (h : IsElsewhere i j). carry_other carry i j 0 h.other ∙ b.idle o j h.other) (at_or_elsewhere i j);
}

pub news_left_out : NewsAreLeftOut
news_left_out i k done js carry e untraced b = record {
  traces = subst (λ (ts : List Traced). AllZip IsTracedBelow ts (trace js)) (sym (trace_untraced done (entry_of i k e) untraced)) b.traces;
  within = λ j. ⊎_elim
      (λ (h : IsAt i j). omega (arith, b.within j, h.number k, h.number (k + weight e), used_steps_more done i k e j))
      (λ (h : IsElsewhere i j). omega (arith, b.within j, h.number k, h.number (k + weight e), used_steps_more done i k e j)) (at_or_elsewhere i j);
  exact = λ o. absurd (false≢true (sym o));
  idle = λ o. absurd (false≢true (sym o));
}

-- ---- the end

pub books_refine : BooksRefine
books_refine news done js carry b = (
  record { cases = inl b.traces; steps = λ j. omega (arith, b.within j) },
  b.exact,
)

pub failures_refine : FailuresRefine
failures_refine news i k n done js rest carry e f fails room b = record {
  cases = inr (record {
    end = record { before = js; last = entry_of i (get_or carry i 0) f; split = refl; fails = fails };
    matches = subst (λ (ts : List Traced). BeginsBelow ts (trace js)) (sym (trace-append done (entry_of i n e ∷ rest)))
        (begins_more (trace done) (trace js) (trace (entry_of i n e ∷ rest)) (zip_begins (trace done) (trace js) b.traces));
  });
  steps = λ j. ⊎_elim
      (λ (h : IsAt i j). omega (arith, b.within j, room, h.number k, h.number (n + weight e), h.number (get_or carry i 0 + weight f), failure_weight f fails, used_steps_more js i (get_or carry i 0) f j, used_steps-append done (entry_of i n e ∷ rest) j, ap (λ (q : ℕ). get_or carry q 0) h.same))
      (λ (h : IsElsewhere i j). omega (arith, b.within j, h.number k, h.number (n + weight e), h.number (get_or carry i 0 + weight f), used_steps_more js i (get_or carry i 0) f j, used_steps-append done (entry_of i n e ∷ rest) j)) (at_or_elsewhere i j);
}
