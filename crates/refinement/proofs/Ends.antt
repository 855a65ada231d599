-- How journals end: which end in a failure, and that the ending is kept.
use Rattle.std.proofs.Common.{◌≡◌, ℕ, suc, ◌-◌, Bool, true, false, cond, ◌||◌, ◌&&◌, eqb, List, [], ◌∷◌, ◌++◌, length, slice_get, Option, Some, refl, sym, ap, ◌∙◌, arith, inl, inr, ⊎_elim}
use Rattle.std.proofs.lemmas.Bool.{cases_Bool, false≢true, cond-false}
use Rattle.std.proofs.lemmas.List.{length-append}
use Rattle.std.specs.List.{AllZip, list_all, range_with_len}
use Rattle.std.specs.Option.{option_map_or}
use Rattle.values_undef.specs.declared.journal.Entry.{Entry}
use Rattle.values_undef.specs.declared.journal.Ending.TheVariants.{Done, Failed, Spent}
use Rattle.values_undef.specs.Access.{is_failure}
use Rattle.values_undef.specs.Journal.{last_fails, is_finish, finishes, has_finished, all_finished}
use Rattle.values_undef.specs.Matching.{is_traced}
use Rattle.values_undef.proofs.Callers.{finish_same, untraced_finishes_not}
use Rattle.refinement.specs.Refinement.{Traced, trace, IsTracedBelow, EndsInFailure, FailsSooner}
use Rattle.refinement.specs.Laws.{FailingEnds, EndingsAreKept}
use Rattle.refinement.proofs.Traces.{trace_kept, trace_skipped}
use Rattle.refinement.proofs.Refining.{failures_kept}

-- ---- a failure at the end

at_end : (js : List Entry) (e : Entry) → slice_get (js ++ e ∷ []) (length js) ≡ Some e
at_end [] e = refl
at_end (f ∷ js) e = at_end js e

end_fails : (js : List Entry) → EndsInFailure js → last_fails js ≡ true
end_fails js end =
    let place : length (end.before ++ end.last ∷ []) - 1 ≡ length end.before = omega (arith, length-append end.before (end.last ∷ [])) in
    ap last_fails end.split ∙ ap (λ (n : ℕ). option_map_or (λ (entry : Entry). is_failure entry.event) (slice_get (end.before ++ end.last ∷ []) n) false) place
    ∙ ap (λ (o : Option Entry). option_map_or (λ (entry : Entry). is_failure entry.event) o false) (at_end end.before end.last) ∙ end.fails

-- the last entry of a longer journal is that of its rest
rest_fails : (e f : Entry) (js : List Entry) → last_fails (e ∷ f ∷ js) ≡ last_fails (f ∷ js)
rest_fails e f js =
    let place : length (e ∷ f ∷ js) - 1 ≡ suc (length (f ∷ js) - 1) = omega arith in
    ap (λ (n : ℕ). option_map_or (λ (entry : Entry). is_failure entry.event) (slice_get (e ∷ f ∷ js) n) false) place

longer : (e : Entry) (js : List Entry) → EndsInFailure js → EndsInFailure (e ∷ js)
longer e js end = record { before = e ∷ end.before; last = end.last; split = ap (λ (r : List Entry). e ∷ r) end.split; fails = end.fails }

fails_end : (js : List Entry) → last_fails js ≡ true → EndsInFailure js
fails_end [] h = absurd (false≢true h)
fails_end (e ∷ []) h = record { before = []; last = e; split = refl; fails = h }
fails_end (e ∷ f ∷ js) h = longer e (f ∷ js) (fails_end (f ∷ js) (sym (rest_fails e f js) ∙ h))

pub failing_ends : FailingEnds
failing_ends js = (end_fails js, fails_end js)

-- ---- who has finished

-- the thread has finished in the trace
abbrev finished : ℕ → List Traced → Bool
finished i [] = false
finished i (t ∷ ts) = (eqb t.thread i && is_finish t.event) || finished i ts

no_finish : (b c : Bool) → c ≡ false → (b && c) ≡ false
no_finish true c h = h
no_finish false c h = refl

finished_trace : (js : List Entry) (i : ℕ) → has_finished js i ≡ finished i (trace js)
finished_trace [] i = refl
finished_trace (e ∷ js) i =
    ⊎_elim
    (λ (h : is_traced e.event ≡ true). ap (λ (r : Bool). finishes i e || r) (finished_trace js i) ∙ sym (ap (finished i) (trace_kept e js h)))
    (λ (h : is_traced e.event ≡ false).
    ap (λ (r : Bool). r || has_finished js i) (no_finish (eqb e.thread i) (is_finish e.event) (untraced_finishes_not e.event h)) ∙ finished_trace js i ∙ sym (ap (finished i) (trace_skipped e js h)))
    (cases_Bool (is_traced e.event))

below_finishes : (i : ℕ) (a b : Traced) → IsTracedBelow a b → (eqb a.thread i && is_finish a.event) ≡ (eqb b.thread i && is_finish b.event)
below_finishes i a b p =
    ap (λ (n : ℕ). eqb n i && is_finish a.event) p.thread
    ∙ ap (λ (c : Bool). eqb b.thread i && c) (finish_same a.event b.event p.event)

zip_finished : (i : ℕ) (xs ys : List Traced) → AllZip IsTracedBelow xs ys → finished i xs ≡ finished i ys
zip_finished i [] [] z = refl
zip_finished i [] (y ∷ ys) z = absurd z
zip_finished i (x ∷ xs) [] z = absurd z
zip_finished i (x ∷ xs) (y ∷ ys) z = ap (λ (r : Bool). (eqb x.thread i && is_finish x.event) || r) (zip_finished i xs ys z.1) ∙ ap (λ (c : Bool). c || finished i ys) (below_finishes i x y z.0)

list_all_same : (p q : ℕ → Bool) → ((i : ℕ) → p i ≡ q i) → (xs : List ℕ) → list_all p xs ≡ list_all q xs
list_all_same p q h [] = refl
list_all_same p q h (x ∷ xs) = ap (λ (c : Bool). c && list_all p xs) (h x) ∙ ap (λ (c : Bool). q x && c) (list_all_same p q h xs)

all_finished_same : (a b : List Entry) (threads : ℕ) → AllZip IsTracedBelow (trace a) (trace b) → all_finished a threads ≡ all_finished b threads
all_finished_same a b threads z =
    list_all_same (has_finished a) (has_finished b) (λ (i : ℕ). finished_trace a i ∙ zip_finished i (trace a) (trace b) z ∙ sym (finished_trace b i)) (range_with_len 0 threads)

pub endings_kept : EndingsAreKept
endings_kept a b threads stops p =
    ⊎_elim
    (λ (z : AllZip IsTracedBelow (trace a) (trace b)).
    ⊎_elim
    (λ (h : last_fails b ≡ true). inr (fails_end b h))
    (λ (h : last_fails b ≡ false).
    ⊎_elim
    (λ (k : last_fails a ≡ true). inr (failures_kept a b stops p (fails_end a k)))
    (λ (k : last_fails a ≡ false).
    inl (cond-false (last_fails a) Failed (cond (all_finished a threads) Done Spent) k
    ∙ ap (λ (c : Bool). cond c Done Spent) (all_finished_same a b threads z)
    ∙ sym (cond-false (last_fails b) Failed (cond (all_finished b threads) Done Spent) h)))
    (cases_Bool (last_fails a)))
    (cases_Bool (last_fails b)))
    (λ (f : FailsSooner a b). inr f.end)
    p.cases
