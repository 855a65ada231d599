-- What is printed.
use Rattle.std.proofs.Common.{◌≡◌, true, false, List, [], ◌∷◌, ◌++◌, refl, sym, ap, ◌∙◌, inl, inr, ⊎_elim, append_assoc}
use Rattle.std.proofs.lemmas.Bool.{cases_Bool}
use Rattle.std.proofs.lemmas.List.{append-nil}
use Rattle.std.specs.List.{AllZip}
use Rattle.values_undef.specs.Journal.{Output, printed, outputs_of}
use Rattle.values_undef.specs.Matching.{is_traced}
use Rattle.values_undef.proofs.Callers.{printed_same, untraced_prints_not, failure_prints_not}
use Rattle.values_undef.specs.declared.journal.Entry.{Entry}
use Rattle.refinement.specs.Refinement.{Traced, trace, IsTracedBelow, BeginsBelow, EndsInFailure, FailsSooner}
use Rattle.refinement.specs.Laws.{OutputsAreKept}
use Rattle.refinement.proofs.Traces.{trace_kept, trace_skipped}

-- what a trace prints
abbrev prints : List Traced → List Output
prints [] = []
prints (t ∷ ts) = printed t.thread t.event ++ prints ts

outputs_trace : (js : List Entry) → outputs_of js ≡ prints (trace js)
outputs_trace [] = refl
outputs_trace (e ∷ js) =
    ⊎_elim
    (λ (h : is_traced e.event ≡ true). ap (λ r. printed e.thread e.event ++ r) (outputs_trace js) ∙ sym (ap prints (trace_kept e js h)))
    (λ (h : is_traced e.event ≡ false).
    ap (λ r. r ++ outputs_of js) (untraced_prints_not e.thread e.event h) ∙ outputs_trace js ∙ sym (ap prints (trace_skipped e js h)))
    (cases_Bool (is_traced e.event))

below_prints : (a b : Traced) → IsTracedBelow a b → printed a.thread a.event ≡ printed b.thread b.event
below_prints a b p = printed_same a.thread a.event b.event p.event ∙ ap (λ i. printed i b.event) p.thread

zip_prints : (xs ys : List Traced) → AllZip IsTracedBelow xs ys → prints xs ≡ prints ys
zip_prints [] [] z = refl
zip_prints [] (y ∷ ys) z = absurd z
zip_prints (x ∷ xs) [] z = absurd z
zip_prints (x ∷ xs) (y ∷ ys) z = ap (λ r. printed x.thread x.event ++ r) (zip_prints xs ys z.1) ∙ ap (λ r. r ++ prints ys) (below_prints x y z.0)

begins_print : (xs ys : List Traced) → BeginsBelow xs ys → (more : List Output) × (prints xs ≡ prints ys ++ more)
begins_print xs [] z = (prints xs, refl)
begins_print [] (y ∷ ys) z = absurd z
begins_print (x ∷ xs) (y ∷ ys) z =
    let r = begins_print xs ys z.1 in
    (r.0, ap (λ q. printed x.thread x.event ++ q) r.1 ∙ ap (λ q. q ++ (prints ys ++ r.0)) (below_prints x y z.0) ∙ sym (append_assoc (printed y.thread y.event) (prints ys) r.0))

outputs_of-append : (js ks : List Entry) → outputs_of (js ++ ks) ≡ outputs_of js ++ outputs_of ks
outputs_of-append [] ks = refl
outputs_of-append (e ∷ js) ks = ap (λ r. printed e.thread e.event ++ r) (outputs_of-append js ks) ∙ sym (append_assoc (printed e.thread e.event) (outputs_of js) (outputs_of ks))

-- a failure adds no output
outputs_end : (js : List Entry) (end : EndsInFailure js) → outputs_of js ≡ outputs_of end.before
outputs_end js end =
    ap outputs_of end.split ∙ outputs_of-append end.before (end.last ∷ [])
    ∙ ap (λ r. outputs_of end.before ++ (r ++ [])) (failure_prints_not end.last.thread end.last.event end.fails) ∙ append-nil (outputs_of end.before)

pub outputs_kept : OutputsAreKept
outputs_kept a b p =
    ⊎_elim
    (λ (z : AllZip IsTracedBelow (trace a) (trace b)). inl (outputs_trace a ∙ zip_prints (trace a) (trace b) z ∙ sym (outputs_trace b)))
    (λ (f : FailsSooner a b).
    let r = begins_print (trace a) (trace f.end.before) f.matches in
    inr (f.end, (r.0, outputs_trace a ∙ r.1 ∙ ap (λ q. q ++ r.0) (sym (outputs_trace f.end.before) ∙ sym (outputs_end b f.end)))))
    p.cases
