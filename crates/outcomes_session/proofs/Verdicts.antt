-- What the verdicts say of runs.
use Rattle.std.proofs.Common.{◌≡◌, ⊎_elim, ℕ, zero, suc, ◌+◌, ◌<◌, Bool, true, false, not, if◌then◌else◌, List, [], ◌∷◌, length, map, take, get_or, refl, sym, ap, ap₂, subst, ◌∙◌, arith}
use Rattle.std.specs.Prelude.{◌||◌, slice_index_or}
use Rattle.std.specs.Cmp.{signed_Decides}
use Rattle.std.specs.List.{AllByRecursion, list_all, list_any}
use Rattle.std.proofs.lemmas.Bool.{and_from, and_parts, cases_Bool, true≢false, false≢true, false_from_ne_true, or_left, or_right}
use Rattle.std.proofs.lemmas.List.Folds.{list_any_more}
use Rattle.values_undef.specs.declared.value.Val.{Val}
use Rattle.values_undef.specs.declared.value.Val.TheVariants.{Def, Undef}
use Rattle.il_syntax.specs.declared.program.Program.{Program}
use Rattle.litmus.specs.Outcome.{EndAndOutputs, outcome_in, same_outcome}
use Rattle.litmus.proofs.Callers.{told_apart}
use Rattle.litmus_text.specs.Expectation.{Expected}
use Rattle.litmus_text.specs.Output.{verdict, wanted}
use Rattle.litmus_text.specs.declared.expectation.ExpectedWord.{ExpectedWord}
use Rattle.litmus_text.specs.declared.expectation.ExpectedWord.TheVariants.{Output, Last}
use Rattle.outcome_list.specs.List.{IsFound, found_outcome}
use Rattle.outcome_list.specs.declared.found.Found.{Found}
use Rattle.outcome_nodes.specs.Outcome.{FinalOutcome, final_outcome_of}
use Rattle.outcomes_session.specs.Judging.{equal_values, has_value, is_as_expected}
use Rattle.outcomes_session.specs.Laws.{HasNamed, SomeRunMeets, VerdictsAreOfRuns}
use Rattle.outcomes_session.specs.Session.{AreAllOutcomes}
use Rattle.outcomes_session.proofs.Printing.{comes_same}

-- one run more
pub any_more : (p : Program) (e : Expected) (list : List Found) (there here : Bool) (i : ℕ) (d : Found) → i < length list → there ≡ list_any (is_as_expected p e) (take i list) → here ≡ is_as_expected p e (get_or list i d)
    → (there || here) ≡ list_any (is_as_expected p e) (take (i + 1) list)
any_more p e list there here i d below is same = ap₂ (λ (a b : Bool). a || b) is same ∙ sym (list_any_more (is_as_expected p e) list i d below)

-- values

equal_same : (v w : Val) → equal_values v w ≡ true → v ≡ w
equal_same (Def m) (Def n) h = ap Def ((signed_Decides m n).0 h)
equal_same Undef Undef h = refl
equal_same (Def m) Undef h = absurd (false≢true h)
equal_same Undef (Def n) h = absurd (false≢true h)

same_equal : (v : Val) → equal_values v v ≡ true
same_equal (Def m) = (signed_Decides m m).1 refl
same_equal Undef = refl

named_has : (values : List Val) (x : ExpectedWord) → HasNamed values x → has_value values x ≡ true
named_has values (Output o) h = refl
named_has values (Last l) h = subst (λ (v : Val). equal_values (slice_index_or values l.place Undef) v ≡ true) h (same_equal (slice_index_or values l.place Undef))

has_named : (values : List Val) (x : ExpectedWord) → has_value values x ≡ true → HasNamed values x
has_named values (Output o) h = tt
has_named values (Last l) h = equal_same (slice_index_or values l.place Undef) l.value h

all_have : (values : List Val) (xs : List ExpectedWord) → AllByRecursion (HasNamed values) xs → list_all (has_value values) xs ≡ true
all_have values [] h = refl
all_have values (x ∷ xs) h = and_from (has_value values x) (list_all (has_value values) xs) (named_has values x h.0) (all_have values xs h.1)

all_named : (values : List Val) (xs : List ExpectedWord) → list_all (has_value values) xs ≡ true → AllByRecursion (HasNamed values) xs
all_named values [] h = tt
all_named values (x ∷ xs) h =
    let parts = and_parts (has_value values x) (list_all (has_value values) xs) h in
    (has_named values x parts.0, all_named values xs parts.1)

module _ (p : Program) (steps : ℕ) (e : Expected) where
  abbrev comes : Found → EndAndOutputs
  comes f = outcome_in f.journal (length p.threads)

  abbrev is_told : List Found → Bool
  is_told list = list_any (is_as_expected p e) list

  -- what is told is a run
  run_of : (f : Found) → IsFound p steps f → is_as_expected p e f ≡ true → SomeRunMeets p steps e
  run_of f h q =
      let parts = and_parts (same_outcome (wanted e) (comes f)) (list_all (has_value f.outcome.values) e.words) q in
      record {
        entries = f.journal;
        run = h.0;
        complete = h.1;
        comes_to = sym ((told_apart (wanted e) (comes f)).0 parts.0);
        values = subst (λ (vs : List Val). AllByRecursion (HasNamed vs) e.words) (sym (ap (λ (o : FinalOutcome). o.values) h.2)) (all_named f.outcome.values e.words parts.1);
      }

  told_runs : (list : List Found) → AllByRecursion (IsFound p steps) list → is_told list ≡ true → SomeRunMeets p steps e
  told_runs [] h q = absurd (false≢true q)
  told_runs (f ∷ fs) h q =
      ⊎_elim
      (λ (r : is_as_expected p e f ≡ true). run_of f h.0 r)
      (λ (r : is_as_expected p e f ≡ false). told_runs fs h.1 (sym (ap (λ (b : Bool). b || is_told fs) r) ∙ q))
      (cases_Bool (is_as_expected p e f))

  -- and an outcome of the list is told
  runs_told : (list : List Found) (o : FinalOutcome) (k : ℕ) → AllByRecursion (IsFound p steps) list → k < length (map found_outcome list) → get_or (map found_outcome list) k o ≡ o
      → ((f : Found) → IsFound p steps f → f.outcome ≡ o → is_as_expected p e f ≡ true) → is_told list ≡ true
  runs_told [] o k h l q meets = absurd (omega (arith, l))
  runs_told (f ∷ fs) o zero h l q meets = or_left (is_as_expected p e f) _ (meets f h.0 q)
  runs_told (f ∷ fs) o (suc k) h l q meets = or_right (is_as_expected p e f) _ (runs_told fs o k h.1 (omega (arith, l)) q meets)

  some_run : (list : List Found) → AreAllOutcomes p steps list → SomeRunMeets p steps e → is_told list ≡ true
  some_run list all s =
      let o = final_outcome_of p s.entries in
      let c = all.nothing_missed o (record { entries = s.entries; run = s.run; complete = s.complete; outcome = refl }) in
      runs_told list o c.0 all.nothing_invented c.1 c.2
      (λ f h q.
      let come : comes f ≡ wanted e = comes_same p f.journal s.entries h.0 s.run (h.2 ∙ q) ∙ s.comes_to in
      let values = subst (λ (vs : List Val). AllByRecursion (HasNamed vs) e.words) (sym (ap (λ (r : FinalOutcome). r.values) q)) s.values in
      and_from (same_outcome (wanted e) (comes f)) (list_all (has_value f.outcome.values) e.words) ((told_apart (wanted e) (comes f)).1 (sym come)) (all_have f.outcome.values e.words values))

met_some : (e : Expected) (there : Bool) → e.some ≡ true → verdict e there ≡ there
met_some e there h = ap (λ (b : Bool). if b then there else not there) h

met_none : (e : Expected) (there : Bool) → e.some ≡ false → verdict e there ≡ not there
met_none e there h = ap (λ (b : Bool). if b then there else not there) h

not_false : (b : Bool) → not b ≡ true → b ≡ false
not_false true h = absurd (false≢true h)
not_false false h = refl

pub verdicts_of_runs : VerdictsAreOfRuns
verdicts_of_runs p steps list e all = (
  λ is. (
    λ q. told_runs p steps e list all.nothing_invented (sym (met_some e (is_told p steps e list) is) ∙ q),
    λ s. met_some e (is_told p steps e list) is ∙ some_run p steps e list all s,
  ),
  λ isnt.
      let h = false_from_ne_true e.some isnt in (
        λ q s. true≢false (sym (some_run p steps e list all s) ∙ not_false _ (sym (met_none e (is_told p steps e list) h) ∙ q)),
        λ no. met_none e (is_told p steps e list) h ∙ ap not (false_from_ne_true (is_told p steps e list) (λ q. no (told_runs p steps e list all.nothing_invented q))),
      ),
)
