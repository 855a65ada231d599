-- What the answers say of runs.
use Rattle.std.proofs.Common.{◌≡◌, ◌⊎◌, ◌∙◌, ⊎_elim, ℕ, true, false, List, refl, sym, ap, subst}
use Rattle.std.specs.List.{AllByRecursion, AllZip, list_any}
use Rattle.std.proofs.lemmas.Bool.{cases_Bool, false≢true, true≢false}
use Rattle.values_undef.specs.declared.journal.Ending.{Ending}
use Rattle.values_undef.specs.declared.journal.Ending.TheVariants.{Done, Failed, Spent}
use Rattle.il_syntax.specs.declared.program.Program.{Program}
use Rattle.text_parts.specs.Lines.{Text}
use Rattle.pair_text.specs.Reading.{ReadsPair}
use Rattle.pair_text.proofs.Callers.{one_pair}
use Rattle.outcome_nodes.specs.Outcome.{FinalOutcome, final_outcome_of}
use Rattle.outcome_list.specs.Laws.{IsBeginning}
use Rattle.outcome_list.specs.List.{IsFound, covers, found_outcome, some_is_spent, is_missed, is_spent_ending}
use Rattle.outcome_list.specs.declared.found.Found.{Found}
use Rattle.outcome_list.proofs.Callers.{covers_as_said, missed_as_said}
use Rattle.outcomes_session.specs.Session.{AreAllOutcomes}
use Rattle.refute_session.specs.Session.{IsFirstMissed, IsRefuteAnswer, IsRefuteSession, IsRefuteVerdict, missed_text, unknown_text, none, missed, unknown, other_shape, too_many, compared, unread, read}
use Rattle.refute_session.specs.Laws.{IsMissedRun, IsRefined, MissedRunsAreNotTheSources, RefinedRunsAreTheSources, SomeRunCovers, SomeRunIsSpent, UnknownRunsAreNotYetTheSources}
use Rattle.refute_session.specs.declared.answer.RefuteAnswer.{RefuteAnswer}
use Rattle.refute_session.specs.declared.answer.RefuteAnswer.TheVariants.{Refines, Missed, Unknown}
use Rattle.refute_session.proofs.Listed.{at_place, none_any, none_passes, of_any, of_outcome, passes_first}

spent_is : (e : Ending) → is_spent_ending e ≡ true → e ≡ Spent
spent_is Done h = absurd (false≢true h)
spent_is Failed h = absurd (false≢true h)
spent_is Spent h = refl

-- an outcome that no outcome of the list covers is missed, unless it is spent
missed_if : (source_list : List Found) (f : Found) → is_missed source_list f ≡ false → (f.outcome.ending ≡ Spent → ⊥) → list_any (λ g. covers (found_outcome g) (found_outcome f)) source_list ≡ true
missed_if source_list f h ended =
    let test = λ (g : Found). covers (found_outcome g) (found_outcome f) in
    ⊎_elim (λ (r : list_any test source_list ≡ true). r)
    (λ (r : list_any test source_list ≡ false). absurd (true≢false (sym ((missed_as_said source_list f).1 (ended, none_any test source_list r)) ∙ h)))
    (cases_Bool (list_any test source_list))

module _ (source target : Program) (steps : ℕ) (source_list target_list : List Found) (of_source : AreAllOutcomes source steps source_list) (of_target : AreAllOutcomes target steps target_list) where
  -- a member of the source's list that covers an outcome is a run that does
  run_covers : (g : Found) (o : FinalOutcome) → IsFound source steps g → covers (found_outcome g) o ≡ true → SomeRunCovers source steps o
  run_covers g o found h =
      record { entries = g.journal; run = found.0; complete = found.1; covers = subst (λ (q : FinalOutcome). (q ≡ o) ⊎ ((q.ending ≡ Failed) × AllZip IsBeginning q.printed o.printed)) (sym found.2) ((covers_as_said (found_outcome g) o).0 h) }

  refined : AllByRecursion (λ f. is_missed source_list f ≡ false) target_list → IsRefined source target steps
  refined all entries run complete ended =
      let o = final_outcome_of target entries in
      let there = of_target.nothing_missed o (record { entries = entries; run = run; complete = complete; outcome = refl }) in
      let f = of_outcome (λ f. is_missed source_list f ≡ false) target_list o there.0 all there.1 there.2 in
      let any = missed_if source_list f.0 f.1 (λ e. ended (sym (ap (λ (q : FinalOutcome). q.ending) f.2) ∙ e)) in
      let g = of_any (IsFound source steps) (λ g. covers (found_outcome g) (found_outcome f.0)) source_list of_source.nothing_invented any in
      subst (SomeRunCovers source steps) f.2 (run_covers g.0 (found_outcome f.0) g.1 g.2)

  -- what stands in the list of the source is what each of its runs comes to
  uncovered : (f : Found) → AllByRecursion (λ g. covers (found_outcome g) (found_outcome f) ≡ false) source_list → SomeRunCovers source steps f.outcome → ⊥
  uncovered f all s =
      let o = final_outcome_of source s.entries in
      let there = of_source.nothing_missed o (record { entries = s.entries; run = s.run; complete = s.complete; outcome = refl }) in
      let g = of_outcome (λ g. covers (found_outcome g) (found_outcome f) ≡ false) source_list o there.0 all there.1 there.2 in
      true≢false (sym ((covers_as_said o f.outcome).1 s.covers) ∙ sym (ap (λ (q : FinalOutcome). covers q f.outcome) g.2) ∙ g.1)

  missed_run : (f : Found) → IsFirstMissed source_list target_list f → IsMissedRun source target steps f
  missed_run f first =
      let told = (missed_as_said source_list f).0 (passes_first (is_missed source_list) target_list first.at f first.first first.there) in
      record { found = at_place (IsFound target steps) target_list first.at f of_target.nothing_invented first.there; ended = told.0; uncovered = uncovered f told.1 }

  none_spent : some_is_spent source_list ≡ false → SomeRunIsSpent source steps → ⊥
  none_spent h s =
      let o = final_outcome_of source s.entries in
      let there = of_source.nothing_missed o (record { entries = s.entries; run = s.run; complete = s.complete; outcome = refl }) in
      let all = none_any (λ f. is_spent_ending (found_outcome f).ending) source_list h in
      let g = of_outcome (λ f. is_spent_ending (found_outcome f).ending ≡ false) source_list o there.0 all there.1 there.2 in
      true≢false (sym (ap is_spent_ending s.spent) ∙ sym (ap (λ (q : FinalOutcome). is_spent_ending q.ending) g.2) ∙ g.1)

  some_spent : some_is_spent source_list ≡ true → SomeRunIsSpent source steps
  some_spent h =
      let g = of_any (IsFound source steps) (λ f. is_spent_ending (found_outcome f).ending) source_list of_source.nothing_invented h in
      record { entries = g.0.journal; run = g.1.0; complete = g.1.1; spent = ap (λ (q : FinalOutcome). q.ending) g.1.2 ∙ spent_is g.0.outcome.ending g.2 }

  of_refines : IsRefuteVerdict target source_list target_list Refines → IsRefined source target steps
  of_refines (none h is) = refined (none_passes (is_missed source_list) target_list h)
  of_refines (missed f first h is) = absurd cc
  of_refines (unknown f first h is) = absurd cc

  of_missed : (text : Text) → IsRefuteVerdict target source_list target_list (Missed text) → (f : Found) × IsMissedRun source target steps f × (SomeRunIsSpent source steps → ⊥) × (text ≡ missed_text target f)
  of_missed text (none h is) = absurd cc
  of_missed text (missed f first h is) = let same : text ≡ missed_text target f = cc in (f, missed_run f first, none_spent h, same)
  of_missed text (unknown f first h is) = absurd cc

  of_unknown : (text : Text) → IsRefuteVerdict target source_list target_list (Unknown text) → (f : Found) × IsMissedRun source target steps f × SomeRunIsSpent source steps × (text ≡ unknown_text target f)
  of_unknown text (none h is) = absurd cc
  of_unknown text (missed f first h is) = absurd cc
  of_unknown text (unknown f first h is) = let same : text ≡ unknown_text target f = cc in (f, missed_run f first, some_spent h, same)

module _ (input : Text) (steps states : ℕ) (source target : Program) (reads : ReadsPair input source target) where
  -- what is answered of the programs that were read is answered of these
  of_these : (a : RefuteAnswer) (p q : Program) → ReadsPair input p q → IsRefuteAnswer p q steps states a → IsRefuteAnswer source target steps states a
  of_these a p q other h =
      let same = one_pair input p q source target other reads in
      subst (λ (r : Program). IsRefuteAnswer r target steps states a) same.0 (subst (λ (r : Program). IsRefuteAnswer p r steps states a) same.1 h)

  refines_by : IsRefuteAnswer source target steps states Refines → IsRefined source target steps
  refines_by (other_shape apart is) = absurd cc
  refines_by (too_many shape more is) = absurd cc
  refines_by (compared source_list target_list shape few few' of_source of_target h) = of_refines source target steps source_list target_list of_source of_target h

  refined_session : IsRefuteSession input steps states Refines → IsRefined source target steps
  refined_session (unread r first is) = absurd cc
  refined_session (read p q other h) = refines_by (of_these Refines p q other h)

  module _ (text : Text) where
    missed_by : IsRefuteAnswer source target steps states (Missed text) → (f : Found) × IsMissedRun source target steps f × (SomeRunIsSpent source steps → ⊥) × (text ≡ missed_text target f)
    missed_by (other_shape apart is) = absurd cc
    missed_by (too_many shape more is) = absurd cc
    missed_by (compared source_list target_list shape few few' of_source of_target h) = of_missed source target steps source_list target_list of_source of_target text h

    missed_session : IsRefuteSession input steps states (Missed text) → (f : Found) × IsMissedRun source target steps f × (SomeRunIsSpent source steps → ⊥) × (text ≡ missed_text target f)
    missed_session (unread r first is) = absurd cc
    missed_session (read p q other h) = missed_by (of_these (Missed text) p q other h)

    unknown_by : IsRefuteAnswer source target steps states (Unknown text) → (f : Found) × IsMissedRun source target steps f × SomeRunIsSpent source steps × (text ≡ unknown_text target f)
    unknown_by (other_shape apart is) = absurd cc
    unknown_by (too_many shape more is) = absurd cc
    unknown_by (compared source_list target_list shape few few' of_source of_target h) = of_unknown source target steps source_list target_list of_source of_target text h

    unknown_session : IsRefuteSession input steps states (Unknown text) → (f : Found) × IsMissedRun source target steps f × SomeRunIsSpent source steps × (text ≡ unknown_text target f)
    unknown_session (unread r first is) = absurd cc
    unknown_session (read p q other h) = unknown_by (of_these (Unknown text) p q other h)

pub refined_runs : RefinedRunsAreTheSources
refined_runs input steps states source target reads h = refined_session input steps states source target reads h

pub missed_runs : MissedRunsAreNotTheSources
missed_runs input text steps states source target reads h = missed_session input steps states source target reads text h

pub unknown_runs : UnknownRunsAreNotYetTheSources
unknown_runs input text steps states source target reads h = unknown_session input steps states source target reads text h
