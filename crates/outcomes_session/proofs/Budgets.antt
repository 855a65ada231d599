-- Lists in which each outcome is done.
use Rattle.std.proofs.Common.{◌≡◌, ℕ, zero, suc, ◌<◌, ◌≤◌, true, List, [], ◌∷◌, length, map, get_or, refl, sym, ap, ◌∙◌, arith}
use Rattle.std.specs.List.{AllByRecursion}
use Rattle.std.proofs.lemmas.Bool.{false≢true, and_parts}
use Rattle.values_undef.specs.declared.journal.Ending.{Ending}
use Rattle.values_undef.specs.declared.journal.Ending.TheVariants.{Done, Failed, Spent}
use Rattle.il_syntax.specs.declared.program.Program.{Program}
use Rattle.outcome_nodes.specs.Outcome.{FinalOutcome}
use Rattle.outcome_budgets.specs.Budgets.{AreAllDone}
use Rattle.outcome_budgets.proofs.Callers.{done_complete, done_lists}
use Rattle.outcome_list.specs.List.{IsFound, found_outcome}
use Rattle.outcome_list.specs.declared.found.Found.{Found}
use Rattle.outcomes_session.specs.Output.{is_done_ending, are_all_done}
use Rattle.outcomes_session.specs.Laws.{DoneListsStay}

done_is : (e : Ending) → is_done_ending e ≡ true → e ≡ Done
done_is Done h = refl
done_is Failed h = absurd (false≢true h)
done_is Spent h = absurd (false≢true h)

found_done : (list : List Found) (i : ℕ) (o : FinalOutcome) → i < length (map found_outcome list) → get_or (map found_outcome list) i o ≡ o → are_all_done list ≡ true → o.ending ≡ Done
found_done [] i o l e h = absurd (omega (arith, l))
found_done (f ∷ list) zero o l e h = ap (λ (q : FinalOutcome). q.ending) (sym e) ∙ done_is f.outcome.ending (and_parts _ _ h).0
found_done (f ∷ list) (suc i) o l e h = found_done list i o (omega (arith, l)) e (and_parts _ _ h).1

found_more : (p : Program) (few many : ℕ) (list : List Found) → few ≤ many → AllByRecursion (IsFound p few) list → are_all_done list ≡ true → AllByRecursion (IsFound p many) list
found_more p few many [] l h d = tt
found_more p few many (f ∷ list) l h d =
    let is = ap (λ (q : FinalOutcome). q.ending) h.0.2 ∙ done_is f.outcome.ending (and_parts _ _ d).0 in
    ((h.0.0, done_complete p few many f.journal l h.0.0 h.0.1 is, h.0.2), found_more p few many list l h.1 (and_parts _ _ d).1)

pub done_stays : DoneListsStay
done_stays p few many list ok l all d = record {
  nothing_missed = λ o q. all.nothing_missed o ((done_lists p few many o ok l each).0 q);
  nothing_invented = found_more p few many list l all.nothing_invented d;
  each_once = all.each_once;
}
  where
    each : AreAllDone p few
    each o q = let at = all.nothing_missed o q in found_done list at.0 o at.1 at.2 d
