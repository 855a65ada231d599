-- What is answered to an input.
use Rattle.std.specs.Prelude.{◌≡◌, ℕ, ◌≤◌, ◌++◌, Bool, true, List, length, map}
use Rattle.std.specs.List.{AllByRecursion, Contains, flat_map}
use Rattle.il_syntax.specs.declared.program.Program.{Program}
use Rattle.il_reader.specs.Refusal.{Refusal}
use Rattle.text_parts.specs.Lines.{Text, whole_line}
use Rattle.litmus.specs.Outcome.{EndAndOutputs, outcome_in}
use Rattle.litmus_text.specs.Expectation.{Expected}
use Rattle.litmus_text.specs.Output.{are_met, verdict_lines}
use Rattle.litmus_text.specs.Reading.{ReadsLitmus, IsFirstLitmusRefusal}
use Rattle.litmus_text.specs.declared.fault.LitmusRule.{LitmusRule}
use Rattle.outcome_nodes.specs.Outcome.{FinalOutcome, IsOutcome}
use Rattle.outcome_search.specs.Runs.{HasMoreNodes}
use Rattle.outcome_list.specs.List.{IsFound, found_outcome}
use Rattle.outcome_list.specs.Order.{AreOutcomesRising}
use Rattle.outcome_list.specs.declared.found.Found.{Found}
use Rattle.outcomes_session.specs.Judging.{is_met_by}
use Rattle.outcomes_session.specs.Output.{budget_lines, outcomes_line, found_text}
use Rattle.outcomes_session.specs.declared.answer.OutcomesAnswer.{OutcomesAnswer}
use Rattle.outcomes_session.specs.declared.answer.OutcomesAnswer.TheVariants.{Refused, TooMany, Told}

-- each thread of a run has 1 to 100 steps, and the search may come to 1 to 1048576 nodes
pub record HasOutcomesCondition (steps states : ℕ) : Type 0 where
  pub some_steps : 1 ≤ steps
  pub few_steps : steps ≤ 100
  pub some_states : 1 ≤ states
  pub few_states : states ≤ 1048576

-- the list has the outcome of each run that is complete for the budget, and no other, each once and in the fixed order
pub record AreAllOutcomes (p : Program) (steps : ℕ) (list : List Found) : Type 0 where
  pub nothing_missed : (o : FinalOutcome) → IsOutcome p steps o → Contains (map found_outcome list) o
  pub nothing_invented : AllByRecursion (IsFound p steps) list
  pub each_once : AreOutcomesRising (map found_outcome list)

-- what the runs of the list come to: how they end and what they print
abbrev pub told_outcomes : Program → List Found → List EndAndOutputs
told_outcomes p list = map (λ f. outcome_in f.journal (length p.threads)) list

-- All outcomes are written, and whether each expectation is met by them; and it is told whether all are. Behind it stands how many
-- outcomes there are, and where each of them is done, that they are those of every greater budget.
pub record IsToldOf (p : Program) (expectations : List Expected) (steps : ℕ) (text : Text) (met : Bool) : Type 0 where
  pub list : List Found
  pub outcomes : AreAllOutcomes p steps list
  pub written : text ≡ flat_map (found_text p) list ++ (verdict_lines (is_met_by p list) expectations ++ (whole_line (outcomes_line (length list)) ++ budget_lines list))
  pub all : met ≡ are_met (is_met_by p list) expectations

-- The answer: the first refusal of the input; or that its program has more nodes than the search may come to; or, where it
-- hasn't, what is written of its outcomes and its expectations.
pub data IsOutcomesSession (input : Text) (steps states : ℕ) (answer : OutcomesAnswer) : Type 0 where
  unread : (r : Refusal LitmusRule) → IsFirstLitmusRefusal true input r → answer ≡ Refused r.rule r.line r.column → IsOutcomesSession input steps states answer
  too_many : (p : Program) (expectations : List Expected) → ReadsLitmus true input p expectations → HasMoreNodes p steps states → answer ≡ TooMany → IsOutcomesSession input steps states answer
  told : (p : Program) (expectations : List Expected) (text : Text) (met : Bool) → ReadsLitmus true input p expectations → (HasMoreNodes p steps states → ⊥) → IsToldOf p expectations steps text met
      → answer ≡ Told text met → IsOutcomesSession input steps states answer
