-- The outcome of a run: how it ends, what each thread has printed, and where it is done the last value of each
-- location; and which outcomes a list of nodes shows.
use Rattle.std.specs.Prelude.{◌≡◌, ◌⊎◌, ◌↔◌, ℕ, ℤ, ◌<◌, true, List, [], ◌∷◌, ◌++◌, length, map}
use Rattle.std.specs.List.{Contains, AllByRecursion, range_with_len}
use Rattle.values_undef.specs.declared.value.Val.{Val}
use Rattle.values_undef.specs.declared.value.Val.TheVariants.{Undef}
use Rattle.values_undef.specs.Journal.{ending_in}
use Rattle.values_undef.specs.declared.access.Access.{Access}
use Rattle.values_undef.specs.declared.journal.Ending.{Ending}
use Rattle.values_undef.specs.declared.journal.Ending.TheVariants.{Done, Failed, Spent}
use Rattle.values_undef.specs.declared.journal.Entry.{Entry}
use Rattle.il_syntax.specs.declared.program.Program.{Program}
use Rattle.message_memory.specs.Memory.{Memory, Messages}
use Rattle.thread_core.specs.Programs.{IsProperProgram}
use Rattle.view_machine.specs.State.{initial_state}
use Rattle.view_machine.specs.Runs.{IsJournalRun, state_after}
use Rattle.run_choices.specs.Complete.{IsComplete}
use Rattle.outcome_nodes.specs.Nodes.{Node, Asks, IsMove, result_at, IsFinished, IsSpent, printed_by}
use Rattle.outcome_nodes.specs.Laws.{IsClosedUnderMoves}
use Rattle.outcome_nodes.specs.Reached.{IsReachable}

pub record FinalOutcome : Type 0 where
  pub ending : Ending
  pub printed : List (List ℤ)
  pub values : List Val

-- the value of the newest message
abbrev pub last_value : Messages → Val
last_value [] = Undef
last_value (m ∷ h) = m.value

-- the values of the non-atomic locations, and then those of the newest messages of the atomic ones
abbrev pub final_values : Memory → List Val
final_values m = map (λ location. location.value) m.na ++ map last_value m.atomic

-- they are told where the run is done
abbrev pub values_told : Ending → Memory → List Val
values_told Done m = final_values m
values_told Failed m = []
values_told Spent m = []

-- the outcome of a run
abbrev pub final_outcome_of : Program → List Entry → FinalOutcome
final_outcome_of p entries = record {
  ending = ending_in entries (length p.threads);
  printed = map (printed_by entries) (range_with_len 0 (length p.threads));
  values = values_told (ending_in entries (length p.threads)) (state_after p (initial_state p) entries).memory;
}

-- some run that is complete for the budget has it
pub record IsOutcome (p : Program) (steps : ℕ) (o : FinalOutcome) : Type 0 where
  pub entries : List Entry
  pub run : IsJournalRun p entries
  pub complete : IsComplete p entries steps
  pub outcome : final_outcome_of p entries ≡ o

-- each of the runs is complete for the budget, and each outcome is that of one of them
pub record HaveAllOutcomes (p : Program) (steps : ℕ) (runs : List (List Entry)) : Type 0 where
  pub complete : AllByRecursion (λ entries. IsJournalRun p entries × IsComplete p entries steps) runs
  pub all : (o : FinalOutcome) → IsOutcome p steps o → Contains (map (final_outcome_of p) runs) o

-- ---- what a node shows

-- a move from it fails
pub record Fails (p : Program) (steps : ℕ) (n : Node) : Type 0 where
  pub thread : ℕ
  pub access : Access
  pub behind : ℕ
  pub there : thread < length p.threads
  pub asks : Asks steps n thread access
  pub move : IsMove n thread access behind
  pub fails : (result_at n thread access behind).memory.failed ≡ true

-- no thread of it goes on, and the ending is `Done` where each has come to its end, else `Spent`
abbrev pub EndsAs : Program → Node → Ending → Type 0
EndsAs p n Done = (i : ℕ) → i < length p.threads → IsFinished n i
EndsAs p n Spent = ((i : ℕ) → i < length p.threads → IsFinished n i) → ⊥
EndsAs p n Failed = ⊥

pub record Ends (p : Program) (steps : ℕ) (n : Node) (how : Ending) : Type 0 where
  pub stand : (i : ℕ) → i < length p.threads → IsFinished n i ⊎ IsSpent steps n i
  pub ending : EndsAs p n how

abbrev pub failed_outcome : Node → FinalOutcome
failed_outcome n = record { ending = Failed; printed = n.printed; values = [] }

abbrev pub ended_outcome : Node → Ending → FinalOutcome
ended_outcome n ending = record { ending = ending; printed = n.printed; values = values_told ending n.memory }

-- a node of the list shows the outcome
pub record IsShown (p : Program) (steps : ℕ) (nodes : List Node) (o : FinalOutcome) : Type 0 where
  pub node : Node
  pub listed : Contains nodes node
  pub shows : (Fails p steps node × (failed_outcome node ≡ o)) ⊎ ((ending : Ending) × Ends p steps node ending × (ended_outcome node ending ≡ o))

-- Of a closed list of nodes that moves lead to: it shows all outcomes of the program, and no other.
abbrev pub ShownAreOutcomes : Type 0
ShownAreOutcomes = (p : Program) (steps : ℕ) (nodes : List Node) (o : FinalOutcome) → IsProperProgram p → IsClosedUnderMoves p steps nodes → ((n : Node) → Contains nodes n → IsReachable p steps n)
    → IsOutcome p steps o ↔ IsShown p steps nodes o
