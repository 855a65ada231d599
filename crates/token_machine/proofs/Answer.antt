-- What the machine's answer says of a reader's.
use Rattle.std.proofs.Common.{◌≡◌, List, Result, Ok, Err, IfOk, IfErr, MatchResult, Option, refl}
use Rattle.token_machine.specs.declared.fault.Fault.{Fault}
use Rattle.token_machine.specs.declared.fault.ReadError.{ReadError}
use Rattle.token_machine.specs.declared.fault.ReadError.TheVariants as errors
use Rattle.token_machine.specs.Text.{Mark, Spells, IsFirstFault}
use Rattle.token_machine.specs.Machine.{Move, read_from, Reads}
use Rattle.token_machine.specs.Reading.{Continues, IfFault}
use Rattle.token_machine.proofs.Faults.{answer_spells, spells_answer, answer_fault, fault_answer, same_answer, same_fault, two_answers}

module _ {State Tree Terminal Rule V : Type 0} {spelling : Tree → List (Mark Terminal Rule)} {step : State → Terminal → Move Rule State} {finish : State → Option Tree} {begin : State} (unexpected : Rule) (reads : Reads spelling step finish begin) (view : V → Tree) (ts : List Terminal) where
  pub found : (r : Result V (ReadError Rule)) → Continues r (read_from step finish unexpected begin ts) (λ v. Ok (view v)) → IfOk r (λ v. Spells spelling ts (view v))
  found (Ok v) e = answer_spells unexpected reads ts (view v) e
  found (Err _) e = tt

  pub refused : (r : Result V (ReadError Rule)) → Continues r (read_from step finish unexpected begin ts) (λ v. Ok (view v)) → IfErr r (λ e. IfFault e (λ f. IsFirstFault spelling unexpected ts f))
  refused (Ok v) e = tt
  refused (Err errors.NoMemory) e = tt
  refused (Err (errors.Fault f)) e = answer_fault unexpected reads ts f e

  pub only : (r : Result V (ReadError Rule)) → Continues r (read_from step finish unexpected begin ts) (λ v. Ok (view v)) → (xs : Tree) → Spells spelling ts xs → MatchResult r (λ v. view v ≡ xs) (λ e. e ≡ errors.NoMemory)
  only (Ok v) e xs spells = same_answer (view v) xs _ e (spells_answer unexpected reads ts xs spells)
  only (Err errors.NoMemory) e xs spells = refl
  only (Err (errors.Fault f)) e xs spells = absurd (two_answers xs f _ (spells_answer unexpected reads ts xs spells) e)

  pub exact : (r : Result V (ReadError Rule)) → Continues r (read_from step finish unexpected begin ts) (λ v. Ok (view v)) → (f : Fault Rule) → IsFirstFault spelling unexpected ts f → MatchResult r (λ v. ⊥) (λ e. IfFault e (λ g. g ≡ f))
  exact (Ok v) e f first = two_answers (view v) f _ e (fault_answer unexpected reads ts f first)
  exact (Err errors.NoMemory) e f first = tt
  exact (Err (errors.Fault g)) e f first = same_fault g f _ e (fault_answer unexpected reads ts f first)
