-- The clauses of a reader that answers with what an input reads as, or with its first refusal.
use Rattle.std.proofs.Common.{◌≡◌, Result, Ok, Err, IfOk, IfErr, MatchResult, refl}
use Rattle.il_reader.specs.declared.fault.InputFault.{InputFault}
use Rattle.il_reader.specs.declared.fault.InputFault.TheVariants.{Refused, NoMemory}
use Rattle.il_reader.specs.Refusal.{Refusal, Answers, IfRefused}

module _ {A R : Type 0} (Reads : A → Type 0) (First : Refusal R → Type 0) where
  pub found : (r : Result A (InputFault R)) → Answers Reads First r → IfOk r Reads
  found (Ok x) h = h
  found (Err e) h = tt

  pub first : (r : Result A (InputFault R)) → Answers Reads First r → IfErr r (λ e. IfRefused e First)
  first (Ok x) h = tt
  first (Err e) h = h

  -- a fact of each thing that the input reads as
  pub fitting : (Fact : A → Type 0) → ((x : A) → Reads x → Fact x) → (r : Result A (InputFault R)) → Answers Reads First r → IfOk r Fact
  fitting Fact each (Ok x) h = each x h
  fitting Fact each (Err e) h = tt

  -- the input reads in one way, and is not refused
  pub only : (Same : A → Type 0) → ((x : A) → Reads x → Same x) → ((r : Refusal R) → First r → ⊥) → (r : Result A (InputFault R)) → Answers Reads First r → MatchResult r Same (λ e. e ≡ NoMemory)
  only Same one unrefused (Ok x) h = one x h
  only Same one unrefused (Err (Refused rule line column)) h = absurd (unrefused _ h)
  only Same one unrefused (Err NoMemory) h = refl

  -- the input is refused in one way, and does not read
  pub exact : (q : Refusal R) → ((x : A) → Reads x → ⊥) → ((r : Refusal R) → First r → r ≡ q) → (r : Result A (InputFault R)) → Answers Reads First r
      → MatchResult r (λ _. ⊥) (λ e. IfRefused e (λ s. s ≡ q))
  exact q unread one (Ok x) h = unread x h
  exact q unread one (Err (Refused rule line column)) h = one _ h
  exact q unread one (Err NoMemory) h = tt
