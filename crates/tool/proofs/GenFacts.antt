-- What is known of `gen`.
use Rattle.std.proofs.Common.{◌≡◌, ◌⊎◌, ℕ, List, inl, inr, refl, sym, subst}
use Rattle.words.specs.declared.command.Form.{Form}
use Rattle.tool.specs.declared.status.Status.{Status}
use Rattle.tool.specs.declared.status.Status.TheVariants as status
use Rattle.tool.specs.Gen.{IsGenOutput, gen_meaning}
use Rattle.tool.specs.Outputs.{IsRefusalStatus}
use Rattle.tool.proofs.CommandFacts.{IsOutputStatus, CommandFacts}

module _ (number functions : ℕ) (form : Form) where
  outputs : (bytes out : List ℕ) (s : Status) → IsGenOutput number functions form out s → IsOutputStatus s
  outputs bytes out s x = subst IsOutputStatus (sym x.1) tt

  works : (bytes out : List ℕ) (s : Status) → IsGenOutput number functions form out s → Unit {0} → (s ≡ status.Done) ⊎ (s ≡ status.NoMemory)
  works bytes out s x input = inl x.1

  refuses : (bytes out : List ℕ) (s : Status) → IsGenOutput number functions form out s → ⊥ → IsRefusalStatus s
  refuses bytes out s x input = absurd input

  pub gen_facts : CommandFacts (gen_meaning number functions form)
  gen_facts = record { outputs = outputs; works = works; refuses = refuses; no_memory = inr refl; tells = λ bytes out s is. absurd cc }
