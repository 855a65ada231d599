-- What is known of `opt`.
use Rattle.std.proofs.Common.{◌≡◌, ◌⊎◌, ℕ, List, inl, inr, refl, sym, subst}
use Rattle.il_syntax.specs.declared.program.Program.{Program}
use Rattle.il_parser.specs.Text.{SpellsProgram}
use Rattle.il_parser.proofs.Callers.{spelled_unrefused}
use Rattle.tool.specs.declared.status.Status.{Status}
use Rattle.tool.specs.declared.status.Status.TheVariants as status
use Rattle.tool.specs.Refusals.{HasTextRefusal}
use Rattle.tool.specs.Opt.{IsOptOutput, opt_meaning}
use Rattle.tool.specs.Outputs.{IsRefusalStatus}
use Rattle.tool.proofs.CommandFacts.{IsOutputStatus, CommandFacts}

outputs : (bytes out : List ℕ) (s : Status) → IsOptOutput bytes out s → IsOutputStatus s
outputs bytes out s (inl x) = subst IsOutputStatus (sym x.status) tt
outputs bytes out s (inr x) = subst IsOutputStatus (sym x.status) tt

works : (bytes out : List ℕ) (s : Status) → IsOptOutput bytes out s → (p : Program) × SpellsProgram bytes p → (s ≡ status.Done) ⊎ (s ≡ status.NoMemory)
works bytes out s (inl x) input = inl x.status
works bytes out s (inr x) input = absurd (spelled_unrefused bytes input.0 x.refusal input.1 x.first)

refuses : (bytes out : List ℕ) (s : Status) → IsOptOutput bytes out s → HasTextRefusal bytes → IsRefusalStatus s
refuses bytes out s (inl x) input = absurd (spelled_unrefused bytes x.program input.0 x.spelled input.1)
refuses bytes out s (inr x) input = inl x.status

pub opt_facts : CommandFacts opt_meaning
opt_facts = record { outputs = outputs; works = works; refuses = refuses; no_memory = inr refl; tells = λ bytes out s is. absurd cc }
