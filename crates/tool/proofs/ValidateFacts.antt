-- What is known of `validate`.
use Rattle.std.proofs.Common.{◌≡◌, ◌⊎◌, ℕ, List, inl, inr, refl, sym, subst}
use Rattle.il_syntax.specs.declared.program.Program.{Program}
use Rattle.il_reader.specs.Refusal.{Refusal}
use Rattle.pair_text.specs.declared.fault.PairRule.{PairRule}
use Rattle.pair_text.specs.Reading.{ReadsPair, IsFirstPairRefusal}
use Rattle.pair_text.proofs.Callers.{pair_unrefused}
use Rattle.tool.specs.declared.status.Status.{Status}
use Rattle.tool.specs.declared.status.Status.TheVariants as status
use Rattle.tool.specs.Validate.{IsPairVerdict, other_shape, refused_function, accepted_pair, IsValidateOutput, validate_meaning}
use Rattle.tool.specs.Outputs.{IsRefusalStatus}
use Rattle.tool.proofs.CommandFacts.{IsOutputStatus, CommandFacts}

abbrev IsValidateStatus : Status → Type 0
IsValidateStatus s = (s ≡ status.Done) ⊎ ((s ≡ status.No) ⊎ (s ≡ status.NoMemory))

of_verdict : (p q : Program) (out : List ℕ) (s : Status) → IsPairVerdict p q out s → IsOutputStatus s
of_verdict p q out s (other_shape other written is) = subst IsOutputStatus (sym is) tt
of_verdict p q out s (refused_function k site why shape first written is) = subst IsOutputStatus (sym is) tt
of_verdict p q out s (accepted_pair neighbour written is) = subst IsOutputStatus (sym is) tt

by_verdict : (p q : Program) (out : List ℕ) (s : Status) → IsPairVerdict p q out s → IsValidateStatus s
by_verdict p q out s (other_shape other written is) = inr (inl is)
by_verdict p q out s (refused_function k site why shape first written is) = inr (inl is)
by_verdict p q out s (accepted_pair neighbour written is) = inl is

outputs : (bytes out : List ℕ) (s : Status) → IsValidateOutput bytes out s → IsOutputStatus s
outputs bytes out s (inl x) = of_verdict x.source x.target out s x.verdict
outputs bytes out s (inr x) = subst IsOutputStatus (sym x.status) tt

works : (bytes out : List ℕ) (s : Status) → IsValidateOutput bytes out s → (p : Program) × (q : Program) × ReadsPair bytes p q → IsValidateStatus s
works bytes out s (inl x) input = by_verdict x.source x.target out s x.verdict
works bytes out s (inr x) input = absurd (pair_unrefused bytes input.0 input.1 x.refusal input.2 x.first)

refuses : (bytes out : List ℕ) (s : Status) → IsValidateOutput bytes out s → (r : Refusal PairRule) × IsFirstPairRefusal bytes r → IsRefusalStatus s
refuses bytes out s (inl x) input = absurd (pair_unrefused bytes x.source x.target input.0 x.reads input.1)
refuses bytes out s (inr x) input = inl x.status

pub validate_facts : CommandFacts validate_meaning
validate_facts = record { outputs = outputs; works = works; refuses = refuses; no_memory = inr (inr refl); tells = λ bytes out s is. absurd cc }
