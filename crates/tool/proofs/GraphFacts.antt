-- What is known of `graph`.
use Rattle.std.proofs.Common.{◌≡◌, ◌⊎◌, ℕ, List, inl, inr, refl, sym, subst}
use Rattle.values_undef.specs.declared.journal.Entry.{Entry}
use Rattle.values_undef.specs.declared.journal.Ending.{Ending}
use Rattle.il_syntax.specs.declared.program.Program.{Program}
use Rattle.replay.specs.declared.verdict.Verdict.{Verdict}
use Rattle.replay.specs.declared.verdict.Verdict.TheVariants.{Run, NotAStep}
use Rattle.il_reader.specs.Refusal.{Refusal}
use Rattle.replay_text.specs.declared.fault.TextRule.{TextRule}
use Rattle.replay_text.specs.Reading.{ReadsReplay, IsFirstTextRefusal}
use Rattle.replay_text.proofs.Callers.{replay_unrefused}
use Rattle.tool.specs.declared.status.Status.{Status}
use Rattle.tool.specs.declared.status.Status.TheVariants as status
use Rattle.tool.specs.Graph.{IsGraphedVerdict, IsGraphOutput, graph_meaning}
use Rattle.tool.specs.Outputs.{IsRefusalStatus}
use Rattle.tool.proofs.CommandFacts.{IsOutputStatus, CommandFacts}

abbrev IsGraphStatus : Status → Type 0
IsGraphStatus s = (s ≡ status.Done) ⊎ ((s ≡ status.No) ⊎ (s ≡ status.NoMemory))

of_verdict : (p : Program) (entries : List Entry) (given : Ending) (v : Verdict) (out : List ℕ) (s : Status) → IsGraphedVerdict p entries given v out s → IsOutputStatus s
of_verdict p entries given (Run e) out s (inl x) = subst IsOutputStatus (sym x.2) tt
of_verdict p entries given (Run e) out s (inr x) = subst IsOutputStatus (sym x.2) tt
of_verdict p entries given (NotAStep k w) out s x = subst IsOutputStatus (sym x.1) tt

by_verdict : (p : Program) (entries : List Entry) (given : Ending) (v : Verdict) (out : List ℕ) (s : Status) → IsGraphedVerdict p entries given v out s → IsGraphStatus s
by_verdict p entries given (Run e) out s (inl x) = inl x.2
by_verdict p entries given (Run e) out s (inr x) = inr (inl x.2)
by_verdict p entries given (NotAStep k w) out s x = inr (inl x.1)

outputs : (bytes out : List ℕ) (s : Status) → IsGraphOutput bytes out s → IsOutputStatus s
outputs bytes out s (inl x) = of_verdict x.program x.entries x.ending x.verdict out s x.output
outputs bytes out s (inr x) = subst IsOutputStatus (sym x.status) tt

works : (bytes out : List ℕ) (s : Status) → IsGraphOutput bytes out s → (p : Program) × (entries : List Entry) × (e : Ending) × ReadsReplay bytes p entries e → IsGraphStatus s
works bytes out s (inl x) input = by_verdict x.program x.entries x.ending x.verdict out s x.output
works bytes out s (inr x) input = absurd (replay_unrefused bytes input.0 input.1 input.2 x.refusal input.3 x.first)

refuses : (bytes out : List ℕ) (s : Status) → IsGraphOutput bytes out s → (r : Refusal TextRule) × IsFirstTextRefusal bytes r → IsRefusalStatus s
refuses bytes out s (inl x) input = absurd (replay_unrefused bytes x.program x.entries x.ending input.0 x.reads input.1)
refuses bytes out s (inr x) input = inl x.status

pub graph_facts : CommandFacts graph_meaning
graph_facts = record { outputs = outputs; works = works; refuses = refuses; no_memory = inr (inr refl); tells = λ bytes out s is. absurd cc }
