-- A summary, of its parts.
use Rattle.std.proofs.Common.{◌≡◌, ◌∙◌, ℕ, List, [], length}
use Rattle.values_undef.specs.Journal.{ending_in}
use Rattle.values_undef.specs.declared.journal.Ending.{Ending}
use Rattle.values_undef.specs.declared.journal.Entry.{Entry}
use Rattle.il_syntax.specs.declared.program.Program.{Program}
use Rattle.pass_chain.specs.Chain.{IsOptAll}
use Rattle.pass_chain.specs.Counts.{counts_of}
use Rattle.pass_chain.specs.declared.chains.ProgramChain.{ProgramChain}
use Rattle.pass_chain.specs.declared.counts.Counts.{Counts}
use Rattle.simulation.specs.Conditions.{IsLifted}
use Rattle.words.specs.declared.command.Drawing.TheVariants.{Seed}
use Rattle.reports.specs.Targets.{target_program}
use Rattle.tool.specs.Gen.{IsChainSummary, IsSummary, summary_lines}
use Rattle.tool.specs.Walk.{IsWalkOf}

pub chain_summary : (number : ℕ) (c : ProgramChain) (journal source : List Entry) (counts : Counts) (entries : ℕ) (ending : Ending) (out : List ℕ)
    → IsWalkOf [] (Seed number) 1000 (target_program c) journal → IsLifted c.source (target_program c) journal source → counts ≡ counts_of c → entries ≡ length journal → ending ≡ ending_in journal (length (target_program c).threads)
    → out ≡ summary_lines counts entries ending → IsChainSummary number c out
chain_summary number c journal source counts entries ending out walk lifted same_counts same_entries same_ending written = record {
  journal = journal;
  source = source;
  walk = walk;
  lifted = lifted;
  written = written ∙ (λ i. summary_lines (same_counts i) (same_entries i) (same_ending i));
}

pub program_summary : (number : ℕ) (p : Program) (c : ProgramChain) (out : List ℕ) → IsOptAll p c → IsChainSummary number c out → IsSummary number p out
program_summary number p c out optimised told = record { chain = c; optimised = optimised; told = told }
