-- `gen`: a program that is made from a number, or what the passes did to it and how a run of it ends.
use Rattle.std.specs.Prelude.{◌≡◌, ◌⊎◌, ◌≤◌, ℕ, false, List, [], ◌++◌, None, codes, length}
use Rattle.std.specs.Fmt.{decimal}
use Rattle.values_undef.specs.Journal.{ending_in}
use Rattle.values_undef.specs.declared.journal.Ending.{Ending}
use Rattle.values_undef.specs.declared.journal.Entry.{Entry}
use Rattle.il_syntax.specs.Text.{program_text}
use Rattle.il_syntax.specs.declared.program.Program.{Program}
use Rattle.gen_program.specs.Generated.{generated}
use Rattle.pass_chain.specs.Chain.{IsOptAll}
use Rattle.pass_chain.specs.Counts.{counts_of}
use Rattle.pass_chain.specs.declared.chains.ProgramChain.{ProgramChain}
use Rattle.pass_chain.specs.declared.counts.Counts.{Counts}
use Rattle.simulation.specs.Conditions.{IsLifted}
use Rattle.reports.specs.Targets.{target_program}
use Rattle.words.specs.declared.command.Drawing.TheVariants.{Seed}
use Rattle.words.specs.declared.command.Form.{Form}
use Rattle.words.specs.declared.command.Form.TheVariants.{Text, Summary}
use Rattle.tool.specs.declared.status.Status.{Status}
use Rattle.tool.specs.declared.status.Status.TheVariants as status
use Rattle.tool.specs.Meaning.{CommandMeaning}
use Rattle.tool.specs.Replay.{ending_word}
use Rattle.tool.specs.Walk.{IsWalkOf}

-- The summary, in seven lines.

-- a word and a number
abbrev pub number_line : List ℕ → ℕ → List ℕ
number_line word n = word ++ (codes " " ++ (decimal n ++ codes "\n"))

-- what the passes did
abbrev pub counts_lines : Counts → List ℕ
counts_lines counts =
    number_line (codes "functions") counts.functions
    ++ (number_line (codes "statements") counts.statements
    ++ (number_line (codes "forwarded") counts.forwarded
    ++ (number_line (codes "introduced") counts.introduced
    ++ number_line (codes "removed") counts.removed)))

-- and how many entries a run has, and how it ends
abbrev pub summary_lines : Counts → ℕ → Ending → List ℕ
summary_lines counts entries ending = counts_lines counts ++ (number_line (codes "entries") entries ++ (codes "end " ++ (ending_word ending ++ codes "\n")))

-- The lines tell of these five programs, and of a walk of the last of them: its threads take turns from the first one
-- on, its choices are drawn from the number, and each thread makes 1000 steps at most. Its journal is lifted to the first
-- program.
pub record IsChainSummary (number : ℕ) (chain : ProgramChain) (out : List ℕ) : Type 0 where
  pub journal : List Entry
  pub source : List Entry
  pub walk : IsWalkOf [] (Seed number) 1000 (target_program chain) journal
  pub lifted : IsLifted chain.source (target_program chain) journal source
  pub written : out ≡ summary_lines (counts_of chain) (length journal) (ending_in journal (length (target_program chain).threads))

-- The lines tell of the five programs that the passes make of this one.
pub record IsSummary (number : ℕ) (program : Program) (out : List ℕ) : Type 0 where
  pub chain : ProgramChain
  pub optimised : IsOptAll program chain
  pub told : IsChainSummary number chain out

-- the canonical text of the program of the number, or its summary
abbrev pub IsForm : Form → ℕ → ℕ → List ℕ → Type 0
IsForm Text number functions out = out ≡ program_text (generated number functions)
IsForm Summary number functions out = IsSummary number (generated number functions) out

abbrev pub IsGenOutput : ℕ → ℕ → Form → List ℕ → Status → Type 0
IsGenOutput number functions form out result = IsForm form number functions out × (result ≡ status.Done)

-- it reads nothing, and makes from 1 to 256 functions
abbrev pub gen_meaning : ℕ → ℕ → Form → CommandMeaning
gen_meaning number functions form = record {
  waits = false;
  reports = false;
  limit = None;
  condition = (1 ≤ functions) × (functions ≤ 256);
  output = λ _. IsGenOutput number functions form;
  accepted = λ _. Unit {0};
  refused = λ _. ⊥;
  works = λ s. (s ≡ status.Done) ⊎ (s ≡ status.NoMemory);
}
