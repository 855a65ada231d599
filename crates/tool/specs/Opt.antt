-- `opt`: the optimised program.
use Rattle.std.specs.Prelude.{◌≡◌, ◌⊎◌, ℕ, false, List, Some}
use Rattle.il_syntax.specs.Text.{program_text}
use Rattle.il_syntax.specs.declared.program.Program.{Program}
use Rattle.il_parser.specs.Text.{SpellsProgram}
use Rattle.reports.specs.Targets.{IsOptimised}
use Rattle.tool.specs.declared.status.Status.{Status}
use Rattle.tool.specs.declared.status.Status.TheVariants as status
use Rattle.tool.specs.Meaning.{CommandMeaning}
use Rattle.tool.specs.Refusals.{IsTextRefusal, HasTextRefusal, text_limit}

-- The output is the canonical text of the last of the five programs that the passes make of the one that the bytes
-- spell.
pub record IsOptimisedText (bytes out : List ℕ) (result : Status) : Type 0 where
  pub program : Program
  pub target : Program
  pub spelled : SpellsProgram bytes program
  pub optimised : IsOptimised program target
  pub written : out ≡ program_text target
  pub status : result ≡ status.Done

abbrev pub IsOptOutput : List ℕ → List ℕ → Status → Type 0
IsOptOutput bytes out result = IsOptimisedText bytes out result ⊎ IsTextRefusal bytes out result

abbrev pub opt_meaning : CommandMeaning
opt_meaning = record {
  waits = false;
  reports = false;
  limit = Some text_limit;
  condition = Unit {0};
  output = IsOptOutput;
  accepted = λ bytes. (p : Program) × SpellsProgram bytes p;
  refused = HasTextRefusal;
  works = λ s. (s ≡ status.Done) ⊎ (s ≡ status.NoMemory);
}
