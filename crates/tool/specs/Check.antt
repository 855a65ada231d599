-- `check`: whether a text is a program.
use Rattle.std.specs.Prelude.{◌≡◌, ◌⊎◌, ℕ, false, List, Some, codes}
use Rattle.il_syntax.specs.declared.program.Program.{Program}
use Rattle.il_parser.specs.Text.{SpellsProgram}
use Rattle.tool.specs.declared.status.Status.{Status}
use Rattle.tool.specs.declared.status.Status.TheVariants as status
use Rattle.tool.specs.Meaning.{CommandMeaning}
use Rattle.tool.specs.Refusals.{IsTextRefusal, HasTextRefusal, text_limit}

-- a text that is a program
abbrev pub accepted_line : List ℕ
accepted_line = codes "ok\n"

-- The bytes spell a program.
pub record IsAcceptance (bytes out : List ℕ) (result : Status) : Type 0 where
  pub program : Program
  pub spelled : SpellsProgram bytes program
  pub written : out ≡ accepted_line
  pub status : result ≡ status.Done

abbrev pub IsCheckOutput : List ℕ → List ℕ → Status → Type 0
IsCheckOutput bytes out result = IsAcceptance bytes out result ⊎ IsTextRefusal bytes out result

abbrev pub check_meaning : CommandMeaning
check_meaning = record {
  waits = false;
  reports = false;
  limit = Some text_limit;
  condition = Unit {0};
  output = IsCheckOutput;
  accepted = λ bytes. (p : Program) × SpellsProgram bytes p;
  refused = HasTextRefusal;
  works = λ s. (s ≡ status.Done) ⊎ (s ≡ status.NoMemory);
}
