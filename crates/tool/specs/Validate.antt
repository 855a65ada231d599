-- `validate`: whether the functions of one program may stand for those of another.
use Rattle.std.specs.Prelude.{◌≡◌, ◌⊎◌, ℕ, false, List, Some, ◌++◌, codes}
use Rattle.std.specs.Fmt.{decimal}
use Rattle.il_syntax.specs.declared.program.Program.{Program}
use Rattle.validator.specs.declared.fault.Fault.{Fault}
use Rattle.validator.specs.declared.fault.Fault.TheVariants.{V1, V2, V3, V4, V5, V6, V7}
use Rattle.validator.specs.Shape.{SameShape}
use Rattle.validator.specs.Programs.{IsFirstRefused}
use Rattle.parallel_driver.specs.Neighbours.{IsAcceptedNeighbour}
use Rattle.il_reader.specs.Refusal.{Refusal}
use Rattle.pair_text.specs.declared.fault.PairRule.{PairRule}
use Rattle.pair_text.specs.Refusals.{pair_rule_word}
use Rattle.pair_text.specs.Reading.{ReadsPair, IsFirstPairRefusal}
use Rattle.tool.specs.declared.status.Status.{Status}
use Rattle.tool.specs.declared.status.Status.TheVariants as status
use Rattle.tool.specs.Meaning.{CommandMeaning}
use Rattle.tool.specs.Refusals.{refusal_line}

-- The lines of verdicts.

abbrev pub accepted_pair_line : List ℕ
accepted_pair_line = codes "accepted\n"

-- locations, threads or heads of functions differ
abbrev pub other_shape_line : List ℕ
other_shape_line = codes "refused shape\n"

abbrev pub fault_word : Fault → List ℕ
fault_word V1 = codes "V1"
fault_word V2 = codes "V2"
fault_word V3 = codes "V3"
fault_word V4 = codes "V4"
fault_word V5 = codes "V5"
fault_word V6 = codes "V6"
fault_word V7 = codes "V7"

-- the first function that is refused, by its number, and its first fault
abbrev pub refused_function_line : ℕ → ℕ → Fault → List ℕ
refused_function_line function site why = codes "refused " ++ (decimal function ++ (codes " " ++ (decimal site ++ (codes " " ++ (fault_word why ++ codes "\n")))))

-- What is written of two programs: the shape comes first, then the functions by their numbers.
pub data IsPairVerdict (source target : Program) (out : List ℕ) (result : Status) : Type 0 where
  other_shape : (SameShape source target → ⊥) → out ≡ other_shape_line → result ≡ status.No → IsPairVerdict source target out result
  refused_function : (k site : ℕ) (why : Fault) → SameShape source target → IsFirstRefused source.functions target.functions k site why
      → out ≡ refused_function_line k site why → result ≡ status.No → IsPairVerdict source target out result
  accepted_pair : IsAcceptedNeighbour source target → out ≡ accepted_pair_line → result ≡ status.Done → IsPairVerdict source target out result

-- The input is no pair of programs; the output says which rule it breaks first, and where.
pub record IsValidateRefusal (bytes out : List ℕ) (result : Status) : Type 0 where
  pub refusal : Refusal PairRule
  pub first : IsFirstPairRefusal bytes refusal
  pub written : out ≡ refusal_line (pair_rule_word refusal.rule) refusal.line refusal.column
  pub status : result ≡ status.Input

-- The input is a pair of programs, and the output is the verdict.
pub record IsValidation (bytes out : List ℕ) (result : Status) : Type 0 where
  pub source : Program
  pub target : Program
  pub reads : ReadsPair bytes source target
  pub verdict : IsPairVerdict source target out result

abbrev pub IsValidateOutput : List ℕ → List ℕ → Status → Type 0
IsValidateOutput bytes out result = IsValidation bytes out result ⊎ IsValidateRefusal bytes out result

abbrev pub validate_meaning : CommandMeaning
validate_meaning = record {
  waits = false;
  reports = false;
  limit = Some 4194304;
  condition = Unit {0};
  output = IsValidateOutput;
  accepted = λ bytes. (source : Program) × (target : Program) × ReadsPair bytes source target;
  refused = λ bytes. (r : Refusal PairRule) × IsFirstPairRefusal bytes r;
  works = λ s. (s ≡ status.Done) ⊎ ((s ≡ status.No) ⊎ (s ≡ status.NoMemory));
}
