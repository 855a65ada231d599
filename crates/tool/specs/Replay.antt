-- `replay`: whether the journal of an input is a run of its program.
use Rattle.std.specs.Prelude.{◌≡◌, ◌≢◌, ◌⊎◌, ℕ, false, List, Some, ◌++◌, codes}
use Rattle.std.specs.Fmt.{decimal}
use Rattle.values_undef.specs.declared.journal.Entry.{Entry}
use Rattle.values_undef.specs.declared.journal.Ending.{Ending}
use Rattle.values_undef.specs.declared.journal.Ending.TheVariants as ending
use Rattle.il_syntax.specs.declared.program.Program.{Program}
use Rattle.il_reader.specs.Refusal.{Refusal}
use Rattle.replay_text.specs.declared.fault.TextRule.{TextRule}
use Rattle.replay_text.specs.Refusal.{text_rule_word}
use Rattle.replay_text.specs.Reading.{ReadsReplay, IsFirstTextRefusal}
use Rattle.replay.specs.declared.verdict.Why.{Why}
use Rattle.replay.specs.declared.verdict.Why.TheVariants as why
use Rattle.replay.specs.declared.verdict.Verdict.{Verdict}
use Rattle.replay.specs.declared.verdict.Verdict.TheVariants.{Run, NotAStep}
use Rattle.replay.specs.Verdicts.{IsVerdict}
use Rattle.tool.specs.declared.status.Status.{Status}
use Rattle.tool.specs.declared.status.Status.TheVariants as status
use Rattle.tool.specs.Meaning.{CommandMeaning}
use Rattle.tool.specs.Refusals.{refusal_line}

-- The lines of verdicts.

abbrev pub ending_word : Ending → List ℕ
ending_word ending.Done = codes "done"
ending_word ending.Failed = codes "failed"
ending_word ending.Spent = codes "spent"

-- a journal that is a run, with its ending
abbrev pub run_line : Ending → List ℕ
run_line e = codes "run " ++ (ending_word e ++ codes "\n")

-- a run whose ending is this one and not the one that was given
abbrev pub other_ending_line : Ending → List ℕ
other_ending_line e = codes "no end " ++ (ending_word e ++ codes "\n")

abbrev pub why_word : Why → List ℕ
why_word why.Thread = codes "thread"
why_word why.After = codes "after"
why_word (why.Silent did) = codes "silent"
why_word why.Choice = codes "choice"
why_word (why.Event is) = codes "event"

-- a journal whose first entry that is no run's is this one, and why
abbrev pub no_entry_line : ℕ → Why → List ℕ
no_entry_line entry why = codes "no entry " ++ (decimal entry ++ (codes " " ++ (why_word why ++ codes "\n")))

-- What is written of a verdict on a journal whose `end` line gives this ending.
abbrev pub IsVerdictOutput : Ending → Verdict → List ℕ → Status → Type 0
IsVerdictOutput given (Run e) out result =
    ((e ≡ given) × (out ≡ run_line e) × (result ≡ status.Done)) ⊎ ((e ≢ given) × (out ≡ other_ending_line e) × (result ≡ status.No))
IsVerdictOutput given (NotAStep k w) out result = (out ≡ no_entry_line k w) × (result ≡ status.No)

-- The input is no program with a journal; the output says which rule it breaks first, and where.
pub record IsReplayRefusal (bytes out : List ℕ) (result : Status) : Type 0 where
  pub refusal : Refusal TextRule
  pub first : IsFirstTextRefusal bytes refusal
  pub written : out ≡ refusal_line (text_rule_word refusal.rule) refusal.line refusal.column
  pub status : result ≡ status.Input

-- The input is a program with a journal and its ending, and the output is the verdict.
pub record IsJudgement (bytes out : List ℕ) (result : Status) : Type 0 where
  pub program : Program
  pub entries : List Entry
  pub ending : Ending
  pub verdict : Verdict
  pub reads : ReadsReplay bytes program entries ending
  pub judged : IsVerdict program entries verdict
  pub output : IsVerdictOutput ending verdict out result

abbrev pub IsReplayOutput : List ℕ → List ℕ → Status → Type 0
IsReplayOutput bytes out result = IsJudgement bytes out result ⊎ IsReplayRefusal bytes out result

abbrev pub replay_meaning : CommandMeaning
replay_meaning = record {
  waits = false;
  reports = false;
  limit = Some 134217728;
  condition = Unit {0};
  output = IsReplayOutput;
  accepted = λ bytes. (p : Program) × (entries : List Entry) × (e : Ending) × ReadsReplay bytes p entries e;
  refused = λ bytes. (r : Refusal TextRule) × IsFirstTextRefusal bytes r;
  works = λ s. (s ≡ status.Done) ⊎ ((s ≡ status.No) ⊎ (s ≡ status.NoMemory));
}
