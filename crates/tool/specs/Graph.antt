-- `graph`: where each entry of a run's journal that reads a message reads from, and each race.
use Rattle.std.specs.Prelude.{◌≡◌, ◌≢◌, ◌⊎◌, ℕ, false, List, length, Some}
use Rattle.values_undef.specs.declared.journal.Entry.{Entry}
use Rattle.values_undef.specs.declared.journal.Ending.{Ending}
use Rattle.il_syntax.specs.declared.program.Program.{Program}
use Rattle.il_reader.specs.Refusal.{Refusal}
use Rattle.replay_text.specs.declared.fault.TextRule.{TextRule}
use Rattle.replay_text.specs.Reading.{ReadsReplay, IsFirstTextRefusal}
use Rattle.replay.specs.declared.verdict.Verdict.{Verdict}
use Rattle.replay.specs.declared.verdict.Verdict.TheVariants.{Run, NotAStep}
use Rattle.replay.specs.Verdicts.{IsVerdict}
use Rattle.exec_graph.specs.declared.links.Link.{Link}
use Rattle.exec_graph.specs.Calls.{calls_in}
use Rattle.exec_graph.specs.Links.{AreReads, AreRaces}
use Rattle.graph_text.specs.GraphText.{graph_text}
use Rattle.tool.specs.declared.status.Status.{Status}
use Rattle.tool.specs.declared.status.Status.TheVariants as status
use Rattle.tool.specs.Meaning.{CommandMeaning}
use Rattle.tool.specs.Replay.{other_ending_line, no_entry_line, IsReplayRefusal}

-- The bytes are the text of the graph of the journal.
pub record IsGraphOf (p : Program) (journal : List Entry) (out : List ℕ) : Type 0 where
  pub reads : List Link
  pub races : List Link
  pub from : AreReads (calls_in p journal) (length journal) reads
  pub raced : AreRaces (calls_in p journal) (length journal) races
  pub written : out ≡ graph_text reads races (length journal)

-- What is written of a verdict on a journal whose `end` line gives this ending: of a run with that ending its graph, and
-- of each other journal what `replay` writes.
abbrev pub IsGraphedVerdict : Program → List Entry → Ending → Verdict → List ℕ → Status → Type 0
IsGraphedVerdict p journal given (Run e) out result =
    ((e ≡ given) × IsGraphOf p journal out × (result ≡ status.Done)) ⊎ ((e ≢ given) × (out ≡ other_ending_line e) × (result ≡ status.No))
IsGraphedVerdict p journal given (NotAStep k w) out result = (out ≡ no_entry_line k w) × (result ≡ status.No)

-- The input is a program with a journal and its ending, and the output is that of the verdict.
pub record IsGraphing (bytes out : List ℕ) (result : Status) : Type 0 where
  pub program : Program
  pub entries : List Entry
  pub ending : Ending
  pub verdict : Verdict
  pub reads : ReadsReplay bytes program entries ending
  pub judged : IsVerdict program entries verdict
  pub output : IsGraphedVerdict program entries ending verdict out result

abbrev pub IsGraphOutput : List ℕ → List ℕ → Status → Type 0
IsGraphOutput bytes out result = IsGraphing bytes out result ⊎ IsReplayRefusal bytes out result

abbrev pub graph_meaning : CommandMeaning
graph_meaning = record {
  waits = false;
  reports = false;
  limit = Some 134217728;
  condition = Unit {0};
  output = IsGraphOutput;
  accepted = λ bytes. (p : Program) × (entries : List Entry) × (e : Ending) × ReadsReplay bytes p entries e;
  refused = λ bytes. (r : Refusal TextRule) × IsFirstTextRefusal bytes r;
  works = λ s. (s ≡ status.Done) ⊎ ((s ≡ status.No) ⊎ (s ≡ status.NoMemory));
}
