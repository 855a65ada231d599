-- `graph` has one output for an input, it answers as `replay` does, and of a report it tells the graph of the run.
use Rattle.std.proofs.Common.{◌≡◌, ◌∙◌, ◌⊎◌, ℕ, List, length, inl, inr, refl, sym, subst}
use Rattle.values_undef.specs.declared.journal.Entry.{Entry}
use Rattle.values_undef.specs.declared.journal.Ending.{Ending}
use Rattle.il_syntax.specs.declared.program.Program.{Program}
use Rattle.il_parser.proofs.Callers.{spelled_well_formed}
use Rattle.il_reader.specs.Refusal.{Refusal}
use Rattle.thread_core.proofs.Callers.{well_formed_proper}
use Rattle.thread_core.specs.Programs.{IsProperProgram}
use Rattle.view_machine.specs.Runs.{IsJournalRun}
use Rattle.replay.specs.declared.verdict.Verdict.{Verdict}
use Rattle.replay.specs.declared.verdict.Verdict.TheVariants.{Run, NotAStep}
use Rattle.replay.specs.Verdicts.{IsVerdict}
use Rattle.replay.proofs.Callers.{no_journal_lacks_a_verdict, verdicts_one}
use Rattle.replay_text.specs.declared.fault.TextRule.{TextRule}
use Rattle.replay_text.specs.Refusal.{text_rule_word}
use Rattle.replay_text.specs.Reading.{ReadsReplay, IsFirstTextRefusal}
use Rattle.replay_text.proofs.Callers.{each_input, one_replay, replay_unrefused}
use Rattle.exec_graph.specs.Calls.{calls_in}
use Rattle.exec_graph.proofs.Callers.{one_reads, one_races, none_lacks_reads, none_lacks_races}
use Rattle.graph_text.specs.GraphText.{graph_text}
use Rattle.tool.specs.declared.status.Status.{Status}
use Rattle.tool.specs.declared.status.Status.TheVariants as status
use Rattle.tool.specs.Refusals.{refusal_line}
use Rattle.tool.specs.Replay.{IsVerdictOutput, IsJudgement, other_ending_line, no_entry_line}
use Rattle.tool.specs.Graph.{IsGraphOf, IsGraphedVerdict, IsGraphing, IsGraphOutput}
use Rattle.tool.specs.Laws.{GraphsHaveOneOutput, NoInputLacksAGraph, GraphsAnswerAsReplay, AnswersAsReplay, ReportsAreGraphed}
use Rattle.tool.proofs.OneOutput.{SameOutput, same_ending, replay_refused_once}
use Rattle.tool.proofs.JudgedReports.{reads as report_reads}
use Rattle.reports.specs.Runs.{run_ending}

proper_of : (bytes : List ℕ) (p : Program) (entries : List Entry) (e : Ending) → ReadsReplay bytes p entries e → IsProperProgram p
proper_of bytes p entries e r = well_formed_proper p (spelled_well_formed r.program p r.spells)

-- ---- one output

one_graph : (p : Program) (journal : List Entry) (one other : List ℕ) → IsProperProgram p → IsJournalRun p journal → IsGraphOf p journal one → IsGraphOf p journal other → one ≡ other
one_graph p journal one other ok run x y =
    let reads = one_reads p journal x.reads y.reads ok run x.from y.from in
    let races = one_races p journal x.races y.races x.raced y.raced in
    x.written ∙ (λ i. graph_text (reads i) (races i) (length journal)) ∙ sym y.written

graphed_once : (p : Program) (journal : List Entry) (given : Ending) (v : Verdict) (one other : List ℕ) (s t : Status) → IsProperProgram p → IsVerdict p journal v
    → IsGraphedVerdict p journal given v one s → IsGraphedVerdict p journal given v other t → SameOutput one other s t
graphed_once p journal given (Run e) one other s t ok judged (inl x) (inl y) = (one_graph p journal one other ok judged.0 x.1 y.1, x.2 ∙ sym y.2)
graphed_once p journal given (Run e) one other s t ok judged (inl x) (inr y) = absurd (y.0 x.0)
graphed_once p journal given (Run e) one other s t ok judged (inr x) (inl y) = absurd (x.0 y.0)
graphed_once p journal given (Run e) one other s t ok judged (inr x) (inr y) = (x.1 ∙ sym y.1, x.2 ∙ sym y.2)
graphed_once p journal given (NotAStep k w) one other s t ok judged x y = (x.0 ∙ sym y.0, x.1 ∙ sym y.1)

-- what is written of the verdict that the input has
module _ (bytes : List ℕ) (p : Program) (entries : List Entry) (e : Ending) (v : Verdict) (reads : ReadsReplay bytes p entries e) (judged : IsVerdict p entries v) where
  own_verdict : (q : Program) (ks : List Entry) (w : Verdict) → q ≡ p → ks ≡ entries → IsVerdict q ks w → w ≡ v
  own_verdict q ks w same_p same_ks is =
      verdicts_one p entries w v (subst (λ (r : Program). IsVerdict r entries w) same_p (subst (λ (ls : List Entry). IsVerdict q ls w) same_ks is)) judged

  graphed_of : (out : List ℕ) (s : Status) → IsGraphing bytes out s → IsGraphedVerdict p entries e v out s
  graphed_of out s x =
      let same = one_replay bytes x.program p x.entries entries x.ending e x.reads reads in
      let verdict = own_verdict x.program x.entries x.verdict same.0 same.1 x.judged in
      subst (λ (q : Program). IsGraphedVerdict q entries e v out s) same.0
      (subst (λ (ks : List Entry). IsGraphedVerdict x.program ks e v out s) same.1
      (subst (λ (given : Ending). IsGraphedVerdict x.program x.entries given v out s) same.2
      (subst (λ (w : Verdict). IsGraphedVerdict x.program x.entries x.ending w out s) verdict x.output)))

  told_of : (out : List ℕ) (s : Status) → IsJudgement bytes out s → IsVerdictOutput e v out s
  told_of out s x =
      let same = one_replay bytes x.program p x.entries entries x.ending e x.reads reads in
      let verdict = own_verdict x.program x.entries x.verdict same.0 same.1 x.judged in
      subst (λ (given : Ending). IsVerdictOutput given v out s) same.2 (subst (λ (w : Verdict). IsVerdictOutput x.ending w out s) verdict x.output)

graphing_once : (bytes one other : List ℕ) (s t : Status) → IsGraphing bytes one s → IsGraphing bytes other t → SameOutput one other s t
graphing_once bytes one other s t x y =
    graphed_once y.program y.entries y.ending y.verdict one other s t (proper_of bytes y.program y.entries y.ending y.reads) y.judged
    (graphed_of bytes y.program y.entries y.ending y.verdict y.reads y.judged one s x) y.output

pub graphs_have_one_output : GraphsHaveOneOutput
graphs_have_one_output bytes one other s t (inl x) (inl y) = graphing_once bytes one other s t x y
graphs_have_one_output bytes one other s t (inl x) (inr y) = absurd (replay_unrefused bytes x.program x.entries x.ending y.refusal x.reads y.first)
graphs_have_one_output bytes one other s t (inr x) (inl y) = absurd (replay_unrefused bytes y.program y.entries y.ending x.refusal y.reads x.first)
graphs_have_one_output bytes one other s t (inr x) (inr y) = replay_refused_once bytes one other s t x y

-- ---- as `replay`

answered : (p : Program) (journal : List Entry) (given : Ending) (v : Verdict) (out answer : List ℕ) (s t : Status) → IsGraphedVerdict p journal given v out s → IsVerdictOutput given v answer t → AnswersAsReplay out answer s t
answered p journal given (Run e) out answer s t (inl x) (inl y) = record { status = x.2 ∙ sym y.2; same = λ no. absurd (no x.2) }
answered p journal given (Run e) out answer s t (inl x) (inr y) = absurd (y.0 x.0)
answered p journal given (Run e) out answer s t (inr x) (inl y) = absurd (x.0 y.0)
answered p journal given (Run e) out answer s t (inr x) (inr y) = record { status = x.2 ∙ sym y.2; same = λ no. x.1 ∙ sym y.1 }
answered p journal given (NotAStep k w) out answer s t x y = record { status = x.1 ∙ sym y.1; same = λ no. x.0 ∙ sym y.0 }

pub graphs_answer_as_replay : GraphsAnswerAsReplay
graphs_answer_as_replay bytes out answer s t (inl x) (inl y) =
    answered x.program x.entries x.ending x.verdict out answer s t x.output (told_of bytes x.program x.entries x.ending x.verdict x.reads x.judged answer t y)
graphs_answer_as_replay bytes out answer s t (inl x) (inr y) = absurd (replay_unrefused bytes x.program x.entries x.ending y.refusal x.reads y.first)
graphs_answer_as_replay bytes out answer s t (inr x) (inl y) = absurd (replay_unrefused bytes y.program y.entries y.ending x.refusal y.reads x.first)
graphs_answer_as_replay bytes out answer s t (inr x) (inr y) = let same = replay_refused_once bytes out answer s t x y in record { status = same.1; same = λ no. same.0 }

-- ---- the graph of a report

only_graph : (p : Program) (journal : List Entry) (e : Ending) (out : List ℕ) (s : Status) → IsGraphedVerdict p journal e (Run e) out s → IsGraphOf p journal out × (s ≡ status.Done)
only_graph p journal e out s (inl x) = (x.1, x.2)
only_graph p journal e out s (inr x) = absurd (x.0 refl)

pub reports_are_graphed : ReportsAreGraphed
reports_are_graphed bytes report out result s t (inl x) =
    let e = run_ending t.run in
    only_graph t.run.target t.run.journal e out s (graphed_of report t.run.target t.run.journal e (Run e) (report_reads bytes report result t) (t.reported.run, refl) out s x)
reports_are_graphed bytes report out result s t (inr f) =
    absurd (replay_unrefused report t.run.target t.run.journal (run_ending t.run) f.refusal (report_reads bytes report result t) f.first)

-- ---- no input lacks an output

module _ (bytes : List ℕ) (none : (out : List ℕ) (s : Status) → IsGraphOutput bytes out s → ⊥) (p : Program) (entries : List Entry) (e : Ending) (reads : ReadsReplay bytes p entries e) where
  outputs_none : (v : Verdict) → IsVerdict p entries v → (out : List ℕ) (s : Status) → IsGraphedVerdict p entries e v out s → ⊥
  outputs_none v judged out s output = none out s (inl (record { program = p; entries = entries; ending = e; verdict = v; reads = reads; judged = judged; output = output }))

  -- a graph has its text
  run_none : IsVerdict p entries (Run e) → ⊥
  run_none judged = none_lacks_reads (calls_in p entries) (length entries) (λ links from. none_lacks_races (calls_in p entries) (length entries) (λ others raced.
      outputs_none (Run e) judged (graph_text links others (length entries)) status.Done
      (inl (refl, record { reads = links; races = others; from = from; raced = raced; written = refl }, refl))))

  ending_none : (f : Ending) → IsVerdict p entries (Run f) → (f ≡ e) ⊎ (f ≡ e → ⊥) → ⊥
  ending_none f judged (inl same) = run_none (subst (λ (g : Ending). IsVerdict p entries (Run g)) same judged)
  ending_none f judged (inr apart) = outputs_none (Run f) judged (other_ending_line f) status.No (inr (apart, refl, refl))

  verdict_none : (v : Verdict) → IsVerdict p entries v → ⊥
  verdict_none (Run f) judged = ending_none f judged (same_ending f e)
  verdict_none (NotAStep k w) judged = outputs_none (NotAStep k w) judged (no_entry_line k w) status.No (refl, refl)

pub no_input_lacks_a_graph : NoInputLacksAGraph
no_input_lacks_a_graph bytes none = go (each_input bytes)
  where
    go : ((p : Program) × (es : List Entry) × (e : Ending) × ReadsReplay bytes p es e) ⊎ ((r : Refusal TextRule) × IsFirstTextRefusal bytes r) → ⊥
    go (inl x) = no_journal_lacks_a_verdict x.0 x.1 (verdict_none bytes none x.0 x.1 x.2 x.3)
    go (inr x) =
        none (refusal_line (text_rule_word x.0.rule) x.0.line x.0.column) status.Input (inr (record { refusal = x.0; first = x.1; written = refl; status = refl }))
