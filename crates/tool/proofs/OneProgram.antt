-- `opt` has one output for an input, and `gen` has one.
use Rattle.std.proofs.Common.{◌≡◌, ◌∙◌, ℕ, List, length, inl, inr, sym, ap, subst}
use Rattle.values_undef.specs.Journal.{ending_in}
use Rattle.values_undef.specs.declared.journal.Entry.{Entry}
use Rattle.il_syntax.specs.Text.{program_text}
use Rattle.il_syntax.specs.declared.program.Program.{Program}
use Rattle.il_grammar.specs.declared.rule.Rule.{Rule}
use Rattle.il_reader.specs.Refusal.{Refusal}
use Rattle.il_grammar.specs.Rule.{rule_word}
use Rattle.il_parser.proofs.Callers.{one_first, one_program, spelled_unrefused}
use Rattle.gen_program.specs.Generated.{generated}
use Rattle.pass_chain.specs.Counts.{counts_of}
use Rattle.pass_chain.specs.declared.chains.ProgramChain.{ProgramChain}
use Rattle.pass_chain.proofs.Callers.{opt_all_is_one}
use Rattle.words.specs.declared.command.Form.{Form}
use Rattle.words.specs.declared.command.Form.TheVariants.{Text, Summary}
use Rattle.tool.specs.declared.status.Status.{Status}
use Rattle.tool.specs.Refusals.{refusal_line}
use Rattle.reports.specs.Targets.{IsOptimised, target_program}
use Rattle.reports.proofs.Callers.{targets_are_one}
use Rattle.tool.specs.Opt.{IsOptimisedText, IsOptOutput}
use Rattle.tool.specs.Gen.{IsChainSummary, IsSummary, IsForm, IsGenOutput, summary_lines}
use Rattle.tool.specs.Laws.{OptsHaveOneOutput, GensHaveOneOutput}
use Rattle.tool.proofs.DrawnWalks.{walked_once}

optimised_once : (bytes one other : List ℕ) (s t : Status) → IsOptimisedText bytes one s → IsOptimisedText bytes other t → (one ≡ other) × (s ≡ t)
optimised_once bytes one other s t x y =
    let same = one_program bytes x.program y.program x.spelled y.spelled in
    let one_target = (targets_are_one x.program x.target y.target).0 x.optimised (subst (λ (p : Program). IsOptimised p y.target) (sym same) y.optimised) in
    (x.written ∙ ap program_text one_target ∙ sym y.written, x.status ∙ sym y.status)

pub opts_have_one_output : OptsHaveOneOutput
opts_have_one_output bytes one other s t (inl x) (inl y) = optimised_once bytes one other s t x y
opts_have_one_output bytes one other s t (inl x) (inr y) = absurd (spelled_unrefused bytes x.program y.refusal x.spelled y.first)
opts_have_one_output bytes one other s t (inr x) (inl y) = absurd (spelled_unrefused bytes y.program x.refusal y.spelled x.first)
opts_have_one_output bytes one other s t (inr x) (inr y) =
    let same = one_first bytes x.refusal y.refusal x.first y.first in
    (x.written ∙ ap (λ (r : Refusal Rule). refusal_line (rule_word r.rule) r.line r.column) same ∙ sym y.written, x.status ∙ sym y.status)

told_once : (number : ℕ) (c : ProgramChain) (one other : List ℕ) → IsChainSummary number c one → IsChainSummary number c other → one ≡ other
told_once number c one other x y =
    let journals = walked_once _ number 1000 (target_program c) x.journal y.journal x.walk y.walk in
    x.written ∙ ap (λ (js : List Entry). summary_lines (counts_of c) (length js) (ending_in js (length (target_program c).threads))) journals ∙ sym y.written

summary_once : (number : ℕ) (p : Program) (one other : List ℕ) → IsSummary number p one → IsSummary number p other → one ≡ other
summary_once number p one other x y =
    let same = opt_all_is_one p x.chain y.chain x.optimised y.optimised in
    told_once number x.chain one other x.told (subst (λ (c : ProgramChain). IsChainSummary number c other) (sym same) y.told)

form_once : (form : Form) (number functions : ℕ) (one other : List ℕ) → IsForm form number functions one → IsForm form number functions other → one ≡ other
form_once Text number functions one other x y = x ∙ sym y
form_once Summary number functions one other x y = summary_once number (generated number functions) one other x y

pub gens_have_one_output : GensHaveOneOutput
gens_have_one_output number functions form one other s t x y = (form_once form number functions one other x.0 y.0, x.1 ∙ sym y.1)
