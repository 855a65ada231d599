use Rattle.std.proofs.Common.{◌≡◌}
use Rattle.il_reader.proofs.Callers.{only, exact}
use Rattle.litmus_text.specs.Reading.{ReadsLitmus, IsFirstLitmusRefusal}
use Rattle.litmus_text.proofs.OneInput.{one_input, one_refusal, input_unrefused}
use Rattle.litmus_text.proofs.input.read_litmus.Goals as goal

pub returns-clause-only : goal.returns-clause-only
returns-clause-only c p expectations reads =
    let input = c.args.input.now in
    only (λ x. ReadsLitmus c.args.finals input x.program x.expectations.items) (IsFirstLitmusRefusal c.args.finals input) (λ x. (x.program ≡ p) × (x.expectations.items ≡ expectations))
    (λ x other. one_input c.args.finals input x.program p x.expectations.items expectations other reads) (λ r refused. input_unrefused c.args.finals input p expectations r reads refused) c.read_input.result
    c.read_input.ensures.answer

pub returns-clause-exact : goal.returns-clause-exact
returns-clause-exact c r refused =
    let input = c.args.input.now in
    exact (λ x. ReadsLitmus c.args.finals input x.program x.expectations.items) (IsFirstLitmusRefusal c.args.finals input) r (λ x reads. input_unrefused c.args.finals input x.program x.expectations.items r reads refused)
    (λ q other. one_refusal c.args.finals input q r other refused) c.read_input.result c.read_input.ensures.answer
