use Rattle.std.proofs.Common.{◌≡◌}
use Rattle.il_reader.proofs.Callers.{only, exact}
use Rattle.pair_text.specs.Reading.{ReadsPair, IsFirstPairRefusal}
use Rattle.pair_text.proofs.OneAnswer.{one_pair, one_pair_refusal, pair_unrefused}
use Rattle.pair_text.proofs.input.read_pair.Goals as goal

pub returns-clause-only : goal.returns-clause-only
returns-clause-only c p q reads =
    let input = c.args.input.now in
    only (λ x. ReadsPair input x.source x.target) (IsFirstPairRefusal input) (λ x. (x.source ≡ p) × (x.target ≡ q)) (λ x other. one_pair input x.source x.target p q other reads)
    (λ r refused. pair_unrefused input p q r reads refused) c.pair.result c.pair.ensures.answer

pub returns-clause-exact : goal.returns-clause-exact
returns-clause-exact c r refused =
    let input = c.args.input.now in
    exact (λ x. ReadsPair input x.source x.target) (IsFirstPairRefusal input) r (λ x reads. pair_unrefused input x.source x.target r reads refused)
    (λ q other. one_pair_refusal input q r other refused) c.pair.result c.pair.ensures.answer
