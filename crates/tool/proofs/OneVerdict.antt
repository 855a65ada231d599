-- `validate` has one output for an input, and accepts the programs of a chain.
use Rattle.std.proofs.Common.{◌≡◌, ◌∙◌, ℕ, List, inl, inr, refl, sym, ap, subst}
use Rattle.il_syntax.specs.declared.program.Program.{Program}
use Rattle.validator.proofs.Callers.{one_first_refused, none_refused}
use Rattle.pass_chain.specs.declared.chains.ProgramChain.{ProgramChain}
use Rattle.parallel_driver.specs.Neighbours.{IsAcceptedNeighbour, AreNeighbours}
use Rattle.parallel_driver.proofs.Callers.{chains_are_accepted}
use Rattle.il_reader.specs.Refusal.{Refusal}
use Rattle.pair_text.specs.declared.fault.PairRule.{PairRule}
use Rattle.pair_text.specs.Refusals.{pair_rule_word}
use Rattle.pair_text.specs.Reading.{ReadsPair}
use Rattle.pair_text.proofs.Callers.{one_pair, one_pair_refusal, pair_unrefused}
use Rattle.tool.specs.declared.status.Status.{Status}
use Rattle.tool.specs.declared.status.Status.TheVariants as status
use Rattle.tool.specs.Refusals.{refusal_line}
use Rattle.tool.specs.Validate.{accepted_pair_line, refused_function_line, IsPairVerdict, other_shape, refused_function, accepted_pair, IsValidateRefusal, IsValidation}
use Rattle.tool.specs.Laws.{ValidatesHaveOneOutput, ChainsValidate, AreNextInChain, by_store_forwarding, by_load_introduction, by_load_forwarding, by_store_removal}

abbrev SameOutput : (one other : List ℕ) → (s t : Status) → Type 0
SameOutput one other s t = (one ≡ other) × (s ≡ t)

-- there is one verdict

one_verdict : (p q : Program) (one other : List ℕ) (s t : Status) → IsPairVerdict p q one s → IsPairVerdict p q other t → SameOutput one other s t
one_verdict p q one other s t (other_shape apart written is) (other_shape apart' written' is') = (written ∙ sym written', is ∙ sym is')
one_verdict p q one other s t (other_shape apart written is) (refused_function k site why shape first written' is') = absurd (apart shape)
one_verdict p q one other s t (other_shape apart written is) (accepted_pair all written' is') = absurd (apart all.shape)
one_verdict p q one other s t (refused_function k site why shape first written is) (other_shape apart written' is') = absurd (apart shape)
one_verdict p q one other s t (refused_function k site why shape first written is) (refused_function k' site' why' shape' first' written' is') =
    let same = one_first_refused p.functions q.functions k k' site site' why why' first first' in
    (written ∙ (λ i. refused_function_line (same.0 i) (same.1 i) (same.2 i)) ∙ sym written', is ∙ sym is')
one_verdict p q one other s t (refused_function k site why shape first written is) (accepted_pair all written' is') = absurd (none_refused p.functions q.functions k site why all.functions first)
one_verdict p q one other s t (accepted_pair all written is) (other_shape apart written' is') = absurd (apart all.shape)
one_verdict p q one other s t (accepted_pair all written is) (refused_function k site why shape first written' is') = absurd (none_refused p.functions q.functions k site why all.functions first)
one_verdict p q one other s t (accepted_pair all written is) (accepted_pair all' written' is') = (written ∙ sym written', is ∙ sym is')

validated_once : (bytes one other : List ℕ) (s t : Status) → IsValidation bytes one s → IsValidation bytes other t → SameOutput one other s t
validated_once bytes one other s t x y =
    let same = one_pair bytes x.source x.target y.source y.target x.reads y.reads in
    one_verdict y.source y.target one other s t (subst (λ (q : Program). IsPairVerdict y.source q one s) same.1 (subst (λ (p : Program). IsPairVerdict p x.target one s) same.0 x.verdict)) y.verdict

validate_refused_once : (bytes one other : List ℕ) (s t : Status) → IsValidateRefusal bytes one s → IsValidateRefusal bytes other t → SameOutput one other s t
validate_refused_once bytes one other s t x y =
    let same = one_pair_refusal bytes x.refusal y.refusal x.first y.first in
    (x.written ∙ ap (λ (r : Refusal PairRule). refusal_line (pair_rule_word r.rule) r.line r.column) same ∙ sym y.written, x.status ∙ sym y.status)

pub validates_have_one_output : ValidatesHaveOneOutput
validates_have_one_output bytes one other s t (inl x) (inl y) = validated_once bytes one other s t x y
validates_have_one_output bytes one other s t (inl x) (inr y) = absurd (pair_unrefused bytes x.source x.target y.refusal x.reads y.first)
validates_have_one_output bytes one other s t (inr x) (inl y) = absurd (pair_unrefused bytes y.source y.target x.refusal y.reads x.first)
validates_have_one_output bytes one other s t (inr x) (inr y) = validate_refused_once bytes one other s t x y

-- programs of a chain

same_neighbour : (p q p' q' : Program) → p ≡ p' → q ≡ q' → IsAcceptedNeighbour p' q' → IsAcceptedNeighbour p q
same_neighbour p q p' q' e f h = subst (λ (r : Program). IsAcceptedNeighbour p r) (sym f) (subst (λ (r : Program). IsAcceptedNeighbour r q') (sym e) h)

next_accepted : (c : ProgramChain) (p q : Program) → AreNeighbours c → AreNextInChain c p q → IsAcceptedNeighbour p q
next_accepted c p q h (by_store_forwarding e f) = same_neighbour p q c.source c.stored e f h.stored
next_accepted c p q h (by_load_introduction e f) = same_neighbour p q c.stored c.introduced e f h.introduced
next_accepted c p q h (by_load_forwarding e f) = same_neighbour p q c.introduced c.loaded e f h.loaded
next_accepted c p q h (by_store_removal e f) = same_neighbour p q c.loaded c.undead e f h.undead

accepted_once : (bytes out : List ℕ) (s : Status) (p q : Program) → IsAcceptedNeighbour p q → ReadsPair bytes p q → IsValidation bytes out s → SameOutput out accepted_pair_line s status.Done
accepted_once bytes out s p q all reads x = validated_once bytes out accepted_pair_line s status.Done x (record { source = p; target = q; reads = reads; verdict = accepted_pair all refl refl })

pub chains_validate : ChainsValidate
chains_validate p source target c bytes out s formed made next reads (inl x) = accepted_once bytes out s source target (next_accepted c source target (chains_are_accepted p c formed made) next) reads x
chains_validate p source target c bytes out s formed made next reads (inr x) = absurd (pair_unrefused bytes source target x.refusal reads x.first)
