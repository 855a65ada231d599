-- Where no location may be named, expectations name outputs alone.
use Rattle.std.proofs.Common.{List, [], arith}
use Rattle.std.specs.List.{All}
use Rattle.std.proofs.lemmas.List.Elements.{All-weaker}
use Rattle.litmus_text.specs.Expectation.{Expected, FitsExpectation, FitsWord}
use Rattle.litmus_text.specs.Expectations.{ReadsExpectations, finished, unfinished}
use Rattle.litmus_text.specs.Laws.{NamesOutput, OutputsAloneAreNamed}
use Rattle.litmus_text.specs.declared.expectation.ExpectedWord.{ExpectedWord}
use Rattle.litmus_text.specs.declared.expectation.ExpectedWord.TheVariants.{Output, Last}
use Rattle.text_parts.specs.Lines.{Text}

no_last : (x : ExpectedWord) → FitsWord [] x → NamesOutput x
no_last (Output o) f = tt
no_last (Last l) f = let place = f.place in absurd (omega (arith, place))

all_outputs : (es : List Expected) → All (FitsExpectation []) es → All (λ (e : Expected). All NamesOutput e.words) es
all_outputs es h = All-weaker (FitsExpectation []) (λ (e : Expected). All NamesOutput e.words) (λ e f. All-weaker (FitsWord []) NamesOutput no_last e.words f) es h

of_text : (text : Text) (es : List Expected) → ReadsExpectations [] text es → All (λ (e : Expected). All NamesOutput e.words) es
of_text text es (finished h) = all_outputs es h.fit
of_text text es (unfinished h) = all_outputs es h.fit

pub outputs_alone : OutputsAloneAreNamed
outputs_alone input program es h = of_text h.expectations_text es h.reads
