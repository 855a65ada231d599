-- When an expectation is met by the outcomes of a list.
use Rattle.std.specs.Prelude.{◌&&◌, Bool, true, false, List, length, slice_index_or}
use Rattle.std.specs.List.{list_all, list_any}
use Rattle.std.specs.Ordering.{int_eq}
use Rattle.values_undef.specs.declared.value.Val.{Val}
use Rattle.values_undef.specs.declared.value.Val.TheVariants.{Def, Undef}
use Rattle.il_syntax.specs.declared.program.Program.{Program}
use Rattle.litmus.specs.Outcome.{outcome_in, same_outcome}
use Rattle.litmus_text.specs.Expectation.{Expected}
use Rattle.litmus_text.specs.Output.{verdict, wanted}
use Rattle.litmus_text.specs.declared.expectation.ExpectedWord.{ExpectedWord}
use Rattle.litmus_text.specs.declared.expectation.ExpectedWord.TheVariants.{Output, Last}
use Rattle.outcome_list.specs.declared.found.Found.{Found}

-- whether two values are the same
abbrev pub equal_values : Val → Val → Bool
equal_values (Def m) (Def n) = int_eq m n
equal_values Undef Undef = true
equal_values _ _ = false

-- the location that the word names has the last value that it names; the word of an output names no location
abbrev pub has_value : List Val → ExpectedWord → Bool
has_value values (Output o) = true
has_value values (Last l) = equal_values (slice_index_or values l.place Undef) l.value

-- a run of the list is done with just the outputs that are named, and has the last values that are named
abbrev pub is_as_expected : Program → Expected → Found → Bool
is_as_expected p e f = same_outcome (wanted e) (outcome_in f.journal (length p.threads)) && list_all (has_value f.outcome.values) e.words

-- `some` is met where there is such a run, and `none` where there is no such run
abbrev pub is_met_by : Program → List Found → Expected → Bool
is_met_by p list e = verdict e (list_any (is_as_expected p e) list)
