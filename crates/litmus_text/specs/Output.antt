-- The output: the outcomes of a table with their journals, and whether each expectation is met.
use Rattle.std.specs.Prelude.{◌++◌, ◌∷◌, [], List, Bool, true, false, not, codes, if◌then◌else◌}
use Rattle.std.specs.Fmt.{decimal, signed_decimal}
use Rattle.std.specs.List.{flat_map, join_with_byte, list_all, list_any}
use Rattle.values_undef.specs.declared.journal.Ending.TheVariants.{Done}
use Rattle.values_undef.specs.declared.journal.Entry.{Entry}
use Rattle.il_syntax.specs.declared.program.Program.{Program}
use Rattle.text_parts.specs.Lines.{Text, whole_line}
use Rattle.journal_text.specs.Report.{end_line, entry_lines}
use Rattle.litmus.specs.declared.outcome.Printed.{Printed}
use Rattle.litmus.specs.declared.table.Sample.{Sample}
use Rattle.litmus.specs.Outcome.{EndAndOutputs, by_thread, same_outcome}
use Rattle.litmus_text.specs.Expectation.{Expected}
use Rattle.litmus_text.specs.declared.expectation.ExpectedWord.{ExpectedWord}
use Rattle.litmus_text.specs.declared.expectation.ExpectedWord.TheVariants.{Output, Last}

-- Outcomes.

-- how many seeds have it, and the least of them
abbrev pub sample_line : Sample → Text
sample_line s = join_with_byte 32 (codes "outcome" ∷ (decimal s.count ∷ (decimal s.seed ∷ [])))

abbrev pub printed_line : Printed → Text
printed_line o = join_with_byte 32 (decimal o.thread ∷ (signed_decimal o.value ∷ []))

-- a line for each output
abbrev pub printed_lines : List Printed → Text
printed_lines outputs = flat_map (λ o. whole_line (printed_line o)) outputs

-- entries under their title line
abbrev pub titled_entries : Text → Program → List Entry → Text
titled_entries title p entries = whole_line title ++ entry_lines p entries

-- an outcome of a program, which has these outputs: its counts, its ending, its outputs, its journal, and the journal of the
-- program that was given
abbrev pub outcome_text : Program → Sample → List Printed → List Entry → Text
outcome_text p s outputs source =
    whole_line (sample_line s) ++ (whole_line (end_line s.ending) ++ (printed_lines outputs
    ++ (titled_entries (codes "journal") p s.journal ++ titled_entries (codes "source") p source)))

-- Expectations.

-- the output of a word
abbrev pub output_named : ExpectedWord → List Printed
output_named (Output o) = o ∷ []
output_named (Last l) = []

-- the outputs of the words, in their order
abbrev pub outputs_named : List ExpectedWord → List Printed
outputs_named words = flat_map output_named words

-- what an expectation says of the ending and of the outputs
abbrev pub wanted : Expected → EndAndOutputs
wanted e = record { ending = Done; outputs = by_thread (outputs_named e.words) }

-- `some` is met where there is what it speaks of, and `none` where there isn't
abbrev pub verdict : Expected → Bool → Bool
verdict e there = if e.some then there else not there

-- an expectation that names no last values, judged by outcomes
abbrev pub is_met : List EndAndOutputs → Expected → Bool
is_met outcomes e = verdict e (list_any (same_outcome (wanted e)) outcomes)

abbrev pub verdict_line : Bool → Text
verdict_line true = codes "met"
verdict_line false = codes "unmet"

-- a line for each expectation, by a test of whether it is met
abbrev pub verdict_lines : (Expected → Bool) → List Expected → Text
verdict_lines met expectations = flat_map (λ e. whole_line (verdict_line (met e))) expectations

-- each passes the test
abbrev pub are_met : (Expected → Bool) → List Expected → Bool
are_met met expectations = list_all met expectations
