-- The output: each outcome with a journal of a run that has it.
use Rattle.std.specs.Prelude.{ℕ, Bool, true, false, if◌then◌else◌, ◌+◌, List, [], ◌∷◌, ◌++◌, codes, length, slice_index_or}
use Rattle.std.specs.Fmt.{decimal}
use Rattle.std.specs.List.{list_all, flat_map, range_with_len}
use Rattle.values_undef.specs.declared.value.Val.{Val}
use Rattle.values_undef.specs.declared.value.Val.TheVariants.{Undef}
use Rattle.values_undef.specs.declared.journal.Ending.{Ending}
use Rattle.values_undef.specs.declared.journal.Ending.TheVariants.{Done, Failed, Spent}
use Rattle.il_syntax.specs.declared.program.Location.{Location}
use Rattle.il_syntax.specs.declared.program.Program.{Program}
use Rattle.il_syntax.specs.Text.{location_name}
use Rattle.text_parts.specs.Lines.{Text, whole_line}
use Rattle.journal_text.specs.Line.{value_word}
use Rattle.journal_text.specs.Report.{end_line}
use Rattle.litmus.specs.Outcome.{outcome_in}
use Rattle.litmus_text.specs.Output.{printed_lines, titled_entries}
use Rattle.outcome_list.specs.declared.found.Found.{Found}

-- the name of location i and its last value, the one of this place: `x=1`
abbrev pub value_line : List Location → List Val → ℕ → ℕ → Text
value_line locations values from i = location_name locations i ++ (61 ∷ value_word (slice_index_or values (from + i) Undef))

-- a line for each location, whose values begin at this place
abbrev pub value_lines : List Location → List Val → ℕ → Text
value_lines locations values from = flat_map (λ i. whole_line (value_line locations values from i)) (range_with_len 0 (length locations))

-- the last values are told where the run is done
abbrev pub final_lines : Program → Ending → List Val → Text
final_lines p Done values = value_lines p.na values 0 ++ value_lines p.atomic values (length p.na)
final_lines p Failed values = []
final_lines p Spent values = []

-- an outcome: its ending, the outputs by thread, the last values, and the journal
abbrev pub found_text : Program → Found → Text
found_text p f =
    whole_line (codes "outcome") ++ (whole_line (end_line f.outcome.ending) ++ (printed_lines (outcome_in f.journal (length p.threads)).outputs
    ++ (final_lines p f.outcome.ending f.outcome.values ++ titled_entries (codes "journal") p f.journal)))

-- how many there are
abbrev pub outcomes_line : ℕ → Text
outcomes_line n = codes "outcomes " ++ decimal n

-- the ending is that of a run that is done
abbrev pub is_done_ending : Ending → Bool
is_done_ending Done = true
is_done_ending Failed = false
is_done_ending Spent = false

-- each of them is done
abbrev pub are_all_done : List Found → Bool
are_all_done list = list_all (λ f. is_done_ending f.outcome.ending) list

-- then they are those of every greater budget
abbrev pub budget_lines : List Found → Text
budget_lines list = if are_all_done list then whole_line (codes "every budget") else []
