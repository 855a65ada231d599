-- The line of an expectation: words with one blank between them.
use Rattle.std.specs.Prelude.{◌<◌, ◌≤◌, ◌++◌, Bool, true, false, List, [], ◌∷◌, codes, length, map}
use Rattle.std.specs.Fmt.{decimal, signed_decimal}
use Rattle.std.specs.List.{All, join_with_byte}
use Rattle.il_syntax.specs.Text.{location_name}
use Rattle.il_syntax.specs.declared.program.Location.{Location}
use Rattle.il_syntax.specs.declared.program.Program.{Program}
use Rattle.journal_text.specs.Limits.{Has64Bits, IsValue}
use Rattle.journal_text.specs.Line.{value_word}
use Rattle.text_parts.specs.Lines.{Text}
use Rattle.litmus.specs.declared.outcome.Printed.{Printed}
use Rattle.litmus_text.specs.declared.expectation.ExpectedWord.{ExpectedWord}
use Rattle.litmus_text.specs.declared.expectation.ExpectedWord.TheVariants.{Output, Last}
use Rattle.litmus_text.specs.declared.expectation.LastValue.{LastValue}

-- some outcome has just the outputs of the words, and the last values of them; or none has
pub record Expected : Type 0 where
  pub some : Bool
  pub words : List ExpectedWord

abbrev pub expectation_kind : Bool → Text
expectation_kind true = codes "some"
expectation_kind false = codes "none"

-- The locations whose last values may be named: those of the program where last values may be, the non-atomic ones first; else none.
abbrev pub named_locations : Bool → Program → List Location
named_locations true p = p.na ++ p.atomic
named_locations false p = []

-- the word of an output: its thread and its value, `0:1`
abbrev pub output_word : Printed → Text
output_word o = decimal o.thread ++ (58 ∷ signed_decimal o.value)

-- the word of a last value: the name of its location and the value, `x=1`
abbrev pub last_word : List Location → LastValue → Text
last_word locations l = location_name locations l.place ++ (61 ∷ value_word l.value)

abbrev pub expected_word : List Location → ExpectedWord → Text
expected_word locations (Output o) = output_word o
expected_word locations (Last l) = last_word locations l

abbrev pub expectation_words : List Location → Expected → List Text
expectation_words locations e = expectation_kind e.some ∷ map (expected_word locations) e.words

-- the line without its newline
abbrev pub expectation_line : List Location → Expected → Text
expectation_line locations e = join_with_byte 32 (expectation_words locations e)

-- an output that a word may have: one of 16 threads, and a value of 64 bits
pub record FitsOutput (o : Printed) : Type 0 where
  pub thread : o.thread ≤ 15
  pub value : Has64Bits o.value

-- a last value that a word may have: one of the locations, and a value of 64 bits or `undef`
pub record FitsLast (locations : List Location) (l : LastValue) : Type 0 where
  pub place : l.place < length locations
  pub value : IsValue l.value

abbrev pub FitsWord : List Location → ExpectedWord → Type 0
FitsWord locations (Output o) = FitsOutput o
FitsWord locations (Last l) = FitsLast locations l

abbrev pub FitsExpectation : List Location → Expected → Type 0
FitsExpectation locations e = All (FitsWord locations) e.words
