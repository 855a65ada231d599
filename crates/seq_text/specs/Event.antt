-- The line of an event of the environment: words with one blank between them.
use Rattle.std.specs.Prelude.{◌≤◌, ◌<◌, List, [], ◌∷◌, codes, length}
use Rattle.std.specs.Fmt.{decimal}
use Rattle.std.specs.List.{join_with_byte}
use Rattle.il_syntax.specs.Text.{location_name}
use Rattle.il_syntax.specs.declared.program.Program.{Program}
use Rattle.journal_text.specs.Limits.{IsValue}
use Rattle.text_parts.specs.Lines.{Text}
use Rattle.journal_text.specs.Line.{value_word}
use Rattle.seq_pair.specs.declared.event.EnvEvent.{EnvEvent}
use Rattle.seq_pair.specs.declared.event.EnvEvent.TheVariants.{Enter, Run, Value, Take, Hide, Gain, See, Pass}

-- the words of an event, with the na locations of a program
abbrev pub env_event_words : Program → EnvEvent → List Text
env_event_words p Enter = codes "enter" ∷ []
env_event_words p (Run n) = codes "run" ∷ (decimal n ∷ [])
env_event_words p (Value target source) = codes "value" ∷ (value_word target ∷ (value_word source ∷ []))
env_event_words p (Take x) = codes "take" ∷ (location_name p.na x ∷ [])
env_event_words p (Hide x) = codes "hide" ∷ (location_name p.na x ∷ [])
env_event_words p (Gain x target source) = codes "gain" ∷ (location_name p.na x ∷ (value_word target ∷ (value_word source ∷ [])))
env_event_words p (See x v) = codes "see" ∷ (location_name p.na x ∷ (value_word v ∷ []))
env_event_words p Pass = codes "pass" ∷ []

-- the line without its newline
abbrev pub env_event_line : Program → EnvEvent → Text
env_event_line p e = join_with_byte 32 (env_event_words p e)

-- an event that a line may have: 1 to 16384 steps, values of 64 bits, and na locations of the program
abbrev pub FitsEnvEvent : Program → EnvEvent → Type 0
FitsEnvEvent p Enter = Unit {0}
FitsEnvEvent p (Run n) = (1 ≤ n) × (n ≤ 16384)
FitsEnvEvent p (Value target source) = IsValue target × IsValue source
FitsEnvEvent p (Take x) = x < length p.na
FitsEnvEvent p (Hide x) = x < length p.na
FitsEnvEvent p (Gain x target source) = (x < length p.na) × IsValue target × IsValue source
FitsEnvEvent p (See x v) = (x < length p.na) × IsValue v
FitsEnvEvent p Pass = Unit {0}
