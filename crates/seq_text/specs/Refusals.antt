-- Why an input of `seq` is refused, and where.
use Rattle.std.specs.Prelude.{ℕ, ◌+◌, ◌++◌, List, codes}
use Rattle.text_parts.specs.Lines.{Text, newlines, whole_line}
use Rattle.il_grammar.specs.Rule.{rule_word}
use Rattle.pair_text.specs.Refusals.{before_target}
use Rattle.seq_text.specs.declared.fault.SeqRule.{SeqRule}
use Rattle.seq_text.specs.declared.fault.SeqRule.TheVariants.{T, E, F, Grammar}

-- the word of the line between the target and the events
abbrev pub events_word : Text
events_word = codes "events"

-- the words by which refusals name the rules
abbrev pub seq_rule_word : SeqRule → List ℕ
seq_rule_word T = codes "T"
seq_rule_word E = codes "E"
seq_rule_word F = codes "F"
seq_rule_word (Grammar rule) = rule_word rule

-- what stands before the events
abbrev pub before_events : Text → Text → Text
before_events source target = before_target source ++ (target ++ whole_line events_word)

-- the line of the event of this number, counted over the whole input
abbrev pub event_line_number : Text → Text → ℕ → ℕ
event_line_number source target at = newlines (before_events source target) + 1 + at
