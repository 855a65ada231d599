-- What an input must be to be read as two programs and events, and what the first refusal of another is.
use Rattle.std.specs.Prelude.{◌≡◌, ℕ, List, Result}
use Rattle.text_parts.specs.Lines.{Text}
use Rattle.text_parts.specs.Division.{LacksLine, DividesAtLine}
use Rattle.il_syntax.specs.declared.program.Program.{Program}
use Rattle.il_grammar.specs.declared.rule.Rule.{Rule}
use Rattle.il_reader.specs.Refusal.{Refusal, Answers, line_refusal, ruled}
use Rattle.il_reader.specs.declared.fault.InputFault.{InputFault}
use Rattle.pair_text.specs.Refusals.{target_word}
use Rattle.pair_text.specs.Reading.{SpellTexts, IsFirstOfTexts}
use Rattle.seq_pair.specs.declared.event.EnvEvent.{EnvEvent}
use Rattle.seq_text.specs.declared.fault.SeqRule.{SeqRule}
use Rattle.seq_text.specs.declared.fault.SeqRule.TheVariants.{T, E, Grammar}
use Rattle.seq_text.specs.declared.input.Session.{Session}
use Rattle.seq_text.specs.Events.{ReadsEnvEvents, AreEventsRefusedAfter}
use Rattle.seq_text.specs.Refusals.{events_word, event_line_number}

-- The text of the source comes before the first line `target`, that of the target up to the first line `events` after it,
-- and the events come after that line.
pub record DividesSession (input source_text target_text events_text : Text) : Type 0 where
  pub rest : Text
  pub at_target : DividesAtLine target_word input source_text rest
  pub at_events : DividesAtLine events_word rest target_text events_text

-- the input lacks a line between its texts: the line `target`, or the line `events` after it
pub data LacksSeparator (input : Text) (r : Refusal SeqRule) : Type 0 where
  no_target : LacksLine target_word input → r ≡ line_refusal T 1 → LacksSeparator input r
  no_events : (source_text rest : Text) → DividesAtLine target_word input source_text rest → LacksLine events_word rest
      → r ≡ line_refusal E 1 → LacksSeparator input r

-- the input is the texts of the two programs and these events, the first of them on this line of the input
pub record ReadsSession (input : Text) (source target : Program) (events : List EnvEvent) (line : ℕ) : Type 0 where
  pub source_text : Text
  pub target_text : Text
  pub events_text : Text
  pub divided : DividesSession input source_text target_text events_text
  pub spelled : SpellTexts source_text target_text source target
  pub reads : ReadsEnvEvents source events_text events
  pub first : line ≡ event_line_number source_text target_text 0

-- the first refusal: a missing line between the texts, then that of the programs, then the first line that is no event
pub data IsFirstSessionRefusal (input : Text) (r : Refusal SeqRule) : Type 0 where
  undivided : LacksSeparator input r → IsFirstSessionRefusal input r
  of_programs : (source_text target_text events_text : Text) (q : Refusal Rule) → DividesSession input source_text target_text events_text
      → IsFirstOfTexts source_text target_text q → r ≡ ruled Grammar q → IsFirstSessionRefusal input r
  of_events : (source_text target_text events_text : Text) (source target : Program) (lines : ℕ) → DividesSession input source_text target_text events_text
      → SpellTexts source_text target_text source target → AreEventsRefusedAfter source events_text lines
      → r ≡ line_refusal E (event_line_number source_text target_text lines) → IsFirstSessionRefusal input r

-- the answer is what the input reads as, or its first refusal
abbrev pub IsSessionAnswer : Text → Result Session (InputFault SeqRule) → Type 0
IsSessionAnswer input = Answers (λ x. ReadsSession input x.source x.target x.events.items x.first_line) (IsFirstSessionRefusal input)
