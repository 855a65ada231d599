-- What the text after the line `events` must be to be read, and where another is refused.
use Rattle.std.specs.Prelude.{◌≡◌, ◌≢◌, ◌≤◌, ◌⊎◌, ℕ, List, [], ◌++◌, length}
use Rattle.std.specs.List.{All, flat_map}
use Rattle.il_syntax.specs.declared.program.Program.{Program}
use Rattle.text_parts.specs.Lines.{Text, IsLineEnd, whole_line}
use Rattle.seq_pair.specs.declared.event.EnvEvent.{EnvEvent}
use Rattle.seq_text.specs.declared.events.EventsFault.{EventsFault}
use Rattle.seq_text.specs.declared.events.EventsFault.TheVariants.{Refused, NoMemory}
use Rattle.seq_text.specs.Event.{env_event_line, FitsEnvEvent}

-- a line for each event
abbrev pub env_event_lines : Program → List EnvEvent → Text
env_event_lines p events = flat_map (λ e. whole_line (env_event_line p e)) events

-- the most lines of events
abbrev pub most_env_events : ℕ
most_env_events = 4096

-- a text begins with these events, each on a line of its own, and then comes the rest
pub record HasEnvEvents (p : Program) (text : Text) (events : List EnvEvent) (rest : Text) : Type 0 where
  pub is : text ≡ env_event_lines p events ++ rest
  pub fit : All (FitsEnvEvent p) events
  pub few : length events ≤ most_env_events

-- a text begins with the line of an event; the newline of a text's last line may be missing
pub record BeginsWithEnvEvent (p : Program) (text : Text) : Type 0 where
  pub event : EnvEvent
  pub rest : Text
  pub is : text ≡ env_event_line p event ++ rest
  pub ends : IsLineEnd rest
  pub fits : FitsEnvEvent p event

-- the text is these events, as it stands or with a newline at its end
pub data ReadsEnvEvents (p : Program) (text : Text) (events : List EnvEvent) : Type 0 where
  finished : HasEnvEvents p text events [] → ReadsEnvEvents p text events
  unfinished : HasEnvEvents p (whole_line text) events [] → ReadsEnvEvents p text events

-- The text is refused after so many lines: they are events, and another line comes that is none, or there are as many
-- events as there may be.
pub record AreEventsRefusedAfter (p : Program) (text : Text) (lines : ℕ) : Type 0 where
  pub events : List EnvEvent
  pub rest : Text
  pub events_first : HasEnvEvents p text events rest
  pub count : length events ≡ lines
  pub goes_on : rest ≢ []
  pub no_event : (lines ≡ most_env_events) ⊎ (BeginsWithEnvEvent p rest → ⊥)

-- why a text is refused; want of memory says nothing of it
abbrev pub IsEventsFault : Program → Text → EventsFault → Type 0
IsEventsFault p text (Refused lines) = AreEventsRefusedAfter p text lines
IsEventsFault p text NoMemory = Unit {0}
