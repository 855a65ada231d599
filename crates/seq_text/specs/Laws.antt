-- Each input is read in one way, or has one first refusal.
use Rattle.std.specs.Prelude.{◌≡◌, ◌⊎◌, ℕ, List}
use Rattle.il_syntax.specs.declared.program.Program.{Program}
use Rattle.text_parts.specs.Lines.{Text}
use Rattle.il_reader.specs.Refusal.{Refusal}
use Rattle.seq_pair.specs.declared.event.EnvEvent.{EnvEvent}
use Rattle.seq_text.specs.declared.fault.SeqRule.{SeqRule}
use Rattle.seq_text.specs.Reading.{ReadsSession, IsFirstSessionRefusal}

abbrev pub SessionsReadOrAreRefused : Type 0
SessionsReadOrAreRefused = (input : Text)
    → ((source : Program) × (target : Program) × (events : List EnvEvent) × (line : ℕ) × ReadsSession input source target events line)
    ⊎ ((r : Refusal SeqRule) × IsFirstSessionRefusal input r)

abbrev pub SessionsReadInOneWay : Type 0
SessionsReadInOneWay = (input : Text) (source target : Program) (events : List EnvEvent) (line : ℕ) (source' target' : Program) (events' : List EnvEvent) (line' : ℕ)
    → ReadsSession input source target events line → ReadsSession input source' target' events' line'
    → (source ≡ source') × (target ≡ target') × (events ≡ events') × (line ≡ line')

abbrev pub SessionsThatReadAreNotRefused : Type 0
SessionsThatReadAreNotRefused = (input : Text) (source target : Program) (events : List EnvEvent) (line : ℕ) (r : Refusal SeqRule)
    → ReadsSession input source target events line → IsFirstSessionRefusal input r → ⊥

abbrev pub SessionsHaveOneFirstRefusal : Type 0
SessionsHaveOneFirstRefusal = (input : Text) (r q : Refusal SeqRule) → IsFirstSessionRefusal input r → IsFirstSessionRefusal input q → r ≡ q
