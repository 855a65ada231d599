-- The answers of the code are those of the input.
use Rattle.std.proofs.Common.{◌≡◌, ◌+◌, ◌≤◌, ℕ, sym, subst, ap, refl, List, [], ◌∷◌, length, Err, codes, arith}
use Rattle.std.proofs.lemmas.List.{length-append}
use Rattle.text_parts.specs.Lines.{Text, whole_line}
use Rattle.text_parts.specs.Division.{LacksLine, DividesAtLine}
use Rattle.il_syntax.specs.declared.program.Program.{Program}
use Rattle.il_grammar.specs.declared.rule.Rule.{Rule}
use Rattle.il_reader.specs.Refusal.{Refusal, IfRefused, fault_map, line_refusal, refused, ruled}
use Rattle.il_reader.specs.declared.fault.InputFault.{InputFault}
use Rattle.il_reader.specs.declared.fault.InputFault.TheVariants.{Refused, NoMemory}
use Rattle.pair_text.specs.Refusals.{target_word}
use Rattle.pair_text.specs.Reading.{SpellTexts, IsFirstOfTexts}
use Rattle.seq_pair.specs.declared.event.EnvEvent.{EnvEvent}
use Rattle.seq_text.specs.declared.fault.SeqRule.{SeqRule}
use Rattle.seq_text.specs.declared.fault.SeqRule.TheVariants.{T, E, Grammar}
use Rattle.seq_text.specs.Event.{env_event_line}
use Rattle.seq_text.specs.Events.{env_event_lines, HasEnvEvents, ReadsEnvEvents, finished, unfinished, AreEventsRefusedAfter}
use Rattle.seq_text.specs.Refusals.{events_word, event_line_number}
use Rattle.seq_text.specs.Reading.{DividesSession, no_target, no_events, IsFirstSessionRefusal, undivided, of_programs, of_events, IsSessionAnswer}

-- refusals

module _ (input : Text) (fault : InputFault SeqRule) where
  answered : (r : Refusal SeqRule) → IsFirstSessionRefusal input r → fault ≡ refused r → IsSessionAnswer input (Err fault)
  answered r first is = subst (λ e. IsSessionAnswer input (Err e)) (sym is) first

  pub untargeted : LacksLine target_word input → fault ≡ refused (line_refusal T 1) → IsSessionAnswer input (Err fault)
  untargeted none is = answered (line_refusal T 1) (undivided (no_target none refl)) is

  pub eventless : (source rest : Text) → DividesAtLine target_word input source rest → LacksLine events_word rest → fault ≡ refused (line_refusal E 1) → IsSessionAnswer input (Err fault)
  eventless source rest at none is = answered (line_refusal E 1) (undivided (no_events source rest at none refl)) is

  module _ (a b c : Text) (divided : DividesSession input a b c) where
    of_parse : (f : InputFault Rule) → IfRefused f (λ r. IsFirstOfTexts a b r) → IsSessionAnswer input (Err (fault_map (ruled Grammar) f))
    of_parse (Refused rule line column) h = of_programs a b c (record { rule = rule; line = line; column = column }) divided h refl
    of_parse NoMemory h = tt

    pub programs_refused : (f : InputFault Rule) → IfRefused f (λ r. IsFirstOfTexts a b r) → fault ≡ fault_map (ruled Grammar) f → IsSessionAnswer input (Err fault)
    programs_refused f h is = subst (λ e. IsSessionAnswer input (Err e)) (sym is) (of_parse f h)

    pub events_refused : (p q : Program) (lines line : ℕ) → SpellTexts a b p q → AreEventsRefusedAfter p c lines → line ≡ event_line_number a b 0 + lines
        → fault ≡ refused (line_refusal E line) → IsSessionAnswer input (Err fault)
    events_refused p q lines line spelled refused at is =
        answered (line_refusal E line) (of_events a b c p q lines divided spelled refused (ap (λ n. line_refusal E n) (omega (arith, at)))) is

-- lines

module _ (p : Program) where
  -- an event has a line of its own
  lines_long : (events : List EnvEvent) → length events ≤ length (env_event_lines p events)
  lines_long [] = omega arith
  lines_long (e ∷ es) =
      omega (arith, lines_long es, length-append (whole_line (env_event_line p e)) (env_event_lines p es), length-append (env_event_line p e) (codes "\n"))

  first_lines : (text : Text) (events : List EnvEvent) (rest : Text) → HasEnvEvents p text events rest → length events + length rest ≤ length text
  first_lines text events rest h = omega (arith, ap length h.is, length-append (env_event_lines p events) rest, lines_long events)

  pub read_lines_few : (text : Text) (events : List EnvEvent) → ReadsEnvEvents p text events → length events ≤ length text + 1
  read_lines_few text events (finished h) = let few = first_lines text events [] h in omega arith
  read_lines_few text events (unfinished h) = let few = first_lines (whole_line text) events [] h in omega (arith, few, length-append text (codes "\n"))

  pub refused_lines_few : (text : Text) (lines : ℕ) → AreEventsRefusedAfter p text lines → lines ≤ length text
  refused_lines_few text lines h = let few = first_lines text h.events h.rest h.events_first in let count = h.count in omega arith
