-- Each input has an answer.
use Rattle.std.proofs.Common.{◌⊎◌, inl, inr, ℕ, refl, List}
use Rattle.il_syntax.specs.declared.program.Program.{Program}
use Rattle.il_grammar.specs.declared.rule.Rule.{Rule}
use Rattle.il_reader.specs.Refusal.{Refusal, line_refusal, ruled}
use Rattle.il_parser.proofs.Callers.{spelled_well_formed}
use Rattle.text_parts.specs.Lines.{Text}
use Rattle.journal_text.proofs.Callers.{plain_names}
use Rattle.pair_text.specs.Reading.{SpellTexts, IsFirstOfTexts}
use Rattle.pair_text.proofs.Callers.{each_texts}
use Rattle.seq_pair.specs.declared.event.EnvEvent.{EnvEvent}
use Rattle.seq_text.specs.declared.fault.SeqRule.{SeqRule}
use Rattle.seq_text.specs.declared.fault.SeqRule.TheVariants.{E, Grammar}
use Rattle.seq_text.specs.Laws.{SessionsReadOrAreRefused}
use Rattle.seq_text.specs.Refusals.{event_line_number}
use Rattle.seq_text.specs.Reading.{DividesSession, ReadsSession, IsFirstSessionRefusal, undivided, of_programs, of_events}
use Rattle.seq_text.proofs.EachEvent.{HasEventsAnswer, each_events}
use Rattle.seq_text.proofs.Parts.{Parted, each_parted}

module _ (input : Text) where
  abbrev SessionAnswered : Type 0
  SessionAnswered = ((p : Program) × (q : Program) × (events : List EnvEvent) × (line : ℕ) × ReadsSession input p q events line) ⊎ ((r : Refusal SeqRule) × IsFirstSessionRefusal input r)

  module _ (a b c : Text) (divided : DividesSession input a b c) where
    with_events : (p q : Program) (spelled : SpellTexts a b p q) → HasEventsAnswer p (plain_names p (spelled_well_formed a p spelled.source_spelled)) c → SessionAnswered
    with_events p q spelled (inl x) =
        inl (p, q, x.0, event_line_number a b 0, record { source_text = a; target_text = b; events_text = c; divided = divided; spelled = spelled; reads = x.1; first = refl })
    with_events p q spelled (inr x) = inr (line_refusal E (event_line_number a b x.0), of_events a b c p q x.0 divided spelled x.1 refl)

    with_programs : ((p : Program) × (q : Program) × SpellTexts a b p q) ⊎ ((r : Refusal Rule) × IsFirstOfTexts a b r) → SessionAnswered
    with_programs (inl x) = with_events x.0 x.1 x.2 (each_events x.0 (plain_names x.0 (spelled_well_formed a x.0 x.2.source_spelled)) c)
    with_programs (inr x) = inr (ruled Grammar x.0, of_programs a b c x.0 divided x.1 refl)

  with_parts : Parted input → SessionAnswered
  with_parts (inl x) = with_programs x.0 x.1 x.2 x.3 (each_texts x.0 x.1)
  with_parts (inr x) = inr (x.0, undivided x.1)

pub each_session : SessionsReadOrAreRefused
each_session input = with_parts input (each_parted input)
