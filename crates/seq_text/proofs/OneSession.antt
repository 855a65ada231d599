-- An input has one answer.
use Rattle.std.proofs.Common.{◌≡◌, ◌∙◌, ℕ, sym, ap, subst, List}
use Rattle.text_parts.specs.Lines.{Text}
use Rattle.il_syntax.specs.declared.program.Program.{Program}
use Rattle.il_reader.specs.Refusal.{line_refusal, ruled}
use Rattle.il_parser.proofs.Callers.{spelled_well_formed}
use Rattle.journal_text.proofs.Callers.{own_names, plain_names}
use Rattle.pair_text.specs.Reading.{SpellTexts, IsFirstOfTexts}
use Rattle.pair_text.proofs.Callers.{one_texts_refusal, same_texts, texts_unrefused}
use Rattle.seq_pair.specs.declared.event.EnvEvent.{EnvEvent}
use Rattle.seq_text.specs.declared.fault.SeqRule.TheVariants.{E, Grammar}
use Rattle.seq_text.specs.Events.{ReadsEnvEvents, AreEventsRefusedAfter}
use Rattle.seq_text.specs.Laws.{SessionsReadInOneWay, SessionsThatReadAreNotRefused, SessionsHaveOneFirstRefusal}
use Rattle.seq_text.specs.Refusals.{event_line_number}
use Rattle.seq_text.specs.Reading.{DividesSession, ReadsSession, IsFirstSessionRefusal, undivided, of_programs, of_events}
use Rattle.seq_text.proofs.EventLines.{not_refused, one_count, one_reading}
use Rattle.seq_text.proofs.Parts.{at_parts, lacks_nothing, one_separator}

-- what the texts of one division spell, with a fact of the source and the text of the events, is so of another
module _ (input : Text) (P : Program → Text → Type 0) (p q p' q' : Program) (a b c a' b' c' : Text) (h : DividesSession input a b c) (k : DividesSession input a' b' c') where
  same_source : SpellTexts a b p q → SpellTexts a' b' p' q' → (p ≡ p') × (q ≡ q')
  same_source spelled spelled' = same_texts a' b' p q p' q' (at_parts input (λ x y z. SpellTexts x y p q) a b c a' b' c' h k spelled) spelled'

  at_source : SpellTexts a b p q → SpellTexts a' b' p' q' → P p c → P p' c'
  at_source spelled spelled' fact =
      subst (λ r. P r c') (same_source spelled spelled').0 (at_parts input (λ x y z. P p z) a b c a' b' c' h k fact)

pub one_session : SessionsReadInOneWay
one_session input p q es l p' q' es' l' h k =
    let same = same_source input (λ r t. Unit {0}) p q p' q' h.source_text h.target_text h.events_text k.source_text k.target_text k.events_text h.divided k.divided h.spelled k.spelled in
    let formed = spelled_well_formed k.source_text p' k.spelled.source_spelled in
    let reads : ReadsEnvEvents p' k.events_text es =
    at_source input (λ r t. ReadsEnvEvents r t es) p q p' q' h.source_text h.target_text h.events_text k.source_text k.target_text k.events_text h.divided k.divided h.spelled k.spelled h.reads in
    let first : l ≡ event_line_number k.source_text k.target_text 0 =
    at_parts input (λ x y z. l ≡ event_line_number x y 0) h.source_text h.target_text h.events_text k.source_text k.target_text k.events_text h.divided k.divided h.first in
    (same.0, same.1, one_reading p' (plain_names p' formed) (own_names p' formed) k.events_text es es' reads k.reads, first ∙ sym k.first)

pub session_unrefused : SessionsThatReadAreNotRefused
session_unrefused input p q es l r h (undivided lacks) = lacks_nothing input h.source_text h.target_text h.events_text r h.divided lacks
session_unrefused input p q es l r h (of_programs a b c s divided refused is) =
    texts_unrefused a b p q s (at_parts input (λ x y z. SpellTexts x y p q) h.source_text h.target_text h.events_text a b c h.divided divided h.spelled) refused
session_unrefused input p q es l r h (of_events a b c p' q' lines divided spelled refused is) =
    let formed = spelled_well_formed a p' spelled.source_spelled in
    let reads : ReadsEnvEvents p' c es =
    at_source input (λ r t. ReadsEnvEvents r t es) p q p' q' h.source_text h.target_text h.events_text a b c h.divided divided h.spelled spelled h.reads in
    not_refused p' (plain_names p' formed) (own_names p' formed) c lines refused es reads

pub one_session_refusal : SessionsHaveOneFirstRefusal
one_session_refusal input r q (undivided lacks) (undivided lacks') = one_separator input r q lacks lacks'
one_session_refusal input r q (undivided lacks) (of_programs a b c s divided refused is) = absurd (lacks_nothing input a b c r divided lacks)
one_session_refusal input r q (undivided lacks) (of_events a b c p p' lines divided spelled refused is) = absurd (lacks_nothing input a b c r divided lacks)
one_session_refusal input r q (of_programs a b c s divided refused is) (undivided lacks) = absurd (lacks_nothing input a b c q divided lacks)
one_session_refusal input r q (of_programs a b c s divided refused is) (of_programs a' b' c' s' divided' refused' is') =
    is ∙ ap (ruled Grammar) (one_texts_refusal a' b' s s' (at_parts input (λ x y z. IsFirstOfTexts x y s) a b c a' b' c' divided divided' refused) refused') ∙ sym is'
one_session_refusal input r q (of_programs a b c s divided refused is) (of_events a' b' c' p p' lines divided' spelled refused' is') =
    absurd (texts_unrefused a' b' p p' s spelled (at_parts input (λ x y z. IsFirstOfTexts x y s) a b c a' b' c' divided divided' refused))
one_session_refusal input r q (of_events a b c p p' lines divided spelled refused is) (undivided lacks) = absurd (lacks_nothing input a b c q divided lacks)
one_session_refusal input r q (of_events a b c p p' lines divided spelled refused is) (of_programs a' b' c' s divided' refused' is') =
    absurd (texts_unrefused a b p p' s spelled (at_parts input (λ x y z. IsFirstOfTexts x y s) a' b' c' a b c divided' divided refused'))
one_session_refusal input r q (of_events a b c p p' lines divided spelled refused is) (of_events a' b' c' o o' lines' divided' spelled' refused' is') =
    let formed = spelled_well_formed a' o spelled'.source_spelled in
    let here : AreEventsRefusedAfter o c' lines =
    at_source input (λ s t. AreEventsRefusedAfter s t lines) p p' o o' a b c a' b' c' divided divided' spelled spelled' refused in
    let first : r ≡ line_refusal E (event_line_number a' b' lines) =
    at_parts input (λ x y z. r ≡ line_refusal E (event_line_number x y lines)) a b c a' b' c' divided divided' is in
    first ∙ ap (λ n. line_refusal E (event_line_number a' b' n)) (one_count o (plain_names o formed) (own_names o formed) c' lines lines' here refused') ∙ sym is'
