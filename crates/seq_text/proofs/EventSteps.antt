-- What a line adds to the events that were read before it.
use Rattle.std.proofs.Common.{◌≡◌, ◌∙◌, ◌<◌, ◌≤◌, ◌⊎◌, inl, inr, ℕ, zero, suc, sym, ap, subst, refl, List, [], ◌∷◌, ◌++◌, length, codes, append_assoc, append-nil, arith, Option, None}
use Rattle.std.specs.List.{All}
use Rattle.std.proofs.lemmas.Grind.{flat_map-append}
use Rattle.std.proofs.lemmas.List.{length-append}
use Rattle.std.proofs.lemmas.List.Elements.{All-append}
use Rattle.il_syntax.specs.declared.program.Program.{Program}
use Rattle.journal_text.specs.Kind.{Decodes}
use Rattle.journal_text.specs.Limits.{HasPlainNames}
use Rattle.text_parts.specs.Lines.{Text, whole_line, IsNextLine}
use Rattle.text_parts.proofs.Callers.{same_line}
use Rattle.seq_pair.specs.declared.event.EnvEvent.{EnvEvent}
use Rattle.seq_text.specs.Event.{env_event_line, FitsEnvEvent}
use Rattle.seq_text.specs.Events.{env_event_lines, most_env_events, BeginsWithEnvEvent, ReadsEnvEvents, finished, unfinished, AreEventsRefusedAfter}
use Rattle.seq_text.proofs.EventWords.{clean_line}

module _ (p : Program) where
  -- the events that were read, and what is left; nothing is left after a last line without its newline
  pub record HasTaken (text : Text) (events : List EnvEvent) (rest : Text) : Type 0 where
    pub fit : All (FitsEnvEvent p) events
    pub few : length events ≤ most_env_events
    pub is : (text ≡ env_event_lines p events ++ rest) ⊎ ((rest ≡ []) × (whole_line text ≡ env_event_lines p events))

  pub none_taken : (text : Text) → HasTaken text [] text
  none_taken text = record { fit = λ k d below. absurd (omega arith); few = omega arith; is = inl refl }

  pub all_taken : (text : Text) (events : List EnvEvent) (rest : Text) → HasTaken text events rest → rest ≡ [] → ReadsEnvEvents p text events
  all_taken text events rest h done = go h.is
    where
      go : (text ≡ env_event_lines p events ++ rest) ⊎ ((rest ≡ []) × (whole_line text ≡ env_event_lines p events)) → ReadsEnvEvents p text events
      go (inl is) = finished (record { is = is ∙ ap (λ r. env_event_lines p events ++ r) done; fit = h.fit; few = h.few })
      go (inr last) = unfinished (record { is = last.1 ∙ sym (append-nil (env_event_lines p events)); fit = h.fit; few = h.few })

  lines_more : (events : List EnvEvent) (e : EnvEvent) → env_event_lines p (events ++ e ∷ []) ≡ env_event_lines p events ++ whole_line (env_event_line p e)
  lines_more events e =
      flat_map-append (λ x. whole_line (env_event_line p x)) events (e ∷ []) ∙ ap (λ t. env_event_lines p events ++ t) (append-nil (whole_line (env_event_line p e)))

  module _ (text : Text) (events : List EnvEvent) (rest line after : Text) (h : HasTaken text events rest) (next : IsNextLine rest line after) where
    -- what stands before a line
    before : text ≡ env_event_lines p events ++ rest
    before = go h.is
      where
        go : (text ≡ env_event_lines p events ++ rest) ⊎ ((rest ≡ []) × (whole_line text ≡ env_event_lines p events)) → text ≡ env_event_lines p events ++ rest
        go (inl is) = is
        go (inr last) = absurd (next.goes_on last.0)

    pub one_taken : (e : EnvEvent) → FitsEnvEvent p e → line ≡ env_event_line p e → length events < most_env_events → HasTaken text (events ++ e ∷ []) after
    one_taken e fits same room = record {
      fit = All-append (FitsEnvEvent p) events (e ∷ []) h.fit alone;
      few = omega (arith, length-append events (e ∷ []));
      is = go next.is;
    }
      where
        alone : All (FitsEnvEvent p) (e ∷ [])
        alone zero d below = fits
        alone (suc k) d below = absurd (omega arith)

        go : (rest ≡ whole_line line ++ after) ⊎ ((rest ≡ line) × (after ≡ []))
            → (text ≡ env_event_lines p (events ++ e ∷ []) ++ after) ⊎ ((after ≡ []) × (whole_line text ≡ env_event_lines p (events ++ e ∷ [])))
        go (inl is) =
            inl (before ∙ ap (λ r. env_event_lines p events ++ r) (is ∙ ap (λ l. whole_line l ++ after) same) ∙ sym (append_assoc (env_event_lines p events) (whole_line (env_event_line p e)) after)
            ∙ ap (λ t. t ++ after) (sym (lines_more events e)))
        go (inr last) =
            inr (
              last.1,
              ap (λ t. t ++ codes "\n") (before ∙ ap (λ r. env_event_lines p events ++ r) (last.0 ∙ same)) ∙ append_assoc (env_event_lines p events) (env_event_line p e) (codes "\n")
                  ∙ sym (lines_more events e),
            )

    -- a line that is no event
    pub refused_with : (lines : ℕ) → length events ≡ lines → (lines ≡ most_env_events) ⊎ (BeginsWithEnvEvent p rest → ⊥) → AreEventsRefusedAfter p text lines
    refused_with lines count why = record {
      events = events;
      rest = rest;
      events_first = record { is = before; fit = h.fit; few = h.few };
      count = count;
      goes_on = next.goes_on;
      no_event = why;
    }

    pub too_many : length events ≡ most_env_events → AreEventsRefusedAfter p text most_env_events
    too_many full = refused_with most_env_events full (inl refl)

    -- the line of an event with which what is left begins
    pub line_of : HasPlainNames p → (b : BeginsWithEnvEvent p rest) → line ≡ env_event_line p b.event
    line_of names b = go next.is
      where
        go : (rest ≡ whole_line line ++ after) ⊎ ((rest ≡ line) × (after ≡ [])) → line ≡ env_event_line p b.event
        go (inl is) =
            (same_line line (env_event_line p b.event) (10 ∷ after) b.rest next.clean (clean_line p b.event names b.fits) refl b.ends
            (sym (append_assoc line (codes "\n") after) ∙ sym is ∙ b.is)).0
        go (inr last) =
            (same_line line (env_event_line p b.event) [] b.rest next.clean (clean_line p b.event names b.fits) tt b.ends (append-nil line ∙ sym last.0 ∙ b.is)).0

    none_here : HasPlainNames p → ((e : EnvEvent) → FitsEnvEvent p e → line ≡ env_event_line p e → ⊥) → AreEventsRefusedAfter p text (length events)
    none_here names other = refused_with (length events) refl (inr (λ b. other b.event b.fits (line_of names b)))

    pub none_decoded : HasPlainNames p → (o : Option EnvEvent) → o ≡ None → Decodes (env_event_line p) (FitsEnvEvent p) line o → (n : ℕ) → n ≡ length events → AreEventsRefusedAfter p text n
    none_decoded names o none decoded n count =
        subst (AreEventsRefusedAfter p text) (sym count) (none_here names (subst (Decodes (env_event_line p) (FitsEnvEvent p) line) none decoded))
