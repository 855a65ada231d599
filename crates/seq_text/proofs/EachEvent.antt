-- Each text is events of a program, or is refused.
use Rattle.std.proofs.Common.{◌≡◌, ◌<◌, ◌≤◌, ◌⊎◌, inl, inr, ℕ, zero, suc, refl, List, [], ◌∷◌, ◌++◌, length, arith}
use Rattle.std.proofs.lemmas.Bool.{cases_lt}
use Rattle.values_undef.specs.declared.value.Val.{Val}
use Rattle.il_syntax.specs.declared.program.Program.{Program}
use Rattle.journal_text.specs.Limits.{HasPlainNames, IsValue}
use Rattle.text_parts.specs.Lines.{Text, IsLineEnd}
use Rattle.text_parts.proofs.Callers.{HasLine, after_shorter, next_of}
use Rattle.journal_text.proofs.Callers.{Decided, at_line_end, begins, or_else, same_fact, some_below, some_value}
use Rattle.seq_pair.specs.declared.event.EnvEvent.{EnvEvent}
use Rattle.seq_pair.specs.declared.event.EnvEvent.TheVariants.{Enter, Run, Value, Take, Hide, Gain, See, Pass}
use Rattle.seq_text.specs.Event.{env_event_line, FitsEnvEvent}
use Rattle.seq_text.specs.Events.{most_env_events, BeginsWithEnvEvent, ReadsEnvEvents, AreEventsRefusedAfter}
use Rattle.seq_text.proofs.EventSteps.{HasTaken, all_taken, line_of, none_taken, one_taken, refused_with, too_many}

-- finitely many events fit a program, so that whether one of them has a property is decided where it is decided of each
module _ (p : Program) (P : EnvEvent → Type 0) (each : (e : EnvEvent) → Decided (P e)) where
  abbrev SomeRun : Type 0
  SomeRun = (n : ℕ) × (n < 16384) × P (Run (suc n))

  abbrev SomeValue : Type 0
  SomeValue = (t : Val) × IsValue t × ((s : Val) × IsValue s × P (Value t s))

  abbrev SomeTake : Type 0
  SomeTake = (x : ℕ) × (x < length p.na) × P (Take x)

  abbrev SomeHide : Type 0
  SomeHide = (x : ℕ) × (x < length p.na) × P (Hide x)

  abbrev SomeGain : Type 0
  SomeGain = (x : ℕ) × (x < length p.na) × ((t : Val) × IsValue t × ((s : Val) × IsValue s × P (Gain x t s)))

  abbrev SomeSee : Type 0
  SomeSee = (x : ℕ) × (x < length p.na) × ((v : Val) × IsValue v × P (See x v))

  no_event : (P Enter → ⊥) → (SomeRun → ⊥) → (SomeValue → ⊥) → (SomeTake → ⊥) → (SomeHide → ⊥) → (SomeGain → ⊥) → (SomeSee → ⊥) → (P Pass → ⊥)
      → (e : EnvEvent) → FitsEnvEvent p e → P e → ⊥
  no_event a b c d f g h i Enter fits here = a here
  no_event a b c d f g h i (Run zero) fits here = let some : 1 ≤ 0 = fits.0 in absurd (omega arith)
  no_event a b c d f g h i (Run (suc n)) fits here = let few : suc n ≤ 16384 = fits.1 in b (n, omega arith, here)
  no_event a b c d f g h i (Value t s) fits here = c (t, fits.0, (s, fits.1, here))
  no_event a b c d f g h i (Take x) fits here = d (x, fits, here)
  no_event a b c d f g h i (Hide x) fits here = f (x, fits, here)
  no_event a b c d f g h i (Gain x t s) fits here = g (x, fits.0, (t, fits.1, (s, fits.2, here)))
  no_event a b c d f g h i (See x v) fits here = h (x, fits.0, (v, fits.1, here))
  no_event a b c d f g h i Pass fits here = i here

  some_run : Decided SomeRun
  some_run = some_below 16384 (λ n. P (Run (suc n))) (λ n. each (Run (suc n)))

  run_fits : (x : SomeRun) → (e : EnvEvent) × FitsEnvEvent p e × P e
  run_fits x = let few : x.0 < 16384 = x.1 in (Run (suc x.0), (omega arith, omega arith), x.2)

  some_event : Decided ((e : EnvEvent) × FitsEnvEvent p e × P e)
  some_event =
      or_else (each Enter) (λ x. (Enter, tt, x))
      (λ a. or_else some_run run_fits
      (λ b. or_else (some_value _ (λ t. some_value _ (λ s. each (Value t s)))) (λ x. (Value x.0 x.2.0, (x.1, x.2.1), x.2.2))
      (λ c. or_else (some_below (length p.na) _ (λ x. each (Take x))) (λ x. (Take x.0, x.1, x.2))
      (λ d. or_else (some_below (length p.na) _ (λ x. each (Hide x))) (λ x. (Hide x.0, x.1, x.2))
      (λ f. or_else (some_below (length p.na) _ (λ x. some_value _ (λ t. some_value _ (λ s. each (Gain x t s))))) (λ x. (Gain x.0 x.2.0 x.2.2.0, (x.1, x.2.1, x.2.2.1), x.2.2.2))
      (λ g. or_else (some_below (length p.na) _ (λ x. some_value _ (λ v. each (See x v)))) (λ x. (See x.0 x.2.0, (x.1, x.2.1), x.2.2))
      (λ h. or_else (each Pass) (λ x. (Pass, tt, x))
      (λ i. inr (λ x. no_event a b c d f g h i x.0 x.1 x.2)))))))))

first_event : (p : Program) (text : Text) → Decided (BeginsWithEnvEvent p text)
first_event p text =
    same_fact (some_event p (λ e. (rest : Text) × (text ≡ env_event_line p e ++ rest) × IsLineEnd rest) (λ e. begins (env_event_line p e) text IsLineEnd at_line_end))
    (λ x. record { event = x.0; rest = x.2.0; is = x.2.1; ends = x.2.2; fits = x.1 }) (λ x. (x.event, x.fits, (x.rest, x.is, x.ends)))

module _ (p : Program) (names : HasPlainNames p) (text : Text) where
  abbrev pub HasEventsAnswer : Type 0
  HasEventsAnswer = ((events : List EnvEvent) × ReadsEnvEvents p text events) ⊎ ((lines : ℕ) × AreEventsRefusedAfter p text lines)

  abbrev Answering : ℕ → Type 0
  Answering n = (events : List EnvEvent) (rest : Text) → HasTaken p text events rest → length rest < n → HasEventsAnswer

  module _ (n : ℕ) (again : Answering n) (events : List EnvEvent) (rest : Text) (h : HasTaken p text events rest) (short : length rest < suc n) where
    with_line : (l : HasLine rest) → (length events < most_env_events) ⊎ (most_env_events ≤ length events) → Decided (BeginsWithEnvEvent p rest) → HasEventsAnswer
    with_line l (inr full) begins = let few = h.few in inr (most_env_events, too_many p text events rest l.line l.after h l.next (omega arith))
    with_line l (inl room) (inr none) = inr (length events, refused_with p text events rest l.line l.after h l.next (length events) refl (inr none))
    with_line l (inl room) (inl b) =
        let less = after_shorter rest l.line l.after l.next in
        again (events ++ b.event ∷ []) l.after
        (one_taken p text events rest l.line l.after h l.next b.event b.fits (line_of p text events rest l.line l.after h l.next names b) room) (omega arith)

    at_rest : HasLine rest ⊎ (rest ≡ []) → HasEventsAnswer
    at_rest (inl l) = with_line l (cases_lt (length events) most_env_events) (first_event p rest)
    at_rest (inr done) = inl (events, all_taken p text events rest h done)

  answer_from : (n : ℕ) → Answering n
  answer_from zero events rest h short = absurd (omega arith)
  answer_from (suc n) events rest h short = at_rest n (answer_from n) events rest h short (next_of rest)

  pub each_events : HasEventsAnswer
  each_events = answer_from (suc (length text)) [] text (none_taken p text) (omega arith)
