-- An input has an answer, where the function of the name has a verdict.
use Rattle.std.proofs.Common.{◌≡◌, ◌∙◌, ◌+◌, ◌⊎◌, inl, inr, ℕ, suc, Bool, true, false, cond, List, [], ◌∷◌, take, Option, Some, None, refl, sym, ap, arith}
use Rattle.text_parts.specs.Lines.{Text}
use Rattle.il_syntax.specs.declared.program.Program.{Program}
use Rattle.il_reader.specs.Refusal.{Refusal, line_refusal}
use Rattle.seq_pair.specs.declared.event.EnvEvent.{EnvEvent}
use Rattle.seq_pair.specs.Laws.{IsAcceptedPair}
use Rattle.seq_pair.specs.Pair.{Pair, PairRun, Came, Unlawful, is_lawful, pair_after, pair_begun, pair_end, pair_run, run_from}
use Rattle.seq_pair.proofs.Callers.{pairs_stay_related}
use Rattle.seq_text.specs.declared.fault.SeqRule.{SeqRule}
use Rattle.seq_text.specs.declared.fault.SeqRule.TheVariants.{E, F}
use Rattle.seq_text.specs.Output.{trace_text}
use Rattle.seq_text.specs.Reading.{ReadsSession, IsFirstSessionRefusal}
use Rattle.seq_text.proofs.Callers.{each_session}
use Rattle.seq_session.specs.declared.answer.SeqAnswer.{SeqAnswer}
use Rattle.seq_session.specs.declared.answer.SeqAnswer.TheVariants.{OtherShape, RefusedFunction, Played}
use Rattle.seq_session.specs.Laws.{HasVerdict, is_of_other_shape, is_refused, is_accepted, SessionsHaveAnAnswer}
use Rattle.seq_session.specs.Session.{refused_by, function_number, IsFunctionAnswer, other_shape, refused_function, unlawful, played, IsNamedAnswer, IsSeqAnswer, unread, read}

module _ (p q : Program) (f : ℕ) where
  -- the events before the first that isn't lawful lead to a pair
  record HasFront (at n : ℕ) (s : Pair) (events : List EnvEvent) : Type 0 where
    count : ℕ
    place : n ≡ at + count
    pair : Pair
    came : run_from p q f at s (take count events) ≡ Came pair

  stopped_here : (at n : ℕ) (s : Pair) (events : List EnvEvent) → Unlawful at ≡ Unlawful n → HasFront at n s events
  stopped_here at n s events e = let same : at ≡ n = cc in record { count = 0; place = omega (arith, same); pair = s; came = refl }

  front : (at n : ℕ) (s : Pair) (events : List EnvEvent) → run_from p q f at s events ≡ Unlawful n → HasFront at n s events
  front at n s [] e = absurd cc
  front at n s (e ∷ es) stops = go (is_lawful p f s e) refl stops (front (at + 1) n (pair_after p q f s e) es)
    where
      go : (b : Bool) → is_lawful p f s e ≡ b → cond b (run_from p q f (at + 1) (pair_after p q f s e) es) (Unlawful at) ≡ Unlawful n
          → (run_from p q f (at + 1) (pair_after p q f s e) es ≡ Unlawful n → HasFront (at + 1) n (pair_after p q f s e) es) → HasFront at n s (e ∷ es)
      go true lawful stop more =
          let h = more stop in
          record {
            count = suc h.count;
            place = let place = h.place in omega arith;
            pair = h.pair;
            came = ap (λ b. cond b (run_from p q f (at + 1) (pair_after p q f s e) (take h.count es)) (Unlawful at)) lawful ∙ h.came;
          }
      go false lawful stop more = stopped_here at n s (e ∷ es) stop

  module _ (events : List EnvEvent) (line : ℕ) where
    abbrev Answered : Type 0
    Answered = (a : SeqAnswer) × IsFunctionAnswer p q f events line a

    with_run : IsAcceptedPair p q f → (r : PairRun) → pair_run p q f events ≡ r → Answered
    with_run accepted (Came s) run = (
      Played (trace_text p s.labels (pair_end s.stage)),
      played (trace_text p s.labels (pair_end s.stage)) accepted (record {
        trace = record { labels = s.labels; end = pair_end s.stage };
        played = record { pair = s; run = run; labels = refl; end = refl; related = pairs_stay_related p q f events s accepted run };
        written = refl;
      }) refl,
    )
    with_run accepted (Unlawful n) run =
        let h = front 0 n (pair_begun p q f) events run in
        let count : h.count ≡ n = let place = h.place in omega arith in
        let before : pair_run p q f (take n events) ≡ Came h.pair = ap (λ k. pair_run p q f (take k events)) (sym count) ∙ h.came in
        (refused_by (line_refusal E (line + n)), unlawful n accepted (record { run = run; pair = h.pair; before = before; related = pairs_stay_related p q f (take n events) h.pair accepted before }) refl)

    with_verdict : HasVerdict p q f → Answered
    with_verdict (is_of_other_shape apart) = (OtherShape, other_shape apart refl)
    with_verdict (is_refused site why refused) = (RefusedFunction f site why, refused_function site why refused refl)
    with_verdict (is_accepted accepted) = with_run accepted (pair_run p q f events) refl

with_number : (p q : Program) (events : List EnvEvent) (line : ℕ) (number : Option ℕ) → ((f : ℕ) → number ≡ Some f → HasVerdict p q f) → (a : SeqAnswer) × IsNamedAnswer p q events line number a
with_number p q events line None judged = (refused_by (line_refusal F 1), refl)
with_number p q events line (Some f) judged = with_verdict p q f events line (judged f refl)

pub each_seq_answer : SessionsHaveAnAnswer
each_seq_answer input name judged = go (each_session input)
  where
    go : ((p : Program) × (q : Program) × (events : List EnvEvent) × (line : ℕ) × ReadsSession input p q events line) ⊎ ((r : Refusal SeqRule) × IsFirstSessionRefusal input r) → (a : SeqAnswer) × IsSeqAnswer input name a
    go (inl (p, q, events, line, reads)) =
        let h = with_number p q events line (function_number p.functions name) (λ f is. judged p q events line f reads is) in
        (h.0, read p q events line reads h.1)
    go (inr (r, first)) = (refused_by r, unread r first refl)
