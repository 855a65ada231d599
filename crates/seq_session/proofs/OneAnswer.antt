-- An input and the name of a function have one answer.
use Rattle.std.proofs.Common.{◌≡◌, ◌∙◌, ◌+◌, ℕ, List, Option, Some, None, refl, sym, ap, ap₂, subst}
use Rattle.il_syntax.specs.declared.program.Function.{Function}
use Rattle.il_syntax.specs.declared.program.Program.{Program}
use Rattle.thread_core.specs.Programs.{function_at}
use Rattle.validator.specs.declared.fault.Fault.{Fault}
use Rattle.validator.specs.Faults.{Accepts, HasFault, IsFirstFault}
use Rattle.validator.specs.Shape.{SameShape}
use Rattle.text_parts.specs.Lines.{Text}
use Rattle.seq_pair.specs.declared.event.EnvEvent.{EnvEvent}
use Rattle.seq_pair.specs.declared.trace.PairEnd.{PairEnd}
use Rattle.seq_pair.specs.declared.trace.PairLabel.{PairLabel}
use Rattle.seq_pair.specs.Answers.{IsTraceOf, IsUnlawfulAt}
use Rattle.seq_pair.specs.Laws.{IsAcceptedPair}
use Rattle.seq_pair.specs.Pair.{Pair, PairRun, Came, Unlawful, pair_run, pair_end}
use Rattle.seq_text.specs.declared.fault.SeqRule.TheVariants.{E, F}
use Rattle.seq_text.specs.Output.{trace_text}
use Rattle.seq_text.specs.Reading.{ReadsSession, IsFirstSessionRefusal}
use Rattle.il_reader.specs.Refusal.{line_refusal}
use Rattle.seq_text.proofs.Callers.{one_session, one_session_refusal, session_unrefused}
use Rattle.seq_session.specs.declared.answer.SeqAnswer.{SeqAnswer}
use Rattle.seq_session.specs.declared.answer.SeqAnswer.TheVariants.{Refused, OtherShape, RefusedFunction, Played}
use Rattle.seq_session.specs.Laws.{SessionsHaveOneAnswer}
use Rattle.seq_session.specs.Session.{refused_by, function_number, IsRefusedPair, IsPlay, IsFunctionAnswer, other_shape, refused_function, unlawful, played, IsNamedAnswer, IsSeqAnswer, unread, read}
use Rattle.validator.proofs.Callers.{one_first_fault}

-- there is one function of a number
same_some : {f g : Function} {o : Option Function} → o ≡ Some f → o ≡ Some g → f ≡ g
same_some e h = let same : ◌≡◌ {A = Option Function} (Some _) (Some _) = sym e ∙ h in cc

module _ (p q : Program) (f : ℕ) where
  -- an accepted function has no fault
  accepted_unrefused : (site : ℕ) (why : Fault) → IsAcceptedPair p q f → IsRefusedPair p q f site why → ⊥
  accepted_unrefused site why a r =
      let sources = same_some r.source_there a.source_there in
      let targets = same_some r.target_there a.target_there in
      let first = subst (λ (h : Function). IsFirstFault h a.target site why) sources (subst (λ (g : Function). IsFirstFault r.source g site why) targets r.first) in
      a.accepts site why first.0

  one_refused : (s t : ℕ) (v w : Fault) → IsRefusedPair p q f s v → IsRefusedPair p q f t w → (s ≡ t) × (v ≡ w)
  one_refused s t v w x y =
      let sources = same_some y.source_there x.source_there in
      let targets = same_some y.target_there x.target_there in
      let first = subst (λ (h : Function). IsFirstFault h x.target t w) sources (subst (λ (g : Function). IsFirstFault y.source g t w) targets y.first) in
      one_first_fault (HasFault x.source x.target) s t v w x.first first

  module _ (events : List EnvEvent) where
    -- events that are all lawful lead to one pair, and others have one that isn't
    came_lawful : (r : PairRun) (s : Pair) (at : ℕ) → r ≡ Came s → r ≡ Unlawful at → ⊥
    came_lawful r s at c u = let bad : Came s ≡ Unlawful at = sym c ∙ u in absurd cc

    one_unlawful : (r : PairRun) (j k : ℕ) → r ≡ Unlawful j → r ≡ Unlawful k → j ≡ k
    one_unlawful r j k c u = let same : Unlawful j ≡ Unlawful k = sym c ∙ u in cc

    one_came : (r : PairRun) (s t : Pair) → r ≡ Came s → r ≡ Came t → s ≡ t
    one_came r s t c u = let same : Came s ≡ Came t = sym c ∙ u in cc

    one_text : (text other : Text) → IsPlay p q f events text → IsPlay p q f events other → text ≡ other
    one_text text other x y =
        let same = one_came (pair_run p q f events) x.played.pair y.played.pair x.played.run y.played.run in
        let labels = x.played.labels ∙ ap (λ (s : Pair). s.labels) same ∙ sym y.played.labels in
        let end = x.played.end ∙ ap (λ (s : Pair). pair_end s.stage) same ∙ sym y.played.end in
        x.written ∙ ap₂ (λ (ls : List PairLabel) (e : PairEnd). trace_text p ls e) labels end ∙ sym y.written

    one_function_answer : (line : ℕ) (a b : SeqAnswer) → IsFunctionAnswer p q f events line a → IsFunctionAnswer p q f events line b → a ≡ b
    one_function_answer line a b (other_shape apart is) (other_shape apart' is') = is ∙ sym is'
    one_function_answer line a b (other_shape apart is) (refused_function t w r is') = absurd (apart r.shape)
    one_function_answer line a b (other_shape apart is) (unlawful k accepted u is') = absurd (apart accepted.shape)
    one_function_answer line a b (other_shape apart is) (played other accepted y is') = absurd (apart accepted.shape)
    one_function_answer line a b (refused_function s v r is) (other_shape apart is') = absurd (apart r.shape)
    one_function_answer line a b (refused_function s v r is) (refused_function t w r' is') =
        let same = one_refused s t v w r r' in
        is ∙ ap₂ (λ site why. RefusedFunction f site why) same.0 same.1 ∙ sym is'
    one_function_answer line a b (refused_function s v r is) (unlawful k accepted u is') = absurd (accepted_unrefused s v accepted r)
    one_function_answer line a b (refused_function s v r is) (played other accepted y is') = absurd (accepted_unrefused s v accepted r)
    one_function_answer line a b (unlawful j accepted u is) (other_shape apart is') = absurd (apart accepted.shape)
    one_function_answer line a b (unlawful j accepted u is) (refused_function t w r is') = absurd (accepted_unrefused t w accepted r)
    one_function_answer line a b (unlawful j accepted u is) (unlawful k accepted' u' is') =
        is ∙ ap (λ at. refused_by (line_refusal E (line + at))) (one_unlawful (pair_run p q f events) j k u.run u'.run) ∙ sym is'
    one_function_answer line a b (unlawful j accepted u is) (played other accepted' y is') = absurd (came_lawful (pair_run p q f events) y.played.pair j y.played.run u.run)
    one_function_answer line a b (played text accepted x is) (other_shape apart is') = absurd (apart accepted.shape)
    one_function_answer line a b (played text accepted x is) (refused_function t w r is') = absurd (accepted_unrefused t w accepted r)
    one_function_answer line a b (played text accepted x is) (unlawful k accepted' u is') = absurd (came_lawful (pair_run p q f events) x.played.pair k x.played.run u.run)
    one_function_answer line a b (played text accepted x is) (played other accepted' y is') = is ∙ ap Played (one_text text other x y) ∙ sym is'

one_named : (p q : Program) (events : List EnvEvent) (line : ℕ) (number : Option ℕ) (a b : SeqAnswer) → IsNamedAnswer p q events line number a → IsNamedAnswer p q events line number b → a ≡ b
one_named p q events line None a b x y = x ∙ sym y
one_named p q events line (Some f) a b x y = one_function_answer p q f events line a b x y

-- what is answered to two readings of an input
named_again : (name : Text) (p q p' q' : Program) (events events' : List EnvEvent) (line line' : ℕ) (a : SeqAnswer) → p ≡ p' → q ≡ q' → events ≡ events' → line ≡ line'
    → IsNamedAnswer p q events line (function_number p.functions name) a → IsNamedAnswer p' q' events' line' (function_number p'.functions name) a
named_again name p q p' q' events events' line line' a sp sq se sl h =
    subst (λ (r : Program). IsNamedAnswer r q' events' line' (function_number r.functions name) a) sp
    (subst (λ (r : Program). IsNamedAnswer p r events' line' (function_number p.functions name) a) sq
    (subst (λ (es : List EnvEvent). IsNamedAnswer p q es line' (function_number p.functions name) a) se
    (subst (λ l. IsNamedAnswer p q events l (function_number p.functions name) a) sl h)))

pub one_seq_answer : SessionsHaveOneAnswer
one_seq_answer input name a b (unread r first is) (unread s first' is') = is ∙ ap refused_by (one_session_refusal input r s first first') ∙ sym is'
one_seq_answer input name a b (unread r first is) (read p q events line reads answer) = absurd (session_unrefused input p q events line r reads first)
one_seq_answer input name a b (read p q events line reads answer) (unread r first is) = absurd (session_unrefused input p q events line r reads first)
one_seq_answer input name a b (read p q events line reads answer) (read p' q' events' line' reads' answer') =
    let same = one_session input p q events line p' q' events' line' reads reads' in
    one_named p' q' events' line' (function_number p'.functions name) a b (named_again name p q p' q' events events' line line' a same.0 same.1 same.2 same.3 answer) answer'
