-- What is known of `seq`.
use Rattle.std.proofs.Common.{◌≡◌, ◌∙◌, ◌⊎◌, ℕ, List, Option, Some, None, inl, inr, refl, sym, subst}
use Rattle.std.specs.List.{AllByRecursion}
use Rattle.il_syntax.specs.declared.program.Program.{Program}
use Rattle.seq_pair.specs.Labels.{LabelMatches}
use Rattle.seq_pair.specs.declared.trace.PairLabel.{PairLabel}
use Rattle.seq_pair.specs.declared.event.EnvEvent.{EnvEvent}
use Rattle.seq_text.specs.Reading.{ReadsSession}
use Rattle.seq_session.specs.Session.{function_number, IsFunctionAnswer, other_shape, refused_function, unlawful, played, IsNamedAnswer, IsSeqAnswer, unread, read}
use Rattle.seq_session.specs.declared.answer.SeqAnswer.{SeqAnswer}
use Rattle.seq_session.specs.declared.answer.SeqAnswer.TheVariants.{Refused, OtherShape, RefusedFunction, Played}
use Rattle.seq_session.proofs.Callers.{one_seq_answer}
use Rattle.tool.specs.declared.status.Status.{Status}
use Rattle.tool.specs.declared.status.Status.TheVariants as status
use Rattle.tool.specs.Seq.{IsWrittenAnswer, IsSeqOutput, IsAnswered, IsRefused, seq_meaning}
use Rattle.tool.specs.Outputs.{IsRefusalStatus}
use Rattle.tool.specs.Laws.{SeqsHaveOneOutput, IsPlayedPair, SeqsPlayAcceptedPairs}
use Rattle.tool.proofs.CommandFacts.{IsOutputStatus, CommandFacts}

abbrev IsSeqStatus : Status → Type 0
IsSeqStatus s = (s ≡ status.Done) ⊎ ((s ≡ status.No) ⊎ (s ≡ status.NoMemory))

-- by the answer
outputs_by : (a : SeqAnswer) (out : List ℕ) (s : Status) → IsWrittenAnswer a out s → IsOutputStatus s
outputs_by (Refused rule line column) out s h = subst IsOutputStatus (sym h.1) tt
outputs_by OtherShape out s h = subst IsOutputStatus (sym h.1) tt
outputs_by (RefusedFunction function site why) out s h = subst IsOutputStatus (sym h.1) tt
outputs_by (Played text) out s h = subst IsOutputStatus (sym h.1) tt

works_by : (a : SeqAnswer) (out : List ℕ) (s : Status) → IsWrittenAnswer a out s → IsAnswered a → IsSeqStatus s
works_by (Refused rule line column) out s h taken = absurd taken
works_by OtherShape out s h taken = inr (inl h.1)
works_by (RefusedFunction function site why) out s h taken = inr (inl h.1)
works_by (Played text) out s h taken = inl h.1

refuses_by : (a : SeqAnswer) (out : List ℕ) (s : Status) → IsWrittenAnswer a out s → IsRefused a → IsRefusalStatus s
refuses_by (Refused rule line column) out s h refused = inl h.1
refuses_by OtherShape out s h refused = absurd refused
refuses_by (RefusedFunction function site why) out s h refused = absurd refused
refuses_by (Played text) out s h refused = absurd refused

one_by : (a : SeqAnswer) (one other : List ℕ) (s t : Status) → IsWrittenAnswer a one s → IsWrittenAnswer a other t → (one ≡ other) × (s ≡ t)
one_by (Refused rule line column) one other s t h k = (h.0 ∙ sym k.0, h.1 ∙ sym k.1)
one_by OtherShape one other s t h k = (h.0 ∙ sym k.0, h.1 ∙ sym k.1)
one_by (RefusedFunction function site why) one other s t h k = (h.0 ∙ sym k.0, h.1 ∙ sym k.1)
one_by (Played text) one other s t h k = (h.0 ∙ sym k.0, h.1 ∙ sym k.1)

module _ (name bytes : List ℕ) where
  -- the answer is the one that the input has
  written_of : (out : List ℕ) (s : Status) (a : SeqAnswer) → IsSeqOutput name bytes out s → IsSeqAnswer bytes name a → IsWrittenAnswer a out s
  written_of out s a x answers = subst (λ (b : SeqAnswer). IsWrittenAnswer b out s) (one_seq_answer bytes name x.answer a x.answers answers) x.written

  outputs : (out : List ℕ) (s : Status) → IsSeqOutput name bytes out s → IsOutputStatus s
  outputs out s x = outputs_by x.answer out s x.written

  works : (out : List ℕ) (s : Status) → IsSeqOutput name bytes out s → (a : SeqAnswer) × IsSeqAnswer bytes name a × IsAnswered a → IsSeqStatus s
  works out s x input = works_by input.0 out s (written_of out s input.0 x input.1) input.2

  refuses : (out : List ℕ) (s : Status) → IsSeqOutput name bytes out s → (a : SeqAnswer) × IsSeqAnswer bytes name a × IsRefused a → IsRefusalStatus s
  refuses out s x input = refuses_by input.0 out s (written_of out s input.0 x input.1) input.2

pub seq_facts : (name : List ℕ) → CommandFacts (seq_meaning name)
seq_facts name = record { outputs = outputs name; works = works name; refuses = refuses name; no_memory = inr (inr refl); tells = λ bytes out s is. absurd cc }

pub seqs_have_one_output : SeqsHaveOneOutput
seqs_have_one_output name bytes one other s t x y = one_by y.answer one other s t (written_of name bytes one s y.answer x y.answers) y.written

pub answer_written : (name bytes out : List ℕ) (s : Status) (a : SeqAnswer) → IsSeqAnswer bytes name a → IsWrittenAnswer a out s → IsSeqOutput name bytes out s
answer_written name bytes out s a answers written = record { answer = a; answers = answers; written = written }

-- a trace that is answered is that of an accepted pair

module _ (name bytes text : List ℕ) (p q : Program) (events : List EnvEvent) (line : ℕ) (reads : ReadsSession bytes p q events line) where
  of_function : (f : ℕ) → function_number p.functions name ≡ Some f → IsFunctionAnswer p q f events line (Played text) → IsPlayedPair name bytes text
  of_function f named (other_shape apart is) = absurd cc
  of_function f named (refused_function site why refused is) = absurd cc
  of_function f named (unlawful at accepted u is) = absurd cc
  of_function f named (played other accepted y is) =
      let same : text ≡ other = cc in
      record {
        source = p;
        target = q;
        events = events;
        line = line;
        function = f;
        trace = y.trace;
        reads = reads;
        named = named;
        accepted = accepted;
        played = y.played;
        matching = subst (λ (labels : List PairLabel). AllByRecursion LabelMatches labels) (sym y.played.labels) y.played.related.labels;
        written = same ∙ y.written;
      }

  of_named : (number : Option ℕ) → function_number p.functions name ≡ number → IsNamedAnswer p q events line number (Played text) → IsPlayedPair name bytes text
  of_named None named h = absurd cc
  of_named (Some f) named h = of_function f named h

of_answer : (name bytes text : List ℕ) → IsSeqAnswer bytes name (Played text) → IsPlayedPair name bytes text
of_answer name bytes text (unread r first is) = absurd cc
of_answer name bytes text (read p q events line reads h) = of_named name bytes text p q events line reads (function_number p.functions name) refl h

of_written : (name bytes out : List ℕ) (a : SeqAnswer) → IsSeqAnswer bytes name a → IsWrittenAnswer a out status.Done → IsPlayedPair name bytes out
of_written name bytes out (Refused rule line column) answers h = let bad : status.Done ≡ status.Input = h.1 in absurd cc
of_written name bytes out OtherShape answers h = let bad : status.Done ≡ status.No = h.1 in absurd cc
of_written name bytes out (RefusedFunction function site why) answers h = let bad : status.Done ≡ status.No = h.1 in absurd cc
of_written name bytes out (Played text) answers h = of_answer name bytes out (subst (λ t. IsSeqAnswer bytes name (Played t)) (sym h.0) answers)

pub seqs_play_accepted_pairs : SeqsPlayAcceptedPairs
seqs_play_accepted_pairs name bytes out x = of_written name bytes out x.answer x.answers x.written
