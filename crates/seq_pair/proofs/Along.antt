-- Runs of a pair, event by event.
use Rattle.std.proofs.Common.{◌≡◌, ℕ, zero, suc, ◌+◌, ◌-◌, ◌<◌, ◌≤◌, Bool, true, false, cond, ◌&&◌, leb, List, [], ◌∷◌, ◌++◌, length, take, drop, get_or, refl, sym, ap, ◌∙◌, subst, arith}
use Rattle.std.proofs.Math.Seq.{take-add, drop-cons}
use Rattle.std.proofs.lemmas.List.{take-append-drop, length-take-le, take_all}
use Rattle.std.proofs.lemmas.Bool.{false≢true, le-leb, leb-true, and_parts, and_from}
use Rattle.il_syntax.specs.declared.program.Program.{Program}
use Rattle.seq_semantics.specs.declared.seen.Seen.{Seen}
use Rattle.seq_semantics.specs.Seq.{Seq, head_in, step_seen, after_seq_step}
use Rattle.seq_pair.specs.declared.event.EnvEvent.{EnvEvent}
use Rattle.seq_pair.specs.declared.event.EnvEvent.TheVariants.{Run}
use Rattle.seq_pair.specs.Pair.{Pair, is_inside, is_lawful, pair_after, goes_on, at_new_load, lowered_at_call, both_stepped, pair_step, steps, register_count, Came, Unlawful, pair_begun, run_from, pair_run}
use Rattle.seq_pair.specs.Laws.{IsAcceptedPair, IsInStep, PairsStayInStep}
use Rattle.seq_pair.specs.Pairing.{IsLed}

came_same : (a b : Pair) → Came a ≡ Came b → a ≡ b
came_same a b e = cc

plus_none : (at : ℕ) → at ≡ at + 0
plus_none at = omega arith

none_plus : (n : ℕ) → 0 + n ≡ n
none_plus n = omega arith

one_more : (at n : ℕ) → at + 1 + n ≡ at + suc n
one_more at n = omega arith

module _ (p q : Program) (f : ℕ) where
  more_by : (at : ℕ) (s s' : Pair) (e : EnvEvent) (xs ys : List EnvEvent) (b : Bool) → (run_from p q f (at + 1) (pair_after p q f s e) xs ≡ Came s' → run_from p q f (at + 1) (pair_after p q f s e) (xs ++ ys) ≡ run_from p q f (at + 1 + length xs) s' ys)
      → cond b (run_from p q f (at + 1) (pair_after p q f s e) xs) (Unlawful at) ≡ Came s' → cond b (run_from p q f (at + 1) (pair_after p q f s e) (xs ++ ys)) (Unlawful at) ≡ run_from p q f (at + suc (length xs)) s' ys
  more_by at s s' e xs ys true more c = more c ∙ ap (λ k. run_from p q f k s' ys) (one_more at (length xs))
  more_by at s s' e xs ys false more c = cc

  -- a run goes on with further events
  run_more : (at : ℕ) (s s' : Pair) (xs ys : List EnvEvent) → run_from p q f at s xs ≡ Came s' → run_from p q f at s (xs ++ ys) ≡ run_from p q f (at + length xs) s' ys
  run_more at s s' [] ys c = ap (λ z. run_from p q f at z ys) (came_same s s' c) ∙ ap (λ k. run_from p q f k s' ys) (plus_none at)
  run_more at s s' (e ∷ xs) ys c = more_by at s s' e xs ys (is_lawful p f s e) (run_more (at + 1) (pair_after p q f s e) s' xs ys) c

  one_by : (at : ℕ) (s : Pair) (e : EnvEvent) (rest : List EnvEvent) (b : Bool) → is_lawful p f s e ≡ b → run_from p q f at s (e ∷ rest) ≡ cond b (run_from p q f (at + 1) (pair_after p q f s e) rest) (Unlawful at)
  one_by at s e rest b l = ap (λ z. cond z (run_from p q f (at + 1) (pair_after p q f s e) rest) (Unlawful at)) l

  -- a lawful event more
  pub run_goes_on : (events : List EnvEvent) (s : Pair) (e : EnvEvent) → pair_run p q f events ≡ Came s → is_lawful p f s e ≡ true → pair_run p q f (events ++ e ∷ []) ≡ Came (pair_after p q f s e)
  run_goes_on events s e c l = run_more 0 (pair_begun p q f) s events (e ∷ []) c ∙ ap (λ k. run_from p q f k s (e ∷ [])) (none_plus (length events)) ∙ one_by (length events) s e [] true l

  -- of a list of events, one more
  pub run_takes_one : (events : List EnvEvent) (at : ℕ) (s : Pair) (e d : EnvEvent) → at < length events → get_or events at d ≡ e → pair_run p q f (take at events) ≡ Came s → is_lawful p f s e ≡ true → pair_run p q f (take (at + 1) events) ≡ Came (pair_after p q f s e)
  run_takes_one events at s e d b g c l =
      ap (pair_run p q f) (take-add at 1 events ∙ ap (λ z. take at events ++ take 1 z) (drop-cons events at d b) ∙ ap (λ z. take at events ++ z ∷ []) g)
      ∙ run_goes_on (take at events) s e c l

  -- an event that isn't lawful is the first
  pub run_stops : (events : List EnvEvent) (at : ℕ) (s : Pair) (e d : EnvEvent) → at < length events → get_or events at d ≡ e → pair_run p q f (take at events) ≡ Came s → is_lawful p f s e ≡ false → pair_run p q f events ≡ Unlawful at
  run_stops events at s e d b g c l =
      ap (pair_run p q f) (sym (take-append-drop at events) ∙ ap (λ z. take at events ++ z) (drop-cons events at d b ∙ ap (λ z. z ∷ drop (suc at) events) g))
      ∙ run_more 0 (pair_begun p q f) s (take at events) (e ∷ drop (suc at) events) c
      ∙ ap (λ k. run_from p q f k s (e ∷ drop (suc at) events)) (none_plus (length (take at events)))
      ∙ one_by (length (take at events)) s e (drop (suc at) events) false l
      ∙ ap Unlawful (length-take-le at events (omega (arith, b)))

  -- a run of all events
  pub run_whole : (events : List EnvEvent) (at : ℕ) (s : Pair) → length events ≤ at → pair_run p q f (take at events) ≡ Came s → pair_run p q f events ≡ Came s
  run_whole events at s b c = ap (pair_run p q f) (sym (take_all at events b)) ∙ c

  -- what the law of being in step gives the code
  pub led : PairsStayInStep → IsAcceptedPair p q f → (events : List EnvEvent) (s : Pair) → pair_run p q f events ≡ Came s → IsLed p q f s
  led law a events s c = record {
    now = law p q f events s a c;
    next = λ e l. law p q f (events ++ e ∷ []) (pair_after p q f s e) a (run_goes_on events s e c l);
  }

  may_run : (inside : Bool) (n k : ℕ) → k < n → (inside && (leb 1 n && leb n 16384)) ≡ true → (inside && (leb 1 (suc k) && leb (suc k) 16384)) ≡ true
  may_run true n k b l =
      let few = leb-true n 16384 (and_parts (leb 1 n) (leb n 16384) l).1 in
      and_from (leb 1 (suc k)) (leb (suc k) 16384) (le-leb 1 (suc k) (omega arith)) (le-leb (suc k) 16384 (omega (arith, b, few)))
  may_run false n k b l = absurd (false≢true l)

  -- before a lawful `run` the pair is in step after each of its steps
  pub led_along : (s : Pair) (n : ℕ) → IsLed p q f s → is_lawful p f s (Run n) ≡ true → (k : ℕ) → k ≤ n → IsInStep (register_count p f) (steps p q (register_count p f) k s)
  led_along s n h l zero b = h.now
  led_along s n h l (suc k) b = h.next (Run (suc k)) (may_run (is_inside s.stage) n k (omega (arith, b)) l)

module _ (p q : Program) (old : ℕ) where
  pub goes_once : (n : ℕ) (s t : Pair) → goes_on s ≡ true → t ≡ pair_step p q old s → steps p q old n t ≡ steps p q old (suc n) s
  goes_once n s t g e = ap (steps p q old n) e ∙ sym (ap (λ b. cond b (steps p q old n (pair_step p q old s)) s) g)

  pub stands_still : (n : ℕ) (s : Pair) → goes_on s ≡ false → steps p q old n s ≡ s
  stands_still zero s g = refl
  stands_still (suc n) s g = ap (λ b. cond b (steps p q old n (pair_step p q old s)) s) g

  pub goes_on_by : (left : ℕ) (s t : Pair) → 0 < left → goes_on s ≡ true → t ≡ pair_step p q old s → steps p q old (left - 1) t ≡ steps p q old left s
  goes_on_by left s t b g e =
      let same : suc (left - 1) ≡ left = omega (arith, b) in
      goes_once (left - 1) s t g e ∙ ap (λ n. steps p q old n s) same

  pub stays_in_step : (left : ℕ) (s t : Pair) → 0 < left → goes_on s ≡ true → t ≡ pair_step p q old s → ((k : ℕ) → k ≤ left → IsInStep old (steps p q old k s)) → (k : ℕ) → k ≤ left - 1 → IsInStep old (steps p q old k t)
  stays_in_step left s t b g e h k d = subst (IsInStep old) (sym (goes_once k s t g e)) (h (suc k) (omega (arith, b, d)))

  pub next_in_step : (s : Pair) → goes_on s ≡ true → IsInStep old (steps p q old 1 s) → IsInStep old (pair_step p q old s)
  next_in_step s g h = subst (IsInStep old) (sym (goes_once 0 s (pair_step p q old s) g refl)) h

  both_step : (s : Pair) → at_new_load old (head_in s.target) ≡ false → pair_step p q old s ≡ both_stepped s (step_seen q s.target) (step_seen p s.source) (after_seq_step s.target) (after_seq_step s.source)
  both_step s e = ap (λ b. cond b (lowered_at_call (record s { target = after_seq_step s.target })) (both_stepped s (step_seen q s.target) (step_seen p s.source) (after_seq_step s.target) (after_seq_step s.source))) e

  -- a step of both leaves what the step of the pair leaves
  pub step_of_both : (k : ℕ) (s : Pair) (tl sl : Seen) (t' s' : Seq) → old ≡ k → at_new_load old (head_in s.target) ≡ false → tl ≡ step_seen q s.target → sl ≡ step_seen p s.source → t' ≡ after_seq_step s.target → s' ≡ after_seq_step s.source
      → IsInStep old (pair_step p q old s) → IsInStep k (both_stepped s tl sl t' s')
  step_of_both k s tl sl t' s' o e tle sle te se h =
      let same : pair_step p q old s ≡ both_stepped s tl sl t' s' =
      both_step s e
      ∙ ap (λ z. both_stepped s z (step_seen p s.source) (after_seq_step s.target) (after_seq_step s.source)) (sym tle)
      ∙ ap (λ z. both_stepped s tl z (after_seq_step s.target) (after_seq_step s.source)) (sym sle)
      ∙ ap (λ z. both_stepped s tl sl z (after_seq_step s.source)) (sym te)
      ∙ ap (λ z. both_stepped s tl sl t' z) (sym se) in
      subst (λ z. IsInStep z (both_stepped s tl sl t' s')) o (subst (λ z. IsInStep old z) same h)
