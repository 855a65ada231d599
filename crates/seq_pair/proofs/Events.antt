-- Each lawful event leaves a pair related.
use Rattle.std.proofs.Common.{◌≡◌, ℕ, zero, suc, ◌+◌, ◌<◌, Bool, true, false, cond, not, ◌&&◌, ◌||◌, List, [], ◌∷◌, ◌++◌, length, Option, Some, None, refl, sym, ap, ◌∙◌, subst, inl, inr, arith, set, ltb}
use Rattle.std.specs.List.{AllByRecursion}
use Rattle.std.proofs.lemmas.Bool.{false≢true, cases_eq, cases_lt, and_parts, lt-leb}
use Rattle.std.proofs.lemmas.Bool.Decides.{Decides-int_eq}
use Rattle.std.proofs.lemmas.List.{length-set, length-map, set_past}
use Rattle.values_undef.proofs.Callers.{all_append}
use Rattle.values_undef.specs.declared.value.Val.{Val}
use Rattle.values_undef.specs.declared.value.Val.TheVariants.{Def, Undef}
use Rattle.values_undef.specs.Value.{IsBelow}
use Rattle.il_syntax.specs.declared.program.Function.{Function}
use Rattle.il_syntax.specs.declared.program.Program.{Program}
use Rattle.il_syntax.specs.declared.statement.Stmt.TheOpen.{Skip, Copy, Compute, Load, Store, AtomicLoad, AtomicStore, Update, Fence, Print, If, While, Call}
use Rattle.il_syntax.specs.Statements.{Head}
use Rattle.il_paths.specs.Code.{Visit, first_head}
use Rattle.il_paths.specs.Heads.{is_acquire, is_call}
use Rattle.thread_core.specs.Programs.{IsProperHead}
use Rattle.thread_core.specs.Frames.{called}
use Rattle.flow_facts.specs.declared.level.Level.{Level}
use Rattle.flow_facts.specs.declared.level.Level.TheVariants.{Nothing, Held, Fresh}
use Rattle.flow_facts.specs.Levels.{level_on}
use Rattle.paired_threads.specs.Values.{ValuesBelow}
use Rattle.paired_threads.specs.Functions.{PairedFunction, old_registers}
use Rattle.paired_threads.specs.Facts.{heard, owed, FactsHold}
use Rattle.paired_threads.specs.Next.{one_more, pending, PairedNext, both_end, inserts, turns, removes, same}
use Rattle.paired_threads.proofs.Callers.{pairs_go_on, facts_begin, calls_begin_paired}
use Rattle.seq_semantics.specs.declared.place.Perm.{Perm}
use Rattle.seq_semantics.specs.declared.place.Perm.TheVariants.{Bare, Shared, Owned}
use Rattle.seq_semantics.specs.declared.place.Place.{Place}
use Rattle.seq_semantics.specs.declared.seen.Seen.{Seen}
use Rattle.seq_semantics.specs.declared.seen.Wants.{Wants}
use Rattle.seq_semantics.specs.declared.seen.Wants.TheVariants as want
use Rattle.seq_semantics.specs.Seq.{Seq, place_in, with_place, with_frame, is_bare, loaded_from, lowered_if, head_in, wants_of, step_seen, after_seq_step, after_seq_step_at, value_seen, after_value, pass_seen, after_pass}
use Rattle.seq_pair.specs.declared.event.EnvEvent.{EnvEvent}
use Rattle.seq_pair.specs.declared.event.EnvEvent.TheVariants.{Enter, Run, Value, Take, Hide, Gain, See, Pass}
use Rattle.seq_pair.specs.declared.trace.PairEnd.TheVariants.{Same, SourceFailed, Cut}
use Rattle.seq_pair.specs.Labels.{is_failed, LabelMatches, labelled}
use Rattle.seq_pair.specs.Pair.{Pair, Stage, AtEntry, Inside, Over, is_below, is_shared, is_owned, wants_step, wants_value, wants_fence, is_at_entry, is_inside, is_without_failure, is_new_load, at_new_load, at_call, hears, arrives, lowered_at_call, stage_of, stage_after, labels_after, both_stepped, pair_step, goes_on, steps, parameter_count, register_count, may_hear, may_get, takes_value, is_lawful, given, started, bared, pair_after, Came, Unlawful, run_from}
use Rattle.seq_pair.specs.Related.{loaded_at, IsOwned, PlacesPaired, Related, Stands, PairRelated}
use Rattle.seq_pair.proofs.Places.{there, set_here, set_there, lower_paired, write_paired, write_source, write_target}
use Rattle.seq_pair.proofs.Steps.{Outcome, out_failed, out_ended, out_on, insert_on, step_on}
use Rattle.seq_pair.proofs.Values.{value_on}
use Rattle.seq_pair.proofs.Fences.{pass_on}

owed_call : (o : Option Head) (l : Level) → at_call o ≡ true → owed o l ≡ Nothing
owed_call None l e = absurd (false≢true e)
owed_call (Some h) l e = ap (λ (b : Bool). cond b Nothing (heard (is_acquire h) l)) e

heard_fresh : (l : Level) → (heard true l ≡ Nothing → ⊥) → heard true l ≡ Fresh
heard_fresh Nothing n = absurd (n refl)
heard_fresh Held n = absurd (n refl)
heard_fresh Fresh n = refl

-- where others may be heard, only what is fresh is owed
hears_fresh : (o : Option Head) (l : Level) → hears o ≡ true → (owed o l ≡ Nothing → ⊥) → owed o l ≡ Fresh
hears_fresh None l e n = absurd (false≢true e)
hears_fresh (Some h) l e n = by (is_call h) (is_acquire h) e n
  where
    by : (b c : Bool) → (b || c) ≡ true → (cond b Nothing (heard c l) ≡ Nothing → ⊥) → cond b Nothing (heard c l) ≡ Fresh
    by true c f m = absurd (m refl)
    by false true f m = heard_fresh l m
    by false false f m = absurd (false≢true f)

below_true : (b c : Val) → is_below b c ≡ true → IsBelow b c
below_true (Def m) (Def n) e = ap Def ((Decides-int_eq m n).0 e)
below_true Undef (Def n) e = absurd (false≢true e)
below_true (Def m) Undef e = tt
below_true Undef Undef e = tt

values_more : (ts ss : List Val) (b c : Val) → ValuesBelow ts ss → IsBelow b c → ValuesBelow (ts ++ b ∷ []) (ss ++ c ∷ [])
values_more [] [] b c h k = (k, tt)
values_more [] (s ∷ ss) b c h k = absurd h
values_more (t ∷ ts) [] b c h k = absurd h
values_more (t ∷ ts) (s ∷ ss) b c h k = (h.0, values_more ts ss b c h.1 k)

shared_not_bare : (p : Perm) → is_shared p ≡ true → p ≡ Bare → ⊥
shared_not_bare p e f = false≢true (sym (ap is_shared f) ∙ e)

shared_not_owned : (p : Perm) → is_shared p ≡ true → p ≡ Owned → ⊥
shared_not_owned p e f = false≢true (sym (ap is_shared f) ∙ e)

not_owned : (p : Perm) → not (is_owned p) ≡ true → p ≡ Owned → ⊥
not_owned p e f = false≢true (ap (λ z. not (is_owned z)) (sym f) ∙ e)

bare_true : (p : Perm) → is_bare p ≡ true → p ≡ Bare
bare_true Bare e = refl
bare_true Shared e = absurd (false≢true e)
bare_true Owned e = absurd (false≢true e)

bare_not_owned : (p : Perm) → p ≡ Bare → p ≡ Owned → ⊥
bare_not_owned p e f = let g : Bare ≡ Owned = sym e ∙ f in cc

wants_a_step : (w : Wants) → wants_step w ≡ true → w ≡ want.Step
wants_a_step want.Step e = refl
wants_a_step want.Value e = absurd (false≢true e)
wants_a_step want.Fence e = absurd (false≢true e)
wants_a_step want.Ended e = absurd (false≢true e)

wants_a_value : (w : Wants) → wants_value w ≡ true → w ≡ want.Value
wants_a_value want.Step e = absurd (false≢true e)
wants_a_value want.Value e = refl
wants_a_value want.Fence e = absurd (false≢true e)
wants_a_value want.Ended e = absurd (false≢true e)

wants_a_fence : (w : Wants) → wants_fence w ≡ true → w ≡ want.Fence
wants_a_fence want.Step e = absurd (false≢true e)
wants_a_fence want.Value e = absurd (false≢true e)
wants_a_fence want.Fence e = refl
wants_a_fence want.Ended e = absurd (false≢true e)

is_in : (stage : Stage) → is_inside stage ≡ true → stage ≡ Inside
is_in (AtEntry ts ss) e = absurd (false≢true e)
is_in Inside e = refl
is_in (Over end) e = absurd (false≢true e)

-- a statement of the source is no load into a new register
proper_old : (p : Program) (old : ℕ) (h : Head) → IsProperHead p old h → is_new_load old h ≡ false
proper_old p old Skip e = refl
proper_old p old (Copy r a) e = refl
proper_old p old (Compute r op a b) e = refl
proper_old p old (Load r x) e = lt-leb old r e.0
proper_old p old (Store x a) e = refl
proper_old p old (AtomicLoad r order y) e = refl
proper_old p old (AtomicStore order y a) e = refl
proper_old p old (Update r order y kind) e = refl
proper_old p old (Fence order) e = refl
proper_old p old (Print a) e = refl
proper_old p old (If a one other) e = refl
proper_old p old (While a body) e = refl
proper_old p old (Call r f args) e = refl

-- how many registers the source has
pub counted : {p q : Program} {f : ℕ} (fn : PairedFunction p q f) → register_count p f ≡ old_registers fn
counted fn = ap (λ (o : Option Function). elim o as (λ _. ℕ) [ Some g ↦ length g.registers | None ↦ 0 ]) fn.source_there

module _ {p q : Program} {f : ℕ} (fn : PairedFunction p q f) where
  abbrev old : ℕ
  old = old_registers fn

  lower_stands : (stage : Stage) (b : Bool) (t s : Seq) → (b ≡ true → at_call (head_in t) ≡ true) → Stands fn stage t s → Stands fn stage (lowered_if b t) (lowered_if b s)
  lower_stands stage false t s e h = h
  lower_stands (AtEntry ts ss) true t s e h = record {
    values = h.values;
    same_many = length-map t.places _ ∙ h.same_many ∙ sym (length-map s.places _);
    places = lower_paired (λ x. false) t.places s.places h.places;
    target_runs = h.target_runs;
    source_runs = h.source_runs;
  }
  lower_stands Inside true t s e h =
      let r = h.1 in
      let path = h.0 in (
        path,
        record {
          frames = r.frames;
          same_many = length-map t.places _ ∙ r.same_many ∙ sym (length-map s.places _);
          places = lower_paired (λ x. pending fn x path) t.places s.places r.places;
          facts = record {
            known = λ x a above. absurd (above (owed_call (head_in t) (level_on x a path) (e refl)));
            fresh = λ x a k. let g : Nothing ≡ Fresh = sym (owed_call (head_in t) (level_on x a path) (e refl)) ∙ k in cc;
          };
          target_runs = r.target_runs;
          source_runs = r.source_runs;
        },
      )
  lower_stands (Over Same) true t s e h = h
  lower_stands (Over SourceFailed) true t s e h = h
  lower_stands (Over Cut) true t s e h = absurd h

  lowering_keeps : (s : Pair) → PairRelated fn s → PairRelated fn (lowered_at_call s)
  lowering_keeps s h = record { labels = h.labels; stands = lower_stands s.stage (arrives s) s.target s.source (λ e. (and_parts (is_inside s.stage) (at_call (head_in s.target)) e).1) h.stands }

  module _ (s : Pair) (labels : AllByRecursion LabelMatches s.labels) (tl sl : Seen) (t' s' : Seq) where
    abbrev before_arrival : Pair
    before_arrival = record { stage = stage_after tl sl; target = t'; source = s'; labels = s.labels ++ labels_after tl sl }

    unarrived : (b : Bool) → is_failed sl ≡ b → AllByRecursion LabelMatches (cond b [] (labelled tl sl)) → Stands fn (cond b (Over SourceFailed) (stage_of tl)) t' s' → PairRelated fn before_arrival
    unarrived b e h k = record {
      labels = all_append LabelMatches s.labels (labels_after tl sl) labels (subst (λ (c : Bool). AllByRecursion LabelMatches (cond c [] (labelled tl sl))) (sym e) h);
      stands = subst (λ (c : Bool). Stands fn (cond c (Over SourceFailed) (stage_of tl)) t' s') (sym e) k;
    }

    met_by : Outcome fn tl sl t' s' → PairRelated fn before_arrival
    met_by (out_failed e c) = unarrived true e tt c
    met_by (out_ended e g m ct cs) = unarrived false e m (subst (λ stage. Stands fn stage t' s') (sym g) (ct, cs))
    met_by (out_on path e g m rel) = unarrived false e m (subst (λ stage. Stands fn stage t' s') (sym g) (path, rel))

    stepping_keeps : Outcome fn tl sl t' s' → PairRelated fn (both_stepped s tl sl t' s')
    stepping_keeps o = lowering_keeps before_arrival (met_by o)

  -- an inserted load is a step of the target alone
  insert_keeps : (path : List Visit) (t s : Seq) → Related fn path t s → at_new_load old (head_in t) ≡ true → PairedNext fn path t.frame s.frame → (more : List Visit) × Related fn more (after_seq_step t) s
  insert_keeps path t s rel e (both_end et es settled) = absurd (false≢true (sym (ap (at_new_load old) et) ∙ e))
  insert_keeps path t s rel e (inserts v r x et ev new few settled stays gives_target) =
      (one_more fn path v, subst (λ o. Related fn (one_more fn path v) (after_seq_step_at t o) s) (sym et) (insert_on fn path t s rel v r x et ev few settled stays gives_target))
  insert_keeps path t s rel e (turns v r x a et es ev l known stays gives_paired) = absurd (false≢true (sym (ap (at_new_load old) et) ∙ e))
  insert_keeps path t s rel e (removes v x a et es ev below pends others frames) = absurd (false≢true (sym (ap (at_new_load old) et) ∙ e))
  insert_keeps path t s rel e (same v h et es ev proper n) = absurd (false≢true (sym (proper_old p old h proper) ∙ sym (ap (at_new_load old) et) ∙ e))

  inside : (s : Pair) → s.stage ≡ Inside → PairRelated fn s → Stands fn Inside s.target s.source
  inside s e h = subst (λ stage. Stands fn stage s.target s.source) e h.stands

  pair_step_by : (s : Pair) (b : Bool) → at_new_load old (head_in s.target) ≡ b → PairRelated fn s → s.stage ≡ Inside → wants_of s.target ≡ want.Step
      → PairRelated fn (cond b (lowered_at_call (record s { target = after_seq_step s.target })) (both_stepped s (step_seen q s.target) (step_seen p s.source) (after_seq_step s.target) (after_seq_step s.source)))
  pair_step_by s true e h i w =
      let r = inside s i h in
      let n = insert_keeps r.0 s.target s.source r.1 e (pairs_go_on p q f fn r.0 s.target.frame s.source.frame r.1.frames) in
      lowering_keeps (record s { target = after_seq_step s.target }) (record { labels = h.labels; stands = subst (λ stage. Stands fn stage (after_seq_step s.target) s.source) (sym i) n })
  pair_step_by s false e h i w =
      let r = inside s i h in
      stepping_keeps s h.labels (step_seen q s.target) (step_seen p s.source) (after_seq_step s.target) (after_seq_step s.source) (step_on fn r.0 s.target s.source r.1 w e)

  pair_step_keeps : (s : Pair) → PairRelated fn s → s.stage ≡ Inside → wants_of s.target ≡ want.Step → PairRelated fn (pair_step p q old s)
  pair_step_keeps s h i w = pair_step_by s (at_new_load old (head_in s.target)) refl h i w

  going : (s : Pair) → goes_on s ≡ true → (s.stage ≡ Inside) × (wants_of s.target ≡ want.Step)
  going s g =
      let b = and_parts (is_inside s.stage) (wants_step (wants_of s.target)) g in (is_in s.stage b.0, wants_a_step (wants_of s.target) b.1)

  steps_by : (n : ℕ) (s : Pair) (b : Bool) → goes_on s ≡ b → PairRelated fn s → (PairRelated fn (pair_step p q old s) → PairRelated fn (steps p q old n (pair_step p q old s))) → PairRelated fn (cond b (steps p q old n (pair_step p q old s)) s)
  steps_by n s true e h more = let g = going s e in more (pair_step_keeps s h g.0 g.1)
  steps_by n s false e h more = h

  pub steps_keep : (n : ℕ) (s : Pair) → PairRelated fn s → PairRelated fn (steps p q old n s)
  steps_keep zero s h = h
  steps_keep (suc n) s h = steps_by n s (goes_on s) refl h (steps_keep n (pair_step p q old s))

  -- The environment takes a location, or hides it from the source.

  -- what the source could read it still loaded_at, or `undef`; what it IsOwned it still IsOwned
  bare_reads : (s : Seq) (x : ℕ) → x < length s.places → (y : ℕ) (b : Val) → IsBelow b (loaded_at s y) → IsBelow b (loaded_at (bared s x) y)
  bare_reads s x l y b h = elim (cases_eq y x) [
    | inl e ↦ subst (λ z. IsBelow b (loaded_at (bared s x) z)) (sym e) (subst (IsBelow b) (sym (ap loaded_from (set_here s.places x _ l))) tt)
    | inr n ↦ subst (IsBelow b) (sym (ap loaded_from (set_there s.places x y _ n))) h
  ]

  bare_owns : (s : Seq) (x : ℕ) → (IsOwned s x → ⊥) → (y : ℕ) → IsOwned s y → IsOwned (bared s x) y
  bare_owns s x n y own = elim (cases_eq y x) [
    | inl e ↦ absurd (n (subst (IsOwned s) e own))
    | inr m ↦ ap (λ (z : Place). z.permission) (set_there s.places x y _ m) ∙ own
  ]

  bare_facts : (path : List Visit) (o : Option Head) (registers : List Val) (s : Seq) (x : ℕ) → x < length s.places → (IsOwned s x → ⊥) → FactsHold path o registers (loaded_at s) (IsOwned s) → FactsHold path o registers (loaded_at (bared s x)) (IsOwned (bared s x))
  bare_facts path o registers s x l n h = record {
    known = λ y a above. bare_reads s x l y _ (h.known y a above);
    fresh = λ y a e. bare_owns s x n y (h.fresh y a e);
  }

  take_places : (pends : ℕ → Bool) (t s : Seq) (x : ℕ) → x < length t.places → x < length s.places → PlacesPaired pends t.places s.places → PlacesPaired pends (bared t x).places (bared s x).places
  take_places pends t s x lt ls h = write_paired pends pends t.places s.places x _ _ lt ls (λ y n. refl) (inl refl) h

  take_stands : (stage : Stage) (t s : Seq) (x : ℕ) → is_shared (place_in t.places x).permission ≡ true → not (is_owned (place_in s.places x).permission) ≡ true → Stands fn stage t s → Stands fn stage (bared t x) (bared s x)
  take_stands (AtEntry ts ss) t s x sh own h =
      let lt = there t.places x (shared_not_bare _ sh) in
      record {
        values = h.values;
        same_many = length-set t.places x _ ∙ h.same_many ∙ sym (length-set s.places x _);
        places = take_places (λ y. false) t s x lt (omega (arith, h.same_many, lt)) h.places;
        target_runs = h.target_runs;
        source_runs = h.source_runs;
      }
  take_stands Inside t s x sh own h =
      let r = h.1 in
      let path = h.0 in
      let lt = there t.places x (shared_not_bare _ sh) in
      let ls : x < length s.places = omega (arith, r.same_many, lt) in (
        path,
        record {
          frames = r.frames;
          same_many = length-set t.places x _ ∙ r.same_many ∙ sym (length-set s.places x _);
          places = take_places (λ y. pending fn y path) t s x lt ls r.places;
          facts = bare_facts path (head_in t) t.frame.registers s x ls (not_owned _ own) r.facts;
          target_runs = r.target_runs;
          source_runs = r.source_runs;
        },
      )
  take_stands (Over Same) t s x sh own h = h
  take_stands (Over SourceFailed) t s x sh own h = h
  take_stands (Over Cut) t s x sh own h = absurd h

  hide_places : (pends : ℕ → Bool) (t s : Seq) (x : ℕ) → x < length s.places → PlacesPaired pends t.places s.places → PlacesPaired pends t.places (bared s x).places
  hide_places pends t s x ls h = write_source pends pends t.places s.places x _ ls (λ y n. refl) (inl refl) h

  hide_stands : (stage : Stage) (t s : Seq) (x : ℕ) → is_shared (place_in s.places x).permission ≡ true → Stands fn stage t s → Stands fn stage t (bared s x)
  hide_stands (AtEntry ts ss) t s x sh h = record {
    values = h.values;
    same_many = h.same_many ∙ sym (length-set s.places x _);
    places = hide_places (λ y. false) t s x (there s.places x (shared_not_bare _ sh)) h.places;
    target_runs = h.target_runs;
    source_runs = h.source_runs;
  }
  hide_stands Inside t s x sh h =
      let r = h.1 in
      let path = h.0 in
      let ls = there s.places x (shared_not_bare _ sh) in (
        path,
        record {
          frames = r.frames;
          same_many = r.same_many ∙ sym (length-set s.places x _);
          places = hide_places (λ y. pending fn y path) t s x ls r.places;
          facts = bare_facts path (head_in t) t.frame.registers s x ls (shared_not_owned _ sh) r.facts;
          target_runs = r.target_runs;
          source_runs = r.source_runs;
        },
      )
  hide_stands (Over Same) t s x sh h = h
  hide_stands (Over SourceFailed) t s x sh h = h
  hide_stands (Over Cut) t s x sh h = absurd h

  -- The environment gives a location back, to both or to the target.

  gain_places : (pends : ℕ → Bool) (ts ss : List Place) (x : ℕ) (b c : Val) → length ts ≡ length ss → IsBelow b c → PlacesPaired pends ts ss → PlacesPaired pends (set ts x (record { permission = Shared; value = b })) (set ss x (record { permission = Shared; value = c }))
  gain_places pends ts ss x b c many below h = elim (cases_lt x (length ts)) [
    | inl l ↦ write_paired pends pends ts ss x _ _ l (omega (arith, many, l)) (λ y n. refl) (inr (λ e. let g : Shared ≡ Bare = e in cc, λ e. below)) h
    | inr past ↦ subst (λ z. PlacesPaired pends z (set ss x (record { permission = Shared; value = c }))) (sym (set_past ts x _ past)) (subst (PlacesPaired pends ts) (sym (set_past ss x _ (omega (arith, many, past)))) h)
  ]

  see_places : (pends : ℕ → Bool) (ts ss : List Place) (x : ℕ) (b : Val) → (place_in ss x).permission ≡ Bare → PlacesPaired pends ts ss → PlacesPaired pends (set ts x (record { permission = Shared; value = b })) ss
  see_places pends ts ss x b bare h = elim (cases_lt x (length ts)) [
    | inl l ↦ write_target pends ts ss x _ l (inl bare) h
    | inr past ↦ subst (λ z. PlacesPaired pends z ss) (sym (set_past ts x _ past)) h
  ]

  gain_facts : (path : List Visit) (o : Option Head) (registers : List Val) (s : Seq) (x : ℕ) (c : Val) → hears o ≡ true → (place_in s.places x).permission ≡ Bare → FactsHold path o registers (loaded_at s) (IsOwned s) → FactsHold path o registers (loaded_at (with_place s x Shared c)) (IsOwned (with_place s x Shared c))
  gain_facts path o registers s x c hear bare h = record {
    known = λ y a above.
        let fresh = hears_fresh o (level_on y a path) hear above in
        subst (IsBelow _) (sym (ap loaded_from (set_there s.places x y _ (other y (h.fresh y a fresh))))) (h.known y a above);
    fresh = λ y a e. let own = h.fresh y a e in ap (λ (z : Place). z.permission) (set_there s.places x y _ (other y own)) ∙ own;
  }
    where
      other : (y : ℕ) → IsOwned s y → y ≡ x → ⊥
      other y own e = bare_not_owned (place_in s.places x).permission bare (subst (IsOwned s) e own)

  gain_stands : (stage : Stage) (t s : Seq) (x : ℕ) (b c : Val) → (stage ≡ Inside → hears (head_in t) ≡ true) → (place_in s.places x).permission ≡ Bare → IsBelow b c → Stands fn stage t s → Stands fn stage (with_place t x Shared b) (with_place s x Shared c)
  gain_stands (AtEntry ts ss) t s x b c hear bare below h = record {
    values = h.values;
    same_many = length-set t.places x _ ∙ h.same_many ∙ sym (length-set s.places x _);
    places = gain_places (λ y. false) t.places s.places x b c h.same_many below h.places;
    target_runs = h.target_runs;
    source_runs = h.source_runs;
  }
  gain_stands Inside t s x b c hear bare below h =
      let r = h.1 in
      let path = h.0 in (
        path,
        record {
          frames = r.frames;
          same_many = length-set t.places x _ ∙ r.same_many ∙ sym (length-set s.places x _);
          places = gain_places (λ y. pending fn y path) t.places s.places x b c r.same_many below r.places;
          facts = gain_facts path (head_in t) t.frame.registers s x c (hear refl) bare r.facts;
          target_runs = r.target_runs;
          source_runs = r.source_runs;
        },
      )
  gain_stands (Over Same) t s x b c hear bare below h = h
  gain_stands (Over SourceFailed) t s x b c hear bare below h = h
  gain_stands (Over Cut) t s x b c hear bare below h = absurd h

  see_stands : (stage : Stage) (t s : Seq) (x : ℕ) (b : Val) → (place_in s.places x).permission ≡ Bare → Stands fn stage t s → Stands fn stage (with_place t x Shared b) s
  see_stands (AtEntry ts ss) t s x b bare h = record {
    values = h.values;
    same_many = length-set t.places x _ ∙ h.same_many;
    places = see_places (λ y. false) t.places s.places x b bare h.places;
    target_runs = h.target_runs;
    source_runs = h.source_runs;
  }
  see_stands Inside t s x b bare h =
      let r = h.1 in
      let path = h.0 in (
        path,
        record {
          frames = r.frames;
          same_many = length-set t.places x _ ∙ r.same_many;
          places = see_places (λ y. pending fn y path) t.places s.places x b bare r.places;
          facts = r.facts;
          target_runs = r.target_runs;
          source_runs = r.source_runs;
        },
      )
  see_stands (Over Same) t s x b bare h = h
  see_stands (Over SourceFailed) t s x b bare h = h
  see_stands (Over Cut) t s x b bare h = absurd h

  -- Values, and the end of the entry.

  value_keeps : (s : Pair) (stage : Stage) (b c : Val) → s.stage ≡ stage → IsBelow b c → (elim stage as (λ _. Bool) [ AtEntry ts ss ↦ ltb (length ts) (parameter_count p f) | Inside ↦ wants_value (wants_of s.target) | Over end ↦ false ]) ≡ true → PairRelated fn s → PairRelated fn (given b c s stage)
  value_keeps s (AtEntry ts ss) b c e below w h =
      let r = subst (λ stage. Stands fn stage s.target s.source) e h.stands in
      record {
        labels = h.labels;
        stands = record { values = values_more ts ss b c r.values below; same_many = r.same_many; places = r.places; target_runs = r.target_runs; source_runs = r.source_runs };
      }
  value_keeps s Inside b c e below w h =
      let r = inside s e h in
      stepping_keeps s h.labels (value_seen s.target b) (value_seen s.source c) (after_value s.target b) (after_value s.source c) (value_on fn r.0 s.target s.source r.1 b c below (wants_a_value (wants_of s.target) w))
  value_keeps s (Over end) b c e below w h = absurd (false≢true w)

  pass_keeps : (s : Pair) → s.stage ≡ Inside → wants_of s.target ≡ want.Fence → PairRelated fn s → PairRelated fn (both_stepped s (pass_seen s.target) (pass_seen s.source) (after_pass s.target) (after_pass s.source))
  pass_keeps s i w h =
      let r = inside s i h in
      stepping_keeps s h.labels (pass_seen s.target) (pass_seen s.source) (after_pass s.target) (after_pass s.source) (pass_on fn r.0 s.target s.source r.1 w)

  enter_keeps : (s : Pair) (stage : Stage) → s.stage ≡ stage → PairRelated fn s → PairRelated fn (started p q f s stage)
  enter_keeps s (AtEntry ts ss) e h =
      let r = subst (λ stage. Stands fn stage s.target s.source) e h.stands in
      lowering_keeps (record s { stage = Inside; target = with_frame s.target (called q f ts); source = with_frame s.source (called p f ss) }) (record {
        labels = h.labels;
        stands = (
          [],
          record {
            frames = calls_begin_paired p q f fn ts ss r.values;
            same_many = r.same_many;
            places = r.places;
            facts = facts_begin (first_head (called q f ts).continuation) (called q f ts).registers (loaded_at s.source) (IsOwned s.source);
            target_runs = r.target_runs;
            source_runs = r.source_runs;
          },
        );
      })
  enter_keeps s Inside e h = h
  enter_keeps s (Over end) e h = h

  hearing : (s : Pair) → may_hear s ≡ true → s.stage ≡ Inside → hears (head_in s.target) ≡ true
  hearing s g i =
      let w : Bool = wants_value (wants_of s.target) || wants_fence (wants_of s.target) in
      (and_parts w (hears (head_in s.target)) (subst (λ (stage : Stage). (is_at_entry stage || (is_inside stage && (w && hears (head_in s.target)))) ≡ true) i g)).1

  -- what is lawful to give: others may be heard, and neither has the location
  record MayGet (s : Pair) (x : ℕ) : Type 0 where
    hear : s.stage ≡ Inside → hears (head_in s.target) ≡ true
    bare : (place_in s.source.places x).permission ≡ Bare

  may_give : (s : Pair) (x : ℕ) → may_get p s x ≡ true → MayGet s x
  may_give s x l =
      let g = and_parts (may_hear s) _ l in
      let k = and_parts (ltb x (length p.na)) _ g.1 in
      let m = and_parts (is_bare (place_in s.target.places x).permission) (is_bare (place_in s.source.places x).permission) k.1 in
      record { hear = hearing s g.0; bare = bare_true (place_in s.source.places x).permission m.1 }

  -- Each lawful event leaves the pair related.
  pub event_keeps : (s : Pair) (e : EnvEvent) → is_lawful p f s e ≡ true → PairRelated fn s → PairRelated fn (pair_after p q f s e)
  event_keeps s Enter l h = enter_keeps s s.stage refl h
  event_keeps s (Run n) l h = subst (λ k. PairRelated fn (steps p q k n s)) (sym (counted fn)) (steps_keep n s h)
  event_keeps s (Value b c) l h =
      let g = and_parts (takes_value p f s) (is_below b c) l in value_keeps s s.stage b c refl (below_true b c g.1) g.0 h
  event_keeps s (Take x) l h =
      let g = and_parts (is_without_failure s.stage) _ l in
      let k = and_parts (ltb x (length p.na)) _ g.1 in
      let m = and_parts (is_shared (place_in s.target.places x).permission) _ k.1 in
      record { labels = h.labels; stands = take_stands s.stage s.target s.source x m.0 m.1 h.stands }
  event_keeps s (Hide x) l h =
      let g = and_parts (is_without_failure s.stage) _ l in
      let k = and_parts (ltb x (length p.na)) _ g.1 in
      record { labels = h.labels; stands = hide_stands s.stage s.target s.source x k.1 h.stands }
  event_keeps s (Gain x b c) l h =
      let g = and_parts (may_get p s x) (is_below b c) l in
      let m = may_give s x g.0 in
      record { labels = h.labels; stands = gain_stands s.stage s.target s.source x b c m.hear m.bare (below_true b c g.1) h.stands }
  event_keeps s (See x b) l h = let m = may_give s x l in record { labels = h.labels; stands = see_stands s.stage s.target s.source x b m.bare h.stands }
  event_keeps s Pass l h =
      let g = and_parts (is_inside s.stage) (wants_fence (wants_of s.target)) l in pass_keeps s (is_in s.stage g.0) (wants_a_fence (wants_of s.target) g.1) h

  came_same : (a b : Pair) → Came a ≡ Came b → a ≡ b
  came_same a b e = cc

  run_by : (at : ℕ) (s s' : Pair) (e : EnvEvent) (events : List EnvEvent) (b : Bool) → is_lawful p f s e ≡ b → PairRelated fn s → (PairRelated fn (pair_after p q f s e) → run_from p q f (at + 1) (pair_after p q f s e) events ≡ Came s' → PairRelated fn s')
      → cond b (run_from p q f (at + 1) (pair_after p q f s e) events) (Unlawful at) ≡ Came s' → PairRelated fn s'
  run_by at s s' e events true l h more c = more (event_keeps s e l h) c
  run_by at s s' e events false l h more c = cc

  pub run_keeps : (at : ℕ) (s s' : Pair) (events : List EnvEvent) → PairRelated fn s → run_from p q f at s events ≡ Came s' → PairRelated fn s'
  run_keeps at s s' [] h e = subst (PairRelated fn) (came_same s s' e) h
  run_keeps at s s' (e ∷ events) h c = run_by at s s' e events (is_lawful p f s e) refl h (run_keeps (at + 1) (pair_after p q f s e) s' events) c
