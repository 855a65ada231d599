-- What the relation tells of a pair, and the laws.
use Rattle.std.proofs.Common.{◌≡◌, ◌↔◌, ◌⊎◌, ℕ, Option, zero, suc, Bool, true, false, List, [], ◌∷◌, length, map, slice_get, Some, None, refl, sym, ap, ◌∙◌, subst, inl, inr}
use Rattle.std.proofs.lemmas.Bool.{false≢true, le-leb}
use Rattle.std.proofs.lemmas.Option.{none-some, same_Some}
use Rattle.std.specs.List.{AllByRecursion}
use Rattle.values_undef.specs.declared.value.Val.{Val}
use Rattle.values_undef.specs.declared.value.Val.TheVariants.{Def}
use Rattle.values_undef.specs.declared.access.Cause.{Cause}
use Rattle.values_undef.specs.declared.access.Cause.TheVariants as cause
use Rattle.values_undef.specs.declared.access.Access.TheVariants as access
use Rattle.values_undef.proofs.Callers.{below_refl}
use Rattle.il_syntax.specs.declared.program.Function.{Function}
use Rattle.il_syntax.specs.declared.program.Location.{Location}
use Rattle.il_syntax.specs.declared.program.Program.{Program}
use Rattle.il_syntax.specs.declared.statement.Atom.{Atom}
use Rattle.il_syntax.specs.declared.statement.Stmt.TheOpen.{Skip, Copy, Compute, Load, Store, AtomicLoad, AtomicStore, Update, Fence, Print, If, While, Call}
use Rattle.il_syntax.specs.Statements.{Head}
use Rattle.il_paths.specs.Code.{Visit}
use Rattle.thread_core.specs.declared.next.Next.TheVariants as next
use Rattle.thread_core.specs.Programs.{IsProperFunction}
use Rattle.thread_core.proofs.Callers.{well_formed_proper}
use Rattle.validator.proofs.Callers.{accepted}
use Rattle.thread_core.specs.Frames.{evaluated, evaluated_kind, next_at}
use Rattle.paired_threads.specs.Functions.{PairedFunction, old_registers}
use Rattle.paired_threads.specs.Next.{pending, Settled, SameNext, both_silent, source_fails, loads, stores, loads_atomic, stores_atomic, updates, fences, prints, calls, PairedNext, both_end, inserts, turns, removes, same}
use Rattle.paired_threads.proofs.Callers.{pairs_go_on}
use Rattle.seq_semantics.specs.declared.place.Perm.{Perm}
use Rattle.seq_semantics.specs.declared.place.Perm.TheVariants.{Bare, Shared, Owned}
use Rattle.seq_semantics.specs.declared.place.Place.{Place}
use Rattle.seq_semantics.specs.declared.place.Course.{Course}
use Rattle.seq_semantics.specs.declared.place.Course.TheVariants.{Running, AtEnd, HasFailed}
use Rattle.seq_semantics.specs.declared.seen.Wants.TheVariants as want
use Rattle.seq_semantics.specs.Seq.{Seq, place_in, head_in, wants_of, seq_begun}
use Rattle.seq_pair.specs.declared.event.EnvEvent.{EnvEvent}
use Rattle.seq_pair.specs.declared.trace.PairEnd.TheVariants.{Same, SourceFailed, Cut}
use Rattle.seq_pair.specs.Pair.{Pair, Stage, AtEntry, Inside, Over, at_new_load, at_call, hears as heard_at, pair_begun, Came, pair_run}
use Rattle.seq_pair.specs.Related.{PlacePaired, Related, Stands, PairRelated}
use Rattle.seq_pair.specs.Laws.{IsAcceptedPair, PlaceBelow, MemoryBelow, hands_over, StaysRelated, PairsStayRelated, IsInStep, PairsStayInStep}
use Rattle.seq_pair.proofs.Events.{counted, run_keeps}
use Rattle.seq_pair.proofs.Steps.{wants_in}

at_depth_64 : (registers : List Val) (h : Head) → ((depth : ℕ) → next_at registers depth h ≡ next.Silent) → hands_over (Some h) ≡ false
at_depth_64 registers Skip e = refl
at_depth_64 registers (Copy r a) e = refl
at_depth_64 registers (Compute r op a b) e = refl
at_depth_64 registers (Load r x) e = refl
at_depth_64 registers (Store x a) e = refl
at_depth_64 registers (AtomicLoad r order y) e = refl
at_depth_64 registers (AtomicStore order y a) e = let g : next.Access (access.Write y order (evaluated registers a)) ≡ next.Silent = e 1 in cc
at_depth_64 registers (Update r order y kind) e = let g : next.Access (access.Update y order (evaluated_kind registers kind)) ≡ next.Silent = e 1 in cc
at_depth_64 registers (Fence order) e = let g : next.Access (access.Fence order) ≡ next.Silent = e 1 in cc
at_depth_64 registers (Print a) e = refl
at_depth_64 registers (If a one other) e = refl
at_depth_64 registers (While a body) e = refl
at_depth_64 registers (Call r f args) e = let g : next.Access (access.Fail cause.Depth) ≡ next.Silent = e 64 in cc

failing : (registers : List Val) (h : Head) (why : Cause) → ((depth : ℕ) → next_at registers depth h ≡ next.Access (access.Fail why)) → hands_over (Some h) ≡ false
failing registers Skip why e = refl
failing registers (Copy r a) why e = refl
failing registers (Compute r op a b) why e = refl
failing registers (Load r x) why e = refl
failing registers (Store x a) why e = refl
failing registers (AtomicLoad r order y) why e = refl
failing registers (AtomicStore order y a) why e = let g : next.Access (access.Write y order (evaluated registers a)) ≡ next.Access (access.Fail why) = e 1 in cc
failing registers (Update r order y kind) why e = let g : next.Access (access.Update y order (evaluated_kind registers kind)) ≡ next.Access (access.Fail why) = e 1 in cc
failing registers (Fence order) why e = let g : next.Access (access.Fence order) ≡ next.Access (access.Fail why) = e 1 in cc
failing registers (Print a) why e = refl
failing registers (If a one other) why e = refl
failing registers (While a body) why e = refl
failing registers (Call r f args) why e = let g : next.Silent ≡ next.Access (access.Fail why) = e 1 in cc

module _ {p q : Program} {f : ℕ} (fn : PairedFunction p q f) (path : List Visit) (t s : Seq) (rel : Related fn path t s) where
  -- At a release, a call and the end nothing is pending.
  same_settled : (v : Visit) (h : Head) → hands_over (Some h) ≡ true → SameNext fn path t.frame s.frame v h → Settled fn path
  same_settled v h e (both_silent nt ns stays frames) = absurd (false≢true (sym (at_depth_64 t.frame.registers h nt) ∙ e))
  same_settled v h e (source_fails why ns) = absurd (false≢true (sym (failing s.frame.registers h why ns) ∙ e))
  same_settled v h e (loads r x l settled stays gives_paired) = absurd (false≢true e)
  same_settled v h e (stores x a below settled others frames) = absurd (false≢true e)
  same_settled v h e (loads_atomic r order y stays gives_paired) = absurd (false≢true e)
  same_settled v h e (stores_atomic order y a below settled stays frames) = settled e
  same_settled v h e (updates r order y kind below settled stays gives_paired) = settled e
  same_settled v h e (fences order settled stays frames) = settled e
  same_settled v h e (prints a n pt ps stays frames) = absurd (false≢true e)
  same_settled v h e (calls r g args below settled stays gives_paired) = settled

  settled_by : PairedNext fn path t.frame s.frame → hands_over (head_in t) ≡ true → Settled fn path
  settled_by (both_end et es settled) e = settled
  settled_by (inserts v r x et ev new few settled stays gives_target) e = absurd (false≢true (sym (ap hands_over et) ∙ e))
  settled_by (turns v r x a et es ev l known stays gives_paired) e = absurd (false≢true (sym (ap hands_over et) ∙ e))
  settled_by (removes v x a et es ev below pends others frames) e = absurd (false≢true (sym (ap hands_over et) ∙ e))
  settled_by (same v h et es ev proper n) e = same_settled v h (sym (ap hands_over et) ∙ e) n

  place_below : (b : Bool) (pt ps : Place) → b ≡ false → PlacePaired b pt ps → PlaceBelow pt ps
  place_below b pt ps e (inl bare) = inl bare
  place_below b pt ps e (inr h) = inr (h.0, h.1 e)

  memory_below : hands_over (head_in t) ≡ true → MemoryBelow t s
  memory_below e x = place_below (pending fn x path) (place_in t.places x) (place_in s.places x) (settled_by (pairs_go_on p q f fn path t.frame s.frame rel.frames) e x) (rel.places x)

  -- Both wait for the same, but where the target's next statement is an inserted load.
  abbrev WaitAlike : Type 0
  WaitAlike = ((at_new_load (old_registers fn) (head_in t) ≡ true) × (wants_of t ≡ want.Step)) ⊎ (wants_of s ≡ wants_of t)

  wait_alike : PairedNext fn path t.frame s.frame → WaitAlike
  wait_alike (both_end et es settled) = inr (wants_in s None rel.source_runs es ∙ sym (wants_in t None rel.target_runs et))
  wait_alike (inserts v r x et ev new few settled stays gives_target) = inl (ap (at_new_load (old_registers fn)) et ∙ le-leb (old_registers fn) r new, wants_in t (Some (Load r x)) rel.target_runs et)
  wait_alike (turns v r x a et es ev l known stays gives_paired) = inr (wants_in s (Some (Load r x)) rel.source_runs es ∙ sym (wants_in t (Some (Copy r a)) rel.target_runs et))
  wait_alike (removes v x a et es ev below pends others frames) = inr (wants_in s (Some (Store x a)) rel.source_runs es ∙ sym (wants_in t (Some Skip) rel.target_runs et))
  wait_alike (same v h et es ev proper m) = inr (wants_in s (Some h) rel.source_runs es ∙ sym (wants_in t (Some h) rel.target_runs et))

  step_by : WaitAlike → wants_of t ≡ want.Step → at_new_load (old_registers fn) (head_in t) ≡ false → wants_of s ≡ want.Step
  step_by (inl h) w n = absurd (false≢true (sym n ∙ h.0))
  step_by (inr e) w n = e ∙ w

  value_by : WaitAlike → wants_of t ≡ want.Value → wants_of s ≡ want.Value
  value_by (inl h) w = let g : want.Step ≡ want.Value = sym h.1 ∙ w in cc
  value_by (inr e) w = e ∙ w

  fence_by : WaitAlike → wants_of t ≡ want.Fence → wants_of s ≡ want.Fence
  fence_by (inl h) w = let g : want.Step ≡ want.Fence = sym h.1 ∙ w in cc
  fence_by (inr e) w = e ∙ w

  -- what is true of the target's next statement, but of no end, load, copy or `skip`, is true of the source's
  head_by : (test : Option Head → Bool) → test None ≡ false → ((r x : ℕ) → test (Some (Load r x)) ≡ false) → ((r : ℕ) (a : Atom) → test (Some (Copy r a)) ≡ false) → test (Some Skip) ≡ false
      → PairedNext fn path t.frame s.frame → test (head_in t) ≡ true → test (head_in s) ≡ true
  head_by test none load copy skip (both_end et es settled) e = absurd (false≢true (sym none ∙ sym (ap test et) ∙ e))
  head_by test none load copy skip (inserts v r x et ev new few settled stays gives_target) e = absurd (false≢true (sym (load r x) ∙ sym (ap test et) ∙ e))
  head_by test none load copy skip (turns v r x a et es ev l known stays gives_paired) e = absurd (false≢true (sym (copy r a) ∙ sym (ap test et) ∙ e))
  head_by test none load copy skip (removes v x a et es ev below pends others frames) e = absurd (false≢true (sym skip ∙ sym (ap test et) ∙ e))
  head_by test none load copy skip (same v h et es ev proper m) e = ap test es ∙ sym (ap test et) ∙ e

  pub goes : PairedNext fn path t.frame s.frame
  goes = pairs_go_on p q f fn path t.frame s.frame rel.frames

runs_on : (c : Course) → c ≡ Running → c ≡ HasFailed → ⊥
runs_on c e f = let g : Running ≡ HasFailed = sym e ∙ f in cc

runs_not_end : (c : Course) → c ≡ Running → c ≡ AtEnd → ⊥
runs_not_end c e f = let g : Running ≡ AtEnd = sym e ∙ f in cc

end_not_failed : (c : Course) → c ≡ AtEnd → c ≡ HasFailed → ⊥
end_not_failed c e f = let g : AtEnd ≡ HasFailed = sym e ∙ f in cc

module _ {p q : Program} {f : ℕ} (fn : PairedFunction p q f) where
  record Courses (stage : Stage) (t s : Seq) : Type 0 where
    fails : t.course ≡ HasFailed → s.course ≡ HasFailed
    ends : (s.course ≡ HasFailed → ⊥) → (s.course ≡ AtEnd) ↔ (t.course ≡ AtEnd)
    failed : s.course ≡ HasFailed ↔ stage ≡ Over SourceFailed

  running_courses : (stage : Stage) (t s : Seq) → (stage ≡ Over SourceFailed → ⊥) → t.course ≡ Running → s.course ≡ Running → Courses stage t s
  running_courses stage t s n ct cs = record {
    fails = λ e. absurd (runs_on t.course ct e);
    ends = λ m. (λ e. absurd (runs_not_end s.course cs e), λ e. absurd (runs_not_end t.course ct e));
    failed = (λ e. absurd (runs_on s.course cs e), λ e. absurd (n e));
  }

  courses : (stage : Stage) (t s : Seq) → Stands fn stage t s → Courses stage t s
  courses (AtEntry ts ss) t s h = running_courses (AtEntry ts ss) t s (λ e. cc) h.target_runs h.source_runs
  courses Inside t s h = running_courses Inside t s (λ e. cc) h.1.target_runs h.1.source_runs
  courses (Over Same) t s h = record {
    fails = λ e. absurd (end_not_failed t.course h.0 e);
    ends = λ m. (λ e. h.0, λ e. h.1);
    failed = (λ e. absurd (end_not_failed s.course h.1 e), λ e. cc);
  }
  courses (Over SourceFailed) t s h = record { fails = λ e. h; ends = λ m. absurd (m h); failed = (λ e. refl, λ e. h) }
  courses (Over Cut) t s h = absurd h

  stays_related : (s : Pair) → PairRelated fn s → StaysRelated s
  stays_related s h =
      let c = courses s.stage s.target s.source h.stands in
      record {
        labels = h.labels;
        fails_with_source = c.fails;
        ends_together = c.ends;
        source_failed = c.failed;
        memory = λ i e. let r = subst (λ stage. Stands fn stage s.target s.source) i h.stands in memory_below fn r.0 s.target s.source r.1 e;
      }

  in_step : (s : Pair) → PairRelated fn s → IsInStep (old_registers fn) s
  in_step s h = record {
    runs = λ i. (inside i).1.target_runs;
    steps = λ i w n. let r = inside i in step_by fn r.0 s.target s.source r.1 (alike i) w n;
    values = λ i w. let r = inside i in value_by fn r.0 s.target s.source r.1 (alike i) w;
    fences = λ i w. let r = inside i in fence_by fn r.0 s.target s.source r.1 (alike i) w;
    calls = λ i e. let r = inside i in head_by fn r.0 s.target s.source r.1 at_call refl (λ a x. refl) (λ a b. refl) refl (goes fn r.0 s.target s.source r.1) e;
    hears = λ i e. let r = inside i in head_by fn r.0 s.target s.source r.1 heard_at refl (λ a x. refl) (λ a b. refl) refl (goes fn r.0 s.target s.source r.1) e;
  }
    where
      inside : s.stage ≡ Inside → Stands fn Inside s.target s.source
      inside i = subst (λ stage. Stands fn stage s.target s.source) i h.stands

      alike : (i : s.stage ≡ Inside) → WaitAlike fn (inside i).0 s.target s.source (inside i).1
      alike i = let r = inside i in wait_alike fn r.0 s.target s.source r.1 (goes fn r.0 s.target s.source r.1)

function_proper : (p : Program) (fs : List Function) (k : ℕ) (g : Function) → slice_get fs k ≡ Some g → AllByRecursion (IsProperFunction p) fs → IsProperFunction p g
function_proper p [] k g e all = absurd (none-some g e)
function_proper p (x ∷ fs) zero g e all = subst (IsProperFunction p) (same_Some x g e) all.0
function_proper p (x ∷ fs) (suc k) g e all = function_proper p fs k g e all.1

-- an accepted pair is what is paired
paired : (p q : Program) (f : ℕ) → IsAcceptedPair p q f → PairedFunction p q f
paired p q f pair = record {
  source = pair.source;
  target = pair.target;
  source_there = pair.source_there;
  target_there = pair.target_there;
  source_proper = function_proper p p.functions f pair.source pair.source_there (well_formed_proper p pair.source_well_formed).functions;
  target_proper = function_proper q q.functions f pair.target pair.target_there (well_formed_proper q pair.target_well_formed).functions;
  accepted = accepted pair.source pair.target pair.accepts;
}

-- each location begins as the same in both
same_place : (place : Place) → PlacePaired false place place
same_place place = by place.permission refl
  where
    by : (perm : Perm) → place.permission ≡ perm → PlacePaired false place place
    by Bare e = inl e
    by Shared e = inr (λ g. let k : Shared ≡ Bare = sym e ∙ g in cc, λ g. below_refl place.value)
    by Owned e = inr (λ g. let k : Owned ≡ Bare = sym e ∙ g in cc, λ g. below_refl place.value)

begins : (p q : Program) (f : ℕ) (pair : IsAcceptedPair p q f) → PairRelated (paired p q f pair) (pair_begun p q f)
begins p q f pair = record {
  labels = tt;
  stands = record {
    values = tt;
    same_many = ap {B = ℕ} length same;
    places = λ x. subst (λ (z : List Place). PlacePaired false (place_in z x) (place_in (seq_begun p f []).places x)) (sym same) (same_place (place_in (seq_begun p f []).places x));
    target_runs = refl;
    source_runs = refl;
  };
}
  where
    same : (seq_begun q f []).places ≡ (seq_begun p f []).places
    same = ap (λ (na : List Location). map (λ (l : Location). record { permission = Shared; value = Def l.value }) na) pair.shape.na

reached : (p q : Program) (f : ℕ) (events : List EnvEvent) (s : Pair) (pair : IsAcceptedPair p q f) → pair_run p q f events ≡ Came s → PairRelated (paired p q f pair) s
reached p q f events s pair e = run_keeps (paired p q f pair) 0 (pair_begun p q f) s events (begins p q f pair) e

pub pairs_stay_related : PairsStayRelated
pairs_stay_related p q f events s pair e = stays_related (paired p q f pair) s (reached p q f events s pair e)

pub pairs_stay_in_step : PairsStayInStep
pairs_stay_in_step p q f events s pair e = subst (λ k. IsInStep k s) (sym (counted (paired p q f pair))) (in_step (paired p q f pair) s (reached p q f events s pair e))
