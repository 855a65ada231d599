-- One step of a pair: what is seen of both, and how they stand after it.
use Rattle.std.proofs.Common.{◌≡◌, ℕ, ℤ, ◌<◌, Bool, true, false, cond, List, length, Option, Some, None, refl, sym, ap, ◌∙◌, subst, inl, inr, arith, set}
use Rattle.std.specs.List.{AllByRecursion}
use Rattle.std.proofs.lemmas.Bool.{false≢true, le-leb}
use Rattle.std.proofs.lemmas.List.{length-set, length-map}
use Rattle.values_undef.specs.declared.value.Val.{Val}
use Rattle.values_undef.specs.declared.value.Val.TheVariants.{Def}
use Rattle.values_undef.specs.declared.access.Order.{Order}
use Rattle.values_undef.specs.declared.access.Cause.{Cause}
use Rattle.values_undef.specs.declared.access.Cause.TheVariants as cause
use Rattle.values_undef.specs.declared.access.Access.TheVariants as access
use Rattle.values_undef.specs.Access.{releases}
use Rattle.values_undef.specs.Value.{IsBelow}
use Rattle.il_syntax.specs.declared.statement.Atom.{Atom}
use Rattle.il_syntax.specs.declared.statement.Atom.TheVariants.{Const, Reg}
use Rattle.il_syntax.specs.declared.statement.Stmt.TheOpen.{Skip, Copy, Compute, Load, Store, AtomicLoad, AtomicStore, Update, Fence, Print, If, While, Call}
use Rattle.il_syntax.specs.declared.program.Program.{Program}
use Rattle.il_syntax.specs.Statements.{Head}
use Rattle.il_paths.specs.Code.{Visit, first_head}
use Rattle.il_paths.specs.Heads.{is_release, is_release_order, gives, stored_location}
use Rattle.thread_core.specs.declared.next.Next.TheVariants as next
use Rattle.thread_core.specs.Frames.{Frame, evaluated, gave, passed, assigned, worked, next_at, next_print}
use Rattle.flow_facts.specs.declared.level.Level.{Level}
use Rattle.flow_facts.specs.declared.level.Level.TheVariants.{Nothing, Held, Fresh}
use Rattle.flow_facts.specs.Levels.{level_on}
use Rattle.paired_threads.specs.Values.{register}
use Rattle.paired_threads.specs.Functions.{PairedFunction, old_registers}
use Rattle.paired_threads.specs.Frames.{FramesPaired}
use Rattle.paired_threads.specs.Facts.{heard, owed, FactsHold, FactsStay}
use Rattle.paired_threads.specs.Next.{one_more, pending, PendingStays, PendingStaysBut, GivesPaired, SameNext, both_silent, source_fails, loads, stores, loads_atomic, stores_atomic, updates, fences, prints, calls, PairedNext, both_end, inserts, turns, removes, same}
use Rattle.paired_threads.proofs.Callers.{set_same, set_other, below_at, pairs_go_on, facts_go, results_are_below}
use Rattle.seq_semantics.specs.declared.place.Perm.TheVariants.{Bare, Owned}
use Rattle.seq_semantics.specs.declared.place.Place.{Place}
use Rattle.seq_semantics.specs.declared.place.Course.{Course}
use Rattle.seq_semantics.specs.declared.place.Course.TheVariants.{Running, AtEnd, HasFailed}
use Rattle.seq_semantics.specs.declared.seen.Seen.{Seen}
use Rattle.seq_semantics.specs.declared.seen.Seen.TheVariants as seen
use Rattle.seq_semantics.specs.declared.seen.Wants.{Wants}
use Rattle.seq_semantics.specs.declared.seen.Wants.TheVariants as want
use Rattle.seq_semantics.specs.Seq.{Seq, place_in, with_place, with_frame, is_bare, loaded_from, lowered_if, head_in, wanted_at, wanted_by, wants_of, stored_to, seen_by_next, after_next, step_seen_at, after_seq_step_at, step_seen, after_seq_step}
use Rattle.seq_pair.specs.declared.trace.PairEnd.TheVariants.{Same}
use Rattle.seq_pair.specs.Labels.{is_failed, writes_below, fences_alike, prints_alike, ends_below, LabelMatches, labelled}
use Rattle.seq_pair.specs.Pair.{Inside, Over, stage_of, at_new_load}
use Rattle.seq_pair.specs.Related.{loaded_at, IsOwned, PlacePaired, Related}
use Rattle.seq_pair.proofs.Places.{bare_is, bare_not, not_bare, there, set_here, set_there, lowered_loads, lower_paired, still_paired, write_paired, write_source, load_below}

-- What a step of both comes to: the source fails, both are at their ends, or both stand paired.
pub data Outcome {p q : Program} {f : ℕ} (fn : PairedFunction p q f) (tl sl : Seen) (t s : Seq) : Type 0 where
  out_failed : is_failed sl ≡ true → s.course ≡ HasFailed → Outcome fn tl sl t s
  out_ended : is_failed sl ≡ false → stage_of tl ≡ Over Same → AllByRecursion LabelMatches (labelled tl sl) → t.course ≡ AtEnd → s.course ≡ AtEnd → Outcome fn tl sl t s
  out_on : (path : List Visit) → is_failed sl ≡ false → stage_of tl ≡ Inside → AllByRecursion LabelMatches (labelled tl sl) → Related fn path t s → Outcome fn tl sl t s

-- an atom whose register is not written has the value that it had
pub atom_other : (registers : List Val) (r : ℕ) (b : Val) (a : Atom) → (a ≡ Reg r → ⊥) → evaluated (set registers r b) a ≡ evaluated registers a
atom_other registers r b (Const n) h = refl
atom_other registers r b (Reg i) h = set_other registers r i b (λ e. h (ap Reg e))

pub gave_others : (registers : List Val) (r : ℕ) (b : Val) (h : Head) → gives h ≡ Some r → (a : Atom) → ((i : ℕ) → gives h ≡ Some i → a ≡ Reg i → ⊥) → evaluated (set registers r b) a ≡ evaluated registers a
gave_others registers r b h e a n = atom_other registers r b a (n r e)

assigned_others : (frame : Frame) (r : ℕ) (o : Option Val) (a : Atom) → (a ≡ Reg r → ⊥) → evaluated (assigned frame r o).registers a ≡ evaluated frame.registers a
assigned_others frame r (Some v) a h = atom_other frame.registers r v a h
assigned_others frame r None a h = refl

-- a silent step writes no other register than the one that its statement gives
worked_others : (frame : Frame) (h : Head) (a : Atom) → ((r : ℕ) → gives h ≡ Some r → a ≡ Reg r → ⊥) → evaluated (worked frame h).registers a ≡ evaluated frame.registers a
worked_others frame Skip a n = refl
worked_others frame (Copy r b) a n = atom_other frame.registers r _ a (n r refl)
worked_others frame (Compute r op b c) a n = assigned_others frame r _ a (n r refl)
worked_others frame (Load r x) a n = refl
worked_others frame (Store x b) a n = refl
worked_others frame (AtomicLoad r order y) a n = refl
worked_others frame (AtomicStore order y b) a n = refl
worked_others frame (Update r order y kind) a n = refl
worked_others frame (Fence order) a n = refl
worked_others frame (Print b) a n = refl
worked_others frame (If b one other) a n = refl
worked_others frame (While b body) a n = refl
worked_others frame (Call r g args) a n = refl

-- a statement that leaves the memory as it is, and is no load of a non-atomic location
pub quiet : (h : Head) (ts ts' : List Val) (read : ℕ → Val) (alone : ℕ → Type 0)
    → ((x : ℕ) (a : Atom) → h ≡ Store x a → ⊥) → ((r x : ℕ) → h ≡ Load r x → ⊥)
    → ((a : Atom) → ((r : ℕ) → gives h ≡ Some r → a ≡ Reg r → ⊥) → evaluated ts' a ≡ evaluated ts a)
    → FactsStay h ts ts' read read alone alone
quiet h ts ts' read alone no_store no_load others = record {
  registers = others;
  stored = λ x a e. absurd (no_store x a e);
  loaded = λ r x e. absurd (no_load r x e);
  read_stays = λ x n c w b below. below;
  alone_stays = λ x n c w own. own;
}

-- a load of x into r that gives a value below what the source would read
load_stays : (r x : ℕ) (ts : List Val) (b : Val) (read : ℕ → Val) (alone : ℕ → Type 0) → r < length ts → IsBelow b (read x) → FactsStay (Load r x) ts (set ts r b) read read alone alone
load_stays r x ts b read alone l below = record {
  registers = gave_others ts r b (Load r x) refl;
  stored = λ y a e. let h : Load r x ≡ Store y a = e in cc;
  loaded = λ i y e.
      let sr : r ≡ i = ap register_of e in
      let sx : x ≡ y = ap location_of e in
      subst (λ j. IsBelow (register (set ts r b) j) (read y)) sr (subst (λ z. IsBelow (register (set ts r b) r) (read z)) sx (below_at b (read x) _ _ (set_same ts r b l) refl below));
  read_stays = λ y n c w d h. h;
  alone_stays = λ y n c w own. own;
}
  where
    register_of : Head → ℕ
    register_of (Load i y) = i
    register_of _ = 0

    location_of : Head → ℕ
    location_of (Load i y) = y
    location_of _ = 0

load_is_no_silent : (registers : List Val) (h : Head) → next_at registers 1 h ≡ next.Silent → (r x : ℕ) → h ≡ Load r x → ⊥
load_is_no_silent registers h e r x f = let g : next.Access (access.NaRead x) ≡ next.Silent = sym (ap (next_at registers 1) f) ∙ e in cc

store_is_no_silent : (registers : List Val) (h : Head) → next_at registers 1 h ≡ next.Silent → (x : ℕ) (a : Atom) → h ≡ Store x a → ⊥
store_is_no_silent registers h e x a f = let g : next.Access (access.NaWrite x (evaluated registers a)) ≡ next.Silent = sym (ap (next_at registers 1) f) ∙ e in cc

-- what a function waits for whose next statement this is
pub wants_in : (u : Seq) (o : Option Head) → u.course ≡ Running → head_in u ≡ o → wants_of u ≡ wanted_by o
wants_in u o c e = ap (λ (z : Course). elim z as (λ _. Wants) [ Running ↦ wanted_by (head_in u) | AtEnd ↦ want.Ended | HasFailed ↦ want.Ended ]) c ∙ ap wanted_by e

module _ {p q : Program} {f : ℕ} (fn : PairedFunction p q f) (path : List Visit) (t s : Seq) (rel : Related fn path t s) where
  abbrev pub more : Visit → List Visit
  more v = one_more fn path v

  -- the memory is as it was
  pub same_memory : (v : Visit) (tf sf : Frame) → FramesPaired fn (more v) tf sf → PendingStays fn path v → FactsHold path (Some v.head) t.frame.registers (loaded_at s) (IsOwned s)
      → FactsStay v.head t.frame.registers tf.registers (loaded_at s) (loaded_at s) (IsOwned s) (IsOwned s) → Related fn (more v) (with_frame t tf) (with_frame s sf)
  same_memory v tf sf frames stays facts step = record {
    frames = frames;
    same_many = rel.same_many;
    places = still_paired (λ x. pending fn x path) (λ x. pending fn x (more v)) t.places s.places stays rel.places;
    facts = facts_go path v t.frame.registers tf.registers (loaded_at s) (loaded_at s) (IsOwned s) (IsOwned s) (first_head tf.continuation) facts step;
    target_runs = rel.target_runs;
    source_runs = rel.source_runs;
  }

  -- both may release
  pub lowered_memory : (b : Bool) (v : Visit) (tf sf : Frame) → FramesPaired fn (more v) tf sf → PendingStays fn path v → FactsHold path (Some v.head) t.frame.registers (loaded_at s) (IsOwned s)
      → FactsStay v.head t.frame.registers tf.registers (loaded_at s) (loaded_at s) (IsOwned s) (IsOwned s) → (b ≡ true → is_release v.head ≡ true) → Related fn (more v) (lowered_if b (with_frame t tf)) (lowered_if b (with_frame s sf))
  lowered_memory false v tf sf frames stays facts step rels = same_memory v tf sf frames stays facts step
  lowered_memory true v tf sf frames stays facts step rels = record {
    frames = frames;
    same_many = length-map t.places _ ∙ rel.same_many ∙ sym (length-map s.places _);
    places = lower_paired (λ x. pending fn x (more v)) t.places s.places (still_paired (λ x. pending fn x path) (λ x. pending fn x (more v)) t.places s.places stays rel.places);
    facts = facts_go path v t.frame.registers tf.registers (loaded_at s) (loaded_at (lowered_if true s)) (IsOwned s) (IsOwned (lowered_if true s)) (first_head tf.continuation) facts (record {
      registers = step.registers;
      stored = λ x a e. let h : is_release (Store x a) ≡ true = sym (ap is_release e) ∙ rels refl in absurd (false≢true h);
      loaded = λ r x e. let h : is_release (Load r x) ≡ true = sym (ap is_release e) ∙ rels refl in absurd (false≢true h);
      read_stays = λ x n c w b below. subst (IsBelow b) (sym (lowered_loads s.places x)) below;
      alone_stays = λ x n c w own. absurd (false≢true (sym w ∙ rels refl));
    });
    target_runs = rel.target_runs;
    source_runs = rel.source_runs;
  }

  -- the next heads are these
  module _ (ht hs : Option Head) (et : head_in t ≡ ht) (es : head_in s ≡ hs) where
    step_at : Outcome fn (step_seen_at q t ht) (step_seen_at p s hs) (after_seq_step_at t ht) (after_seq_step_at s hs) → Outcome fn (step_seen q t) (step_seen p s) (after_seq_step t) (after_seq_step s)
    step_at o =
        subst (λ h. Outcome fn (step_seen_at q t h) (step_seen p s) (after_seq_step_at t h) (after_seq_step s)) (sym et)
        (subst (λ h. Outcome fn (step_seen_at q t ht) (step_seen_at p s h) (after_seq_step_at t ht) (after_seq_step_at s h)) (sym es) o)

  -- the facts, before a statement of the merged code that hears and clears what the target's does
  pub facts_at : (v : Visit) (h : Head) → head_in t ≡ Some h → ((l : Level) → owed (Some v.head) l ≡ owed (Some h) l) → FactsHold path (Some v.head) t.frame.registers (loaded_at s) (IsOwned s)
  facts_at v h e like = record {
    known = λ x a above. rel.facts.known x a (λ n. above (like (level_on x a path) ∙ sym (ap (λ o. owed o (level_on x a path)) e) ∙ n));
    fresh = λ x a k. rel.facts.fresh x a (ap (λ o. owed o (level_on x a path)) e ∙ sym (like (level_on x a path)) ∙ k);
  }

  pub wants_at : (h : Head) → head_in t ≡ Some h → wants_of t ≡ wanted_at h
  wants_at h e = wants_in t (Some h) rel.target_runs e

  -- Both store a value, where the source may.
  module _ (x : ℕ) (b c : Val) (v : Visit) (h : Head) (a : Atom) (stored : v.head ≡ Store x a)
      (frames : FramesPaired fn (more v) (passed t.frame true) (passed s.frame true)) (facts : FactsHold path (Some v.head) t.frame.registers (loaded_at s) (IsOwned s))
      (others : PendingStaysBut fn x path v) (here : x < length s.places) where
    abbrev owned : Val → Place
    owned d = record { permission = Owned; value = d }

    source_reads : loaded_from (place_in (set s.places x (owned c)) x) ≡ c
    source_reads = ap loaded_from (set_here s.places x (owned c) here)

    store_facts : IsBelow (evaluated t.frame.registers a) c → FactsStay v.head t.frame.registers t.frame.registers (loaded_at s) (λ y. loaded_from (place_in (set s.places x (owned c)) y)) (IsOwned s) (λ y. (place_in (set s.places x (owned c)) y).permission ≡ Owned)
    store_facts below = record {
      registers = λ d n. refl;
      stored = λ y d e.
          let same_x : x ≡ y = ap location_of (sym stored ∙ e) in
          let same_a : a ≡ d = ap atom_of (sym stored ∙ e) in
          subst (λ z. IsBelow (evaluated t.frame.registers d) (loaded_from (place_in (set s.places x (owned c)) z)) × ((place_in (set s.places x (owned c)) z).permission ≡ Owned)) same_x
          (subst (λ k. IsBelow (evaluated t.frame.registers k) (loaded_from (place_in (set s.places x (owned c)) x))) same_a (below_at _ c _ _ refl source_reads below), ap (λ (z : Place). z.permission) (set_here s.places x (owned c) here));
      loaded = λ r y e. let g : Store x a ≡ Load r y = sym stored ∙ e in cc;
      read_stays = λ y n k w d held. subst (IsBelow d) (ap loaded_from (sym (set_there s.places x y (owned c) (λ e. n (ap stored_location stored ∙ ap Some (sym e)))))) held;
      alone_stays = λ y n k w own. ap (λ (z : Place). z.permission) (set_there s.places x y (owned c) (λ e. n (ap stored_location stored ∙ ap Some (sym e)))) ∙ own;
    }
      where
        location_of : Head → ℕ
        location_of (Store z d) = z
        location_of _ = 0

        atom_of : Head → Atom
        atom_of (Store z d) = d
        atom_of _ = a

    both_store : x < length t.places → IsBelow b c → IsBelow (evaluated t.frame.registers a) c → pending fn x (more v) ≡ false → Related fn (more v) (with_place (with_frame t (passed t.frame true)) x Owned b) (with_place (with_frame s (passed s.frame true)) x Owned c)
    both_store there_t below known settled = record {
      frames = frames;
      same_many = length-set t.places x _ ∙ rel.same_many ∙ sym (length-set s.places x _);
      places = write_paired (λ y. pending fn y path) (λ y. pending fn y (more v)) t.places s.places x (owned b) (owned c) there_t here others (inr (λ e. let g : Owned ≡ Bare = e in cc, λ e. below)) rel.places;
      facts = facts_go path v t.frame.registers t.frame.registers (loaded_at s) _ (IsOwned s) _ (first_head (passed t.frame true).continuation) facts (store_facts known);
      target_runs = rel.target_runs;
      source_runs = rel.source_runs;
    }

    source_stores : ((place_in t.places x).permission ≡ Bare → ⊥) → IsBelow (evaluated t.frame.registers a) c → pending fn x (more v) ≡ true → Related fn (more v) (with_frame t (passed t.frame true)) (with_place (with_frame s (passed s.frame true)) x Owned c)
    source_stores not_bare known pends = record {
      frames = frames;
      same_many = rel.same_many ∙ sym (length-set s.places x _);
      places = write_source (λ y. pending fn y path) (λ y. pending fn y (more v)) t.places s.places x (owned c) here others (inr (not_bare, λ e. absurd (false≢true (sym e ∙ pends)))) rel.places;
      facts = facts_go path v t.frame.registers t.frame.registers (loaded_at s) _ (IsOwned s) _ (first_head (passed t.frame true).continuation) facts (store_facts known);
      target_runs = rel.target_runs;
      source_runs = rel.source_runs;
    }

  -- the target has what the source has not lost
  kept_by_target : (x : ℕ) → is_bare (place_in s.places x).permission ≡ false → (place_in t.places x).permission ≡ Bare → ⊥
  kept_by_target x e = by (rel.places x)
    where
      by : PlacePaired (pending fn x path) (place_in t.places x) (place_in s.places x) → (place_in t.places x).permission ≡ Bare → ⊥
      by (inl bare) = absurd (bare_not (place_in s.places x).permission e bare)
      by (inr h) = h.0

  heard_none : (l : Level) → heard false l ≡ l
  heard_none Nothing = refl
  heard_none Held = refl
  heard_none Fresh = refl

  -- a location that isn't pending
  loads_below : (x : ℕ) → pending fn x path ≡ false → IsBelow (loaded_at t x) (loaded_at s x)
  loads_below x e = load_below (pending fn x path) (place_in t.places x) (place_in s.places x) e (rel.places x)

  room : (r : ℕ) → r < 64 → r < length t.frame.registers
  room r l = omega (arith, rel.frames.target_whole, l)

  -- the source's register that a load gives a value is one of the target's too
  load_on : (v : Visit) (r x : ℕ) (b : Val) (h : Head) → v.head ≡ Load r x → head_in t ≡ Some h → ((l : Level) → owed (Some (Load r x)) l ≡ owed (Some h) l) → r < length t.frame.registers → PendingStays fn path v → GivesPaired fn path v r t.frame s.frame → IsBelow b (loaded_at s x) → Related fn (more v) (with_frame t (gave t.frame r b)) (with_frame s (gave s.frame r (loaded_at s x)))
  load_on v r x b h ev eh like l stays gives_paired below =
      same_memory v (gave t.frame r b) (gave s.frame r (loaded_at s x)) (gives_paired b (loaded_at s x) below) stays (facts_at v h eh (λ k. ap (λ g. owed (Some g) k) ev ∙ like k))
      (subst (λ g. FactsStay g t.frame.registers (set t.frame.registers r b) (loaded_at s) (loaded_at s) (IsOwned s) (IsOwned s)) (sym ev) (load_stays r x t.frame.registers b (loaded_at s) (IsOwned s) l below))

  -- an inserted load: the target alone makes a step
  pub insert_on : (v : Visit) (r x : ℕ) → head_in t ≡ Some (Load r x) → v.head ≡ Load r x → r < 64 → pending fn x path ≡ false → PendingStays fn path v → ((b : Val) → FramesPaired fn (more v) (gave t.frame r b) s.frame) → Related fn (more v) (with_frame t (gave t.frame r (loaded_at t x))) s
  insert_on v r x eh ev l settled stays gives_target =
      same_memory v (gave t.frame r (loaded_at t x)) s.frame (gives_target (loaded_at t x)) stays (facts_at v (Load r x) eh (λ k. ap (λ g. owed (Some g) k) ev))
      (subst (λ g. FactsStay g t.frame.registers (set t.frame.registers r (loaded_at t x)) (loaded_at s) (loaded_at s) (IsOwned s) (IsOwned s)) (sym ev) (load_stays r x t.frame.registers (loaded_at t x) (loaded_at s) (IsOwned s) (room r l) (loads_below x settled)))

  remove_case : (sb : Bool) (v : Visit) (x : ℕ) (a : Atom) (c : Val) → is_bare (place_in s.places x).permission ≡ sb → v.head ≡ Store x a → FactsHold path (Some v.head) t.frame.registers (loaded_at s) (IsOwned s) → IsBelow (evaluated t.frame.registers a) c → pending fn x (more v) ≡ true → PendingStaysBut fn x path v → FramesPaired fn (more v) (passed t.frame true) (passed s.frame true)
      → Outcome fn seen.Silent (cond sb (seen.Failed false (Some cause.RacyWrite)) seen.Plain) (with_frame t (passed t.frame true)) (stored_to s x c sb)
  remove_case true v x a c e ev facts below pends others frames = out_failed refl refl
  remove_case false v x a c e ev facts below pends others frames =
      let here = there s.places x (bare_not (place_in s.places x).permission e) in
      out_on (more v) refl refl tt (source_stores x (evaluated t.frame.registers a) c v (Store x a) a ev frames facts others here (kept_by_target x e) below pends)

  store_case : (tb sb : Bool) (v : Visit) (x : ℕ) (a : Atom) (c : Val) → is_bare (place_in t.places x).permission ≡ tb → is_bare (place_in s.places x).permission ≡ sb → v.head ≡ Store x a → FactsHold path (Some v.head) t.frame.registers (loaded_at s) (IsOwned s) → IsBelow (evaluated t.frame.registers a) c → pending fn x (more v) ≡ false → PendingStaysBut fn x path v → FramesPaired fn (more v) (passed t.frame true) (passed s.frame true)
      → Outcome fn (cond tb (seen.Failed false (Some cause.RacyWrite)) seen.Plain) (cond sb (seen.Failed false (Some cause.RacyWrite)) seen.Plain) (stored_to t x (evaluated t.frame.registers a) tb) (stored_to s x c sb)
  store_case tb true v x a c et es ev facts below settled others frames = out_failed refl refl
  store_case true false v x a c et es ev facts below settled others frames = absurd (kept_by_target x es (bare_is (place_in t.places x) et))
  store_case false false v x a c et es ev facts below settled others frames =
      let here_s = there s.places x (bare_not (place_in s.places x).permission es) in
      let here_t = there t.places x (kept_by_target x es) in
      out_on (more v) refl refl tt (both_store x (evaluated t.frame.registers a) c v (Store x a) a ev frames facts others here_s here_t below below settled)

  -- Both make the same step.
  module _ (v : Visit) (h : Head) (et : head_in t ≡ Some h) (es : head_in s ≡ Some h) (ev : v.head ≡ h) where
    facts_here : FactsHold path (Some v.head) t.frame.registers (loaded_at s) (IsOwned s)
    facts_here = facts_at v h et (λ l. ap (λ g. owed (Some g) l) ev)

    stay_here : {ts' : List Val} → FactsStay h t.frame.registers ts' (loaded_at s) (loaded_at s) (IsOwned s) (IsOwned s) → FactsStay v.head t.frame.registers ts' (loaded_at s) (loaded_at s) (IsOwned s) (IsOwned s)
    stay_here {ts'} = subst (λ g. FactsStay g t.frame.registers ts' (loaded_at s) (loaded_at s) (IsOwned s) (IsOwned s)) (sym ev)

    silent_on : next_at t.frame.registers 1 h ≡ next.Silent → next_at s.frame.registers 1 h ≡ next.Silent → PendingStays fn path v → FramesPaired fn (more v) (worked t.frame h) (worked s.frame h) → Outcome fn (step_seen_at q t (Some h)) (step_seen_at p s (Some h)) (after_seq_step_at t (Some h)) (after_seq_step_at s (Some h))
    silent_on nt ns stays frames =
        subst (λ n. Outcome fn (seen_by_next t n) (step_seen_at p s (Some h)) (after_next t h n) (after_seq_step_at s (Some h))) (sym nt)
        (subst (λ n. Outcome fn seen.Silent (seen_by_next s n) (with_frame t (worked t.frame h)) (after_next s h n)) (sym ns)
        (out_on (more v) refl refl tt (same_memory v (worked t.frame h) (worked s.frame h) frames stays facts_here
        (stay_here (quiet h t.frame.registers (worked t.frame h).registers (loaded_at s) (IsOwned s) (store_is_no_silent t.frame.registers h nt) (load_is_no_silent t.frame.registers h nt) (worked_others t.frame h))))))

    fails_on : (why : Cause) → next_at s.frame.registers 1 h ≡ next.Access (access.Fail why) → Outcome fn (step_seen_at q t (Some h)) (step_seen_at p s (Some h)) (after_seq_step_at t (Some h)) (after_seq_step_at s (Some h))
    fails_on why ns = subst (λ n. Outcome fn (step_seen_at q t (Some h)) (seen_by_next s n) (after_seq_step_at t (Some h)) (after_next s h n)) (sym ns) (out_failed refl refl)

  print_on : (v : Visit) (a : Atom) (n : ℤ) → head_in t ≡ Some (Print a) → v.head ≡ Print a → evaluated t.frame.registers a ≡ Def n → evaluated s.frame.registers a ≡ Def n → PendingStays fn path v → FramesPaired fn (more v) (passed t.frame true) (passed s.frame true)
      → Outcome fn (step_seen_at q t (Some (Print a))) (step_seen_at p s (Some (Print a))) (after_seq_step_at t (Some (Print a))) (after_seq_step_at s (Some (Print a)))
  print_on v a n eh ev et es stays frames =
      subst (λ b. Outcome fn (seen_by_next t (next_print b)) (step_seen_at p s (Some (Print a))) (after_next t (Print a) (next_print b)) (after_seq_step_at s (Some (Print a)))) (sym et)
      (subst (λ b. Outcome fn (seen.Print n) (seen_by_next s (next_print b)) (with_frame t (passed t.frame true)) (after_next s (Print a) (next_print b))) (sym es)
      (out_on (more v) refl refl (prints_alike, tt) (same_memory v (passed t.frame true) (passed s.frame true) frames stays (facts_at v (Print a) eh (λ l. ap (λ g. owed (Some g) l) ev))
      (subst (λ g. FactsStay g t.frame.registers t.frame.registers (loaded_at s) (loaded_at s) (IsOwned s) (IsOwned s)) (sym ev) (quiet (Print a) t.frame.registers t.frame.registers (loaded_at s) (IsOwned s) (λ x b e. cc) (λ r x e. cc) (λ b m. refl))))))

  write_on : (v : Visit) (order : Order) (y : ℕ) (a : Atom) → head_in t ≡ Some (AtomicStore order y a) → v.head ≡ AtomicStore order y a → IsBelow (evaluated t.frame.registers a) (evaluated s.frame.registers a) → PendingStays fn path v → FramesPaired fn (more v) (passed t.frame true) (passed s.frame true)
      → Outcome fn (step_seen_at q t (Some (AtomicStore order y a))) (step_seen_at p s (Some (AtomicStore order y a))) (after_seq_step_at t (Some (AtomicStore order y a))) (after_seq_step_at s (Some (AtomicStore order y a)))
  write_on v order y a eh ev below stays frames =
      out_on (more v) refl refl (writes_below below, tt)
      (lowered_memory (is_release_order order) v (passed t.frame true) (passed s.frame true) frames stays (facts_at v (AtomicStore order y a) eh (λ l. ap (λ g. owed (Some g) l) ev))
      (subst (λ g. FactsStay g t.frame.registers t.frame.registers (loaded_at s) (loaded_at s) (IsOwned s) (IsOwned s)) (sym ev) (quiet (AtomicStore order y a) t.frame.registers t.frame.registers (loaded_at s) (IsOwned s) (λ x b e. cc) (λ r x e. cc) (λ b m. refl)))
      (λ e. ap is_release ev ∙ e))

  -- both make a fence, by a step or where they pass it
  pub fence_on : (v : Visit) (order : Order) → head_in t ≡ Some (Fence order) → v.head ≡ Fence order → PendingStays fn path v → FramesPaired fn (more v) (passed t.frame true) (passed s.frame true)
      → Outcome fn (seen.Fence order) (seen.Fence order) (lowered_if (releases order) (with_frame t (passed t.frame true))) (lowered_if (releases order) (with_frame s (passed s.frame true)))
  fence_on v order eh ev stays frames =
      out_on (more v) refl refl (fences_alike, tt)
      (lowered_memory (releases order) v (passed t.frame true) (passed s.frame true) frames stays (facts_at v (Fence order) eh (λ l. ap (λ g. owed (Some g) l) ev))
      (subst (λ g. FactsStay g t.frame.registers t.frame.registers (loaded_at s) (loaded_at s) (IsOwned s) (IsOwned s)) (sym ev) (quiet (Fence order) t.frame.registers t.frame.registers (loaded_at s) (IsOwned s) (λ x b e. cc) (λ r x e. cc) (λ b m. refl)))
      (λ e. ap is_release ev ∙ e))

  not_step : (h : Head) → wants_of t ≡ want.Step → head_in t ≡ Some h → wanted_at h ≡ want.Value → ⊥
  not_step h w e v = let g : want.Step ≡ want.Value = sym w ∙ wants_at h e ∙ v in cc

  same_on : (v : Visit) (h : Head) → head_in t ≡ Some h → head_in s ≡ Some h → v.head ≡ h → wants_of t ≡ want.Step → SameNext fn path t.frame s.frame v h → Outcome fn (step_seen_at q t (Some h)) (step_seen_at p s (Some h)) (after_seq_step_at t (Some h)) (after_seq_step_at s (Some h))
  same_on v h et es ev w (both_silent nt ns stays frames) = silent_on v h et es ev (nt 1) (ns 1) stays frames
  same_on v h et es ev w (source_fails why ns) = fails_on v h et es ev why (ns 1)
  same_on v h et es ev w (loads r x l settled stays gives_paired) =
      out_on (more v) refl refl tt (load_on v r x (loaded_at t x) (Load r x) ev et (λ k. refl) (room r (proper r l)) stays gives_paired (loads_below x settled))
    where
      proper : (i : ℕ) → i < old_registers fn → i < 64
      proper i k = let few = fn.source_proper.few in omega (arith, few, k)
  same_on v h et es ev w (stores x a below settled others frames) =
      store_case (is_bare (place_in t.places x).permission) (is_bare (place_in s.places x).permission) v x a (evaluated s.frame.registers a) refl refl ev (facts_at v (Store x a) et (λ l. ap (λ g. owed (Some g) l) ev)) below settled others frames
  same_on v h et es ev w (loads_atomic r order y stays gives_paired) = absurd (not_step (AtomicLoad r order y) w et refl)
  same_on v h et es ev w (stores_atomic order y a below settled stays frames) = write_on v order y a et ev below stays frames
  same_on v h et es ev w (updates r order y kind below settled stays gives_paired) = absurd (not_step (Update r order y kind) w et refl)
  same_on v h et es ev w (fences order settled stays frames) = fence_on v order et ev stays frames
  same_on v h et es ev w (prints a n pt ps stays frames) = print_on v a n et ev pt ps stays frames
  same_on v h et es ev w (calls r g args below settled stays gives_paired) = absurd (not_step (Call r g args) w et refl)

  step_by : PairedNext fn path t.frame s.frame → wants_of t ≡ want.Step → at_new_load (old_registers fn) (head_in t) ≡ false → Outcome fn (step_seen q t) (step_seen p s) (after_seq_step t) (after_seq_step s)
  step_by (both_end et es settled) w n = step_at None None et es (out_ended refl refl (ends_below (results_are_below p q f fn path t.frame s.frame rel.frames), tt) refl refl)
  step_by (inserts v r x et ev new few settled stays gives_target) w n = absurd (false≢true (sym n ∙ ap (at_new_load (old_registers fn)) et ∙ le-leb (old_registers fn) r new))
  step_by (turns v r x e et es ev l known stays gives_paired) w n =
      step_at (Some (Copy r e)) (Some (Load r x)) et es
      (let few = fn.source_proper.few in
      let below : IsBelow (evaluated t.frame.registers e) (loaded_at s x) = rel.facts.known x e (λ m. known (sym (ap (λ o. owed o (level_on x e path)) et ∙ heard_none (level_on x e path)) ∙ m)) in
      out_on (more v) refl refl tt (load_on v r x (evaluated t.frame.registers e) (Copy r e) ev et (λ k. refl) (room r (omega (arith, few, l))) stays gives_paired below))
  step_by (removes v x a et es ev below pends others frames) w n =
      step_at (Some Skip) (Some (Store x a)) et es
      (remove_case (is_bare (place_in s.places x).permission) v x a (evaluated s.frame.registers a) refl ev (facts_at v Skip et (λ l. ap (λ g. owed (Some g) l) ev)) below pends others frames)
  step_by (same v h et es ev proper n) w m = step_at (Some h) (Some h) et es (same_on v h et es ev w n)

  -- Both make a step.
  pub step_on : wants_of t ≡ want.Step → at_new_load (old_registers fn) (head_in t) ≡ false → Outcome fn (step_seen q t) (step_seen p s) (after_seq_step t) (after_seq_step s)
  step_on = step_by (pairs_go_on p q f fn path t.frame s.frame rel.frames)
