-- The events of its threads tell in which versions of the non-atomic locations a run ends.
use Rattle.std.proofs.Common.{◌≡◌, ◌⊎◌, inl, inr, ⊎_elim, ℕ, ◌+◌, ◌<◌, ◌≤◌, Bool, true, false, cond, eqb, List, [], ◌∷◌, ◌++◌, length, set, get_or, refl, sym, ap, ◌∙◌, subst, arith}
use Rattle.std.proofs.lemmas.Bool.{cases_eq, false≢true, cond-true, cond_both, eq-eqb}
use Rattle.std.proofs.lemmas.List.{get_or-set_same, get_or-set_other, length-set, ext_get_or}
use Rattle.values_undef.specs.Access.{choice_of_event}
use Rattle.values_undef.specs.declared.value.Val.{Val}
use Rattle.values_undef.specs.declared.value.Val.TheVariants.{Undef}
use Rattle.values_undef.specs.declared.access.Access.{Access}
use Rattle.values_undef.specs.declared.access.Access.TheVariants.{NaRead, NaWrite, Read, Write, Update, Fence, Print, Fail, Finish, Spend}
use Rattle.values_undef.specs.declared.access.Choice.{Choice}
use Rattle.values_undef.specs.declared.access.Choice.TheVariants.{Plain, Message, Place, Take}
use Rattle.values_undef.specs.declared.access.Event.{Event}
use Rattle.values_undef.specs.declared.access.Event.TheVariants as event
use Rattle.values_undef.specs.declared.journal.Entry.{Entry}
use Rattle.il_syntax.specs.declared.program.Program.{Program}
use Rattle.views.specs.ThreadView.{ThreadView}
use Rattle.message_memory.specs.declared.message.Versioned.{Versioned}
use Rattle.message_memory.specs.Memory.{Memory, absent_location, location_in}
use Rattle.message_memory.specs.Step.{AdmitsChoice, StepResult, step_result, is_racy, meets_undef, read_at}
use Rattle.thread_core.specs.Programs.{IsProperProgram}
use Rattle.view_machine.specs.State.{State, view_in, initial_state}
use Rattle.view_machine.specs.Runs.{after_entry, IsRunFrom, IsJournalRun, state_after}
use Rattle.view_machine.proofs.Callers.{entry_threads, entry_there, initial_reached, states_whole}
use Rattle.memory_likeness.specs.Likeness.{without_stamps}
use Rattle.outcome_nodes.specs.Nodes.{told_by}
use Rattle.outcome_nodes.proofs.Callers.{Spends, Makes, entry_done}

-- ---- events that write a version

abbrev is_write : Event → Bool
is_write (event.NaWrite x v n) = true
is_write _ = false

abbrev place_of : Event → ℕ
place_of (event.NaWrite x v n) = x
place_of _ = 0

abbrev value_of : Event → Val
value_of (event.NaWrite x v n) = v
value_of _ = Undef

abbrev version_of : Event → ℕ
version_of (event.NaWrite x v n) = n
version_of _ = 0

-- another event writes none
abbrev Writes : Event → ℕ → Val → ℕ → Type 0
Writes e x v n = e ≡ event.NaWrite x v n

no_write : (e : Event) (x : ℕ) (v : Val) (n : ℕ) → is_write e ≡ false → Writes e x v n → ⊥
no_write e x v n f q = false≢true (sym f ∙ ap is_write q)

-- an entry wrote the value and the version
abbrev pub HasWrite : List Entry → ℕ → Val → ℕ → Type 0
HasWrite [] x v n = ⊥
HasWrite (e ∷ entries) x v n = (e.event ≡ event.NaWrite x v n) ⊎ HasWrite entries x v n

-- ---- a step

-- what an event leaves of a location: it writes none, or a higher version, which is the location's
abbrev Leaves : Memory → Memory → Event → ℕ → Type 0
Leaves m t e x = ((location_in t x ≡ location_in m x) × ((v : Val) (n : ℕ) → Writes e x v n → ⊥))
    ⊎ (Writes e x (location_in t x).value (location_in t x).version × ((location_in m x).version < (location_in t x).version))

record Left (m t : Memory) (e : Event) (x : ℕ) : Type 0 where
  many : length t.na ≡ length m.na
  leaves : Leaves m t e x

kept : (m t : Memory) (e : Event) (x : ℕ) → t.na ≡ m.na → is_write e ≡ false → Left m t e x
kept m t e x same f = record {
  many = ap (λ (xs : List Versioned). length xs) same;
  leaves = inl (ap (λ (xs : List Versioned). get_or xs x absent_location) same, λ v n q. no_write e x v n f q);
}

written : (m : Memory) (z x n : ℕ) (v : Val) → x < length m.na → (location_in m z).version < n → Left m (record m { na = set m.na z (record { value = v; version = n }) }) (event.NaWrite z v n) x
written m z x n v l more =
    let c : Versioned = record { value = v; version = n } in
    let t : Memory = record m { na = set m.na z c } in
    record {
      many = length-set m.na z c;
      leaves =
          ⊎_elim
          (λ (e : x ≡ z).
          let here : location_in t x ≡ c = ap (λ (k : ℕ). location_in t k) e ∙ get_or-set_same m.na z c absent_location (subst (λ (k : ℕ). k < length m.na) e l) in
          let same : event.NaWrite z v n ≡ event.NaWrite x (location_in t x).value (location_in t x).version = λ k. event.NaWrite (sym e k) ((sym here k).value) ((sym here k).version) in
          inr (same, subst (λ (d : Versioned). (location_in m x).version < d.version) (sym here) (subst (λ (k : ℕ). (location_in m k).version < n) (sym e) more)))
          (λ (e : x ≡ z → ⊥). inl (get_or-set_other m.na z x c absent_location e, λ w k q. e (sym (ap place_of q))))
          (cases_eq x z);
    }

step_left : (m : Memory) (v : ThreadView) (i : ℕ) (a : Access) (c : Choice) (x : ℕ) → x < length m.na → AdmitsChoice m v a c → Left m (step_result m v i a c).memory (step_result m v i a c).event x
step_left m v i (NaRead z) Plain x l h = kept m _ _ x refl refl
step_left m v i (NaWrite z n) Plain x l h =
    cond_both (is_racy m v z) _ _ (λ (o : StepResult). Left m o.memory o.event x) (λ _. kept m _ _ x refl refl) (λ _. written m z x ((location_in m z).version + 1) n l (omega arith))
step_left m v i (Read z order) (Message to) x l h = kept m _ _ x refl refl
step_left m v i (Write z order n) (Place from to) x l h = kept m _ _ x refl refl
step_left m v i (Update z order kind) (Message to) x l h =
    cond_both (meets_undef kind (read_at m z to).value) _ _ (λ (o : StepResult). Left m o.memory o.event x) (λ _. kept m _ _ x refl refl) (λ _. kept m _ _ x refl refl)
step_left m v i (Update z order kind) (Take read to) x l h = kept m _ _ x refl refl
step_left m v i (Fence order) Plain x l h = kept m _ _ x refl refl
step_left m v i (Print n) Plain x l h = kept m _ _ x refl refl
step_left m v i (Fail cause) Plain x l h = kept m _ _ x refl refl
step_left m v i Finish Plain x l h = kept m _ _ x refl refl
step_left m v i Spend Plain x l h = kept m _ _ x refl refl
step_left m v i _ _ x l h = absurd h

entry_left : (p : Program) (s : State) (e : Entry) (x : ℕ) → x < length s.memory.na → IsRunFrom p s (e ∷ []) → Left s.memory (after_entry p s e).memory e.event x
entry_left p s e x l h =
    ⊎_elim
    (λ (d : Spends p s e). kept s.memory (after_entry p s e).memory e.event x (ap (λ (t : State). t.memory.na) d.state) (ap is_write d.event))
    (λ (d : Makes p s e).
    subst (λ (t : State). Left s.memory t.memory e.event x) (sym d.state)
    (subst (λ (w : Event). Left s.memory (step_result s.memory (view_in s e.thread) e.thread d.access (choice_of_event e.event)).memory w x) d.event
    (step_left s.memory (view_in s e.thread) e.thread d.access (choice_of_event e.event) x l d.legal.admits)))
    (entry_done p s e h.0).cases

-- ---- a run

-- what a run leaves of a location: each version that it writes is higher than before and no higher than after, and the
-- last one is the location's
record Done (m t : Memory) (entries : List Entry) (x : ℕ) : Type 0 where
  many : length t.na ≡ length m.na
  rises : (location_in m x).version ≤ (location_in t x).version
  later : (v : Val) (n : ℕ) → HasWrite entries x v n → (location_in m x).version < n
  known : (v : Val) (n : ℕ) → HasWrite entries x v n → (n < (location_in t x).version) ⊎ ((n ≡ (location_in t x).version) × (v ≡ (location_in t x).value))
  last : (location_in t x ≡ location_in m x) ⊎ HasWrite entries x (location_in t x).value (location_in t x).version

run_done : (p : Program) (s : State) (entries : List Entry) (x : ℕ) → x < length s.memory.na → IsRunFrom p s entries → Done s.memory (state_after p s entries).memory entries x
run_done p s [] x l h = record { many = refl; rises = omega arith; later = λ v n q. absurd q; known = λ v n q. absurd q; last = inl refl }
run_done p s (e ∷ entries) x l h =
    let m = s.memory in
    let u = (after_entry p s e).memory in
    let t = (state_after p (after_entry p s e) entries).memory in
    let one : Left m u e.event x = entry_left p s e x l (h.0, tt) in
    let more : Done u t entries x = run_done p (after_entry p s e) entries x (omega (arith, l, one.many)) h.1 in
    ⊎_elim
    (λ (k : (location_in u x ≡ location_in m x) × ((v : Val) (n : ℕ) → Writes e.event x v n → ⊥)).
    let same : (location_in u x).version ≡ (location_in m x).version = ap (λ (d : Versioned). d.version) k.0 in
    record {
      many = more.many ∙ one.many;
      rises = omega (arith, same, more.rises);
      later = λ v n q. ⊎_elim (λ (r : Writes e.event x v n). absurd (k.1 v n r)) (λ (r : HasWrite entries x v n). omega (arith, same, more.later v n r)) q;
      known = λ v n q. ⊎_elim (λ (r : Writes e.event x v n). absurd (k.1 v n r)) (λ (r : HasWrite entries x v n). more.known v n r) q;
      last = ⊎_elim (λ (r : location_in t x ≡ location_in u x). inl (r ∙ k.0)) (λ (r : HasWrite entries x (location_in t x).value (location_in t x).version). inr (inr r)) more.last;
    })
    (λ (k : Writes e.event x (location_in u x).value (location_in u x).version × ((location_in m x).version < (location_in u x).version)).
    let number : (v : Val) (n : ℕ) → Writes e.event x v n → n ≡ (location_in u x).version = λ v n r. ap version_of (sym r ∙ k.0) in
    let value : (v : Val) (n : ℕ) → Writes e.event x v n → v ≡ (location_in u x).value = λ v n r. ap value_of (sym r ∙ k.0) in
    record {
      many = more.many ∙ one.many;
      rises = omega (arith, k.1, more.rises);
      later = λ v n q. ⊎_elim (λ (r : Writes e.event x v n). omega (arith, k.1, number v n r)) (λ (r : HasWrite entries x v n). omega (arith, k.1, more.later v n r)) q;
      known = λ v n q.
          ⊎_elim
          (λ (r : Writes e.event x v n).
          ⊎_elim
          (λ (g : location_in t x ≡ location_in u x). inr (number v n r ∙ sym (ap (λ (d : Versioned). d.version) g), value v n r ∙ sym (ap (λ (d : Versioned). d.value) g)))
          (λ (g : HasWrite entries x (location_in t x).value (location_in t x).version). inl (omega (arith, number v n r, more.later (location_in t x).value (location_in t x).version g)))
          more.last)
          (λ (r : HasWrite entries x v n). more.known v n r)
          q;
      last =
          ⊎_elim
          (λ (g : location_in t x ≡ location_in u x). inr (inl (subst (λ (d : Versioned). Writes e.event x d.value d.version) (sym g) k.0)))
          (λ (g : HasWrite entries x (location_in t x).value (location_in t x).version). inr (inr g))
          more.last;
    })
    one.leaves

-- ---- the events tell

abbrev HasEvent : List Event → Event → Type 0
HasEvent [] w = ⊥
HasEvent (e ∷ es) w = (e ≡ w) ⊎ HasEvent es w

behind : (w : Event) (es more : List Event) → HasEvent more w → HasEvent (es ++ more) w
behind w [] more q = q
behind w (e ∷ es) more q = inr (behind w es more q)

record Tells (entries : List Entry) (threads x : ℕ) (v : Val) (n : ℕ) : Type 0 where
  thread : ℕ
  there : thread < threads
  told : HasEvent (told_by entries thread) (event.NaWrite x v n)

told_write : (p : Program) (s : State) (entries : List Entry) (x : ℕ) (v : Val) (n : ℕ) → IsRunFrom p s entries → HasWrite entries x v n → Tells entries (length s.locals) x v n
told_write p s [] x v n h q = absurd q
told_write p s (e ∷ entries) x v n h q =
    ⊎_elim
    (λ (r : Writes e.event x v n).
    record {
      thread = e.thread;
      there = entry_there p s e h.0;
      told = subst (λ (es : List Event). HasEvent (es ++ told_by entries e.thread) (event.NaWrite x v n)) (sym (cond-true (eqb e.thread e.thread) (without_stamps e.event ∷ []) [] (eq-eqb e.thread e.thread refl))) (inl (ap without_stamps r));
    })
    (λ (r : HasWrite entries x v n).
    let k = told_write p (after_entry p s e) entries x v n h.1 r in
    record { thread = k.thread; there = omega (arith, k.there, entry_threads p s e); told = behind (event.NaWrite x v n) (cond (eqb e.thread k.thread) (without_stamps e.event ∷ []) []) (told_by entries k.thread) k.told })
    q

unstamped : (e : Event) (x : ℕ) (v : Val) (n : ℕ) → without_stamps e ≡ event.NaWrite x v n → e ≡ event.NaWrite x v n
unstamped (event.NaWrite z w k) x v n q = q
unstamped (event.NaRead z w) x v n q = absurd (no_write _ x v n refl q)
unstamped (event.Read y order w to) x v n q = absurd (no_write _ x v n refl q)
unstamped (event.Write y order w from to) x v n q = absurd (no_write _ x v n refl q)
unstamped (event.Update y order old new read to) x v n q = absurd (no_write _ x v n refl q)
unstamped (event.Miss y order old read) x v n q = absurd (no_write _ x v n refl q)
unstamped (event.Fence order) x v n q = absurd (no_write _ x v n refl q)
unstamped (event.Print w) x v n q = absurd (no_write _ x v n refl q)
unstamped (event.Fail cause) x v n q = absurd (no_write _ x v n refl q)
unstamped (event.FailCompare y read) x v n q = absurd (no_write _ x v n refl q)
unstamped event.Finish x v n q = absurd (no_write _ x v n refl q)
unstamped event.Spend x v n q = absurd (no_write _ x v n refl q)

written_there : (entries : List Entry) (i x : ℕ) (v : Val) (n : ℕ) → HasEvent (told_by entries i) (event.NaWrite x v n) → HasWrite entries x v n
written_there [] i x v n q = absurd q
written_there (e ∷ entries) i x v n q =
    cond_both (eqb e.thread i) (without_stamps e.event ∷ []) [] (λ (es : List Event). HasEvent (es ++ told_by entries i) (event.NaWrite x v n) → HasWrite (e ∷ entries) x v n)
    (λ _ r. ⊎_elim (λ (g : without_stamps e.event ≡ event.NaWrite x v n). inl (unstamped e.event x v n g)) (λ (g : HasEvent (told_by entries i) (event.NaWrite x v n)). inr (written_there entries i x v n g)) r)
    (λ _ r. inr (written_there entries i x v n r))
    q

abbrev AreTold : List Entry → List Entry → ℕ → Type 0
AreTold a b threads = (i : ℕ) → i < threads → told_by a i ≡ told_by b i

write_too : (p : Program) (s : State) (a b : List Entry) (x : ℕ) (v : Val) (n : ℕ) → IsRunFrom p s a → AreTold a b (length s.locals) → HasWrite a x v n → HasWrite b x v n
write_too p s a b x v n h told q =
    let k = told_write p s a x v n h q in
    written_there b k.thread x v n (subst (λ (es : List Event). HasEvent es (event.NaWrite x v n)) (told k.thread k.there) k.told)

version_same : (c d : Versioned) → c.value ≡ d.value → c.version ≡ d.version → c ≡ d
version_same c d e f = λ k. record { value = e k; version = f k }

-- runs whose threads have the same events end with the same versions
pub versions_told : (p : Program) (a b : List Entry) → IsProperProgram p → IsJournalRun p a → IsJournalRun p b → ((i : ℕ) → i < length p.threads → told_by a i ≡ told_by b i) → (state_after p (initial_state p) a).memory.na ≡ (state_after p (initial_state p) b).memory.na
versions_told p a b ok g h same_events =
    ext_get_or absent_location t.na u.na (many a g ∙ sym (many b h)) (λ x l. each x (omega (arith, l, many a g)))
  where
    s : State
    s = initial_state p

    told : AreTold a b (length s.locals)
    told i l = same_events i (omega (arith, l, (initial_reached p ok).threads))

    t : Memory
    t = (state_after p s a).memory

    u : Memory
    u = (state_after p s b).memory

    many : (c : List Entry) → IsRunFrom p s c → length (state_after p s c).memory.na ≡ length s.memory.na
    many c r = (states_whole p c (state_after p s c) ok (record { run = r; state = refl })).na ∙ sym (initial_reached p ok).na

    each : (x : ℕ) → x < length s.memory.na → location_in t x ≡ location_in u x
    each x l =
        let first : Done s.memory t a x = run_done p s a x l g in
        let second : Done s.memory u b x = run_done p s b x l h in
        let there : HasWrite a x (location_in t x).value (location_in t x).version → HasWrite b x (location_in t x).value (location_in t x).version = write_too p s a b x (location_in t x).value (location_in t x).version g told in
        let back : HasWrite b x (location_in u x).value (location_in u x).version → HasWrite a x (location_in u x).value (location_in u x).version = write_too p s b a x (location_in u x).value (location_in u x).version h (λ i k. sym (told i k)) in
        ⊎_elim
        (λ (e : location_in t x ≡ location_in s.memory x).
        ⊎_elim
        (λ (f : location_in u x ≡ location_in s.memory x). e ∙ sym f)
        (λ (f : HasWrite b x (location_in u x).value (location_in u x).version).
        let same : (location_in t x).version ≡ (location_in s.memory x).version = ap (λ (d : Versioned). d.version) e in
        let more = first.later (location_in u x).value (location_in u x).version (back f) in
        ⊎_elim
        (λ (k : (location_in u x).version < (location_in t x).version). absurd (omega (arith, k, same, more)))
        (λ (k : ((location_in u x).version ≡ (location_in t x).version) × ((location_in u x).value ≡ (location_in t x).value)). version_same (location_in t x) (location_in u x) (sym k.1) (sym k.0))
        (first.known (location_in u x).value (location_in u x).version (back f)))
        second.last)
        (λ (e : HasWrite a x (location_in t x).value (location_in t x).version).
        ⊎_elim
        (λ (k : (location_in t x).version < (location_in u x).version).
        ⊎_elim
        (λ (f : location_in u x ≡ location_in s.memory x).
        let same : (location_in u x).version ≡ (location_in s.memory x).version = ap (λ (d : Versioned). d.version) f in
        absurd (omega (arith, k, same, first.rises)))
        (λ (f : HasWrite b x (location_in u x).value (location_in u x).version).
        ⊎_elim
        (λ (j : (location_in u x).version < (location_in t x).version). absurd (omega (arith, k, j)))
        (λ (j : ((location_in u x).version ≡ (location_in t x).version) × ((location_in u x).value ≡ (location_in t x).value)). version_same (location_in t x) (location_in u x) (sym j.1) (sym j.0))
        (first.known (location_in u x).value (location_in u x).version (back f)))
        second.last)
        (λ (k : ((location_in t x).version ≡ (location_in u x).version) × ((location_in t x).value ≡ (location_in u x).value)). version_same (location_in t x) (location_in u x) k.1 k.0)
        (second.known (location_in t x).value (location_in t x).version (there e)))
        first.last
