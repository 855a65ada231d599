-- Runs in which room is made, and steps of memories that differ in their outputs alone.
use Rattle.std.proofs.Common.{◌≡◌, ⊎_elim, ℕ, ℤ, zero, suc, ◌+◌, ◌<◌, ◌≤◌, Bool, true, false, cond, eqb, ◌&&◌, List, [], ◌∷◌, ◌++◌, length, map, refl, sym, ap, ◌∙◌, arith}
use Rattle.std.specs.Prelude.{◌||◌}
use Rattle.std.proofs.lemmas.Bool.{cases_Bool, cond_both, cond-true, cond-false, false≢true}
use Rattle.values_undef.specs.Access.{is_spend, weight}
use Rattle.values_undef.specs.Journal.{is_finish, has_finished, entry_steps, used_steps}
use Rattle.values_undef.specs.declared.access.Access.{Access}
use Rattle.values_undef.specs.declared.access.Access.TheVariants.{NaRead, NaWrite, Read, Write, Update, Fence, Print, Fail, Finish, Spend}
use Rattle.values_undef.specs.declared.access.Choice.{Choice}
use Rattle.values_undef.specs.declared.access.Choice.TheVariants.{Plain, Message, Place, Take}
use Rattle.values_undef.specs.declared.access.Event.{Event}
use Rattle.values_undef.specs.declared.access.Event.TheVariants as event
use Rattle.values_undef.specs.declared.journal.Entry.{Entry}
use Rattle.il_syntax.specs.declared.program.Program.{Program}
use Rattle.views.specs.ThreadView.{ThreadView}
use Rattle.message_memory.specs.Memory.{Memory, view_index}
use Rattle.message_memory.specs.Step.{AdmitsChoice, IsLegal, IsProper, StepResult, step_result, is_racy, read_at, meets_undef, succeeds}
use Rattle.message_memory.specs.Candidates.{location_of}
use Rattle.thread_core.specs.declared.next.Next.{Next}
use Rattle.thread_core.specs.declared.next.Next.TheVariants as next
use Rattle.thread_core.specs.Programs.{IsProperProgram}
use Rattle.thread_core.specs.Frames.{Stack, next_of, advanced}
use Rattle.thread_core.specs.Alone.{HasSilent}
use Rattle.view_machine.specs.State.{State}
use Rattle.view_machine.specs.Runs.{IsRunTo}
use Rattle.run_choices.specs.Complete.{has_spent}
use Rattle.memory_likeness.specs.Likeness.{without_stamps}
use Rattle.memory_likeness.specs.Moved.{moved, moved_view, moved_event, opened}
use Rattle.memory_likeness.specs.Answering.{puts_in, made_room, view_with_room, choice_behind}
use Rattle.memory_likeness.proofs.Callers.{opened_rises, map_each}
use Rattle.outcome_nodes.specs.Nodes.{is_silent, silent_steps, prints, printed_by, told_by}
use Rattle.outcome_nodes.specs.Moved.{moved_entry, moved_state}
use Rattle.outcome_nodes.proofs.MovedRuns.{spend_moved, finish_moved, runs_moved}

-- ---- silent steps

silent_is : (n : Next) → is_silent n ≡ true → n ≡ next.Silent
silent_is next.Silent e = refl
silent_is (next.Access a) e = absurd (false≢true e)

pub has_steps : (p : Program) (m : ℕ) (l : Stack) → HasSilent p (silent_steps p m l) l
has_steps p zero l = tt
has_steps p (suc m) l =
    cond_both (is_silent (next_of l)) (suc (silent_steps p m (advanced p l))) 0 (λ (n : ℕ). HasSilent p n l)
    (λ e. (silent_is (next_of l) e, has_steps p m (advanced p l)))
    (λ e. tt)

pub few_steps : (p : Program) (m : ℕ) (l : Stack) → silent_steps p m l ≤ m
few_steps p zero l = omega arith
few_steps p (suc m) l =
    cond_both (is_silent (next_of l)) (suc (silent_steps p m (advanced p l))) 0 (λ (n : ℕ). n ≤ suc m)
    (λ e. let r = few_steps p m (advanced p l) in omega arith)
    (λ e. omega arith)

-- ---- outputs

abbrev pub silenced : Memory → Memory
silenced m = record m { outputs = [] }

pub legal_silenced : (m : Memory) (v : ThreadView) (a : Access) (c : Choice) → IsLegal (silenced m) v a c → IsLegal m v a c
legal_silenced m v a c h = record { running = h.running; admits = admits a c h.admits }
  where
    admits : (a : Access) (c : Choice) → AdmitsChoice (silenced m) v a c → AdmitsChoice m v a c
    admits (NaRead x) Plain q = q
    admits (NaWrite x n) Plain q = q
    admits (Read z order) (Message to) q = q
    admits (Write z order n) (Place from to) q = q
    admits (Update z order kind) (Message to) q = q
    admits (Update z order kind) (Take read to) q = q
    admits (Fence order) Plain q = q
    admits (Print n) Plain q = q
    admits (Fail cause) Plain q = q
    admits Finish Plain q = q
    admits Spend Plain q = q
    admits _ _ q = absurd q

-- results that differ in the outputs of the memory alone
pub record AreSilencedResults (o r : StepResult) : Type 0 where
  pub event : r.event ≡ o.event
  pub view : r.view ≡ o.view
  pub memory : silenced r.memory ≡ silenced o.memory

pub result_silenced : (m : Memory) (v : ThreadView) (i : ℕ) (a : Access) (c : Choice) → AdmitsChoice m v a c → AreSilencedResults (step_result m v i a c) (step_result (silenced m) v i a c)
result_silenced m v i (NaRead x) Plain q = record { event = refl; view = refl; memory = refl }
result_silenced m v i (NaWrite x n) Plain q = choose (is_racy m v x) _ _ _ _ (record { event = refl; view = refl; memory = refl }) (record { event = refl; view = refl; memory = refl })
  where
    choose : (b : Bool) (o o' r r' : StepResult) → AreSilencedResults o r → AreSilencedResults o' r' → AreSilencedResults (cond b o o') (cond b r r')
    choose true o o' r r' p q = p
    choose false o o' r r' p q = q
result_silenced m v i (Read z order) (Message to) q = record { event = refl; view = refl; memory = refl }
result_silenced m v i (Write z order n) (Place from to) q = record { event = refl; view = refl; memory = refl }
result_silenced m v i (Update z order kind) (Message to) q = choose (meets_undef kind (read_at m z to).value) _ _ _ _ (record { event = refl; view = refl; memory = refl }) (record { event = refl; view = refl; memory = refl })
  where
    choose : (b : Bool) (o o' r r' : StepResult) → AreSilencedResults o r → AreSilencedResults o' r' → AreSilencedResults (cond b o o') (cond b r r')
    choose true o o' r r' p q = p
    choose false o o' r r' p q = q
result_silenced m v i (Update z order kind) (Take read to) q = record { event = refl; view = refl; memory = refl }
result_silenced m v i (Fence order) Plain q = record { event = refl; view = refl; memory = refl }
result_silenced m v i (Print n) Plain q = record { event = refl; view = refl; memory = refl }
result_silenced m v i (Fail cause) Plain q = record { event = refl; view = refl; memory = refl }
result_silenced m v i Finish Plain q = record { event = refl; view = refl; memory = refl }
result_silenced m v i Spend Plain q = record { event = refl; view = refl; memory = refl }
result_silenced m v i _ _ q = absurd q

-- room is made alike
pub record RoomIsSilenced (m : Memory) (a : Access) (b : ℕ) : Type 0 where
  pub memory : made_room (silenced m) a b ≡ silenced (made_room m a b)
  pub view : (v : ThreadView) → view_with_room (silenced m) v a b ≡ view_with_room m v a b
  pub choice : choice_behind (silenced m) a b ≡ choice_behind m a b

pub room_silenced : (m : Memory) (a : Access) (b : ℕ) → RoomIsSilenced m a b
room_silenced m (NaRead x) b = record { memory = refl; view = λ v. refl; choice = refl }
room_silenced m (NaWrite x n) b = record { memory = refl; view = λ v. refl; choice = refl }
room_silenced m (Read z order) b = record { memory = refl; view = λ v. refl; choice = refl }
room_silenced m (Write z order n) b = record { memory = refl; view = λ v. refl; choice = refl }
room_silenced m (Update z order kind) b = record { memory = choose (succeeds kind (read_at m z b).value); view = λ v. refl; choice = refl }
  where
    choose : (c : Bool) → cond c (moved (silenced m) z (opened b)) (silenced m) ≡ silenced (cond c (moved m z (opened b)) m)
    choose true = refl
    choose false = refl
room_silenced m (Fence order) b = record { memory = refl; view = λ v. refl; choice = refl }
room_silenced m (Print n) b = record { memory = refl; view = λ v. refl; choice = refl }
room_silenced m (Fail cause) b = record { memory = refl; view = λ v. refl; choice = refl }
room_silenced m Finish b = record { memory = refl; view = λ v. refl; choice = refl }
room_silenced m Spend b = record { memory = refl; view = λ v. refl; choice = refl }

-- ---- moved journals

weight_moved : (y : ℕ) (g : ℕ → ℕ) (e : Event) → weight (moved_event y g e) ≡ weight e
weight_moved y g (event.NaRead x v) = refl
weight_moved y g (event.NaWrite x v n) = refl
weight_moved y g (event.Read z o v to) = refl
weight_moved y g (event.Write z o v a b) = refl
weight_moved y g (event.Update z o a b c d) = refl
weight_moved y g (event.Miss z o v a) = refl
weight_moved y g (event.Fence order) = refl
weight_moved y g (event.Print v) = refl
weight_moved y g (event.Fail cause) = refl
weight_moved y g (event.FailCompare z read) = refl
weight_moved y g event.Finish = refl
weight_moved y g event.Spend = refl

prints_moved : (y : ℕ) (g : ℕ → ℕ) (e : Event) → prints (moved_event y g e) ≡ prints e
prints_moved y g (event.NaRead x v) = refl
prints_moved y g (event.NaWrite x v n) = refl
prints_moved y g (event.Read z o v to) = refl
prints_moved y g (event.Write z o v a b) = refl
prints_moved y g (event.Update z o a b c d) = refl
prints_moved y g (event.Miss z o v a) = refl
prints_moved y g (event.Fence order) = refl
prints_moved y g (event.Print v) = refl
prints_moved y g (event.Fail cause) = refl
prints_moved y g (event.FailCompare z read) = refl
prints_moved y g event.Finish = refl
prints_moved y g event.Spend = refl

without_moved : (y : ℕ) (g : ℕ → ℕ) (e : Event) → without_stamps (moved_event y g e) ≡ without_stamps e
without_moved y g (event.NaRead x v) = refl
without_moved y g (event.NaWrite x v n) = refl
without_moved y g (event.Read z o v to) = refl
without_moved y g (event.Write z o v a b) = refl
without_moved y g (event.Update z o a b c d) = refl
without_moved y g (event.Miss z o v a) = refl
without_moved y g (event.Fence order) = refl
without_moved y g (event.Print v) = refl
without_moved y g (event.Fail cause) = refl
without_moved y g (event.FailCompare z read) = refl
without_moved y g event.Finish = refl
without_moved y g event.Spend = refl

pub used_moved : (y : ℕ) (g : ℕ → ℕ) (entries : List Entry) (j : ℕ) → used_steps (map (moved_entry y g) entries) j ≡ used_steps entries j
used_moved y g [] j = refl
used_moved y g (e ∷ entries) j =
    ap (λ (n : ℕ). cond (eqb e.thread j) (e.silent + n) 0 + used_steps (map (moved_entry y g) entries) j) (weight_moved y g e.event)
    ∙ ap (λ (n : ℕ). cond (eqb e.thread j) (entry_steps e) 0 + n) (used_moved y g entries j)

pub printed_moved : (y : ℕ) (g : ℕ → ℕ) (entries : List Entry) (j : ℕ) → printed_by (map (moved_entry y g) entries) j ≡ printed_by entries j
printed_moved y g [] j = refl
printed_moved y g (e ∷ entries) j =
    ap (λ (r : List ℤ). cond (eqb e.thread j) r [] ++ printed_by (map (moved_entry y g) entries) j) (prints_moved y g e.event)
    ∙ ap (λ (r : List ℤ). cond (eqb e.thread j) (prints e.event) [] ++ r) (printed_moved y g entries j)

pub told_moved : (y : ℕ) (g : ℕ → ℕ) (entries : List Entry) (j : ℕ) → told_by (map (moved_entry y g) entries) j ≡ told_by entries j
told_moved y g [] j = refl
told_moved y g (e ∷ entries) j =
    ap (λ (r : Event). cond (eqb e.thread j) (r ∷ []) [] ++ told_by (map (moved_entry y g) entries) j) (without_moved y g e.event)
    ∙ ap (λ (r : List Event). cond (eqb e.thread j) (without_stamps e.event ∷ []) [] ++ r) (told_moved y g entries j)

pub finished_moved : (y : ℕ) (g : ℕ → ℕ) (entries : List Entry) (j : ℕ) → has_finished (map (moved_entry y g) entries) j ≡ has_finished entries j
finished_moved y g [] j = refl
finished_moved y g (e ∷ entries) j =
    ap (λ (b : Bool). (eqb e.thread j && b) || has_finished (map (moved_entry y g) entries) j) (finish_moved y g e.event)
    ∙ ap (λ (b : Bool). (eqb e.thread j && is_finish e.event) || b) (finished_moved y g entries j)

pub spent_moved : (y : ℕ) (g : ℕ → ℕ) (entries : List Entry) (j : ℕ) → has_spent (map (moved_entry y g) entries) j ≡ has_spent entries j
spent_moved y g [] j = refl
spent_moved y g (e ∷ entries) j =
    ap (λ (b : Bool). (eqb e.thread j && b) || has_spent (map (moved_entry y g) entries) j) (spend_moved y g e.event)
    ∙ ap (λ (b : Bool). (eqb e.thread j && is_spend e.event) || b) (spent_moved y g entries j)

-- ---- a run in which the room has been made

pub record IsPrepared (p : Program) (entries : List Entry) (s : State) (a : Access) (b : ℕ) (entries' : List Entry) (u : State) : Type 0 where
  pub run : IsRunTo p entries' u
  pub locals : u.locals ≡ s.locals
  pub ended : u.ended ≡ s.ended
  pub views : u.views ≡ map (λ v. view_with_room s.memory v a b) s.views
  pub memory : u.memory ≡ made_room s.memory a b
  pub used : (j : ℕ) → used_steps entries' j ≡ used_steps entries j
  pub printed : (j : ℕ) → printed_by entries' j ≡ printed_by entries j
  pub told : (j : ℕ) → told_by entries' j ≡ told_by entries j
  pub finished : (j : ℕ) → has_finished entries' j ≡ has_finished entries j
  pub spent : (j : ℕ) → has_spent entries' j ≡ has_spent entries j

map_same : {A : Type 0} (xs : List A) → xs ≡ map (λ x. x) xs
map_same [] = refl
map_same (x ∷ xs) = ap (λ ys. x ∷ ys) (map_same xs)

place_there : (m : Memory) (a : Access) (b : ℕ) → IsProper m a → puts_in m a b ≡ true → location_of a < length m.atomic
place_there m (NaRead x) b p h = absurd (false≢true h)
place_there m (NaWrite x n) b p h = absurd (false≢true h)
place_there m (Read z order) b p h = absurd (false≢true h)
place_there m (Write z order n) b p h = p.0
place_there m (Update z order kind) b p h = p
place_there m (Fence order) b p h = absurd (false≢true h)
place_there m (Print n) b p h = absurd (false≢true h)
place_there m (Fail cause) b p h = absurd (false≢true h)
place_there m Finish b p h = absurd (false≢true h)
place_there m Spend b p h = absurd (false≢true h)

-- where a message is put in, the run with room behind the one that ends at b
pub prepared_moved : (p : Program) (entries : List Entry) (s : State) (a : Access) (b : ℕ) → IsProperProgram p → IsRunTo p entries s → IsProper s.memory a → length s.memory.atomic ≡ length p.atomic → puts_in s.memory a b ≡ true
    → IsPrepared p entries s a b (map (moved_entry (location_of a) (opened b)) entries) (moved_state (location_of a) (opened b) s)
prepared_moved p entries s a b ok run proper many e = record {
  run = runs_moved p entries s (location_of a) (opened b) ok (opened_rises b) (omega (arith, many, place_there s.memory a b proper e)) run;
  locals = refl;
  ended = refl;
  views = map_each (moved_view (view_index s.memory (location_of a)) (opened b)) (λ v. view_with_room s.memory v a b) (λ v. sym (cond-true (puts_in s.memory a b) (moved_view (view_index s.memory (location_of a)) (opened b) v) v e)) s.views;
  memory = sym (cond-true (puts_in s.memory a b) (moved s.memory (location_of a) (opened b)) s.memory e);
  used = used_moved (location_of a) (opened b) entries;
  printed = printed_moved (location_of a) (opened b) entries;
  told = told_moved (location_of a) (opened b) entries;
  finished = finished_moved (location_of a) (opened b) entries;
  spent = spent_moved (location_of a) (opened b) entries;
}

-- where none is, the run itself
pub prepared_same : (p : Program) (entries : List Entry) (s : State) (a : Access) (b : ℕ) → IsRunTo p entries s → puts_in s.memory a b ≡ false → IsPrepared p entries s a b entries s
prepared_same p entries s a b run e = record {
  run = run;
  locals = refl;
  ended = refl;
  views = map_same s.views ∙ map_each (λ v. v) (λ v. view_with_room s.memory v a b) (λ v. sym (cond-false (puts_in s.memory a b) (moved_view (view_index s.memory (location_of a)) (opened b) v) v e)) s.views;
  memory = sym (cond-false (puts_in s.memory a b) (moved s.memory (location_of a) (opened b)) s.memory e);
  used = λ j. refl;
  printed = λ j. refl;
  told = λ j. refl;
  finished = λ j. refl;
  spent = λ j. refl;
}

pub prepared : (p : Program) (entries : List Entry) (s : State) (a : Access) (b : ℕ) → IsProperProgram p → IsRunTo p entries s → IsProper s.memory a → length s.memory.atomic ≡ length p.atomic
    → (entries' : List Entry) × (u : State) × IsPrepared p entries s a b entries' u
prepared p entries s a b ok run proper many =
    ⊎_elim
    (λ (e : puts_in s.memory a b ≡ true). (map (moved_entry (location_of a) (opened b)) entries, moved_state (location_of a) (opened b) s, prepared_moved p entries s a b ok run proper many e))
    (λ (e : puts_in s.memory a b ≡ false). (entries, s, prepared_same p entries s a b run e))
    (cases_Bool (puts_in s.memory a b))
