-- What a search that keeps runs needs: the node of a run, and what comes of an access after room was made.
use Rattle.std.proofs.Common.{◌≡◌, ℕ, ℤ, zero, suc, ◌-◌, ◌<◌, ◌≤◌, true, false, cond, List, [], ◌∷◌, ◌++◌, length, map, refl, sym, ap, ◌∙◌, subst, arith}
use Rattle.std.specs.Prelude.{IsSome}
use Rattle.std.specs.List.{range_with_len}
use Rattle.std.proofs.lemmas.Bool.{cond-true}
use Rattle.std.proofs.lemmas.List.FromFn.{fill_by_all}
use Rattle.values_undef.specs.Access.{leaves_choice, is_failure}
use Rattle.values_undef.specs.Journal.{used_steps}
use Rattle.values_undef.specs.declared.access.Access.{Access}
use Rattle.values_undef.specs.declared.access.Access.TheVariants.{NaRead, NaWrite, Read, Write, Update, Fence, Print, Fail, Finish, Spend}
use Rattle.values_undef.specs.declared.access.Choice.{Choice}
use Rattle.values_undef.specs.declared.access.Choice.TheVariants.{Plain, Message, Place, Take}
use Rattle.values_undef.specs.declared.access.Event.{Event}
use Rattle.values_undef.specs.declared.journal.Entry.{Entry}
use Rattle.il_syntax.specs.declared.program.Program.{Program}
use Rattle.views.specs.ThreadView.{ThreadView}
use Rattle.message_memory.specs.Memory.{Memory, messages, message_at}
use Rattle.message_memory.specs.Step.{AdmitsChoice, IsLegal}
use Rattle.message_memory.specs.Candidates.{location_of}
use Rattle.thread_core.specs.declared.next.Next.TheVariants as next
use Rattle.thread_core.specs.declared.next.Next.{Next}
use Rattle.thread_core.specs.Programs.{IsProperProgram}
use Rattle.thread_core.specs.Frames.{Stack, next_of, advanced}
use Rattle.thread_core.specs.Alone.{HasSilent, local_after_silent}
use Rattle.view_machine.specs.State.{State, local_in, view_in, initial_state}
use Rattle.view_machine.specs.Runs.{state_after}
use Rattle.memory_likeness.specs.Answering.{view_with_room, choice_behind}
use Rattle.outcome_nodes.specs.Nodes.{Node, view_at, is_silent, silent_steps, settled, settled_use, printed_by, told_by, Asks, IsMove, result_at}
use Rattle.outcome_nodes.specs.Reached.{IsReachable, begins, moves, IsRunOf}
use Rattle.outcome_nodes.specs.Standing.{node_at, node_of, IsNodeRun, RunsHaveOneNode, GoesOnBy, FailsBy}
use Rattle.outcome_nodes.proofs.Rooms.{silenced, IsPrepared}
use Rattle.outcome_nodes.proofs.Reaching.{entry_of_access, are_told, legal, results, failed, moved_to, fails_there, first_of}

-- ---- the node of a run

node_at_is : (p : Program) (steps : ℕ) (entries : List Entry) (s : State) (n : Node) → IsRunOf p steps entries s n → n ≡ node_at p steps entries s
node_at_is p steps entries s n R =
    ap (λ (x : List Stack). let y : Node = record n { locals = x } in y) locals
    ∙ ap (λ (x : List ℕ). let y : Node = record n { locals = L; used = x } in y) used
    ∙ ap (λ (x : List ThreadView). let y : Node = record n { locals = L; used = U; views = x } in y) R.views
    ∙ ap (λ (x : List (List ℤ)). let y : Node = record n { locals = L; used = U; views = s.views; printed = x } in y) printed
    ∙ ap (λ (x : List (List Event)). let y : Node = record n { locals = L; used = U; views = s.views; printed = P; told = x } in y) told
    ∙ ap (λ (x : Memory). let y : Node = record { locals = L; used = U; views = s.views; printed = P; told = T; memory = x } in y) R.memory
  where
    L : List Stack
    L = map (λ j. settled p steps (used_steps entries j) (local_in s j)) (range_with_len 0 (length p.threads))

    U : List ℕ
    U = map (λ j. settled_use p steps (used_steps entries j) (local_in s j)) (range_with_len 0 (length p.threads))

    P : List (List ℤ)
    P = map (printed_by entries) (range_with_len 0 (length p.threads))

    T : List (List Event)
    T = map (told_by entries) (range_with_len 0 (length p.threads))

    locals : n.locals ≡ L
    locals = fill_by_all (λ j. settled p steps (used_steps entries j) (local_in s j)) n.locals (length p.threads) _ R.many_locals R.locals

    used : n.used ≡ U
    used = fill_by_all (λ j. settled_use p steps (used_steps entries j) (local_in s j)) n.used (length p.threads) 0 R.many_used R.used

    printed : n.printed ≡ P
    printed = fill_by_all (printed_by entries) n.printed (length p.threads) [] R.many_printed R.printed

    told : n.told ≡ T
    told = fill_by_all (told_by entries) n.told (length p.threads) [] R.many_told R.told

pub one_node : RunsHaveOneNode
one_node p steps entries s n R = node_at_is p steps entries s n R ∙ ap (node_at p steps entries) (sym R.run.state)

pub node_run : (p : Program) (steps : ℕ) (entries : List Entry) (s : State) (n : Node) → IsReachable p steps n → IsRunOf p steps entries s n → IsNodeRun p steps entries
node_run p steps entries s n reached R = record {
  reached = subst (IsReachable p steps) same reached;
  stands = subst (IsRunOf p steps entries (state_after p (initial_state p) entries)) same (subst (λ (t : State). IsRunOf p steps entries t n) (sym R.run.state) R);
}
  where
    same : n ≡ node_of p steps entries
    same = one_node p steps entries s n R

-- ---- silent steps

-- where so many are silent, and no more up to the bound
pub steps_are : (p : Program) (k m : ℕ) (l : Stack) → HasSilent p k l → k ≤ m → (next_of (local_after_silent p k l) ≡ next.Silent → k ≡ m) → silent_steps p m l ≡ k
steps_are p zero zero l h q stop = refl
steps_are p zero (suc m) l h q stop = none (next_of l) refl
  where
    none : (n : Next) → next_of l ≡ n → silent_steps p (suc m) l ≡ 0
    none next.Silent e = absurd (let no : 0 ≡ suc m = stop e in omega (arith, no))
    none (next.Access a) e = ap (λ (x : Next). cond (is_silent x) (suc (silent_steps p m (advanced p l))) 0) e
steps_are p (suc k) zero l h q stop = absurd (omega (arith, q))
steps_are p (suc k) (suc m) l h q stop =
    cond-true (is_silent (next_of l)) (suc (silent_steps p m (advanced p l))) 0 (ap is_silent h.0)
    ∙ ap suc (steps_are p k m (advanced p l) h.1 (omega (arith, q)) (λ e. let r = stop e in omega (arith, r)))

-- ---- an access after room was made

legal_loud : (m : Memory) (v : ThreadView) (a : Access) (c : Choice) → IsLegal m v a c → IsLegal (silenced m) v a c
legal_loud m v a c h = record { running = h.running; admits = admits a c h.admits }
  where
    admits : (a : Access) (c : Choice) → AdmitsChoice m v a c → AdmitsChoice (silenced m) v a c
    admits (NaRead x) Plain q = q
    admits (NaWrite x n) Plain q = q
    admits (Read z order) (Message to) q = q
    admits (Write z order n) (Place from to) q = q
    admits (Update z order kind) (Message to) q = q
    admits (Update z order kind) (Take read to) q = q
    admits (Fence order) Plain q = q
    admits (Print n) Plain q = q
    admits (Fail cause) Plain q = q
    admits Finish Plain q = q
    admits Spend Plain q = q
    admits _ _ q = absurd q

module _ (p : Program) (steps : ℕ) (n : Node) (entries : List Entry) (s : State) (ok : IsProperProgram p) (reached : IsReachable p steps n) (R : IsRunOf p steps entries s n) (i : ℕ) (a : Access) (b : ℕ) (l : i < length p.threads) (asks : Asks steps n i a) (entries' : List Entry) (u : State)
    (P : IsPrepared p entries s a b entries' u) where
  abbrev k : ℕ
  k = silent_steps p (steps - used_steps entries i) (local_in s i)

  abbrev c : Choice
  c = choice_behind s.memory a b

  abbrev e : Entry
  e = entry_of_access u i k a c

  pub is_legal : IsMove n i a b → IsLegal u.memory (view_in u i) a (choice_behind s.memory a b)
  is_legal move = legal p steps n entries s ok R i a b l asks entries' u P move

  pub is_move : (leaves_choice a ≡ true → IsSome (message_at b (messages s.memory (location_of a)))) → IsLegal u.memory (view_in u i) a (choice_behind s.memory a b) → IsMove n i a b
  is_move found h =
      let t = are_told p steps n entries s ok R i a b l asks entries' u P in
      record {
        found = λ q. subst (λ (m : Memory). IsSome (message_at b (messages m (location_of a)))) (sym R.memory) (found q);
        legal =
            subst (λ (m : Memory). IsLegal m (view_with_room n.memory (view_at n i) a b) a (choice_behind n.memory a b)) t.0
            (subst (λ (v : ThreadView). IsLegal (silenced u.memory) v a (choice_behind n.memory a b)) t.1
            (subst (λ (d : Choice). IsLegal (silenced u.memory) (view_in u i) a d) t.2 (legal_loud u.memory (view_in u i) a c h)));
      }

  pub goes_on : IsMove n i a b → is_failure e.event ≡ false → GoesOnBy p steps n i a b (entries' ++ e ∷ [])
  goes_on move h =
      let fine : (result_at n i a b).memory.failed ≡ false =
      ap (λ (m : Memory). m.failed) (results p steps n entries s ok R i a b l asks entries' u P move).memory ∙ failed p steps n entries s ok R i a b l asks entries' u P move ∙ h in
      let after = moved_to p steps n entries s ok R i a b l asks entries' u P move fine in
      record { run = node_run p steps _ _ _ (moves n i a b reached l asks move fine) after; node = sym (one_node p steps _ _ _ after); fine = fine }

  pub fails_in : IsMove n i a b → is_failure e.event ≡ true → FailsBy p steps n i a b (entries' ++ e ∷ [])
  fails_in move h = record { run = fails_there p steps n entries s ok R i a b l asks entries' u P move fails; fails = fails }
    where
      fails : (result_at n i a b).memory.failed ≡ true
      fails =
          ap (λ (m : Memory). m.failed) (results p steps n entries s ok R i a b l asks entries' u P move).memory ∙ failed p steps n entries s ok R i a b l asks entries' u P move ∙ h

pub first_run : (p : Program) (steps : ℕ) → IsNodeRun p steps []
first_run p steps = node_run p steps [] (initial_state p) _ begins (first_of p steps)
