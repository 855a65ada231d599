-- A node that moves lead to is known by the events of its threads, its views and its memory.
use Rattle.std.proofs.Common.{◌≡◌, ⊎_elim, ℕ, ℤ, ◌+◌, ◌<◌, List, [], ◌∷◌, ◌++◌, length, get_or, refl, sym, ap, ◌∙◌, subst, arith}
use Rattle.std.proofs.lemmas.Bool.{cases_eq}
use Rattle.std.proofs.lemmas.List.{append_assoc, append-nil, ext_get_or, get_or-replicate, get_or-set_same, get_or-set_other}
use Rattle.values_undef.specs.declared.access.Access.{Access}
use Rattle.values_undef.specs.declared.access.Event.{Event}
use Rattle.values_undef.specs.declared.journal.Entry.{Entry}
use Rattle.il_syntax.specs.declared.program.Program.{Program}
use Rattle.views.specs.ThreadView.{ThreadView}
use Rattle.message_memory.specs.Memory.{Memory}
use Rattle.thread_core.specs.Programs.{IsProperProgram}
use Rattle.thread_core.specs.Frames.{Stack}
use Rattle.thread_core.specs.Alone.{local_after_event}
use Rattle.view_machine.specs.State.{State, idle}
use Rattle.memory_likeness.specs.Likeness.{without_stamps}
use Rattle.outcome_nodes.specs.Nodes.{Node, local_of, used_of, printed_of, told_of, settled, settled_use, first_node, prints, result_at, after_move}
use Rattle.outcome_nodes.specs.Reached.{IsReachable, begins, moves, IsRunOf, NodesAreTold}
use Rattle.outcome_nodes.proofs.Appending.{prints_same, local_same}
use Rattle.outcome_nodes.proofs.Following.{settled_same, use_same}
use Rattle.outcome_nodes.proofs.Reaching.{nodes_of_runs}

-- ---- where a thread stands after its events

record Standing : Type 0 where
  local : Stack
  used : ℕ

abbrev stands : Node → ℕ → Standing
stands n i = record { local = local_of n i; used = used_of n i }

abbrev going_on : Program → ℕ → Standing → Event → Standing
going_on p steps s e = record { local = settled p steps (s.used + 1) (local_after_event s.local e); used = settled_use p steps (s.used + 1) (local_after_event s.local e) }

abbrev stands_after : Program → ℕ → Standing → List Event → Standing
stands_after p steps s [] = s
stands_after p steps s (e ∷ events) = stands_after p steps (going_on p steps s e) events

stands_more : (p : Program) (steps : ℕ) (s : Standing) (events : List Event) (e : Event) → stands_after p steps s (events ++ e ∷ []) ≡ going_on p steps (stands_after p steps s events) e
stands_more p steps s [] e = refl
stands_more p steps s (x ∷ events) e = stands_more p steps (going_on p steps s x) events e

abbrev printed_in : List Event → List ℤ
printed_in [] = []
printed_in (e ∷ events) = prints e ++ printed_in events

printed_in_more : (events : List Event) (e : Event) → printed_in (events ++ e ∷ []) ≡ printed_in events ++ prints e
printed_in_more [] e = append-nil (prints e)
printed_in_more (x ∷ events) e = ap (λ (r : List ℤ). prints x ++ r) (printed_in_more events e) ∙ sym (append_assoc (prints x) (printed_in events) (prints e))

-- ---- it holds of each node

record IsTold (p : Program) (steps : ℕ) (n : Node) : Type 0 where
  stand : (j : ℕ) → j < length p.threads → stands n j ≡ stands_after p steps (stands (first_node p steps) j) (told_of n j)
  printed : (j : ℕ) → j < length p.threads → printed_of n j ≡ printed_in (told_of n j)

first_told : (p : Program) (steps : ℕ) → IsTold p steps (first_node p steps)
first_told p steps = record {
  stand = λ j l. sym (ap (stands_after p steps (stands (first_node p steps) j)) (none j l));
  printed = λ j l. get_or-replicate {A = List ℤ} (length p.threads) j [] [] l ∙ sym (ap printed_in (none j l));
}
  where
    none : (j : ℕ) → j < length p.threads → told_of (first_node p steps) j ≡ []
    none j l = get_or-replicate {A = List Event} (length p.threads) j [] [] l

module _ (p : Program) (steps : ℕ) (n : Node) (i : ℕ) (a : Access) (b : ℕ) (l : i < length p.threads) (locals : length n.locals ≡ length p.threads) (used : length n.used ≡ length p.threads) (printed : length n.printed ≡ length p.threads) (told : length n.told ≡ length p.threads) (q : IsTold p steps n) where
  abbrev e : Event
  e = (result_at n i a b).event

  abbrev m : Node
  m = after_move p steps n i a b

  told_here : told_of m i ≡ told_of n i ++ without_stamps e ∷ []
  told_here = get_or-set_same n.told i (told_of n i ++ without_stamps (result_at n i a b).event ∷ []) [] (omega (arith, told, l))

  stand_here : stands m i ≡ going_on p steps (stands n i) (without_stamps e)
  stand_here =
      ap (λ (x : Stack). let s : Standing = record { local = x; used = used_of m i } in s) (get_or-set_same n.locals i _ idle (omega (arith, locals, l)) ∙ settled_same p steps _ _ _ _ refl (sym (local_same (local_of n i) e)))
      ∙ ap (λ (x : ℕ). let s : Standing = record { local = settled p steps (used_of n i + 1) (local_after_event (local_of n i) (without_stamps (result_at n i a b).event)); used = x } in s)
      (get_or-set_same n.used i _ 0 (omega (arith, used, l)) ∙ use_same p steps _ _ _ _ refl (sym (local_same (local_of n i) e)))

  other_told : (j : ℕ) → (j ≡ i → ⊥) → told_of m j ≡ told_of n j
  other_told j h = get_or-set_other n.told i j (told_of n i ++ without_stamps (result_at n i a b).event ∷ []) [] h

  other_stand : (j : ℕ) → (j ≡ i → ⊥) → stands m j ≡ stands n j
  other_stand j h =
      ap (λ (x : Stack). let s : Standing = record { local = x; used = used_of m j } in s) (get_or-set_other n.locals i j _ idle h)
      ∙ ap (λ (x : ℕ). let s : Standing = record { local = local_of n j; used = x } in s) (get_or-set_other n.used i j _ 0 h)

  moved_told : IsTold p steps m
  moved_told = record {
    stand = λ j k.
        ⊎_elim
        (λ (h : j ≡ i).
        subst (λ (d : ℕ). stands m d ≡ stands_after p steps (stands (first_node p steps) d) (told_of m d)) (sym h)
        (stand_here ∙ ap (λ (s : Standing). going_on p steps s (without_stamps (result_at n i a b).event)) (q.stand i l)
        ∙ sym (stands_more p steps (stands (first_node p steps) i) (told_of n i) (without_stamps e)) ∙ ap (stands_after p steps (stands (first_node p steps) i)) (sym told_here)))
        (λ (h : j ≡ i → ⊥). other_stand j h ∙ q.stand j k ∙ ap (stands_after p steps (stands (first_node p steps) j)) (sym (other_told j h)))
        (cases_eq j i);
    printed = λ j k.
        ⊎_elim
        (λ (h : j ≡ i).
        subst (λ (d : ℕ). printed_of m d ≡ printed_in (told_of m d)) (sym h)
        (get_or-set_same n.printed i (printed_of n i ++ prints (result_at n i a b).event) [] (omega (arith, printed, l))
        ∙ ap (λ (x : List ℤ). x ++ prints (result_at n i a b).event) (q.printed i l) ∙ ap (λ (x : List ℤ). printed_in (told_of n i) ++ x) (sym (prints_same e))
        ∙ sym (printed_in_more (told_of n i) (without_stamps e)) ∙ ap printed_in (sym told_here)))
        (λ (h : j ≡ i → ⊥). get_or-set_other n.printed i j (printed_of n i ++ prints (result_at n i a b).event) [] h ∙ q.printed j k ∙ ap printed_in (sym (other_told j h)))
        (cases_eq j i);
  }

nodes_have_told : (p : Program) (steps : ℕ) (n : Node) → IsProperProgram p → IsReachable p steps n → IsTold p steps n
nodes_have_told p steps n ok (begins) = first_told p steps
nodes_have_told p steps n ok (moves m i a b before l asks move goes) =
    let r = nodes_of_runs p steps m ok before in
    moved_told p steps m i a b l r.2.many_locals r.2.many_used r.2.many_printed r.2.many_told (nodes_have_told p steps m ok before)

-- ---- nodes that are told alike are equal

node_same : (n m : Node) → n.locals ≡ m.locals → n.used ≡ m.used → n.views ≡ m.views → n.printed ≡ m.printed → n.told ≡ m.told → n.memory ≡ m.memory → n ≡ m
node_same n m a b c d e f =
    ap (λ (x : List Stack). let y : Node = record n { locals = x } in y) a
    ∙ ap (λ (x : List ℕ). let y : Node = record n { locals = m.locals; used = x } in y) b
    ∙ ap (λ (x : List ThreadView). let y : Node = record n { locals = m.locals; used = m.used; views = x } in y) c
    ∙ ap (λ (x : List (List ℤ)). let y : Node = record n { locals = m.locals; used = m.used; views = m.views; printed = x } in y) d
    ∙ ap (λ (x : List (List Event)). let y : Node = record n { locals = m.locals; used = m.used; views = m.views; printed = m.printed; told = x } in y) e
    ∙ ap (λ (x : Memory). let y : Node = record m { memory = x } in y) f

told_alike : (p : Program) (steps : ℕ) (n m : Node) (before after : List Entry) (s t : State) → IsRunOf p steps before s n → IsRunOf p steps after t m → IsTold p steps n → IsTold p steps m → n.told ≡ m.told → n.views ≡ m.views → n.memory ≡ m.memory → n ≡ m
told_alike p steps n m before after s t R S T U told views memory =
    node_same n m
    (ext_get_or idle n.locals m.locals (R.many_locals ∙ sym S.many_locals) (λ j l. ap (λ (x : Standing). x.local) (stand j (omega (arith, l, R.many_locals)))))
    (ext_get_or 0 n.used m.used (R.many_used ∙ sym S.many_used) (λ j l. ap (λ (x : Standing). x.used) (stand j (omega (arith, l, R.many_used)))))
    views
    (ext_get_or [] n.printed m.printed (R.many_printed ∙ sym S.many_printed) (λ j l. printed j (omega (arith, l, R.many_printed))))
    told
    memory
  where
    events : (j : ℕ) → told_of n j ≡ told_of m j
    events j = ap (λ (x : List (List Event)). get_or x j []) told

    stand : (j : ℕ) → j < length p.threads → stands n j ≡ stands m j
    stand j l = T.stand j l ∙ ap (stands_after p steps (stands (first_node p steps) j)) (events j) ∙ sym (U.stand j l)

    printed : (j : ℕ) → j < length p.threads → printed_of n j ≡ printed_of m j
    printed j l = T.printed j l ∙ ap printed_in (events j) ∙ sym (U.printed j l)

pub nodes_told : NodesAreTold
nodes_told p steps n m ok reached other told views memory =
    let r = nodes_of_runs p steps n ok reached in
    let s = nodes_of_runs p steps m ok other in
    told_alike p steps n m r.0 s.0 r.1 s.1 r.2 s.2 (nodes_have_told p steps n ok reached) (nodes_have_told p steps m ok other) told views memory
