-- What is compared of two runs tells whether their nodes are equal.
use Rattle.std.proofs.Common.{◌≡◌, ◌⊎◌, inl, inr, ℕ, zero, suc, ◌<◌, Bool, true, false, ◌&&◌, ◌||◌, eqb, List, [], ◌∷◌, length, get_or, Some, refl, sym, ap, ◌∙◌, subst, arith}
use Rattle.std.specs.Prelude.{IsSome}
use Rattle.std.specs.List.{AllByRecursion}
use Rattle.std.proofs.lemmas.Bool.{false≢true, true≢false, eq-eqb}
use Rattle.std.proofs.lemmas.List.{ext_get_or}
use Rattle.std.proofs.lemmas.List.FromFn.{length-map-range_with_len, get_or-map-range_with_len}
use Rattle.values_undef.specs.Access.{is_spend}
use Rattle.values_undef.specs.declared.journal.Entry.{Entry}
use Rattle.il_syntax.specs.declared.program.Program.{Program}
use Rattle.message_memory.specs.Memory.{messages, message_at}
use Rattle.thread_core.specs.Programs.{IsProperProgram}
use Rattle.view_machine.specs.State.{State, initial_state}
use Rattle.view_machine.specs.Runs.{IsJournalRun, state_after}
use Rattle.view_machine.specs.Held.{Held, state_in}
use Rattle.view_machine.proofs.Callers.{states_whole}
use Rattle.run_choices.specs.Complete.{has_spent}
use Rattle.memory_likeness.proofs.Callers.{memory_same}
use Rattle.outcome_nodes.specs.Nodes.{Node, told_by}
use Rattle.outcome_nodes.specs.Standing.{node_of, IsNodeRun}
use Rattle.outcome_nodes.proofs.Callers.{nodes_told}
use Rattle.outcome_moves.specs.Ends.{end_in, HasEnd}
use Rattle.outcome_moves.proofs.Callers.{ends_found}
use Rattle.equal_nodes.proofs.Versions.{versions_told}

-- ---- entries

neither : (a b c : Bool) → ((a && b) || c) ≡ false → a ≡ true → (b ≡ false) × (c ≡ false)
neither true false c e q = (refl, e)
neither true true c e q = absurd (true≢false e)
neither false b c e q = absurd (false≢true q)

rest_false : (a c : Bool) → (a || c) ≡ false → c ≡ false
rest_false false c e = e
rest_false true c e = absurd (true≢false e)

pub none_spends : (entries : List Entry) → ((j : ℕ) → has_spent entries j ≡ false) → AllByRecursion (λ e. is_spend e.event ≡ false) entries
none_spends [] h = tt
none_spends (e ∷ entries) h = ((neither (eqb e.thread e.thread) (is_spend e.event) _ (h e.thread) (eq-eqb e.thread e.thread refl)).0, none_spends entries (λ j. rest_false _ _ (h j)))

pub has_end : (entries : List Entry) (k : ℕ) (d : Entry) (y b : ℕ) → k < length entries → end_in y (get_or entries k d).event ≡ Some b → HasEnd entries y b
has_end [] k d y b l q = absurd (omega (arith, l))
has_end (e ∷ entries) zero d y b l q = inl q
has_end (e ∷ entries) (suc k) d y b l q = inr (has_end entries k d y b (omega (arith, l)) q)

-- ---- the state in which a run ends

pub views_many : (p : Program) (entries : List Entry) (h : Held) → IsProperProgram p → IsJournalRun p entries → state_in p h ≡ state_after p (initial_state p) entries → length h.views ≡ length p.threads
views_many p entries h ok run e =
    let r = states_whole p entries (state_after p (initial_state p) entries) ok (record { run = run; state = refl }) in
    ap (λ (s : State). length s.views) e ∙ r.views ∙ r.threads

pub ends_there : (p : Program) (entries : List Entry) (h : Held) (y to : ℕ) → IsJournalRun p entries → state_in p h ≡ state_after p (initial_state p) entries → IsSome (message_at to (messages h.memory y)) → (to ≡ 0) ⊎ HasEnd entries y to
ends_there p entries h y to run e q = ends_found p entries y to run (subst (λ (s : State). IsSome (message_at to (messages s.memory y))) e q)

-- ---- nodes

pub told_same : (p : Program) (steps : ℕ) (a b : List Entry) → node_of p steps a ≡ node_of p steps b → (i : ℕ) → i < length p.threads → told_by a i ≡ told_by b i
told_same p steps a b e i l =
    sym (get_or-map-range_with_len (told_by a) 0 (length p.threads) i i [] l (omega arith)) ∙ ap (λ (n : Node). get_or n.told i []) e ∙ get_or-map-range_with_len (told_by b) 0 (length p.threads) i i [] l (omega arith)

pub state_same : (p : Program) (steps : ℕ) (a b : List Entry) (h k : Held) → state_in p h ≡ state_after p (initial_state p) a → state_in p k ≡ state_after p (initial_state p) b → node_of p steps a ≡ node_of p steps b → (h.views ≡ k.views) × (h.memory.atomic ≡ k.memory.atomic)
state_same p steps a b h k f g e = (
  ap (λ (s : State). s.views) f ∙ ap (λ (n : Node). n.views) e ∙ sym (ap (λ (s : State). s.views) g),
  ap (λ (s : State). s.memory.atomic) f ∙ ap (λ (n : Node). n.memory.atomic) e ∙ sym (ap (λ (s : State). s.memory.atomic) g),
)

pub node_same : (p : Program) (steps : ℕ) (a b : List Entry) (h k : Held) → IsProperProgram p → IsNodeRun p steps a → IsNodeRun p steps b → ((i : ℕ) → i < length p.threads → told_by a i ≡ told_by b i) → state_in p h ≡ state_after p (initial_state p) a → state_in p k ≡ state_after p (initial_state p) b → (h.views ≡ k.views) × (h.memory.atomic ≡ k.memory.atomic) → node_of p steps a ≡ node_of p steps b
node_same p steps a b h k ok first second told f g same =
    nodes_told p steps (node_of p steps a) (node_of p steps b) ok first.reached second.reached
    (ext_get_or [] (node_of p steps a).told (node_of p steps b).told (many a ∙ sym (many b)) (λ i l. at a i (within i l) ∙ told i (within i l) ∙ sym (at b i (within i l))))
    (ap (λ (s : State). s.views) (sym f) ∙ same.0 ∙ ap (λ (s : State). s.views) g)
    (memory_same (node_of p steps a).memory (node_of p steps b).memory
    (versions_told p a b ok first.stands.run.run second.stands.run.run told)
    (ap (λ (s : State). s.memory.atomic) (sym f) ∙ same.1 ∙ ap (λ (s : State). s.memory.atomic) g)
    refl
    (first.stands.running ∙ sym second.stands.running))
  where
    many : (c : List Entry) → length (node_of p steps c).told ≡ length p.threads
    many c = length-map-range_with_len (told_by c) 0 (length p.threads)

    within : (i : ℕ) → i < length (node_of p steps a).told → i < length p.threads
    within i l = subst (λ (n : ℕ). i < n) (many a) l

    at : (c : List Entry) (i : ℕ) → i < length p.threads → get_or (node_of p steps c).told i [] ≡ told_by c i
    at c i l = get_or-map-range_with_len (told_by c) 0 (length p.threads) i i [] l (omega arith)
