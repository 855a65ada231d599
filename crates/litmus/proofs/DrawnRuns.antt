-- A run that is drawn from a seed is chosen by the generators of the seed.
use Rattle.std.proofs.Common.{◌≡◌, ℕ, suc, ◌+◌, ◌%◌, ◌<◌, ◌≤◌, Bool, true, false, cond, eqb, ◌&&◌, List, [], ◌∷◌, ◌++◌, length, inl, inr, refl, sym, ap, subst, ◌∙◌, arith}
use Rattle.std.proofs.lemmas.Bool.{cases_eq, eq-eqb, ne_eqb}
use Rattle.std.proofs.lemmas.List.{get_or-set_same, get_or-set_other, length-map, length-set}
use Rattle.std.proofs.lemmas.List.FromFn.{get_or-map-range_with_len, length-map-range_with_len}
use Rattle.values_undef.specs.Access.{is_atomic_event}
use Rattle.values_undef.specs.declared.journal.Entry.{Entry}
use Rattle.il_syntax.specs.declared.program.Program.{Program}
use Rattle.rand_pcg.specs.Lcg.{Lcg}
use Rattle.view_machine.specs.State.{State, initial_state, start_of}
use Rattle.view_machine.specs.Runs.{after_entry, after_silent, IsRunFrom, IsJournalRun, state_after}
use Rattle.chooser.specs.Draws.{generator, generators, generator_at, absent_generator, drawn, drawn_by, after_draw, after_draw_by, word}
use Rattle.walker.specs.Choices.{IsEventChosenBy, AreChosenFrom, AreChosenBy}
use Rattle.run_choices.specs.Drawn.{candidates_of, TakesCandidate, atomic_entries_of, Drawn}
use Rattle.walker.proofs.Callers.{word_after, length_after, state_threads}
use Rattle.chooser.proofs.Callers.{first_word, next_word}
use Rattle.view_machine.proofs.Callers.{entry_there, entry_threads, runs_cut}

-- the atomic entries take the candidates that these generators draw
abbrev DrawnFrom : Program → State → List Lcg → List Entry → Type 0
DrawnFrom p s all entries =
    (before : List Entry) (e : Entry) (after : List Entry) → entries ≡ before ++ e ∷ after → is_atomic_event e.event ≡ true
    → let t = state_after p s before in TakesCandidate p t e (word (generator_at all e.thread) (atomic_entries_of e.thread before) % length (candidates_of p t e))

first_chosen : (p : Program) (s : State) (all : List Lcg) (x : Entry) (more : List Entry) → DrawnFrom p s all (x ∷ more) → (b : Bool) → is_atomic_event x.event ≡ b
    → IsEventChosenBy drawn_by (after_silent p x.thread x.silent s) x.thread all x.event b
first_chosen p s all x more h false e = tt
first_chosen p s all x more h true e = subst (TakesCandidate p s x) (sym (first_word (generator_at all x.thread) (length (candidates_of p s x)))) (h [] x more refl e)

-- and so the generators choose them
chosen_from : (p : Program) (s : State) (all : List Lcg) (entries : List Entry) → length s.locals ≤ length all → IsRunFrom p s entries → DrawnFrom p s all entries
    → AreChosenFrom drawn_by after_draw_by p s all entries
chosen_from p s all [] enough run h = tt
chosen_from p s all (x ∷ more) enough run h =
    let count = length (candidates_of p s x) in
    let atomic = is_atomic_event x.event in
    let then = cond atomic (after_draw_by all x.thread count) all in
    let s' = after_entry p s x in
    let enough_then : length s'.locals ≤ length then = omega (arith, enough, length_after all x.thread count atomic, entry_threads p s x) in
    (first_chosen p s all x more h atomic refl, chosen_from p s' then more enough_then run.1 (rest then refl))
  where
    rest : (then : List Lcg) → then ≡ cond (is_atomic_event x.event) (after_draw_by all x.thread (length (candidates_of p s x))) all → DrawnFrom p (after_entry p s x) then more
    rest then is before e after parts is_atomic =
        let t = state_after p (after_entry p s x) before in
        let cut = runs_cut p (after_entry p s x) before (e ∷ after) (subst (IsRunFrom p (after_entry p s x)) parts run.1) in
        let there = entry_there p t e cut.1.0 in
        let lt : e.thread < length all = omega (arith, there, enough, state_threads p (after_entry p s x) before, entry_threads p s x) in
        let moved = word_after all e.thread x.thread (atomic_entries_of e.thread before) (length (candidates_of p s x)) (is_atomic_event x.event) lt in
        subst (λ (w : ℕ). TakesCandidate p t e (w % length (candidates_of p t e)))
        (sym moved ∙ ap (λ (g : List Lcg). word (generator_at g e.thread) (atomic_entries_of e.thread before)) (sym is))
        (h (x ∷ before) e after (ap (λ xs. x ∷ xs) parts) is_atomic)

-- a journal that is drawn from the seed is chosen by the seed's generators
pub drawn_chosen : (p : Program) (entries : List Entry) (seed : ℕ) → IsJournalRun p entries → Drawn p entries seed → AreChosenBy drawn_by after_draw_by p (generators seed (length p.threads)) entries
drawn_chosen p entries seed run is_drawn =
    let threads = length p.threads in
    let many : length (initial_state p).locals ≡ threads = length-map p.threads (start_of p) in
    let enough : length (initial_state p).locals ≤ length (generators seed threads) = omega (arith, many, length-map-range_with_len (generator seed) 0 threads) in
    chosen_from p (initial_state p) (generators seed threads) entries enough run (λ before e after parts atomic.
    let t = state_after p (initial_state p) before in
    let cut = runs_cut p (initial_state p) before (e ∷ after) (subst (IsRunFrom p (initial_state p)) parts run) in
    let there = entry_there p t e cut.1.0 in
    let below : e.thread < length p.threads = omega (arith, there, many, state_threads p (initial_state p) before) in
    let own : generator_at (generators seed (length p.threads)) e.thread ≡ generator seed e.thread =
    get_or-map-range_with_len (generator seed) 0 (length p.threads) e.thread e.thread absent_generator below (omega arith) in
    subst (λ (g : Lcg). TakesCandidate p t e (word g (atomic_entries_of e.thread before) % length (candidates_of p t e))) (sym own) (is_drawn before e after parts atomic))
