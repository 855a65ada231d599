-- A walk whose choices are picked by a list, or drawn from a seed, is the only one of its program, order and budget.
use Rattle.std.proofs.Common.{◌≡◌, ℕ, suc, ◌+◌, ◌%◌, Bool, true, false, cond, List, [], ◌∷◌, ◌++◌, length, Option, slice_get, refl, sym, ap, subst, ◌∙◌, arith}
use Rattle.std.specs.Option.{option_map_or}
use Rattle.values_undef.specs.Access.{is_atomic_event}
use Rattle.values_undef.specs.declared.journal.Entry.{Entry}
use Rattle.il_syntax.specs.declared.program.Program.{Program}
use Rattle.view_machine.specs.State.{State, initial_state}
use Rattle.view_machine.specs.Runs.{after_entry, after_silent, state_after}
use Rattle.chooser.specs.Picks.{picked, picked_by, after_pick_by}
use Rattle.walker.specs.Choices.{IsEventChosenBy, AreChosenFrom}
use Rattle.run_choices.specs.Drawn.{candidates_of, TakesCandidate, atomic_entries}
use Rattle.walker.proofs.Callers.{determined}
use Rattle.words.specs.declared.command.Drawing.{Drawing}
use Rattle.words.specs.declared.command.Drawing.TheVariants.{Seed, Picks}
use Rattle.tool.specs.Walk.{IsWalkOf}
use Rattle.tool.proofs.DrawnWalks.{walked_once}

-- the atomic entries take the candidates that the list picks
abbrev PickedFrom : Program → State → List ℕ → List Entry → Type 0
PickedFrom p s list entries =
    (before : List Entry) (e : Entry) (after : List Entry) → entries ≡ before ++ e ∷ after → is_atomic_event e.event ≡ true
    → let t = state_after p s before in TakesCandidate p t e (option_map_or (λ n. n % length (candidates_of p t e)) (slice_get list (atomic_entries before)) 0)

first_number : (list : List ℕ) (count : ℕ) → picked list count ≡ option_map_or (λ n. n % count) (slice_get list 0) 0
first_number [] count = refl
first_number (n ∷ list) count = refl

number_after : (list : List ℕ) (thread k count : ℕ) (atomic : Bool) → slice_get (cond atomic (after_pick_by list thread count) list) k ≡ slice_get list (cond atomic 1 0 + k)
number_after list thread k count false = ap (slice_get list) (omega arith)
number_after [] thread k count true = refl
number_after (n ∷ list) thread k count true = ap (slice_get (n ∷ list)) (let q : suc k ≡ 1 + k = omega arith in q)

first_chosen : (p : Program) (s : State) (list : List ℕ) (x : Entry) (more : List Entry) → PickedFrom p s list (x ∷ more) → (b : Bool) → is_atomic_event x.event ≡ b
    → IsEventChosenBy picked_by (after_silent p x.thread x.silent s) x.thread list x.event b
first_chosen p s list x more h false e = tt
first_chosen p s list x more h true e = subst (TakesCandidate p s x) (sym (first_number list (length (candidates_of p s x)))) (h [] x more refl e)

-- and so the list chooses them
chosen_from : (p : Program) (s : State) (list : List ℕ) (entries : List Entry) → PickedFrom p s list entries → AreChosenFrom picked_by after_pick_by p s list entries
chosen_from p s list [] h = tt
chosen_from p s list (x ∷ more) h =
    let then = cond (is_atomic_event x.event) (after_pick_by list x.thread (length (candidates_of p s x))) list in
    (first_chosen p s list x more h (is_atomic_event x.event) refl, chosen_from p (after_entry p s x) then more (rest then refl))
  where
    rest : (then : List ℕ) → then ≡ cond (is_atomic_event x.event) (after_pick_by list x.thread (length (candidates_of p s x))) list → PickedFrom p (after_entry p s x) then more
    rest then is before e after parts is_atomic =
        let t = state_after p (after_entry p s x) before in
        let k = atomic_entries before in
        let moved = ap (λ (l : List ℕ). slice_get l k) is ∙ number_after list x.thread k (length (candidates_of p s x)) (is_atomic_event x.event) in
        subst (λ (o : Option ℕ). TakesCandidate p t e (option_map_or (λ n. n % length (candidates_of p t e)) o 0)) (sym moved) (h (x ∷ before) e after (ap (λ xs. x ∷ xs) parts) is_atomic)

pub one_walk : (order : List ℕ) (draws : Drawing) (steps : ℕ) (p : Program) (one other : List Entry) → IsWalkOf order draws steps p one → IsWalkOf order draws steps p other → one ≡ other
one_walk order (Seed seed) steps p one other x y = walked_once order seed steps p one other x y
one_walk order (Picks list) steps p one other x y =
    determined picked_by after_pick_by p order steps list one other x.run x.complete x.turns (chosen_from p (initial_state p) list one x.choices)
    y.run y.complete y.turns (chosen_from p (initial_state p) list other y.choices)
