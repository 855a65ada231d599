-- Lists of workers: filled from the last pass to the first, run, and put back.
use Rattle.std.proofs.Common.{◌≡◌, ◌⊎◌, ⊎_elim, ℕ, suc, ◌+◌, ◌-◌, ◌<◌, ◌≤◌, List, [], ◌∷◌, ◌++◌, length, map, take, drop, get_or, false, refl, sym, ap, ◌∙◌, subst, arith}
use Rattle.std.specs.List.{AllByRecursion}
use Rattle.rand_pcg.specs.Lcg.{Lcg}
use Rattle.values_undef.specs.Journal.{used_steps}
use Rattle.il_syntax.specs.declared.program.Program.{Program}
use Rattle.message_memory.specs.declared.history.Call.{Call}
use Rattle.message_memory.specs.History.{calls_by, entries_of}
use Rattle.chooser.specs.Draws.{generator, word}
use Rattle.thread_core.specs.Frames.{Stack}
use Rattle.thread_core.specs.Steps.{Positions, stack_in, ArePositions}
use Rattle.view_machine.specs.State.{start_of, local_in, idle, initial_state}
use Rattle.view_machine.specs.Laws.{Follows}
use Rattle.run_choices.specs.Drawn.{atomic_entries_of}
use Rattle.shared_memory.specs.Passes.{SharedValue, PassValue, IsPassOf, IsRow, own_calls}
use Rattle.threaded_runner.specs.declared.worker.Worker.{Worker}
use Rattle.threaded_runner.specs.Worked.{CallsAreDrawn, Worked}
use Rattle.thread_core.specs.Alone.{is_last}
use Rattle.threaded_runner.specs.Underway.{IsUnderway, stack_after}
use Rattle.threaded_runner.specs.Workers.{IsReady, HasWorked, EachOf, IsDescending}
use Rattle.threaded_runner.proofs.Own.{some_own, atomics_own}

-- ---- lists, element by element

pub each_of : {X : Type 0} (P : X → X → Type 0) (xs ys : List X) → length ys ≡ length xs → ((k : ℕ) (d : X) → k < length xs → P (get_or xs k d) (get_or ys k d)) → EachOf P xs ys
each_of P [] [] n each = tt
each_of P [] (y ∷ ys) n each = absurd (omega arith)
each_of P (x ∷ xs) [] n each = absurd (omega arith)
each_of P (x ∷ xs) (y ∷ ys) n each = (each 0 x (omega arith), each_of P xs ys (omega arith) (λ k d lt. each (suc k) d (omega arith)))

pub each_length : {X : Type 0} (P : X → X → Type 0) (xs ys : List X) → EachOf P xs ys → length ys ≡ length xs
each_length P [] [] e = refl
each_length P [] (y ∷ ys) e = absurd e
each_length P (x ∷ xs) [] e = absurd e
each_length P (x ∷ xs) (y ∷ ys) e = ap suc (each_length P xs ys e.1)

pub each_all : {X : Type 0} (P : X → X → Type 0) (Q : X → Type 0) (xs ys : List X) → ((x y : X) → P x y → Q y) → EachOf P xs ys → AllByRecursion Q ys
each_all P Q [] [] f e = tt
each_all P Q [] (y ∷ ys) f e = absurd e
each_all P Q (x ∷ xs) [] f e = absurd e
each_all P Q (x ∷ xs) (y ∷ ys) f e = (f x y e.0, each_all P Q xs ys f e.1)

-- ---- workers, the last first

pub descends_push : {M : Type 0} (n : ℕ) (ws : List (Worker M)) (w : Worker M) → IsDescending n ws → w.pass.thread + 1 + length ws ≡ n → IsDescending n (ws ++ w ∷ [])
descends_push n [] w h e = (omega arith, tt)
descends_push n (x ∷ ws) w h e = let f = h.0 in (h.0, descends_push (n - 1) ws w h.1 (omega (arith, e, f)))

pub descends_pop : {M : Type 0} (n : ℕ) (ws : List (Worker M)) (w : Worker M) → IsDescending n (ws ++ w ∷ []) → IsDescending n ws × (w.pass.thread + 1 + length ws ≡ n)
descends_pop n [] w h = let f = h.0 in (tt, omega (arith, f))
descends_pop n (x ∷ ws) w h =
    let r = descends_pop (n - 1) ws w h.1 in
    let f = h.0 in let g = r.1 in
    ((h.0, r.0), omega (arith, f, g))

pub descends_kept : {M : Type 0} (p : Program) (memory : SharedValue) (seed steps n : ℕ) (xs ys : List (Worker M)) → EachOf (HasWorked p memory seed steps) xs ys → IsDescending n xs → IsDescending n ys
descends_kept p memory seed steps n [] [] e h = tt
descends_kept p memory seed steps n [] (y ∷ ys) e h = absurd e
descends_kept p memory seed steps n (x ∷ xs) [] e h = absurd e
descends_kept p memory seed steps n (x ∷ xs) (y ∷ ys) e h = (ap (λ (k : ℕ). k + 1) e.0.thread ∙ h.0, descends_kept p memory seed steps (n - 1) xs ys e.1 h.1)

-- ---- rows of passes

pub row_pop : (memory : SharedValue) (first : ℕ) (ps : List PassValue) (q : PassValue) → IsRow memory first (ps ++ q ∷ []) → IsRow memory first ps × IsPassOf memory q × (q.thread ≡ first + length ps)
row_pop memory first [] q row = (tt, row.0.0, row.0.1 ∙ omega arith)
row_pop memory first (x ∷ ps) q row =
    let r = row_pop memory (suc first) ps q row.1 in
    ((row.0, r.0), r.1, let e = r.2 in omega (arith, e))

pub row_push : (memory : SharedValue) (first : ℕ) (ps : List PassValue) (q : PassValue) → IsRow memory first ps → IsPassOf memory q → q.thread ≡ first + length ps → IsRow memory first (ps ++ q ∷ [])
row_push memory first [] q row of e = ((of, e ∙ omega arith), tt)
row_push memory first (x ∷ ps) q row of e = (row.0, row_push memory (suc first) ps q row.1 of (e ∙ omega arith))

-- ---- a worker that begins

-- the locals of the program, the last one
pub last_local : (p : Program) (ls : List Positions) (l : Positions) (rest : List Stack) → map (stack_in p) (ls ++ l ∷ []) ++ rest ≡ map (start_of p) p.threads → stack_in p l ≡ local_in (initial_state p) (length ls)
last_local p ls l rest e =
    sym (ap (λ (x : List Stack). get_or x (length ls) (idle)) (sym e) ∙ got ls)
  where
    got : (ls : List Positions) → get_or (map (stack_in p) (ls ++ l ∷ []) ++ rest) (length ls) (idle) ≡ stack_in p l
    got [] = refl
    got (x ∷ ls) = got ls

none_drawn : (p : Program) (i seed : ℕ) (seen : List Call) → calls_by i seen ≡ [] → CallsAreDrawn p i seen seed
none_drawn p i seed seen none = λ b c a parts mine atomic. absurd (some_own i b c a mine (ap (calls_by i) (sym parts) ∙ none))

pub fresh_underway : (p : Program) (i seed steps : ℕ) (seen : List Call) (stack : Stack) (g : Lcg) → calls_by i seen ≡ [] → stack ≡ local_in (initial_state p) i → g ≡ generator seed i → IsUnderway p i seen stack g seed steps steps
fresh_underway p i seed steps seen stack g none stands draw = record {
  follows = subst (Follows p (local_in (initial_state p) i)) (sym none) tt;
  goes_on = subst (AllByRecursion (λ call. is_last call.event ≡ false)) (sym none) tt;
  stands = stands ∙ ap (stack_after p (local_in (initial_state p) i)) (sym none);
  used = let e = ap (λ (l : List Call). used_steps (entries_of l) i) none in omega (arith, e);
  drawn = none_drawn p i seed seen none;
  words = λ k.
      let z : atomic_entries_of i (entries_of seen) ≡ 0 = atomics_own i seen ∙ ap (λ (l : List Call). atomic_entries_of i (entries_of l)) none in
      ap (λ (x : Lcg). word x k) draw ∙ ap (word (generator seed i)) (omega (arith, z));
}

pub stacks_pop : (p : Program) (ls : List Positions) (l : Positions) (gone : List Stack) → map (stack_in p) (ls ++ l ∷ []) ++ gone ≡ map (stack_in p) ls ++ stack_in p l ∷ gone
stacks_pop p [] l gone = refl
stacks_pop p (x ∷ ls) l gone = ap (λ r. stack_in p x ∷ r) (stacks_pop p ls l gone)

-- a worker that begins is ready
pub ready_at : {M : Type 0} (p : Program) (memory : SharedValue) (seed steps : ℕ) (w : Worker M) → IsPassOf memory w.pass → ArePositions p w.local → own_calls w.pass ≡ [] → stack_in p w.local ≡ local_in (initial_state p) w.pass.thread → w.draw ≡ generator seed w.pass.thread
    → IsReady p memory seed steps w
ready_at p memory seed steps w of at fresh stands draw = record {
  pass = of;
  at = at;
  underway = fresh_underway p w.pass.thread seed steps w.pass.seen (stack_in p w.local) w.draw fresh stands draw;
}

-- the passes fit where one was taken of them
pub fits_taken : {M : Type 0} (n made made' : ℕ) (ws : List (Worker M)) (locals list : ℕ) → made' ≡ made → length ws + locals ≡ n → list ≡ locals → list ≤ made → (n ≤ made) ⊎ (ws ≡ []) → n ≤ made'
fits_taken n made made' ws locals list same count alike few h = ⊎_elim
    (λ (le : n ≤ made). omega (arith, le, same))
    (λ (e : ws ≡ []). let z = ap length e in omega (arith, same, count, alike, few, z))
    h

-- a vector after its elements were written through a slice
pub written : {X : Type 0} (n : ℕ) (xs ys : List X) → n ≡ length ys → take n (ys ++ drop (length ys) xs) ≡ ys
written n xs ys e = subst (λ (m : ℕ). take m (ys ++ drop (length ys) xs) ≡ ys) (sym e) (front ys (drop (length ys) xs))
  where
    front : {X : Type 0} (l m : List X) → take (length l) (l ++ m) ≡ l
    front [] m = refl
    front (x ∷ l) m = ap (λ k. x ∷ k) (front l m)

-- the workers after they have run
pub record Back {M : Type 0} (p : Program) (memory : SharedValue) (seed steps n : ℕ) (ws : List (Worker M)) : Type 0 where
  pub descending : IsDescending n ws
  pub passes : AllByRecursion (λ w. IsPassOf memory w.pass) ws
  pub worked : AllByRecursion (λ w. Worked p w.pass.thread w.pass.seen (own_calls w.pass) seed steps) ws

pub back : {M : Type 0} (p : Program) (memory : SharedValue) (seed steps n len : ℕ) (lent old new : List (Worker M)) → len ≡ length old → lent ≡ old → EachOf (HasWorked p memory seed steps) lent new → IsDescending n old → Back p memory seed steps n (take len (new ++ drop (length new) old))
back {M} p memory seed steps n len lent old new many same each down =
    let each' : EachOf (HasWorked p memory seed steps) old new = subst (λ (l : List (Worker M)). EachOf (HasWorked p memory seed steps) l new) same each in
    let length_is : length new ≡ length old = each_length (HasWorked p memory seed steps) old new each' in
    subst (Back p memory seed steps n) (sym (written len old new (many ∙ sym length_is))) (record {
      descending = descends_kept p memory seed steps n old new each' down;
      passes = each_all (HasWorked p memory seed steps) (λ (w : Worker M). IsPassOf memory w.pass) old new (λ x y h. h.pass) each';
      worked = each_all (HasWorked p memory seed steps) (λ (w : Worker M). Worked p w.pass.thread w.pass.seen (own_calls w.pass) seed steps) old new
          (λ x y h. subst (λ (i : ℕ). Worked p i y.pass.seen (own_calls y.pass) seed steps) (sym h.thread) h.worked) each';
    })
