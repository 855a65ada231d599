-- Pairs of hoisted loads stay above nothing in their loops.
use Rattle.std.proofs.Common.{◌≡◌, ◌≤◌, ℕ, zero, suc, Bool, true, false, cond, leb, ◌==◌, ◌&&◌, List, [], ◌∷◌, get_or, refl, sym, ap, subst, inl, inr, ⊎_elim, arith}
use Rattle.std.proofs.lemmas.Bool.{eq-eqb, false≢true}
use Rattle.il_syntax.specs.declared.statement.Atom.TheVariants.{Reg}
use Rattle.il_syntax.specs.declared.statement.Stmt.TheOpen.{Skip, Copy, Compute, Load, Store, AtomicLoad, AtomicStore, Update, Fence, Print, If, While, Call}
use Rattle.il_syntax.specs.Statements.{Head}
use Rattle.il_paths.specs.Code.{Visit, Code, End, Plain, Branch, Loop, placed, AllCode}
use Rattle.path_meets.specs.Walks.{meet, meet_of_turns, exit, table}
use Rattle.path_meets.proofs.Callers.{least_above, Agrees, agrees-whole, table_least, are_one}
use Rattle.flow_facts.specs.declared.level.Kind.TheVariants.{Loads}
use Rattle.flow_facts.specs.declared.level.Level.{Level}
use Rattle.flow_facts.specs.declared.level.Level.TheVariants.{Nothing, Held}
use Rattle.flow_facts.specs.declared.transfer.Transfer.TheVariants.{Keeps, Becomes}
use Rattle.flow_facts.specs.Levels.{rank_of, after_transfer, level_change, level_step}
use Rattle.flow_facts.proofs.Callers.{step_monotone, rank_bounded, rank_injective}
use Rattle.load_hoist.specs.declared.growth.Extra.{Extra}
use Rattle.load_hoist.specs.Hoisted.{Has, OccursIn, run_after, InsideHoisted, KeepsPair, WellHoisted}
use Rattle.load_hoist.specs.Laws.{HoistedPairsAreKnown}

-- turns that keep a level above nothing
kept_turns : (f : Level → Level) → ((l : Level) → 1 ≤ rank_of l → 1 ≤ rank_of (f l)) → (n : ℕ) (l : Level) → 1 ≤ rank_of l → 1 ≤ rank_of (meet_of_turns Level rank_of n f l)
kept_turns f keeps zero l h = h
kept_turns f keeps (suc n) l h = least_above Level rank_of l (meet_of_turns Level rank_of n f (f l)) Held h (kept_turns f keeps n (f l) (keeps l h))

just_given : (p q : Bool) (l : Level) → p ≡ true → q ≡ true → 1 ≤ rank_of (after_transfer (cond p (cond (q && true) (Becomes Held) (Becomes Nothing)) Keeps) l)
just_given true true l e f = omega arith
just_given true false l e f = absurd (false≢true f)
just_given false q l e f = absurd (false≢true e)

module _ (e : Extra) where
  abbrev step : Visit → Level → Level
  step = level_step Loads e.x (Reg e.r)

  kept_exit : (c : Code) (l : Level) → AllCode (KeepsPair e) c → 1 ≤ rank_of l → 1 ≤ rank_of (exit Level rank_of 2 step c l)
  kept_exit End l k h = h
  kept_exit (Plain v rest) l k h = kept_exit rest (step v l) k.1 (k.0 l h)
  kept_exit (Branch v yes_block no_block rest) l k h =
      let m = k.0 l h in
      let a = exit Level rank_of 2 step yes_block (step v l) in
      let b = exit Level rank_of 2 step no_block (step v l) in
      kept_exit rest (meet Level rank_of a b) k.3 (least_above Level rank_of a b Held (kept_exit yes_block (step v l) k.1 m) (kept_exit no_block (step v l) k.2 m))
  kept_exit (Loop v body rest) l k h =
      let low = meet_of_turns Level rank_of 2 (λ m. exit Level rank_of 2 step body (step v m)) l in
      kept_exit rest (step v low) k.2 (k.0 low (kept_turns (λ m. exit Level rank_of 2 step body (step v m)) (λ m g. kept_exit body (step v m) k.1 (k.0 m g)) 2 l h))

  kept_sites : (at : ℕ → Level) (c : Code) (l : Level) (s : ℕ) → Agrees Level rank_of 2 step at c l → AllCode (KeepsPair e) c → 1 ≤ rank_of l → OccursIn c s → 1 ≤ rank_of (at s)
  kept_sites at End l s g k h o = absurd o
  kept_sites at (Plain v rest) l s g k h (inl o) = subst (λ n. 1 ≤ rank_of (at n)) o (let q = ap rank_of g.0 in omega arith)
  kept_sites at (Plain v rest) l s g k h (inr o) = kept_sites at rest (step v l) s g.1 k.1 (k.0 l h) o
  kept_sites at (Branch v yes_block no_block rest) l s g k h (inl o) = subst (λ n. 1 ≤ rank_of (at n)) o (let q = ap rank_of g.0 in omega arith)
  kept_sites at (Branch v yes_block no_block rest) l s g k h (inr (inl o)) = kept_sites at yes_block (step v l) s g.1 k.1 (k.0 l h) o
  kept_sites at (Branch v yes_block no_block rest) l s g k h (inr (inr (inl o))) = kept_sites at no_block (step v l) s g.2 k.2 (k.0 l h) o
  kept_sites at (Branch v yes_block no_block rest) l s g k h (inr (inr (inr o))) =
      let a = exit Level rank_of 2 step yes_block (step v l) in
      let b = exit Level rank_of 2 step no_block (step v l) in
      kept_sites at rest (meet Level rank_of a b) s g.3 k.3 (least_above Level rank_of a b Held (kept_exit yes_block (step v l) k.1 (k.0 l h)) (kept_exit no_block (step v l) k.2 (k.0 l h))) o
  kept_sites at (Loop v body rest) l s g k h o =
      let low = meet_of_turns Level rank_of 2 (λ m. exit Level rank_of 2 step body (step v m)) l in
      let held = kept_turns (λ m. exit Level rank_of 2 step body (step v m)) (λ m q. kept_exit body (step v m) k.1 (k.0 m q)) 2 l h in
      ⊎_elim (λ q. subst (λ n. 1 ≤ rank_of (at n)) q (let w = ap rank_of g.0 in omega (arith, held)))
      (⊎_elim (λ q. kept_sites at body (step v low) s g.1 k.1 (k.0 low held) q) (λ q. kept_sites at rest (step v low) s g.2 k.2 (k.0 low held) q)) o

  -- a load that was just put in is held
  load_held : (l : Level) → 1 ≤ rank_of (level_change Loads e.x (Reg e.r) (Load e.r e.x) l)
  load_held l = just_given (e.r == e.r) (e.x == e.x) l (eq-eqb e.r e.r refl) (eq-eqb e.x e.x refl)

  -- the run after a statement has the load that it was, and those of the run before
  run_held : (old : ℕ) (run : List Extra) (head : Head) (l : Level) → ((f : Extra) → Has f run → Has f (run_after old run head) → KeepsPair f head) → (Has e run → 1 ≤ rank_of l) → Has e (run_after old run head) → 1 ≤ rank_of (level_change Loads e.x (Reg e.r) head l)
  run_held old run (Load r x) l keeps before h = go (leb old r) refl h
    where
      go : (t : Bool) → leb old r ≡ t → Has e (cond t (record { r = r; x = x } ∷ run) []) → 1 ≤ rank_of (level_change Loads e.x (Reg e.r) (Load r x) l)
      go false q k = absurd k
      go true q (inl same) = subst (λ (f : Extra). 1 ≤ rank_of (level_change Loads e.x (Reg e.r) (Load f.r f.x) l)) same (load_held l)
      go true q (inr k) = keeps e k h l (before k)
  run_held old run Skip l keeps before h = absurd h
  run_held old run (Copy r a) l keeps before h = absurd h
  run_held old run (Compute r op a b) l keeps before h = absurd h
  run_held old run (Store x a) l keeps before h = absurd h
  run_held old run (AtomicLoad r order y) l keeps before h = absurd h
  run_held old run (AtomicStore order y a) l keeps before h = absurd h
  run_held old run (Update r order y kind) l keeps before h = absurd h
  run_held old run (Fence order) l keeps before h = absurd h
  run_held old run (Print a) l keeps before h = absurd h
  run_held old run (If a p q) l keeps before h = absurd h
  run_held old run (While a p) l keeps before h = absurd h
  run_held old run (Call r function args) l keeps before h = absurd h

  hoisted_sites : (at : ℕ → Level) (old : ℕ) (c : Code) (l : Level) (run : List Extra) (s : ℕ) → Agrees Level rank_of 2 step at c l → WellHoisted old run c → (Has e run → 1 ≤ rank_of l) → InsideHoisted old run c s e → 1 ≤ rank_of (at s)
  hoisted_sites at old End l run s g w h i = absurd i
  hoisted_sites at old (Plain v rest) l run s g w h i =
      hoisted_sites at old rest (step v l) (run_after old run v.head) s g.1 w.1 (λ k. run_held old run v.head l w.0 h k) i
  hoisted_sites at old (Branch v yes_block no_block rest) l run s g w h (inl i) = hoisted_sites at old yes_block (step v l) [] s g.1 w.0 (λ k. absurd k) i
  hoisted_sites at old (Branch v yes_block no_block rest) l run s g w h (inr (inl i)) = hoisted_sites at old no_block (step v l) [] s g.2 w.1 (λ k. absurd k) i
  hoisted_sites at old (Branch v yes_block no_block rest) l run s g w h (inr (inr i)) =
      hoisted_sites at old rest (meet Level rank_of (exit Level rank_of 2 step yes_block (step v l)) (exit Level rank_of 2 step no_block (step v l))) [] s g.3 w.2 (λ k. absurd k) i
  hoisted_sites at old (Loop v body rest) l run s g w h i =
      let f = λ (m : Level). exit Level rank_of 2 step body (step v m) in
      let low = meet_of_turns Level rank_of 2 f l in
      ⊎_elim (λ k. go k)
      (⊎_elim (λ k. hoisted_sites at old body (step v low) [] s g.1 w.1 (λ q. absurd q) k) (λ k. hoisted_sites at old rest (step v low) [] s g.2 w.2 (λ q. absurd q) k)) i
    where
      go : Has e run × OccursIn body s → 1 ≤ rank_of (at s)
      go k =
          let keeps = w.0 e k.0 in
          let f = λ (m : Level). exit Level rank_of 2 step body (step v m) in
          let low = meet_of_turns Level rank_of 2 f l in
          let held = kept_turns f (λ m q. kept_exit body (step v m) keeps.1 (keeps.0 m q)) 2 l (h k.0) in
          kept_sites at body (step v low) s g.1 keeps.1 (keeps.0 low held) k.1

pub hoisted_pairs_are_known : HoistedPairsAreKnown
hoisted_pairs_are_known t old site e l w h i m =
    let step = level_step Loads e.x (Reg e.r) in
    let at = λ (n : ℕ). get_or (table Level rank_of 2 step (placed 0 t) Nothing) n Nothing in
    let known = hoisted_sites e at old (placed 0 t) Nothing [] site (agrees-whole Level rank_of 2 step t Nothing Nothing) w (λ k. absurd k) i in
    let least = table_least Level rank_of 2 step (step_monotone Loads e.x (Reg e.r)) rank_bounded t Nothing Nothing site h in
    let same = (are_one Level rank_of step rank_injective (placed 0 t) Nothing l (at site)).0 site m least in
    subst (λ n. 1 ≤ rank_of n) (sym same) known
