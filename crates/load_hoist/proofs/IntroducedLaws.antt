-- What introduction makes keeps the pairs of its loads.
use Rattle.std.proofs.Common.{◌≡◌, ◌≤◌, ◌<◌, ℕ, zero, suc, ◌+◌, Bool, true, false, cond, leb, not, ◌==◌, ◌&&◌, ◌||◌, List, [], ◌∷◌, ◌++◌, map, length, length-append, refl, sym, ◌∙◌, subst, ⊎_elim, arith}
use Rattle.std.specs.List.{list_any}
use Rattle.std.proofs.lemmas.Bool.{eqb-true, false≢true, leb-true, leb-false, and_parts, not-true, or_parts}
use Rattle.std.proofs.lemmas.List.Folds.{list_any-append}
use Rattle.il_syntax.specs.declared.statement.Atom.{Atom}
use Rattle.il_syntax.specs.declared.statement.Stmt.TheOpen.{Skip, Copy, Compute, Load, Store, AtomicLoad, AtomicStore, Update, Fence, Print, If, While, Call}
use Rattle.il_syntax.specs.Statements.{Head}
use Rattle.il_paths.specs.Heads.{is_acquire, is_release}
use Rattle.il_paths.specs.Tree.{head_of_leaf, Tree, Empty, Then, IfThen, WhileThen, heads_in, sites_of}
use Rattle.il_paths.specs.Code.{placed, AllHeads}
use Rattle.il_paths.proofs.Callers.{all_placed}
use Rattle.flow_facts.specs.declared.level.Level.{Level}
use Rattle.flow_facts.specs.declared.level.Level.TheVariants.{Nothing, Held, Fresh}
use Rattle.flow_facts.specs.declared.transfer.Transfer.{Transfer}
use Rattle.flow_facts.specs.declared.transfer.Transfer.TheVariants.{Keeps, Becomes}
use Rattle.flow_facts.specs.Levels.{rank_of, after_transfer, synchronised}
use Rattle.load_hoist.specs.declared.growth.Extra.{Extra}
use Rattle.load_hoist.specs.declared.growth.Growth.{Growth}
use Rattle.load_hoist.specs.Introduced.{loads, forbids, is_wanted, may_grow, hoisted_name, next_number, grown, extras, put_loads, introduced}
use Rattle.load_hoist.specs.Hoisted.{Has, run_after, KeepsPair, WellHoisted}
use Rattle.load_hoist.specs.Laws.{GivesBelow, IntroducedIsWellHoisted}

above_not : (a b : ℕ) → a < b → (b == a) ≡ false
above_not a b h = go (b == a) refl
  where
    go : (t : Bool) → (b == a) ≡ t → t ≡ false
    go true e = let same = eqb-true b a e in absurd (omega arith)
    go false e = refl

below_not : (a b : ℕ) → a < b → (a == b) ≡ false
below_not a b h = go (a == b) refl
  where
    go : (t : Bool) → (a == b) ≡ t → t ≡ false
    go true e = let same = eqb-true a b e in absurd (omega arith)
    go false e = refl

-- no statement passes the test
unforbidden : (p : Head → Bool) (t : Tree) → list_any p (heads_in t) ≡ false → AllHeads (λ h. p h ≡ false) t
unforbidden p Empty e = tt
unforbidden p (Then leaf rest) e = let q = or_parts (p (head_of_leaf leaf)) (list_any p (heads_in rest)) e in (q.0, unforbidden p rest q.1)
unforbidden p (IfThen a y n rest) e =
    let q = or_parts (p (If a tt tt)) (list_any p (heads_in y ++ (heads_in n ++ heads_in rest))) e in
    let r = or_parts (list_any p (heads_in y)) (list_any p (heads_in n ++ heads_in rest)) (sym (list_any-append p (heads_in y) (heads_in n ++ heads_in rest)) ∙ q.1) in
    let s = or_parts (list_any p (heads_in n)) (list_any p (heads_in rest)) (sym (list_any-append p (heads_in n) (heads_in rest)) ∙ r.1) in
    (q.0, unforbidden p y r.0, unforbidden p n s.0, unforbidden p rest s.1)
unforbidden p (WhileThen a body rest) e =
    let q = or_parts (p (While a tt)) (list_any p (heads_in body ++ heads_in rest)) e in
    let r = or_parts (list_any p (heads_in body)) (list_any p (heads_in rest)) (sym (list_any-append p (heads_in body) (heads_in rest)) ∙ q.1) in
    (q.0, unforbidden p body r.0, unforbidden p rest r.1)

both_heads : (P Q R : Head → Type 0) → ((h : Head) → P h → Q h → R h) → (t : Tree) → AllHeads P t → AllHeads Q t → AllHeads R t
both_heads P Q R f Empty p q = tt
both_heads P Q R f (Then leaf rest) p q = (f (head_of_leaf leaf) p.0 q.0, both_heads P Q R f rest p.1 q.1)
both_heads P Q R f (IfThen a y n rest) p q = (f (If a tt tt) p.0 q.0, both_heads P Q R f y p.1 q.1, both_heads P Q R f n p.2 q.2, both_heads P Q R f rest p.3 q.3)
both_heads P Q R f (WhileThen a body rest) p q = (f (While a tt) p.0 q.0, both_heads P Q R f body p.1 q.1, both_heads P Q R f rest p.2 q.2)

-- what isn't forbidden and gives no new register keeps the pair

kept_losing : (p : Bool) (t : Transfer) (l : Level) → p ≡ false → 1 ≤ rank_of (after_transfer t l) → 1 ≤ rank_of (after_transfer (cond p (Becomes Nothing) t) l)
kept_losing true t l e h = absurd (false≢true (sym e))
kept_losing false t l e h = h

kept_synchronised : (acquires releases : Bool) (l : Level) → acquires ≡ false → 1 ≤ rank_of l → 1 ≤ rank_of (after_transfer (synchronised acquires releases) l)
kept_synchronised true r l e h = absurd (false≢true (sym e))
kept_synchronised false false l e h = h
kept_synchronised false true Nothing e h = h
kept_synchronised false true Held e h = h
kept_synchronised false true Fresh e h = omega arith

kept_load : (p q : Bool) (l : Level) → p ≡ false → 1 ≤ rank_of l → 1 ≤ rank_of (after_transfer (cond p (cond (q && true) (Becomes Held) (Becomes Nothing)) Keeps) l)
kept_load true q l e h = absurd (false≢true (sym e))
kept_load false q l e h = h

kept_store : (p q : Bool) (l : Level) → p ≡ false → 1 ≤ rank_of l → 1 ≤ rank_of (after_transfer (cond p (cond (q && false) (Becomes Fresh) (Becomes Nothing)) Keeps) l)
kept_store true q l e h = absurd (false≢true (sym e))
kept_store false q l e h = h

keeps_head : (old : ℕ) (e : Extra) → old ≤ e.r → (head : Head) → GivesBelow old head → forbids e.x head ≡ false → KeepsPair e head
keeps_head old e b Skip g f l h = h
keeps_head old e b (Copy r a) g f l h = kept_losing (e.r == r) Keeps l (above_not r e.r (omega arith)) h
keeps_head old e b (Compute r op p q) g f l h = kept_losing (e.r == r) Keeps l (above_not r e.r (omega arith)) h
keeps_head old e b (Load r y) g f l h = kept_load (e.r == r) (y == e.x) l (above_not r e.r (omega arith)) h
keeps_head old e b (Store y a) g f l h = kept_store (y == e.x) _ l f h
keeps_head old e b (AtomicLoad r order y) g f l h =
    kept_losing (e.r == r) (synchronised (is_acquire (AtomicLoad r order y)) (is_release (AtomicLoad r order y))) l (above_not r e.r (omega arith)) (kept_synchronised (is_acquire (AtomicLoad r order y)) (is_release (AtomicLoad r order y)) l f h)
keeps_head old e b (AtomicStore order y a) g f l h = kept_synchronised (is_acquire (AtomicStore order y a)) (is_release (AtomicStore order y a)) l f h
keeps_head old e b (Update r order y kind) g f l h =
    kept_losing (e.r == r) (synchronised (is_acquire (Update r order y kind)) (is_release (Update r order y kind))) l (above_not r e.r (omega arith)) (kept_synchronised (is_acquire (Update r order y kind)) (is_release (Update r order y kind)) l f h)
keeps_head old e b (Fence order) g f l h = kept_synchronised (is_acquire (Fence order)) (is_release (Fence order)) l f h
keeps_head old e b (Print a) g f l h = h
keeps_head old e b (If a p q) g f l h = h
keeps_head old e b (While a p) g f l h = h
keeps_head old e b (Call r function args) g f l h = absurd (false≢true (sym f))

keeps_load : (e : Extra) (r x : ℕ) → e.r < r → KeepsPair e (Load r x)
keeps_load e r x b l h = kept_load (e.r == r) (x == e.x) l (below_not e.r r b) h

-- The loads before one loop: registers rise, and each is wanted.
abbrev Put : Tree → ℕ → ℕ → List Extra → Type 0
Put body from to [] = from ≤ to
Put body from to (e ∷ es) = (from ≤ e.r) × (is_wanted e.x body ≡ true) × Put body (e.r + 1) to es

put_below : (body : Tree) (from to : ℕ) (es : List Extra) → Put body from to es → from ≤ to
put_below body from to [] p = p
put_below body from to (e ∷ es) p = let q = put_below body (e.r + 1) to es p.2 in omega (arith, p.0)

put_from : (body : Tree) (from more to : ℕ) (es : List Extra) → more ≤ from → Put body from to es → Put body more to es
put_from body from more to [] h p = omega arith
put_from body from more to (e ∷ es) h p = (omega (arith, p.0), p.1, p.2)

extras_put : (names : List (List ℕ)) (body : Tree) (inside : List ℕ) (n x : ℕ) (g : Growth) → Put body (length g.registers) (length (extras names body inside n x g).1.registers) (extras names body inside n x g).0
extras_put names body inside zero x g = omega arith
extras_put names body inside (suc n) x g =
    go (is_wanted x body && (not (list_any (λ y. y == x) inside) && may_grow g)) refl (extras_put names body inside n (x + 1) (grown names g)) (extras_put names body inside n (x + 1) g)
  where
    go : (t : Bool) → (is_wanted x body && (not (list_any (λ y. y == x) inside) && may_grow g)) ≡ t →
        Put body (length (grown names g).registers) (length (extras names body inside n (x + 1) (grown names g)).1.registers) (extras names body inside n (x + 1) (grown names g)).0 →
        Put body (length g.registers) (length (extras names body inside n (x + 1) g).1.registers) (extras names body inside n (x + 1) g).0 →
        (let r = cond t (let more = extras names body inside n (x + 1) (grown names g) in (record { r = length g.registers; x = x } ∷ more.0, more.1)) (extras names body inside n (x + 1) g) in Put body (length g.registers) (length r.1.registers) r.0)
    go true e more same =
        let long = length-append g.registers (hoisted_name (next_number names g) ∷ []) in
        (omega arith, (and_parts (is_wanted x body) (not (list_any (λ y. y == x) inside) && may_grow g) e).0, put_from body (length (grown names g).registers) (length g.registers + 1) (length (extras names body inside n (x + 1) (grown names g)).1.registers) (extras names body inside n (x + 1) (grown names g)).0 (omega (arith, long)) more)
    go false e more same = same

module _ (na : ℕ) (names : List (List ℕ)) where
  grows : (t : Tree) (inside : List ℕ) (g : Growth) → length g.registers ≤ length (introduced na names t inside g).1.registers
  grows Empty inside g = omega arith
  grows (Then leaf rest) inside g = grows rest inside g
  grows (IfThen a y n rest) inside g =
      let one = introduced na names y inside g in
      let other = introduced na names n inside one.1 in
      omega (arith, grows y inside g, grows n inside one.1, grows rest inside other.1)
  grows (WhileThen a body rest) inside g =
      let put = extras names body inside na 0 g in
      let within = map (λ (e : Extra). e.x) put.0 ++ inside in
      let turn = introduced na names body within put.1 in
      omega (arith, put_below body _ _ put.0 (extras_put names body inside na 0 g), grows body within put.1, grows rest inside turn.1)

  all_put : (P : Head → Type 0) (body : Tree) (from to : ℕ) (es : List Extra) (rest : Tree) → Put body from to es → ((r x : ℕ) → from ≤ r → P (Load r x)) → AllHeads P rest → AllHeads P (put_loads es rest)
  all_put P body from to [] rest p new all = all
  all_put P body from to (e ∷ es) rest p new all =
      (new e.r e.x p.0, all_put P body (e.r + 1) to es rest p.2 (λ r x h. new r x (omega (arith, p.0))) all)

  -- what holds of the old statements and of the new loads holds of each
  all_introduced : (P : Head → Type 0) (t : Tree) (inside : List ℕ) (g : Growth) → AllHeads P t → ((r x : ℕ) → length g.registers ≤ r → P (Load r x)) → AllHeads P (introduced na names t inside g).0
  all_introduced P Empty inside g all new = tt
  all_introduced P (Then leaf rest) inside g all new = (all.0, all_introduced P rest inside g all.1 new)
  all_introduced P (IfThen a y n rest) inside g all new =
      let one = introduced na names y inside g in
      let other = introduced na names n inside one.1 in
      let g1 = grows y inside g in
      let g2 = grows n inside one.1 in
      (all.0, all_introduced P y inside g all.1 new, all_introduced P n inside one.1 all.2 (λ r x h. new r x (omega (arith, g1))), all_introduced P rest inside other.1 all.3 (λ r x h. new r x (omega (arith, g1, g2))))
  all_introduced P (WhileThen a body rest) inside g all new =
      let put = extras names body inside na 0 g in
      let p = extras_put names body inside na 0 g in
      let within = map (λ (e : Extra). e.x) put.0 ++ inside in
      let turn = introduced na names body within put.1 in
      let g1 = put_below body _ _ put.0 p in
      let g2 = grows body within put.1 in
      all_put P body (length g.registers) (length put.1.registers) put.0 _ p new
      (all.0, all_introduced P body within put.1 all.1 (λ r x h. new r x (omega (arith, g1))), all_introduced P rest inside turn.1 all.2 (λ r x h. new r x (omega (arith, g1, g2))))

  -- an old statement begins a new run
  old_run : (old : ℕ) (run : List Extra) (head : Head) → GivesBelow old head → run_after old run head ≡ []
  old_run old run Skip b = refl
  old_run old run (Copy r a) b = refl
  old_run old run (Compute r op p q) b = refl
  old_run old run (Load r x) b = go (leb old r) refl
    where
      go : (t : Bool) → leb old r ≡ t → cond t (record { r = r; x = x } ∷ run) [] ≡ []
      go true e = let h = leb-true old r e in absurd (omega arith)
      go false e = refl
  old_run old run (Store x a) b = refl
  old_run old run (AtomicLoad r order y) b = refl
  old_run old run (AtomicStore order y a) b = refl
  old_run old run (Update r order y kind) b = refl
  old_run old run (Fence order) b = refl
  old_run old run (Print a) b = refl
  old_run old run (If a p q) b = refl
  old_run old run (While a p) b = refl
  old_run old run (Call r function args) b = refl

  new_run : (old r x : ℕ) (run : List Extra) → old ≤ r → run_after old run (Load r x) ≡ record { r = r; x = x } ∷ run
  new_run old r x run h = go (leb old r) refl
    where
      go : (t : Bool) → leb old r ≡ t → cond t (record { r = r; x = x } ∷ run) [] ≡ record { r = r; x = x } ∷ run
      go true e = refl
      go false e = let k = leb-false old r e in absurd (omega arith)

  -- the loads before one loop
  well_put : (old : ℕ) (body : Tree) (to : ℕ) (a : Atom) (turn more : Tree) → ((e : Extra) → old ≤ e.r → e.r < to → is_wanted e.x body ≡ true → AllHeads (KeepsPair e) turn) → ((m : ℕ) → WellHoisted old [] (placed m turn)) → ((m : ℕ) → WellHoisted old [] (placed m more)) →
      (es : List Extra) (from n : ℕ) (run : List Extra) → old ≤ from → Put body from to es → ((e : Extra) → Has e run → (e.r < from) × AllHeads (KeepsPair e) turn) → WellHoisted old run (placed n (put_loads es (WhileThen a turn more)))
  well_put old body to a turn more keeps wt wm [] from n run o p before =
      (λ e h. (λ l k. k, all_placed (KeepsPair e) (n + 1) turn (before e h).1), wt (n + 1), wm (n + 1 + sites_of turn))
  well_put old body to a turn more keeps wt wm (e ∷ es) from n run o p before =
      let last = put_below body (e.r + 1) to es p.2 in (
        λ f h k. keeps_load f e.r e.x (let b = (before f h).0 in omega (arith, p.0)),
        subst (λ (r : List Extra). WellHoisted old r (placed (n + 1) (put_loads es (WhileThen a turn more)))) (sym (new_run old e.r e.x run (omega (arith, p.0))))
            (well_put old body to a turn more keeps wt wm es (e.r + 1) (n + 1) (e ∷ run) (omega (arith, p.0)) p.2
            (λ f h. ⊎_elim
            (λ same. subst (λ (d : Extra). (d.r < e.r + 1) × AllHeads (KeepsPair d) turn) (sym same) (omega arith, keeps e (omega (arith, p.0)) (omega (arith, last)) p.1))
            (λ k. let b = before f k in (let c = b.0 in omega (arith, p.0), b.1)) h)),
      )

  well : (old : ℕ) (t : Tree) (inside : List ℕ) (g : Growth) → old ≤ length g.registers → AllHeads (GivesBelow old) t → (n : ℕ) → WellHoisted old [] (placed n (introduced na names t inside g).0)
  well old Empty inside g o all n = tt
  well old (Then leaf rest) inside g o all n =
      (λ e h. absurd h, subst (λ (r : List Extra). WellHoisted old r (placed (n + 1) (introduced na names rest inside g).0)) (sym (old_run old [] (head_of_leaf leaf) all.0)) (well old rest inside g o all.1 (n + 1)))
  well old (IfThen a y m rest) inside g o all n =
      let one = introduced na names y inside g in
      let other = introduced na names m inside one.1 in
      let g1 = grows y inside g in
      let g2 = grows m inside one.1 in
      (well old y inside g o all.1 (n + 1), well old m inside one.1 (omega (arith, g1)) all.2 (n + 1 + sites_of one.0), well old rest inside other.1 (omega (arith, g1, g2)) all.3 (n + 1 + sites_of one.0 + sites_of other.0))
  well old (WhileThen a body rest) inside g o all n =
      let put = extras names body inside na 0 g in
      let p = extras_put names body inside na 0 g in
      let within = map (λ (e : Extra). e.x) put.0 ++ inside in
      let turn = introduced na names body within put.1 in
      let more = introduced na names rest inside turn.1 in
      let g1 = put_below body (length g.registers) (length put.1.registers) put.0 p in
      let g2 = grows body within put.1 in
      well_put old body (length put.1.registers) a turn.0 more.0
      (λ e b below wanted. all_introduced (KeepsPair e) body within put.1
      (both_heads (GivesBelow old) (λ h. forbids e.x h ≡ false) (KeepsPair e) (λ h gives f. keeps_head old e b h gives f) body all.1 (unforbidden (forbids e.x) body (not-true (list_any (forbids e.x) (heads_in body)) (and_parts (list_any (loads e.x) (heads_in body)) (not (list_any (forbids e.x) (heads_in body))) wanted).1)))
      (λ r x h. keeps_load e r x (omega arith)))
      (λ m. well old body within put.1 (omega (arith, g1)) all.1 m)
      (λ m. well old rest inside turn.1 (omega (arith, g1, g2)) all.2 m)
      put.0 (length g.registers) n [] o p (λ e h. absurd h)

pub introduced_is_well_hoisted : IntroducedIsWellHoisted
introduced_is_well_hoisted na names t g all = well na names (length g.registers) t [] g (omega arith) all 0
