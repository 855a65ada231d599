-- The least of what is known after a site over all paths from it, for facts in a chain of at most three.
use Rattle.std.proofs.Common.{◌≡◌, ℕ, zero, suc, ◌≤◌, List, [], ◌∷◌, ◌++◌, refl, sym, ap, ◌∙◌, subst, inl, inr, ⊎_elim, arith}
use Rattle.il_paths.specs.Code.{Visit, Code, End, Plain, Branch, Loop}
use Rattle.il_paths.specs.Paths.{After, Departs}
use Rattle.il_paths.specs.Meets.{fold_backward, IsMeetAfter}
use Rattle.path_meets.specs.Walks.{meet, meet_of_turns, enter}
use Rattle.il_paths.specs.Code.{join}
use Rattle.il_paths.specs.Paths.{RunsTo, here, on, into_yes_block, into_no_block, around, out}
use Rattle.il_paths.proofs.Callers.{runs_more, join-end, after_departs, departs_after}
use Rattle.path_meets.proofs.Forward.{least_is, least_rank, turned_rank, turned_closed, turned_monotone, Occurs}

module _ (L : Type 0) (rank : L → ℕ) (turns : ℕ) (step : Visit → L → L) where
  pub enter-join : (a b : Code) (l : L) → enter L rank turns step (join a b) l ≡ enter L rank turns step a (enter L rank turns step b l)
  enter-join End b l = refl
  enter-join (Plain v rest) b l = ap (step v) (enter-join rest b l)
  enter-join (Branch v s t rest) b l = ap (λ m. step v (meet L rank (enter L rank turns step s m) (enter L rank turns step t m))) (enter-join rest b l)
  enter-join (Loop v body rest) b l = ap (λ m. meet_of_turns L rank turns (λ n. step v (enter L rank turns step body n)) (step v m)) (enter-join rest b l)

  -- the table has at each site what a walk backwards from l finds after it
  abbrev pub AgreesAfter : (ℕ → L) → Code → L → Type 0
  AgreesAfter at End l = Unit {0}
  AgreesAfter at (Plain v rest) l = (at v.site ≡ enter L rank turns step rest l) × AgreesAfter at rest l
  AgreesAfter at (Branch v s t rest) l =
      (at v.site ≡ meet L rank (enter L rank turns step s (enter L rank turns step rest l)) (enter L rank turns step t (enter L rank turns step rest l))) ×
      AgreesAfter at s (enter L rank turns step rest l) × AgreesAfter at t (enter L rank turns step rest l) × AgreesAfter at rest l
  AgreesAfter at (Loop v body rest) l =
      (at v.site ≡ meet L rank (enter L rank turns step rest l) (enter L rank turns step body (enter L rank turns step (Loop v body rest) l))) ×
      AgreesAfter at body (enter L rank turns step (Loop v body rest) l) × AgreesAfter at rest l

  agrees_join : (at : ℕ → L) (a b : Code) (l : L) → AgreesAfter at a (enter L rank turns step b l) → AgreesAfter at b l → AgreesAfter at (join a b) l
  agrees_join at End b l f g = g
  agrees_join at (Plain v rest) b l f g = (f.0 ∙ sym (enter-join rest b l), agrees_join at rest b l f.1 g)
  agrees_join at (Branch v s t rest) b l f g =
      let e = sym (enter-join rest b l) in
      (f.0 ∙ ap (λ m. meet L rank (enter L rank turns step s m) (enter L rank turns step t m)) e, subst (AgreesAfter at s) e f.1, subst (AgreesAfter at t) e f.2, agrees_join at rest b l f.3 g)
  agrees_join at (Loop v body rest) b l f g =
      let e = sym (enter-join rest b l) in
      let loop = λ (m : L). meet_of_turns L rank turns (λ n. step v (enter L rank turns step body n)) (step v m) in
      (f.0 ∙ ap (λ m. meet L rank m (enter L rank turns step body (loop m))) e, subst (AgreesAfter at body) (ap loop e) f.1, agrees_join at rest b l f.2 g)

  agrees_runs : (at : ℕ → L) (c k : Code) (p : List Visit) (l : L) → RunsTo c p k → AgreesAfter at c l → AgreesAfter at k l
  agrees_runs at c k p l here f = f
  agrees_runs at c k (v ∷ p) l (on {rest = r} g) f = agrees_runs at r k p l g f.1
  agrees_runs at c k (v ∷ p) l (into_yes_block {yes_block = t} {rest = r} g) f = agrees_runs at (join t r) k p l g (agrees_join at t r l f.1 f.3)
  agrees_runs at c k (v ∷ p) l (into_no_block {no_block = t} {rest = r} g) f = agrees_runs at (join t r) k p l g (agrees_join at t r l f.2 f.3)
  agrees_runs at c k (v ∷ p) l (around {body = b} {rest = r} g) f = agrees_runs at (join b (Loop v b r)) k p l g (agrees_join at b (Loop v b r) l f.1 f)
  agrees_runs at c k (v ∷ p) l (out {rest = r} g) f = agrees_runs at r k p l g f.2

  pub fold_backward-append : (p q : List Visit) (l : L) → fold_backward step (p ++ q) l ≡ fold_backward step p (fold_backward step q l)
  fold_backward-append [] q l = refl
  fold_backward-append (v ∷ p) q l = ap (step v) (fold_backward-append p q l)

  -- from l after k to what is known before c
  abbrev pub Back : Code → Code → L → L → Type 0
  Back c k l m = (q : List Visit) × RunsTo c q k × (fold_backward step q l ≡ m)

  back_more : (a b c : Code) (l m n : L) → Back a b m n → Back b c l m → Back a c l n
  back_more a b c l m n f g = (f.0 ++ g.0, runs_more f.1 g.1, fold_backward-append f.0 g.0 l ∙ ap (fold_backward step f.0) g.2 ∙ f.2)

  turned_back : (c : Code) (f : L → L) → ((m : L) → Back c c m (f m)) → (n : ℕ) (l : L) → Back c c l (meet_of_turns L rank n f l)
  turned_back c f turn zero l = ([], here, refl)
  turned_back c f turn (suc n) l =
      let t = meet_of_turns L rank n f (f l) in
      ⊎_elim (λ g. ([], here, sym g.0))
      (λ g. let h = back_more c c c l (f l) t (turned_back c f turn n (f l)) (turn l) in (h.0, h.1, h.2 ∙ sym g.0))
      (least_is L rank l t)

  -- what the walk finds before code is found by a path
  pub enter_back : (c k : Code) (l : L) → Back (join c k) k l (enter L rank turns step c l)
  enter_back End k l = ([], here, refl)
  enter_back (Plain v rest) k l = let r = enter_back rest k l in (v ∷ r.0, on r.1, ap (step v) r.2)
  enter_back (Branch v s t rest) k l =
      let c = join rest k in
      let m = enter L rank turns step rest l in
      let r = enter_back rest k l in
      ⊎_elim
      (λ h. let g = back_more (join s c) c k l m _ (enter_back s c m) r in (v ∷ g.0, into_yes_block g.1, ap (step v) (g.2 ∙ sym h.0)))
      (λ h. let g = back_more (join t c) c k l m _ (enter_back t c m) r in (v ∷ g.0, into_no_block g.1, ap (step v) (g.2 ∙ sym h.0)))
      (least_is L rank (enter L rank turns step s m) (enter L rank turns step t m))
  enter_back (Loop v body rest) k l =
      let c = join rest k in
      let whole = Loop v body c in
      let r = enter_back rest k l in
      let start = step v (enter L rank turns step rest l) in
      let t = turned_back whole (λ n. step v (enter L rank turns step body n)) (λ m. let g = enter_back body whole m in (v ∷ g.0, around g.1, ap (step v) g.2)) turns start in
      back_more whole whole k l start _ t (v ∷ r.0, out r.1, ap (step v) r.2)

  -- a path from the site on ends with this
  abbrev pub Leaves : Code → ℕ → L → L → Type 0
  Leaves c s l m = (q : List Visit) × Departs c s q × (fold_backward step q l ≡ m)

  leaves_more : (a b : Code) (p : List Visit) (s : ℕ) (l m : L) → RunsTo a p b → Leaves b s l m → Leaves a s l m
  leaves_more a b p s l m f g =
      let h = g.1 in (g.0, record { before = p ++ h.before; continuation = h.continuation; visit = h.visit; run = runs_more f h.run; at = h.at; ends = h.ends }, g.2)

  leaves_now : (c d : Code) (v : Visit) (s : ℕ) (l m n : L) → v.site ≡ s → ((q : List Visit) → RunsTo d q End → RunsTo c (v ∷ q) End) → Back d End l n → n ≡ m → Leaves c s l m
  leaves_now c d v s l m n e f b h = (b.0, record { before = []; continuation = c; visit = v; run = here; at = e; ends = f b.0 b.1 }, b.2 ∙ h)

  pub full_back : (d : Code) (l : L) → Back d End l (enter L rank turns step d l)
  full_back d l = let b = enter_back d End l in (b.0, subst (λ e. RunsTo e b.0 End) (join-end d) b.1, b.2)

  -- what an agreeing table has at a site is found by a path from there on
  pub agrees_leaves : (at : ℕ → L) (c k : Code) (l : L) (s : ℕ) → AgreesAfter at c (enter L rank turns step k l) → Occurs L rank turns step c s → Leaves (join c k) s l (at s)
  agrees_leaves at End k l s g o = absurd o
  agrees_leaves at (Plain v rest) k l s g (inl e) =
      let d = join rest k in
      leaves_now (Plain v d) d v s l (at s) _ e (λ q h. on h) (full_back d l) (enter-join rest k l ∙ sym g.0 ∙ ap at e)
  agrees_leaves at (Plain v rest) k l s g (inr o) = leaves_more (Plain v (join rest k)) (join rest k) (v ∷ []) s l (at s) (on here) (agrees_leaves at rest k l s g.1 o)
  agrees_leaves at (Branch v p t rest) k l s g (inl e) =
      let d = join rest k in
      let same = enter-join rest k l in
      ⊎_elim
      (λ h. leaves_now (Branch v p t d) (join p d) v s l (at s) _ e (λ q f. into_yes_block f) (full_back (join p d) l) (enter-join p d l ∙ ap (enter L rank turns step p) same ∙ sym h.0 ∙ sym g.0 ∙ ap at e))
      (λ h. leaves_now (Branch v p t d) (join t d) v s l (at s) _ e (λ q f. into_no_block f) (full_back (join t d) l) (enter-join t d l ∙ ap (enter L rank turns step t) same ∙ sym h.0 ∙ sym g.0 ∙ ap at e))
      (least_is L rank (enter L rank turns step p (enter L rank turns step rest (enter L rank turns step k l))) (enter L rank turns step t (enter L rank turns step rest (enter L rank turns step k l))))
  agrees_leaves at (Branch v p t rest) k l s g (inr (inl o)) =
      let d = join rest k in
      leaves_more (Branch v p t d) (join p d) (v ∷ []) s l (at s) (into_yes_block here) (agrees_leaves at p d l s (subst (AgreesAfter at p) (sym (enter-join rest k l)) g.1) o)
  agrees_leaves at (Branch v p t rest) k l s g (inr (inr (inl o))) =
      let d = join rest k in
      leaves_more (Branch v p t d) (join t d) (v ∷ []) s l (at s) (into_no_block here) (agrees_leaves at t d l s (subst (AgreesAfter at t) (sym (enter-join rest k l)) g.2) o)
  agrees_leaves at (Branch v p t rest) k l s g (inr (inr (inr o))) =
      let d = join rest k in
      let b = enter_back p d l in
      leaves_more (Branch v p t d) d (v ∷ b.0) s l (at s) (into_yes_block b.1) (agrees_leaves at rest k l s g.3 o)
  agrees_leaves at (Loop v body rest) k l s g (inl e) =
      let d = join rest k in
      let whole = Loop v body d in
      let same = enter-join rest k l in
      ⊎_elim
      (λ h. leaves_now whole d v s l (at s) _ e (λ q f. out f) (full_back d l) (same ∙ sym h.0 ∙ sym g.0 ∙ ap at e))
      (λ h. leaves_now whole (join body whole) v s l (at s) _ e (λ q f. around f) (full_back (join body whole) l) (enter-join body whole l ∙ ap (enter L rank turns step body) (enter-join (Loop v body rest) k l) ∙ sym h.0 ∙ sym g.0 ∙ ap at e))
      (least_is L rank (enter L rank turns step rest (enter L rank turns step k l)) (enter L rank turns step body (enter L rank turns step (Loop v body rest) (enter L rank turns step k l))))
  agrees_leaves at (Loop v body rest) k l s g (inr (inl o)) =
      let whole = Loop v body (join rest k) in
      leaves_more whole (join body whole) (v ∷ []) s l (at s) (around here) (agrees_leaves at body whole l s (subst (AgreesAfter at body) (sym (enter-join (Loop v body rest) k l)) g.1) o)
  agrees_leaves at (Loop v body rest) k l s g (inr (inr o)) =
      leaves_more (Loop v body (join rest k)) (join rest k) (v ∷ []) s l (at s) (out here) (agrees_leaves at rest k l s g.2 o)

module _ (L : Type 0) (rank : L → ℕ) (turns : ℕ) (step : Visit → L → L) (monotone : (v : Visit) (a b : L) → rank a ≤ rank b → rank (step v a) ≤ rank (step v b)) (bounded : (a : L) → rank a ≤ turns) where
  pub enter_monotone : (c : Code) (a b : L) → rank a ≤ rank b → rank (enter L rank turns step c a) ≤ rank (enter L rank turns step c b)
  enter_monotone End a b h = h
  enter_monotone (Plain v rest) a b h = monotone v _ _ (enter_monotone rest a b h)
  enter_monotone (Branch v s t rest) a b h =
      let r = enter_monotone rest a b h in
      let ma = enter L rank turns step rest a in
      let mb = enter L rank turns step rest b in
      let low = least_rank L rank (enter L rank turns step s ma) (enter L rank turns step t ma) in
      let e = enter_monotone s ma mb r in
      let f = enter_monotone t ma mb r in
      let up = least_rank L rank (enter L rank turns step s mb) (enter L rank turns step t mb) in
      monotone v _ _ (⊎_elim (λ k. let q = ap rank k.0 in omega (arith, low)) (λ k. let q = ap rank k.0 in omega (arith, low)) (least_is L rank (enter L rank turns step s mb) (enter L rank turns step t mb)))
  enter_monotone (Loop v body rest) a b h =
      turned_monotone L rank (λ m. step v (enter L rank turns step body m)) (λ m n g. monotone v _ _ (enter_monotone body m n g)) turns _ _ (monotone v _ _ (enter_monotone rest a b h))

  -- before code nothing is above what a path makes of the end
  pub enter_below : (k : Code) (q : List Visit) (l : L) → RunsTo k q End → rank (enter L rank turns step k l) ≤ rank (fold_backward step q l)
  enter_below k q l here = omega arith
  enter_below k (v ∷ q) l (on {rest = r} f) = monotone v _ _ (enter_below r q l f)
  enter_below k (v ∷ q) l (into_yes_block {yes_block = s} {no_block = t} {rest = r} f) =
      let h = enter_below (join s r) q l f in
      let e = ap rank (enter-join L rank turns step s r l) in
      let m = enter L rank turns step r l in
      let low = least_rank L rank (enter L rank turns step s m) (enter L rank turns step t m) in
      monotone v _ _ (omega (arith, low))
  enter_below k (v ∷ q) l (into_no_block {yes_block = s} {no_block = t} {rest = r} f) =
      let h = enter_below (join t r) q l f in
      let e = ap rank (enter-join L rank turns step t r l) in
      let m = enter L rank turns step r l in
      let low = least_rank L rank (enter L rank turns step s m) (enter L rank turns step t m) in
      monotone v _ _ (omega (arith, low))
  enter_below k (v ∷ q) l (around {body = b} {rest = r} f) =
      let h = enter_below (join b (Loop v b r)) q l f in
      let e = ap rank (enter-join L rank turns step b (Loop v b r) l) in
      let turn = λ (m : L). step v (enter L rank turns step b m) in
      let closed = turned_closed L rank turn (λ m n g. monotone v _ _ (enter_monotone b m n g)) turns (step v (enter L rank turns step r l)) (bounded (step v (enter L rank turns step r l))) in
      let up = monotone v (enter L rank turns step b (enter L rank turns step (Loop v b r) l)) (fold_backward step q l) (omega arith) in
      omega (arith, closed, up)
  enter_below k (v ∷ q) l (out {body = b} {rest = r} f) =
      let h = monotone v _ _ (enter_below r q l f) in
      let low = turned_rank L rank (λ m. step v (enter L rank turns step b m)) turns (step v (enter L rank turns step r l)) in
      omega arith

  next_below : (at : ℕ → L) (k : Code) (v : Visit) (q : List Visit) (l : L) → AgreesAfter L rank turns step at k l → RunsTo k (v ∷ q) End → rank (at v.site) ≤ rank (fold_backward step q l)
  next_below at k v q l g (on {rest = r} f) = let h = enter_below r q l f in let e = ap rank g.0 in omega arith
  next_below at k v q l g (into_yes_block {yes_block = s} {no_block = t} {rest = r} f) =
      let h = enter_below (join s r) q l f in
      let e = ap rank (enter-join L rank turns step s r l) in
      let m = enter L rank turns step r l in
      let low = least_rank L rank (enter L rank turns step s m) (enter L rank turns step t m) in
      let d = ap rank g.0 in omega (arith, low)
  next_below at k v q l g (into_no_block {yes_block = s} {no_block = t} {rest = r} f) =
      let h = enter_below (join t r) q l f in
      let e = ap rank (enter-join L rank turns step t r l) in
      let m = enter L rank turns step r l in
      let low = least_rank L rank (enter L rank turns step s m) (enter L rank turns step t m) in
      let d = ap rank g.0 in omega (arith, low)
  next_below at k v q l g (around {body = b} {rest = r} f) =
      let h = enter_below (join b (Loop v b r)) q l f in
      let e = ap rank (enter-join L rank turns step b (Loop v b r) l) in
      let low = least_rank L rank (enter L rank turns step r l) (enter L rank turns step b (enter L rank turns step (Loop v b r) l)) in
      let d = ap rank g.0 in omega (arith, low)
  next_below at k v q l g (out {body = b} {rest = r} f) =
      let h = enter_below r q l f in
      let low = least_rank L rank (enter L rank turns step r l) (enter L rank turns step b (enter L rank turns step (Loop v b r) l)) in
      let d = ap rank g.0 in omega (arith, low)

  -- An agreeing table has the least over all paths from each site of the code.
  pub agrees_least_after : (at : ℕ → L) (c : Code) (l : L) (s : ℕ) → AgreesAfter L rank turns step at c l → Occurs L rank turns step c s → IsMeetAfter rank step l c s (at s)
  agrees_least_after at c l s g o =
      let r = agrees_leaves L rank turns step at c End l s g o in
      let h = subst (λ d. Departs d s r.0) (join-end c) r.1 in
      record {
        below = λ q a. let w = after_departs c s q a in subst (λ n. rank (at n) ≤ rank (fold_backward step q l)) w.at (next_below at w.continuation w.visit q l (agrees_runs L rank turns step at c w.continuation w.before l w.run g) w.ends);
        reached = (r.0, departs_after c s r.0 h, r.2);
      }
