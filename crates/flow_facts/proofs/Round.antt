-- Rounds over code with a table that is kept, until it falls no more: what is left is the meet over all
-- paths at each site.
use Rattle.std.proofs.Common.{◌≡◌, ℕ, ◌<◌, ◌≤◌, List, length, get_or, set, sum_by, refl, sym, ap, ◌∙◌, subst, ◌⊎◌, inl, inr, ⊎_elim, arith}
use Rattle.std.proofs.lemmas.Bool.{cases_eq}
use Rattle.std.proofs.lemmas.List.{length-set, get_or-set_same, get_or-set_other, set-get_or, get_or_default}
use Rattle.std.proofs.lemmas.List.Sums.{sum_by-set}
use Rattle.il_paths.specs.Tree.{Tree, sites_of}
use Rattle.il_paths.specs.Code.{Visit, Code, End, Plain, Branch, Loop, placed}
use Rattle.il_paths.specs.Meets.{IsMeetBefore}
use Rattle.path_meets.specs.Walks.{meet, exit, table}
use Rattle.path_meets.proofs.Callers.{least_is, least_rank, least_above, IsPostFixpoint, fits_below, fits_less, agrees_fits, Inside, inside-placed, agrees-whole, table_least}
use Rattle.flow_facts.specs.Rounds.{brought, round}

module _ (L : Type 0) (rank : L → ℕ) where
  -- the ranks of a table together
  abbrev pub weight : List L → ℕ
  weight = sum_by rank

  -- a table is as it was, or weighs less
  abbrev pub Falls : List L → List L → Type 0
  Falls a b = (b ≡ a) ⊎ (weight b < weight a)

  pub falls_weight : (a b : List L) → Falls a b → weight b ≤ weight a
  falls_weight a b h = ⊎_elim (λ e. let w = ap weight e in omega arith) (λ w. omega arith) h

  pub falls_on : (a b c : List L) → Falls a b → Falls b c → Falls a c
  falls_on a b c f g =
      ⊎_elim (λ e. ⊎_elim (λ e'. inl (e' ∙ e)) (λ w. let w' = ap weight e in inr (omega arith)) g) (λ w. let w' = falls_weight b c g in inr (omega arith)) f

  -- what ends where it began did not fall on the way
  pub falls_back : (a b c : List L) → Falls a b → Falls b c → c ≡ a → b ≡ a
  falls_back a b c f g e = ⊎_elim (λ h. h) (λ w. let w' = falls_weight b c g in let w'' = ap weight e in absurd (omega arith)) f

  -- the table is nowhere below another
  abbrev pub Above : (ℕ → L) → L → List L → Type 0
  Above exact d kept = (n : ℕ) → n < length kept → rank (exact n) ≤ rank (get_or kept n d)

  -- one entry brought down
  pub brought_rank : (kept : List L) (s : ℕ) (l : L) → rank (brought L rank kept s l) ≤ rank l
  brought_rank kept s l = (least_rank L rank (get_or kept s l) l).1

  pub brought_falls : (kept : List L) (s : ℕ) (l : L) → s < length kept → Falls kept (set kept s (brought L rank kept s l))
  brought_falls kept s l h =
      let m = brought L rank kept s l in
      let w = sum_by-set rank kept s m l h in
      ⊎_elim (λ e. inl (ap (set kept s) e.0 ∙ set-get_or kept s l)) (λ e. inr (let r = ap rank e.0 in omega arith)) (least_is L rank (get_or kept s l) l)

  -- after it the entry is what was brought
  pub brought_at : (kept : List L) (s : ℕ) (l d : L) → s < length kept → get_or (set kept s (brought L rank kept s l)) s d ≡ brought L rank kept s l
  brought_at kept s l d h = get_or-set_same kept s _ d h

module _ (L : Type 0) (rank : L → ℕ) (step : Visit → L → L) where
  pub round_length : (c : Code) (kept : List L) (l : L) → length (round L rank step c kept l).0 ≡ length kept
  round_length End kept l = refl
  round_length (Plain v rest) kept l =
      let m = brought L rank kept v.site l in
      round_length rest (set kept v.site m) (step v m) ∙ length-set kept v.site m
  round_length (Branch v a b rest) kept l =
      let m = brought L rank kept v.site l in
      let one = round L rank step a (set kept v.site m) (step v m) in
      let two = round L rank step b one.0 (step v m) in
      round_length rest two.0 (meet L rank one.1 two.1) ∙ round_length b one.0 (step v m) ∙ round_length a (set kept v.site m) (step v m) ∙ length-set kept v.site m
  round_length (Loop v a rest) kept l =
      let m = brought L rank kept v.site l in
      let turn = round L rank step a (set kept v.site m) (step v m) in
      let n = brought L rank turn.0 v.site turn.1 in
      round_length rest (set turn.0 v.site n) (step v n) ∙ length-set turn.0 v.site n ∙ round_length a (set kept v.site m) (step v m) ∙ length-set kept v.site m

  -- a round leaves the table or makes it lighter
  pub round_falls : (size : ℕ) (c : Code) (kept : List L) (l : L) → Inside size c → length kept ≡ size → Falls L rank kept (round L rank step c kept l).0
  round_falls size End kept l i e = inl refl
  round_falls size (Plain v rest) kept l i e =
      let m = brought L rank kept v.site l in
      let one = set kept v.site m in
      falls_on L rank kept one (round L rank step rest one (step v m)).0 (brought_falls L rank kept v.site l (omega (arith, i.0))) (round_falls size rest one (step v m) i.1 (length-set kept v.site m ∙ e))
  round_falls size (Branch v a b rest) kept l i e =
      let m = brought L rank kept v.site l in
      let start = set kept v.site m in
      let one = round L rank step a start (step v m) in
      let two = round L rank step b one.0 (step v m) in
      let end = round L rank step rest two.0 (meet L rank one.1 two.1) in
      let e0 = length-set kept v.site m ∙ e in
      let e1 = round_length a start (step v m) ∙ e0 in
      let e2 = round_length b one.0 (step v m) ∙ e1 in
      falls_on L rank kept start end.0 (brought_falls L rank kept v.site l (omega (arith, i.0)))
      (falls_on L rank start one.0 end.0 (round_falls size a start (step v m) i.1 e0)
      (falls_on L rank one.0 two.0 end.0 (round_falls size b one.0 (step v m) i.2 e1) (round_falls size rest two.0 (meet L rank one.1 two.1) i.3 e2)))
  round_falls size (Loop v a rest) kept l i e =
      let m = brought L rank kept v.site l in
      let start = set kept v.site m in
      let turn = round L rank step a start (step v m) in
      let n = brought L rank turn.0 v.site turn.1 in
      let again = set turn.0 v.site n in
      let end = round L rank step rest again (step v n) in
      let e0 = length-set kept v.site m ∙ e in
      let e1 = round_length a start (step v m) ∙ e0 in
      let e2 = length-set turn.0 v.site n ∙ e1 in
      falls_on L rank kept start end.0 (brought_falls L rank kept v.site l (omega (arith, i.0)))
      (falls_on L rank start turn.0 end.0 (round_falls size a start (step v m) i.1 e0)
      (falls_on L rank turn.0 again end.0 (brought_falls L rank turn.0 v.site turn.1 (omega (arith, i.0, e1))) (round_falls size rest again (step v n) i.2 e2)))

module _ (L : Type 0) (rank : L → ℕ) (turns : ℕ) (step : Visit → L → L) where
  -- A round that changes nothing shows that the table fits.

  pub round_fits : (size : ℕ) (d : L) (last : List L) (c : Code) (kept : List L) (l : L) → Inside size c → length kept ≡ size → kept ≡ last → (round L rank step c kept l).0 ≡ last → IsPostFixpoint L rank turns step (λ s. get_or last s d) c l (round L rank step c kept l).1
  round_fits size d last End kept l i e f g = omega arith
  round_fits size d last (Plain v rest) kept l i e f g =
      let m = brought L rank kept v.site l in
      let start = set kept v.site m in
      let end = round L rank step rest start (step v m) in
      let inside : v.site < length kept = omega (arith, i.0) in
      let e0 = length-set kept v.site m ∙ e in
      let k = falls_back L rank kept start end.0 (brought_falls L rank kept v.site l inside) (round_falls L rank step size rest start (step v m) i.1 e0) (g ∙ sym f) in
      let here = ap (λ (t : List L). get_or t v.site d) (sym (k ∙ f)) ∙ brought_at L rank kept v.site l d inside in (
        let r = ap rank here in omega (arith, brought_rank L rank kept v.site l),
        subst (λ n. IsPostFixpoint L rank turns step (λ s. get_or last s d) rest (step v n) end.1) (sym here) (round_fits size d last rest start (step v m) i.1 e0 (k ∙ f) g),
      )
  round_fits size d last (Branch v a b rest) kept l i e f g =
      let m = brought L rank kept v.site l in
      let start = set kept v.site m in
      let one = round L rank step a start (step v m) in
      let two = round L rank step b one.0 (step v m) in
      let low = meet L rank one.1 two.1 in
      let end = round L rank step rest two.0 low in
      let inside : v.site < length kept = omega (arith, i.0) in
      let e0 = length-set kept v.site m ∙ e in
      let e1 = round_length L rank step a start (step v m) ∙ e0 in
      let e2 = round_length L rank step b one.0 (step v m) ∙ e1 in
      let f0 = brought_falls L rank kept v.site l inside in
      let f1 = round_falls L rank step size a start (step v m) i.1 e0 in
      let f2 = round_falls L rank step size b one.0 (step v m) i.2 e1 in
      let f3 = round_falls L rank step size rest two.0 low i.3 e2 in
      let f23 = falls_on L rank one.0 two.0 end.0 f2 f3 in
      let k0 = falls_back L rank kept start end.0 f0 (falls_on L rank start one.0 end.0 f1 f23) (g ∙ sym f) ∙ f in
      let k1 = falls_back L rank start one.0 end.0 f1 f23 (g ∙ sym k0) ∙ k0 in
      let k2 = falls_back L rank one.0 two.0 end.0 f2 f3 (g ∙ sym k1) ∙ k1 in
      let here = ap (λ (t : List L). get_or t v.site d) (sym k0) ∙ brought_at L rank kept v.site l d inside in
      let lower = least_rank L rank one.1 two.1 in
      let fa = fits_less L rank turns step (λ s. get_or last s d) a (step v m) one.1 low lower.0 (round_fits size d last a start (step v m) i.1 e0 k0 k1) in
      let fb = fits_less L rank turns step (λ s. get_or last s d) b (step v m) two.1 low lower.1 (round_fits size d last b one.0 (step v m) i.2 e1 k1 k2) in (
        let r = ap rank here in omega (arith, brought_rank L rank kept v.site l),
        (low, subst (λ n. IsPostFixpoint L rank turns step (λ s. get_or last s d) a (step v n) low) (sym here) fa, subst (λ n. IsPostFixpoint L rank turns step (λ s. get_or last s d) b (step v n) low) (sym here) fb, round_fits size d last rest two.0 low i.3 e2 k2 g),
      )
  round_fits size d last (Loop v a rest) kept l i e f g =
      let m = brought L rank kept v.site l in
      let start = set kept v.site m in
      let turn = round L rank step a start (step v m) in
      let n = brought L rank turn.0 v.site turn.1 in
      let again = set turn.0 v.site n in
      let end = round L rank step rest again (step v n) in
      let inside : v.site < length kept = omega (arith, i.0) in
      let e0 = length-set kept v.site m ∙ e in
      let e1 = round_length L rank step a start (step v m) ∙ e0 in
      let e2 = length-set turn.0 v.site n ∙ e1 in
      let inside' : v.site < length turn.0 = omega (arith, i.0) in
      let f0 = brought_falls L rank kept v.site l inside in
      let f1 = round_falls L rank step size a start (step v m) i.1 e0 in
      let f2 = brought_falls L rank turn.0 v.site turn.1 inside' in
      let f3 = round_falls L rank step size rest again (step v n) i.2 e2 in
      let f23 = falls_on L rank turn.0 again end.0 f2 f3 in
      let k0 = falls_back L rank kept start end.0 f0 (falls_on L rank start turn.0 end.0 f1 f23) (g ∙ sym f) ∙ f in
      let k1 = falls_back L rank start turn.0 end.0 f1 f23 (g ∙ sym k0) ∙ k0 in
      let k2 = falls_back L rank turn.0 again end.0 f2 f3 (g ∙ sym k1) ∙ k1 in
      let here = ap (λ (t : List L). get_or t v.site d) (sym k0) ∙ brought_at L rank kept v.site l d inside in
      let there = ap (λ (t : List L). get_or t v.site d) (sym k2) ∙ brought_at L rank turn.0 v.site turn.1 d inside' in
      let r = ap rank here in
      let r' = ap rank there in
      let fa = subst (λ n. IsPostFixpoint L rank turns step (λ s. get_or last s d) a (step v n) turn.1) (sym here) (round_fits size d last a start (step v m) i.1 e0 k0 k1) in
      let low : rank (get_or last v.site d) ≤ rank turn.1 = omega (arith, brought_rank L rank turn.0 v.site turn.1) in (
        omega (arith, brought_rank L rank kept v.site l),
        fits_less L rank turns step (λ s. get_or last s d) a (step v (get_or last v.site d)) turn.1 (get_or last v.site d) low fa,
        subst (λ n. IsPostFixpoint L rank turns step (λ s. get_or last s d) rest (step v n) end.1) (sym there) (round_fits size d last rest again (step v n) i.2 e2 k2 g),
      )

module _ (L : Type 0) (rank : L → ℕ) (turns : ℕ) (step : Visit → L → L) (monotone : (v : Visit) (a b : L) → rank a ≤ rank b → rank (step v a) ≤ rank (step v b)) where
  above-set : (exact : ℕ → L) (d : L) (kept : List L) (s : ℕ) (m : L) → Above L rank exact d kept → rank (exact s) ≤ rank m → s < length kept → Above L rank exact d (set kept s m)
  above-set exact d kept s m h g i n k =
      ⊎_elim
      (λ (e : n ≡ s). let r = ap rank (get_or-set_same kept s m d i) in subst (λ j. rank (exact j) ≤ rank (get_or (set kept s m) j d)) (sym e) (omega arith))
      (λ (ne : n ≡ s → ⊥). let r = ap rank (get_or-set_other kept s n m d ne) in let h' = h n (omega (arith, length-set kept s m)) in omega arith)
      (cases_eq n s)

  above-brought : (exact : ℕ → L) (d : L) (kept : List L) (s : ℕ) (l : L) → Above L rank exact d kept → rank (exact s) ≤ rank l → s < length kept → rank (exact s) ≤ rank (brought L rank kept s l)
  above-brought exact d kept s l h g i =
      least_above L rank (get_or kept s l) l (exact s) (let r = ap rank (get_or_default kept s d l i) in let h' = h s i in omega arith) g

  -- A round keeps the table above one that fits.
  pub round_above : (size : ℕ) (exact : ℕ → L) (d : L) (c : Code) (kept : List L) (l e x : L) → Inside size c → length kept ≡ size → IsPostFixpoint L rank turns step exact c e x → rank e ≤ rank l → Above L rank exact d kept → Above L rank exact d (round L rank step c kept l).0 × (rank x ≤ rank (round L rank step c kept l).1)
  round_above size exact d End kept l e x i long f h a = (a, omega arith)
  round_above size exact d (Plain v rest) kept l e x i long f h a =
      let m = brought L rank kept v.site l in
      let inside : v.site < length kept = omega (arith, i.0) in
      let low = above-brought exact d kept v.site l a (omega (arith, f.0)) inside in
      round_above size exact d rest (set kept v.site m) (step v m) (step v (exact v.site)) x i.1 (length-set kept v.site m ∙ long) f.1 (monotone v _ _ low) (above-set exact d kept v.site m a low inside)
  round_above size exact d (Branch v p q rest) kept l e x i long f h a =
      let m = brought L rank kept v.site l in
      let start = set kept v.site m in
      let one = round L rank step p start (step v m) in
      let two = round L rank step q one.0 (step v m) in
      let inside : v.site < length kept = omega (arith, i.0) in
      let low = above-brought exact d kept v.site l a (omega (arith, f.0)) inside in
      let up = monotone v _ _ low in
      let e0 = length-set kept v.site m ∙ long in
      let e1 = round_length L rank step p start (step v m) ∙ e0 in
      let e2 = round_length L rank step q one.0 (step v m) ∙ e1 in
      let a1 = round_above size exact d p start (step v m) (step v (exact v.site)) f.1.0 i.1 e0 f.1.1 up (above-set exact d kept v.site m a low inside) in
      let a2 = round_above size exact d q one.0 (step v m) (step v (exact v.site)) f.1.0 i.2 e1 f.1.2 up a1.0 in
      round_above size exact d rest two.0 (meet L rank one.1 two.1) f.1.0 x i.3 e2 f.1.3 (least_above L rank one.1 two.1 f.1.0 a1.1 a2.1) a2.0
  round_above size exact d (Loop v p rest) kept l e x i long f h a =
      let m = brought L rank kept v.site l in
      let start = set kept v.site m in
      let turn = round L rank step p start (step v m) in
      let n = brought L rank turn.0 v.site turn.1 in
      let inside : v.site < length kept = omega (arith, i.0) in
      let low = above-brought exact d kept v.site l a (omega (arith, f.0)) inside in
      let e0 = length-set kept v.site m ∙ long in
      let e1 = round_length L rank step p start (step v m) ∙ e0 in
      let inside' : v.site < length turn.0 = omega (arith, i.0) in
      let a1 = round_above size exact d p start (step v m) (step v (exact v.site)) (exact v.site) i.1 e0 f.1 (monotone v _ _ low) (above-set exact d kept v.site m a low inside) in
      let low' = above-brought exact d turn.0 v.site turn.1 a1.0 a1.1 inside' in
      round_above size exact d rest (set turn.0 v.site n) (step v n) (step v (exact v.site)) x i.2 (length-set turn.0 v.site n ∙ e1) f.2 (monotone v _ _ low') (above-set exact d turn.0 v.site n a1.0 low' inside')

  module _ (bounded : (a : L) → rank a ≤ turns) where
    -- A table that a round leaves, and that is nowhere below the exact one, is exact.
    pub fixed_least : (same : (a b : L) → rank a ≡ rank b → a ≡ b) (t : Tree) (l d : L) (kept : List L) → length kept ≡ sites_of t → (round L rank step (placed 0 t) kept l).0 ≡ kept → Above L rank (λ s. get_or (table L rank turns step (placed 0 t) l) s d) d kept → (s : ℕ) → s < sites_of t → IsMeetBefore rank step l (placed 0 t) s (get_or kept s d)
    fixed_least same t l d kept long fixed above s h =
        let inside = inside-placed t (sites_of t) 0 (omega arith) in
        let fits = round_fits L rank turns step (sites_of t) d kept (placed 0 t) kept l inside long refl fixed in
        let exact = table_least L rank turns step monotone bounded t l d s h in
        let p = exact.reached in
        let down = fits_below L rank turns step monotone (λ n. get_or kept n d) (placed 0 t) l _ fits s p.0 p.1 in
        let e = ap rank p.2 in
        let up = above s (omega arith) in
        let equal : rank (get_or (table L rank turns step (placed 0 t) l) s d) ≡ rank (get_or kept s d) = omega arith in
        subst (λ m. IsMeetBefore rank step l (placed 0 t) s m) (same _ _ equal) exact

    -- a round keeps a table above the exact one
    pub round_above_exact : (t : Tree) (l d : L) (kept : List L) → length kept ≡ sites_of t → Above L rank (λ s. get_or (table L rank turns step (placed 0 t) l) s d) d kept → Above L rank (λ s. get_or (table L rank turns step (placed 0 t) l) s d) d (round L rank step (placed 0 t) kept l).0
    round_above_exact t l d kept long a =
        let exact = λ (s : ℕ). get_or (table L rank turns step (placed 0 t) l) s d in
        let fits = agrees_fits L rank turns step monotone bounded exact (placed 0 t) l (agrees-whole L rank turns step t l d) in
        (round_above (sites_of t) exact d (placed 0 t) kept l l (exit L rank turns step (placed 0 t) l) (inside-placed t (sites_of t) 0 (omega arith)) long fits (omega arith) a).0
