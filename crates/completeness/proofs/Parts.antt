-- What the walk finds of each statement where roles are given: one part a site, none of them stray.
use Rattle.std.proofs.Common.{◌≡◌, ℕ, zero, suc, ◌+◌, ◌<◌, ◌≤◌, ◌⊎◌, inl, inr, false, List, [], ◌∷◌, ◌++◌, length, get_or, refl, sym, ap, ◌∙◌, subst, arith, length-append}
use Rattle.std.proofs.lemmas.Bool.{cases_lt}
use Rattle.std.proofs.lemmas.List.{get_or_past}
use Rattle.il_paths.specs.Tree.{Tree, Empty, Then, IfThen, WhileThen, sites_of}
use Rattle.validator.specs.declared.role.Role.{Role}
use Rattle.validator.specs.declared.role.Role.TheVariants.{Same}
use Rattle.validator.specs.declared.walk.Part.{Part}
use Rattle.validator.specs.Walk.{with_partner, part_at, role_at}

module _ (role : ℕ → Role) where
  abbrev pub parts_of : ℕ → Tree → List Part
  parts_of n Empty = []
  parts_of n (Then leaf rest) = with_partner (role n) ∷ parts_of (n + 1) rest
  parts_of n (IfThen a y z rest) =
      with_partner (role n) ∷ (parts_of (n + 1) y ++ (parts_of (n + 1 + sites_of y) z ++ parts_of (n + 1 + sites_of y + sites_of z) rest))
  parts_of n (WhileThen a d rest) = with_partner (role n) ∷ (parts_of (n + 1) d ++ parts_of (n + 1 + sites_of d) rest)

  pub length-parts : (t : Tree) (n : ℕ) → length (parts_of n t) ≡ sites_of t
  length-parts Empty n = refl
  length-parts (Then leaf rest) n = omega (arith, length-parts rest (n + 1))
  length-parts (IfThen a y z rest) n =
      simp length-append (omega (arith, length-parts y (n + 1), length-parts z (n + 1 + sites_of y), length-parts rest (n + 1 + sites_of y + sites_of z)))
  length-parts (WhileThen a d rest) n = simp length-append (omega (arith, length-parts d (n + 1), length-parts rest (n + 1 + sites_of d)))

  -- the parts are those of the sites from n on
  abbrev AreFrom : ℕ → List Part → Type 0
  AreFrom n [] = Unit {0}
  AreFrom n (p ∷ ps) = (p ≡ with_partner (role n)) × AreFrom (n + 1) ps

  append_from : (n m : ℕ) (ps qs : List Part) → m ≡ n + length ps → AreFrom n ps → AreFrom m qs → AreFrom n (ps ++ qs)
  append_from n m [] qs e h k = subst (λ i. AreFrom i qs) (omega (arith, e)) k
  append_from n m (p ∷ ps) qs e h k = (h.0, append_from (n + 1) m ps qs (omega (arith, e)) h.1 k)

  are_from : (t : Tree) (n : ℕ) → AreFrom n (parts_of n t)
  are_from Empty n = tt
  are_from (Then leaf rest) n = (refl, are_from rest (n + 1))
  are_from (IfThen a y z rest) n = (
    refl,
    append_from (n + 1) (n + 1 + sites_of y) (parts_of (n + 1) y) _ (omega (arith, length-parts y (n + 1))) (are_from y (n + 1))
        (append_from (n + 1 + sites_of y) (n + 1 + sites_of y + sites_of z) (parts_of (n + 1 + sites_of y) z) _ (omega (arith, length-parts z (n + 1 + sites_of y))) (are_from z (n + 1 + sites_of y))
        (are_from rest (n + 1 + sites_of y + sites_of z))),
  )
  are_from (WhileThen a d rest) n = (
    refl,
    append_from (n + 1) (n + 1 + sites_of d) (parts_of (n + 1) d) _ (omega (arith, length-parts d (n + 1))) (are_from d (n + 1)) (are_from rest (n + 1 + sites_of d)),
  )

  part_from : (ps : List Part) (n k : ℕ) → AreFrom n ps → k < length ps → get_or ps k (with_partner Same) ≡ with_partner (role (n + k))
  part_from [] n k h lt = absurd (omega (arith, lt))
  part_from (p ∷ ps) n zero h lt = h.0 ∙ ap (λ i. with_partner (role i)) (omega arith)
  part_from (p ∷ ps) n (suc k) h lt = part_from ps (n + 1) k h.1 (omega (arith, lt)) ∙ ap (λ i. with_partner (role i)) (omega arith)

  -- of each site the part that its role gives, and behind the last one none but the same
  pub part_of : (t : Tree) (site : ℕ) → site < sites_of t → part_at (parts_of 0 t) site ≡ with_partner (role site)
  part_of t site lt = part_from (parts_of 0 t) 0 site (are_from t 0) (omega (arith, lt, length-parts t 0)) ∙ ap (λ i. with_partner (role i)) (omega arith)

  pub part_past : (t : Tree) (site : ℕ) → sites_of t ≤ site → part_at (parts_of 0 t) site ≡ with_partner Same
  part_past t site le = get_or_past (parts_of 0 t) site (with_partner Same) (omega (arith, le, length-parts t 0))

  pub none_stray : (t : Tree) (site : ℕ) → (part_at (parts_of 0 t) site).stray ≡ false
  none_stray t site = go (cases_lt site (sites_of t))
    where
      go : (site < sites_of t) ⊎ (sites_of t ≤ site) → (part_at (parts_of 0 t) site).stray ≡ false
      go (inl lt) = ap (λ (p : Part). p.stray) (part_of t site lt)
      go (inr le) = ap (λ (p : Part). p.stray) (part_past t site le)

  pub role_there : (t : Tree) (site : ℕ) → site < sites_of t → role_at (parts_of 0 t) site ≡ role site
  role_there t site lt = ap (λ (p : Part). p.role) (part_of t site lt)
