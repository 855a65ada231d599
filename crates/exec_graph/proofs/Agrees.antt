-- A list of numbers tells which entries are in a set. An entry has numbers at indexes (`Has`); it may tell by its
-- number that it is in the set (`Exact`), where that is no greater than the list's.
use Rattle.std.proofs.Common.{◌≡◌, ℕ, suc, ◌<◌, ◌≤◌, max, ◌⊎◌, inl, inr, List, length, get_or, sym, ap, subst, ◌∙◌, arith}
use Rattle.std.proofs.lemmas.Bool.{cases_eq, cases_lt}
use Rattle.std.proofs.lemmas.List.{get_or_past}
use Rattle.views.specs.Timestamps.{raised, joined}
use Rattle.views.proofs.Callers.{get_or-raised_same, get_or-raised_other, get_or-joined}

pub record Agrees (Has Exact : ℕ → ℕ → ℕ → Type 0) (n : ℕ) (S : ℕ → Type 0) (v : List ℕ) : Type 0 where
  pub early : (a : ℕ) → S a → a < n
  pub below : (a i t : ℕ) → S a → Has a i t → t ≤ get_or v i 0
  pub exact : (a i t : ℕ) → a < n → Exact a i t → t ≤ get_or v i 0 → S a

-- the same set
pub same_set : (Has Exact : ℕ → ℕ → ℕ → Type 0) (n : ℕ) (S T : ℕ → Type 0) (v : List ℕ) → ((a : ℕ) → S a → T a) → ((a : ℕ) → T a → S a) → Agrees Has Exact n S v → Agrees Has Exact n T v
same_set Has Exact n S T v f g h = record {
  early = λ a q. h.early a (g a q);
  below = λ a i t q. h.below a i t (g a q);
  exact = λ a i t l e k. f a (h.exact a i t l e k);
}

-- the union of two sets, and the join of their lists
pub union : (Has Exact : ℕ → ℕ → ℕ → Type 0) (n : ℕ) (S T : ℕ → Type 0) (v w : List ℕ) → length w ≡ length v → Agrees Has Exact n S v → Agrees Has Exact n T w → Agrees Has Exact n (λ a. S a ⊎ T a) (joined v w)
union Has Exact n S T v w e h k = record {
  early = λ a q. elim q as (λ _. a < n) [ inl s ↦ h.early a s | inr s ↦ k.early a s ];
  below = λ a i t q has. let both = get_or-joined v w i e in
      elim q as (λ _. t ≤ get_or (joined v w) i 0) [
        | inl s ↦ (let l = h.below a i t s has in omega (arith, both, l))
        | inr s ↦ (let l = k.below a i t s has in omega (arith, both, l))
      ];
  exact = λ a i t l has m. let both = get_or-joined v w i e in
      elim (cases_lt (get_or v i 0) t) as (λ _. S a ⊎ T a) [
        | inl above ↦ inr (k.exact a i t l has (omega (arith, both, above, m)))
        | inr within ↦ inl (h.exact a i t l has within)
      ];
}

-- one entry more that isn't in the set
pub later : (Has Exact : ℕ → ℕ → ℕ → Type 0) (n : ℕ) (S : ℕ → Type 0) (v : List ℕ) → ((i t : ℕ) → Exact n i t → get_or v i 0 < t) → Agrees Has Exact n S v → Agrees Has Exact (suc n) S v
later Has Exact n S v past h = record {
  early = λ a q. let l = h.early a q in omega (arith, l);
  below = h.below;
  exact = λ a i t l has m. elim (cases_lt a n) as (λ _. S a) [
    | inl k ↦ h.exact a i t k has m
    | inr k ↦ (let same : a ≡ n = omega (arith, l, k) in
        let over = past i t (subst (λ (b : ℕ). Exact b i t) same has) in absurd (omega (arith, over, m)))
  ];
}

-- one entry more that is in it, with a number at an index
pub one_more : (Has Exact : ℕ → ℕ → ℕ → Type 0) (n : ℕ) (S : ℕ → Type 0) (v : List ℕ) (i t : ℕ) → i < length v
    → ((j u : ℕ) → Has n j u → (j ≡ i) × (u ≡ t))
    → ((a u : ℕ) → a < n → Exact a i u → u ≤ get_or v i 0)
    → Agrees Has Exact n S v → Agrees Has Exact (suc n) (λ a. S a ⊎ (a ≡ n)) (raised v i t)
one_more Has Exact n S v i t there one known h = record {
  early = λ a q. elim q as (λ _. a < suc n) [ inl s ↦ (let l = h.early a s in omega (arith, l)) | inr e ↦ omega (arith, e) ];
  below = λ a j u q has. elim q as (λ _. u ≤ get_or (raised v i t) j 0) [
    | inl s ↦ (let l = h.below a j u s has in let k = grown j in omega (arith, l, k))
    | inr e ↦ (let o = one j u (subst (λ (b : ℕ). Has b j u) e has) in
        let at : get_or (raised v i t) j 0 ≡ max (get_or v i 0) t = ap (λ (k : ℕ). get_or (raised v i t) k 0) o.0 ∙ get_or-raised_same v i t there in
        omega (arith, at, o.1))
  ];
  exact = λ a j u l has m. elim (cases_lt a n) as (λ _. S a ⊎ (a ≡ n)) [
    | inr k ↦ inr (omega (arith, l, k))
    | inl k ↦ inl (elim (cases_eq j i) as (λ _. S a) [
      | inl e ↦ h.exact a j u k has (subst (λ (x : ℕ). u ≤ get_or v x 0) (sym e) (known a u k (subst (λ (x : ℕ). Exact a x u) e has)))
      | inr e ↦ h.exact a j u k has (let other = get_or-raised_other v i t j e in omega (arith, m, other))
    ])
  ];
}
  where
    grown : (j : ℕ) → get_or v j 0 ≤ get_or (raised v i t) j 0
    grown j = elim (cases_eq j i) as (λ _. get_or v j 0 ≤ get_or (raised v i t) j 0) [
      | inl e ↦ (let at = get_or-raised_same v i t there in
          let here = ap (λ (k : ℕ). get_or (raised v i t) k 0) e in let old = ap (λ (k : ℕ). get_or v k 0) e in omega (arith, at, here, old))
      | inr e ↦ (let other = get_or-raised_other v i t j e in omega (arith, other))
    ]

-- one entry more that is in it, with no number
pub one_more_plain : (Has Exact : ℕ → ℕ → ℕ → Type 0) (n : ℕ) (S : ℕ → Type 0) (v : List ℕ) → ((j u : ℕ) → Has n j u → ⊥)
    → Agrees Has Exact n S v → Agrees Has Exact (suc n) (λ a. S a ⊎ (a ≡ n)) v
one_more_plain Has Exact n S v none h = record {
  early = λ a q. elim q as (λ _. a < suc n) [ inl s ↦ (let l = h.early a s in omega (arith, l)) | inr e ↦ omega (arith, e) ];
  below = λ a j u q has. elim q as (λ _. u ≤ get_or v j 0) [
    | inl s ↦ h.below a j u s has
    | inr e ↦ absurd (none j u (subst (λ (b : ℕ). Has b j u) e has))
  ];
  exact = λ a j u l has m. elim (cases_lt a n) as (λ _. S a ⊎ (a ≡ n)) [
    | inl k ↦ inl (h.exact a j u k has m)
    | inr k ↦ inr (omega (arith, l, k))
  ];
}

-- a list that is raised where no entry of the set tells by its number
pub raised_only : (Has Exact : ℕ → ℕ → ℕ → Type 0) (n : ℕ) (S : ℕ → Type 0) (v : List ℕ) (i t : ℕ)
    → ((a u : ℕ) → a < n → Exact a i u → ⊥)
    → Agrees Has Exact n S v → Agrees Has Exact n S (raised v i t)
raised_only Has Exact n S v i t none h = record {
  early = h.early;
  below = λ a j u q has. let l = h.below a j u q has in let k = grown j in omega (arith, l, k);
  exact = λ a j u l has m. elim (cases_eq j i) as (λ _. S a) [
    | inl e ↦ absurd (none a u l (subst (λ (x : ℕ). Exact a x u) e has))
    | inr e ↦ h.exact a j u l has (let other = get_or-raised_other v i t j e in omega (arith, m, other))
  ];
}
  where
    grown : (j : ℕ) → get_or v j 0 ≤ get_or (raised v i t) j 0
    grown j = elim (cases_eq j i) as (λ _. get_or v j 0 ≤ get_or (raised v i t) j 0) [
      | inr e ↦ (let other = get_or-raised_other v i t j e in omega (arith, other))
      | inl e ↦ (let old = ap (λ (k : ℕ). get_or v k 0) e in let here = ap (λ (k : ℕ). get_or (raised v i t) k 0) e in
          elim (cases_lt i (length v)) as (λ _. get_or v j 0 ≤ get_or (raised v i t) j 0) [
            | inl there ↦ (let at = get_or-raised_same v i t there in omega (arith, at, here, old))
            | inr past ↦ (let zero = get_or_past v i 0 past in omega (arith, old, zero))
          ])
    ]

-- nothing is known at the beginning
pub nothing_known : (Has Exact : ℕ → ℕ → ℕ → Type 0) (S : ℕ → Type 0) (v : List ℕ) → ((a : ℕ) → S a → ⊥) → Agrees Has Exact 0 S v
nothing_known Has Exact S v none = record {
  early = λ a q. absurd (none a q);
  below = λ a i t q has. absurd (none a q);
  exact = λ a i t l has m. absurd (omega (arith, l));
}

-- zeros know nothing, where each number that tells is above zero
pub zeros_known : (Has Exact : ℕ → ℕ → ℕ → Type 0) (n : ℕ) (S : ℕ → Type 0) (v : List ℕ) → ((i : ℕ) → get_or v i 0 ≡ 0) → ((a : ℕ) → S a → ⊥) → ((a i t : ℕ) → a < n → Exact a i t → 0 < t) → Agrees Has Exact n S v
zeros_known Has Exact n S v zero none above = record {
  early = λ a q. absurd (none a q);
  below = λ a i t q has. absurd (none a q);
  exact = λ a i t l has m. let z = zero i in let k = above a i t l has in absurd (omega (arith, z, k, m));
}
