-- A list of links as it grows.
use Rattle.std.proofs.Common.{◌≡◌, ℕ, suc, ◌<◌, Bool, true, false, ◌||◌, eqb, List, [], ◌∷◌, ◌++◌, Option, refl, ap, subst, arith, inl, inr}
use Rattle.std.proofs.lemmas.Bool.{cases_lt, eq-eqb}
use Rattle.std.specs.List.{AllByRecursion, list_any}
use Rattle.exec_graph.specs.declared.links.Link.{Link}
use Rattle.exec_graph.specs.Links.{LinksRise, AreLinks}

all_more : (P Q : Link → Type 0) (links : List Link) → ((l : Link) → P l → Q l) → AllByRecursion P links → AllByRecursion Q links
all_more P Q [] f h = tt
all_more P Q (l ∷ links) f h = (f l h.0, all_more P Q links f h.1)

all_push : (P : Link → Type 0) (links : List Link) (l : Link) → AllByRecursion P links → P l → AllByRecursion P (links ++ l ∷ [])
all_push P [] l h p = (p, tt)
all_push P (x ∷ links) l h p = (h.0, all_push P links l h.1 p)

rising_push : (links : List Link) (l : Link) → LinksRise links → AllByRecursion (λ x. x.entry < l.entry) links → LinksRise (links ++ l ∷ [])
rising_push [] l r b = tt
rising_push (x ∷ []) l r b = (b.0, tt)
rising_push (x ∷ y ∷ links) l r b = (r.0, rising_push (y ∷ links) l r.1 b.1)

any_more : (p : Link → Bool) (links : List Link) (l : Link) → list_any p links ≡ true → list_any p (links ++ l ∷ []) ≡ true
any_more p [] l h = cc
any_more p (x ∷ links) l h = choose (p x) h (any_more p links l)
  where
    choose : (b : Bool) → (b || list_any p links) ≡ true → (list_any p links ≡ true → list_any p (links ++ l ∷ []) ≡ true) → (b || list_any p (links ++ l ∷ [])) ≡ true
    choose true h ih = refl
    choose false h ih = ih h

any_last : (p : Link → Bool) (links : List Link) (l : Link) → p l ≡ true → list_any p (links ++ l ∷ []) ≡ true
any_last p [] l h = ap (λ (b : Bool). b || false) h
any_last p (x ∷ links) l h = choose (p x) (any_last p links l h)
  where
    choose : (b : Bool) → list_any p (links ++ l ∷ []) ≡ true → (b || list_any p (links ++ l ∷ [])) ≡ true
    choose true ih = refl
    choose false ih = ih

-- one entry more that is wanted
pub links_push : (n : ℕ) (Wanted : ℕ → Type 0) (Tells : ℕ → Option ℕ → Type 0) (links : List Link) (other : Option ℕ) → Wanted n → Tells n other → AreLinks n Wanted Tells links
    → AreLinks (suc n) Wanted Tells (links ++ record { entry = n; other = other } ∷ [])
links_push n Wanted Tells links other w t h = record {
  rising = rising_push links (record { entry = n; other = other }) h.rising (all_more _ (λ x. x.entry < n) links (λ l q. q.0) h.each);
  each = all_push _ links (record { entry = n; other = other }) (all_more _ _ links (λ l q. ((let k = q.0 in omega (arith, k)), q.1, q.2)) h.each) (omega arith, w, t);
  all = λ k l q. elim (cases_lt k n) as (λ _. list_any (λ (link : Link). eqb link.entry k) (links ++ record { entry = n; other = other } ∷ []) ≡ true) [
    | inl below ↦ any_more (λ (link : Link). eqb link.entry k) links (record { entry = n; other = other }) (h.all k below q)
    | inr above ↦ any_last (λ (link : Link). eqb link.entry k) links (record { entry = n; other = other }) (eq-eqb n k (omega (arith, l, above)))
  ];
}

-- one more that isn't
pub links_skip : (n : ℕ) (Wanted : ℕ → Type 0) (Tells : ℕ → Option ℕ → Type 0) (links : List Link) → (Wanted n → ⊥) → AreLinks n Wanted Tells links → AreLinks (suc n) Wanted Tells links
links_skip n Wanted Tells links none h = record {
  rising = h.rising;
  each = all_more _ _ links (λ l q. ((let k = q.0 in omega (arith, k)), q.1, q.2)) h.each;
  all = λ k l q. elim (cases_lt k n) as (λ _. list_any (λ (link : Link). eqb link.entry k) links ≡ true) [
    | inl below ↦ h.all k below q
    | inr above ↦ (let e : k ≡ n = omega (arith, l, above) in absurd (none (subst Wanted e q)))
  ];
}

pub links_none : (Wanted : ℕ → Type 0) (Tells : ℕ → Option ℕ → Type 0) → AreLinks 0 Wanted Tells []
links_none Wanted Tells = record { rising = tt; each = tt; all = λ k l q. absurd (omega (arith, l)) }
