-- Laws of maps and images, over plain lists.
use Rattle.std.proofs.Common.{◌≡◌, ℕ, ◌+◌, ◌<◌, ◌≤◌, max, Bool, true, false, List, [], ◌∷◌, ◌++◌, length, get_or, replicate, refl, sym, ap, ◌∙◌, subst, arith, ◌⊎◌, inl, inr, ⊎_elim}
use Rattle.std.proofs.lemmas.Bool.{cases_eq, cases_lt, cases_order, both_ways}
use Rattle.std.proofs.lemmas.List.{length-set, length-append, get_or-set_same, get_or-set_other, length-replicate, get_or_append_left, get_or_at}
use Rattle.views.specs.Timestamps.{raised, joined}
use Rattle.memory_relation.specs.Images.{IsRising, map_at, AreRising, IsImageBut, IsImage, nowhere, with_number}
use Rattle.views.proofs.Callers.{length-joined, length-raised, get_or-raised_same, get_or-raised_other, raised_alike, get_or-joined_within, get_or-joined_past, joined_le, get_or-zeros}

-- ---- rising maps

pub rising_le : (m : List ℕ) (j k : ℕ) → IsRising m → j ≤ k → k < length m → get_or m j 0 ≤ get_or m k 0
rising_le m j k r l h =
    ⊎_elim (λ (e : j ≡ k). omega (arith, ap (λ (i : ℕ). get_or m i 0) e)) (λ (e : j ≡ k → ⊥). omega (arith, r.rises j k (omega arith) h)) (cases_eq j k)

pub rising_reflects : (m : List ℕ) (j k : ℕ) → IsRising m → j < length m → get_or m j 0 < get_or m k 0 → j < k
rising_reflects m j k r h l =
    ⊎_elim (λ (e : j < k). e) (λ (e : k ≤ j). absurd (omega (arith, rising_le m k j r e h))) (cases_lt j k)

pub rising_same : (m : List ℕ) (j k : ℕ) → IsRising m → j < length m → k < length m → get_or m j 0 ≡ get_or m k 0 → j ≡ k
rising_same m j k r h l e =
    ⊎_elim (λ (s : j ≡ k). s)
    (λ o. ⊎_elim (λ (s : j < k). absurd (omega (arith, r.rises j k s l))) (λ (s : k < j). absurd (omega (arith, r.rises k j s h))) o) (cases_order j k)

pub rising_max : (m : List ℕ) (j k : ℕ) → IsRising m → j < length m → k < length m → max (get_or m j 0) (get_or m k 0) ≡ get_or m (max j k) 0
rising_max m j k r h l =
    ⊎_elim
    (λ (s : j ≤ k). let e : max j k ≡ k = omega arith in omega (arith, rising_le m j k r s l, ap (λ (i : ℕ). get_or m i 0) e))
    (λ (s : k ≤ j). let e : max j k ≡ j = omega arith in omega (arith, rising_le m k j r s h, ap (λ (i : ℕ). get_or m i 0) e))
    (order j k)
  where
    order : (a b : ℕ) → (a ≤ b) ⊎ (b ≤ a)
    order a b = ⊎_elim (λ (s : a < b). inl (omega arith)) (λ (s : b ≤ a). inr s) (cases_lt a b)

-- a further number that is above the last
pub rising_more : (m : List ℕ) (n k : ℕ) → IsRising m → length m ≡ n + 1 → get_or m n 0 < k → IsRising (m ++ k ∷ [])
rising_more m n k r e l = record {
  some = omega (arith, more);
  first = get_or_append_left m (k ∷ []) 0 0 r.some ∙ r.first;
  rises = λ i j lt h.
      let i_in : i < length m = omega (arith, more) in
      let old : get_or (m ++ k ∷ []) i 0 ≡ get_or m i 0 = get_or_append_left m (k ∷ []) 0 i i_in in
      ⊎_elim
      (λ (s : j < length m). omega (arith, old, r.rises i j lt s, get_or_append_left m (k ∷ []) 0 j s))
      (λ (s : length m ≤ j). let at_end : length m ≡ j = omega (arith, more) in
      omega (arith, old, rising_le m i n r (omega arith) (omega arith), get_or_at m k [] 0 j at_end))
      (cases_lt j (length m));
}
  where
    more : length (m ++ k ∷ []) ≡ length m + 1
    more = length-append m (k ∷ [])

-- ---- maps with one more number

pub with_number_same : (maps : List (List ℕ)) (x n : ℕ) → x < length maps → map_at (with_number maps x n) x ≡ map_at maps x ++ n ∷ []
with_number_same maps x n l = get_or-set_same maps x (map_at maps x ++ n ∷ []) [] l

pub with_number_other : (maps : List (List ℕ)) (x n z : ℕ) → (z ≡ x → ⊥) → map_at (with_number maps x n) z ≡ map_at maps z
with_number_other maps x n z e = get_or-set_other maps x z (map_at maps x ++ n ∷ []) [] e

pub length-with_number : (maps : List (List ℕ)) (x n : ℕ) → length (with_number maps x n) ≡ length maps
length-with_number maps x n = length-set maps x (map_at maps x ++ n ∷ [])

-- what the map of a place was, it still is
pub record IsLonger (m k : List ℕ) : Type 0 where
  pub longer : length m ≤ length k
  pub same : (i : ℕ) → i < length m → get_or k i 0 ≡ get_or m i 0

pub with_number_longer : (maps : List (List ℕ)) (x n z : ℕ) → x < length maps → IsLonger (map_at maps z) (map_at (with_number maps x n) z)
with_number_longer maps x n z l =
    ⊎_elim
    (λ (e : z ≡ x). subst (λ k. IsLonger (map_at maps k) (map_at (with_number maps x n) k)) (sym e) (subst (IsLonger (map_at maps x)) (sym (with_number_same maps x n l)) pushed))
    (λ (e : z ≡ x → ⊥). subst (IsLonger (map_at maps z)) (sym (with_number_other maps x n z e)) (record { longer = omega arith; same = λ i h. refl }))
    (cases_eq z x)
  where
    pushed : IsLonger (map_at maps x) (map_at maps x ++ n ∷ [])
    pushed = record {
      longer = omega (arith, length-append (map_at maps x) (n ∷ []));
      same = λ i h. get_or_append_left (map_at maps x) (n ∷ []) 0 i h;
    }

-- ---- images

-- fewer places are excepted
pub image_but : (maps : List (List ℕ)) (but but' : ℕ → Bool) (v w : List ℕ) → ((x : ℕ) → x < length maps → but' x ≡ false → but x ≡ false) → IsImageBut maps but v w → IsImageBut maps but' v w
image_but maps but but' v w h i = record { places = i.places; within = i.within; mapped = λ x l e. i.mapped x l (h x l e); kept = i.kept }

-- what a release hands on, of a thread for which nothing is excepted
pub image_weaken : (maps : List (List ℕ)) (but : ℕ → Bool) (v w : List ℕ) → ((x : ℕ) → x < length maps → but x ≡ false) → IsImageBut maps but v w → IsImage maps v w
image_weaken maps but v w h i = image_but maps but nowhere v w (λ x l e. h x l) i

pub image_zeros : (maps : List (List ℕ)) (n k : ℕ) → AreRising maps → k ≡ n → IsImage maps (replicate n 0) (replicate k 0)
image_zeros maps n k r e = record {
  places = length-replicate {A = ℕ} k 0 ∙ e ∙ sym (length-replicate {A = ℕ} n 0);
  within = λ x l. omega (arith, get_or-zeros n x, (r x l).some);
  mapped = λ x l b. get_or-zeros k x ∙ sym (r x l).first ∙ ap (λ (i : ℕ). get_or (map_at maps x) i 0) (sym (get_or-zeros n x));
  kept = λ i l. get_or-zeros k i ∙ sym (get_or-zeros n i);
}

-- a place past those with maps is raised on both sides
pub image_raise : (maps : List (List ℕ)) (but : ℕ → Bool) (v w : List ℕ) (k t : ℕ) → length maps ≤ k → IsImageBut maps but v w → IsImageBut maps but (raised v k t) (raised w k t)
image_raise maps but v w k t h i = record {
  places = length-raised w k t ∙ i.places ∙ sym (length-raised v k t);
  within = λ x l. omega (arith, get_or-raised_other v k t x (λ e. omega arith), i.within x l);
  mapped = λ x l b.
      get_or-raised_other w k t x (λ e. omega arith) ∙ i.mapped x l b
      ∙ ap (λ (j : ℕ). get_or (map_at maps x) j 0) (sym (get_or-raised_other v k t x (λ e. omega arith)));
  kept = λ j l. raised_alike v w k t j i.places (i.kept j l);
}

-- the image of a join
pub image_join : (maps : List (List ℕ)) (but : ℕ → Bool) (v w v' w' : List ℕ) → AreRising maps → IsImageBut maps but v w → IsImage maps v' w' → IsImageBut maps but (joined v v') (joined w w')
image_join maps but v w v' w' r i j = record {
  places = length-joined w w' ∙ i.places ∙ sym (length-joined v v');
  within = λ x l. omega (arith, joined_le v v' x, i.within x l, j.within x l);
  mapped = λ x l b.
      ⊎_elim
      (λ (h : x < length v).
      get_or-joined_within w w' x (omega (arith, i.places))
      ∙ ap (λ (n : ℕ). max n (get_or w' x 0)) (i.mapped x l b)
      ∙ ap (max (get_or (map_at maps x) (get_or v x 0) 0)) (j.mapped x l refl)
      ∙ rising_max (map_at maps x) (get_or v x 0) (get_or v' x 0) (r x l) (i.within x l) (j.within x l)
      ∙ ap (λ (n : ℕ). get_or (map_at maps x) n 0) (sym (get_or-joined_within v v' x h)))
      (λ (h : length v ≤ x).
      get_or-joined_past w w' x (omega (arith, i.places)) ∙ i.mapped x l b ∙ ap (λ (n : ℕ). get_or (map_at maps x) n 0) (sym (get_or-joined_past v v' x h)))
      (cases_lt x (length v));
  kept = λ k l.
      ⊎_elim
      (λ (h : k < length v). omega (arith, get_or-joined_within w w' k (omega (arith, i.places)), get_or-joined_within v v' k h, i.kept k l, j.kept k l))
      (λ (h : length v ≤ k). omega (arith, get_or-joined_past w w' k (omega (arith, i.places)), get_or-joined_past v v' k h, i.kept k l))
      (cases_lt k (length v));
}

-- a further number of a map takes nothing from an image
pub image_more : (maps : List (List ℕ)) (but : ℕ → Bool) (v w : List ℕ) (x n : ℕ) → x < length maps → IsImageBut maps but v w → IsImageBut (with_number maps x n) but v w
image_more maps but v w x n h i = record {
  places = i.places;
  within = λ z l. omega (arith, (longer z).longer, i.within z (in_old z l));
  mapped = λ z l b. i.mapped z (in_old z l) b ∙ sym ((longer z).same (get_or v z 0) (i.within z (in_old z l)));
  kept = λ k l. i.kept k (omega (arith, length-with_number maps x n));
}
  where
    longer : (z : ℕ) → IsLonger (map_at maps z) (map_at (with_number maps x n) z)
    longer z = with_number_longer maps x n z h

    in_old : (z : ℕ) → z < length (with_number maps x n) → z < length maps
    in_old z l = omega (arith, length-with_number maps x n)

-- a place is raised to a further number and its image, and is excepted no longer
pub image_raise_new : (maps : List (List ℕ)) (but but' : ℕ → Bool) (v w : List ℕ) (x t n : ℕ) → x < length maps → x < length v → t ≡ length (map_at maps x) → get_or w x 0 ≤ n
    → ((z : ℕ) → (z ≡ x → ⊥) → but' z ≡ false → but z ≡ false) → IsImageBut maps but v w → IsImageBut (with_number maps x n) but' (raised v x t) (raised w x n)
image_raise_new maps but but' v w x t n h in_view e le b i = record {
  places = length-raised w x n ∙ i.places ∙ sym (length-raised v x t);
  within = λ z l.
      ⊎_elim
      (λ (s : z ≡ x). omega (arith, ap (λ (k : ℕ). get_or (raised v x t) k 0) s, target, ap (λ (k : ℕ). length (map_at (with_number maps x n) k)) s, ap {B = ℕ} length same, length-append (map_at maps x) (n ∷ [])))
      (λ (s : z ≡ x → ⊥). omega (arith, get_or-raised_other v x t z s, more.within z l))
      (cases_eq z x);
  mapped = λ z l f.
      ⊎_elim
      (λ (s : z ≡ x). subst (λ k. get_or (raised w x n) k 0 ≡ get_or (map_at (with_number maps x n) k) (get_or (raised v x t) k 0) 0) (sym s) at_place)
      (λ (s : z ≡ x → ⊥).
      get_or-raised_other w x n z s ∙ more.mapped z l (b z s f) ∙ ap (λ (k : ℕ). get_or (map_at (with_number maps x n) z) k 0) (sym (get_or-raised_other v x t z s)))
      (cases_eq z x);
  kept = λ k l.
      let other : k ≡ x → ⊥ = λ s. omega (arith, length-with_number maps x n) in
      get_or-raised_other w x n k other ∙ more.kept k l ∙ sym (get_or-raised_other v x t k other);
}
  where
    more : IsImageBut (with_number maps x n) but v w
    more = image_more maps but v w x n h i

    same : map_at (with_number maps x n) x ≡ map_at maps x ++ n ∷ []
    same = with_number_same maps x n h

    target : get_or (raised v x t) x 0 ≡ t
    target = omega (arith, get_or-raised_same v x t in_view, i.within x h)

    source : get_or (raised w x n) x 0 ≡ n
    source = omega (arith, get_or-raised_same w x n (omega (arith, i.places)))

    at_place : get_or (raised w x n) x 0 ≡ get_or (map_at (with_number maps x n) x) (get_or (raised v x t) x 0) 0
    at_place =
        source ∙ sym (get_or_at (map_at maps x) n [] 0 t (sym e)) ∙ ap (λ (m : List ℕ). get_or m t 0) (sym same)
        ∙ ap (λ (k : ℕ). get_or (map_at (with_number maps x n) x) k 0) (sym target)

-- a place of the image is raised alone, and is excepted from now on
pub image_hide : (maps : List (List ℕ)) (but but' : ℕ → Bool) (v w : List ℕ) (x n : ℕ) → x < length maps → but' x ≡ true → ((z : ℕ) → but' z ≡ false → but z ≡ false)
    → IsImageBut maps but v w → IsImageBut maps but' v (raised w x n)
image_hide maps but but' v w x n h hidden b i = record {
  places = length-raised w x n ∙ i.places;
  within = i.within;
  mapped = λ z l f. get_or-raised_other w x n z (λ s. both_ways (but' z) f (ap but' s ∙ hidden)) ∙ i.mapped z l (b z f);
  kept = λ k l. get_or-raised_other w x n k (λ s. omega arith) ∙ i.kept k l;
}

-- one is behind where its image is behind
pub image_reflects : (maps : List (List ℕ)) (but : ℕ → Bool) (v w : List ℕ) (x n : ℕ) → AreRising maps → x < length maps → but x ≡ false → n < length (map_at maps x) → IsImageBut maps but v w
    → (get_or v x 0 < n → get_or w x 0 < get_or (map_at maps x) n 0) × (get_or w x 0 < get_or (map_at maps x) n 0 → get_or v x 0 < n)
image_reflects maps but v w x n r l b h i = (
  λ s. omega (arith, i.mapped x l b, (r x l).rises (get_or v x 0) n s h),
  λ s. rising_reflects (map_at maps x) (get_or v x 0) n (r x l) (i.within x l) (omega (arith, i.mapped x l b)),
)

-- the image of what is within a number is within its image
pub image_least : (maps : List (List ℕ)) (but : ℕ → Bool) (v w : List ℕ) (x n : ℕ) → AreRising maps → x < length maps → but x ≡ false → n < length (map_at maps x) → get_or v x 0 ≤ n → IsImageBut maps but v w
    → get_or w x 0 ≤ get_or (map_at maps x) n 0
image_least maps but v w x n r l b h s i = omega (arith, i.mapped x l b, rising_le (map_at maps x) (get_or v x 0) n (r x l) s h)
