-- Times and views with moved timestamps: what is raised, joined, read and fenced.
use Rattle.std.proofs.Common.{◌≡◌, ⊎_elim, ℕ, ◌<◌, ◌≤◌, max, min, Bool, true, false, cond, eqb, ltb, List, length, get_or, refl, sym, ap, ◌∙◌, subst, arith}
use Rattle.std.proofs.lemmas.Bool.{cases_eq, cases_lt, cond-true, cond-false, eq-eqb, ne_eqb, lt-ltb, le-ltb}
use Rattle.std.proofs.lemmas.List.{length-set, get_or-set_same, get_or-set_other, ext_get_or}
use Rattle.values_undef.specs.declared.access.Order.{Order}
use Rattle.values_undef.specs.declared.access.Order.TheVariants.{Rlx, Acq, Rel, AcqRel}
use Rattle.views.specs.Timestamps.{raised, joined}
use Rattle.views.specs.ThreadView.{ThreadView, raised_view, heard, fenced}
use Rattle.views.proofs.Callers.{length-joined, length-raised, get_or-raised_same, get_or-raised_other, get_or-joined}
use Rattle.message_memory.specs.Memory.{Memory, view_index}
use Rattle.memory_likeness.specs.Moved.{IsRisingMap, moved_times, moved_view, moved_stamp}
use Rattle.memory_likeness.proofs.Moving.{map_le, map_injective}

-- ---- a rising map and the tests of numbers

pub map_max : (g : ℕ → ℕ) → IsRisingMap g → (a b : ℕ) → g (max a b) ≡ max (g a) (g b)
map_max g r a b =
    ⊎_elim
    (λ (l : a < b). let e : max a b ≡ b = omega arith in ap g e ∙ omega (arith, r.rises a b l))
    (λ (l : b ≤ a). let e : max a b ≡ a = omega arith in ap g e ∙ omega (arith, map_le g r b a l))
    (cases_lt a b)

pub map_min : (g : ℕ → ℕ) → IsRisingMap g → (a b : ℕ) → g (min a b) ≡ min (g a) (g b)
map_min g r a b =
    ⊎_elim
    (λ (l : a < b). let e : min a b ≡ a = omega arith in ap g e ∙ omega (arith, r.rises a b l))
    (λ (l : b ≤ a). let e : min a b ≡ b = omega arith in ap g e ∙ omega (arith, map_le g r b a l))
    (cases_lt a b)

pub map_lt : (g : ℕ → ℕ) → IsRisingMap g → (a b : ℕ) → ltb (g a) (g b) ≡ ltb a b
map_lt g r a b =
    ⊎_elim
    (λ (l : a < b). lt-ltb (g a) (g b) (r.rises a b l) ∙ sym (lt-ltb a b l))
    (λ (l : b ≤ a). le-ltb (g a) (g b) (map_le g r b a l) ∙ sym (le-ltb a b l))
    (cases_lt a b)

pub map_eq : (g : ℕ → ℕ) → IsRisingMap g → (a b : ℕ) → eqb (g a) (g b) ≡ eqb a b
map_eq g r a b =
    ⊎_elim
    (λ (e : a ≡ b). eq-eqb (g a) (g b) (ap g e) ∙ sym (eq-eqb a b e))
    (λ (e : a ≡ b → ⊥). ne_eqb (g a) (g b) (λ f. e (map_injective g r a b f)) ∙ sym (ne_eqb a b e))
    (cases_eq a b)

-- the stamps of a location rise too
pub stamp_rises : (y : ℕ) (g : ℕ → ℕ) (z : ℕ) → IsRisingMap g → IsRisingMap (moved_stamp y g z)
stamp_rises y g z r = choose (eqb z y)
  where
    choose : (b : Bool) → IsRisingMap (λ t. cond b (g t) t)
    choose true = r
    choose false = record { first = refl; rises = λ a b l. l }

pub stamp_here : (y : ℕ) (g : ℕ → ℕ) (t : ℕ) → moved_stamp y g y t ≡ g t
stamp_here y g t = cond-true (eqb y y) (g t) t (eq-eqb y y refl)

pub stamp_there : (y : ℕ) (g : ℕ → ℕ) (z t : ℕ) → (z ≡ y → ⊥) → moved_stamp y g z t ≡ t
stamp_there y g z t e = cond-false (eqb z y) (g t) t (ne_eqb z y e)

-- ---- times

pub length-moved : (i : ℕ) (g : ℕ → ℕ) (v : List ℕ) → length (moved_times i g v) ≡ length v
length-moved i g v = length-set v i (g (get_or v i 0))

pub moved_at : (i : ℕ) (g : ℕ → ℕ) (v : List ℕ) → i < length v → get_or (moved_times i g v) i 0 ≡ g (get_or v i 0)
moved_at i g v l = get_or-set_same v i (g (get_or v i 0)) 0 l

pub moved_other : (i : ℕ) (g : ℕ → ℕ) (v : List ℕ) (k : ℕ) → (k ≡ i → ⊥) → get_or (moved_times i g v) k 0 ≡ get_or v k 0
moved_other i g v k e = get_or-set_other v i k (g (get_or v i 0)) 0 e

-- two lists are equal where they are at i and elsewhere
same_but : (i : ℕ) (v w : List ℕ) → length v ≡ length w → (i < length v → get_or v i 0 ≡ get_or w i 0) → ((k : ℕ) → k < length v → (k ≡ i → ⊥) → get_or v k 0 ≡ get_or w k 0) → v ≡ w
same_but i v w e here there =
    ext_get_or 0 v w e
    (λ k l. ⊎_elim (λ (q : k ≡ i). subst (λ (j : ℕ). get_or v j 0 ≡ get_or w j 0) (sym q) (here (omega arith))) (λ (q : k ≡ i → ⊥). there k l q) (cases_eq k i))

pub raised_here : (i : ℕ) (g : ℕ → ℕ) (v : List ℕ) (t : ℕ) → IsRisingMap g → moved_times i g (raised v i t) ≡ raised (moved_times i g v) i (g t)
raised_here i g v t r =
    same_but i _ _ (length-moved i g (raised v i t) ∙ length-raised v i t ∙ sym (length-raised (moved_times i g v) i (g t) ∙ length-moved i g v))
    (λ l.
    let h : i < length v = omega (arith, length-moved i g (raised v i t), length-raised v i t) in
    moved_at i g (raised v i t) (omega (arith, length-raised v i t)) ∙ ap g (get_or-raised_same v i t h) ∙ map_max g r (get_or v i 0) t
    ∙ sym (get_or-raised_same (moved_times i g v) i (g t) (omega (arith, length-moved i g v)) ∙ ap (λ (n : ℕ). max n (g t)) (moved_at i g v h)))
    (λ k l e.
    moved_other i g (raised v i t) k e ∙ get_or-raised_other v i t k e ∙ sym (get_or-raised_other (moved_times i g v) i (g t) k e ∙ moved_other i g v k e))

pub raised_there : (i : ℕ) (g : ℕ → ℕ) (v : List ℕ) (j t : ℕ) → (j ≡ i → ⊥) → moved_times i g (raised v j t) ≡ raised (moved_times i g v) j t
raised_there i g v j t n =
    same_but i _ _ many
    (λ l.
    let h : i < length v = omega (arith, length-moved i g (raised v j t), length-raised v j t) in
    moved_at i g (raised v j t) (omega (arith, length-raised v j t)) ∙ ap g (get_or-raised_other v j t i (λ e. n (sym e))) ∙ sym (moved_at i g v h) ∙ sym (get_or-raised_other (moved_times i g v) j t i (λ e. n (sym e))))
    (λ k l e.
    ⊎_elim
    (λ (q : k ≡ j).
    let h : j < length v = omega (arith, length-moved i g (raised v j t), length-raised v j t) in
    subst (λ (x : ℕ). get_or (moved_times i g (raised v j t)) x 0 ≡ get_or (raised (moved_times i g v) j t) x 0) (sym q)
    (moved_other i g (raised v j t) j n ∙ get_or-raised_same v j t h ∙ sym (get_or-raised_same (moved_times i g v) j t (omega (arith, length-moved i g v)) ∙ ap (λ (x : ℕ). max x t) (moved_other i g v j n))))
    (λ (q : k ≡ j → ⊥).
    moved_other i g (raised v j t) k e ∙ get_or-raised_other v j t k q ∙ sym (get_or-raised_other (moved_times i g v) j t k q ∙ moved_other i g v k e))
    (cases_eq k j))
  where
    many : length (moved_times i g (raised v j t)) ≡ length (raised (moved_times i g v) j t)
    many = length-moved i g (raised v j t) ∙ length-raised v j t ∙ sym (length-raised (moved_times i g v) j t ∙ length-moved i g v)

pub joined_moved : (i : ℕ) (g : ℕ → ℕ) (v w : List ℕ) → IsRisingMap g → length w ≡ length v → moved_times i g (joined v w) ≡ joined (moved_times i g v) (moved_times i g w)
joined_moved i g v w r e =
    same_but i _ _ (length-moved i g (joined v w) ∙ length-joined v w ∙ sym (length-joined (moved_times i g v) (moved_times i g w) ∙ length-moved i g v))
    (λ l.
    let h : i < length v = omega (arith, length-moved i g (joined v w), length-joined v w) in
    moved_at i g (joined v w) (omega (arith, length-joined v w)) ∙ ap g (get_or-joined v w i e) ∙ map_max g r (get_or v i 0) (get_or w i 0)
    ∙ sym (get_or-joined (moved_times i g v) (moved_times i g w) i both ∙ ap (λ (n : ℕ). max n (get_or (moved_times i g w) i 0)) (moved_at i g v h) ∙ ap (max (g (get_or v i 0))) (moved_at i g w (omega (arith, e)))))
    (λ k l q.
    moved_other i g (joined v w) k q ∙ get_or-joined v w k e
    ∙ sym (get_or-joined (moved_times i g v) (moved_times i g w) k both ∙ ap (λ (n : ℕ). max n (get_or (moved_times i g w) k 0)) (moved_other i g v k q) ∙ ap (max (get_or v k 0)) (moved_other i g w k q)))
  where
    both : length (moved_times i g w) ≡ length (moved_times i g v)
    both = length-moved i g w ∙ e ∙ sym (length-moved i g v)

-- at the index of location z
pub raised_moved : (m : Memory) (y : ℕ) (g : ℕ → ℕ) (v : List ℕ) (z t : ℕ) → IsRisingMap g → moved_times (view_index m y) g (raised v (view_index m z) t) ≡ raised (moved_times (view_index m y) g v) (view_index m z) (moved_stamp y g z t)
raised_moved m y g v z t r =
    ⊎_elim
    (λ (e : z ≡ y).
    subst (λ (k : ℕ). moved_times (view_index m y) g (raised v (view_index m k) t) ≡ raised (moved_times (view_index m y) g v) (view_index m k) (moved_stamp y g k t)) (sym e)
    (raised_here (view_index m y) g v t r ∙ ap (raised (moved_times (view_index m y) g v) (view_index m y)) (sym (stamp_here y g t))))
    (λ (e : z ≡ y → ⊥).
    raised_there (view_index m y) g v (view_index m z) t (λ f. e (omega arith)) ∙ ap (raised (moved_times (view_index m y) g v) (view_index m z)) (sym (stamp_there y g z t e)))
    (cases_eq z y)

-- ---- views

pub view_same : (v w : ThreadView) → v.cur ≡ w.cur → v.got ≡ w.got → v.rel ≡ w.rel → v ≡ w
view_same v w e f h = λ k. record { cur = e k; got = f k; rel = h k }

pub fenced_moved : (i : ℕ) (g : ℕ → ℕ) (v : ThreadView) (order : Order) → fenced (moved_view i g v) order ≡ moved_view i g (fenced v order)
fenced_moved i g v Rlx = refl
fenced_moved i g v Acq = refl
fenced_moved i g v Rel = refl
fenced_moved i g v AcqRel = refl

pub raised_view_moved : (m : Memory) (y : ℕ) (g : ℕ → ℕ) (v : ThreadView) (z t : ℕ) → IsRisingMap g → raised_view (moved_view (view_index m y) g v) (view_index m z) (moved_stamp y g z t) ≡ moved_view (view_index m y) g (raised_view v (view_index m z) t)
raised_view_moved m y g v z t r = view_same _ _ (sym (raised_moved m y g v.cur z t r)) (sym (raised_moved m y g v.got z t r)) refl

pub cond_mapped : {A B : Type 0} (f : A → B) (b : Bool) (x y : A) → cond b (f x) (f y) ≡ f (cond b x y)
cond_mapped f true x y = refl
cond_mapped f false x y = refl

pub heard_moved : (i : ℕ) (g : ℕ → ℕ) (v : ThreadView) (times : List ℕ) (acquire : Bool) → IsRisingMap g → length times ≡ length v.cur → length times ≡ length v.got → heard (moved_view i g v) (moved_times i g times) acquire ≡ moved_view i g (heard v times acquire)
heard_moved i g v times acquire r e f =
    view_same _ _
    (ap (λ (x : List ℕ). cond acquire x (moved_times i g v.cur)) (sym (joined_moved i g v.cur times r e)) ∙ cond_mapped (moved_times i g) acquire (joined v.cur times) v.cur)
    (sym (joined_moved i g v.got times r f)) refl
