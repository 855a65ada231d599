-- What is known, on both sides: after a raise, a join, a read and a fence.
use Rattle.std.proofs.Common.{◌≡◌, ℕ, ◌+◌, ◌<◌, max, List, length, get_or, refl, sym, ap, ◌∙◌, subst, arith, ⊎_elim}
use Rattle.std.proofs.lemmas.Bool.{cases_eq}
use Rattle.values_undef.specs.Access.{acquires, releases}
use Rattle.values_undef.specs.declared.access.Order.{Order}
use Rattle.values_undef.specs.declared.access.Order.TheVariants.{Rlx, Acq, Rel, AcqRel}
use Rattle.views.specs.Timestamps.{raised, joined}
use Rattle.views.specs.ThreadView.{ThreadView, raised_view, heard, fenced}
use Rattle.views.proofs.Callers.{length-joined, length-raised, get_or-raised_same, get_or-raised_other, get_or-joined}
use Rattle.message_memory.specs.Memory.{Memory, messages, view_index}
use Rattle.message_memory.specs.Step.{message_times}
use Rattle.memory_likeness.specs.Likeness.{PairsAt, AreTimesAlike, AreViewsAlike, AreBothSorted}
use Rattle.memory_likeness.proofs.Pairing.{pairs_max}
use Rattle.message_memory.proofs.Callers.{cond_related}

pub place_same : (s t : Memory) (y : ℕ) → t.na ≡ s.na → view_index t y ≡ view_index s y
place_same s t y e = ap (λ c. length c + y) e

pub times_raised : (s t : Memory) (v w : List ℕ) (y a b : ℕ) → AreBothSorted s t → y < length s.atomic → PairsAt s t y a b → AreTimesAlike s t v w
    → AreTimesAlike s t (raised v (view_index s y) a) (raised w (view_index s y) b)
times_raised s t v w y a b o l p r = record {
  places = length-raised w (view_index s y) b ∙ r.places ∙ sym (length-raised v (view_index s y) a);
  locations = length-raised v (view_index s y) a ∙ r.locations;
  versions = λ x h.
      get_or-raised_other w (view_index s y) b x (λ e. omega arith) ∙ r.versions x h ∙ sym (get_or-raised_other v (view_index s y) a x (λ e. omega arith));
  stamps = λ z h.
      ⊎_elim
      (λ (e : z ≡ y). subst (λ (j : ℕ). PairsAt s t j (get_or (raised v (view_index s y) a) (view_index s j) 0) (get_or (raised w (view_index s y) b) (view_index s j) 0)) (sym e) here)
      (λ (e : z ≡ y → ⊥).
      subst (λ (i : ℕ). PairsAt s t z i (get_or (raised w (view_index s y) b) (view_index s z) 0)) (sym (get_or-raised_other v (view_index s y) a (view_index s z) (λ f. e (omega arith))))
      (subst (λ (i : ℕ). PairsAt s t z (get_or v (view_index s z) 0) i) (sym (get_or-raised_other w (view_index s y) b (view_index s z) (λ f. e (omega arith)))) (r.stamps z h)))
      (cases_eq z y);
}
  where
    here : PairsAt s t y (get_or (raised v (view_index s y) a) (view_index s y) 0) (get_or (raised w (view_index s y) b) (view_index s y) 0)
    here =
        subst (λ (i : ℕ). PairsAt s t y i (get_or (raised w (view_index s y) b) (view_index s y) 0)) (sym (get_or-raised_same v (view_index s y) a (omega (arith, r.locations))))
        (subst (λ (i : ℕ). PairsAt s t y (max (get_or v (view_index s y) 0) a) i) (sym (get_or-raised_same w (view_index s y) b (omega (arith, r.places, r.locations))))
        (pairs_max (messages s y) (messages t y) (get_or v (view_index s y) 0) (get_or w (view_index s y) 0) a b (o.first y l) (o.second y l) (r.stamps y l) p))

pub times_joined : (s t : Memory) (v w v' w' : List ℕ) → AreBothSorted s t → AreTimesAlike s t v w → AreTimesAlike s t v' w' → AreTimesAlike s t (joined v v') (joined w w')
times_joined s t v w v' w' o r q = record {
  places = length-joined w w' ∙ r.places ∙ sym (length-joined v v');
  locations = length-joined v v' ∙ r.locations;
  versions = λ x h. at_second x ∙ ap (λ (i : ℕ). max i (get_or w' x 0)) (r.versions x h) ∙ ap (max (get_or v x 0)) (q.versions x h) ∙ sym (at_first x);
  stamps = λ y h.
      subst (λ (i : ℕ). PairsAt s t y i (get_or (joined w w') (view_index s y) 0)) (sym (at_first (view_index s y)))
      (subst (λ (i : ℕ). PairsAt s t y (max (get_or v (view_index s y) 0) (get_or v' (view_index s y) 0)) i) (sym (at_second (view_index s y)))
      (pairs_max (messages s y) (messages t y) (get_or v (view_index s y) 0) (get_or w (view_index s y) 0) (get_or v' (view_index s y) 0) (get_or w' (view_index s y) 0) (o.first y h) (o.second y h) (r.stamps y h) (q.stamps y h)));
}
  where
    at_first : (x : ℕ) → get_or (joined v v') x 0 ≡ max (get_or v x 0) (get_or v' x 0)
    at_first x = get_or-joined v v' x (omega (arith, r.locations, q.locations))

    at_second : (x : ℕ) → get_or (joined w w') x 0 ≡ max (get_or w x 0) (get_or w' x 0)
    at_second x = get_or-joined w w' x (omega (arith, r.locations, q.locations, r.places, q.places))

pub views_raised : (s t : Memory) (v w : ThreadView) (y a b : ℕ) → AreBothSorted s t → y < length s.atomic → PairsAt s t y a b → AreViewsAlike s t v w
    → AreViewsAlike s t (raised_view v (view_index s y) a) (raised_view w (view_index s y) b)
views_raised s t v w y a b o l p r = record {
  cur = times_raised s t v.cur w.cur y a b o l p r.cur;
  got = times_raised s t v.got w.got y a b o l p r.got;
  rel = r.rel;
}

-- both hear of corresponding times
pub views_heard : (s t : Memory) (v w : ThreadView) (times times' : List ℕ) (order : Order) → AreBothSorted s t → AreTimesAlike s t times times' → AreViewsAlike s t v w
    → AreViewsAlike s t (heard v times (acquires order)) (heard w times' (acquires order))
views_heard s t v w times times' order o q r = record {
  cur = cond_related (AreTimesAlike s t) (acquires order) (acquires order) (joined v.cur times) v.cur (joined w.cur times') w.cur refl (times_joined s t v.cur w.cur times times' o r.cur q) r.cur;
  got = times_joined s t v.got w.got times times' o r.got q;
  rel = r.rel;
}

pub views_fenced : (s t : Memory) (v w : ThreadView) (order : Order) → AreViewsAlike s t v w → AreViewsAlike s t (fenced v order) (fenced w order)
views_fenced s t v w Rlx r = r
views_fenced s t v w Acq r = record { cur = r.got; got = r.got; rel = r.rel }
views_fenced s t v w Rel r = record { cur = r.cur; got = r.got; rel = r.cur }
views_fenced s t v w AcqRel r = record { cur = r.got; got = r.got; rel = r.got }

-- what a write hands on
pub times_handed_on : (s t : Memory) (v w : ThreadView) (y : ℕ) (order : Order) (a b : ℕ) → AreBothSorted s t → t.na ≡ s.na → y < length s.atomic → PairsAt s t y a b → AreViewsAlike s t v w
    → AreTimesAlike s t (message_times s v y order a) (message_times t w y order b)
times_handed_on s t v w y order a b o e l p r =
    cond_related (AreTimesAlike s t) (releases order) (releases order) v.cur (raised v.rel (view_index s y) a) w.cur (raised w.rel (view_index t y) b) refl r.cur
    (subst (λ (k : ℕ). AreTimesAlike s t (raised v.rel (view_index s y) a) (raised w.rel k b)) (sym (place_same s t y e)) (times_raised s t v.rel w.rel y a b o l p r.rel))
