-- Lemmas on what a thread knows.
use Rattle.std.proofs.Common.{◌≡◌, ℕ, ◌<◌, max, Bool, true, false, List, length, get_or, replicate, refl, sym, ap, ◌∙◌, arith, ⊎_elim}
use Rattle.std.proofs.lemmas.Bool.{cases_eq}
use Rattle.values_undef.specs.declared.access.Order.{Order}
use Rattle.values_undef.specs.declared.access.Order.TheVariants.{Rlx, Acq, Rel, AcqRel}
use Rattle.views.specs.Timestamps.{raised, joined, IsPointwiseBelow}
use Rattle.views.specs.ThreadView.{ThreadView, IsOrdered, zero_view, raised_view, heard, fenced}
use Rattle.views.specs.Laws.{SeeingRises, HearingRises, FencesRise, FencesAcquire}
use Rattle.views.proofs.ViewLemmas.{length-raised, length-joined, below_trans, below_set, get_or-raised_same, get_or-raised_other, get_or-joined_within, joined_ge}

-- ---- timestamps

pub below_same : (v : List ℕ) → IsPointwiseBelow v v
below_same v = λ k h. omega arith

pub raised_mono : (v w : List ℕ) (i t : ℕ) → length w ≡ length v → IsPointwiseBelow v w → IsPointwiseBelow (raised v i t) (raised w i t)
raised_mono v w i t l p = λ k h.
    let k_in : k < length v = omega (arith, length-raised v i t) in
    ⊎_elim
    (λ (e : k ≡ i).
    let i_in : i < length v = omega arith in
    let i_in_w : i < length w = omega arith in
    omega (
      arith,
      ap (λ (j : ℕ). get_or (raised v i t) j 0) e,
      ap (λ (j : ℕ). get_or (raised w i t) j 0) e,
      get_or-raised_same v i t i_in,
      get_or-raised_same w i t i_in_w,
      p i i_in,
    ))
    (λ (e : k ≡ i → ⊥). omega (arith, get_or-raised_other v i t k e, get_or-raised_other w i t k e, p k k_in))
    (cases_eq k i)

pub joined_mono : (v w m : List ℕ) → length w ≡ length v → IsPointwiseBelow v w → IsPointwiseBelow (joined v m) (joined w m)
joined_mono v w m l p = λ k h.
    let k_in : k < length v = omega (arith, length-joined v m) in
    let k_in_w : k < length w = omega arith in
    omega (arith, get_or-joined_within v m k k_in, get_or-joined_within w m k k_in_w, p k k_in)

pub below_joined : (v m : List ℕ) → IsPointwiseBelow v (joined v m)
below_joined v m = λ k h. joined_ge v m k

-- ---- parts of a view stay ordered

pub zero_ordered : (n : ℕ) → IsOrdered (zero_view n)
zero_ordered n = record { got_length = refl; rel_length = refl; got_above = below_same (replicate n 0); rel_below = below_same (replicate n 0) }

pub raised_ordered : (v : ThreadView) (i t : ℕ) → IsOrdered v → IsOrdered (raised_view v i t)
raised_ordered v i t o = record {
  got_length = length-raised v.got i t ∙ o.got_length ∙ sym (length-raised v.cur i t);
  rel_length = o.rel_length ∙ sym (length-raised v.cur i t);
  got_above = raised_mono v.cur v.got i t o.got_length o.got_above;
  rel_below = below_trans v.rel v.cur (raised v.cur i t) (omega (arith, o.rel_length)) o.rel_below (below_set v.cur i (max (get_or v.cur i 0) t) (omega arith));
}

pub heard_ordered : (v : ThreadView) (m : List ℕ) (acquire : Bool) → IsOrdered v → IsOrdered (heard v m acquire)
heard_ordered v m true o = record {
  got_length = length-joined v.got m ∙ o.got_length ∙ sym (length-joined v.cur m);
  rel_length = o.rel_length ∙ sym (length-joined v.cur m);
  got_above = joined_mono v.cur v.got m o.got_length o.got_above;
  rel_below = below_trans v.rel v.cur (joined v.cur m) (omega (arith, o.rel_length)) o.rel_below (below_joined v.cur m);
}
heard_ordered v m false o = record {
  got_length = length-joined v.got m ∙ o.got_length;
  rel_length = o.rel_length;
  got_above = below_trans v.cur v.got (joined v.got m) (omega (arith, o.got_length)) o.got_above (below_joined v.got m);
  rel_below = o.rel_below;
}

pub fenced_ordered : (v : ThreadView) (order : Order) → IsOrdered v → IsOrdered (fenced v order)
fenced_ordered v Rlx o = o
fenced_ordered v Acq o = record {
  got_length = refl;
  rel_length = o.rel_length ∙ sym o.got_length;
  got_above = below_same v.got;
  rel_below = below_trans v.rel v.cur v.got (omega (arith, o.rel_length)) o.rel_below o.got_above;
}
fenced_ordered v Rel o = record { got_length = o.got_length; rel_length = refl; got_above = o.got_above; rel_below = below_same v.cur }
fenced_ordered v AcqRel o = record { got_length = refl; rel_length = refl; got_above = below_same v.got; rel_below = below_same v.got }

-- ---- views rise

pub seeing_rises : SeeingRises
seeing_rises v i t = record {
  cur = below_set v.cur i (max (get_or v.cur i 0) t) (omega arith);
  got = below_set v.got i (max (get_or v.got i 0) t) (omega arith);
  rel = below_same v.rel;
}

pub hearing_rises : HearingRises
hearing_rises v m true = record { cur = below_joined v.cur m; got = below_joined v.got m; rel = below_same v.rel }
hearing_rises v m false = record { cur = below_same v.cur; got = below_joined v.got m; rel = below_same v.rel }

pub fences_rise : FencesRise
fences_rise v Rlx o = record { cur = below_same v.cur; got = below_same v.got; rel = below_same v.rel }
fences_rise v Acq o = record { cur = o.got_above; got = below_same v.got; rel = below_same v.rel }
fences_rise v Rel o = record { cur = below_same v.cur; got = below_same v.got; rel = o.rel_below }
fences_rise v AcqRel o = record {
  cur = o.got_above;
  got = below_same v.got;
  rel = below_trans v.rel v.cur v.got (omega (arith, o.rel_length)) o.rel_below o.got_above;
}

pub fences_acquire : FencesAcquire
fences_acquire v m e = λ i. record { cur = joined (sym e i) m; got = joined v.got m; rel = v.rel }

-- ---- lengths

pub length-heard : (v : ThreadView) (m : List ℕ) (acquire : Bool) → length (heard v m acquire).cur ≡ length v.cur
length-heard v m true = length-joined v.cur m
length-heard v m false = refl

pub length-fenced : (v : ThreadView) (order : Order) → IsOrdered v → length (fenced v order).cur ≡ length v.cur
length-fenced v Rlx o = refl
length-fenced v Acq o = o.got_length
length-fenced v Rel o = refl
length-fenced v AcqRel o = o.got_length
