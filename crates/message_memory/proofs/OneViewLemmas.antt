-- Without a fence a step is that of the memory in which a thread has one view.
use Rattle.std.proofs.Common.{◌≡◌, ℕ, ◌+◌, Bool, true, false, cond, List, replicate, refl, sym, ap, ◌∙◌}
use Rattle.std.proofs.lemmas.Bool.{false≢true}
use Rattle.values_undef.specs.Access.{acquires, releases}
use Rattle.values_undef.specs.declared.value.Val.{Val}
use Rattle.values_undef.specs.declared.access.Order.{Order}
use Rattle.values_undef.specs.declared.access.UpdateKind.{UpdateKind}
use Rattle.values_undef.specs.declared.access.Access.{Access}
use Rattle.values_undef.specs.declared.access.Access.TheVariants.{NaRead, NaWrite, Read, Write, Update, Fence, Print, Fail, Finish, Spend}
use Rattle.values_undef.specs.declared.access.Choice.{Choice}
use Rattle.values_undef.specs.declared.access.Choice.TheVariants.{Plain, Message, Place, Take}
use Rattle.views.specs.Timestamps.{raised, joined}
use Rattle.views.specs.ThreadView.{ThreadView, raised_view}
use Rattle.views.proofs.Callers.{length-raised, length-heard}
use Rattle.message_memory.specs.declared.message.Message.{Message as TheMessage}
use Rattle.message_memory.specs.Memory.{Memory, location_in, view_index, with_message}
use Rattle.message_memory.specs.Step.{AdmitsChoice, view_after_read, message_times, write_message, update_message, read_at, meets_undef, is_racy, StepResult}
use Rattle.message_memory.specs.OneView.{OneViewAdmits, one_message_view, one_write_message, one_update_message, OneViewResult}
use Rattle.message_memory.specs.OneViewLaws.{is_fence, CarriesNothing, IsSameResult, ChoicesAreOfOneView, ResultsAreOfOneView}

-- ---- choices

admits_more : (m : Memory) (v : ThreadView) (a : Access) (c : Choice) → OneViewAdmits m v.cur a c → AdmitsChoice m v a c
admits_more m v (NaRead x) Plain h = h
admits_more m v (NaWrite x n) Plain h = h
admits_more m v (Read y order) (Message to) h = h
admits_more m v (Write y order n) (Place from to) h = h
admits_more m v (Update y order kind) (Message to) h = h
admits_more m v (Update y order kind) (Take read to) h = h
admits_more m v (Print n) Plain h = h
admits_more m v (Fail cause) Plain h = h
admits_more m v Finish Plain h = h
admits_more m v Spend Plain h = h
admits_more m v _ _ h = absurd h

admits_less : (m : Memory) (v : ThreadView) (a : Access) (c : Choice) → is_fence a ≡ false → AdmitsChoice m v a c → OneViewAdmits m v.cur a c
admits_less m v (NaRead x) Plain f h = h
admits_less m v (NaWrite x n) Plain f h = h
admits_less m v (Read y order) (Message to) f h = h
admits_less m v (Write y order n) (Place from to) f h = h
admits_less m v (Update y order kind) (Message to) f h = h
admits_less m v (Update y order kind) (Take read to) f h = h
admits_less m v (Fence order) Plain f h = absurd (false≢true (sym f))
admits_less m v (Print n) Plain f h = h
admits_less m v (Fail cause) Plain f h = h
admits_less m v Finish Plain f h = h
admits_less m v Spend Plain f h = h
admits_less m v _ _ f h = absurd h

pub choices_of_one_view : ChoicesAreOfOneView
choices_of_one_view m v a c f =
    (λ h. record { running = h.running; admits = admits_more m v a c h.admits }, λ h. record { running = h.running; admits = admits_less m v a c f h.admits })

-- ---- what comes of them

-- the view after a read, whose `cur` is the one view by definition
read_carries : (m : Memory) (v : ThreadView) (y : ℕ) (order : Order) (to : ℕ) (old : TheMessage) → CarriesNothing v → CarriesNothing (view_after_read m v y order to old)
read_carries m v y order to old e =
    e ∙ ap (λ (n : ℕ). replicate n 0) (sym (length-heard (raised_view v (view_index m y) to) old.times (acquires order) ∙ length-raised v.cur (view_index m y) to))

raised_carries : (v : ThreadView) (i t : ℕ) → CarriesNothing v → CarriesNothing (raised_view v i t)
raised_carries v i t e = e ∙ ap (λ (n : ℕ). replicate n 0) (sym (length-raised v.cur i t))

handed_on : (m : Memory) (after : ThreadView) (y : ℕ) (order : Order) (to : ℕ) → CarriesNothing after → one_message_view m after.cur y order to ≡ message_times m after y order to
handed_on m after y order to e = ap (λ (rel : List ℕ). cond (releases order) after.cur (raised rel (view_index m y) to)) (sym e)

written : (m : Memory) (v : ThreadView) (y : ℕ) (order : Order) (n : Val) (from to : ℕ) → CarriesNothing v → one_write_message m v.cur y order n from to ≡ write_message m v y order n from to
written m v y order n from to e = λ i. record { from = from; to = to; value = n; times = handed_on m (raised_view v (view_index m y) to) y order to (raised_carries v (view_index m y) to e) i }

replaced : (m : Memory) (v : ThreadView) (y : ℕ) (order : Order) (kind : UpdateKind) (old : TheMessage) (read to : ℕ) → CarriesNothing v → one_update_message m v.cur y order kind old read to ≡ update_message m v y order kind old read to
replaced m v y order kind old read to e = λ i. record {
  from = read;
  to = to;
  value = (update_message m v y order kind old read to).value;
  times = joined (handed_on m (view_after_read m v y order to old) y order to (read_carries m v y order to old e) i) old.times;
}

same_either : (b : Bool) (o p : OneViewResult) (r s : StepResult) → IsSameResult o r → IsSameResult p s → IsSameResult (cond b o p) (cond b r s)
same_either true o p r s h k = h
same_either false o p r s h k = k

pub results_of_one_view : ResultsAreOfOneView
results_of_one_view m v i (NaRead x) c f e = record { event = refl; memory = refl; view = refl; carried = e }
results_of_one_view m v i (NaWrite x n) c f e =
    same_either (is_racy m v x) _ _ _ _
    (record { event = refl; memory = refl; view = refl; carried = e })
    (record { event = refl; memory = refl; view = refl; carried = raised_carries v x ((location_in m x).version + 1) e })
results_of_one_view m v i (Read y order) (Message to) f e = record { event = refl; memory = refl; view = refl; carried = read_carries m v y order to (read_at m y to) e }
results_of_one_view m v i (Write y order n) (Place from to) f e = record {
  event = refl;
  memory = ap (with_message m y) (written m v y order n from to e);
  view = refl;
  carried = raised_carries v (view_index m y) to e;
}
results_of_one_view m v i (Update y order kind) (Message to) f e =
    same_either (meets_undef kind (read_at m y to).value) _ _ _ _
    (record { event = refl; memory = refl; view = refl; carried = e })
    (record { event = refl; memory = refl; view = refl; carried = read_carries m v y order to (read_at m y to) e })
results_of_one_view m v i (Update y order kind) (Take read to) f e = record {
  event = refl;
  memory = ap (with_message m y) (replaced m v y order kind (read_at m y read) read to e);
  view = refl;
  carried = read_carries m v y order to (read_at m y read) e;
}
results_of_one_view m v i (Fence order) c f e = absurd (false≢true (sym f))
results_of_one_view m v i (Print n) c f e = record { event = refl; memory = refl; view = refl; carried = e }
results_of_one_view m v i (Fail cause) c f e = record { event = refl; memory = refl; view = refl; carried = e }
results_of_one_view m v i Finish c f e = record { event = refl; memory = refl; view = refl; carried = e }
results_of_one_view m v i Spend c f e = record { event = refl; memory = refl; view = refl; carried = e }
results_of_one_view m v i _ _ f e = record { event = refl; memory = refl; view = refl; carried = e }
