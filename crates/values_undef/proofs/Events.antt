-- To be below is a preorder of events. What kind of event it is, its form tells.
use Rattle.std.proofs.Common.{◌≡◌, ℕ, true, false, List, [], ◌∷◌, refl, sym, ap, ◌∙◌}
use Rattle.std.proofs.lemmas.Bool.{false≢true, true≢false}
use Rattle.values_undef.specs.declared.value.Val.{Val}
use Rattle.values_undef.specs.declared.access.Event.{Event}
use Rattle.values_undef.specs.declared.access.Event.TheVariants.{NaRead, NaWrite, Read, Write, Update, Miss, Fence, Print, Fail, FailCompare, Finish, Spend}
use Rattle.values_undef.specs.Access.{is_failure, ends_thread, weight, is_read, is_finish, is_spend}
use Rattle.values_undef.specs.Journal.{printed}
use Rattle.values_undef.specs.Matching.{ValuesBelow, form_of, values_of, IsEventBelow, EventsAreOrdered, is_traced}
use Rattle.values_undef.proofs.Orders.{below_refl, below_trans}

pub values_refl : (vs : List Val) → ValuesBelow vs vs
values_refl [] = tt
values_refl (v ∷ vs) = (below_refl v, values_refl vs)

pub values_trans : (us vs ws : List Val) → ValuesBelow us vs → ValuesBelow vs ws → ValuesBelow us ws
values_trans [] [] [] p q = tt
values_trans [] [] (w ∷ ws) p q = absurd q
values_trans [] (v ∷ vs) ws p q = absurd p
values_trans (u ∷ us) [] ws p q = absurd p
values_trans (u ∷ us) (v ∷ vs) [] p q = absurd q
values_trans (u ∷ us) (v ∷ vs) (w ∷ ws) p q = (below_trans u v w p.0 q.0, values_trans us vs ws p.1 q.1)

pub event_refl : (e : Event) → IsEventBelow e e
event_refl e = record { form = refl; values = values_refl (values_of e) }

pub event_trans : (e f g : Event) → IsEventBelow e f → IsEventBelow f g → IsEventBelow e g
event_trans e f g p q = record {
  form = p.form ∙ q.form;
  values = values_trans (values_of e) (values_of f) (values_of g) p.values q.values;
}

pub events_ordered : EventsAreOrdered
events_ordered = record { reflexive = event_refl; transitive = event_trans }

-- ---- what the form of an event tells

-- what the form of each event tells is the same of two of which one is below the other
same_of_forms : {X : Type 0} (told : Event → X) → ((e : Event) → told (form_of e) ≡ told e) → (e f : Event) → IsEventBelow e f → told e ≡ told f
same_of_forms told by_form e f b = sym (by_form e) ∙ ap told b.form ∙ by_form f

form_traced : (e : Event) → is_traced (form_of e) ≡ is_traced e
form_traced (NaRead x v) = refl
form_traced e = refl

form_weight : (e : Event) → weight (form_of e) ≡ weight e
form_weight (NaRead x v) = refl
form_weight e = refl

form_failure : (e : Event) → is_failure (form_of e) ≡ is_failure e
form_failure (NaRead x v) = refl
form_failure e = refl

form_ends : (e : Event) → ends_thread (form_of e) ≡ ends_thread e
form_ends (NaRead x v) = refl
form_ends e = refl

form_finish : (e : Event) → is_finish (form_of e) ≡ is_finish e
form_finish (NaRead x v) = refl
form_finish e = refl

form_spend : (e : Event) → is_spend (form_of e) ≡ is_spend e
form_spend (NaRead x v) = refl
form_spend e = refl

form_printed : (thread : ℕ) (e : Event) → printed thread (form_of e) ≡ printed thread e
form_printed thread (NaRead x v) = refl
form_printed thread e = refl

pub traced_same : (e f : Event) → IsEventBelow e f → is_traced e ≡ is_traced f
traced_same = same_of_forms is_traced form_traced

pub weight_same : (e f : Event) → IsEventBelow e f → weight e ≡ weight f
weight_same = same_of_forms weight form_weight

pub failure_same : (e f : Event) → IsEventBelow e f → is_failure e ≡ is_failure f
failure_same = same_of_forms is_failure form_failure

pub ends_same : (e f : Event) → IsEventBelow e f → ends_thread e ≡ ends_thread f
ends_same = same_of_forms ends_thread form_ends

pub finish_same : (e f : Event) → IsEventBelow e f → is_finish e ≡ is_finish f
finish_same = same_of_forms is_finish form_finish

pub spend_same : (e f : Event) → IsEventBelow e f → is_spend e ≡ is_spend f
spend_same = same_of_forms is_spend form_spend

pub printed_same : (thread : ℕ) (e f : Event) → IsEventBelow e f → printed thread e ≡ printed thread f
printed_same thread = same_of_forms (printed thread) (form_printed thread)

-- ---- which kinds exclude each other

pub failure_traced : (e : Event) → is_failure e ≡ true → is_traced e ≡ true
failure_traced (NaRead x v) h = absurd (false≢true h)
failure_traced (NaWrite x v n) h = absurd (false≢true h)
failure_traced e h = refl

pub failure_weight : (e : Event) → is_failure e ≡ true → weight e ≡ 1
failure_weight Finish h = absurd (false≢true h)
failure_weight Spend h = absurd (false≢true h)
failure_weight e h = refl

pub failure_no_spend : (e : Event) → is_failure e ≡ true → is_spend e ≡ false
failure_no_spend Spend h = absurd (false≢true h)
failure_no_spend e h = refl

pub failure_prints_not : (thread : ℕ) (e : Event) → is_failure e ≡ true → printed thread e ≡ []
failure_prints_not thread (Print n) h = absurd (false≢true h)
failure_prints_not thread e h = refl

pub untraced_weight : (e : Event) → is_traced e ≡ false → weight e ≡ 1
untraced_weight Finish h = absurd (true≢false h)
untraced_weight Spend h = absurd (true≢false h)
untraced_weight e h = refl

pub untraced_goes : (e : Event) → is_traced e ≡ false → is_failure e ≡ false
untraced_goes (Fail cause) h = absurd (true≢false h)
untraced_goes (FailCompare y read) h = absurd (true≢false h)
untraced_goes e h = refl

pub untraced_no_spend : (e : Event) → is_traced e ≡ false → is_spend e ≡ false
untraced_no_spend Spend h = absurd (true≢false h)
untraced_no_spend e h = refl

pub untraced_finishes_not : (e : Event) → is_traced e ≡ false → is_finish e ≡ false
untraced_finishes_not Finish h = absurd (true≢false h)
untraced_finishes_not e h = refl

pub untraced_prints_not : (thread : ℕ) (e : Event) → is_traced e ≡ false → printed thread e ≡ []
untraced_prints_not thread (Print n) h = absurd (true≢false h)
untraced_prints_not thread e h = refl

pub goes_no_spend : (e : Event) → ends_thread e ≡ false → is_spend e ≡ false
goes_no_spend Spend h = absurd (true≢false h)
goes_no_spend e h = refl

pub end_is_finish : (e : Event) → ends_thread e ≡ true → is_spend e ≡ false → e ≡ Finish
end_is_finish Finish h q = refl
end_is_finish Spend h q = absurd (true≢false q)
end_is_finish (NaRead x v) h q = absurd (false≢true h)
end_is_finish (NaWrite x v n) h q = absurd (false≢true h)
end_is_finish (Read y o v to) h q = absurd (false≢true h)
end_is_finish (Write y o v from to) h q = absurd (false≢true h)
end_is_finish (Update y o old new read to) h q = absurd (false≢true h)
end_is_finish (Miss y o old read) h q = absurd (false≢true h)
end_is_finish (Fence order) h q = absurd (false≢true h)
end_is_finish (Print v) h q = absurd (false≢true h)
end_is_finish (Fail c) h q = absurd (false≢true h)
end_is_finish (FailCompare y read) h q = absurd (false≢true h)

pub is_nonatomic_read : (e : Event) → is_read e ≡ true → (x : ℕ) × (v : Val) × (e ≡ NaRead x v)
is_nonatomic_read (NaRead x v) h = (x, v, refl)
is_nonatomic_read (NaWrite x v n) h = absurd (false≢true h)
is_nonatomic_read (Read y o v to) h = absurd (false≢true h)
is_nonatomic_read (Write y o v from to) h = absurd (false≢true h)
is_nonatomic_read (Update y o old new read to) h = absurd (false≢true h)
is_nonatomic_read (Miss y o old read) h = absurd (false≢true h)
is_nonatomic_read (Fence order) h = absurd (false≢true h)
is_nonatomic_read (Print v) h = absurd (false≢true h)
is_nonatomic_read (Fail c) h = absurd (false≢true h)
is_nonatomic_read (FailCompare y read) h = absurd (false≢true h)
is_nonatomic_read Finish h = absurd (false≢true h)
is_nonatomic_read Spend h = absurd (false≢true h)
