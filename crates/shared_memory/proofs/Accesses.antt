-- An access, from what its steps tell.
use Rattle.std.proofs.Common.{◌≡◌, ℕ, ◌<◌, ◌*◌, List, [], ◌∷◌, ◌++◌, length, refl, sym, ap, ◌∙◌, subst}
use mathlib.Core.List.{IsPrefix}
use Rattle.atomic_table.specs.Seated.{TableId}
use Rattle.values_undef.specs.declared.access.Access.{Access}
use Rattle.values_undef.specs.Access.{choice_of_event}
use Rattle.views.specs.ThreadView.{ThreadView}
use Rattle.message_memory.specs.declared.history.Call.{Call}
use Rattle.message_memory.specs.History.{calls_by}
use Rattle.chooser.specs.Chosen.{IsChosen, chooser_after}
use Rattle.shared_memory.specs.declared.params.SharedParams.{SharedParams}
use Rattle.shared_memory.specs.declared.slot.Answer.{Answer}
use Rattle.shared_memory.specs.declared.slot.Answer.TheVariants.{Done, Stopped}
use Rattle.shared_memory.specs.Slot.{memory_with, view_with, call_of}
use Rattle.shared_memory.specs.Answers.{FailsAt, Answers}
use Rattle.shared_memory.specs.Turns.{Seated, seen_of, carried_calls, at_rest, in_turn, Locked}
use Rattle.shared_memory.specs.Passes.{PassValue, pass_value, IsInTurn, IsAnswered, IsPass, Accessed}
use Rattle.message_memory.proofs.Callers.{calls_by-append, calls_by-own}
use Rattle.shared_memory.proofs.Histories.{view_stays}

abbrev value : TableId → SharedParams → ℕ → ThreadView → List Call → PassValue
value id params thread view seen = record { id = id; params = params; thread = thread; view = view; seen = seen }

-- what is known once the turn is taken
pub record Taken (i : ℕ) (view : ThreadView) (m m1 : Seated) : Type 0 where
  pub seat : IsInTurn m1 i
  pub params : m1.0.params ≡ m.0.params
  pub begins : IsPrefix (seen_of m.0) (seen_of m1.0)
  pub own : calls_by i (seen_of m.0) ≡ calls_by i (seen_of m1.0)
  pub view_is : view ≡ view_with m1.0.params (seen_of m1.0) i
  pub there : i < m1.0.params.threads
  pub room : length (calls_by i (seen_of m.0)) < m.0.params.share → length (seen_of m1.0) < m1.0.params.threads * m1.0.params.share

pub lock_tells : (i : ℕ) (view : ThreadView) (m m1 : Seated) → IsPass m i view → Locked m.0 m1 → Taken i view m m1
lock_tells i view m m1 p t =
    let first : m.0.first ≡ i = ap (λ (x : Seated). x.0.first) p.rest in
    let params : m1.0.params ≡ m.0.params = ap (λ (x : Seated). x.0.params) t.seat in
    let own : calls_by i (seen_of m.0) ≡ calls_by i (seen_of m1.0) = subst (λ (k : ℕ). calls_by k (seen_of m.0) ≡ calls_by k (seen_of m1.0)) first t.own in record {
      seat = t.seat ∙ (λ j. in_turn (sym params j) (first j) (seen_of m1.0) (seen_of m1.0));
      params = params;
      begins = t.begins;
      own = own;
      view_is = p.view_is ∙ (view_stays m.0.params (seen_of m1.0) i (seen_of m.0) t.begins own ∙ ap (λ (b : SharedParams). view_with b (seen_of m1.0) i) (sym params));
      there = subst (λ (x : ℕ × SharedParams). x.0 < x.1.threads) (λ j. (first j, sym params j)) t.named;
      room = λ less. subst (λ (b : SharedParams). length (seen_of m1.0) < b.threads * b.share) (sym params) (t.room (subst (λ (k : ℕ). length (calls_by k (seen_of m.0)) < m.0.params.share) (sym first) less));
    }

module _ {C : Type 0} (ask : C → ℕ → ℕ → ℕ) (go : C → ℕ → ℕ → C) where
  accessed_at : (id next : TableId) (a : SharedParams) (i silent : ℕ) (view view' : ThreadView) (access : Access) (chooser chooser' : C) (S H calls : List Call) (answer : Answer) → IsPrefix S H → calls_by i S ≡ calls_by i H → view ≡ view_with a H i
      → Answers ask go a H i silent access chooser answer calls view view' chooser' → Accessed ask go (value id a i view S) silent access chooser answer (value next a i view' calls) chooser'
  accessed_at id next a i silent view view' access chooser chooser' S H calls (Done event) begins own is told =
      let c : Call = call_of i silent access event in record {
        before = H;
        begins = begins;
        seen = told.calls;
        history = told.history;
        own = ap (calls_by i) told.calls ∙ (calls_by-append i H (c ∷ []) ∙ (λ j. sym own j ++ calls_by-own i c refl j));
        chosen = subst (λ (v : ThreadView). IsChosen ask (memory_with a H) v access chooser i (choice_of_event event)) is told.chosen;
        chooser_is = told.chooser_is ∙ ap (λ (v : ThreadView). chooser_after go (memory_with a H) v access chooser i) is;
        view_is = told.view_is;
      }
  accessed_at id next a i silent view view' access chooser chooser' S H calls (Stopped place) begins own is told = (
    record {
      seen = subst (IsPrefix S) (sym told.calls) begins;
      history = told.history;
      fails = subst (λ (l : List Call). FailsAt l place) (sym told.calls) told.fails;
      own = ap (calls_by i) told.calls ∙ sym own;
      view_is = told.view_is;
    },
    told.chooser_is,
  )

  -- after a call the view is still that of the thread
  view_after_call : (a : SharedParams) (i silent : ℕ) (view view' : ThreadView) (access : Access) (chooser chooser' : C) (H calls : List Call) (answer : Answer) → view ≡ view_with a H i
      → Answers ask go a H i silent access chooser answer calls view view' chooser' → view' ≡ view_with a calls i
  view_after_call a i silent view view' access chooser chooser' H calls (Done event) is told = told.view_is
  view_after_call a i silent view view' access chooser chooser' H calls (Stopped place) is told = told.view_is ∙ (is ∙ ap (λ (l : List Call). view_with a l i) (sym told.calls))

  -- what the steps of one access tell: the seat at rest, with the turn, after the call and at rest again
  pub record Steps (id : TableId) (i silent : ℕ) (view view' : ThreadView) (access : Access) (chooser chooser' : C) (answer : Answer) (m m1 m2 m3 : Seated) : Type 0 where
    pub pass : IsPass m i view
    pub locked : Locked m.0 m1
    pub seat : m2 ≡ in_turn m1.0.params i (seen_of m1.0) (carried_calls m2.1)
    pub answers : Answers ask go m1.0.params (seen_of m1.0) i silent access chooser answer (carried_calls m2.1) view view' chooser'
    pub rest : m3 ≡ at_rest m2.0.params i (carried_calls m2.1)

  -- the seat after the call is answered as `finish` asks
  pub answered : (i silent : ℕ) (view view' : ThreadView) (access : Access) (chooser chooser' : C) (m m1 m2 : Seated) (answer : Answer) → Taken i view m m1 → length (calls_by i (seen_of m.0)) < m.0.params.share
      → m2 ≡ in_turn m1.0.params i (seen_of m1.0) (carried_calls m2.1) → Answers ask go m1.0.params (seen_of m1.0) i silent access chooser answer (carried_calls m2.1) view view' chooser' → IsAnswered m2 i answer
  answered i silent view view' access chooser chooser' m m1 m2 (Done event) t less seat told =
      let params : m2.0.params ≡ m1.0.params = ap (λ (x : Seated). x.0.params) seat in
      let seen : seen_of m2.0 ≡ seen_of m1.0 = ap (λ (x : Seated). seen_of x.0) seat in (
        call_of i silent access event,
        record {
          seat = seat ∙ (λ j. in_turn (sym params j) i (sym seen j) (carried_calls m2.1));
          calls = told.calls ∙ ap (λ l. l ++ call_of i silent access event ∷ []) (sym seen);
          own = refl;
          share = subst (λ (x : List Call × SharedParams). length x.0 < x.1.share) (λ j. ((t.own ∙ ap (calls_by i) (sym seen)) j, (sym t.params ∙ sym params) j)) less;
        },
      )
  answered i silent view view' access chooser chooser' m m1 m2 (Stopped place) t less seat told =
      let params : m2.0.params ≡ m1.0.params = ap (λ (x : Seated). x.0.params) seat in
      let seen : seen_of m2.0 ≡ seen_of m1.0 = ap (λ (x : Seated). seen_of x.0) seat in
      let same : carried_calls m2.1 ≡ seen_of m2.0 = told.calls ∙ sym seen in
      (seat ∙ (λ j. in_turn (sym params j) i (sym seen j) (same j)), same)

  module _ (id : TableId) (i silent : ℕ) (view view' : ThreadView) (access : Access) (chooser chooser' : C) (answer : Answer) (m m1 m2 m3 : Seated) (s : Steps id i silent view view' access chooser chooser' answer m m1 m2 m3) where
    abbrev params_after : m3.0.params ≡ m.0.params
    params_after = ap (λ (x : Seated). x.0.params) s.rest ∙ (ap (λ (x : Seated). x.0.params) s.seat ∙ (lock_tells i view m m1 s.pass s.locked).params)

    pub pass_after : IsPass m3 i view'
    pass_after =
        let t = lock_tells i view m m1 s.pass s.locked in
        let params : m3.0.params ≡ m1.0.params = ap (λ (x : Seated). x.0.params) s.rest ∙ ap (λ (x : Seated). x.0.params) s.seat in
        let seen : seen_of m3.0 ≡ carried_calls m2.1 = ap (λ (x : Seated). seen_of x.0) s.rest in record {
          rest = s.rest ∙ (λ j. at_rest (sym (ap (λ (x : Seated). x.0.params) s.rest) j) i (sym seen j));
          named = s.pass.named;
          view_is = view_after_call m1.0.params i silent view view' access chooser chooser' (seen_of m1.0) (carried_calls m2.1) answer t.view_is s.answers ∙ (λ j. view_with (sym params j) (sym seen j) i);
        }

    pub accessed : (next : TableId) → Accessed ask go (pass_value id m i view) silent access chooser answer (pass_value next m3 i view') chooser'
    accessed next =
        let t = lock_tells i view m m1 s.pass s.locked in
        let seen : seen_of m3.0 ≡ carried_calls m2.1 = ap (λ (x : Seated). seen_of x.0) s.rest in
        let told = subst (λ (b : SharedParams). Answers ask go b (seen_of m1.0) i silent access chooser answer (carried_calls m2.1) view view' chooser') t.params s.answers in
        subst (λ (x : PassValue). Accessed ask go (value id m.0.params i view (seen_of m.0)) silent access chooser answer x chooser') (λ j. value next (sym params_after j) i view' (sym seen j))
        (accessed_at id next m.0.params i silent view view' access chooser chooser' (seen_of m.0) (seen_of m1.0) (carried_calls m2.1) answer t.begins t.own
        (t.view_is ∙ ap (λ (b : SharedParams). view_with b (seen_of m1.0) i) t.params) told)
