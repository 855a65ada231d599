-- How events are played, and what the event of a step tells of its access.
use Rattle.std.proofs.Common.{◌≡◌, ℕ, Bool, true, false, Some, refl, sym, subst}
use Rattle.std.proofs.lemmas.Bool.{false≢true, true≢false, cond_both}
use Rattle.std.proofs.lemmas.Option.{none-some}
use Rattle.values_undef.specs.Access.{ends_thread, is_read}
use Rattle.values_undef.specs.declared.access.Access.{Access}
use Rattle.values_undef.specs.declared.access.Access.TheVariants as access
use Rattle.values_undef.specs.declared.access.Choice.{Choice}
use Rattle.values_undef.specs.declared.access.Choice.TheVariants.{Plain, Message, Place, Take}
use Rattle.values_undef.specs.declared.access.Event.{Event}
use Rattle.values_undef.specs.declared.access.Event.TheVariants.{NaRead, NaWrite, Read, Write, Update as Updated, Miss, Fence as Fenced, Print as Printed, Fail, FailCompare, Finish, Spend}
use Rattle.il_syntax.specs.declared.program.Program.{Program}
use Rattle.il_syntax.specs.declared.statement.Stmt.TheOpen.{Load}
use Rattle.il_syntax.specs.Statements.{Head}
use Rattle.views.specs.ThreadView.{ThreadView}
use Rattle.message_memory.specs.Memory.{Memory}
use Rattle.message_memory.specs.Step.{AdmitsChoice, read_at, meets_undef, is_racy, StepResult, step_result}
use Rattle.thread_core.specs.Asking.{loaded_location, ends_by}
use Rattle.view_machine.specs.State.{State}
use Rattle.refinement.specs.Playing.{PlaysAccess, PlaysLoad, PlaysEvent, at_load, is_plain_load}

-- an event is played as an access: one that reads a non-atomic location at a load
pub plays_access : (p : Program) (news : Bool) (i : ℕ) (e : Event) (s : State) (more : State → Type 0) → ends_thread e ≡ false → (is_read e ≡ true → at_load s i ≡ true) → PlaysAccess p i e s more → PlaysEvent p news i e s more
plays_access p news i (NaRead x v) s more h l q = subst (PlaysLoad p news i (NaRead x v) s more) (sym (l refl)) q
plays_access p news i (NaWrite x v n) s more h l q = q
plays_access p news i (Read y o v to) s more h l q = q
plays_access p news i (Write y o v from to) s more h l q = q
plays_access p news i (Updated y o old new read to) s more h l q = q
plays_access p news i (Miss y o old read) s more h l q = q
plays_access p news i (Fenced order) s more h l q = q
plays_access p news i (Printed v) s more h l q = q
plays_access p news i (Fail c) s more h l q = q
plays_access p news i (FailCompare y read) s more h l q = q
plays_access p news i Finish s more h l q = absurd (false≢true (sym h))
plays_access p news i Spend s more h l q = absurd (false≢true (sym h))

-- what loads is a load
pub load_head : (h : Head) (x : ℕ) → loaded_location h ≡ Some x → is_plain_load h ≡ true
load_head (Load r z) x e = refl
load_head h x e = absurd (none-some x e)

-- the event of an access is a read exactly where the access is a load
pub event_read : (m : Memory) (v : ThreadView) (i : ℕ) (a : Access) (c : Choice) → is_read (step_result m v i a c).event ≡ true → (x : ℕ) × (a ≡ access.NaRead x)
event_read m v i (access.NaRead x) c e = (x, refl)
event_read m v i (access.NaWrite x n) c e = absurd (cond_both (is_racy m v x) _ _ (λ (o : StepResult). is_read o.event ≡ true → ⊥) (λ b f. false≢true f) (λ b f. false≢true f) e)
event_read m v i (access.Read y order) Plain e = absurd (false≢true e)
event_read m v i (access.Read y order) (Message to) e = absurd (false≢true e)
event_read m v i (access.Read y order) (Place from to) e = absurd (false≢true e)
event_read m v i (access.Read y order) (Take read to) e = absurd (false≢true e)
event_read m v i (access.Write y order n) Plain e = absurd (false≢true e)
event_read m v i (access.Write y order n) (Message to) e = absurd (false≢true e)
event_read m v i (access.Write y order n) (Place from to) e = absurd (false≢true e)
event_read m v i (access.Write y order n) (Take read to) e = absurd (false≢true e)
event_read m v i (access.Update y order kind) Plain e = absurd (false≢true e)
event_read m v i (access.Update y order kind) (Message to) e = absurd (cond_both (meets_undef kind (read_at m y to).value) _ _ (λ (o : StepResult). is_read o.event ≡ true → ⊥) (λ b f. false≢true f) (λ b f. false≢true f) e)
event_read m v i (access.Update y order kind) (Place from to) e = absurd (false≢true e)
event_read m v i (access.Update y order kind) (Take read to) e = absurd (false≢true e)
event_read m v i (access.Fence order) c e = absurd (false≢true e)
event_read m v i (access.Print n) c e = absurd (false≢true e)
event_read m v i (access.Fail cause) c e = absurd (false≢true e)
event_read m v i access.Finish c e = absurd (false≢true e)
event_read m v i access.Spend c e = absurd (false≢true e)

-- the event of an access ends the thread only where the access does
pub event_goes : (m : Memory) (v : ThreadView) (i : ℕ) (a : Access) (c : Choice) → AdmitsChoice m v a c → ends_by a ≡ false → ends_thread (step_result m v i a c).event ≡ false
event_goes m v i (access.NaRead x) c q e = refl
event_goes m v i (access.NaWrite x n) c q e = cond_both (is_racy m v x) _ _ (λ (o : StepResult). ends_thread o.event ≡ false) (λ b. refl) (λ b. refl)
event_goes m v i (access.Read y order) (Message to) q e = refl
event_goes m v i (access.Write y order n) (Place from to) q e = refl
event_goes m v i (access.Update y order kind) (Message to) q e = cond_both (meets_undef kind (read_at m y to).value) _ _ (λ (o : StepResult). ends_thread o.event ≡ false) (λ b. refl) (λ b. refl)
event_goes m v i (access.Update y order kind) (Take read to) q e = refl
event_goes m v i (access.Fence order) c q e = refl
event_goes m v i (access.Print n) c q e = refl
event_goes m v i (access.Fail cause) c q e = refl
event_goes m v i access.Finish c q e = absurd (true≢false e)
event_goes m v i access.Spend c q e = absurd (true≢false e)
event_goes m v i (access.Read y order) _ q e = absurd q
event_goes m v i (access.Write y order n) _ q e = absurd q
event_goes m v i (access.Update y order kind) _ q e = absurd q
