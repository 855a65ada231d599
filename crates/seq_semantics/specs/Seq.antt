-- SEQ: one function alone, and its steps. Each is given by two functions of the state, what is seen of
-- it and the state after it.
use Rattle.std.specs.Prelude.{ℕ, Bool, true, false, List, map, Option, Some, None, slice_index_or, slice_set, if◌then◌else◌}
use Rattle.values_undef.specs.declared.value.Val.{Val}
use Rattle.values_undef.specs.declared.value.Val.TheVariants.{Def, Undef}
use Rattle.values_undef.specs.declared.access.Order.{Order}
use Rattle.values_undef.specs.declared.access.Cause.TheVariants as cause
use Rattle.values_undef.specs.declared.access.UpdateKind.{UpdateKind}
use Rattle.values_undef.specs.declared.access.Access.{Access}
use Rattle.values_undef.specs.declared.access.Access.TheVariants as access
use Rattle.values_undef.specs.Access.{acquires, releases}
use Rattle.values_undef.specs.Update.{succeeds, meets_undef, updated}
use Rattle.il_syntax.specs.declared.statement.Stmt.TheOpen.{Skip, Copy, Compute, Load, Store, AtomicLoad, AtomicStore, Update, Fence, Print, If, While, Call}
use Rattle.il_syntax.specs.declared.program.Program.{Program}
use Rattle.il_syntax.specs.Statements.{Head}
use Rattle.il_paths.specs.Code.{first_head}
use Rattle.il_paths.specs.Heads.{is_release_order}
use Rattle.thread_core.specs.declared.next.Next.{Next}
use Rattle.thread_core.specs.declared.next.Next.TheVariants as next
use Rattle.thread_core.specs.Frames.{Frame, evaluated, evaluated_kind, gave, passed, worked, called, function_result, next_at, target, told}
use Rattle.seq_semantics.specs.declared.place.Perm.{Perm}
use Rattle.seq_semantics.specs.declared.place.Perm.TheVariants.{Bare, Shared, Owned}
use Rattle.seq_semantics.specs.declared.place.Place.{Place}
use Rattle.seq_semantics.specs.declared.place.Course.{Course}
use Rattle.seq_semantics.specs.declared.place.Course.TheVariants.{Running, AtEnd, HasFailed}
use Rattle.seq_semantics.specs.declared.seen.Wants.{Wants}
use Rattle.seq_semantics.specs.declared.seen.Wants.TheVariants as want
use Rattle.seq_semantics.specs.declared.seen.Seen.{Seen}
use Rattle.seq_semantics.specs.declared.seen.Seen.TheVariants as seen

pub record Seq : Type 0 where
  pub frame : Frame
  pub places : List Place
  pub course : Course

-- A location; one that isn't there is bare.
abbrev pub place_in : List Place → ℕ → Place
place_in places x = slice_index_or places x (record { permission = Bare; value = Undef })

abbrev pub with_place : Seq → ℕ → Perm → Val → Seq
with_place s x permission value = record s { places = slice_set s.places x (record { permission = permission; value = value }) }

abbrev pub is_bare : Perm → Bool
is_bare Bare = true
is_bare Shared = false
is_bare Owned = false

-- what a load gives
abbrev pub loaded_from : Place → Val
loaded_from place = if is_bare place.permission then Undef else place.value

-- the environment may take what was owned
abbrev pub lowered_permission : Perm → Perm
lowered_permission Bare = Bare
lowered_permission Shared = Shared
lowered_permission Owned = Shared

abbrev pub lowered_place : Place → Place
lowered_place place = record place { permission = lowered_permission place.permission }

abbrev pub lowered : List Place → List Place
lowered = map lowered_place

-- after a statement that may release
abbrev pub released : Bool → List Place → List Place
released release places = if release then lowered places else places

abbrev pub lowered_if : Bool → Seq → Seq
lowered_if release s = record s { places = released release s.places }

abbrev pub with_frame : Seq → Frame → Seq
with_frame s frame = record s { frame = frame }

abbrev pub over : Seq → Course → Seq
over s course = record s { course = course }

abbrev pub head_in : Seq → Option Head
head_in s = first_head s.frame.continuation

-- What a statement waits for.
abbrev pub wanted_at : Head → Wants
wanted_at Skip = want.Step
wanted_at (Copy r a) = want.Step
wanted_at (Compute r op a b) = want.Step
wanted_at (Load r x) = want.Step
wanted_at (Store x a) = want.Step
wanted_at (AtomicLoad r order y) = want.Value
wanted_at (AtomicStore order y a) = want.Step
wanted_at (Update r order y kind) = want.Value
wanted_at (Fence order) = if acquires order then want.Fence else want.Step
wanted_at (Print a) = want.Step
wanted_at (If a first second) = want.Step
wanted_at (While a body) = want.Step
wanted_at (Call r function args) = want.Value

abbrev pub wanted_by : Option Head → Wants
wanted_by None = want.Step
wanted_by (Some head) = wanted_at head

abbrev pub wants_of : Seq → Wants
wants_of s = elim s.course [ Running ↦ wanted_by (head_in s) | AtEnd ↦ want.Ended | HasFailed ↦ want.Ended ]

-- A step, where one is wanted.

-- a store of a value
abbrev pub stored_to : Seq → ℕ → Val → Bool → Seq
stored_to s x v bare = if bare then over s HasFailed else with_place (with_frame s (passed s.frame true)) x Owned v

abbrev pub access_seen : Seq → Access → Seen
access_seen s (access.NaRead x) = seen.Plain
access_seen s (access.NaWrite x v) = if is_bare (place_in s.places x).permission then seen.Failed false (Some cause.RacyWrite) else seen.Plain
access_seen s (access.Read y order) = seen.Silent
access_seen s (access.Write y order v) = seen.Write y order v
access_seen s (access.Update y order kind) = seen.Silent
access_seen s (access.Fence order) = seen.Fence order
access_seen s (access.Print v) = seen.Print v
access_seen s (access.Fail why) = seen.Failed false (Some why)
access_seen s access.Finish = seen.Silent
access_seen s access.Spend = seen.Silent

abbrev pub after_seq_access : Seq → Head → Access → Seq
after_seq_access s head (access.NaRead x) = with_frame s (told s.frame (target head) (Some (loaded_from (place_in s.places x))))
after_seq_access s head (access.NaWrite x v) = stored_to s x v (is_bare (place_in s.places x).permission)
after_seq_access s head (access.Read y order) = s
after_seq_access s head (access.Write y order v) = lowered_if (is_release_order order) (with_frame s (passed s.frame true))
after_seq_access s head (access.Update y order kind) = s
after_seq_access s head (access.Fence order) = lowered_if (releases order) (with_frame s (passed s.frame true))
after_seq_access s head (access.Print v) = with_frame s (passed s.frame true)
after_seq_access s head (access.Fail why) = over s HasFailed
after_seq_access s head access.Finish = s
after_seq_access s head access.Spend = s

abbrev pub seen_by_next : Seq → Next → Seen
seen_by_next s next.Silent = seen.Silent
seen_by_next s (next.Access a) = access_seen s a

abbrev pub after_next : Seq → Head → Next → Seq
after_next s head next.Silent = with_frame s (worked s.frame head)
after_next s head (next.Access a) = after_seq_access s head a

abbrev pub next_alone : Seq → Head → Next
next_alone s head = next_at s.frame.registers 1 head

abbrev pub step_seen_at : Program → Seq → Option Head → Seen
step_seen_at p s None = seen.End (function_result p s.frame)
step_seen_at p s (Some head) = seen_by_next s (next_alone s head)

abbrev pub after_seq_step_at : Seq → Option Head → Seq
after_seq_step_at s None = over s AtEnd
after_seq_step_at s (Some head) = after_next s head (next_alone s head)

abbrev pub step_seen : Program → Seq → Seen
step_seen p s = step_seen_at p s (head_in s)

abbrev pub after_seq_step : Seq → Seq
after_seq_step s = after_seq_step_at s (head_in s)

-- A value is given, where one is wanted.

abbrev pub update_seen : ℕ → Order → UpdateKind → Val → Seen
update_seen y order kind v =
    if meets_undef kind v then seen.Failed true None else (if succeeds kind v then seen.Update y order v (updated kind v) else seen.Miss y order v)

abbrev pub after_update : Seq → ℕ → Order → UpdateKind → Val → Seq
after_update s r order kind v =
    if meets_undef kind v then over s HasFailed
    else lowered_if (if succeeds kind v then releases order else false) (with_frame s (gave s.frame r v))

abbrev pub value_seen_at : Seq → Val → Head → Seen
value_seen_at s v Skip = seen.Silent
value_seen_at s v (Copy r a) = seen.Silent
value_seen_at s v (Compute r op a b) = seen.Silent
value_seen_at s v (Load r x) = seen.Silent
value_seen_at s v (Store x a) = seen.Silent
value_seen_at s v (AtomicLoad r order y) = seen.Read y order v
value_seen_at s v (AtomicStore order y a) = seen.Silent
value_seen_at s v (Update r order y kind) = update_seen y order (evaluated_kind s.frame.registers kind) v
value_seen_at s v (Fence order) = seen.Silent
value_seen_at s v (Print a) = seen.Silent
value_seen_at s v (If a first second) = seen.Silent
value_seen_at s v (While a body) = seen.Silent
value_seen_at s v (Call r function args) = seen.Call function (map (evaluated s.frame.registers) args)

abbrev pub after_value_at : Seq → Val → Head → Seq
after_value_at s v Skip = s
after_value_at s v (Copy r a) = s
after_value_at s v (Compute r op a b) = s
after_value_at s v (Load r x) = s
after_value_at s v (Store x a) = s
after_value_at s v (AtomicLoad r order y) = with_frame s (gave s.frame r v)
after_value_at s v (AtomicStore order y a) = s
after_value_at s v (Update r order y kind) = after_update s r order (evaluated_kind s.frame.registers kind) v
after_value_at s v (Fence order) = s
after_value_at s v (Print a) = s
after_value_at s v (If a first second) = s
after_value_at s v (While a body) = s
after_value_at s v (Call r function args) = with_frame s (gave s.frame r v)

abbrev pub value_seen : Seq → Val → Seen
value_seen s v = elim (head_in s) [ Some head ↦ value_seen_at s v head | None ↦ seen.Silent ]

abbrev pub after_value : Seq → Val → Seq
after_value s v = elim (head_in s) [ Some head ↦ after_value_at s v head | None ↦ s ]

-- A fence is passed, where one is wanted.

abbrev pub pass_seen_at : Head → Seen
pass_seen_at Skip = seen.Silent
pass_seen_at (Copy r a) = seen.Silent
pass_seen_at (Compute r op a b) = seen.Silent
pass_seen_at (Load r x) = seen.Silent
pass_seen_at (Store x a) = seen.Silent
pass_seen_at (AtomicLoad r order y) = seen.Silent
pass_seen_at (AtomicStore order y a) = seen.Silent
pass_seen_at (Update r order y kind) = seen.Silent
pass_seen_at (Fence order) = seen.Fence order
pass_seen_at (Print a) = seen.Silent
pass_seen_at (If a first second) = seen.Silent
pass_seen_at (While a body) = seen.Silent
pass_seen_at (Call r function args) = seen.Silent

abbrev pub after_pass_at : Seq → Head → Seq
after_pass_at s Skip = s
after_pass_at s (Copy r a) = s
after_pass_at s (Compute r op a b) = s
after_pass_at s (Load r x) = s
after_pass_at s (Store x a) = s
after_pass_at s (AtomicLoad r order y) = s
after_pass_at s (AtomicStore order y a) = s
after_pass_at s (Update r order y kind) = s
after_pass_at s (Fence order) = lowered_if (releases order) (with_frame s (passed s.frame true))
after_pass_at s (Print a) = s
after_pass_at s (If a first second) = s
after_pass_at s (While a body) = s
after_pass_at s (Call r function args) = s

abbrev pub pass_seen : Seq → Seen
pass_seen s = elim (head_in s) [ Some head ↦ pass_seen_at head | None ↦ seen.Silent ]

abbrev pub after_pass : Seq → Seq
after_pass s = elim (head_in s) [ Some head ↦ after_pass_at s head | None ↦ s ]

-- the beginning of a function
abbrev pub seq_begun : Program → ℕ → List Val → Seq
seq_begun p f args = record {
  frame = called p f args;
  places = map (λ l. record { permission = Shared; value = Def l.value }) p.na;
  course = Running;
}
