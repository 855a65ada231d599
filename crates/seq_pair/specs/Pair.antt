-- Target and source of one function run together: which events are lawful, and what each does. p is the program
-- of the source, q that of the target, and f the number of the function in both.
use Rattle.std.specs.Prelude.{ℕ, ◌+◌, ◌==◌, zero, suc, nat_le, nat_lt, Bool, true, false, ◌&&◌, ◌||◌, not, List, [], ◌∷◌, ◌++◌, length, Option, Some, None, if◌then◌else◌}
use Rattle.std.specs.Ordering.{int_eq}
use Rattle.values_undef.specs.declared.value.Val.{Val}
use Rattle.values_undef.specs.declared.value.Val.TheVariants.{Def, Undef}
use Rattle.il_syntax.specs.declared.statement.Stmt.TheOpen.{Load}
use Rattle.il_syntax.specs.declared.program.Program.{Program}
use Rattle.il_syntax.specs.Statements.{Head}
use Rattle.il_paths.specs.Heads.{is_acquire, is_call}
use Rattle.thread_core.specs.Programs.{function_at}
use Rattle.thread_core.specs.Frames.{called}
use Rattle.seq_semantics.specs.declared.place.Perm.{Perm}
use Rattle.seq_semantics.specs.declared.place.Perm.TheVariants.{Bare, Shared, Owned}
use Rattle.seq_semantics.specs.declared.seen.Seen.{Seen}
use Rattle.seq_semantics.specs.declared.seen.Seen.TheVariants as seen
use Rattle.seq_semantics.specs.declared.seen.Wants.{Wants}
use Rattle.seq_semantics.specs.declared.seen.Wants.TheVariants as want
use Rattle.seq_semantics.specs.Seq.{Seq, place_in, with_place, with_frame, is_bare, lowered_if, head_in, wants_of, step_seen, after_seq_step, value_seen, after_value, pass_seen, after_pass, seq_begun}
pub use Rattle.seq_pair.specs.declared.stage.Stage.{Stage}
pub use Rattle.seq_pair.specs.declared.stage.Stage.TheVariants.{AtEntry, Inside, Over}
use Rattle.seq_pair.specs.declared.event.EnvEvent.{EnvEvent}
use Rattle.seq_pair.specs.declared.event.EnvEvent.TheVariants.{Enter, Run, Value, Take, Hide, Gain, See, Pass}
use Rattle.seq_pair.specs.declared.trace.PairLabel.{PairLabel}
use Rattle.seq_pair.specs.declared.trace.PairEnd.{PairEnd}
use Rattle.seq_pair.specs.declared.trace.PairEnd.TheVariants.{Same, SourceFailed, Cut}
use Rattle.seq_pair.specs.Labels.{is_failed, labelled}

pub record Pair : Type 0 where
  pub stage : Stage
  pub target : Seq
  pub source : Seq
  pub labels : List PairLabel

-- ---- tests

-- a value below another
abbrev pub is_below : Val → Val → Bool
is_below (Def m) (Def n) = int_eq m n
is_below Undef (Def n) = false
is_below t Undef = true

abbrev pub is_shared : Perm → Bool
is_shared Shared = true
is_shared _ = false

abbrev pub is_owned : Perm → Bool
is_owned Owned = true
is_owned _ = false

abbrev pub wants_step : Wants → Bool
wants_step want.Step = true
wants_step _ = false

abbrev pub wants_value : Wants → Bool
wants_value want.Value = true
wants_value _ = false

abbrev pub wants_fence : Wants → Bool
wants_fence want.Fence = true
wants_fence _ = false

abbrev pub is_at_entry : Stage → Bool
is_at_entry (AtEntry ts ss) = true
is_at_entry _ = false

abbrev pub is_inside : Stage → Bool
is_inside Inside = true
is_inside _ = false

abbrev pub is_without_failure : Stage → Bool
is_without_failure (Over SourceFailed) = false
is_without_failure _ = true

-- a load into a register that the source lacks, of which the function has `old`: an inserted one
abbrev pub is_new_load : ℕ → Head → Bool
is_new_load old (Load r x) = nat_le old r
is_new_load old _ = false

abbrev pub at_new_load : ℕ → Option Head → Bool
at_new_load old None = false
at_new_load old (Some head) = is_new_load old head

abbrev pub at_call : Option Head → Bool
at_call None = false
at_call (Some head) = is_call head

-- others may be heard at the next statement
abbrev pub hears : Option Head → Bool
hears None = false
hears (Some head) = is_call head || is_acquire head

-- ---- steps

-- both have come to a call, and the source has not failed
abbrev pub arrives : Pair → Bool
arrives s = is_inside s.stage && at_call (head_in s.target)

-- the pair has come to where it is: at a call each owned location becomes shared, in both
abbrev pub lowered_at_call : Pair → Pair
lowered_at_call s = record s { target = lowered_if (arrives s) s.target; source = lowered_if (arrives s) s.source }

-- the stage after a step in which the target was seen to do this, where the source has not failed
abbrev pub stage_of : Seen → Stage
stage_of (seen.End v) = Over Same
stage_of _ = Inside

abbrev pub stage_after : Seen → Seen → Stage
stage_after t s = if is_failed s then Over SourceFailed else stage_of t

-- a step in which the source fails has no labels
abbrev pub labels_after : Seen → Seen → List PairLabel
labels_after t s = if is_failed s then [] else labelled t s

-- both have made a step, of which this was seen, and have come to these states
abbrev pub both_stepped : Pair → Seen → Seen → Seq → Seq → Pair
both_stepped s t_seen s_seen target source = lowered_at_call (record {
  stage = stage_after t_seen s_seen;
  target = target;
  source = source;
  labels = s.labels ++ labels_after t_seen s_seen;
})

-- one step of the target, and of the source but at an inserted load
abbrev pub pair_step : (p q : Program) (old : ℕ) → Pair → Pair
pair_step p q old s =
    if at_new_load old (head_in s.target) then lowered_at_call (record s { target = after_seq_step s.target })
    else both_stepped s (step_seen q s.target) (step_seen p s.source) (after_seq_step s.target) (after_seq_step s.source)

-- the function is started and not over, and the target waits for neither a value nor a fence
abbrev pub goes_on : Pair → Bool
goes_on s = is_inside s.stage && wants_step (wants_of s.target)

-- at most so many steps
abbrev pub steps : (p q : Program) (old : ℕ) → ℕ → Pair → Pair
steps p q old zero s = s
steps p q old (suc n) s = if goes_on s then steps p q old n (pair_step p q old s) else s

-- ---- events

-- how many parameters the function has, and how many registers
abbrev pub parameter_count : Program → ℕ → ℕ
parameter_count p f = elim (function_at p f) [ Some g ↦ g.params | None ↦ 0 ]

abbrev pub register_count : Program → ℕ → ℕ
register_count p f = elim (function_at p f) [ Some g ↦ length g.registers | None ↦ 0 ]

abbrev pub target_permission : Pair → ℕ → Perm
target_permission s x = (place_in s.target.places x).permission

abbrev pub source_permission : Pair → ℕ → Perm
source_permission s x = (place_in s.source.places x).permission

-- others may be heard: at the entry, or where a value is wanted at an acquire or a call, or a fence is wanted
abbrev pub may_hear : Pair → Bool
may_hear s = is_at_entry s.stage || (is_inside s.stage && ((wants_value (wants_of s.target) || wants_fence (wants_of s.target)) && hears (head_in s.target)))

-- may_hear, and neither has the location
abbrev pub may_get : Program → Pair → ℕ → Bool
may_get p s x = may_hear s && (nat_lt x (length p.na) && (is_bare (target_permission s x) && is_bare (source_permission s x)))

-- a parameter has no value yet, or a value is wanted
abbrev pub takes_value : Program → ℕ → Pair → Bool
takes_value p f s = elim s.stage [ AtEntry ts ss ↦ nat_lt (length ts) (parameter_count p f) | Inside ↦ wants_value (wants_of s.target) | Over end ↦ false ]

abbrev pub is_lawful : Program → ℕ → Pair → EnvEvent → Bool
is_lawful p f s Enter = elim s.stage [ AtEntry ts ss ↦ length ts == parameter_count p f | Inside ↦ false | Over end ↦ false ]
is_lawful p f s (Run n) = is_inside s.stage && (nat_le 1 n && nat_le n 16384)
is_lawful p f s (Value vt vs) = takes_value p f s && is_below vt vs
is_lawful p f s (Take x) = is_without_failure s.stage && (nat_lt x (length p.na) && (is_shared (target_permission s x) && not (is_owned (source_permission s x))))
is_lawful p f s (Hide x) = is_without_failure s.stage && (nat_lt x (length p.na) && is_shared (source_permission s x))
is_lawful p f s (Gain x vt vs) = may_get p s x && is_below vt vs
is_lawful p f s (See x vt) = may_get p s x
is_lawful p f s Pass = is_inside s.stage && wants_fence (wants_of s.target)

abbrev pub started : (p q : Program) → ℕ → Pair → Stage → Pair
started p q f s (AtEntry ts ss) = lowered_at_call (record s { stage = Inside; target = with_frame s.target (called q f ts); source = with_frame s.source (called p f ss) })
started p q f s Inside = s
started p q f s (Over end) = s

abbrev pub given : Val → Val → Pair → Stage → Pair
given vt vs s (AtEntry ts ss) = record s { stage = AtEntry (ts ++ vt ∷ []) (ss ++ vs ∷ []) }
given vt vs s Inside = both_stepped s (value_seen s.target vt) (value_seen s.source vs) (after_value s.target vt) (after_value s.source vs)
given vt vs s (Over end) = s

-- the location is lost: its value is what it was, but no load gives it
abbrev pub bared : Seq → ℕ → Seq
bared s x = with_place s x Bare (place_in s.places x).value

abbrev pub pair_after : (p q : Program) → ℕ → Pair → EnvEvent → Pair
pair_after p q f s Enter = started p q f s s.stage
pair_after p q f s (Run n) = steps p q (register_count p f) n s
pair_after p q f s (Value vt vs) = given vt vs s s.stage
pair_after p q f s (Take x) = record s { target = bared s.target x; source = bared s.source x }
pair_after p q f s (Hide x) = record s { source = bared s.source x }
pair_after p q f s (Gain x vt vs) = record s { target = with_place s.target x Shared vt; source = with_place s.source x Shared vs }
pair_after p q f s (See x vt) = record s { target = with_place s.target x Shared vt }
pair_after p q f s Pass = both_stepped s (pass_seen s.target) (pass_seen s.source) (after_pass s.target) (after_pass s.source)

-- ---- runs

-- the pair after a list of events, or the place of the first that isn't lawful
pub data PairRun : Type 0 where
  Came : (pair : Pair) → PairRun
  Unlawful : (at : ℕ) → PairRun

-- each location is shared in both, and has its declared value
abbrev pub pair_begun : (p q : Program) → ℕ → Pair
pair_begun p q f = record { stage = AtEntry [] []; target = seq_begun q f []; source = seq_begun p f []; labels = [] }

-- the same from a pair on, the first event having this place
abbrev pub run_from : (p q : Program) → ℕ → ℕ → Pair → List EnvEvent → PairRun
run_from p q f at s [] = Came s
run_from p q f at s (e ∷ events) = if is_lawful p f s e then run_from p q f (at + 1) (pair_after p q f s e) events else Unlawful at

abbrev pub pair_run : (p q : Program) → ℕ → List EnvEvent → PairRun
pair_run p q f events = run_from p q f 0 (pair_begun p q f) events

-- how a pair ends that is at this stage when the events have run out
abbrev pub pair_end : Stage → PairEnd
pair_end (Over end) = end
pair_end _ = Cut
