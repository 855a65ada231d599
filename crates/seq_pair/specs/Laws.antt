-- Laws of accepted pairs.
use Rattle.std.specs.Prelude.{◌≡◌, ◌≢◌, ◌⊎◌, ◌↔◌, ℕ, Bool, true, false, ◌||◌, List, Option, Some, None}
use Rattle.std.specs.List.{AllByRecursion}
use Rattle.values_undef.specs.Value.{IsBelow}
use Rattle.il_syntax.specs.declared.program.Function.{Function}
use Rattle.il_syntax.specs.declared.program.Program.{Program}
use Rattle.il_syntax.specs.Statements.{Head}
use Rattle.il_syntax.specs.WellFormed.{IsWellFormed}
use Rattle.il_paths.specs.Heads.{is_release, is_call}
use Rattle.thread_core.specs.Programs.{function_at}
use Rattle.validator.specs.Faults.{Accepts}
use Rattle.validator.specs.Shape.{SameShape}
use Rattle.seq_semantics.specs.declared.place.Perm.TheVariants.{Bare}
use Rattle.seq_semantics.specs.declared.place.Place.{Place}
use Rattle.seq_semantics.specs.declared.place.Course.TheVariants.{Running, AtEnd, HasFailed}
use Rattle.seq_semantics.specs.declared.seen.Wants.TheVariants as want
use Rattle.seq_semantics.specs.Seq.{Seq, place_in, head_in, wants_of}
use Rattle.seq_pair.specs.declared.event.EnvEvent.{EnvEvent}
use Rattle.seq_pair.specs.declared.trace.PairEnd.TheVariants.{SourceFailed}
use Rattle.seq_pair.specs.Labels.{LabelMatches}
use Rattle.seq_pair.specs.Pair.{Pair, Inside, Over, at_new_load, at_call, hears as heard_at, register_count, Came, pair_run}

-- both programs are well-formed and of the same shape, and the target's function of this number is an accepted
-- target of the source's
pub record IsAcceptedPair (p q : Program) (f : ℕ) : Type 0 where
  pub source_well_formed : IsWellFormed p
  pub target_well_formed : IsWellFormed q
  pub shape : SameShape p q
  pub source : Function
  pub target : Function
  pub source_there : function_at p f ≡ Some source
  pub target_there : function_at q f ≡ Some target
  pub accepts : Accepts source target

-- the target knows no more of a location than the source: nothing is claimed where the source has lost it
abbrev pub PlaceBelow : Place → Place → Type 0
PlaceBelow t s = (s.permission ≡ Bare) ⊎ ((t.permission ≢ Bare) × IsBelow t.value s.value)

abbrev pub MemoryBelow : Seq → Seq → Type 0
MemoryBelow t s = (x : ℕ) → PlaceBelow (place_in t.places x) (place_in s.places x)

-- others may take over what the function has written: a release, a call or the end comes next
abbrev pub hands_over : Option Head → Bool
hands_over None = true
hands_over (Some head) = is_call head || is_release head

-- Labels match; the target fails only where the source has failed; where the source has not failed, both are at
-- their ends or neither is; and the target's memory is below wherever others may take it over.
pub record StaysRelated (s : Pair) : Type 0 where
  pub labels : AllByRecursion LabelMatches s.labels
  pub fails_with_source : s.target.course ≡ HasFailed → s.source.course ≡ HasFailed
  pub ends_together : s.source.course ≢ HasFailed → (s.source.course ≡ AtEnd) ↔ (s.target.course ≡ AtEnd)
  pub source_failed : s.source.course ≡ HasFailed ↔ s.stage ≡ Over SourceFailed
  pub memory : s.stage ≡ Inside → hands_over (head_in s.target) ≡ true → MemoryBelow s.target s.source

-- so stands the pair after each list of lawful events
abbrev pub PairsStayRelated : Type 0
PairsStayRelated = (p q : Program) (f : ℕ) (events : List EnvEvent) (s : Pair) → IsAcceptedPair p q f → pair_run p q f events ≡ Came s → StaysRelated s

-- in the function the source waits for what the target waits for, but at an inserted load; and where the target is at a
-- call, or may hear others, so is the source
pub record IsInStep (old : ℕ) (s : Pair) : Type 0 where
  pub runs : s.stage ≡ Inside → s.target.course ≡ Running
  pub steps : s.stage ≡ Inside → wants_of s.target ≡ want.Step → at_new_load old (head_in s.target) ≡ false → wants_of s.source ≡ want.Step
  pub values : s.stage ≡ Inside → wants_of s.target ≡ want.Value → wants_of s.source ≡ want.Value
  pub fences : s.stage ≡ Inside → wants_of s.target ≡ want.Fence → wants_of s.source ≡ want.Fence
  pub calls : s.stage ≡ Inside → at_call (head_in s.target) ≡ true → at_call (head_in s.source) ≡ true
  pub hears : s.stage ≡ Inside → heard_at (head_in s.target) ≡ true → heard_at (head_in s.source) ≡ true

abbrev pub PairsStayInStep : Type 0
PairsStayInStep = (p q : Program) (f : ℕ) (events : List EnvEvent) (s : Pair) → IsAcceptedPair p q f → pair_run p q f events ≡ Came s → IsInStep (register_count p f) s
