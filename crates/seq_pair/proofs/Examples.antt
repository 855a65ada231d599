-- Worked examples, computed by the definitions. They begin after `enter`, with the code given, since a program's
-- code is a fold that computes in its own crate alone.
use Rattle.std.proofs.Common.{◌≡◌, ℕ, pos, List, [], ◌∷◌, refl}
use Rattle.values_undef.specs.declared.value.Val.TheVariants.{Def, Undef}
use Rattle.values_undef.specs.declared.access.Order.TheVariants.{Acq, Rel}
use Rattle.il_syntax.specs.declared.statement.Atom.{Atom}
use Rattle.il_syntax.specs.declared.statement.Atom.TheVariants.{Const, Reg}
use Rattle.il_syntax.specs.declared.statement.Stmt.TheOpen.{Copy, Load, Store, AtomicLoad, AtomicStore, Fence, Print}
use Rattle.il_syntax.specs.declared.program.Program.{Program}
use Rattle.il_syntax.specs.Statements.{Head}
use Rattle.il_paths.specs.Code.{Code, End, Plain}
use Rattle.seq_semantics.specs.declared.place.Perm.TheVariants.{Shared}
use Rattle.seq_semantics.specs.declared.place.Course.TheVariants.{Running}
use Rattle.seq_semantics.specs.declared.seen.Seen.TheVariants as seen
use Rattle.seq_semantics.specs.Seq.{Seq}
use Rattle.seq_pair.specs.declared.event.EnvEvent.{EnvEvent}
use Rattle.seq_pair.specs.declared.event.EnvEvent.TheVariants.{Run, Value, Take, Gain, Pass}
use Rattle.seq_pair.specs.declared.trace.PairLabel.{PairLabel}
use Rattle.seq_pair.specs.declared.trace.PairEnd.{PairEnd}
use Rattle.seq_pair.specs.declared.trace.PairEnd.TheVariants.{Same, SourceFailed, Cut}
use Rattle.seq_pair.specs.Pair.{Inside, Came, Unlawful, run_from, pair_end}

-- one function without statements, over x = 0, with this result
abbrev program : Atom → Program
program result = record {
  na = record { name = 120 ∷ []; value = pos 0 } ∷ [];
  atomic = [];
  functions = record { name = 109 ∷ []; params = 0; registers = (97 ∷ []) ∷ (114 ∷ []) ∷ []; body = record { statements = [] }; result = result } ∷ [];
  threads = [];
}

abbrev code : List Head → Code
code [] = End
code (h ∷ heads) = Plain (record { site = 0; head = h }) (code heads)

abbrev begun : List Head → Seq
begun heads = record {
  frame = record { function = 0; registers = Def (pos 0) ∷ Def (pos 0) ∷ []; continuation = code heads };
  places = record { permission = Shared; value = Def (pos 0) } ∷ [];
  course = Running;
}

pub data Answer : Type 0 where
  Trace : (labels : List PairLabel) → (end : PairEnd) → Answer
  Event : (at : ℕ) → Answer

-- the answer to events after `enter`, which is event 0
abbrev answer : List Head → List Head → Atom → List EnvEvent → Answer
answer source target result events =
    elim (run_from (program result) (program result) 0 1 (record { stage = Inside; target = begun target; source = begun source; labels = [] }) events) [ Came s ↦ Trace s.labels (pair_end s.stage) | Unlawful at ↦ Event at ]

-- `r = load x; s = load x;` and `r = load x; s = r;`: where the location is taken between, the source reads `undef`
loads_twice : answer (Load 0 0 ∷ Load 1 0 ∷ []) (Load 0 0 ∷ Copy 1 (Reg 0) ∷ []) (Reg 1) (Run 1 ∷ Take 0 ∷ Run 2 ∷ []) ≡ Trace (record { target = seen.End (Def (pos 0)); source = seen.End Undef } ∷ []) Same
loads_twice = refl

-- what is lost can't be taken
taken_twice : answer (Load 0 0 ∷ Load 1 0 ∷ []) (Load 0 0 ∷ Copy 1 (Reg 0) ∷ []) (Reg 1) (Take 0 ∷ Take 0 ∷ []) ≡ Event 2
taken_twice = refl

cut_short : answer (Load 0 0 ∷ Load 1 0 ∷ []) (Load 0 0 ∷ Copy 1 (Reg 0) ∷ []) (Reg 1) (Run 1 ∷ []) ≡ Trace [] Cut
cut_short = refl

-- `store x, 1; print 3;` where x was taken: the source fails, and nothing is seen of that step
stores_taken : answer (Store 0 (Const (pos 1)) ∷ Print (Const (pos 3)) ∷ []) (Store 0 (Const (pos 1)) ∷ Print (Const (pos 3)) ∷ []) (Const (pos 0)) (Take 0 ∷ Run 1 ∷ []) ≡ Trace [] SourceFailed
stores_taken = refl

-- `store x, 1; a = load acq f; r = load x;`, and the target with `r = 1;`
forwards_over_an_acquire : answer (Store 0 (Const (pos 1)) ∷ AtomicLoad 0 Acq 0 ∷ Load 1 0 ∷ []) (Store 0 (Const (pos 1)) ∷ AtomicLoad 0 Acq 0 ∷ Copy 1 (Const (pos 1)) ∷ []) (Reg 1) (Run 1 ∷ Value (Def (pos 7)) (Def (pos 7)) ∷ Run 2 ∷ [])
    ≡ Trace (record { target = seen.Read 0 Acq (Def (pos 7)); source = seen.Read 0 Acq (Def (pos 7)) } ∷ record { target = seen.End (Def (pos 1)); source = seen.End (Def (pos 1)) } ∷ []) Same
forwards_over_an_acquire = refl

-- the target is given no value that isn't below
value_above : answer (Store 0 (Const (pos 1)) ∷ AtomicLoad 0 Acq 0 ∷ Load 1 0 ∷ []) (Store 0 (Const (pos 1)) ∷ AtomicLoad 0 Acq 0 ∷ Copy 1 (Const (pos 1)) ∷ []) (Reg 1) (Run 1 ∷ Value (Def (pos 7)) (Def (pos 8)) ∷ []) ≡ Event 2
value_above = refl

-- `fence acq; r = load x;`: at the fence a location that was taken is given back
hears_at_a_fence : answer (Fence Acq ∷ Load 0 0 ∷ []) (Fence Acq ∷ Load 0 0 ∷ []) (Reg 0) (Take 0 ∷ Run 1 ∷ Gain 0 (Def (pos 4)) (Def (pos 4)) ∷ Pass ∷ Run 2 ∷ [])
    ≡ Trace (record { target = seen.Fence Acq; source = seen.Fence Acq } ∷ record { target = seen.End (Def (pos 4)); source = seen.End (Def (pos 4)) } ∷ []) Same
hears_at_a_fence = refl

-- `fence rel` is a step, so it can't be passed, and nobody is heard at it
release_is_a_step : answer (Fence Rel ∷ []) (Fence Rel ∷ []) (Const (pos 0)) (Run 1 ∷ []) ≡ Trace (record { target = seen.Fence Rel; source = seen.Fence Rel } ∷ []) Cut
release_is_a_step = refl

release_is_not_passed : answer (Fence Rel ∷ []) (Fence Rel ∷ []) (Const (pos 0)) (Pass ∷ []) ≡ Event 1
release_is_not_passed = refl

release_hears_nobody : answer (Fence Rel ∷ []) (Fence Rel ∷ []) (Const (pos 0)) (Take 0 ∷ Gain 0 (Def (pos 4)) (Def (pos 4)) ∷ []) ≡ Event 2
release_hears_nobody = refl

-- `store x, 1; store rel f, 1; r = load x;`: what was stored can be taken only after the release
owned_before_a_release : answer (Store 0 (Const (pos 1)) ∷ AtomicStore Rel 0 (Const (pos 1)) ∷ Load 0 0 ∷ []) (Store 0 (Const (pos 1)) ∷ AtomicStore Rel 0 (Const (pos 1)) ∷ Load 0 0 ∷ []) (Reg 0) (Run 1 ∷ Take 0 ∷ []) ≡ Event 2
owned_before_a_release = refl

taken_after_a_release : answer (Store 0 (Const (pos 1)) ∷ AtomicStore Rel 0 (Const (pos 1)) ∷ Load 0 0 ∷ []) (Store 0 (Const (pos 1)) ∷ AtomicStore Rel 0 (Const (pos 1)) ∷ Load 0 0 ∷ []) (Reg 0) (Run 2 ∷ Take 0 ∷ Run 2 ∷ [])
    ≡ Trace (record { target = seen.Write 0 Rel (Def (pos 1)); source = seen.Write 0 Rel (Def (pos 1)) } ∷ record { target = seen.End Undef; source = seen.End Undef } ∷ []) Same
taken_after_a_release = refl

-- a target that isn't accepted, `r = load x` turned into 1: its label doesn't match
wrong_target : answer (Load 0 0 ∷ []) (Copy 0 (Const (pos 1)) ∷ []) (Reg 0) (Run 2 ∷ []) ≡ Trace (record { target = seen.End (Def (pos 1)); source = seen.End (Def (pos 0)) } ∷ []) Same
wrong_target = refl
