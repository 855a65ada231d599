-- What a pair is as a value of the code, and what the code knows of it.
use Rattle.std.specs.Prelude.{◌≡◌, ℕ, ◌<◌, ◌≤◌, true, List, length}
use Rattle.values_undef.specs.declared.value.Val.{Val}
use Rattle.il_syntax.specs.declared.program.Program.{Program}
use Rattle.thread_core.specs.Programs.{IsProperProgram, code_of}
use Rattle.seq_semantics.specs.Seq.{Seq}
use Rattle.seq_semantics.specs.Held.{seq_in, IsSeqOf}
use Rattle.seq_pair.specs.declared.event.EnvEvent.{EnvEvent}
use Rattle.seq_pair.specs.declared.pairing.Pairing.{Pairing}
use Rattle.seq_pair.specs.Pair.{Pair, AtEntry, register_count, parameter_count, is_lawful, pair_after}
use Rattle.seq_pair.specs.Laws.{IsInStep}

-- the same in two programs
abbrev pub pair_in : (p q : Program) → Pairing → Pair
pair_in p q h = record { stage = h.stage; target = seq_in q h.target; source = seq_in p h.source; labels = h.labels }

-- two programs that both have the function, with as many parameters, and as many locations
pub record ArePaired (p q : Program) (f : ℕ) : Type 0 where
  pub source : IsProperProgram p
  pub target : IsProperProgram q
  pub same_na : length q.na ≡ length p.na
  pub source_there : f < length p.functions
  pub target_there : f < length q.functions
  pub same_parameters : parameter_count q f ≡ parameter_count p f
  pub few_parameters : parameter_count p f ≤ 8

-- a function stands at its beginning
abbrev pub IsAtBeginning : Program → Seq → Type 0
IsAtBeginning p s = s.frame.continuation ≡ code_of p s.frame.function

-- at the entry both stand at their beginnings, and were given as many values, no more than there are parameters
pub record IsBeforeEnter (p q : Program) (f : ℕ) (ts ss : List Val) (t s : Seq) : Type 0 where
  pub same_many : length ss ≡ length ts
  pub few : length ts ≤ parameter_count p f
  pub target_begins : IsAtBeginning q t
  pub source_begins : IsAtBeginning p s

-- both are of their programs
pub record IsPairOf (p q : Program) (f : ℕ) (h : Pairing) : Type 0 where
  pub target : IsSeqOf q h.target
  pub source : IsSeqOf p h.source
  pub entry : (ts ss : List Val) → h.stage ≡ AtEntry ts ss → IsBeforeEnter p q f ts ss (seq_in q h.target) (seq_in p h.source)

-- the pair is in step, and so it is after each lawful event
pub record IsLed (p q : Program) (f : ℕ) (s : Pair) : Type 0 where
  pub now : IsInStep (register_count p f) s
  pub next : (e : EnvEvent) → is_lawful p f s e ≡ true → IsInStep (register_count p f) (pair_after p q f s e)
