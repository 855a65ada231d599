-- What is accepted.
use Rattle.std.specs.Prelude.{ℕ, Bool, List, Option}
use Rattle.il_syntax.specs.declared.statement.Atom.{Atom}
use Rattle.il_syntax.specs.declared.program.Function.{Function}
use Rattle.il_syntax.specs.WellFormed.{Declared, IsFunctionWellFormed}
use Rattle.rewriting.specs.Changed.{IsChanged}
use Rattle.flow_facts.specs.declared.level.Kind.{Kind}
use Rattle.forwarding.specs.Forwarded.{forwarded_leaf, IsForwarded}
use Rattle.dead_store.specs.Undead.{dropped_leaf, IsUndead}
use Rattle.load_hoist.specs.Introduced.{IsIntroduced}
use Rattle.validator.specs.Faults.{Accepts}
use Rattle.acceptance.specs.Known.{AreKnown, AreDead, IsGrown}

-- Loads turned into any atoms that are known there.
abbrev pub KnownLoadsAreAccepted : Type 0
KnownLoadsAreAccepted = (kind : Kind) (atom : ℕ → ℕ → Option Atom) (f g : Function) → AreKnown kind atom f → IsChanged (λ site. forwarded_leaf (atom site)) f g → Accepts f g

-- A function that was forwarded, in either kind.
abbrev pub ForwardedIsAccepted : Type 0
ForwardedIsAccepted = (kind : Kind) (f g : Function) → IsForwarded kind f g → Accepts f g

-- Any stores removed that are overwritten first.
abbrev pub DeadStoresAreAccepted : Type 0
DeadStoresAreAccepted = (dead : ℕ → ℕ → Bool) (f g : Function) → AreDead dead f → IsChanged (λ site. dropped_leaf (dead site)) f g → Accepts f g

-- A function without its dead stores.
abbrev pub UndeadIsAccepted : Type 0
UndeadIsAccepted = (f g : Function) → IsUndead f g → Accepts f g

-- Any new loads before any loops.
abbrev pub NewLoadsAreAccepted : Type 0
NewLoadsAreAccepted = (f g : Function) → IsGrown f g → Accepts f g

-- A function with loads hoisted before its loops.
abbrev pub IntroducedIsAccepted : Type 0
IntroducedIsAccepted = (d : Declared) (na : ℕ) (names : List (List ℕ)) (f g : Function) → IsFunctionWellFormed d f → IsIntroduced na names f g → Accepts f g
