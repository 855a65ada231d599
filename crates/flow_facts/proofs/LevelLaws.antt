-- The levels are a chain of three, each statement keeps their order, and more facts are given by both kinds.
use Rattle.std.proofs.Common.{◌≡◌, ◌≤◌, ℕ, Bool, true, false, cond, ◌&&◌, ◌==◌, List, [], ◌∷◌, refl, arith}
use Rattle.il_syntax.specs.declared.statement.Atom.{Atom}
use Rattle.il_syntax.specs.declared.statement.Atom.TheVariants.{Reg}
use Rattle.il_syntax.specs.declared.statement.Stmt.TheOpen.{Skip, Copy, Compute, Load, Store, AtomicLoad, AtomicStore, Update, Fence, Print, If, While, Call}
use Rattle.il_syntax.specs.Statements.{Head}
use Rattle.il_paths.specs.Code.{Visit}
use Rattle.il_paths.specs.Meets.{fold_forward}
use Rattle.path_meets.specs.Chain.{IsMonotone}
use Rattle.path_meets.proofs.Callers.{fold_forward-append, before_exist, are_one, runs_above}
use Rattle.flow_facts.specs.declared.level.Kind.{Kind}
use Rattle.flow_facts.specs.declared.level.Kind.TheVariants.{Both}
use Rattle.flow_facts.specs.declared.level.Level.{Level}
use Rattle.flow_facts.specs.declared.level.Level.TheVariants.{Nothing, Held, Fresh}
use Rattle.flow_facts.specs.declared.transfer.Transfer.{Transfer}
use Rattle.flow_facts.specs.declared.transfer.Transfer.TheVariants.{Keeps, Becomes, Acquires, Releases, AcquiresAndReleases}
use Rattle.flow_facts.specs.Levels.{rank_of, stores_give, loads_give, after_transfer, losing, transfer_of, level_change, level_step}
use Rattle.il_paths.specs.Atoms.{atoms_equal}
use Rattle.flow_facts.specs.Laws.{BothKnowMore, LevelsGoStepByStep, LevelsAreLowest, LevelsExist, LevelsAreOne}

pub rank_bounded : (a : Level) → rank_of a ≤ 2
rank_bounded Nothing = omega arith
rank_bounded Held = omega arith
rank_bounded Fresh = omega arith

pub rank_injective : (a b : Level) → rank_of a ≡ rank_of b → a ≡ b
rank_injective Nothing Nothing e = refl
rank_injective Nothing Held e = absurd (omega arith)
rank_injective Nothing Fresh e = absurd (omega arith)
rank_injective Held Nothing e = absurd (omega arith)
rank_injective Held Held e = refl
rank_injective Held Fresh e = absurd (omega arith)
rank_injective Fresh Nothing e = absurd (omega arith)
rank_injective Fresh Held e = absurd (omega arith)
rank_injective Fresh Fresh e = refl

rising : (f : Level → Level) → rank_of (f Nothing) ≤ rank_of (f Held) → rank_of (f Held) ≤ rank_of (f Fresh) → (a b : Level) → rank_of a ≤ rank_of b → rank_of (f a) ≤ rank_of (f b)
rising f low high Nothing Nothing h = omega arith
rising f low high Nothing Held h = low
rising f low high Nothing Fresh h = omega arith
rising f low high Held Nothing h = absurd (omega arith)
rising f low high Held Held h = omega arith
rising f low high Held Fresh h = high
rising f low high Fresh Nothing h = absurd (omega arith)
rising f low high Fresh Held h = absurd (omega arith)
rising f low high Fresh Fresh h = omega arith

pub transfer_monotone : (t : Transfer) (a b : Level) → rank_of a ≤ rank_of b → rank_of (after_transfer t a) ≤ rank_of (after_transfer t b)
transfer_monotone Keeps = rising (after_transfer Keeps) (omega arith) (omega arith)
transfer_monotone (Becomes new) = rising (after_transfer (Becomes new)) (omega arith) (omega arith)
transfer_monotone Acquires = rising (after_transfer Acquires) (omega arith) (omega arith)
transfer_monotone Releases = rising (after_transfer Releases) (omega arith) (omega arith)
transfer_monotone AcquiresAndReleases = rising (after_transfer AcquiresAndReleases) (omega arith) (omega arith)

pub change_monotone : (kind : Kind) (x : ℕ) (a : Atom) (head : Head) (l m : Level) → rank_of l ≤ rank_of m → rank_of (level_change kind x a head l) ≤ rank_of (level_change kind x a head m)
change_monotone kind x a head = transfer_monotone (transfer_of kind x a head)

pub step_monotone : (kind : Kind) (x : ℕ) (a : Atom) → IsMonotone rank_of (level_step kind x a)
step_monotone kind x a v = change_monotone kind x a v.head

-- One statement gives both kinds at least what it gives one.

more_by_store : (p q k : Bool) (l m : Level) → rank_of l ≤ rank_of m → rank_of (after_transfer (cond p (cond (q && k) (Becomes Fresh) (Becomes Nothing)) Keeps) l) ≤ rank_of (after_transfer (cond p (cond (q && true) (Becomes Fresh) (Becomes Nothing)) Keeps) m)
more_by_store true true true l m h = omega arith
more_by_store true true false l m h = omega arith
more_by_store true false k l m h = omega arith
more_by_store false q k l m h = h

more_by_load : (p q k : Bool) (l m : Level) → rank_of l ≤ rank_of m → rank_of (after_transfer (cond p (cond (q && k) (Becomes Held) (Becomes Nothing)) Keeps) l) ≤ rank_of (after_transfer (cond p (cond (q && true) (Becomes Held) (Becomes Nothing)) Keeps) m)
more_by_load true true true l m h = omega arith
more_by_load true true false l m h = omega arith
more_by_load true false k l m h = omega arith
more_by_load false q k l m h = h

more_by : (kind : Kind) (x : ℕ) (a : Atom) (head : Head) (l m : Level) → rank_of l ≤ rank_of m → rank_of (level_change kind x a head l) ≤ rank_of (level_change Both x a head m)
more_by kind x a Skip l m h = h
more_by kind x a (Copy r b) l m h = transfer_monotone (losing r a Keeps) l m h
more_by kind x a (Compute r op b c) l m h = transfer_monotone (losing r a Keeps) l m h
more_by kind x a (Load r y) l m h = more_by_load (atoms_equal a (Reg r)) (y == x) (loads_give kind) l m h
more_by kind x a (Store y b) l m h = more_by_store (y == x) (atoms_equal a b) (stores_give kind) l m h
more_by kind x a (AtomicLoad r order y) l m h = transfer_monotone (transfer_of Both x a (AtomicLoad r order y)) l m h
more_by kind x a (AtomicStore order y b) l m h = transfer_monotone (transfer_of Both x a (AtomicStore order y b)) l m h
more_by kind x a (Update r order y update) l m h = transfer_monotone (transfer_of Both x a (Update r order y update)) l m h
more_by kind x a (Fence order) l m h = transfer_monotone (transfer_of Both x a (Fence order)) l m h
more_by kind x a (Print b) l m h = h
more_by kind x a (If b yes_block no_block) l m h = h
more_by kind x a (While b body) l m h = h
more_by kind x a (Call r function args) l m h = omega arith

pub more_along : (kind : Kind) (x : ℕ) (a : Atom) (p : List Visit) (l m : Level) → rank_of l ≤ rank_of m → rank_of (fold_forward (level_step kind x a) p l) ≤ rank_of (fold_forward (level_step Both x a) p m)
more_along kind x a [] l m h = h
more_along kind x a (v ∷ p) l m h = more_along kind x a p _ _ (more_by kind x a v.head l m h)

pub both_know_more : BothKnowMore
both_know_more kind x a p = more_along kind x a p Nothing Nothing (omega arith)

-- Along paths, and over all of them.

pub levels_go : LevelsGoStepByStep
levels_go kind x a p v = fold_forward-append Level rank_of 2 (level_step kind x a) p (v ∷ []) Nothing

pub levels_are_lowest : LevelsAreLowest
levels_are_lowest kind x a c k p v l h run next = runs_above Level rank_of (level_step kind x a) c k p v Nothing l h run next

pub levels_exist : LevelsExist
levels_exist kind x a tree site h = before_exist Level rank_of 2 (level_step kind x a) (step_monotone kind x a) rank_bounded tree Nothing site h

pub levels_are_one : LevelsAreOne
levels_are_one kind x a c site l m f g = (are_one Level rank_of (level_step kind x a) rank_injective c Nothing l m).0 site f g

pub above_nothing : (l : Level) → (l ≡ Nothing → ⊥) → 1 ≤ rank_of l
above_nothing Nothing f = absurd (f refl)
above_nothing Held f = omega arith
above_nothing Fresh f = omega arith
