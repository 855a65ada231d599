-- The table of levels and effects by examples: small trees, over all their paths.
use Rattle.std.specs.Prelude.{◌<◌, ℕ, pos, List, [], ◌∷◌, slice_index_or}
use Rattle.values_undef.specs.declared.access.Order.TheVariants.{Acq, Rel, AcqRel}
use Rattle.il_syntax.specs.declared.statement.Atom.{Atom}
use Rattle.il_syntax.specs.declared.statement.Atom.TheVariants.{Const, Reg}
use Rattle.il_syntax.specs.declared.statement.Stmt.TheOpen.{Load, Store, AtomicLoad, AtomicStore, Fence}
use Rattle.il_paths.specs.Tree.{Leaf, Tree, Empty, Then, IfThen, WhileThen, sites_of}
use Rattle.il_paths.specs.Code.{placed}
use Rattle.flow_facts.specs.declared.level.Kind.{Kind}
use Rattle.flow_facts.specs.declared.level.Kind.TheVariants.{Stores, Both}
use Rattle.flow_facts.specs.declared.level.Level.{Level}
use Rattle.flow_facts.specs.declared.level.Level.TheVariants.{Nothing, Held, Fresh}
use Rattle.flow_facts.specs.Levels.{IsLevel}
use Rattle.flow_summary.specs.Effects.{IsEffectOf}

-- the pair is that of location 0 and the constant 1, if nothing else is said
abbrev pub one : Atom
one = Const (pos 1)

-- leaves by name
abbrev store_one : Leaf
store_one = Store 0 one

abbrev release : Leaf
release = AtomicStore Rel 0 one

abbrev acquire : Leaf
acquire = AtomicLoad 1 Acq 0

-- the effect of a tree on the pair
abbrev pub HasEffect : Tree → (nothing held fresh : Level) → Type 0
HasEffect tree nothing held fresh = IsEffectOf Both 0 one (placed 0 tree) (record { nothing = nothing; held = held; fresh = fresh })

-- its levels before each site, from the first
abbrev pub HasLevels : Kind → Tree → List Level → Type 0
HasLevels kind tree levels = (site : ℕ) → site < sites_of tree → IsLevel (placed 0 tree) site kind 0 one (slice_index_or levels site Nothing)

-- a release: held of fresh
abbrev pub releasing : Tree
releasing = Then release Empty

abbrev pub ReleaseByExample : Type 0
ReleaseByExample = HasEffect releasing Nothing Held Held

-- a loop that acquires and then releases: two turns take away even what was fresh, one turn would not
abbrev pub turning : Tree
turning = WhileThen (Reg 2) (Then acquire (Then release Empty)) Empty

abbrev pub LoopByExample : Type 0
LoopByExample = HasEffect turning Nothing Nothing Nothing

-- a store on one path alone: the path without it decides
abbrev pub branching : Tree
branching = IfThen (Reg 2) (Then store_one Empty) Empty Empty

abbrev pub IfByExample : Type 0
IfByExample = HasEffect branching Nothing Held Fresh

-- before each site: a store and a release, a release and an acquire by fences, both by one fence
abbrev pub with_release : Tree
with_release = Then store_one (Then release (Then (Load 1 0) Empty))

abbrev pub fenced_twice : Tree
fenced_twice = Then store_one (Then (Fence Rel) (Then (Fence Acq) (Then (Load 1 0) Empty)))

abbrev pub fenced_once : Tree
fenced_once = Then store_one (Then (Fence AcqRel) (Then (Load 1 0) Empty))

abbrev pub RowsByExample : Type 0
RowsByExample =
    HasLevels Stores with_release (Nothing ∷ Fresh ∷ Held ∷ []) ×
    HasLevels Stores fenced_twice (Nothing ∷ Fresh ∷ Held ∷ Nothing ∷ []) ×
    HasLevels Stores fenced_once (Nothing ∷ Fresh ∷ Held ∷ [])

-- a loop that loads, and then stores another value: in it nothing is known of the one before it
abbrev pub storing_loop : Tree
storing_loop = Then store_one (WhileThen (Reg 2) (Then (Load 1 0) (Then (Store 0 (Const (pos 2))) Empty)) Empty)

abbrev pub LoopRowsByExample : Type 0
LoopRowsByExample = HasLevels Both storing_loop (Nothing ∷ Nothing ∷ Nothing ∷ Nothing ∷ [])

abbrev pub LevelsByExample : Type 0
LevelsByExample = ReleaseByExample × LoopByExample × IfByExample × RowsByExample × LoopRowsByExample
