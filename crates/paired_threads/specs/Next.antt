-- What a pair of calls does next, by what became of the target's next statement. Both the runs of one
-- function alone and the simulation of whole programs go by these cases.
use Rattle.std.specs.Prelude.{◌≡◌, ◌<◌, ◌≤◌, ℕ, ℤ, Bool, true, false, List, [], ◌∷◌, ◌++◌, map, Some, None}
use Rattle.values_undef.specs.declared.value.Val.{Val}
use Rattle.values_undef.specs.declared.value.Val.TheVariants.{Def}
use Rattle.values_undef.specs.declared.access.Order.{Order}
use Rattle.values_undef.specs.declared.access.Cause.{Cause}
use Rattle.values_undef.specs.declared.access.Access.TheVariants as access
use Rattle.values_undef.specs.Value.{IsBelow}
use Rattle.il_syntax.specs.declared.statement.Atom.{Atom}
use Rattle.il_syntax.specs.declared.statement.Rmw.{Rmw}
use Rattle.il_syntax.specs.declared.statement.Stmt.TheOpen.{Skip, Copy, Load, Store, AtomicLoad, AtomicStore, Update, Fence, Print, Call}
use Rattle.il_syntax.specs.declared.program.Program.{Program}
use Rattle.il_syntax.specs.Statements.{Head}
use Rattle.il_paths.specs.Code.{Visit, first_head}
use Rattle.il_paths.specs.Heads.{is_release}
use Rattle.thread_core.specs.declared.next.Next.TheVariants as next
use Rattle.thread_core.specs.Programs.{IsProperHead}
use Rattle.thread_core.specs.Frames.{Frame, evaluated, evaluated_kind, gave, passed, worked, next_at}
use Rattle.flow_facts.specs.declared.level.Level.TheVariants.{Nothing}
use Rattle.flow_facts.specs.Levels.{level_on}
use Rattle.validator.specs.Roles.{pends}
use Rattle.paired_threads.specs.Values.{ValuesBelow, IsKindBelow}
use Rattle.paired_threads.specs.Functions.{PairedFunction, old_registers}
use Rattle.paired_threads.specs.Frames.{FramesPaired}

module _ {p q : Program} {k : ℕ} (fn : PairedFunction p q k) where
  -- the path with one visit more
  abbrev pub one_more : List Visit → Visit → List Visit
  one_more path v = path ++ (v ∷ [])

  abbrev pub pending : ℕ → List Visit → Bool
  pending x path = pends fn.accepted.role x path

  -- nothing is pending
  abbrev pub Settled : List Visit → Type 0
  Settled path = (x : ℕ) → pending x path ≡ false

  -- the visit changes of no location whether it is pending
  abbrev pub PendingStays : List Visit → Visit → Type 0
  PendingStays path v = (x : ℕ) → pending x (one_more path v) ≡ pending x path

  abbrev pub PendingStaysBut : ℕ → List Visit → Visit → Type 0
  PendingStaysBut y path v = (x : ℕ) → (x ≡ y → ⊥) → pending x (one_more path v) ≡ pending x path

  -- the pair after both have been given values, one below the other
  abbrev pub GivesPaired : List Visit → Visit → ℕ → Frame → Frame → Type 0
  GivesPaired path v r t s = (b c : Val) → IsBelow b c → FramesPaired fn (one_more path v) (gave t r b) (gave s r c)

  -- Both make the same statement.
  pub data SameNext (path : List Visit) (t s : Frame) (v : Visit) : Head → Type 0 where
    both_silent : {h : Head} → ((depth : ℕ) → next_at t.registers depth h ≡ next.Silent) → ((depth : ℕ) → next_at s.registers depth h ≡ next.Silent) → PendingStays path v → FramesPaired fn (one_more path v) (worked t h) (worked s h) → SameNext path t s v h
    source_fails : {h : Head} (cause : Cause) → ((depth : ℕ) → next_at s.registers depth h ≡ next.Access (access.Fail cause)) → SameNext path t s v h
    loads : (r x : ℕ) → r < old_registers fn → pending x path ≡ false → PendingStays path v → GivesPaired path v r t s → SameNext path t s v (Load r x)
    stores : (x : ℕ) (a : Atom) → IsBelow (evaluated t.registers a) (evaluated s.registers a) → pending x (one_more path v) ≡ false → PendingStaysBut x path v → FramesPaired fn (one_more path v) (passed t true) (passed s true) → SameNext path t s v (Store x a)
    loads_atomic : (r : ℕ) (order : Order) (y : ℕ) → PendingStays path v → GivesPaired path v r t s → SameNext path t s v (AtomicLoad r order y)
    stores_atomic : (order : Order) (y : ℕ) (a : Atom) → IsBelow (evaluated t.registers a) (evaluated s.registers a) → (is_release (AtomicStore order y a) ≡ true → Settled path) → PendingStays path v → FramesPaired fn (one_more path v) (passed t true) (passed s true) → SameNext path t s v (AtomicStore order y a)
    updates : (r : ℕ) (order : Order) (y : ℕ) (kind : Rmw) → IsKindBelow (evaluated_kind t.registers kind) (evaluated_kind s.registers kind) → (is_release (Update r order y kind) ≡ true → Settled path) → PendingStays path v → GivesPaired path v r t s → SameNext path t s v (Update r order y kind)
    fences : (order : Order) → (is_release (Fence order) ≡ true → Settled path) → PendingStays path v → FramesPaired fn (one_more path v) (passed t true) (passed s true) → SameNext path t s v (Fence order)
    prints : (a : Atom) (n : ℤ) → evaluated t.registers a ≡ Def n → evaluated s.registers a ≡ Def n → PendingStays path v → FramesPaired fn (one_more path v) (passed t true) (passed s true) → SameNext path t s v (Print a)
    calls : (r f : ℕ) (args : List Atom) → ValuesBelow (map (evaluated t.registers) args) (map (evaluated s.registers) args) → Settled path → PendingStays path v → GivesPaired path v r t s → SameNext path t s v (Call r f args)

  pub data PairedNext (path : List Visit) (t s : Frame) : Type 0 where
    both_end : first_head t.continuation ≡ None → first_head s.continuation ≡ None → Settled path → PairedNext path t s
    inserts : (v : Visit) (r x : ℕ) → first_head t.continuation ≡ Some (Load r x) → v.head ≡ Load r x → old_registers fn ≤ r → r < 64 → pending x path ≡ false → PendingStays path v → ((b : Val) → FramesPaired fn (one_more path v) (gave t r b) s) → PairedNext path t s
    turns : (v : Visit) (r x : ℕ) (e : Atom) → first_head t.continuation ≡ Some (Copy r e) → first_head s.continuation ≡ Some (Load r x) → v.head ≡ Load r x → r < old_registers fn → (level_on x e path ≡ Nothing → ⊥) → PendingStays path v → GivesPaired path v r t s → PairedNext path t s
    removes : (v : Visit) (x : ℕ) (a : Atom) → first_head t.continuation ≡ Some Skip → first_head s.continuation ≡ Some (Store x a) → v.head ≡ Store x a → IsBelow (evaluated t.registers a) (evaluated s.registers a) → pending x (one_more path v) ≡ true → PendingStaysBut x path v → FramesPaired fn (one_more path v) (passed t true) (passed s true) → PairedNext path t s
    same : (v : Visit) (h : Head) → first_head t.continuation ≡ Some h → first_head s.continuation ≡ Some h → v.head ≡ h → IsProperHead p (old_registers fn) h → SameNext path t s v h → PairedNext path t s

-- each pair of calls goes on by one of the cases
abbrev pub PairsGoOn : Type 0
PairsGoOn = (p q : Program) (k : ℕ) (fn : PairedFunction p q k) (path : List Visit) (t s : Frame) → FramesPaired fn path t s → PairedNext fn path t s
