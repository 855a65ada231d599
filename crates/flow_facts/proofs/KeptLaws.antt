-- How a pair comes to be above nothing after a statement: a store made it, a load made it, or it is kept.
use Rattle.std.proofs.Common.{◌≡◌, ℕ, Bool, true, false, cond, ◌&&◌, ◌==◌, Some, None, refl, sym, ap, ◌∙◌, ◌⊎◌, inl, inr, ⊎_elim}
use Rattle.std.specs.Prelude.{◌≢◌}
use Rattle.std.proofs.lemmas.Bool.{false≢true, eqb-true, eq-eqb}
use Rattle.std.proofs.lemmas.Option.{none-some, same_Some}
use Rattle.il_syntax.specs.declared.statement.Atom.{Atom}
use Rattle.il_syntax.specs.declared.statement.Atom.TheVariants.{Reg}
use Rattle.il_syntax.specs.declared.statement.Stmt.TheOpen.{Skip, Copy, Compute, Load, Store, AtomicLoad, AtomicStore, Update, Fence, Print, If, While, Call}
use Rattle.il_syntax.specs.Statements.{Head}
use Rattle.il_paths.specs.Heads.{is_acquire, is_release, gives, stored_location, is_call}
use Rattle.flow_facts.specs.declared.level.Kind.{Kind}
use Rattle.flow_facts.specs.declared.level.Kind.TheVariants.{Both}
use Rattle.flow_facts.specs.declared.level.Level.{Level}
use Rattle.flow_facts.specs.declared.level.Level.TheVariants.{Nothing, Held, Fresh}
use Rattle.flow_facts.specs.declared.transfer.Transfer.{Transfer}
use Rattle.flow_facts.specs.declared.transfer.Transfer.TheVariants.{Keeps, Becomes}
use Rattle.flow_facts.specs.Levels.{stores_give, loads_give, after_transfer, synchronised, level_change}
use Rattle.il_paths.specs.Atoms.{atoms_equal}
use Rattle.flow_facts.specs.Laws.{Kept, PairsAreMadeOrKept, LevelsComeFrom}
use Rattle.il_paths.proofs.Callers.{atoms_equal-true}

-- The same as a case distinction, for proofs that go by cases.
pub data Came (x : ℕ) (a : Atom) (head : Head) (before after : Level) : Type 0 where
  by_store : head ≡ Store x a → after ≡ Fresh → Came x a head before after
  by_load : (r : ℕ) → head ≡ Load r x → a ≡ Reg r → after ≡ Held → Came x a head before after
  kept : Kept head x a before after → Came x a head before after

same_register : (a : Atom) (r : ℕ) → a ≡ Reg r → atoms_equal a (Reg r) ≡ true
same_register a r e = ap (λ (b : Atom). atoms_equal b (Reg r)) e ∙ eq-eqb r r refl

held_fresh : Held ≡ Fresh → ⊥
held_fresh e = cc

-- a statement that neither stores to the location, nor gives the register, nor calls
module _ (x : ℕ) (a : Atom) (head : Head) (not_stored : stored_location head ≢ Some x) (not_given : (r : ℕ) → gives head ≡ Some r → a ≢ Reg r) (no_call : is_call head ≡ false) where
  still : (l : Level) → is_acquire head ≡ false → is_release head ≡ false → l ≢ Nothing → Came x a head l l
  still l q r up =
      kept (record { above = up; fresh = λ e. e; not_stored = not_stored; not_given = not_given; no_call = no_call; heard = λ e. absurd (false≢true (sym q ∙ e)); handed = λ e. absurd (false≢true (sym r ∙ e)) })

  held_on : (q r : Bool) → is_acquire head ≡ q → is_release head ≡ r → after_transfer (synchronised q r) Held ≢ Nothing → Came x a head Held (after_transfer (synchronised q r) Held)
  held_on true true eq er up = absurd (up refl)
  held_on true false eq er up = absurd (up refl)
  held_on false false eq er up = still Held eq er up
  held_on false true eq er up =
      kept (record { above = up; fresh = λ e. e; not_stored = not_stored; not_given = not_given; no_call = no_call; heard = λ e. absurd (false≢true (sym eq ∙ e)); handed = λ e. held_fresh })

  fresh_on : (q r : Bool) → is_acquire head ≡ q → is_release head ≡ r → Came x a head Fresh (after_transfer (synchronised q r) Fresh)
  fresh_on true true eq er =
      kept (record { above = λ e. cc; fresh = λ e. refl; not_stored = not_stored; not_given = not_given; no_call = no_call; heard = λ e. refl; handed = λ e. held_fresh })
  fresh_on false true eq er =
      kept (record { above = λ e. cc; fresh = λ e. refl; not_stored = not_stored; not_given = not_given; no_call = no_call; heard = λ e. refl; handed = λ e. held_fresh })
  fresh_on true false eq er =
      kept (record { above = λ e. cc; fresh = λ e. refl; not_stored = not_stored; not_given = not_given; no_call = no_call; heard = λ e. refl; handed = λ e. absurd (false≢true (sym er ∙ e)) })
  fresh_on false false eq er =
      kept (record { above = λ e. cc; fresh = λ e. refl; not_stored = not_stored; not_given = not_given; no_call = no_call; heard = λ e. refl; handed = λ e. absurd (false≢true (sym er ∙ e)) })

  stays_nothing : (q r : Bool) → after_transfer (synchronised q r) Nothing ≡ Nothing
  stays_nothing true true = refl
  stays_nothing true false = refl
  stays_nothing false true = refl
  stays_nothing false false = refl

  synced : (q r : Bool) (l : Level) → is_acquire head ≡ q → is_release head ≡ r → after_transfer (synchronised q r) l ≢ Nothing → Came x a head l (after_transfer (synchronised q r) l)
  synced q r Nothing eq er up = absurd (up (stays_nothing q r))
  synced q r Held eq er up = held_on q r eq er up
  synced q r Fresh eq er up = fresh_on q r eq er

-- an atom that isn't the register given
other : (a : Atom) (s r : ℕ) → atoms_equal a (Reg s) ≡ false → Some s ≡ Some r → a ≡ Reg r → ⊥
other a s r n e f = false≢true (sym n ∙ same_register a s (f ∙ ap Reg (sym (same_Some s r e))))

none_given : (a : Atom) (r : ℕ) → None ≡ Some r → a ≡ Reg r → ⊥
none_given a r e f = none-some r e

none_stored : (x : ℕ) → None ≡ Some x → ⊥
none_stored x e = none-some x e

-- where a register loses its pairs the atom is another one
lost : (x : ℕ) (a : Atom) (head : Head) (r : ℕ) (l : Level) (t : Transfer) (b : Bool) → atoms_equal a (Reg r) ≡ b → after_transfer (cond b (Becomes Nothing) t) l ≢ Nothing → (atoms_equal a (Reg r) ≡ false → after_transfer t l ≢ Nothing → Came x a head l (after_transfer t l)) → Came x a head l (after_transfer (cond b (Becomes Nothing) t) l)
lost x a head r l t true e up more = absurd (up refl)
lost x a head r l t false e up more = more e up

load_came : (x : ℕ) (a : Atom) (r y : ℕ) (l : Level) (given b c : Bool) → atoms_equal a (Reg r) ≡ b → (y == x) ≡ c → after_transfer (cond b (cond (c && given) (Becomes Held) (Becomes Nothing)) Keeps) l ≢ Nothing → Came x a (Load r y) l (after_transfer (cond b (cond (c && given) (Becomes Held) (Becomes Nothing)) Keeps) l)
load_came x a r y l true true true e f up = by_load r (ap (Load r) (eqb-true y x f)) (atoms_equal-true a (Reg r) e) refl
load_came x a r y l false true true e f up = absurd (up refl)
load_came x a r y l given true false e f up = absurd (up refl)
load_came x a r y l given false c e f up = still x a (Load r y) (none_stored x) (λ s g. other a r s e g) refl l refl refl up

store_came : (x : ℕ) (a : Atom) (y : ℕ) (b : Atom) (l : Level) (given c d : Bool) → (y == x) ≡ c → atoms_equal a b ≡ d → after_transfer (cond c (cond (d && given) (Becomes Fresh) (Becomes Nothing)) Keeps) l ≢ Nothing → Came x a (Store y b) l (after_transfer (cond c (cond (d && given) (Becomes Fresh) (Becomes Nothing)) Keeps) l)
store_came x a y b l true true true e f up = by_store ((λ i. Store (eqb-true y x e i) (sym (atoms_equal-true a b f) i))) refl
store_came x a y b l false true true e f up = absurd (up refl)
store_came x a y b l given true false e f up = absurd (up refl)
store_came x a y b l given false d e f up = still x a (Store y b) (λ g. false≢true (sym e ∙ eq-eqb y x (same_Some y x g))) (none_given a) refl l refl refl up

pub came : (kind : Kind) (x : ℕ) (a : Atom) (head : Head) (l : Level) → level_change kind x a head l ≢ Nothing → Came x a head l (level_change kind x a head l)
came kind x a Skip l up = still x a Skip (none_stored x) (none_given a) refl l refl refl up
came kind x a (Copy r b) l up =
    lost x a (Copy r b) r l Keeps (atoms_equal a (Reg r)) refl up (λ n. still x a (Copy r b) (none_stored x) (λ s e. other a r s n e) refl l refl refl)
came kind x a (Compute r op b c) l up =
    lost x a (Compute r op b c) r l Keeps (atoms_equal a (Reg r)) refl up (λ n. still x a (Compute r op b c) (none_stored x) (λ s e. other a r s n e) refl l refl refl)
came kind x a (Load r y) l up = load_came x a r y l (loads_give kind) (atoms_equal a (Reg r)) (y == x) refl refl up
came kind x a (Store y b) l up = store_came x a y b l (stores_give kind) (y == x) (atoms_equal a b) refl refl up
came kind x a (AtomicLoad r order y) l up =
    let h : Head = AtomicLoad r order y in
    lost x a h r l (synchronised (is_acquire h) (is_release h)) (atoms_equal a (Reg r)) refl up (λ n. synced x a h (none_stored x) (λ s e. other a r s n e) refl (is_acquire h) (is_release h) l refl refl)
came kind x a (AtomicStore order y b) l up =
    let h : Head = AtomicStore order y b in synced x a h (none_stored x) (none_given a) refl (is_acquire h) (is_release h) l refl refl up
came kind x a (Update r order y update) l up =
    let h : Head = Update r order y update in
    lost x a h r l (synchronised (is_acquire h) (is_release h)) (atoms_equal a (Reg r)) refl up (λ n. synced x a h (none_stored x) (λ s e. other a r s n e) refl (is_acquire h) (is_release h) l refl refl)
came kind x a (Fence order) l up =
    let h : Head = Fence order in synced x a h (none_stored x) (none_given a) refl (is_acquire h) (is_release h) l refl refl up
came kind x a (Print b) l up = still x a (Print b) (none_stored x) (none_given a) refl l refl refl up
came kind x a (If b first second) l up = still x a (If b first second) (none_stored x) (none_given a) refl l refl refl up
came kind x a (While b body) l up = still x a (While b body) (none_stored x) (none_given a) refl l refl refl up
came kind x a (Call r function args) l up = absurd (up refl)

pub made_or_kept : PairsAreMadeOrKept
made_or_kept kind x a head l up = go (came kind x a head l up)
  where
    go : Came x a head l (level_change kind x a head l) → ((head ≡ Store x a) × (level_change kind x a head l ≡ Fresh)) ⊎ (((r : ℕ) × (head ≡ Load r x) × (a ≡ Reg r) × (level_change kind x a head l ≡ Held)) ⊎ Kept head x a l (level_change kind x a head l))
    go (by_store e f) = inl (e, f)
    go (by_load r e f g) = inr (inl (r, e, f, g))
    go (kept k) = inr (inr k)

pub levels_come_from : LevelsComeFrom
levels_come_from head x a l up = ⊎_elim (λ s. inl s.0) (λ r. inr r) (made_or_kept Both x a head l up)
