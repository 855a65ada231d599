-- What the passes did, in numbers.
use Rattle.std.specs.Prelude.{ℕ, ◌+◌, ◌-◌, Bool, true, false, ◌&&◌, if◌then◌else◌, List, [], ◌∷◌, length, map, sum, count_by}
use Rattle.il_syntax.specs.declared.statement.Stmt.TheOpen.{Skip, Copy, Compute, Load, Store, AtomicLoad, AtomicStore, Update, Fence, Print, If, While, Call}
use Rattle.il_syntax.specs.declared.program.Function.{Function}
use Rattle.il_syntax.specs.declared.program.Program.{Program}
use Rattle.il_syntax.specs.Statements.{Head, heads_of_all, site_count}
use Rattle.pass_chain.specs.declared.chains.ProgramChain.{ProgramChain}
use Rattle.pass_chain.specs.declared.counts.Counted.{Counted}
use Rattle.pass_chain.specs.declared.counts.Counted.TheVariants.{Loads, Stores}
use Rattle.pass_chain.specs.declared.counts.Counts.{Counts}

-- a load without an order
abbrev pub is_na_load : Head → Bool
is_na_load Skip = false
is_na_load (Copy r a) = false
is_na_load (Compute r op a b) = false
is_na_load (Load r x) = true
is_na_load (Store x a) = false
is_na_load (AtomicLoad r order y) = false
is_na_load (AtomicStore order y a) = false
is_na_load (Update r order y kind) = false
is_na_load (Fence order) = false
is_na_load (Print a) = false
is_na_load (If a _ _) = false
is_na_load (While a _) = false
is_na_load (Call r function args) = false

-- a store without an order
abbrev pub is_na_store : Head → Bool
is_na_store Skip = false
is_na_store (Copy r a) = false
is_na_store (Compute r op a b) = false
is_na_store (Load r x) = false
is_na_store (Store x a) = true
is_na_store (AtomicLoad r order y) = false
is_na_store (AtomicStore order y a) = false
is_na_store (Update r order y kind) = false
is_na_store (Fence order) = false
is_na_store (Print a) = false
is_na_store (If a _ _) = false
is_na_store (While a _) = false
is_na_store (Call r function args) = false

abbrev pub is_counted : Counted → Head → Bool
is_counted Loads head = is_na_load head
is_counted Stores head = is_na_store head

-- over all functions of a program

abbrev pub statements_of_program : Program → ℕ
statements_of_program p = sum (map (λ (f : Function). site_count f.body.statements) p.functions)

abbrev pub accesses : Counted → Program → ℕ
accesses counted p = sum (map (λ (f : Function). count_by (is_counted counted) (heads_of_all f.body.statements)) p.functions)

-- Forwarding turns loads into copies and changes nothing else, introduction only puts loads in, and the last
-- pass only turns stores into `skip`: so what they did is what there is less, or more.
abbrev pub counts_of : ProgramChain → Counts
counts_of c =
    record {
      functions = length c.source.functions;
      statements = statements_of_program c.source;
      forwarded = (accesses Loads c.source - accesses Loads c.stored) + (accesses Loads c.introduced - accesses Loads c.loaded);
      introduced = statements_of_program c.introduced - statements_of_program c.stored;
      removed = accesses Stores c.loaded - accesses Stores c.undead;
    }

-- The same by sites.

abbrev pub head_is_copy : Head → Bool
head_is_copy (Copy r a) = true
head_is_copy _ = false

abbrev pub head_is_skip : Head → Bool
head_is_skip Skip = true
head_is_skip _ = false

-- at how many sites a statement that passes the first test stands before, and one that passes the second after
abbrev pub became : (was is : Head → Bool) → (before after : List Head) → ℕ
became was is [] after = 0
became was is (h ∷ before) [] = 0
became was is (h ∷ before) (k ∷ after) = (if was h && is k then 1 else 0) + became was is before after

-- over the functions of two programs
abbrev pub became_in : (was is : Head → Bool) → (before after : List Function) → ℕ
became_in was is [] gs = 0
became_in was is (f ∷ fs) [] = 0
became_in was is (f ∷ fs) (g ∷ gs) = became was is (heads_of_all f.body.statements) (heads_of_all g.body.statements) + became_in was is fs gs

abbrev pub registers_of_program : Program → ℕ
registers_of_program p = sum (map (λ (f : Function). length f.registers) p.functions)
