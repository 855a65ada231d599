-- A target is walked beside its source, block by block and in text order.
use Rattle.std.specs.Prelude.{ℕ, Bool, true, false, not, ◌&&◌, ◌==◌, nat_le, nat_lt, if◌then◌else◌, List, [], ◌∷◌, ◌++◌, length, slice_index_or, Option, Some, None}
use Rattle.il_syntax.specs.declared.statement.Atom.{Atom}
use Rattle.il_syntax.specs.declared.statement.Stmt.TheOpen.{Skip, Copy, Load, Store}
use Rattle.il_syntax.specs.Statements.{Head}
use Rattle.il_paths.specs.Tree.{head_of_leaf, Tree, Empty, Then, IfThen, WhileThen}
use Rattle.il_paths.specs.Atoms.{atoms_equal}
use Rattle.validator.specs.Roles.{Role, Same, Turned, Removed, Inserted}
use Rattle.validator.specs.declared.walk.NewRegisters.{NewRegisters}
use Rattle.validator.specs.declared.walk.Part.{Part}
use Rattle.rewriting.specs.Heads.{same_head}

-- a register that the target has and the source lacks
abbrev pub is_new : NewRegisters → ℕ → Bool
is_new new r = nat_le new.first r && nat_lt r new.end

-- a load into a new register
abbrev pub is_inserted : NewRegisters → Head → Bool
is_inserted new (Load r x) = is_new new r
is_inserted new _ = false

-- inserted loads, and then a `while`
abbrev pub before_loop : NewRegisters → Tree → Bool
before_loop new Empty = false
before_loop new (Then leaf rest) = is_inserted new (head_of_leaf leaf) && before_loop new rest
before_loop new (IfThen a yes_block no_block rest) = false
before_loop new (WhileThen a body rest) = true

-- what the walk found of a statement that has a partner, and of an inserted load
abbrev pub with_partner : Role → Part
with_partner role = record { role = role; stray = false }

abbrev pub inserted_part : Bool → Part
inserted_part followed = record { role = Inserted; stray = not followed }

-- beyond the parts a statement is the same
abbrev pub part_at : List Part → ℕ → Part
part_at parts site = slice_index_or parts site (with_partner Same)

abbrev pub role_at : List Part → ℕ → Role
role_at parts site = (part_at parts site).role

-- a load that became a copy into the same register
abbrev pub turned_role : ℕ → ℕ → Head → Option Role
turned_role r x (Copy s a) = if r == s then Some (Turned x a) else None
turned_role r x _ = None

-- a store that became a `skip`
abbrev pub removed_role : ℕ → Atom → Head → Option Role
removed_role x a Skip = Some (Removed x a)
removed_role x a _ = None

abbrev pub changed_role : Head → Head → Option Role
changed_role (Load r x) other = turned_role r x other
changed_role (Store x a) other = removed_role x a other
changed_role _ other = None

-- the role of a statement whose partner in the source is this one
abbrev pub role_of : Head → Head → Option Role
role_of partner head = if same_head partner head then Some Same else changed_role partner head

-- the site of the first statement without a partner, or what each of them is
pub data Outcome : Type 0 where
  Apart : (site : ℕ) → Outcome
  Together : (parts : List Part) → Outcome

abbrev pub and_then : Outcome → (List Part → Outcome) → Outcome
and_then (Apart site) more = Apart site
and_then (Together parts) more = more parts

abbrev pub with_role : List Part → Option Role → (List Part → Outcome) → Outcome
with_role done None more = Apart (length done)
with_role done (Some role) more = more (done ++ with_partner role ∷ [])

-- a plain statement beside what is left of the source
abbrev pub plain_step : Head → List Part → Tree → (Tree → List Part → Outcome) → Outcome
plain_step head done (Then partner rest) more = with_role done (role_of (head_of_leaf partner) head) (more rest)
plain_step head done _ more = Apart (length done)

-- an `if` beside it, whose partner has the same condition
abbrev pub branch_step : Atom → List Part → Tree → (Tree → List Part → Outcome) → (Tree → List Part → Outcome) → (Tree → List Part → Outcome) → Outcome
branch_step a done (IfThen b yes_block no_block rest) one other more =
    if atoms_equal b a then and_then (one yes_block (done ++ with_partner Same ∷ [])) (λ d. and_then (other no_block d) (more rest)) else Apart (length done)
branch_step a done _ one other more = Apart (length done)

-- a `while` beside it
abbrev pub loop_step : Atom → List Part → Tree → (Tree → List Part → Outcome) → (Tree → List Part → Outcome) → Outcome
loop_step a done (WhileThen b body rest) turn more =
    if atoms_equal b a then and_then (turn body (done ++ with_partner Same ∷ [])) (more rest) else Apart (length done)
loop_step a done _ turn more = Apart (length done)

-- nothing of the source is left at the end of a block
abbrev pub at_end : Tree → List Part → Outcome
at_end Empty done = Together done
at_end _ done = Apart (length done)

-- The target, beside what is left of the source, after the statements with these parts: there is one
-- part for each site before.
abbrev pub walk : NewRegisters → Tree → Tree → List Part → Outcome
walk new Empty source done = at_end source done
walk new (Then leaf rest) source done =
    if is_inserted new (head_of_leaf leaf) then walk new rest source (done ++ inserted_part (before_loop new rest) ∷ []) else plain_step (head_of_leaf leaf) done source (walk new rest)
walk new (IfThen a yes_block no_block rest) source done = branch_step a done source (walk new yes_block) (walk new no_block) (walk new rest)
walk new (WhileThen a body rest) source done = loop_step a done source (walk new body) (walk new rest)
