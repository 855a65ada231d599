-- Whether statements are accepted and blocks equal, as tests on a row of pairs and a set of live registers. No public
-- clause cites this file.
use Rattle.std.specs.Prelude.{◌≡◌, ◌<◌, MatchOption, slice_get, ℕ, ℤ, Bool, true, false, not, ◌&&◌, ◌||◌, ◌==◌, List, [], ◌∷◌, Option, Some, None, slice_index_or}
use Rattle.std.specs.Option.{option_map_or}
use Rattle.std.specs.Ordering.{int_eq}
use Rattle.std.specs.Str.{bytes_eq}
use Rattle.values_undef.specs.Arithmetic.{result_of}
use Rattle.values_undef.specs.declared.arithmetic.Op.{Op}
use Rattle.values_undef.specs.declared.value.Val.{Val}
use Rattle.values_undef.specs.declared.value.Val.TheVariants.{Def, Undef}
use Rattle.il_syntax.specs.declared.statement.Atom.{Atom}
use Rattle.il_syntax.specs.declared.statement.Atom.TheVariants.{Const, Reg}
use Rattle.il_syntax.specs.declared.statement.Stmt.TheOpen.{Copy, Compute}
use Rattle.il_syntax.specs.declared.statement.Stmt.{Stmt}
use Rattle.il_syntax.specs.declared.program.Function.{Function}
use Rattle.il_syntax.specs.Statements.{Head, head_of}
use Rattle.il_paths.specs.Atoms.{atoms_equal}
use Rattle.il_paths.specs.Tree.{Tree, Empty, Then, IfThen, WhileThen, tree_of}
use Rattle.rewriting.specs.Heads.{is_skip, same_head}
use Rattle.location_sets.specs.Sets.{has}
use Rattle.tidy.specs.declared.known.KnownPair.{KnownPair}
use Rattle.tidy.specs.Atoms.{atoms_in, with_atoms}
use Rattle.tidy.specs.Accepts.{assigned_register}
use Rattle.tidy.specs.Rows.{known_in}
use Rattle.tidy.specs.Least.{least_in}

-- the second atom stands for the first
abbrev pub known_as : List KnownPair → Atom → Atom → Bool
known_as row (Const n) b = false
known_as row (Reg r) b = known_in row r b

abbrev pub stands_in : List KnownPair → Atom → Atom → Bool
stands_in row a b = atoms_equal a b || known_as row a b

-- as many, and each stands for its own
abbrev pub all_stand : List KnownPair → List Atom → List Atom → Bool
all_stand row [] [] = true
all_stand row [] (b ∷ bs) = false
all_stand row (a ∷ more) [] = false
all_stand row (a ∷ more) (b ∷ bs) = stands_in row a b && all_stand row more bs

abbrev pub differs_in_atoms : List KnownPair → Head → Head → Bool
differs_in_atoms row old new = all_stand row (atoms_in old) (atoms_in new) && same_head new (with_atoms old (atoms_in new))

-- the constant that an atom is known to be
abbrev pub constant_of : Option Atom → Option ℤ
constant_of None = None
constant_of (Some (Const n)) = Some n
constant_of (Some (Reg s)) = None

abbrev pub constant_in : List KnownPair → Atom → Option ℤ
constant_in row (Const n) = Some n
constant_in row (Reg r) = constant_of (least_in row r)

-- the arithmetic gives this number
abbrev pub is_number : ℤ → Option Val → Bool
is_number v None = false
is_number v (Some Undef) = false
is_number v (Some (Def n)) = int_eq n v

abbrev pub gives_number : Op → Option ℤ → Option ℤ → ℤ → Bool
gives_number op None n v = false
gives_number op (Some m) None v = false
gives_number op (Some m) (Some n) v = is_number v (result_of op (Def m) (Def n))

abbrev pub copies_number : List KnownPair → ℕ → Op → Atom → Atom → Head → Bool
copies_number row r op a b (Copy s (Const v)) = (r == s) && gives_number op (constant_in row a) (constant_in row b) v
copies_number row r op a b _ = false

abbrev pub is_done : List KnownPair → Head → Head → Bool
is_done row (Compute r op a b) new = copies_number row r op a b new
is_done row _ new = false

abbrev pub may_go : List ℕ → Head → Bool
may_go live old = option_map_or (λ r. not (has r live)) (assigned_register old) false

abbrev pub is_cleared : List ℕ → Head → Head → Bool
is_cleared live old new = is_skip new && may_go live old

abbrev pub statement_accepted : List KnownPair → List ℕ → Head → Head → Bool
statement_accepted row live old new = is_cleared live old new || (is_done row old new || differs_in_atoms row old new)

-- as many statements, and place by place of one kind, with inner blocks equal in the same way
abbrev pub same_blocks : Tree → Tree → Bool
same_blocks Empty Empty = true
same_blocks (Then one rest) (Then other more) = same_blocks rest more
same_blocks (IfThen a yes_block no_block rest) (IfThen b yes_other no_other more) = same_blocks yes_block yes_other && (same_blocks no_block no_other && same_blocks rest more)
same_blocks (WhileThen a body rest) (WhileThen b other more) = same_blocks body other && same_blocks rest more
same_blocks _ _ = false

-- name by name
abbrev pub names_equal : List (List ℕ) → List (List ℕ) → Bool
names_equal [] [] = true
names_equal [] (b ∷ bs) = false
names_equal (a ∷ more) [] = false
names_equal (a ∷ more) (b ∷ bs) = bytes_eq a b && names_equal more bs

abbrev pub same_frame : Function → Function → Bool
same_frame f g = bytes_eq f.name g.name && ((f.params == g.params) && (names_equal f.registers g.registers && same_blocks (tree_of f.body) (tree_of g.body)))

-- the statements at a site, if there are two
abbrev pub pair_accepted : List KnownPair → List ℕ → Option Stmt → Option Stmt → Bool
pair_accepted row live (Some old) (Some new) = statement_accepted row live (head_of old) (head_of new)
pair_accepted row live (Some old) None = true
pair_accepted row live None new = true

-- by the row before the site and the set after it
abbrev pub accepted_in : List (List KnownPair) → List (List ℕ) → List Stmt → List Stmt → ℕ → Bool
accepted_in rows sets olds news site = pair_accepted (slice_index_or rows site []) (slice_index_or sets site []) (slice_get olds site) (slice_get news site)

-- the first number below a bound that fails the test
abbrev pub IsFirstFailing : (ℕ → Bool) → ℕ → Option ℕ → Type 0
IsFirstFailing accepted count first =
    MatchOption first ((site : ℕ) → site < count → accepted site ≡ true) (λ site. (site < count) × ((earlier : ℕ) → earlier < site → accepted earlier ≡ true) × (accepted site ≡ false))
