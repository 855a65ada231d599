-- A function with loads put in before its loops: the function is walked in text order, and at each loop the
-- locations are taken in the order in which they are declared.
use Rattle.std.specs.Prelude.{◌≡◌, ℕ, zero, suc, ◌+◌, ◌==◌, nat_lt, not, ◌&&◌, Bool, true, false, if◌then◌else◌, List, [], ◌∷◌, ◌++◌, length, map, codes}
use Rattle.std.specs.List.{list_any}
use Rattle.std.specs.Fmt.{decimal}
use Rattle.il_syntax.specs.declared.statement.Stmt.{Stmt}
use Rattle.il_syntax.specs.declared.statement.Stmt as made
use Rattle.il_syntax.specs.declared.statement.Stmt.TheOpen.{Skip, Copy, Compute, Load, Store, AtomicLoad, AtomicStore, Update, Fence, Print, If, While, Call}
use Rattle.il_syntax.specs.Statements.{Head}
use Rattle.il_syntax.specs.declared.program.Function.{Function}
use Rattle.il_syntax.specs.Name.{is_among}
use Rattle.il_paths.specs.Heads.{is_acquire}
use Rattle.il_paths.specs.Tree.{Tree, Empty, Then, IfThen, WhileThen, tree_of, heads_in, sites_of}
use Rattle.load_hoist.specs.declared.growth.Extra.{Extra}
use Rattle.load_hoist.specs.declared.growth.Growth.{Growth}

-- the names of new registers
abbrev pub hoisted_name : ℕ → List ℕ
hoisted_name k = codes "_h" ++ decimal k

-- the first number from k on whose name isn't taken, so many numbers tried
abbrev pub free_number : ℕ → ℕ → List (List ℕ) → ℕ
free_number zero k taken = k
free_number (suc tries) k taken = if is_among taken (hoisted_name k) then free_number tries (k + 1) taken else k

-- the least number whose name no register so far and nothing of the program has
abbrev pub next_number : List (List ℕ) → Growth → ℕ
next_number names g = free_number (length (g.registers ++ names)) 0 (g.registers ++ names)

abbrev pub grown : List (List ℕ) → Growth → Growth
grown names g = record { registers = g.registers ++ hoisted_name (next_number names g) ∷ []; statements = g.statements + 1 }

abbrev pub may_grow : Growth → Bool
may_grow g = nat_lt (length g.registers) 64 && nat_lt g.statements 4096

-- the statement loads x
abbrev pub loads : ℕ → Head → Bool
loads x Skip = false
loads x (Copy r a) = false
loads x (Compute r op a b) = false
loads x (Load r y) = y == x
loads x (Store y a) = false
loads x (AtomicLoad r order y) = false
loads x (AtomicStore order y a) = false
loads x (Update r order y kind) = false
loads x (Fence order) = false
loads x (Print a) = false
loads x (If a _ _) = false
loads x (While a _) = false
loads x (Call r function args) = false

-- the statement keeps a load of x in its loop: a store to x, an acquire or a call
abbrev pub forbids : ℕ → Head → Bool
forbids x Skip = false
forbids x (Copy r a) = false
forbids x (Compute r op a b) = false
forbids x (Load r y) = false
forbids x (Store y a) = y == x
forbids x (AtomicLoad r order y) = is_acquire (AtomicLoad r order y)
forbids x (AtomicStore order y a) = is_acquire (AtomicStore order y a)
forbids x (Update r order y kind) = is_acquire (Update r order y kind)
forbids x (Fence order) = is_acquire (Fence order)
forbids x (Print a) = false
forbids x (If a _ _) = false
forbids x (While a _) = false
forbids x (Call r function args) = true

abbrev pub is_wanted : ℕ → Tree → Bool
is_wanted x body = list_any (loads x) (heads_in body) && not (list_any (forbids x) (heads_in body))

-- whether a load of x is put before a loop with this body
abbrev pub gets_load : Tree → List ℕ → ℕ → Growth → Bool
gets_load body inside x g = is_wanted x body && (not (list_any (λ y. y == x) inside) && may_grow g)

-- the loads before a loop with this body, of n locations from x on, and the function after them
abbrev pub extras : List (List ℕ) → Tree → List ℕ → ℕ → ℕ → Growth → List Extra × Growth
extras names body inside zero x g = ([], g)
extras names body inside (suc n) x g =
    if gets_load body inside x g
    then (let more = extras names body inside n (x + 1) (grown names g) in (record { r = length g.registers; x = x } ∷ more.0, more.1))
    else extras names body inside n (x + 1) g

-- the load itself
abbrev pub load_of : Extra → Stmt
load_of e = made.Load e.r e.x

abbrev pub put_loads : List Extra → Tree → Tree
put_loads [] rest = rest
put_loads (extra ∷ more) rest = Then (Load extra.r extra.x) (put_loads more rest)

-- The tree with its loads, and the function after them. `inside` are the locations of which a load was put
-- before a loop around.
abbrev pub introduced : ℕ → List (List ℕ) → Tree → List ℕ → Growth → Tree × Growth
introduced na names Empty inside g = (Empty, g)
introduced na names (Then leaf rest) inside g =
    let more = introduced na names rest inside g in (Then leaf more.0, more.1)
introduced na names (IfThen a yes_block no_block rest) inside g =
    let one = introduced na names yes_block inside g in
    let other = introduced na names no_block inside one.1 in
    let more = introduced na names rest inside other.1 in
    (IfThen a one.0 other.0 more.0, more.1)
introduced na names (WhileThen a body rest) inside g =
    let put = extras names body inside na 0 g in
    let turn = introduced na names body (map (λ (e : Extra). e.x) put.0 ++ inside) put.1 in
    let more = introduced na names rest inside turn.1 in
    (put_loads put.0 (WhileThen a turn.0 more.0), more.1)

-- the function before any load was put in
abbrev pub growth_of : Function → Growth
growth_of f = record { registers = f.registers; statements = sites_of (tree_of f.body) }

-- g is f with its loads put in, in a program with so many na locations and these names of locations and functions
pub record IsIntroduced (na : ℕ) (names : List (List ℕ)) (f g : Function) : Type 0 where
  pub name : g.name ≡ f.name
  pub params : g.params ≡ f.params
  pub result : g.result ≡ f.result
  pub body : tree_of g.body ≡ (introduced na names (tree_of f.body) [] (growth_of f)).0
  pub registers : g.registers ≡ (introduced na names (tree_of f.body) [] (growth_of f)).1.registers
