-- Positions of a program.
use Rattle.std.proofs.Common.{◌≡◌, ℕ, zero, suc, ◌≤◌, Some, Option, List, [], ◌∷◌, length, map, arith, refl, sym, ap, subst, ◌∙◌, slice_get, None, MatchOption, IfSome, IsSomeAnd, IfOk, Result, Ok, Err}
use Rattle.std.specs.List.{AllByRecursion}
use Rattle.values_undef.proofs.Callers.{all_got}
use Rattle.values_undef.specs.declared.value.Val.{Val}
use Rattle.il_syntax.specs.declared.statement.Atom.{Atom}
use Rattle.il_syntax.specs.declared.statement.Atom.TheVariants.{Const, Reg}
use Rattle.il_syntax.specs.declared.statement.Rmw.{Rmw}
use Rattle.il_syntax.specs.declared.statement.Rmw.TheVariants as rmw
use Rattle.il_syntax.specs.declared.statement.Stmt.TheOpen.{Skip, Copy, Compute, Load, Store, AtomicLoad, AtomicStore, Update, Fence, Print, If, While, Call}
use Rattle.il_syntax.specs.declared.program.Function.{Function}
use Rattle.il_syntax.specs.declared.program.Program.{Program}
use Rattle.il_syntax.specs.declared.statement.Stmt.{Stmt}
use Rattle.il_syntax.specs.Statements.{Head, head_of}
use Rattle.il_paths.specs.Tree.{Tree, Empty, Then, IfThen, WhileThen, before_rest, tree_of}
use Rattle.il_paths.specs.Code.{Code, End, placed, join, first_head, AllHeads}
use Rattle.il_paths.proofs.Callers.{at_first, first_of, all_placed, all_first, join-end}
use Rattle.thread_core.specs.Programs.{function_at, body_of, code_of, IsProperAtom, IsProperUpdate, IsProperHead, IsProperFunction, IsProperProgram}
use Rattle.thread_core.specs.declared.position.Position.{Position}
use Rattle.thread_core.specs.Frames.{Frame, Stack, evaluated, loaded, blank, begun, advanced_at, advanced}
use Rattle.thread_core.specs.declared.path.Side.{Side}
use Rattle.thread_core.specs.declared.path.Side.TheVariants.{Yes, No, Body}
use Rattle.thread_core.specs.declared.path.Outer.{Outer}
use Rattle.thread_core.specs.declared.path.Path.{Path}
use Rattle.thread_core.specs.Path.{tail_of, width, tree_from, inner_block, statements_at, site_at, rest_at, standing, standing_of, IsLeft, way, tree_at, site_of, continuation_of, IsPlace}
use Rattle.thread_core.specs.Steps.{Positions, frame_in, stack_in, entered, first_path}

pub function_proper : (p : Program) (f : ℕ) (g : Function) → IsProperProgram p → function_at p f ≡ Some g → IsProperFunction p g
function_proper p f g h e = all_got (IsProperFunction p) p.functions f g h.functions e

pub some_and : {X : Type 0} (o : Option X) (x : X) (P : X → Type 0) → o ≡ Some x → P x → IsSomeAnd o P
some_and o x P e h = subst (λ q. IsSomeAnd q P) (sym e) h

pub some_of_match : {X : Type 0} (o : Option X) (N : Type 0) (P Q : X → Type 0) → ((x : X) → P x → Q x) → MatchOption o N P → IfSome o Q
some_of_match None N P Q f h = tt
some_of_match (Some x) N P Q f h = f x h

pub some_at : {X : Type 0} (o : Option X) (x : X) (P : X → Type 0) → o ≡ Some x → IsSomeAnd o P → P x
some_at o x P e h = subst (λ q. IsSomeAnd q P) e h

-- the statement at a place is the next one of what is still to do from there on
pub head_stands : (root : Tree) (path : Path) (s : Stmt) (rest : Tree) → tree_at root path ≡ before_rest s rest → first_head (continuation_of root path) ≡ Some (head_of s)
head_stands root path s rest e =
    let at = standing_of root path in
    let n = site_of root path in
    ap (λ (t : Tree). first_head (join (placed n t) at.after)) e
    ∙ ap first_head (sym (at_first n (before_rest s rest) at.after))
    ∙ first_of s n rest at.after

-- at the end nothing is left to do
pub ends_at : (root : Tree) (path : Path) → IsPlace root path → tree_at root path ≡ Empty → continuation_of root path ≡ End
ends_at root path h e = nothing (way path) path.left path.index h.left e
  where
    nothing : (outer : List Outer) (left i : ℕ) → IsLeft outer left (statements_at (standing root outer) i) → statements_at (standing root outer) i ≡ Empty → rest_at (standing root outer) i ≡ End
    nothing [] left i h e = ap (λ (t : Tree). join (placed (site_at (standing root []) i) t) End) e
    nothing (o ∷ outer) left i h e = absurd (omega (arith, h, ap width e))

-- what each statement of a tree is, that of a block of it is
tail_heads : (P : Head → Type 0) (t : Tree) → AllHeads P t → AllHeads P (tail_of t)
tail_heads P Empty h = h
tail_heads P (Then leaf rest) h = h.1
tail_heads P (IfThen a one other rest) h = h.3
tail_heads P (WhileThen a body rest) h = h.2

from_heads : (P : Head → Type 0) (i : ℕ) (t : Tree) → AllHeads P t → AllHeads P (tree_from i t)
from_heads P zero t h = h
from_heads P (suc i) t h = tail_heads P (tree_from i t) (from_heads P i t h)

inner_heads : (P : Head → Type 0) (side : Side) (t : Tree) → AllHeads P t → AllHeads P (inner_block side t)
inner_heads P Yes Empty h = tt
inner_heads P Yes (Then leaf rest) h = tt
inner_heads P Yes (IfThen a one other rest) h = h.1
inner_heads P Yes (WhileThen a body rest) h = tt
inner_heads P No Empty h = tt
inner_heads P No (Then leaf rest) h = tt
inner_heads P No (IfThen a one other rest) h = h.2
inner_heads P No (WhileThen a body rest) h = tt
inner_heads P Body Empty h = tt
inner_heads P Body (Then leaf rest) h = tt
inner_heads P Body (IfThen a one other rest) h = tt
inner_heads P Body (WhileThen a body rest) h = h.1

standing_heads : (P : Head → Type 0) (root : Tree) (outer : List Outer) → AllHeads P root → AllHeads P (standing root outer).block
standing_heads P root [] h = h
standing_heads P root (o ∷ outer) h = inner_heads P o.side (statements_at (standing root outer) o.index) (from_heads P o.index (standing root outer).block (standing_heads P root outer h))

-- the statement at a place is proper
pub head_proper : (p : Program) (f : ℕ) (g : Function) (path : Path) (s : Stmt) (rest : Tree) → IsProperProgram p → function_at p f ≡ Some g → tree_at (tree_of g.body) path ≡ before_rest s rest → IsProperHead p (length g.registers) (head_of s)
head_proper p f g path s rest ok e t =
    let P = IsProperHead p (length g.registers) in
    let root = tree_of g.body in
    let u = tree_at root path in
    let all = from_heads P path.index (standing_of root path).block (standing_heads P root (way path) (function_proper p f g ok e).heads) in
    all_first P (placed 0 u) (head_of s) (all_placed P 0 u all)
    (ap (λ (v : Tree). first_head (placed 0 v)) t ∙ ap first_head (sym (at_first 0 (before_rest s rest) End ∙ join-end (placed 0 (before_rest s rest)))) ∙ first_of s 0 rest End)

atom_more : (n : ℕ) (a : Atom) → n ≤ 64 → IsProperAtom n a → IsProperAtom 64 a
atom_more n (Const i) l h = h
atom_more n (Reg r) l h = omega arith

update_more : (n : ℕ) (k : Rmw) → n ≤ 64 → IsProperUpdate n k → IsProperUpdate 64 k
update_more n (rmw.Add a) l h = atom_more n a l h
update_more n (rmw.Swap a) l h = atom_more n a l h
update_more n (rmw.Cas expected new) l h = (atom_more n expected l h.0, atom_more n new l h.1)

atoms_more : (n : ℕ) (list : List Atom) → n ≤ 64 → AllByRecursion (IsProperAtom n) list → AllByRecursion (IsProperAtom 64) list
atoms_more n [] l h = h
atoms_more n (a ∷ more) l h = (atom_more n a l h.0, atoms_more n more l h.1)

pub proper_more : (p : Program) (n : ℕ) (h : Head) → n ≤ 64 → IsProperHead p n h → IsProperHead p 64 h
proper_more p n Skip l h = h
proper_more p n (Copy r a) l h = (omega (arith, h.0), atom_more n a l h.1)
proper_more p n (Compute r op a b) l h = (omega (arith, h.0), atom_more n a l h.1, atom_more n b l h.2)
proper_more p n (Load r x) l h = (omega (arith, h.0), h.1)
proper_more p n (Store x a) l h = (h.0, atom_more n a l h.1)
proper_more p n (AtomicLoad r order y) l h = (omega (arith, h.0), h.1, h.2)
proper_more p n (AtomicStore order y a) l h = (h.0, h.1, atom_more n a l h.2)
proper_more p n (Update r order y kind) l h = (omega (arith, h.0), h.1, update_more n kind l h.2)
proper_more p n (Fence order) l h = h
proper_more p n (Print a) l h = atom_more n a l h
proper_more p n (If a x y) l h = atom_more n a l h
proper_more p n (While a x) l h = atom_more n a l h
proper_more p n (Call r f args) l h = (omega (arith, h.0), h.1, atoms_more n args l h.2)

-- a call has few arguments
pub call_few : (p : Program) (r f : ℕ) (args : List Atom) → IsProperProgram p → IsProperHead p 64 (Call r f args) → length args ≤ 8
call_few p r f args ok h = at_some (function_at p f) refl h.1
  where
    at_some : (o : Option Function) → function_at p f ≡ o → IsSomeAnd o (λ g. length args ≡ g.params) → length args ≤ 8
    at_some None e q = absurd q
    at_some (Some g) e q = let few = (function_proper p f g ok e).few_params in omega (arith, q, few)

whole : (p : Program) (f : ℕ) → continuation_of (body_of p f) first_path ≡ code_of p f
whole p f = join-end (code_of p f)

pub called_in : (p : Program) (f : ℕ) (registers : List Val) → frame_in p (record { function = f; path = first_path; registers = registers }) ≡ record { function = f; registers = registers; continuation = code_of p f }
called_in p f registers = ap (λ (k : Code). let x : Frame = record { function = f; registers = registers; continuation = k } in x) (whole p f)

pub begins_in : (p : Program) (f : ℕ) (values : List Val) (l : Positions) (top : Position) → l ≡ record { top = top; callers = [] } → top ≡ record { function = f; path = first_path; registers = loaded 0 values blank } → stack_in p l ≡ begun p f values
begins_in p f values l top e t =
    ap (stack_in p) (e ∙ ap (λ (x : Position). let y : Positions = record { top = x; callers = [] } in y) t)
    ∙ ap (λ (x : Frame). let y : Stack = record { top = x; callers = [] } in y) (called_in p f (loaded 0 values blank))

pub calls_in : (p : Program) (l m : Positions) (r f : ℕ) (args : List Atom) → first_head (stack_in p l).top.continuation ≡ Some (Call r f args) → m.top ≡ entered l.top f args → m.callers ≡ l.top ∷ l.callers → stack_in p m ≡ advanced p (stack_in p l)
calls_in p l m r f args e t cs =
    (λ i. record { top = (ap (frame_in p) t ∙ called_in p f (loaded 0 (map (evaluated l.top.registers) args) blank)) i; callers = map (frame_in p) (cs i) })
    ∙ sym (ap (advanced_at p (stack_in p l)) e)

pub ok_map : {T E : Type 0} (r : Result T E) (P Q : T → Type 0) → ((x : T) → P x → Q x) → IfOk r P → IfOk r Q
ok_map (Ok x) P Q f h = f x h
ok_map (Err e) P Q f h = h
