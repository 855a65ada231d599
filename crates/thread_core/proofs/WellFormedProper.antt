-- Each well-formed program is one that the machine runs.
use Rattle.std.proofs.Common.{◌≡◌, ℕ, zero, suc, ◌<◌, Bool, true, false, ltb, leb, List, [], ◌∷◌, length, map, slice_get, IsSomeAnd, refl, sym, subst, arith}
use Rattle.std.specs.Prelude.{◌&&◌}
use Rattle.std.proofs.lemmas.List.{length-map}
use Rattle.std.proofs.lemmas.Bool.{and_parts, ltb-true, leb-true, eqb-true, false≢true}
use Rattle.std.specs.List.{list_all, AllByRecursion}
use Rattle.values_undef.specs.Access.{acquires, releases}
use Rattle.values_undef.proofs.Callers.{all_tested}
use Rattle.values_undef.specs.declared.access.Order.{Order}
use Rattle.values_undef.specs.declared.access.Order.TheVariants.{Rlx, Acq, Rel, AcqRel}
use Rattle.il_syntax.specs.declared.statement.Atom.{Atom}
use Rattle.il_syntax.specs.declared.statement.Atom.TheVariants.{Const, Reg}
use Rattle.il_syntax.specs.declared.statement.Rmw.{Rmw}
use Rattle.il_syntax.specs.declared.statement.Rmw.TheVariants as rmw
use Rattle.il_syntax.specs.declared.statement.Stmt.TheOpen.{Skip, Copy, Compute, Load, Store, AtomicLoad, AtomicStore, Update, Fence, Print, If, While, Call}
use Rattle.il_syntax.specs.declared.program.Function.{Function}
use Rattle.il_syntax.specs.declared.program.Start.{Start}
use Rattle.il_syntax.specs.declared.program.Program.{Program}
use Rattle.il_syntax.specs.Statements.{heads_of_all, site_count, depth_of_all}
use Rattle.il_syntax.specs.WellFormed.{declared_by, params_of, atom_exists, operands_exist, numbers_exist, atomic_location_exists, na_location_exists, is_load_order, is_store_order, order_is_allowed, has_params, arity_agrees, each_statement, function_numbers_exist, function_is_within_limits, blocks_are_shallow, thread_numbers_exist, thread_arity_agrees, is_signed_64, is_short, names_of, IsWellFormed}
use Rattle.il_syntax.specs.Statements.{Head}
use Rattle.il_paths.specs.Tree.{tree_of}
use Rattle.il_paths.proofs.Callers.{heads_agree, all_heads_of}
use Rattle.thread_core.specs.Programs.{function_at, IsProperAtom, IsProperUpdate, IsProperHead, IsProperFunction, IsProperStart, IsProperProgram}

-- ---- one statement

load_order : (order : Order) → is_load_order order ≡ true → releases order ≡ false
load_order Rlx h = refl
load_order Acq h = refl
load_order Rel h = absurd (false≢true h)
load_order AcqRel h = absurd (false≢true h)

store_order : (order : Order) → is_store_order order ≡ true → acquires order ≡ false
store_order Rlx h = refl
store_order Acq h = absurd (false≢true h)
store_order Rel h = refl
store_order AcqRel h = absurd (false≢true h)

atom_proper : (n : ℕ) (a : Atom) → atom_exists n a ≡ true → IsProperAtom n a
atom_proper n (Const i) h = tt
atom_proper n (Reg r) h = ltb-true r n h

update_proper : (n : ℕ) (k : Rmw) → operands_exist n k ≡ true → IsProperUpdate n k
update_proper n (rmw.Add a) h = atom_proper n a h
update_proper n (rmw.Swap a) h = atom_proper n a h
update_proper n (rmw.Cas expected new) h =
    let q = and_parts (atom_exists n expected) (atom_exists n new) h in (atom_proper n expected q.0, atom_proper n new q.1)

-- a function that is there has the parameters of its number
params_of_function : (fs : List Function) (f count : ℕ) → f < length fs → has_params (map (λ g. g.params) fs) f count ≡ true → IsSomeAnd (slice_get fs f) (λ g. count ≡ g.params)
params_of_function [] f count l h = absurd (omega arith)
params_of_function (g ∷ fs) zero count l h = eqb-true count g.params h
params_of_function (g ∷ fs) (suc f) count l h = params_of_function fs f count (omega arith) h

calls_function : (p : Program) (f count : ℕ) → f < length (params_of p) → has_params (params_of p) f count ≡ true → IsSomeAnd (function_at p f) (λ g. count ≡ g.params)
calls_function p f count l h = params_of_function p.functions f count (let e = length-map p.functions (λ (g : Function). g.params) in omega (arith, e, l)) h

-- the five tests of a statement
abbrev Tests : Program → ℕ → Head → Type 0
Tests p n h =
    (numbers_exist n (length (params_of p)) h ≡ true)
    × (atomic_location_exists (length p.atomic) h ≡ true)
    × (na_location_exists (length p.na) h ≡ true)
    × (order_is_allowed h ≡ true)
    × (arity_agrees (params_of p) h ≡ true)

head_proper : (p : Program) (n : ℕ) (h : Head) → Tests p n h → IsProperHead p n h
head_proper p n Skip t = tt
head_proper p n (Copy r a) t =
    let q = and_parts (ltb r n) (atom_exists n a) t.0 in (ltb-true r n q.0, atom_proper n a q.1)
head_proper p n (Compute r op a b) t =
    let q = and_parts (ltb r n) (atom_exists n a && atom_exists n b) t.0 in
    let s = and_parts (atom_exists n a) (atom_exists n b) q.1 in
    (ltb-true r n q.0, atom_proper n a s.0, atom_proper n b s.1)
head_proper p n (Load r x) t = (ltb-true r n t.0, ltb-true x (length p.na) t.2)
head_proper p n (Store x a) t = (ltb-true x (length p.na) t.2, atom_proper n a t.0)
head_proper p n (AtomicLoad r order y) t = (ltb-true r n t.0, ltb-true y (length p.atomic) t.1, load_order order t.3)
head_proper p n (AtomicStore order y a) t = (ltb-true y (length p.atomic) t.1, store_order order t.3, atom_proper n a t.0)
head_proper p n (Update r order y kind) t =
    let q = and_parts (ltb r n) (operands_exist n kind) t.0 in (ltb-true r n q.0, ltb-true y (length p.atomic) t.1, update_proper n kind q.1)
head_proper p n (Fence order) t = t.3
head_proper p n (Print a) t = atom_proper n a t.0
head_proper p n (If a _ _) t = atom_proper n a t.0
head_proper p n (While a _) t = atom_proper n a t.0
head_proper p n (Call r f args) t =
    let q = and_parts (ltb r n) (ltb f (length (params_of p)) && list_all (atom_exists n) args) t.0 in
    let s = and_parts (ltb f (length (params_of p))) (list_all (atom_exists n) args) q.1 in
    (ltb-true r n q.0, calls_function p f (length args) (ltb-true f (length (params_of p)) s.0) t.4, all_tested (atom_exists n) (IsProperAtom n) args (atom_proper n) s.1)

-- ---- one function

list_tests : (p : Program) (n : ℕ) (hs : List Head)
    → list_all (numbers_exist n (length (params_of p))) hs ≡ true → list_all (atomic_location_exists (length p.atomic)) hs ≡ true
    → list_all (na_location_exists (length p.na)) hs ≡ true → list_all order_is_allowed hs ≡ true → list_all (arity_agrees (params_of p)) hs ≡ true
    → AllByRecursion (IsProperHead p n) hs
list_tests p n [] a b c d e = tt
list_tests p n (h ∷ hs) a b c d e =
    let qa = and_parts (numbers_exist n (length (params_of p)) h) (list_all (numbers_exist n (length (params_of p))) hs) a in
    let qb = and_parts (atomic_location_exists (length p.atomic) h) (list_all (atomic_location_exists (length p.atomic)) hs) b in
    let qc = and_parts (na_location_exists (length p.na) h) (list_all (na_location_exists (length p.na)) hs) c in
    let qd = and_parts (order_is_allowed h) (list_all order_is_allowed hs) d in
    let qe = and_parts (arity_agrees (params_of p) h) (list_all (arity_agrees (params_of p)) hs) e in
    (head_proper p n h (qa.0, qb.0, qc.0, qd.0, qe.0), list_tests p n hs qa.1 qb.1 qc.1 qd.1 qe.1)

-- what the rules say of a function of the program
abbrev FunctionTests : Program → Function → Type 0
FunctionTests p f =
    (function_numbers_exist (declared_by p) f ≡ true)
    × (each_statement (atomic_location_exists (length p.atomic)) f ≡ true)
    × (each_statement (na_location_exists (length p.na)) f ≡ true)
    × (each_statement order_is_allowed f ≡ true)
    × (each_statement (arity_agrees (params_of p)) f ≡ true)
    × (function_is_within_limits f ≡ true)
    × (blocks_are_shallow f ≡ true)

function_proper : (p : Program) (f : Function) → FunctionTests p f → IsProperFunction p f
function_proper p f t =
    let n = length f.registers in
    let hs = heads_of_all f.body.statements in
    let params = and_parts (leb f.params n) (each_statement (numbers_exist n (length (params_of p))) f && atom_exists n f.result) t.0 in
    let numbers = and_parts (each_statement (numbers_exist n (length (params_of p))) f) (atom_exists n f.result) params.1 in
    let limit = and_parts (leb f.params 8) (leb n 64 && (list_all is_short f.registers && leb (site_count f.body.statements) 4096)) t.5 in
    let registers = and_parts (leb n 64) (list_all is_short f.registers && leb (site_count f.body.statements) 4096) limit.1 in
    let statements = and_parts (list_all is_short f.registers) (leb (site_count f.body.statements) 4096) registers.1 in
    let count = leb-true (site_count f.body.statements) 4096 statements.1 in
    let all = list_tests p n hs numbers.0 t.1 t.2 t.3 t.4 in
    record {
      few = leb-true n 64 registers.0;
      begin = leb-true f.params n params.0;
      few_params = leb-true f.params 8 limit.0;
      small = count;
      shallow = leb-true (depth_of_all f.body.statements) 32 t.6;
      heads = all_heads_of (IsProperHead p n) (tree_of f.body) (subst (AllByRecursion (IsProperHead p n)) (sym (heads_agree f.body)) all);
      result = atom_proper n f.result numbers.1;
    }

-- ---- the program

functions_proper : (p : Program) (fs : List Function)
    → list_all (function_numbers_exist (declared_by p)) fs ≡ true
    → list_all (each_statement (atomic_location_exists (length p.atomic))) fs ≡ true
    → list_all (each_statement (na_location_exists (length p.na))) fs ≡ true
    → list_all (each_statement order_is_allowed) fs ≡ true
    → list_all (each_statement (arity_agrees (params_of p))) fs ≡ true
    → list_all function_is_within_limits fs ≡ true
    → list_all blocks_are_shallow fs ≡ true
    → AllByRecursion (IsProperFunction p) fs
functions_proper p [] a b c d e l s = tt
functions_proper p (f ∷ fs) a b c d e l s =
    let qa = and_parts (function_numbers_exist (declared_by p) f) (list_all (function_numbers_exist (declared_by p)) fs) a in
    let qb = and_parts (each_statement (atomic_location_exists (length p.atomic)) f) (list_all (each_statement (atomic_location_exists (length p.atomic))) fs) b in
    let qc = and_parts (each_statement (na_location_exists (length p.na)) f) (list_all (each_statement (na_location_exists (length p.na))) fs) c in
    let qd = and_parts (each_statement order_is_allowed f) (list_all (each_statement order_is_allowed) fs) d in
    let qe = and_parts (each_statement (arity_agrees (params_of p)) f) (list_all (each_statement (arity_agrees (params_of p))) fs) e in
    let ql = and_parts (function_is_within_limits f) (list_all function_is_within_limits fs) l in
    let qs = and_parts (blocks_are_shallow f) (list_all blocks_are_shallow fs) s in
    (function_proper p f (qa.0, qb.0, qc.0, qd.0, qe.0, ql.0, qs.0), functions_proper p fs qa.1 qb.1 qc.1 qd.1 qe.1 ql.1 qs.1)

start_proper : (p : Program) (t : Start) → thread_numbers_exist (length p.functions) t ≡ true → thread_arity_agrees (params_of p) t ≡ true → IsProperStart p t
start_proper p t a b =
    let q = and_parts (ltb t.function (length p.functions)) (list_all is_signed_64 t.args) a in
    params_of_function p.functions t.function (length t.args) (ltb-true t.function (length p.functions) q.0) b

starts_proper : (p : Program) (ts : List Start) → list_all (thread_numbers_exist (length p.functions)) ts ≡ true → list_all (thread_arity_agrees (params_of p)) ts ≡ true → AllByRecursion (IsProperStart p) ts
starts_proper p [] a b = tt
starts_proper p (t ∷ ts) a b =
    let qa = and_parts (thread_numbers_exist (length p.functions) t) (list_all (thread_numbers_exist (length p.functions)) ts) a in
    let qb = and_parts (thread_arity_agrees (params_of p) t) (list_all (thread_arity_agrees (params_of p)) ts) b in
    (start_proper p t qa.0 qb.0, starts_proper p ts qa.1 qb.1)

pub well_formed_proper : (p : Program) → IsWellFormed p → IsProperProgram p
well_formed_proper p w =
    let numbers = (and_parts _ _ (and_parts _ _ (and_parts _ _ w.numbers).1).1) in
    let arities = and_parts _ _ w.arities in
    let na = and_parts (leb (length p.na) 16) _ w.limits in
    let atomic = and_parts (leb (length p.atomic) 16) _ na.1 in
    let functions = and_parts (leb (length p.functions) 256) _ atomic.1 in
    let threads = and_parts (leb (length p.threads) 16) _ functions.1 in
    let names = and_parts (list_all is_short (names_of p)) (list_all function_is_within_limits p.functions) threads.1 in
    record {
      functions = functions_proper p p.functions numbers.0 w.atomic_locations w.na_locations w.orders arities.0 names.1 w.depth;
      threads = starts_proper p p.threads numbers.1 arities.1;
      few_threads = leb-true (length p.threads) 16 threads.0;
      few_na = leb-true (length p.na) 16 na.0;
      few_atomic = leb-true (length p.atomic) 16 atomic.0;
    }
