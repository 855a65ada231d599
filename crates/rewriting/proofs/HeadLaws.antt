-- The test of two statements is true where they are the same, and only there.
use Rattle.std.proofs.Common.{◌≡◌, ℕ, Bool, true, false, ◌&&◌, ◌==◌, List, [], ◌∷◌, refl, ap, ◌∙◌}
use Rattle.std.proofs.lemmas.Bool.{false≢true, eqb-true, eq-eqb, and_parts}
use Rattle.il_syntax.specs.declared.statement.Atom.{Atom}
use Rattle.values_undef.specs.declared.arithmetic.Op.{Op}
use Rattle.values_undef.specs.declared.arithmetic.Op.TheVariants as op
use Rattle.values_undef.specs.declared.access.Order.{Order}
use Rattle.values_undef.specs.declared.access.Order.TheVariants.{Rlx, Acq, Rel, AcqRel}
use Rattle.il_syntax.specs.declared.statement.Rmw.{Rmw}
use Rattle.il_syntax.specs.declared.statement.Rmw.TheVariants as rmw
use Rattle.il_syntax.specs.declared.statement.Stmt.TheOpen.{Skip, Copy, Compute, Load, Store, AtomicLoad, AtomicStore, Update, Fence, Print, If, While, Call}
use Rattle.il_syntax.specs.Statements.{Head}
use Rattle.il_paths.specs.Atoms.{atoms_equal}
use Rattle.il_paths.proofs.Callers.{atoms_equal-true, atoms_equal-refl}
use Rattle.rewriting.specs.Heads.{order_number, same_order, op_number, same_op, is_add, is_swap, is_cas, same_rmw, same_atoms, is_skip, is_copy, is_compute, is_load, is_store, is_atomic_load, is_atomic_store, is_update, is_fence, is_print, is_if, is_while, is_call, same_head}

same_order-true : (a b : Order) → same_order a b ≡ true → a ≡ b
same_order-true Rlx Rlx e = refl
same_order-true Acq Acq e = refl
same_order-true Rel Rel e = refl
same_order-true AcqRel AcqRel e = refl
same_order-true Rlx _ e = absurd (false≢true e)
same_order-true Acq _ e = absurd (false≢true e)
same_order-true Rel _ e = absurd (false≢true e)
same_order-true AcqRel _ e = absurd (false≢true e)

same_op-true : (a b : Op) → same_op a b ≡ true → a ≡ b
same_op-true op.Add op.Add e = refl
same_op-true op.Sub op.Sub e = refl
same_op-true op.Mul op.Mul e = refl
same_op-true op.Div op.Div e = refl
same_op-true op.Rem op.Rem e = refl
same_op-true op.And op.And e = refl
same_op-true op.Or op.Or e = refl
same_op-true op.Xor op.Xor e = refl
same_op-true op.Eq op.Eq e = refl
same_op-true op.Ne op.Ne e = refl
same_op-true op.Lt op.Lt e = refl
same_op-true op.Le op.Le e = refl
same_op-true op.Add _ e = absurd (false≢true e)
same_op-true op.Sub _ e = absurd (false≢true e)
same_op-true op.Mul _ e = absurd (false≢true e)
same_op-true op.Div _ e = absurd (false≢true e)
same_op-true op.Rem _ e = absurd (false≢true e)
same_op-true op.And _ e = absurd (false≢true e)
same_op-true op.Or _ e = absurd (false≢true e)
same_op-true op.Xor _ e = absurd (false≢true e)
same_op-true op.Eq _ e = absurd (false≢true e)
same_op-true op.Ne _ e = absurd (false≢true e)
same_op-true op.Lt _ e = absurd (false≢true e)
same_op-true op.Le _ e = absurd (false≢true e)

add_true : (a : Atom) (k : Rmw) → is_add a k ≡ true → rmw.Add a ≡ k
add_true a (rmw.Add b) e = ap rmw.Add (atoms_equal-true a b e)
add_true a _ e = absurd (false≢true e)

swap_true : (a : Atom) (k : Rmw) → is_swap a k ≡ true → rmw.Swap a ≡ k
swap_true a (rmw.Swap b) e = ap rmw.Swap (atoms_equal-true a b e)
swap_true a _ e = absurd (false≢true e)

cas_true : (a b : Atom) (k : Rmw) → is_cas a b k ≡ true → rmw.Cas a b ≡ k
cas_true a b (rmw.Cas c d) e =
    let p = and_parts (atoms_equal a c) (atoms_equal b d) e in
    (λ i. rmw.Cas (atoms_equal-true a c p.0 i) (atoms_equal-true b d p.1 i))
cas_true a b _ e = absurd (false≢true e)

same_rmw-true : (a b : Rmw) → same_rmw a b ≡ true → a ≡ b
same_rmw-true (rmw.Add a) k e = add_true a k e
same_rmw-true (rmw.Swap a) k e = swap_true a k e
same_rmw-true (rmw.Cas a b) k e = cas_true a b k e

same_atoms-true : (xs ys : List Atom) → same_atoms xs ys ≡ true → xs ≡ ys
same_atoms-true [] [] e = refl
same_atoms-true [] (b ∷ bs) e = absurd (false≢true e)
same_atoms-true (a ∷ xs) [] e = absurd (false≢true e)
same_atoms-true (a ∷ xs) (b ∷ ys) e =
    let p = and_parts (atoms_equal a b) (same_atoms xs ys) e in (λ i. atoms_equal-true a b p.0 i ∷ same_atoms-true xs ys p.1 i)

skip_true : (h : Head) → is_skip h ≡ true → Skip ≡ h
skip_true Skip e = refl
skip_true _ e = absurd (false≢true e)

copy_true : (r : ℕ) (a : Atom) (h : Head) → is_copy r a h ≡ true → Copy r a ≡ h
copy_true r a (Copy s b) e =
    let p = and_parts (r == s) (atoms_equal a b) e in (λ i. Copy (eqb-true r s p.0 i) (atoms_equal-true a b p.1 i))
copy_true r a _ e = absurd (false≢true e)

compute_true : (r : ℕ) (o : Op) (a b : Atom) (h : Head) → is_compute r o a b h ≡ true → Compute r o a b ≡ h
compute_true r o a b (Compute s q c d) e =
    let p = and_parts (r == s) _ e in let k = and_parts (same_op o q) _ p.1 in let l = and_parts (atoms_equal a c) (atoms_equal b d) k.1 in
    (λ i. Compute (eqb-true r s p.0 i) (same_op-true o q k.0 i) (atoms_equal-true a c l.0 i) (atoms_equal-true b d l.1 i))
compute_true r o a b _ e = absurd (false≢true e)

load_true : (r x : ℕ) (h : Head) → is_load r x h ≡ true → Load r x ≡ h
load_true r x (Load s y) e = let p = and_parts (r == s) (x == y) e in (λ i. Load (eqb-true r s p.0 i) (eqb-true x y p.1 i))
load_true r x _ e = absurd (false≢true e)

store_true : (x : ℕ) (a : Atom) (h : Head) → is_store x a h ≡ true → Store x a ≡ h
store_true x a (Store y b) e = let p = and_parts (x == y) (atoms_equal a b) e in (λ i. Store (eqb-true x y p.0 i) (atoms_equal-true a b p.1 i))
store_true x a _ e = absurd (false≢true e)

atomic_load_true : (r : ℕ) (o : Order) (y : ℕ) (h : Head) → is_atomic_load r o y h ≡ true → AtomicLoad r o y ≡ h
atomic_load_true r o y (AtomicLoad s q z) e =
    let p = and_parts (r == s) _ e in let k = and_parts (same_order o q) (y == z) p.1 in
    (λ i. AtomicLoad (eqb-true r s p.0 i) (same_order-true o q k.0 i) (eqb-true y z k.1 i))
atomic_load_true r o y _ e = absurd (false≢true e)

atomic_store_true : (o : Order) (y : ℕ) (a : Atom) (h : Head) → is_atomic_store o y a h ≡ true → AtomicStore o y a ≡ h
atomic_store_true o y a (AtomicStore q z b) e =
    let p = and_parts (same_order o q) _ e in let k = and_parts (y == z) (atoms_equal a b) p.1 in
    (λ i. AtomicStore (same_order-true o q p.0 i) (eqb-true y z k.0 i) (atoms_equal-true a b k.1 i))
atomic_store_true o y a _ e = absurd (false≢true e)

update_true : (r : ℕ) (o : Order) (y : ℕ) (k : Rmw) (h : Head) → is_update r o y k h ≡ true → Update r o y k ≡ h
update_true r o y m (Update s q z n) e =
    let p = and_parts (r == s) _ e in let k = and_parts (same_order o q) _ p.1 in let l = and_parts (y == z) (same_rmw m n) k.1 in
    (λ i. Update (eqb-true r s p.0 i) (same_order-true o q k.0 i) (eqb-true y z l.0 i) (same_rmw-true m n l.1 i))
update_true r o y m _ e = absurd (false≢true e)

fence_true : (o : Order) (h : Head) → is_fence o h ≡ true → Fence o ≡ h
fence_true o (Fence q) e = ap Fence (same_order-true o q e)
fence_true o _ e = absurd (false≢true e)

print_true : (a : Atom) (h : Head) → is_print a h ≡ true → Print a ≡ h
print_true a (Print b) e = ap Print (atoms_equal-true a b e)
print_true a _ e = absurd (false≢true e)

if_true : (a : Atom) (h : Head) → is_if a h ≡ true → If a tt tt ≡ h
if_true a (If b p q) e = ap (λ (c : Atom). If c tt tt) (atoms_equal-true a b e)
if_true a _ e = absurd (false≢true e)

while_true : (a : Atom) (h : Head) → is_while a h ≡ true → While a tt ≡ h
while_true a (While b p) e = ap (λ (c : Atom). While c tt) (atoms_equal-true a b e)
while_true a _ e = absurd (false≢true e)

call_true : (r f : ℕ) (args : List Atom) (h : Head) → is_call r f args h ≡ true → Call r f args ≡ h
call_true r f args (Call s g own) e =
    let p = and_parts (r == s) _ e in let k = and_parts (f == g) (same_atoms args own) p.1 in
    (λ i. Call (eqb-true r s p.0 i) (eqb-true f g k.0 i) (same_atoms-true args own k.1 i))
call_true r f args _ e = absurd (false≢true e)

-- the test is true of equal statements alone
pub same_head-true : (u h : Head) → same_head u h ≡ true → u ≡ h
same_head-true Skip h e = skip_true h e
same_head-true (Copy r a) h e = copy_true r a h e
same_head-true (Compute r o a b) h e = compute_true r o a b h e
same_head-true (Load r x) h e = load_true r x h e
same_head-true (Store x a) h e = store_true x a h e
same_head-true (AtomicLoad r o y) h e = atomic_load_true r o y h e
same_head-true (AtomicStore o y a) h e = atomic_store_true o y a h e
same_head-true (Update r o y k) h e = update_true r o y k h e
same_head-true (Fence o) h e = fence_true o h e
same_head-true (Print a) h e = print_true a h e
same_head-true (If a p q) h e = if_true a h e
same_head-true (While a p) h e = while_true a h e
same_head-true (Call r f args) h e = call_true r f args h e

-- ---- and true of each statement beside itself

pub self : (n : ℕ) → (n == n) ≡ true
self n = eq-eqb n n refl

pub both : {p q : Bool} → p ≡ true → q ≡ true → (p && q) ≡ true
both {p} {q} e f = ap (λ (b : Bool). b && q) e ∙ f

rmw_self : (k : Rmw) → same_rmw k k ≡ true
rmw_self (rmw.Add a) = atoms_equal-refl a
rmw_self (rmw.Swap a) = atoms_equal-refl a
rmw_self (rmw.Cas a b) = both (atoms_equal-refl a) (atoms_equal-refl b)

atoms_self : (xs : List Atom) → same_atoms xs xs ≡ true
atoms_self [] = refl
atoms_self (a ∷ xs) = both (atoms_equal-refl a) (atoms_self xs)

order_self : (o : Order) → same_order o o ≡ true
order_self o = self (order_number o)

op_self : (o : Op) → same_op o o ≡ true
op_self o = self (op_number o)

pub same_head-refl : (h : Head) → same_head h h ≡ true
same_head-refl Skip = refl
same_head-refl (Copy r a) = both (self r) (atoms_equal-refl a)
same_head-refl (Compute r o a b) = both (self r) (both (op_self o) (both (atoms_equal-refl a) (atoms_equal-refl b)))
same_head-refl (Load r x) = both (self r) (self x)
same_head-refl (Store x a) = both (self x) (atoms_equal-refl a)
same_head-refl (AtomicLoad r o y) = both (self r) (both (order_self o) (self y))
same_head-refl (AtomicStore o y a) = both (order_self o) (both (self y) (atoms_equal-refl a))
same_head-refl (Update r o y k) = both (self r) (both (order_self o) (both (self y) (rmw_self k)))
same_head-refl (Fence o) = order_self o
same_head-refl (Print a) = atoms_equal-refl a
same_head-refl (If a p q) = atoms_equal-refl a
same_head-refl (While a p) = atoms_equal-refl a
same_head-refl (Call r f args) = both (self r) (both (self f) (atoms_self args))
