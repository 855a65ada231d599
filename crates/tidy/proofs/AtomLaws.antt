-- Atoms of statements, and statements with other atoms.
use Rattle.std.proofs.Common.{◌≡◌, List, [], ◌∷◌, get_or, refl, sym, ap}
use Rattle.std.specs.List.{AllZip}
use Rattle.il_syntax.specs.declared.statement.Atom.{Atom}
use Rattle.il_syntax.specs.declared.statement.Rmw.{Rmw}
use Rattle.il_syntax.specs.declared.statement.Rmw.TheVariants.{Add, Swap, Cas}
use Rattle.il_syntax.specs.declared.statement.Stmt.TheOpen.{Skip, Copy, Compute, Load, Store, AtomicLoad, AtomicStore, Update, Fence, Print, If, While, Call}
use Rattle.il_syntax.specs.Statements.{Head}
use Rattle.il_paths.specs.Heads.{gives}
use Rattle.tidy.specs.Atoms.{atoms_of_update, atoms_in, update_with, with_atoms}

-- what a list has one of, two of
none_left : {A B : Type 0} (R : A → B → Type 0) (bs : List B) → AllZip R [] bs → bs ≡ []
none_left R [] z = refl
none_left R (b ∷ bs) z = absurd z

one_left : {A B : Type 0} (R : A → B → Type 0) (a : A) (d : B) (bs : List B) → AllZip R (a ∷ []) bs → bs ≡ get_or bs 0 d ∷ []
one_left R a d [] z = absurd z
one_left R a d (b ∷ bs) z = ap (λ (l : List _). b ∷ l) (none_left R bs z.1)

two_left : {A B : Type 0} (R : A → B → Type 0) (a c : A) (d e : B) (bs : List B) → AllZip R (a ∷ c ∷ []) bs → bs ≡ get_or bs 0 d ∷ get_or bs 1 e ∷ []
two_left R a c d e [] z = absurd z
two_left R a c d e (b ∷ bs) z = ap (λ (l : List _). b ∷ l) (one_left R c e bs z.1)

module _ (R : Atom → Atom → Type 0) where
  update_reads : (kind : Rmw) (bs : List Atom) → AllZip R (atoms_of_update kind) bs → atoms_of_update (update_with kind bs) ≡ bs
  update_reads (Add a) bs z = sym (one_left R a a bs z)
  update_reads (Swap a) bs z = sym (one_left R a a bs z)
  update_reads (Cas a b) bs z = sym (two_left R a b a b bs z)

  -- a statement reads the atoms that were put in
  pub reads_put : (h : Head) (bs : List Atom) → AllZip R (atoms_in h) bs → atoms_in (with_atoms h bs) ≡ bs
  reads_put Skip bs z = sym (none_left R bs z)
  reads_put (Copy r a) bs z = sym (one_left R a a bs z)
  reads_put (Compute r op a b) bs z = sym (two_left R a b a b bs z)
  reads_put (Load r x) bs z = sym (none_left R bs z)
  reads_put (Store x a) bs z = sym (one_left R a a bs z)
  reads_put (AtomicLoad r order y) bs z = sym (none_left R bs z)
  reads_put (AtomicStore order y a) bs z = sym (one_left R a a bs z)
  reads_put (Update r order y kind) bs z = update_reads kind bs z
  reads_put (Fence order) bs z = sym (none_left R bs z)
  reads_put (Print a) bs z = sym (one_left R a a bs z)
  reads_put (If a _ _) bs z = sym (one_left R a a bs z)
  reads_put (While a _) bs z = sym (one_left R a a bs z)
  reads_put (Call r f args) bs z = refl

-- and gives the same register
pub gives_put : (h : Head) (bs : List Atom) → gives (with_atoms h bs) ≡ gives h
gives_put Skip bs = refl
gives_put (Copy r a) bs = refl
gives_put (Compute r op a b) bs = refl
gives_put (Load r x) bs = refl
gives_put (Store x a) bs = refl
gives_put (AtomicLoad r order y) bs = refl
gives_put (AtomicStore order y a) bs = refl
gives_put (Update r order y kind) bs = refl
gives_put (Fence order) bs = refl
gives_put (Print a) bs = refl
gives_put (If a _ _) bs = refl
gives_put (While a _) bs = refl
gives_put (Call r f args) bs = refl

own_update : (kind : Rmw) → update_with kind (atoms_of_update kind) ≡ kind
own_update (Add a) = refl
own_update (Swap a) = refl
own_update (Cas a b) = refl

-- with its own atoms it is itself
pub own_atoms : (h : Head) → with_atoms h (atoms_in h) ≡ h
own_atoms Skip = refl
own_atoms (Copy r a) = refl
own_atoms (Compute r op a b) = refl
own_atoms (Load r x) = refl
own_atoms (Store x a) = refl
own_atoms (AtomicLoad r order y) = refl
own_atoms (AtomicStore order y a) = refl
own_atoms (Update r order y kind) = ap (Update r order y) (own_update kind)
own_atoms (Fence order) = refl
own_atoms (Print a) = refl
own_atoms (If a _ _) = refl
own_atoms (While a _) = refl
own_atoms (Call r f args) = refl
