-- A function accepts what it is tidied to.
use Rattle.std.proofs.Common.{◌≡◌, ◌<◌, ℕ, ℤ, List, [], ◌∷◌, ◌++◌, map, Option, Some, None, slice_get, refl, sym, ap, ◌∙◌, subst, append_assoc}
use Rattle.std.specs.Prelude.{unwrap_or}
use Rattle.std.proofs.lemmas.Bool.{both_ways}
use Rattle.std.proofs.lemmas.Option.{none-some, same_Some}
use Rattle.std.specs.List.{AllZip}
use Rattle.values_undef.specs.Arithmetic.{result_of}
use Rattle.values_undef.specs.declared.arithmetic.Op.{Op}
use Rattle.values_undef.specs.declared.value.Val.{Val}
use Rattle.values_undef.specs.declared.value.Val.TheVariants.{Def, Undef}
use Rattle.il_syntax.specs.declared.statement.Atom.{Atom}
use Rattle.il_syntax.specs.declared.statement.Atom.TheVariants.{Const, Reg}
use Rattle.il_syntax.specs.declared.statement.Stmt.TheOpen.{Skip, Copy, Compute, Load, Store, AtomicLoad, AtomicStore, Update, Fence, Print, If, While, Call}
use Rattle.il_syntax.specs.declared.program.Function.{Function}
use Rattle.il_syntax.specs.Statements.{Head}
use Rattle.il_paths.specs.Tree.{Leaf, head_of_leaf, tree_of, heads_in, sites_of}
use Rattle.il_paths.specs.Code.{Visit, placed}
use Rattle.il_paths.specs.Paths.{IsPath, sites_of_path}
use Rattle.tidy.specs.Atoms.{atoms_in, with_atoms}
use Rattle.tidy.specs.Known.{IsKnown, IsKnownAtEnd}
use Rattle.tidy.specs.Live.{IsLive}
use Rattle.tidy.specs.Propagated.{IsLeast, propagated_atom}
use Rattle.tidy.specs.Tidied.{folded_to, folded_computation, folded_leaf, cleared_leaf, IsTidied}
use Rattle.tidy.specs.Accepts.{StandsFor, same, known_for, assigned_register, StatementAccepted, same_but_atoms, is_folded, is_left, SameBlocks, TidyAccepts}
use Rattle.tidy.specs.Laws.{TidiedIsAccepted}
use Rattle.tidy.proofs.SideBySide.{placed_beside}
use Rattle.tidy.proofs.OnRuns.{site_inside}
use Rattle.tidy.proofs.Mapped.{mapped, mapped_there, heads_changed, replaced_head, heads_replaced, blocks_replaced, blocks_changed, blocks_same}
use Rattle.tidy.proofs.Cleared.{cleared_head, ClearedCase, stays, goes, cleared_case, path_beside, heads_of_cleared, wanted_before}

-- ---- computations

abbrev pub folded_head : Head → Head
folded_head Skip = Skip
folded_head (Copy r a) = Copy r a
folded_head (Compute r op a b) = head_of_leaf (folded_computation r op a b)
folded_head (Load r x) = Load r x
folded_head (Store x a) = Store x a
folded_head (AtomicLoad r order y) = AtomicLoad r order y
folded_head (AtomicStore order y a) = AtomicStore order y a
folded_head (Update r order y kind) = Update r order y kind
folded_head (Fence order) = Fence order
folded_head (Print a) = Print a
folded_head (If a y n) = If a y n
folded_head (While a b) = While a b
folded_head (Call r f args) = Call r f args

head_of_folded : (leaf : Leaf) → head_of_leaf (folded_leaf leaf) ≡ folded_head (head_of_leaf leaf)
head_of_folded Skip = refl
head_of_folded (Copy r a) = refl
head_of_folded (Compute r op a b) = refl
head_of_folded (Load r x) = refl
head_of_folded (Store x a) = refl
head_of_folded (AtomicLoad r order y) = refl
head_of_folded (AtomicStore order y a) = refl
head_of_folded (Update r order y kind) = refl
head_of_folded (Fence order) = refl
head_of_folded (Print a) = refl
head_of_folded (If a none _) = absurd none
head_of_folded (While a none) = absurd none
head_of_folded (Call r f args) = refl

pub data FoldedCase (h : Head) : Type 0 where
  left_so : folded_head h ≡ h → FoldedCase h
  is_done : (r : ℕ) (op : Op) (m n v : ℤ) → h ≡ Compute r op (Const m) (Const n) → folded_head h ≡ Copy r (Const v) → result_of op (Def m) (Def n) ≡ Some (Def v) → FoldedCase h

done_by : (r : ℕ) (op : Op) (m n : ℤ) (o : Option Val) → result_of op (Def m) (Def n) ≡ o → FoldedCase (Compute r op (Const m) (Const n))
done_by r op m n None e = left_so (ap (λ (o : Option Val). head_of_leaf (folded_to (Compute r op (Const m) (Const n)) r o)) e)
done_by r op m n (Some Undef) e = left_so (ap (λ (o : Option Val). head_of_leaf (folded_to (Compute r op (Const m) (Const n)) r o)) e)
done_by r op m n (Some (Def v)) e = is_done r op m n v refl (ap (λ (o : Option Val). head_of_leaf (folded_to (Compute r op (Const m) (Const n)) r o)) e) e

pub folded_case : (h : Head) → FoldedCase h
folded_case (Compute r op (Const m) (Const n)) = done_by r op m n (result_of op (Def m) (Def n)) refl
folded_case (Compute r op (Const m) (Reg b)) = left_so refl
folded_case (Compute r op (Reg a) b) = left_so refl
folded_case Skip = left_so refl
folded_case (Copy r a) = left_so refl
folded_case (Load r x) = left_so refl
folded_case (Store x a) = left_so refl
folded_case (AtomicLoad r order y) = left_so refl
folded_case (AtomicStore order y a) = left_so refl
folded_case (Update r order y kind) = left_so refl
folded_case (Fence order) = left_so refl
folded_case (Print a) = left_so refl
folded_case (If a y n) = left_so refl
folded_case (While a b) = left_so refl
folded_case (Call r f args) = left_so refl

-- which register an assignment gives stays
assigned_put : (h : Head) (atoms : List Atom) → assigned_register (with_atoms h atoms) ≡ assigned_register h
assigned_put Skip bs = refl
assigned_put (Copy r a) bs = refl
assigned_put (Compute r op a b) bs = refl
assigned_put (Load r x) bs = refl
assigned_put (Store x a) bs = refl
assigned_put (AtomicLoad r order y) bs = refl
assigned_put (AtomicStore order y a) bs = refl
assigned_put (Update r order y kind) bs = refl
assigned_put (Fence order) bs = refl
assigned_put (Print a) bs = refl
assigned_put (If a _ _) bs = refl
assigned_put (While a _) bs = refl
assigned_put (Call r f args) bs = refl

-- a computation comes of one
record ComesOf (least : ℕ → Option Atom) (old : Head) (r : ℕ) (op : Op) (c d : Atom) : Type 0 where
  a : Atom
  b : Atom
  is : old ≡ Compute r op a b
  first : propagated_atom least a ≡ c
  second : propagated_atom least b ≡ d

abbrev first_atom : Head → Atom
first_atom (Compute r op a b) = a
first_atom _ = Reg 0

abbrev second_atom : Head → Atom
second_atom (Compute r op a b) = b
second_atom _ = Reg 0

abbrev register_of : Head → ℕ
register_of (Compute r op a b) = r
register_of _ = 0

abbrev op_or : Op → Head → Op
op_or other (Compute r op a b) = op
op_or other _ = other

comes_of : (least : ℕ → Option Atom) (old : Head) (r : ℕ) (op : Op) (c d : Atom) → with_atoms old (map (propagated_atom least) (atoms_in old)) ≡ Compute r op c d → ComesOf least old r op c d
comes_of least (Compute k o a b) r op c d e =
    let one : k ≡ r = ap register_of e in
    let other : o ≡ op = ap (op_or op) e in
    record { a = a; b = b; is = λ i. Compute (one i) (other i) a b; first = ap first_atom e; second = ap second_atom e }
comes_of least Skip r op c d e = cc
comes_of least (Copy k a) r op c d e = cc
comes_of least (Load k x) r op c d e = cc
comes_of least (Store x a) r op c d e = cc
comes_of least (AtomicLoad k order y) r op c d e = cc
comes_of least (AtomicStore order y a) r op c d e = cc
comes_of least (Update k order y kind) r op c d e = cc
comes_of least (Fence order) r op c d e = cc
comes_of least (Print a) r op c d e = cc
comes_of least (If a y n) r op c d e = cc
comes_of least (While a y) r op c d e = cc
comes_of least (Call k f args) r op c d e = cc

-- ---- atoms

pub known_least : (known : Atom → Type 0) (o : Option Atom) → IsLeast known o → (b : Atom) → o ≡ Some b → known b
known_least known None h b e = absurd (none-some b e)
known_least known (Some c) h b e = subst known (same_Some c b e) h.0

module _ (known : ℕ → Atom → Type 0) (least : ℕ → Option Atom) (is_least : (r : ℕ) → IsLeast (known r) (least r)) where
  pub replaced_stands : (a : Atom) → StandsFor known a (propagated_atom least a)
  replaced_stands (Const n) = same refl
  replaced_stands (Reg r) = go (least r) refl
    where
      go : (o : Option Atom) → least r ≡ o → StandsFor known (Reg r) (unwrap_or o (Reg r))
      go None e = same refl
      go (Some b) e = known_for r refl (known_least (known r) (least r) (is_least r) b e)

  pub all_replaced : (atoms : List Atom) → AllZip (StandsFor known) atoms (map (propagated_atom least) atoms)
  all_replaced [] = tt
  all_replaced (a ∷ atoms) = (replaced_stands a, all_replaced atoms)

-- ---- a list of as many sites, cut at the same place

record Cut (whole p : List Visit) (v : Visit) (q : List Visit) : Type 0 where
  before : List Visit
  at : Visit
  after : List Visit
  is : whole ≡ before ++ at ∷ after
  here : at.site ≡ v.site
  rest : sites_of_path after ≡ sites_of_path q

cut : (whole p : List Visit) (v : Visit) (q : List Visit) → sites_of_path whole ≡ sites_of_path (p ++ v ∷ q) → Cut whole p v q
cut [] [] v q e = cc
cut [] (w ∷ p) v q e = cc
cut (u ∷ whole) [] v q e = record { before = []; at = u; after = whole; is = refl; here = cc; rest = cc }
cut (u ∷ whole) (w ∷ p) v q e =
    let c = cut whole p v q cc in
    record { before = u ∷ c.before; at = c.at; after = c.after; is = ap (λ (l : List Visit). u ∷ l) c.is; here = c.here; rest = c.rest }

-- ---- the function

module _ (f g : Function) (t : IsTidied f g) where
  abbrev h : Function
  h = t.read

  abbrev k : Function
  k = t.computed

  pub tree_of_read : heads_in (tree_of h.body) ≡ mapped (replaced_head t.propagated.least) 0 (heads_in (tree_of f.body))
  tree_of_read = ap heads_in t.propagated.body ∙ heads_replaced t.propagated.least 0 (tree_of f.body)

  pub tree_of_computed : heads_in (tree_of k.body) ≡ mapped (λ site. folded_head) 0 (heads_in (tree_of h.body))
  tree_of_computed = ap heads_in t.folded.body ∙ heads_changed (λ site. folded_leaf) (λ site. folded_head) (λ site leaf. head_of_folded leaf) (λ site a. refl) (λ site a. refl) 0 (tree_of h.body)

  blocks_h : SameBlocks (tree_of f.body) (tree_of h.body)
  blocks_h = subst (SameBlocks (tree_of f.body)) (sym t.propagated.body) (blocks_replaced t.propagated.least 0 (tree_of f.body))

  blocks_k : SameBlocks (tree_of f.body) (tree_of k.body)
  blocks_k = subst (SameBlocks (tree_of f.body)) (sym t.folded.body) (blocks_changed (λ site. folded_leaf) 0 (tree_of f.body) (tree_of h.body) blocks_h)

  blocks_g : SameBlocks (tree_of f.body) (tree_of g.body)
  blocks_g = subst (SameBlocks (tree_of f.body)) (sym t.cleared.changed.body) (blocks_changed (λ site. cleared_leaf (t.cleared.live site)) 0 (tree_of f.body) (tree_of k.body) blocks_k)

  blocks_kg : SameBlocks (tree_of k.body) (tree_of g.body)
  blocks_kg = subst (SameBlocks (tree_of k.body)) (sym t.cleared.changed.body) (blocks_changed (λ site. cleared_leaf (t.cleared.live site)) 0 (tree_of k.body) (tree_of k.body) (blocks_same (tree_of k.body)))

  -- what is live in g was live before the assignments were cleared
  live_before : (site r : ℕ) → IsLive g site r → IsLive k site r
  live_before site r l =
      let b = path_beside (placed_beside 0 (tree_of k.body) (tree_of g.body) blocks_kg) {q = l.1.1 ++ l.1.0 ∷ l.0} l.1.3 in
      let c = cut b.path l.1.1 l.1.0 l.0 b.sites in
      let there : IsPath (placed 0 (tree_of k.body)) (c.before ++ c.at ∷ c.after) = subst (IsPath (placed 0 (tree_of k.body))) c.is b.is in (
        c.after,
        (c.at, c.before, c.here ∙ l.1.2, there),
        wanted_before k g t.cleared r (c.before ++ c.at ∷ []) c.after (l.1.1 ++ l.1.0 ∷ []) l.0
            (subst (IsPath (placed 0 (tree_of k.body))) (sym (append_assoc c.before (c.at ∷ []) c.after)) there)
            (subst (IsPath (placed 0 (tree_of g.body))) (sym (append_assoc l.1.1 (l.1.0 ∷ []) l.0)) l.1.3) c.rest l.2,
      )

  module _ (site : ℕ) (old new : Head) (stood : slice_get (heads_in (tree_of f.body)) site ≡ Some old) (stands : slice_get (heads_in (tree_of g.body)) site ≡ Some new) where
    abbrev read_head : Head
    read_head = replaced_head t.propagated.least site old

    inside : site < sites_of (tree_of f.body)
    inside = site_inside f.body site old stood

    in_read : slice_get (heads_in (tree_of h.body)) site ≡ Some read_head
    in_read = ap (λ (hs : List Head). slice_get hs site) tree_of_read ∙ mapped_there (replaced_head t.propagated.least) (heads_in (tree_of f.body)) site old stood

    in_computed : slice_get (heads_in (tree_of k.body)) site ≡ Some (folded_head read_head)
    in_computed = ap (λ (hs : List Head). slice_get hs site) tree_of_computed ∙ mapped_there (λ site. folded_head) (heads_in (tree_of h.body)) site read_head in_read

    is_new : new ≡ cleared_head (t.cleared.live site) (folded_head read_head)
    is_new =
        same_Some new (cleared_head (t.cleared.live site) (folded_head read_head))
        (sym stands ∙ ap (λ (hs : List Head). slice_get hs site) (heads_of_cleared k g t.cleared) ∙ mapped_there (λ site. cleared_head (t.cleared.live site)) (heads_in (tree_of k.body)) site (folded_head read_head) in_computed)

    atom_stands : (a : Atom) → StandsFor (IsKnown f site) a (propagated_atom (t.propagated.least site) a)
    atom_stands = replaced_stands (IsKnown f site) (t.propagated.least site) (λ r. t.propagated.is_least site r inside)

    -- it was not cleared
    kept : FoldedCase read_head → new ≡ folded_head read_head → StatementAccepted f g site old new
    kept (left_so e) n = same_but_atoms (map (propagated_atom (t.propagated.least site)) (atoms_in old)) (all_replaced (IsKnown f site) (t.propagated.least site) (λ r. t.propagated.is_least site r inside) (atoms_in old)) (n ∙ e)
    kept (is_done r op m i v e done result) n =
        let c = comes_of (t.propagated.least site) old r op (Const m) (Const i) e in
        is_folded r op c.a c.b m i v c.is (n ∙ done) (subst (StandsFor (IsKnown f site) c.a) c.first (atom_stands c.a)) (subst (StandsFor (IsKnown f site) c.b) c.second (atom_stands c.b)) result

    -- it was
    folded_assigns : FoldedCase read_head → (r : ℕ) → assigned_register (folded_head read_head) ≡ Some r → assigned_register old ≡ Some r
    folded_assigns (left_so e) r a = sym (assigned_put old (map (propagated_atom (t.propagated.least site)) (atoms_in old))) ∙ ap assigned_register (sym e) ∙ a
    folded_assigns (is_done j op m i v e done result) r a = sym (assigned_put old (map (propagated_atom (t.propagated.least site)) (atoms_in old))) ∙ ap assigned_register e ∙ sym (ap assigned_register done) ∙ a

    computed_inside : site < sites_of (tree_of k.body)
    computed_inside = site_inside k.body site (folded_head read_head) in_computed

    judged : ClearedCase (t.cleared.live site) (folded_head read_head) → StatementAccepted f g site old new
    judged (stays e) = kept (folded_case read_head) (is_new ∙ e)
    judged (goes r a dead e) =
        is_left r (folded_assigns (folded_case read_head) r a) (is_new ∙ e)
        (λ l. both_ways (t.cleared.live site r) dead ((t.cleared.is_live site r computed_inside).1 (live_before site r l)))

    pub statement_accepted : StatementAccepted f g site old new
    statement_accepted = judged (cleared_case (t.cleared.live site) (folded_head read_head))

  result_stands : StandsFor (IsKnownAtEnd f) f.result g.result
  result_stands =
      subst (StandsFor (IsKnownAtEnd f) f.result) (sym (t.cleared.changed.heads.result ∙ t.folded.heads.result ∙ t.propagated.result))
      (replaced_stands (IsKnownAtEnd f) t.propagated.at_end t.propagated.is_least_at_end f.result)

  pub accepts : TidyAccepts f g
  accepts = record {
    name = t.cleared.changed.heads.name ∙ t.folded.heads.name ∙ t.propagated.name;
    params = t.cleared.changed.heads.params ∙ t.folded.heads.params ∙ t.propagated.params;
    registers = t.cleared.changed.heads.registers ∙ t.folded.heads.registers ∙ t.propagated.registers;
    blocks = blocks_g;
    statements = λ site old new e n. statement_accepted site old new e n;
    result = result_stands;
  }

pub tidied_is_accepted : TidiedIsAccepted
tidied_is_accepted f g t = accepts f g t
