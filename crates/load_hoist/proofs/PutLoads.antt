-- One step of the walk that puts loads before loops.
use Rattle.std.proofs.Common.{◌≡◌, ℕ, suc, ◌+◌, Bool, true, false, cond, not, ◌&&◌, List, [], ◌∷◌, ◌++◌, length, map, refl, sym, ap, ◌∙◌, append_assoc}
use Rattle.il_syntax.specs.declared.statement.Atom.{Atom}
use Rattle.il_syntax.specs.declared.statement.Stmt.{Stmt}
use Rattle.il_syntax.specs.declared.statement.Stmt as made
use Rattle.il_syntax.specs.declared.statement.Stmt.TheOpen.{Load}
use Rattle.il_syntax.specs.declared.statement.Block.{Block}
use Rattle.std.specs.List.{list_any}
use Rattle.il_syntax.specs.Statements.{Head, heads_of_all}
use Rattle.il_paths.specs.Tree.{Leaf, leaf_statement, Tree, IfThen, WhileThen, before_rest, tree_of}
use Rattle.il_paths.proofs.Callers.{heads_agree, before_rest-if, before_rest-while, before_rest-leaf}
use Rattle.rewriting.specs.Puts.{puts}
use Rattle.rewriting.proofs.Callers.{puts-push}
use Rattle.load_hoist.specs.declared.growth.Extra.{Extra}
use Rattle.load_hoist.specs.declared.growth.Growth.{Growth}
use Rattle.load_hoist.specs.Introduced.{loads, forbids, is_wanted, gets_load, grown, extras, load_of, put_loads, introduced}

-- with one location more, its load or none comes first
module _ (names : List (List ℕ)) (body : Tree) (inside : List ℕ) (n m x : ℕ) (g : Growth) (e : n ≡ suc m) where
  pub first_extra : gets_load body inside x g ≡ true →
      extras names body inside n x g ≡ (let more = extras names body inside m (x + 1) (grown names g) in (record { r = length g.registers; x = x } ∷ more.0, more.1))
  first_extra t =
      ap (λ k. extras names body inside k x g) e ∙
      ap (λ b. cond b (let more = extras names body inside m (x + 1) (grown names g) in (record { r = length g.registers; x = x } ∷ more.0, more.1)) (extras names body inside m (x + 1) g)) t

  pub no_extra : gets_load body inside x g ≡ false → extras names body inside n x g ≡ extras names body inside m (x + 1) g
  no_extra t =
      ap (λ k. extras names body inside k x g) e ∙
      ap (λ b. cond b (let more = extras names body inside m (x + 1) (grown names g) in (record { r = length g.registers; x = x } ∷ more.0, more.1)) (extras names body inside m (x + 1) g)) t

-- a load puts its leaf
load_puts : (e : Extra) (rest : Tree) → before_rest (load_of e) rest ≡ put_loads (e ∷ []) rest
unfolding made.roll-Stmt denote.Hole.Carrier.roll
load_puts e rest = before_rest-leaf (Load e.r e.x) rest

pub puts-loads : (ss : List Stmt) (es : List Extra) (rest : Tree) → puts (ss ++ map load_of es) rest ≡ puts ss (put_loads es rest)
puts-loads [] [] rest = refl
puts-loads [] (e ∷ es) rest = ap (before_rest (load_of e)) (puts-loads [] es rest) ∙ load_puts e (put_loads es rest)
puts-loads (s ∷ ss) es rest = ap (before_rest s) (puts-loads ss es rest)

module _ (na : ℕ) (names : List (List ℕ)) (inside : List ℕ) (g : Growth) (rest : Tree) where
  -- a statement without blocks is followed by what comes of the rest
  pub after_plain : (s : Stmt) (leaf : Leaf) → s ≡ leaf_statement leaf → (kept : List Stmt) →
      (puts kept (introduced na names (before_rest s rest) inside g).0 ≡ puts (kept ++ s ∷ []) (introduced na names rest inside g).0) ×
      ((introduced na names (before_rest s rest) inside g).1 ≡ (introduced na names rest inside g).1)
  after_plain s leaf e kept =
      let more = introduced na names rest inside g in
      let same = ap (λ (t : Stmt). before_rest t rest) e ∙ before_rest-leaf leaf rest in
      let first = ap (λ (t : Stmt). before_rest t more.0) e ∙ before_rest-leaf leaf more.0 in (
        ap (λ (t : Tree). puts kept (introduced na names t inside g).0) same ∙ ap (puts kept) (sym first) ∙ sym (puts-push kept s more.0),
        ap (λ (t : Tree). (introduced na names t inside g).1) same,
      )

  -- an `if` goes through its blocks
  pub after_if : (s new : Stmt) (a : Atom) (yes_block no_block one other : Block) (g1 g2 : Growth) → s ≡ made.If a yes_block no_block → new ≡ made.If a one other →
      tree_of one ≡ (introduced na names (tree_of yes_block) inside g).0 → g1 ≡ (introduced na names (tree_of yes_block) inside g).1 →
      tree_of other ≡ (introduced na names (tree_of no_block) inside g1).0 → g2 ≡ (introduced na names (tree_of no_block) inside g1).1 → (kept : List Stmt) →
      (puts kept (introduced na names (before_rest s rest) inside g).0 ≡ puts (kept ++ new ∷ []) (introduced na names rest inside g2).0) ×
      ((introduced na names (before_rest s rest) inside g).1 ≡ (introduced na names rest inside g2).1)
  after_if s new a yes_block no_block one other g1 g2 e f t1 q1 t2 q2 kept =
      let more = introduced na names rest inside g2 in
      let same = before_rest-if s a yes_block no_block rest e in
      let first = before_rest-if new a one other more.0 f in
      let yes_made = introduced na names (tree_of yes_block) inside g in
      let path : introduced na names (IfThen a (tree_of yes_block) (tree_of no_block) rest) inside g ≡ (IfThen a (tree_of one) (tree_of other) more.0, more.1) =
      (λ i. let no_made = introduced na names (tree_of no_block) inside (sym q1 i) in let later = introduced na names rest inside no_made.1 in (IfThen a yes_made.0 no_made.0 later.0, later.1))
      ∙ (λ i. let no_made = introduced na names (tree_of no_block) inside g1 in let later = introduced na names rest inside (sym q2 i) in (IfThen a (sym t1 i) (sym t2 i) later.0, later.1)) in (
        ap (λ (t : Tree). puts kept (introduced na names t inside g).0) same ∙ ap (λ (m : Tree × Growth). puts kept m.0) path ∙ ap (puts kept) (sym first) ∙ sym (puts-push kept new more.0),
        ap (λ (t : Tree). (introduced na names t inside g).1) same ∙ ap (λ (m : Tree × Growth). m.1) path,
      )

  -- a `while` comes after its loads
  pub after_while : (s new : Stmt) (a : Atom) (body turn : Block) (within : List ℕ) (g1 g2 : Growth) → s ≡ made.While a body → new ≡ made.While a turn →
      within ≡ map (λ (e : Extra). e.x) (extras names (tree_of body) inside na 0 g).0 ++ inside → g1 ≡ (extras names (tree_of body) inside na 0 g).1 →
      tree_of turn ≡ (introduced na names (tree_of body) within g1).0 → g2 ≡ (introduced na names (tree_of body) within g1).1 → (kept : List Stmt) →
      (puts kept (introduced na names (before_rest s rest) inside g).0 ≡ puts ((kept ++ map load_of (extras names (tree_of body) inside na 0 g).0) ++ new ∷ []) (introduced na names rest inside g2).0) ×
      ((introduced na names (before_rest s rest) inside g).1 ≡ (introduced na names rest inside g2).1)
  after_while s new a body turn within g1 g2 e f w q1 t q2 kept =
      let put = extras names (tree_of body) inside na 0 g in
      let more = introduced na names rest inside g2 in
      let same = before_rest-while s a body rest e in
      let first = before_rest-while new a turn more.0 f in
      let path : introduced na names (WhileThen a (tree_of body) rest) inside g ≡ (put_loads put.0 (WhileThen a (tree_of turn) more.0), more.1) =
      (λ i. let made_body = introduced na names (tree_of body) (sym w i) (sym q1 i) in let later = introduced na names rest inside made_body.1 in (put_loads put.0 (WhileThen a made_body.0 later.0), later.1))
      ∙ (λ i. let later = introduced na names rest inside (sym q2 i) in (put_loads put.0 (WhileThen a (sym t i) later.0), later.1)) in (
        ap (λ (t : Tree). puts kept (introduced na names t inside g).0) same ∙ ap (λ (m : Tree × Growth). puts kept m.0) path ∙
            sym (puts-loads kept put.0 (WhileThen a (tree_of turn) more.0)) ∙ ap (puts (kept ++ map load_of put.0)) (sym first) ∙ sym (puts-push (kept ++ map load_of put.0) new more.0),
        ap (λ (t : Tree). (introduced na names t inside g).1) same ∙ ap (λ (m : Tree × Growth). m.1) path,
      )

-- what is wanted, of the statements of a block
pub wanted_heads : (x : ℕ) (b : Block) → is_wanted x (tree_of b) ≡ (list_any (loads x) (heads_of_all b.statements) && not (list_any (forbids x) (heads_of_all b.statements)))
wanted_heads x b = λ i. list_any (loads x) (heads_agree b i) && not (list_any (forbids x) (heads_agree b i))

-- one location more, whose load is put or isn't

abbrev at_location : List Extra → List ℕ
at_location es = map (λ (e : Extra). e.x) es

module _ (names : List (List ℕ)) (body : Tree) (inside : List ℕ) (n m x : ℕ) (g new : Growth) (e : n ≡ suc m) (within new_within : List ℕ) (kept new_kept : List Stmt) where
  pub record Stepped : Type 0 where
    pub locations : new_within ++ at_location (extras names body inside m (x + 1) new).0 ≡ within ++ at_location (extras names body inside n x g).0
    pub growth : (extras names body inside m (x + 1) new).1 ≡ (extras names body inside n x g).1
    pub loads_put : new_kept ++ map load_of (extras names body inside m (x + 1) new).0 ≡ kept ++ map load_of (extras names body inside n x g).0

  pub step_put : gets_load body inside x g ≡ true → new ≡ grown names g → new_within ≡ within ++ x ∷ [] → new_kept ≡ kept ++ load_of (record { r = length g.registers; x = x }) ∷ [] → Stepped
  step_put t p q r =
      let first = first_extra names body inside n m x g e t in
      let more = extras names body inside m (x + 1) (grown names g) in
      let load : Extra = record { r = length g.registers; x = x } in
      record {
        locations = (λ i. q i ++ at_location (extras names body inside m (x + 1) (p i)).0) ∙ append_assoc within (x ∷ []) (at_location more.0) ∙ ap (λ (put : List Extra × Growth). within ++ at_location put.0) (sym first);
        growth = (λ i. (extras names body inside m (x + 1) (p i)).1) ∙ ap (λ (put : List Extra × Growth). put.1) (sym first);
        loads_put = (λ i. r i ++ map load_of (extras names body inside m (x + 1) (p i)).0) ∙ append_assoc kept (load_of load ∷ []) (map load_of more.0) ∙ ap (λ (put : List Extra × Growth). kept ++ map load_of put.0) (sym first);
      }

  pub step_skip : gets_load body inside x g ≡ false → new ≡ g → new_within ≡ within → new_kept ≡ kept → Stepped
  step_skip t p q r =
      let none = no_extra names body inside n m x g e t in
      record {
        locations = (λ i. q i ++ at_location (extras names body inside m (x + 1) (p i)).0) ∙ ap (λ (put : List Extra × Growth). within ++ at_location put.0) (sym none);
        growth = (λ i. (extras names body inside m (x + 1) (p i)).1) ∙ ap (λ (put : List Extra × Growth). put.1) (sym none);
        loads_put = (λ i. r i ++ map load_of (extras names body inside m (x + 1) (p i)).0) ∙ ap (λ (put : List Extra × Growth). kept ++ map load_of put.0) (sym none);
      }

module _ (x : ℕ) (b : Block) (ss : List Stmt) (same : ss ≡ b.statements) (loaded : Bool) (is : loaded ≡ list_any (loads x) (heads_of_all ss)) where
  heads : (test : Head → Bool) → list_any test (heads_of_all ss) ≡ list_any test (heads_of_all b.statements)
  heads test = ap (λ (ts : List Stmt). list_any test (heads_of_all ts)) same

  pub not_wanted : loaded ≡ false → false ≡ is_wanted x (tree_of b)
  not_wanted e = sym (wanted_heads x b ∙ ap (λ p. p && not (list_any (forbids x) (heads_of_all b.statements))) (sym (is ∙ heads (loads x)) ∙ e))

  pub wanted_so : (forbidden : Bool) → forbidden ≡ list_any (forbids x) (heads_of_all ss) → loaded ≡ true → not forbidden ≡ is_wanted x (tree_of b)
  wanted_so forbidden f e =
      sym (wanted_heads x b ∙ (λ i. (sym (is ∙ heads (loads x)) ∙ e) i && not (sym (f ∙ heads (forbids x)) i)))
