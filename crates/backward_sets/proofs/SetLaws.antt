-- Sets as what is known of each number.
use Rattle.std.proofs.Common.{◌≡◌, ℕ, zero, suc, Bool, false, List, [], ◌∷◌, ◌++◌, get_or, reverse, refl, sym, ap, ◌∙◌, append_assoc, subst}
use Rattle.std.proofs.lemmas.List.{reverse-append}
use Rattle.il_syntax.specs.declared.statement.Atom.{Atom}
use Rattle.il_syntax.specs.declared.statement.Stmt.{Stmt, If, While, map-Stmt}
use Rattle.il_syntax.specs.declared.statement.Stmt.TheOpen as open_form
use Rattle.il_syntax.specs.declared.statement.Stmt.TheViews.{outs-If, outs-While}
use Rattle.il_syntax.specs.declared.statement.Block.{Block}
use Rattle.il_syntax.specs.Statements.{Head, head_of}
use Rattle.il_paths.specs.Tree.{Tree, Empty, before_rest, tree_of}
use Rattle.il_paths.specs.Code.{Visit, placed}
use Rattle.il_paths.specs.Meets.{IsMeetAfter}
use Rattle.path_meets.specs.Walks.{meet, meet_of_turns, after}
use Rattle.path_meets.proofs.Callers.{after_least, after-placed, enter_tree-if, enter_tree-while, after_tree-if, after_tree-while}
use Rattle.location_sets.specs.Sets.{has, column}
use Rattle.backward_sets.specs.Walk.{before_tree, after_sites}
use Rattle.backward_sets.specs.Meets.{KeepsOrder, AreMeetsAfter}

head_of-if : (s : Stmt) (a : Atom) (one other : Block) → s ≡ If a one other → head_of s ≡ open_form.If a tt tt
head_of-if s a one other e = ap head_of e ∙ ap (map-Stmt Stmt Block (Unit {0}) (Unit {0}) (λ _. tt) (λ _. tt)) (outs-If a one other)

pub head_of-while : (s : Stmt) (a : Atom) (body : Block) → s ≡ While a body → head_of s ≡ open_form.While a tt
head_of-while s a body e = ap head_of e ∙ ap (map-Stmt Stmt Block (Unit {0}) (Unit {0}) (λ _. tt) (λ _. tt)) (outs-While a body)

reverse-cons : (b : Bool) (bs : List Bool) → reverse (b ∷ bs) ≡ reverse bs ++ b ∷ []
reverse-cons b bs = reverse-append (b ∷ []) bs

module _ (rank : Bool → ℕ) (change : ℕ → Head → Bool → Bool) (x : ℕ) (s : Stmt) (l : Bool) where
  -- what is known before an `if`
  pub before_if : (a : Atom) (one other : Block) → s ≡ If a one other → (low new : Bool) → low ≡ meet Bool rank (before_tree rank change x (tree_of one) l) (before_tree rank change x (tree_of other) l) → new ≡ change x (head_of s) low → new ≡ before_tree rank change x (before_rest s Empty) l
  before_if a one other e low new lo is =
      is ∙ (λ i. change x (head_of-if s a one other e i) (lo i)) ∙ sym (enter_tree-if Bool rank 1 (change x) s a one other l e)

  -- and a `while`
  pub before_while : (a : Atom) (body : Block) → s ≡ While a body → (once turn again new : Bool) → once ≡ change x (head_of s) l → turn ≡ before_tree rank change x (tree_of body) once → again ≡ change x (head_of s) turn → new ≡ meet Bool rank once again → new ≡ before_tree rank change x (before_rest s Empty) l
  before_while a body e once turn again new o t g n =
      let h = head_of-while s a body e in
      let k : once ≡ change x (open_form.While a tt) l = o ∙ ap (λ (head : Head). change x head l) h in
      let m : again ≡ change x (open_form.While a tt) (before_tree rank change x (tree_of body) once) = g ∙ (λ i. change x (h i) (t i)) in
      n ∙ (λ i. meet Bool rank (k i) ((m ∙ ap (λ (b : Bool). change x (open_form.While a tt) (before_tree rank change x (tree_of body) b)) k) i)) ∙ sym (enter_tree-while Bool rank 1 (change x) s a body l e)

  -- the sites of an `if`, the last first
  pub after_if : (a : Atom) (one other : Block) → s ≡ If a one other → (old mid new last : List Bool) (low : Bool) →
      mid ≡ old ++ reverse (after_sites rank change x (tree_of other) l) → new ≡ mid ++ reverse (after_sites rank change x (tree_of one) l) → last ≡ new ++ low ∷ [] →
      low ≡ meet Bool rank (before_tree rank change x (tree_of one) l) (before_tree rank change x (tree_of other) l) →
      last ≡ old ++ reverse (after_sites rank change x (before_rest s Empty) l)
  after_if a one other e old mid new last low em en el lo =
      let ys = after_sites rank change x (tree_of one) l in
      let ns = after_sites rank change x (tree_of other) l in
      let m = meet Bool rank (before_tree rank change x (tree_of one) l) (before_tree rank change x (tree_of other) l) in
      let same : low ≡ m = lo in
      let whole : reverse (m ∷ (ys ++ ns)) ≡ (reverse ns ++ reverse ys) ++ m ∷ [] = reverse-cons m (ys ++ ns) ∙ ap (λ (zs : List Bool). zs ++ m ∷ []) (reverse-append ys ns) in
      el ∙ (λ i. (en i) ++ same i ∷ []) ∙ (λ i. (em i ++ reverse ys) ++ m ∷ [])
      ∙ append_assoc (old ++ reverse ns) (reverse ys) (m ∷ []) ∙ append_assoc old (reverse ns) (reverse ys ++ m ∷ [])
      ∙ ap (λ (zs : List Bool). old ++ zs) (sym (ap reverse (after_tree-if Bool rank 1 (change x) s a one other l e) ∙ whole ∙ append_assoc (reverse ns) (reverse ys) (m ∷ [])))

  -- and those of a `while`
  pub after_while : (a : Atom) (body : Block) → s ≡ While a body → (old new last : List Bool) (low next : Bool) →
      low ≡ before_tree rank change x (before_rest s Empty) l →
      new ≡ old ++ reverse (after_sites rank change x (tree_of body) low) → next ≡ meet Bool rank l (before_tree rank change x (tree_of body) low) → last ≡ new ++ next ∷ [] →
      last ≡ old ++ reverse (after_sites rank change x (before_rest s Empty) l)
  after_while a body e old new last low next lo en nx el =
      let same = lo ∙ enter_tree-while Bool rank 1 (change x) s a body l e in
      let bs = after_sites rank change x (tree_of body) in
      let k = meet_of_turns Bool rank 1 (λ m. change x (open_form.While a tt) (before_tree rank change x (tree_of body) m)) (change x (open_form.While a tt) l) in
      let later : next ≡ meet Bool rank l (before_tree rank change x (tree_of body) low) = nx in
      el ∙ (λ i. en i ++ later i ∷ [])
      ∙ append_assoc old (reverse (bs low)) (meet Bool rank l (before_tree rank change x (tree_of body) low) ∷ [])
      ∙ (λ i. old ++ (reverse (bs (same i)) ++ meet Bool rank l (before_tree rank change x (tree_of body) (same i)) ∷ []))
      ∙ ap (λ (zs : List Bool). old ++ zs) (sym (ap reverse (after_tree-while Bool rank 1 (change x) s a body l e) ∙ reverse-cons (meet Bool rank l (before_tree rank change x (tree_of body) k)) (bs k)))

column-append : (x : ℕ) (xs ys : List (List ℕ)) → column x (xs ++ ys) ≡ column x xs ++ column x ys
column-append x [] ys = refl
column-append x (s ∷ xs) ys = ap (λ (bs : List Bool). has x s ∷ bs) (column-append x xs ys)

pub column-reverse : (x : ℕ) (sets : List (List ℕ)) → column x (reverse sets) ≡ reverse (column x sets)
column-reverse x [] = refl
column-reverse x (s ∷ sets) =
    ap (column x) (reverse-append (s ∷ []) sets) ∙ column-append x (reverse sets) (s ∷ []) ∙ ap (λ (bs : List Bool). bs ++ has x s ∷ []) (column-reverse x sets) ∙ sym (reverse-append (has x s ∷ []) (column x sets))

at_column : (x : ℕ) (sets : List (List ℕ)) (site : ℕ) → get_or (column x sets) site false ≡ has x (get_or sets site [])
at_column x [] site = refl
at_column x (s ∷ sets) zero = refl
at_column x (s ∷ sets) (suc site) = at_column x sets site

pub columns_meet : (rank : Bool → ℕ) (change : ℕ → Head → Bool → Bool) (t : Tree) (end : List ℕ) (sets : List (List ℕ)) → KeepsOrder rank change → ((x : ℕ) → column x sets ≡ after_sites rank change x t (has x end)) → AreMeetsAfter rank change t end sets
columns_meet rank change t end sets ordered same site x h =
    let step : Visit → Bool → Bool = λ v. change x v.head in
    let least = after_least Bool rank 1 step (ordered.monotone x) ordered.bounded t (has x end) false site h in
    let e : get_or (after Bool rank 1 step (placed 0 t) (has x end)) site false ≡ has x (get_or sets site []) = ap (λ (bs : List Bool). get_or bs site false) (after-placed Bool rank 1 (change x) t 0 (has x end) ∙ sym (same x)) ∙ at_column x sets site in
    subst (λ b. IsMeetAfter rank step (has x end) (placed 0 t) site b) e least
