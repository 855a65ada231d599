-- What is live after some assignments are cleared was live before.
use Rattle.std.proofs.Common.{◌≡◌, ℕ, Bool, true, false, cond, List, [], ◌∷◌, ◌++◌, Some, slice_get, refl, sym, ap, ◌∙◌, subst, append_assoc}
use Rattle.std.proofs.lemmas.Bool.{false≢true, both_ways}
use Rattle.std.proofs.lemmas.Option.{none-some, same_Some}
use Rattle.il_syntax.specs.declared.statement.Stmt.TheOpen.{Skip, Copy, Compute, Load, Store, AtomicLoad, AtomicStore, Update, Fence, Print, If, While, Call}
use Rattle.il_syntax.specs.declared.program.Function.{Function}
use Rattle.il_syntax.specs.Statements.{Head}
use Rattle.il_paths.specs.Heads.{gives}
use Rattle.il_paths.specs.Tree.{Leaf, head_of_leaf, tree_of, heads_in}
use Rattle.il_paths.specs.Code.{Visit, Code, Loop, placed}
use Rattle.il_paths.specs.Paths.{IsPath, ends, passes, takes_yes_block, takes_no_block, turns, leaves, sites_of_path}
use Rattle.il_paths.proofs.Callers.{path_runs, runs_halves, runs_first, sites-append}
use Rattle.tidy.specs.Atoms.{reads_register}
use Rattle.tidy.specs.Live.{IsWanted, is_result, is_read, is_kept}
use Rattle.tidy.specs.Accepts.{assigned_register}
use Rattle.tidy.specs.Tidied.{cleared_leaf, IsCleared}
use Rattle.tidy.specs.SameSites.{SameSites, both_end, plain, branch, loop}
use Rattle.tidy.proofs.OnRuns.{stands_at, site_inside}
use Rattle.tidy.proofs.Mapped.{mapped, mapped_there, heads_changed}

-- ---- a statement

abbrev pub cleared_head : (ℕ → Bool) → Head → Head
cleared_head live Skip = Skip
cleared_head live (Copy r a) = cond (live r) (Copy r a) Skip
cleared_head live (Compute r op a b) = cond (live r) (Compute r op a b) Skip
cleared_head live (Load r x) = cond (live r) (Load r x) Skip
cleared_head live (Store x a) = Store x a
cleared_head live (AtomicLoad r order y) = AtomicLoad r order y
cleared_head live (AtomicStore order y a) = AtomicStore order y a
cleared_head live (Update r order y kind) = Update r order y kind
cleared_head live (Fence order) = Fence order
cleared_head live (Print a) = Print a
cleared_head live (If a y n) = If a y n
cleared_head live (While a b) = While a b
cleared_head live (Call r f args) = Call r f args

head_of_cond : (b : Bool) (leaf : Leaf) → head_of_leaf (let s : Leaf = Skip in cond b leaf s) ≡ (let s : Head = Skip in cond b (head_of_leaf leaf) s)
head_of_cond true leaf = refl
head_of_cond false leaf = refl

pub head_of_cleared : (live : ℕ → Bool) (leaf : Leaf) → head_of_leaf (cleared_leaf live leaf) ≡ cleared_head live (head_of_leaf leaf)
head_of_cleared live Skip = refl
head_of_cleared live (Copy r a) = head_of_cond (live r) (Copy r a)
head_of_cleared live (Compute r op a b) = head_of_cond (live r) (Compute r op a b)
head_of_cleared live (Load r x) = head_of_cond (live r) (Load r x)
head_of_cleared live (Store x a) = refl
head_of_cleared live (AtomicLoad r order y) = refl
head_of_cleared live (AtomicStore order y a) = refl
head_of_cleared live (Update r order y kind) = refl
head_of_cleared live (Fence order) = refl
head_of_cleared live (Print a) = refl
head_of_cleared live (If a none _) = absurd none
head_of_cleared live (While a none) = absurd none
head_of_cleared live (Call r f args) = refl

-- it stays, or it is an assignment to a register that isn't live
pub data ClearedCase (live : ℕ → Bool) (h : Head) : Type 0 where
  stays : cleared_head live h ≡ h → ClearedCase live h
  goes : (r : ℕ) → assigned_register h ≡ Some r → live r ≡ false → cleared_head live h ≡ Skip → ClearedCase live h

by_live : (live : ℕ → Bool) (h : Head) (r : ℕ) → assigned_register h ≡ Some r → (cleared_head live h ≡ (let s : Head = Skip in cond (live r) h s)) → ClearedCase live h
by_live live h r a e = go (live r) refl
  where
    go : (b : Bool) → live r ≡ b → ClearedCase live h
    go true f = stays (e ∙ ap (λ (b : Bool). let s : Head = Skip in cond b h s) f)
    go false f = goes r a f (e ∙ ap (λ (b : Bool). let s : Head = Skip in cond b h s) f)

pub cleared_case : (live : ℕ → Bool) (h : Head) → ClearedCase live h
cleared_case live Skip = stays refl
cleared_case live (Copy r a) = by_live live (Copy r a) r refl refl
cleared_case live (Compute r op a b) = by_live live (Compute r op a b) r refl refl
cleared_case live (Load r x) = by_live live (Load r x) r refl refl
cleared_case live (Store x a) = stays refl
cleared_case live (AtomicLoad r order y) = stays refl
cleared_case live (AtomicStore order y a) = stays refl
cleared_case live (Update r order y kind) = stays refl
cleared_case live (Fence order) = stays refl
cleared_case live (Print a) = stays refl
cleared_case live (If a y n) = stays refl
cleared_case live (While a b) = stays refl
cleared_case live (Call r f args) = stays refl

-- ---- paths side by side

pub record PathBeside (a : Code) (q : List Visit) : Type 0 where
  pub path : List Visit
  pub is : IsPath a path
  pub sites : sites_of_path path ≡ sites_of_path q

both_sites : (u v : Visit) (p1 p2 q1 q2 : List Visit) → v.site ≡ u.site → sites_of_path p1 ≡ sites_of_path q1 → sites_of_path p2 ≡ sites_of_path q2 → sites_of_path (u ∷ (p1 ++ p2)) ≡ sites_of_path (v ∷ (q1 ++ q2))
both_sites u v p1 p2 q1 q2 s e f =
    λ i. sym s i ∷ (sites-append p1 p2 ∙ (λ j. e j ++ f j) ∙ sym (sites-append q1 q2)) i

loop_beside : {u v : Visit} {c a c' b : Code} → v.site ≡ u.site → ((q : List Visit) → IsPath c' q → PathBeside c q) → ((q : List Visit) → IsPath b q → PathBeside a q) → {q : List Visit} → IsPath (Loop v c' b) q → PathBeside (Loop u c a) q
loop_beside {u = u} {v = v} s body rest (turns {p = p} {q = q} f g) =
    let one = body p f in
    let other = loop_beside s body rest g in
    record { path = u ∷ (one.path ++ other.path); is = turns one.is other.is; sites = both_sites u v one.path other.path p q s one.sites other.sites }
loop_beside {u = u} {v = v} s body rest (leaves {q = q} g) =
    let other = rest q g in record { path = u ∷ other.path; is = leaves other.is; sites = λ i. sym s i ∷ other.sites i }

pub path_beside : {a b : Code} → SameSites a b → {q : List Visit} → IsPath b q → PathBeside a q
path_beside both_end ends = record { path = []; is = ends; sites = refl }
path_beside (plain {u = u} s rest) (passes f) = let r = path_beside rest f in record { path = u ∷ r.path; is = passes r.is; sites = λ i. sym s i ∷ r.sites i }
path_beside (branch {u = u} {v = v} s one other rest) (takes_yes_block {p = p} {q = q} f g) =
    let l = path_beside one f in let r = path_beside rest g in record { path = u ∷ (l.path ++ r.path); is = takes_yes_block l.is r.is; sites = both_sites u v l.path r.path p q s l.sites r.sites }
path_beside (branch {u = u} {v = v} s one other rest) (takes_no_block {p = p} {q = q} f g) =
    let l = path_beside other f in let r = path_beside rest g in record { path = u ∷ (l.path ++ r.path); is = takes_no_block l.is r.is; sites = both_sites u v l.path r.path p q s l.sites r.sites }
path_beside (loop s body rest) f = loop_beside s (λ p g. path_beside body {q = p} g) (λ p g. path_beside rest {q = p} g) f

-- the head of a visit of a path
pub head_on_path : (f : Function) (p q : List Visit) (v : Visit) → IsPath (placed 0 (tree_of f.body)) (p ++ v ∷ q) → slice_get (heads_in (tree_of f.body)) v.site ≡ Some v.head
head_on_path f p q v is = let h = runs_halves p (path_runs is) in stands_at f.body p h.0 v h.1 (runs_first h.2)

-- ---- cleared functions

pub assigned_gives : (h : Head) (r : ℕ) → assigned_register h ≡ Some r → gives h ≡ Some r
assigned_gives Skip r e = absurd (none-some r e)
assigned_gives (Copy k a) r e = e
assigned_gives (Compute k op a b) r e = e
assigned_gives (Load k x) r e = e
assigned_gives (Store x a) r e = absurd (none-some r e)
assigned_gives (AtomicLoad k order y) r e = absurd (none-some r e)
assigned_gives (AtomicStore order y a) r e = absurd (none-some r e)
assigned_gives (Update k order y kind) r e = absurd (none-some r e)
assigned_gives (Fence order) r e = absurd (none-some r e)
assigned_gives (Print a) r e = absurd (none-some r e)
assigned_gives (If a _ _) r e = absurd (none-some r e)
assigned_gives (While a _) r e = absurd (none-some r e)
assigned_gives (Call k f args) r e = absurd (none-some r e)

module _ (f g : Function) (c : IsCleared f g) where
  pub heads_of_cleared : heads_in (tree_of g.body) ≡ mapped (λ site. cleared_head (c.live site)) 0 (heads_in (tree_of f.body))
  heads_of_cleared = ap heads_in c.changed.body ∙ heads_changed (λ site. cleared_leaf (c.live site)) (λ site. cleared_head (c.live site)) (λ site leaf. head_of_cleared (c.live site) leaf) (λ site a. refl) (λ site a. refl) 0 (tree_of f.body)

  -- at one site of both
  one_head : (site : ℕ) (old new : Head) → slice_get (heads_in (tree_of f.body)) site ≡ Some old → slice_get (heads_in (tree_of g.body)) site ≡ Some new → new ≡ cleared_head (c.live site) old
  one_head site old new e n = same_Some new (cleared_head (c.live site) old) (sym n ∙ ap (λ (hs : List Head). slice_get hs site) heads_of_cleared ∙ mapped_there (λ site. cleared_head (c.live site)) (heads_in (tree_of f.body)) site old e)

  pub wanted_before : (r : ℕ) (p p' q q' : List Visit) → IsPath (placed 0 (tree_of f.body)) (p ++ p') → IsPath (placed 0 (tree_of g.body)) (q ++ q') → sites_of_path p' ≡ sites_of_path q' → IsWanted r g.result q' → IsWanted r f.result p'
  wanted_before r p [] q [] a b s (is_result e) = is_result (sym c.changed.heads.result ∙ e)
  wanted_before r p [] q (v ∷ q') a b s w = cc
  wanted_before r p (u ∷ p') q [] a b s w = cc
  wanted_before r p (u ∷ p') q (v ∷ q') a b s w =
      step (cleared_case (c.live u.site) u.head) w (λ x. wanted_before r (p ++ u ∷ []) p' (q ++ v ∷ []) q' (subst (IsPath (placed 0 (tree_of f.body))) (sym (append_assoc p (u ∷ []) p')) a) (subst (IsPath (placed 0 (tree_of g.body))) (sym (append_assoc q (v ∷ []) q')) b) more x)
    where
      at : u.site ≡ v.site
      at = cc

      more : sites_of_path p' ≡ sites_of_path q'
      more = cc

      stood : slice_get (heads_in (tree_of f.body)) u.site ≡ Some u.head
      stood = head_on_path f p p' u a

      head : v.head ≡ cleared_head (c.live u.site) u.head
      head = one_head u.site u.head v.head stood (ap (slice_get (heads_in (tree_of g.body))) at ∙ head_on_path g q q' v b)

      keeps : v.head ≡ u.head → IsWanted r g.result (v ∷ q') → (IsWanted r g.result q' → IsWanted r f.result p') → IsWanted r f.result (u ∷ p')
      keeps e (is_read f) k = is_read (ap (reads_register r) (sym e) ∙ f)
      keeps e (is_kept n x) k = is_kept (λ g. n (ap gives e ∙ g)) (k x)

      drops : (j : ℕ) → assigned_register u.head ≡ Some j → c.live u.site j ≡ false → v.head ≡ Skip → IsWanted r g.result (v ∷ q') → (IsWanted r g.result q' → IsWanted r f.result p') → IsWanted r f.result (u ∷ p')
      drops j e dead skip (is_read f) k = absurd (false≢true (ap (reads_register r) (sym skip) ∙ f))
      drops j e dead skip (is_kept n x) k =
          let after = k x in
          is_kept (λ given.
          let same : j ≡ r = same_Some j r (sym (assigned_gives u.head j e) ∙ given) in
          both_ways (c.live u.site j) dead
          ((c.is_live u.site j (site_inside f.body u.site u.head stood)).1 (p', (u, p, refl, a), subst (λ (i : ℕ). IsWanted i f.result p') (sym same) after)))
          after

      step : ClearedCase (c.live u.site) u.head → IsWanted r g.result (v ∷ q') → (IsWanted r g.result q' → IsWanted r f.result p') → IsWanted r f.result (u ∷ p')
      step (stays e) x k = keeps (head ∙ e) x k
      step (goes j e dead skip) x k = drops j e dead (head ∙ skip) x k
