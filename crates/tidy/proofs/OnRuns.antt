-- What was judged of all paths, at a point of a run.
use Rattle.std.proofs.Common.{◌≡◌, ◌<◌, ◌≤◌, ℕ, Bool, true, List, [], ◌∷◌, ◌++◌, Some, slice_get, refl, sym, ap, ◌∙◌, ⊎_elim, arith}
use Rattle.std.proofs.lemmas.Bool.{cases_lt}
use Rattle.std.proofs.lemmas.Option.{none-some, slice_get_within}
use Rattle.il_syntax.specs.declared.statement.Atom.{Atom}
use Rattle.il_syntax.specs.declared.program.Function.{Function}
use Rattle.il_syntax.specs.declared.statement.Block.{Block}
use Rattle.il_syntax.specs.Statements.{Head}
use Rattle.il_paths.specs.Tree.{Tree, tree_of, heads_in, sites_of}
use Rattle.il_paths.specs.Code.{Visit, Code, End, placed, first, first_head, go}
use Rattle.il_paths.specs.Sites.{rest_from}
use Rattle.il_paths.specs.Paths.{IsPath, RunsTo, here}
use Rattle.il_paths.specs.Meets.{fold_forward}
use Rattle.il_paths.proofs.Callers.{length-heads_in}
use Rattle.il_paths.proofs.Callers.{runs_more, path_runs, runs_path, reaches_before, departs_after, step_runs, site_fixes, behind_all, heads_agree, heads_at_sites}
use Rattle.tidy.specs.Known.{known_step, known_after, IsKnown, IsKnownAtEnd}
use Rattle.tidy.specs.Live.{IsWanted, IsLive}
use Rattle.tidy.specs.Accepts.{StatementAccepted, TidyAccepts}
use Rattle.tidy.proofs.SideBySide.{head_next}

-- the run with one statement more
pub one_more : (c k : Code) (p : List Visit) (v : Visit) (d : Bool) → RunsTo c p k → first k ≡ Some v → RunsTo c (p ++ v ∷ []) (go k d)
one_more c k p v d run e = runs_more run (step_runs k (go k d) v [] d e here)

-- where something comes next, its site is one of the tree's
inside_of : (t : Tree) (v : Visit) → first (rest_from 0 t v.site End) ≡ Some v → v.site < sites_of t
inside_of t v e =
    ⊎_elim (λ (l : v.site < sites_of t). l)
    (λ (l : sites_of t ≤ v.site). absurd (none-some v (sym (ap first (behind_all 0 t v.site End (omega (arith, l)))) ∙ e)))
    (cases_lt v.site (sites_of t))

-- a statement's place is one of the tree's sites
pub site_inside : (b : Block) (site : ℕ) (h : Head) → slice_get (heads_in (tree_of b)) site ≡ Some h → site < sites_of (tree_of b)
site_inside b site h e = let l = slice_get_within (heads_in (tree_of b)) site h e in let n = length-heads_in (tree_of b) in omega arith

-- what comes next stands at its site
pub stands_at : (b : Block) (p : List Visit) (k : Code) (v : Visit) → RunsTo (placed 0 (tree_of b)) p k → first k ≡ Some v → slice_get (heads_in (tree_of b)) v.site ≡ Some v.head
stands_at b p k v run e =
    let rest = site_fixes (tree_of b) p k v run e in
    let there = inside_of (tree_of b) v (sym (ap first rest) ∙ e) in
    ap (λ (hs : List Head). slice_get hs v.site) (heads_agree b) ∙ sym (heads_at_sites b v.site there) ∙ sym (ap first_head rest) ∙ head_next k v e

module _ (f g : Function) (ok : TidyAccepts f g) (p q : List Visit) (k m : Code) (u v : Visit) (old : RunsTo (placed 0 (tree_of f.body)) p k) (new : RunsTo (placed 0 (tree_of g.body)) q m)
    (next_old : first k ≡ Some u) (next_new : first m ≡ Some v) (site : v.site ≡ u.site) where
  -- the next statement of g may stand for that of f
  pub next_accepted : StatementAccepted f g u.site u.head v.head
  next_accepted =
      ok.statements u.site u.head v.head (stands_at f.body p k u old next_old) (ap (slice_get (heads_in (tree_of g.body))) (sym site) ∙ stands_at g.body q m v new next_new)

  -- what is known before its site is known on the run
  pub known_here : (r : ℕ) (a : Atom) → IsKnown f u.site r a → known_after f r a p ≡ true
  known_here r a h = h p (reaches_before (placed 0 (tree_of f.body)) u.site p (record { continuation = k; visit = u; run = old; next = next_old; at = refl }))

  -- what isn't live after it is wanted on no path from there
  pub unwanted_here : (r : ℕ) → (IsLive g u.site r → ⊥) → (d : Bool) (path : List Visit) → IsPath (go m d) path → IsWanted r g.result path → ⊥
  unwanted_here r h d path is w =
      h (path, departs_after (placed 0 (tree_of g.body)) u.site path (record { before = q; continuation = m; visit = v; run = new; at = site; ends = step_runs m End v path d next_new (path_runs is) }), w)

pub known_at_end : (f : Function) (p : List Visit) (r : ℕ) (a : Atom) → RunsTo (placed 0 (tree_of f.body)) p End → IsKnownAtEnd f r a → known_after f r a p ≡ true
known_at_end f p r a run h = h p (runs_path run)

fold_more : (step : Visit → Bool → Bool) (p : List Visit) (v : Visit) (b : Bool) → fold_forward step (p ++ v ∷ []) b ≡ step v (fold_forward step p b)
fold_more step [] v b = refl
fold_more step (u ∷ p) v b = fold_more step p v (step u b)

-- a pair after one statement more
pub known_more : (f : Function) (r : ℕ) (a : Atom) (p : List Visit) (v : Visit) → known_after f r a (p ++ v ∷ []) ≡ known_step r a v (known_after f r a p)
known_more f r a p v = fold_more (known_step r a) p v _
