-- A function is forwarded in one way, and the walk by a table forwards it.
use Rattle.std.proofs.Common.{◌≡◌, ◌<◌, ℕ, List, Option, Some, slice_get, refl, ap, arith}
use Rattle.std.proofs.lemmas.Option.{slice_get_within}
use Rattle.il_syntax.specs.declared.statement.Atom.{Atom}
use Rattle.il_syntax.specs.declared.statement.Stmt.TheOpen.{Skip, Copy, Compute, Load, Store, AtomicLoad, AtomicStore, Update, Fence, Print, If, While, Call}
use Rattle.il_syntax.specs.Statements.{Head}
use Rattle.il_syntax.specs.declared.program.Function.{Function}
use Rattle.il_paths.specs.Tree.{Leaf, head_of_leaf, Tree, tree_of, sites_of, heads_in}
use Rattle.il_paths.proofs.Callers.{length-heads_in, site_within}
use Rattle.rewriting.specs.Changed.{IsChanged}
use Rattle.rewriting.specs.Kinds.{unchanged}
use Rattle.rewriting.proofs.Callers.{each_kind, changed_is_one}
use Rattle.flow_facts.specs.declared.level.Kind.{Kind}
use Rattle.flow_facts.specs.declared.known.Known.{Known}
use Rattle.flow_facts.specs.Rows.{IsTable}
use Rattle.flow_facts.proofs.Callers.{best_of_table, best_is_one}
use Rattle.forwarding.specs.Forwarded.{copy_or_load, forwarded_leaf, IsForwarded}
use Rattle.forwarding.specs.BestOf.{best_at}
use Rattle.forwarding.specs.Laws.{ForwardedIsOne}
use Rattle.forwarding.proofs.BestLaws.{best_is_least}

pub forwarded_is_one : ForwardedIsOne
forwarded_is_one kind f g h one other =
    changed_is_one (λ site. forwarded_leaf (one.best site)) (λ site. forwarded_leaf (other.best site)) f g h (agree kind f g h one other) one.changed other.changed
  where
    agree : (kind : Kind) (f g h : Function) (one : IsForwarded kind f g) (other : IsForwarded kind f h) (site : ℕ) (leaf : Leaf) → slice_get (heads_in (tree_of f.body)) site ≡ Some (head_of_leaf leaf) → forwarded_leaf (one.best site) leaf ≡ forwarded_leaf (other.best site) leaf
    agree kind f g h one other site =
        each_kind (λ leaf new new_other. slice_get (heads_in (tree_of f.body)) site ≡ Some (head_of_leaf leaf) → new ≡ new_other)
        (record unchanged { load = λ r x. copy_or_load (one.best site x) r x }) (λ leaf. leaf) (record unchanged { load = λ r x. copy_or_load (other.best site x) r x }) (λ leaf. leaf)
        (record {
          skip = λ e. refl;
          copy = λ r a e. refl;
          compute = λ r op a b e. refl;
          load = λ r x e.
              ap (λ (best : Option Atom). copy_or_load best r x) (best_is_one kind x (tree_of f.body) site (one.best site x) (other.best site x) (site_within (tree_of f.body) site (Load r x) e) (one.is_best site r x e) (other.is_best site r x e));
          store = λ x a e. refl;
          other = λ leaf e. refl;
        })

pub forwarded_by_table : (kind : Kind) (f g : Function) (rows : List (List Known)) → IsTable (tree_of f.body) kind rows → IsChanged (λ site leaf. forwarded_leaf (best_at rows site) leaf) f g → IsForwarded kind f g
forwarded_by_table kind f g rows t changed = record {
  best = best_at rows;
  is_best = λ site r x e. best_of_table (tree_of f.body) kind rows site x (best_at rows site x) t (site_within (tree_of f.body) site (Load r x) e) (best_is_least _ x);
  changed = changed;
}
