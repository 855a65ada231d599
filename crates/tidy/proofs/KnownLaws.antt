-- Rows that agree with the walk say what is known on all paths.
use Rattle.std.proofs.Common.{◌≡◌, ◌≤◌, ◌<◌, ℕ, zero, suc, Bool, true, false, not, ◌&&◌, ◌||◌, List, [], ◌∷◌, get_or, refl, sym, ap, ◌∙◌, subst, arith}
use Rattle.il_syntax.specs.declared.statement.Atom.{Atom}
use Rattle.il_syntax.specs.declared.program.Function.{Function}
use Rattle.il_paths.specs.Heads.{gives}
use Rattle.il_paths.specs.Tree.{tree_of, sites_of}
use Rattle.il_paths.specs.Code.{Visit, placed}
use Rattle.il_paths.specs.Meets.{IsMeetBefore, IsMeetThrough}
use Rattle.path_meets.specs.Chain.{must_rank}
use Rattle.path_meets.specs.Walks.{table}
use Rattle.path_meets.proofs.Callers.{table_least, exit_least, table-placed, exit-placed, yes_of}
use Rattle.tidy.specs.declared.known.KnownPair.{KnownPair}
use Rattle.tidy.specs.Known.{makes, touches, known_change, known_step, known_at_entry, known_after, IsKnown, IsKnownAtEnd}
use Rattle.tidy.specs.Rows.{known_in, known_column, exit_known, table_known, AreKnownRows, IsLastRow}

bounded : (a : Bool) → must_rank a ≤ 1
bounded true = omega arith
bounded false = omega arith

steady_or : (p q a b : Bool) → must_rank a ≤ must_rank b → must_rank (p || (q && a)) ≤ must_rank (p || (q && b))
steady_or true q a b h = omega arith
steady_or false true a b h = h
steady_or false false a b h = omega arith

at_column : (r : ℕ) (a : Atom) (rows : List (List KnownPair)) (site : ℕ) → get_or (known_column r a rows) site false ≡ known_in (get_or rows site []) r a
at_column r a [] site = refl
at_column r a (row ∷ rows) zero = refl
at_column r a (row ∷ rows) (suc site) = at_column r a rows site

pub known_monotone : (r : ℕ) (a : Atom) (v : Visit) (b c : Bool) → must_rank b ≤ must_rank c → must_rank (known_step r a v b) ≤ must_rank (known_step r a v c)
known_monotone r a v b c h = steady_or (makes r a v.head) (not (touches r a (gives v.head))) b c h

module _ (f : Function) (r : ℕ) (a : Atom) where
  abbrev start : Bool
  start = known_at_entry f r a

  abbrev step : Visit → Bool → Bool
  step = known_step r a

  -- all paths to a site say yes exactly where the least of them does
  pub before_all : (site : ℕ) (m : Bool) → IsMeetBefore must_rank step start (placed 0 (tree_of f.body)) site m → m ≡ true → IsKnown f site r a
  before_all site m h e p b = yes_of (known_after f r a p) (subst (λ (c : Bool). must_rank c ≤ must_rank (known_after f r a p)) e (h.below p b))

  pub all_before : (site : ℕ) (m : Bool) → IsMeetBefore must_rank step start (placed 0 (tree_of f.body)) site m → IsKnown f site r a → m ≡ true
  all_before site m h k = sym h.reached.2 ∙ k h.reached.0 h.reached.1

  pub through_all : (m : Bool) → IsMeetThrough must_rank step start (placed 0 (tree_of f.body)) m → m ≡ true → IsKnownAtEnd f r a
  through_all m h e p b = yes_of (known_after f r a p) (subst (λ (c : Bool). must_rank c ≤ must_rank (known_after f r a p)) e (h.below p b))

  pub all_through : (m : Bool) → IsMeetThrough must_rank step start (placed 0 (tree_of f.body)) m → IsKnownAtEnd f r a → m ≡ true
  all_through m h k = sym h.reached.2 ∙ k h.reached.0 h.reached.1

  -- a walk's table, and its end
  pub table_says : (rows : List (List KnownPair)) → known_column r a rows ≡ table_known r a (tree_of f.body) start → (site : ℕ) → site < sites_of (tree_of f.body) → IsMeetBefore must_rank step start (placed 0 (tree_of f.body)) site (known_in (get_or rows site []) r a)
  table_says rows same site h =
      let least = table_least Bool must_rank 1 step (known_monotone r a) bounded (tree_of f.body) start false site h in
      let e : get_or (table Bool must_rank 1 step (placed 0 (tree_of f.body)) start) site false ≡ known_in (get_or rows site []) r a = ap (λ (bs : List Bool). get_or bs site false) (table-placed Bool must_rank 1 (known_change r a) (tree_of f.body) 0 start ∙ sym same) ∙ at_column r a rows site in
      subst (λ (b : Bool). IsMeetBefore must_rank step start (placed 0 (tree_of f.body)) site b) e least

  pub end_says : (row : List KnownPair) → known_in row r a ≡ exit_known r a (tree_of f.body) start → IsMeetThrough must_rank step start (placed 0 (tree_of f.body)) (known_in row r a)
  end_says row same =
      let least = exit_least Bool must_rank 1 step (known_monotone r a) bounded (tree_of f.body) start in
      subst (λ (b : Bool). IsMeetThrough must_rank step start (placed 0 (tree_of f.body)) b) (exit-placed Bool must_rank 1 (known_change r a) (tree_of f.body) 0 start ∙ sym same) least

pub rows_known : (f : Function) (rows : List (List KnownPair)) → ((r : ℕ) (a : Atom) → known_column r a rows ≡ table_known r a (tree_of f.body) (known_at_entry f r a)) → AreKnownRows f rows
rows_known f rows same site r a h = (before_all f r a site _ (table_says f r a rows (same r a) site h), all_before f r a site _ (table_says f r a rows (same r a) site h))

pub end_known : (f : Function) (row : List KnownPair) → ((r : ℕ) (a : Atom) → known_in row r a ≡ exit_known r a (tree_of f.body) (known_at_entry f r a)) → IsLastRow f row
end_known f row same r a = (through_all f r a _ (end_says f r a row (same r a)), all_through f r a _ (end_says f r a row (same r a)))
