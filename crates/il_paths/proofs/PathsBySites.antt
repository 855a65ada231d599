-- Paths as lists of sites: a list of sites is cut where the path is.
use Rattle.std.proofs.Common.{◌≡◌, ◌↔◌, ℕ, List, [], ◌∷◌, ◌++◌, map, refl, sym, ap, ◌∙◌, subst}
use Rattle.il_syntax.specs.declared.statement.Block.{Block}
use Rattle.il_paths.specs.Code.{Visit, code_of_block}
use Rattle.il_paths.specs.Paths.{IsPath, Before, After, sites_of_path, PathBefore, PathAfter}

pub sites-append : (p q : List Visit) → sites_of_path (p ++ q) ≡ sites_of_path p ++ sites_of_path q
sites-append [] q = refl
sites-append (v ∷ p) q = ap (λ xs. v.site ∷ xs) (sites-append p q)

-- a path, cut at a site of it
record Cut (p : List Visit) (xs : List ℕ) (site : ℕ) (ys : List ℕ) : Type 0 where
  before : List Visit
  visit : Visit
  after : List Visit
  whole : p ≡ before ++ (visit ∷ after)
  sites_before : sites_of_path before ≡ xs
  at : visit.site ≡ site
  sites_after : sites_of_path after ≡ ys

cut : (xs : List ℕ) (site : ℕ) (ys : List ℕ) (p : List Visit) → sites_of_path p ≡ xs ++ (site ∷ ys) → Cut p xs site ys
cut [] site ys [] e = cc
cut [] site ys (v ∷ p) e = record { before = []; visit = v; after = p; whole = refl; sites_before = refl; at = cc; sites_after = cc }
cut (x ∷ xs) site ys [] e = cc
cut (x ∷ xs) site ys (v ∷ p) e =
    let c = cut xs site ys p (cc) in
    let same : v.site ≡ x = cc in
    record {
      before = v ∷ c.before;
      visit = c.visit;
      after = c.after;
      whole = ap (λ (q : List Visit). v ∷ q) c.whole;
      sites_before = (λ i. same i ∷ c.sites_before i);
      at = c.at;
      sites_after = c.sites_after;
    }

joined : (p q : List Visit) (v : Visit) (site : ℕ) → v.site ≡ site → sites_of_path (p ++ (v ∷ q)) ≡ sites_of_path p ++ (site ∷ sites_of_path q)
joined p q v site e = sites-append p (v ∷ q) ∙ ap (λ n. sites_of_path p ++ (n ∷ sites_of_path q)) e

pub before_by_sites : (b : Block) (site : ℕ) (sites : List ℕ) → PathBefore b site sites ↔ ((p : List Visit) × Before (code_of_block b) site p × (sites_of_path p ≡ sites))
before_by_sites b site sites = (
  λ h. let c = cut sites site h.0 h.1.0 h.1.2 in (c.before, (c.visit, c.after, c.at, subst (IsPath (code_of_block b)) c.whole h.1.1), c.sites_before),
  λ h. (sites_of_path h.1.1, (h.0 ++ (h.1.0 ∷ h.1.1), h.1.3, joined h.0 h.1.1 h.1.0 site h.1.2 ∙ ap (λ xs. xs ++ (site ∷ sites_of_path h.1.1)) h.2)),
)

pub after_by_sites : (b : Block) (site : ℕ) (sites : List ℕ) → PathAfter b site sites ↔ ((q : List Visit) × After (code_of_block b) site q × (sites_of_path q ≡ sites))
after_by_sites b site sites = (
  λ h. let c = cut h.0 site sites h.1.0 h.1.2 in (c.after, (c.visit, c.before, c.at, subst (IsPath (code_of_block b)) c.whole h.1.1), c.sites_after),
  λ h. (sites_of_path h.1.1, (h.1.1 ++ (h.1.0 ∷ h.0), h.1.3, joined h.1.1 h.0 h.1.0 site h.1.2 ∙ ap (λ xs. sites_of_path h.1.1 ++ (site ∷ xs)) h.2)),
)
