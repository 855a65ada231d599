-- Columns of the pairs that statements give are a table: every other pair is at nothing.
use Rattle.std.proofs.Common.{◌≡◌, ℕ, ◌<◌, Bool, true, false, cond, ◌||◌, ◌==◌, List, [], ◌∷◌, ◌++◌, get_or, refl, sym, ap, ◌∙◌, subst, arith}
use Rattle.std.specs.List.{list_any}
use Rattle.std.proofs.lemmas.Bool.{eqb-true, and_parts, or_parts}
use Rattle.std.proofs.lemmas.List.{get_or_default}
use Rattle.il_syntax.specs.declared.statement.Atom.{Atom}
use Rattle.il_paths.specs.Tree.{Tree, sites_of}
use Rattle.il_paths.specs.Code.{placed}
use Rattle.flow_facts.specs.declared.given.Pair.{Pair}
use Rattle.flow_facts.specs.declared.level.Kind.{Kind}
use Rattle.flow_facts.specs.declared.level.Level.{Level}
use Rattle.flow_facts.specs.declared.level.Level.TheVariants.{Nothing, Held, Fresh}
use Rattle.flow_facts.specs.declared.known.Known.{Known}
use Rattle.flow_facts.specs.declared.walked.Column.{Column}
use Rattle.flow_facts.specs.Levels.{IsLevel}
use Rattle.il_paths.specs.Atoms.{atoms_equal}
use Rattle.flow_facts.specs.Rows.{higher, level_at, IsTable}
use Rattle.flow_facts.specs.Rounds.{given_of}
use Rattle.flow_facts.specs.Columns.{AreLevels, entry, level_by_columns}
use Rattle.flow_facts.proofs.LevelLaws.{levels_are_one}
use Rattle.flow_facts.proofs.RowLaws.{higher-nothing, nothing-higher}
use Rattle.il_paths.proofs.Callers.{atoms_equal-true}
use Rattle.flow_facts.proofs.GivenLaws.{is_given, never_given}

abbrev pub Exact : Tree → Kind → List Column → Type 0
Exact tree kind [] = Unit {0}
Exact tree kind (c ∷ cs) = AreLevels tree kind c.pair c.levels × Exact tree kind cs

abbrev pub pairs_of : List Column → List Pair
pairs_of [] = []
pairs_of (c ∷ cs) = c.pair ∷ pairs_of cs

pub exact_push : (tree : Tree) (kind : Kind) (cs : List Column) (c : Column) → Exact tree kind cs → AreLevels tree kind c.pair c.levels → Exact tree kind (cs ++ c ∷ [])
exact_push tree kind [] c e h = (h, tt)
exact_push tree kind (b ∷ cs) c e h = (e.0, exact_push tree kind cs c e.1 h)

pub pairs_push : (cs : List Column) (c : Column) → pairs_of (cs ++ c ∷ []) ≡ pairs_of cs ++ c.pair ∷ []
pairs_push [] c = refl
pairs_push (b ∷ cs) c = ap (λ (ps : List Pair). b.pair ∷ ps) (pairs_push cs c)

higher_self : (l : Level) → higher l l ≡ l
higher_self Nothing = refl
higher_self Held = refl
higher_self Fresh = refl

module _ (tree : Tree) (kind : Kind) (site x : ℕ) (a : Atom) where
  abbrev Is : Level → Type 0
  Is = IsLevel (placed 0 tree) site kind x a

  abbrev listed : List Column → Bool
  listed cs = list_any (is_given x a) (pairs_of cs)

  none_level : (cs : List Column) → listed cs ≡ false → level_by_columns cs site x a ≡ Nothing
  none_level [] e = refl
  none_level (c ∷ cs) e =
      let p = or_parts (is_given x a c.pair) (listed cs) e in
      (λ i. higher (cond (p.0 i) (entry c site).level Nothing) (level_by_columns cs site x a)) ∙ nothing-higher (level_by_columns cs site x a) ∙ none_level cs p.1

  -- the level of the column's own pair
  own_level : (c : Column) → site < sites_of tree → AreLevels tree kind c.pair c.levels → is_given x a c.pair ≡ true → Is (entry c site).level
  own_level c h e is =
      let p = and_parts (c.pair.x == x) (atoms_equal a c.pair.a) is in
      let d = get_or_default c.levels site Fresh Nothing (omega (arith, e.0)) in
      subst Is d
      (subst (λ (y : ℕ). IsLevel (placed 0 tree) site kind y a (get_or c.levels site Fresh)) (eqb-true c.pair.x x p.0)
      (subst (λ (b : Atom). IsLevel (placed 0 tree) site kind c.pair.x b (get_or c.levels site Fresh)) (sym (atoms_equal-true a c.pair.a p.1)) (e.1 site h)))

  some_level : (cs : List Column) → site < sites_of tree → Exact tree kind cs → listed cs ≡ true → Is (level_by_columns cs site x a)
  some_level [] h e f = cc
  some_level (c ∷ cs) h e f = go (some_level cs h e.1) (is_given x a c.pair) refl (listed cs) refl f
    where
      go : (listed cs ≡ true → Is (level_by_columns cs site x a)) → (t : Bool) → is_given x a c.pair ≡ t → (u : Bool) → listed cs ≡ u → (t || u) ≡ true → Is (higher (cond t (entry c site).level Nothing) (level_by_columns cs site x a))
      go more true i true j k =
          let l = own_level c h e.0 i in
          let m = more j in
          let same = levels_are_one kind x a (placed 0 tree) site (entry c site).level (level_by_columns cs site x a) l m in
          subst Is (sym (higher_self (entry c site).level) ∙ ap (higher (entry c site).level) same) l
      go more true i false j k =
          subst Is (sym (higher-nothing (entry c site).level) ∙ ap (higher (entry c site).level) (sym (none_level cs j))) (own_level c h e.0 i)
      go more false i true j k = subst Is (sym (nothing-higher (level_by_columns cs site x a))) (more j)
      go more false i false j k = cc

  column_level : (cs : List Column) → site < sites_of tree → Exact tree kind cs → pairs_of cs ≡ given_of tree → Is (level_by_columns cs site x a)
  column_level cs h e f = go (listed cs) refl
    where
      go : (t : Bool) → listed cs ≡ t → Is (level_by_columns cs site x a)
      go true g = some_level cs h e g
      go false g =
          subst Is (sym (none_level cs g)) (never_given kind (record { x = x; a = a }) tree site h (ap (list_any (is_given x a)) (sym f) ∙ g))

pub table_of_columns : (tree : Tree) (kind : Kind) (cs : List Column) (rows : List (List Known)) → Exact tree kind cs → pairs_of cs ≡ given_of tree → ((site x : ℕ) (a : Atom) → site < sites_of tree → level_at rows site x a ≡ level_by_columns cs site x a) → IsTable tree kind rows
table_of_columns tree kind cs rows e f g site x a h =
    subst (IsLevel (placed 0 tree) site kind x a) (sym (g site x a h)) (column_level tree kind site x a cs h e f)
