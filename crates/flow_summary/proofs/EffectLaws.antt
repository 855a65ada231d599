-- Effects keep order, and rows that follow the walk of each pair are a table.
use Rattle.std.proofs.Common.{◌≡◌, ◌<◌, ◌≤◌, ℕ, zero, suc, List, [], ◌∷◌, get_or, refl, sym, ap, ◌∙◌, subst, arith}
use Rattle.il_syntax.specs.declared.statement.Atom.{Atom}
use Rattle.il_paths.specs.Tree.{Tree, sites_of}
use Rattle.il_paths.specs.Code.{placed}
use Rattle.path_meets.specs.Walks.{meet_of_turns, table}
use Rattle.path_meets.proofs.Callers.{exit_monotone, turned_monotone, table_least, exit_is_least, exit-placed, table-placed}
use Rattle.il_paths.specs.Meets.{IsMeetThrough}
use Rattle.flow_summary.specs.declared.effect.Effect.{Effect}
use Rattle.flow_facts.specs.declared.level.Kind.{Kind}
use Rattle.flow_facts.specs.declared.level.Level.{Level}
use Rattle.flow_facts.specs.declared.level.Level.TheVariants.{Nothing, Held, Fresh}
use Rattle.flow_facts.specs.declared.known.Known.{Known}
use Rattle.flow_facts.specs.Levels.{rank_of, level_change, level_step, IsLevel}
use Rattle.flow_facts.specs.Rows.{level_at, column, IsTable}
use Rattle.flow_facts.proofs.Callers.{step_monotone, rank_bounded}
use Rattle.flow_summary.specs.Effects.{at_level, through, levels_of, IsEffectOf}

pub through_monotone : (kind : Kind) (x : ℕ) (a : Atom) (t : Tree) (l m : Level) → rank_of l ≤ rank_of m → rank_of (through kind x a t l) ≤ rank_of (through kind x a t m)
through_monotone kind x a t l m h =
    let d = ap rank_of (exit-placed Level rank_of 2 (level_change kind x a) t 0 l) in
    let e = ap rank_of (exit-placed Level rank_of 2 (level_change kind x a) t 0 m) in
    let k = exit_monotone Level rank_of 2 (level_step kind x a) (step_monotone kind x a) (placed 0 t) l m h in
    omega arith

pub turns_monotone : (kind : Kind) (t : Tree) (x : ℕ) (a : Atom) (l m : Level) → rank_of l ≤ rank_of m → rank_of (meet_of_turns Level rank_of 2 (through kind x a t) l) ≤ rank_of (meet_of_turns Level rank_of 2 (through kind x a t) m)
turns_monotone kind t x a l m h = turned_monotone Level rank_of (through kind x a t) (through_monotone kind x a t) 2 l m h

get_or-map : (x : ℕ) (a : Atom) (rows : List (List Known)) (site : ℕ) → get_or (column x a rows) site Nothing ≡ level_at rows site x a
get_or-map x a [] site = refl
get_or-map x a (row ∷ rows) zero = refl
get_or-map x a (row ∷ rows) (suc site) = get_or-map x a rows site

pub columns_table : (t : Tree) (kind : Kind) (rows : List (List Known)) → ((x : ℕ) (a : Atom) → column x a rows ≡ levels_of kind x a t Nothing) → IsTable t kind rows
columns_table t kind rows same site x a h =
    subst (IsLevel (placed 0 t) site kind x a)
    (ap (λ (ls : List Level). get_or ls site Nothing) (table-placed Level rank_of 2 (level_change kind x a) t 0 Nothing ∙ sym (same x a)) ∙ get_or-map x a rows site)
    (table_least Level rank_of 2 (level_step kind x a) (step_monotone kind x a) rank_bounded t Nothing Nothing site h)

through_least : (kind : Kind) (x : ℕ) (a : Atom) (site : ℕ) (t : Tree) (l m : Level) → m ≡ through kind x a t l → IsMeetThrough rank_of (level_step kind x a) l (placed site t) m
through_least kind x a site t l m e =
    subst (IsMeetThrough rank_of (level_step kind x a) l (placed site t)) (exit-placed Level rank_of 2 (level_change kind x a) t site l ∙ sym e)
    (exit_is_least Level rank_of 2 (level_step kind x a) (step_monotone kind x a) rank_bounded (placed site t) l)

pub effect_is : (kind : Kind) (x : ℕ) (a : Atom) (site : ℕ) (t : Tree) (effect : Effect) → ((level : Level) → at_level effect level ≡ through kind x a t level) → IsEffectOf kind x a (placed site t) effect
effect_is kind x a site t effect f =
    record { nothing = through_least kind x a site t Nothing effect.nothing (f Nothing); held = through_least kind x a site t Held effect.held (f Held); fresh = through_least kind x a site t Fresh effect.fresh (f Fresh) }

-- the levels that the walk finds before each site
pub levels_least : (kind : Kind) (x : ℕ) (a : Atom) (t : Tree) (site : ℕ) → site < sites_of t → IsLevel (placed 0 t) site kind x a (get_or (table Level rank_of 2 (level_step kind x a) (placed 0 t) Nothing) site Nothing)
levels_least kind x a t site h = table_least Level rank_of 2 (level_step kind x a) (step_monotone kind x a) rank_bounded t Nothing Nothing site h
