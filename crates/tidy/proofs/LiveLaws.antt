-- The least of what the paths from a site say of a register is whether it is live there.
use Rattle.std.proofs.Common.{◌≡◌, ◌≤◌, ℕ, Bool, true, false, not, ◌&&◌, ◌||◌, eqb, List, [], ◌∷◌, get_or, Option, Some, None, refl, sym, ap, ◌∙◌, subst, ⊎_elim, arith}
use Rattle.std.specs.Option.{option_map_or}
use Rattle.std.proofs.lemmas.Bool.{or_cases, and_parts, or_left, or_right, eq-eqb, both_ways, not_from_false, and_from, ne_eqb, not-true}
use Rattle.std.proofs.lemmas.Option.{none-some, same_Some}
use Rattle.il_syntax.specs.declared.statement.Atom.{Atom}
use Rattle.il_syntax.specs.declared.statement.Atom.TheVariants.{Reg}
use Rattle.il_syntax.specs.declared.program.Function.{Function}
use Rattle.il_paths.specs.Heads.{gives}
use Rattle.il_paths.specs.Tree.{tree_of}
use Rattle.il_paths.specs.Code.{Visit, placed}
use Rattle.il_paths.specs.Meets.{fold_backward, IsMeetAfter}
use Rattle.path_meets.specs.Chain.{may_rank}
use Rattle.path_meets.specs.Walks.{meet}
use Rattle.location_sets.specs.Sets.{has}
use Rattle.backward_sets.specs.Meets.{KeepsOrder, AreMeetsAfter}
use Rattle.tidy.specs.Atoms.{reads_register}
use Rattle.tidy.specs.Live.{IsWanted, is_result, is_read, is_kept, IsLive, live_change, AreLiveSets}
use Rattle.il_paths.specs.Atoms.{atoms_equal}
use Rattle.il_paths.proofs.Callers.{atoms_equal-true, atoms_equal-refl}

pub meet-or : (p q : Bool) → meet Bool may_rank p q ≡ (p || q)
meet-or true true = refl
meet-or true false = refl
meet-or false true = refl
meet-or false false = refl

bounded : (a : Bool) → may_rank a ≤ 1
bounded true = omega arith
bounded false = omega arith

-- yes goes before no
steady_or : (p q a b : Bool) → may_rank a ≤ may_rank b → may_rank (p || (q && a)) ≤ may_rank (p || (q && b))
steady_or true q a b h = omega arith
steady_or false true a b h = h
steady_or false false a b h = omega arith

pub ordered : KeepsOrder may_rank live_change
ordered = record { bounded = bounded; monotone = λ r v a b h. steady_or (reads_register r v.head) (not (option_map_or (λ k. eqb k r) (gives v.head) false)) a b h }

gives_not : (o : Option ℕ) (r : ℕ) → option_map_or (λ k. eqb k r) o false ≡ false → o ≡ Some r → ⊥
gives_not None r h e = none-some r e
gives_not (Some k) r h e = both_ways (eqb k r) h (eq-eqb k r (same_Some k r e))

not_gives : (o : Option ℕ) (r : ℕ) → (o ≡ Some r → ⊥) → option_map_or (λ k. eqb k r) o false ≡ false
not_gives None r h = refl
not_gives (Some k) r h = ne_eqb k r (λ e. h (ap Some e))

abbrev step : ℕ → Visit → Bool → Bool
step r v later = live_change r v.head later

-- a path that says yes wants the register
pub says_wanted : (r : ℕ) (result : Atom) (end : Bool) → (end ≡ true → result ≡ Reg r) → (q : List Visit) → fold_backward (step r) q end ≡ true → IsWanted r result q
says_wanted r result end h [] e = is_result (h e)
says_wanted r result end h (v ∷ q) e =
    ⊎_elim (λ (p : reads_register r v.head ≡ true). is_read p)
    (λ (p : (not (option_map_or (λ k. eqb k r) (gives v.head) false) && fold_backward (step r) q end) ≡ true).
    let parts = and_parts _ _ p in
    is_kept (gives_not (gives v.head) r (not-true _ parts.0)) (says_wanted r result end h q parts.1))
    (or_cases _ _ e)

-- and one that wants it says yes
pub wanted_says : (r : ℕ) (result : Atom) (end : Bool) → (result ≡ Reg r → end ≡ true) → (q : List Visit) → IsWanted r result q → fold_backward (step r) q end ≡ true
wanted_says r result end h [] (is_result e) = h e
wanted_says r result end h (v ∷ q) (is_read e) = or_left _ _ e
wanted_says r result end h (v ∷ q) (is_kept n w) =
    or_right (reads_register r v.head) _ (and_from _ _ (not_from_false _ (not_gives (gives v.head) r n)) (wanted_says r result end h q w))

-- so where the end has the result, the sets have what is live
pub meets_live : (f : Function) (end : List ℕ) (sets : List (List ℕ)) → ((r : ℕ) → has r end ≡ atoms_equal f.result (Reg r)) → AreMeetsAfter may_rank live_change (tree_of f.body) end sets → AreLiveSets f sets
meets_live f end sets at_end meets site r within = (live, shown)
  where
    there : IsMeetAfter may_rank (step r) (has r end) (placed 0 (tree_of f.body)) site (has r (get_or sets site []))
    there = meets site r within

    live : has r (get_or sets site []) ≡ true → IsLive f site r
    live e = (there.reached.0, there.reached.1, says_wanted r f.result (has r end) (λ k. atoms_equal-true f.result (Reg r) (sym (at_end r) ∙ k)) there.reached.0 (there.reached.2 ∙ e))

    low : (b : Bool) → may_rank b ≤ 0 → b ≡ true
    low true h = refl
    low false h = absurd (omega arith)

    shown : IsLive f site r → has r (get_or sets site []) ≡ true
    shown l =
        low (has r (get_or sets site []))
        (subst (λ (b : Bool). may_rank (has r (get_or sets site [])) ≤ may_rank b)
        (wanted_says r f.result (has r end) (λ e. at_end r ∙ ap (λ (a : Atom). atoms_equal a (Reg r)) e ∙ atoms_equal-refl (Reg r)) l.0 l.2) (there.below l.0 l.1))
