-- The program of a number is well-formed.
use Rattle.std.proofs.Common.{◌≡◌, ◌≤◌, ◌%◌, ℕ, zero, suc, ◌+◌, min, true, false, not, ◌&&◌, ◌||◌, nat_le, nat_lt, List, [], ◌∷◌, ◌++◌, length, map, refl, sym, ap, ◌∙◌, subst, arith}
use Rattle.std.specs.List.{list_all}
use Rattle.std.proofs.lemmas.Bool.{and_from, le-leb, lt-ltb}
use Rattle.std.proofs.lemmas.List.{length-map}
use Rattle.std.proofs.lemmas.List.FromFn.{length-map-range_with_len}
use Rattle.std.proofs.lemmas.List.Folds.{list_any-append}
use Rattle.std.specs.Str.{bytes_eq}
use Rattle.rand_pcg.specs.Lcg.{Lcg}
use Rattle.il_syntax.specs.declared.program.Location.{Location}
use Rattle.il_syntax.specs.declared.program.Function.{Function}
use Rattle.il_syntax.specs.declared.program.Start.{Start}
use Rattle.il_syntax.specs.declared.statement.Stmt.{Stmt}
use Rattle.il_syntax.specs.Name.{is_among}
use Rattle.il_syntax.specs.Statements.{heads_of_all, site_count, depth_of_all}
use Rattle.il_syntax.specs.WellFormed.{Declared, declared_by, names_of, params_of, has_params, distinct, IsWellFormed}
use Rattle.il_syntax.specs.Checks.{is_declarable, is_unused_name, head_fits, registers_fit, body_fits, function_fits, thread_fits, counts_fit, values_fit, globals_are_distinct, globals_fit}
use Rattle.il_syntax.proofs.Callers.{program_fits-is_well_formed, declarable_globals}
use Rattle.gen_program.specs.Generated.{numbered, names_of_letter, location_named, locations_of_letter, function_of, functions_from, draws, generator_of, generated}
use Rattle.gen_program.proofs.Steps.{functions-suc, functions-zero}
use Rattle.gen_program.proofs.Numbered.{declarable, AreNumbered, all_declarable, all_distinct, none_among_names, made_numbered, all_made, all_apart}
use Rattle.gen_program.proofs.Fits.{Fit, draws_fit}

-- functions, from one on

module _ (d : Declared) (na : d.na ≡ 4) (atomic : d.atomic ≡ 2) (unused : (i : ℕ) → is_among d.names (numbered 114 i) ≡ false) where
  registers : registers_fit d.names (names_of_letter 114 5) ≡ true
  registers =
      and_from (list_all (is_unused_name d.names) (names_of_letter 114 5)) (distinct (names_of_letter 114 5))
      (all_made (numbered 114) (is_unused_name d.names) 0 5 5 (omega arith) (λ i l. and_from (is_declarable (numbered 114 i)) (not (is_among d.names (numbered 114 i))) (declarable 114 i refl (omega arith)) (ap not (unused i))))
      (all_distinct (λ (n : List ℕ). n) 114 0 (names_of_letter 114 5) (omega arith) (made_numbered (λ (n : List ℕ). n) 114 (numbered 114) (λ i. refl) 0 5))

  function : (j : ℕ) (body : List Stmt) → Fit d.params 256 body → function_fits d (function_of j body) ≡ true
  function j body f =
      let few_statements = f.few in
      let shallow_blocks = f.shallow in
      and_from (registers_fit d.names (names_of_letter 114 5)) (body_fits d (function_of j body)) registers
      (and_from (nat_le (site_count body) 4096) (nat_le (depth_of_all body) 32 && (list_all (head_fits 5 d.na d.atomic d.params) (heads_of_all body) && true)) (le-leb (site_count body) 4096 (omega arith))
      (and_from (nat_le (depth_of_all body) 32) (list_all (head_fits 5 d.na d.atomic d.params) (heads_of_all body) && true) (le-leb (depth_of_all body) 32 (omega arith))
      (and_from (list_all (head_fits 5 d.na d.atomic d.params) (heads_of_all body)) true ((λ i. list_all (head_fits 5 (na i) (atomic i) d.params) (heads_of_all body)) ∙ f.each) refl)))

  functions : (n j : ℕ) (g : Lcg) → list_all (function_fits d) (functions_from n j g) ≡ true
  functions zero j g = ap (list_all (function_fits d)) (functions-zero 0 j g refl)
  functions (suc n) j g =
      let body = draws 64 (j % 4) g in
      ap (list_all (function_fits d)) (functions-suc (suc n) n j g refl) ∙
      and_from (function_fits d (function_of j body.statements)) (list_all (function_fits d) (functions_from n (j + 1) body.generator))
      (function j body.statements (draws_fit d.params 64 (j % 4) g (omega arith))) (functions n (j + 1) body.generator)

numbered_functions : (n j : ℕ) (g : Lcg) → AreNumbered (λ (f : Function). f.name) 102 j (functions_from n j g)
numbered_functions zero j g = subst (AreNumbered (λ (f : Function). f.name) 102 j) (sym (functions-zero 0 j g refl)) tt
numbered_functions (suc n) j g =
    let body = draws 64 (j % 4) g in
    subst (AreNumbered (λ (f : Function). f.name) 102 j) (sym (functions-suc (suc n) n j g refl)) (refl, numbered_functions n (j + 1) body.generator)

count_functions : (n j : ℕ) (g : Lcg) → length (functions_from n j g) ≡ n
count_functions zero j g = ap length (functions-zero 0 j g refl)
count_functions (suc n) j g =
    let body = draws 64 (j % 4) g in
    let more = count_functions n (j + 1) body.generator in
    ap length (functions-suc (suc n) n j g refl) ∙ (let e : length (function_of j body.statements ∷ functions_from n (j + 1) body.generator) ≡ suc n = omega arith in e)

-- no function has a parameter
no_params : (n j : ℕ) (g : Lcg) (t : ℕ) → has_params (map (λ (f : Function). f.params) (functions_from n j g)) t 0 ≡ true
no_params zero j g t = ap (λ (fs : List Function). has_params (map (λ (f : Function). f.params) fs) t 0) (functions-zero 0 j g refl)
no_params (suc n) j g t =
    let body = draws 64 (j % 4) g in
    ap (λ (fs : List Function). has_params (map (λ (f : Function). f.params) fs) t 0) (functions-suc (suc n) n j g refl) ∙
    first (map (λ (f : Function). f.params) (functions_from n (j + 1) body.generator)) (no_params n (j + 1) body.generator) t
  where
    first : (params : List ℕ) → ((t : ℕ) → has_params params t 0 ≡ true) → (t : ℕ) → has_params (0 ∷ params) t 0 ≡ true
    first params more zero = refl
    first params more (suc t) = more t

pub generated_is_well_formed : (number count : ℕ) → 1 ≤ count → count ≤ 256 → IsWellFormed (generated number count)
generated_is_well_formed number count some few =
    let p = generated number count in
    let fs = functions_from count 0 (generator_of number) in
    let xs = locations_of_letter 120 4 in
    let ys = locations_of_letter 97 2 in
    let many = count_functions count 0 (generator_of number) in
    let threads = length-map-range_with_len (λ (t : ℕ). let thread : Start = record { function = t; args = [] } in thread) 0 (min 4 count) in
    let numbered_fs = numbered_functions count 0 (generator_of number) in
    let numbered_xs = made_numbered (λ (l : Location). l.name) 120 (λ i. location_named (numbered 120 i)) (λ i. refl) 0 4 in
    let numbered_ys = made_numbered (λ (l : Location). l.name) 97 (λ i. location_named (numbered 97 i)) (λ i. refl) 0 2 in
    let counts : counts_fit p ≡ true =
    and_from (nat_le (length fs) 256) (nat_le (length p.threads) 16 && nat_le 1 (length p.threads)) (le-leb (length fs) 256 (omega (arith, many)))
    (and_from (nat_le (length p.threads) 16) (nat_le 1 (length p.threads)) (le-leb (length p.threads) 16 (omega (arith, threads))) (le-leb 1 (length p.threads) (omega (arith, threads)))) in
    let declarable_names : list_all is_declarable (names_of p) ≡ true =
    declarable_globals p ∙
    and_from (list_all (λ (l : Location). is_declarable l.name) xs) (list_all (λ (l : Location). is_declarable l.name) ys && list_all (λ (f : Function). is_declarable f.name) fs)
    (all_declarable (λ (l : Location). l.name) 120 0 xs refl (omega arith) numbered_xs)
    (and_from (list_all (λ (l : Location). is_declarable l.name) ys) (list_all (λ (f : Function). is_declarable f.name) fs)
    (all_declarable (λ (l : Location). l.name) 97 0 ys refl (omega arith) numbered_ys)
    (all_declarable (λ (f : Function). f.name) 102 0 fs refl (omega (arith, many)) numbered_fs)) in
    let apart : globals_are_distinct p ≡ true =
    and_from _ _
    (and_from _ _ (all_distinct (λ (l : Location). l.name) 120 0 xs (omega arith) numbered_xs)
    (and_from _ _ (all_distinct (λ (l : Location). l.name) 97 0 ys (omega arith) numbered_ys) (all_distinct (λ (f : Function). f.name) 102 0 fs (omega (arith, many)) numbered_fs)))
    (and_from _ _ (all_apart (λ (l : Location). l.name) 97 120 0 0 ys xs refl numbered_ys numbered_xs)
    (and_from _ _ (all_apart (λ (f : Function). f.name) 102 120 0 0 fs xs refl numbered_fs numbered_xs) (all_apart (λ (f : Function). f.name) 102 97 0 0 fs ys refl numbered_fs numbered_ys))) in
    let unused : (i : ℕ) → is_among (names_of p) (numbered 114 i) ≡ false =
    λ i.
    list_any-append (λ name. bytes_eq (numbered 114 i) name) (map (λ (l : Location). l.name) xs) (map (λ (l : Location). l.name) ys ++ map (λ (f : Function). f.name) fs) ∙
    (λ j. none_among_names (λ (l : Location). l.name) 120 114 i 0 xs refl numbered_xs j || is_among (map (λ (l : Location). l.name) ys ++ map (λ (f : Function). f.name) fs) (numbered 114 i)) ∙
    list_any-append (λ name. bytes_eq (numbered 114 i) name) (map (λ (l : Location). l.name) ys) (map (λ (f : Function). f.name) fs) ∙
    (λ j. none_among_names (λ (l : Location). l.name) 97 114 i 0 ys refl numbered_ys j || none_among_names (λ (f : Function). f.name) 102 114 i 0 fs refl numbered_fs j) in
    let params = length-map fs (λ (f : Function). f.params) in
    let threads_fit : list_all (thread_fits (params_of p)) p.threads ≡ true =
    all_made (λ (t : ℕ). let thread : Start = record { function = t; args = [] } in thread) (thread_fits (params_of p)) 0 (min 4 count) (min 4 count) (omega arith)
    (λ t l. and_from (nat_lt t (length (params_of p)) && true) (has_params (params_of p) t 0) (ap (λ b. b && true) (lt-ltb t (length (params_of p)) (omega (arith, params, many)))) (no_params count 0 (generator_of number) t)) in
    program_fits-is_well_formed p
    (and_from (globals_fit p) (list_all (function_fits (declared_by p)) fs && list_all (thread_fits (params_of p)) p.threads)
    (and_from (counts_fit p) (list_all is_declarable (names_of p) && (globals_are_distinct p && (values_fit xs && values_fit ys))) counts
    (and_from (list_all is_declarable (names_of p)) (globals_are_distinct p && (values_fit xs && values_fit ys)) declarable_names (and_from (globals_are_distinct p) (values_fit xs && values_fit ys) apart refl)))
    (and_from (list_all (function_fits (declared_by p)) fs) (list_all (thread_fits (params_of p)) p.threads) (functions (declared_by p) refl refl unused count 0 (generator_of number)) threads_fit))
