-- A program whose functions are replaced by others of their names and parameters.
use Rattle.std.proofs.Common.{◌≡◌, ℕ, zero, suc, ◌+◌, Bool, true, false, cond, ◌&&◌, nat_le, List, [], ◌∷◌, ◌++◌, length, map, refl, sym, ap, ◌∙◌, arith}
use Rattle.std.specs.Prelude.{Some, All, count_by, if◌then◌else◌}
use Rattle.std.specs.List.{list_all}
use Rattle.std.specs.Str.{bytes_eq}
use Rattle.std.proofs.lemmas.Bool.{and_parts, and_from}
use Rattle.std.proofs.lemmas.List.{length-map}
use Rattle.std.proofs.lemmas.List.Sums.{sum_by-cons}
use Rattle.il_syntax.specs.declared.program.Function.{Function}
use Rattle.il_syntax.specs.declared.program.Location.{Location}
use Rattle.il_syntax.specs.declared.program.Program.{Program}
use Rattle.il_syntax.specs.WellFormed.{Declared, names_of, params_of, declared_by, distinct, replaced, with_function, with_functions, namesakes, Fits, IsFunctionWellFormed, IsWellFormed}
use Rattle.il_syntax.specs.Checks.{is_declarable, function_fits, thread_fits, counts_fit, values_fit, globals_are_distinct, globals_fit}
use Rattle.il_syntax.specs.Laws.{FunctionsMayBeReplaced, FittingFunctionsMayBeReplaced}
use Rattle.il_syntax.proofs.Changed.{chosen_name}
use Rattle.il_syntax.proofs.EachRule.{function_fits-is_well_formed, well_formed-function_fits}
use Rattle.il_syntax.proofs.EachProgram.{globals-distinct, distinct-globals, program_fits-is_well_formed, well_formed-program_fits}

pub functions_fit : (p : Program) → IsWellFormed p → list_all (function_fits (declared_by p)) p.functions ≡ true
functions_fit p w =
    let functions = list_all (function_fits (declared_by p)) p.functions in
    let threads = list_all (thread_fits (params_of p)) p.threads in
    let after = and_parts (globals_fit p) (functions && threads) (well_formed-program_fits p w) in
    (and_parts functions threads after.1).0

module _ (p : Program) (gs : List Function) (names : map (λ (f : Function). f.name) gs ≡ map (λ (f : Function). f.name) p.functions) (params : map (λ (f : Function). f.params) gs ≡ map (λ (f : Function). f.params) p.functions) where
  same_count : length gs ≡ length p.functions
  same_count = sym (length-map gs (λ (f : Function). f.name)) ∙ ap length names ∙ length-map p.functions (λ (f : Function). f.name)

  same_names : names_of (with_functions p gs) ≡ names_of p
  same_names = ap (λ (ns : List (List ℕ)). map (λ (l : Location). l.name) p.na ++ (map (λ (l : Location). l.name) p.atomic ++ ns)) names

  pub same_declared : declared_by (with_functions p gs) ≡ declared_by p
  same_declared = λ i. record { names = same_names i; na = length p.na; atomic = length p.atomic; params = params i }

  same_counts : counts_fit (with_functions p gs) ≡ counts_fit p
  same_counts = ap (λ n. nat_le (length p.na) 16 && (nat_le (length p.atomic) 16 && (nat_le n 256 && (nat_le (length p.threads) 16 && nat_le 1 (length p.threads))))) same_count

  pub functions_replaced : IsWellFormed p → list_all (function_fits (declared_by p)) gs ≡ true → IsWellFormed (with_functions p gs)
  functions_replaced w fits =
      let q = with_functions p gs in
      let e = well_formed-program_fits p w in
      let threads = list_all (thread_fits (params_of p)) p.threads in
      let a = and_parts (globals_fit p) (list_all (function_fits (declared_by p)) p.functions && threads) e in
      let b = and_parts (list_all (function_fits (declared_by p)) p.functions) threads a.1 in
      let values = values_fit p.na && values_fit p.atomic in
      let g = and_parts (counts_fit p) (list_all is_declarable (names_of p) && (globals_are_distinct p && values)) a.0 in
      let h = and_parts (list_all is_declarable (names_of p)) (globals_are_distinct p && values) g.1 in
      let k = and_parts (globals_are_distinct p) values h.1 in
      let apart = distinct-globals q (ap distinct same_names ∙ globals-distinct p k.0) in
      program_fits-is_well_formed q
      (and_from (globals_fit q) (list_all (function_fits (declared_by q)) gs && list_all (thread_fits (params_of q)) p.threads)
      (and_from (counts_fit q) (list_all is_declarable (names_of q) && (globals_are_distinct q && values)) (same_counts ∙ g.0)
      (and_from (list_all is_declarable (names_of q)) (globals_are_distinct q && values) (ap (list_all is_declarable) same_names ∙ h.0)
      (and_from (globals_are_distinct q) values apart k.1)))
      (and_from (list_all (function_fits (declared_by q)) gs) (list_all (thread_fits (params_of q)) p.threads) (ap (λ (d : Declared). list_all (function_fits d) gs) same_declared ∙ fits)
      (ap (λ (ps : List ℕ). list_all (thread_fits ps) p.threads) params ∙ b.1)))

test_of_all : {X : Type 0} (P : X → Type 0) (test : X → Bool) → ((x : X) → P x → test x ≡ true) → (xs : List X) → All P xs → list_all test xs ≡ true
test_of_all P test h [] each = refl
test_of_all P test h (x ∷ xs) each = and_from (test x) (list_all test xs) (h x (each zero x (omega arith))) (test_of_all P test h xs (λ k d below. each (suc k) d (omega arith)))

pub functions_may_be_replaced : FunctionsMayBeReplaced
functions_may_be_replaced p gs w names params each =
    functions_replaced p gs names params w (test_of_all (IsFunctionWellFormed (declared_by p)) (function_fits (declared_by p)) (well_formed-function_fits (declared_by p)) gs each)

-- One function in the place of another of its name and parameters.
module _ (f g : Function) (name : g.name ≡ f.name) (params : g.params ≡ f.params) where
  same_test : (h : Function) → bytes_eq h.name g.name ≡ bytes_eq h.name f.name
  same_test h = ap (bytes_eq h.name) name

  by_test : (h : Function) → (if bytes_eq h.name f.name then g else h) ≡ replaced g h
  by_test h = ap (λ (b : Bool). if b then g else h) (sym (same_test h))

  chosen_params : (h : Function) (b : Bool) → (if b then g else h).params ≡ (if b then f else h).params
  chosen_params h true = params
  chosen_params h false = refl

  chosen_fits : (d : Declared) (h : Function) (b : Bool) → function_fits d g ≡ true → function_fits d (if b then f else h) ≡ true → function_fits d (if b then g else h) ≡ true
  chosen_fits d h true e k = e
  chosen_fits d h false e k = k

  replaced_params : (h : Function) → (replaced g h).params ≡ (replaced f h).params
  replaced_params h = ap (λ (k : Function). k.params) (sym (by_test h)) ∙ chosen_params h (bytes_eq h.name f.name)

  replaced_fits : (d : Declared) (h : Function) → function_fits d g ≡ true → function_fits d (replaced f h) ≡ true → function_fits d (replaced g h) ≡ true
  replaced_fits d h e k = ap (function_fits d) (sym (by_test h)) ∙ chosen_fits d h (bytes_eq h.name f.name) e k

  all_names : (fs : List Function) → map (λ (k : Function). k.name) (map (replaced g) fs) ≡ map (λ (k : Function). k.name) (map (replaced f) fs)
  all_names [] = refl
  all_names (h ∷ fs) = λ i. (chosen_name (Some g) h ∙ sym (chosen_name (Some f) h)) i ∷ all_names fs i

  all_params : (fs : List Function) → map (λ (k : Function). k.params) (map (replaced g) fs) ≡ map (λ (k : Function). k.params) (map (replaced f) fs)
  all_params [] = refl
  all_params (h ∷ fs) = λ i. replaced_params h i ∷ all_params fs i

  all_fit : (d : Declared) (fs : List Function) → function_fits d g ≡ true → list_all (function_fits d) (map (replaced f) fs) ≡ true → list_all (function_fits d) (map (replaced g) fs) ≡ true
  all_fit d [] e k = refl
  all_fit d (h ∷ fs) e k =
      let here = and_parts (function_fits d (replaced f h)) (list_all (function_fits d) (map (replaced f) fs)) k in
      and_from (function_fits d (replaced g h)) (list_all (function_fits d) (map (replaced g) fs)) (replaced_fits d h e here.0) (all_fit d fs e here.1)

pub fitting_functions_may_be_replaced : FittingFunctionsMayBeReplaced
fitting_functions_may_be_replaced p f g fits name params w =
    let q = with_function p f in
    let d = declared_by q in
    let gs = map (replaced g) p.functions in
    let fit = all_fit f g name params d p.functions (well_formed-function_fits d g w) (functions_fit q fits.1) in (
      ap (λ (text : List ℕ). namesakes p (record f { name = text })) name ∙ fits.0,
      functions_replaced q gs (all_names f g name params p.functions) (all_params f g name params p.functions) fits.1 fit,
    )

-- What fits may stand in the program that it fits.

fitting_is_there : (d : Declared) (f : Function) (hs : List Function) (n : ℕ) → count_by (λ g. bytes_eq g.name f.name) hs ≡ suc n → list_all (function_fits d) (map (replaced f) hs) ≡ true → function_fits d f ≡ true
fitting_is_there d f [] n e fit = absurd (omega (arith, e))
fitting_is_there d f (h ∷ hs) n e fit =
    let parts = and_parts (function_fits d (replaced f h)) (list_all (function_fits d) (map (replaced f) hs)) fit in
    go (bytes_eq h.name f.name) refl parts.0 (λ k. fitting_is_there d f hs n k parts.1)
  where
    counted : count_by (λ g. bytes_eq g.name f.name) (h ∷ hs) ≡ cond (bytes_eq h.name f.name) 1 0 + count_by (λ g. bytes_eq g.name f.name) hs
    counted = sum_by-cons (λ (g : Function). cond (bytes_eq g.name f.name) 1 0) h hs

    go : (b : Bool) → bytes_eq h.name f.name ≡ b → function_fits d (if b then f else h) ≡ true → (count_by (λ g. bytes_eq g.name f.name) hs ≡ suc n → function_fits d f ≡ true) → function_fits d f ≡ true
    go true t here later = here
    go false t here later =
        let all = ap (λ (b : Bool). cond b 1 0 + count_by (λ g. bytes_eq g.name f.name) hs) (sym t) ∙ sym counted ∙ e in
        later (omega (arith, all))

pub fitting_is_well_formed : (p : Program) (f : Function) → Fits p f → IsFunctionWellFormed (declared_by (with_function p f)) f
fitting_is_well_formed p f fits =
    let q = with_function p f in
    function_fits-is_well_formed (declared_by q) f (fitting_is_there (declared_by q) f p.functions 0 fits.0 (functions_fit q fits.1))
