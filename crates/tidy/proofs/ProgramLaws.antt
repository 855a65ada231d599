-- Tidied programs are accepted, and well-formed.
use Rattle.std.proofs.Common.{◌≡◌, ℕ, zero, suc, ◌+◌, ◌<◌, ◌≤◌, true, List, [], ◌∷◌, ◌++◌, length, map, get_or, drop, drop-cons, add-one, refl, sym, ap, ◌∙◌, subst, append_assoc, arith}
use Rattle.std.specs.List.{AllZip, list_all}
use Rattle.std.proofs.lemmas.Bool.{and_parts, and_from}
use Rattle.std.proofs.lemmas.List.{drop_all, append-nil}
use Rattle.il_syntax.specs.declared.program.Function.{Function}
use Rattle.il_syntax.specs.declared.program.Program.{Program}
use Rattle.il_syntax.specs.Statements.{site_count}
use Rattle.il_syntax.specs.WellFormed.{Declared, declared_by, with_functions, IsFunctionWellFormed, IsWellFormed}
use Rattle.il_syntax.specs.Checks.{function_fits}
use Rattle.il_syntax.proofs.Callers.{function_fits-is_well_formed, well_formed-function_fits, functions_fit, functions_replaced, function_small}
use Rattle.tidy.specs.Tidied.{IsTidied}
use Rattle.tidy.specs.Accepts.{TidyAccepts}
use Rattle.tidy.specs.Programs.{IsTidiedProgram, TidiedProgramsAreAccepted, TidiedProgramsFit}
use Rattle.tidy.proofs.Acceptance.{tidied_is_accepted}
use Rattle.tidy.proofs.Fits.{tidied_fits}

all_accepted : (fs gs : List Function) → AllZip IsTidied fs gs → AllZip TidyAccepts fs gs
all_accepted [] [] z = tt
all_accepted [] (g ∷ gs) z = absurd z
all_accepted (f ∷ fs) [] z = absurd z
all_accepted (f ∷ fs) (g ∷ gs) z = (tidied_is_accepted f g z.0, all_accepted fs gs z.1)

pub programs_accepted : TidiedProgramsAreAccepted
programs_accepted p q t = all_accepted p.functions q.functions t.functions

record AllFit (d : Declared) (fs gs : List Function) : Type 0 where
  names : map (λ (f : Function). f.name) gs ≡ map (λ (f : Function). f.name) fs
  params : map (λ (f : Function). f.params) gs ≡ map (λ (f : Function). f.params) fs
  fit : list_all (function_fits d) gs ≡ true

all_fit : (d : Declared) (fs gs : List Function) → list_all (function_fits d) fs ≡ true → AllZip IsTidied fs gs → AllFit d fs gs
all_fit d [] [] w z = record { names = refl; params = refl; fit = refl }
all_fit d [] (g ∷ gs) w z = absurd z
all_fit d (f ∷ fs) [] w z = absurd z
all_fit d (f ∷ fs) (g ∷ gs) w z =
    let p = and_parts (function_fits d f) (list_all (function_fits d) fs) w in
    let a = tidied_is_accepted f g z.0 in
    let more = all_fit d fs gs p.1 z.1 in
    record {
      names = λ i. a.name i ∷ more.names i;
      params = λ i. a.params i ∷ more.params i;
      fit = and_from (function_fits d g) (list_all (function_fits d) gs) (well_formed-function_fits d g (tidied_fits d f g (function_fits-is_well_formed d f p.0) z.0)) more.fit;
    }

pub programs_fit : TidiedProgramsFit
programs_fit p q w t =
    let s = all_fit (declared_by p) p.functions q.functions (functions_fit p w) t.functions in
    let same : q ≡ record p { functions = q.functions } = λ i. record { na = t.na i; atomic = t.atomic i; functions = q.functions; threads = t.threads i } in
    subst IsWellFormed (sym same) (functions_replaced p q.functions s.names s.params w s.fit)

-- the program with other functions, which are tidied
pub tidied_with : (p q : Program) (gs : List Function) → q ≡ with_functions p gs → AllZip IsTidied p.functions gs → IsTidiedProgram p q
tidied_with p q gs e z =
    record { na = ap (λ (k : Program). k.na) e; atomic = ap (λ (k : Program). k.atomic) e; threads = ap (λ (k : Program). k.threads) e; functions = subst (AllZip IsTidied p.functions) (sym (ap (λ (k : Program). k.functions) e)) z }

-- ---- for the loop over the functions

fit_at : (d : Declared) (fs : List Function) (i : ℕ) (f : Function) → list_all (function_fits d) fs ≡ true → i < length fs → f ≡ get_or fs i f → function_fits d f ≡ true
fit_at d [] i f e l is = absurd (omega arith)
fit_at d (g ∷ fs) zero f e l is = ap (function_fits d) is ∙ (and_parts (function_fits d g) (list_all (function_fits d) fs) e).0
fit_at d (g ∷ fs) (suc i) f e l is = fit_at d fs i f (and_parts (function_fits d g) (list_all (function_fits d) fs) e).1 (omega arith) is

pub small_at : (p : Program) (i : ℕ) (f : Function) → IsWellFormed p → i < length p.functions → f ≡ get_or p.functions i f → IsFunctionWellFormed (declared_by p) f
small_at p i f w l is = function_fits-is_well_formed (declared_by p) f (fit_at (declared_by p) p.functions i f (functions_fit p w) l is)

-- what the functions still to do give is put to the end
abbrev pub Extends : List Function → List Function → List Function → Type 0
Extends fs left new = (rest : List Function) → AllZip IsTidied left rest → AllZip IsTidied fs (new ++ rest)

pub one_further : (fs : List Function) (i : ℕ) (f g : Function) (new : List Function) → i < length fs → f ≡ get_or fs i f → IsTidied f g → Extends fs (drop i fs) new → Extends fs (drop (i + 1) fs) (new ++ g ∷ [])
one_further fs i f g new l is t h rest z =
    subst (AllZip IsTidied fs) (sym (append_assoc new (g ∷ []) rest))
    (h (g ∷ rest) (subst (λ (xs : List Function). AllZip IsTidied xs (g ∷ rest)) (sym (at fs i l is)) (t, z)))
  where
    at : (xs : List Function) (j : ℕ) → j < length xs → f ≡ get_or xs j f → drop j xs ≡ f ∷ drop (j + 1) xs
    at xs j k e = rw (add-one, drop-cons xs j f) (ap (λ (x : Function). x ∷ drop (suc j) xs) (sym e))

pub small_in : (p : Program) (items : List Function) (i : ℕ) (f : Function) → IsWellFormed p → items ≡ p.functions → i < length items → f ≡ get_or items i f → IsFunctionWellFormed (declared_by p) f
small_in p items i f w e l is = small_at p i f w (subst (λ (fs : List Function). i < length fs) e l) (is ∙ ap (λ (fs : List Function). get_or fs i f) e)

pub statements_few : (d : Declared) (f : Function) → IsFunctionWellFormed d f → site_count f.body.statements ≤ 4096
statements_few d f w = (function_small d f w).statements

pub registers_few : (d : Declared) (f : Function) → IsFunctionWellFormed d f → length f.registers ≤ 64
registers_few d f w = (function_small d f w).registers

-- at the end of the loop
pub all_done : (fs items : List Function) (i : ℕ) (new : List Function) → items ≡ fs → length items ≤ i → Extends items (drop i items) new → AllZip IsTidied fs new
all_done fs items i new e l h =
    subst (λ (xs : List Function). AllZip IsTidied xs new) e
    (subst (AllZip IsTidied items) (append-nil new) (h [] (subst (λ (xs : List Function). AllZip IsTidied xs []) (sym (drop_all i items l)) tt)))
