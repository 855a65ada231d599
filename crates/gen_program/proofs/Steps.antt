-- One draw more, and one function more.
use Rattle.std.proofs.Common.{◌≡◌, ℕ, suc, ◌+◌, ◌%◌, [], ◌∷◌, ◌++◌, ap, arith}
use Rattle.std.proofs.lemmas.List.FromFn.{map-range_with_len_more}
use Rattle.rand_pcg.specs.Lcg.{Lcg}
use Rattle.il_syntax.specs.declared.program.Start.{Start}
use Rattle.gen_program.specs.Generated.{numbered, names_of_letter, location_named, locations_of_letter, threads_of, one_draw, draws, function_of, functions_from}

pub draws-suc : (n m x : ℕ) (g : Lcg) → n ≡ suc m →
    draws n x g ≡ (let one = one_draw x g in let more = draws m x one.generator in record { statements = one.statements ++ more.statements; generator = more.generator })
unfolding draws
draws-suc n m x g e = ap (λ k. draws k x g) e

pub draws-zero : (n x : ℕ) (g : Lcg) → n ≡ 0 → draws n x g ≡ record { statements = []; generator = g }
unfolding draws
draws-zero n x g e = ap (λ k. draws k x g) e

pub functions-suc : (n m j : ℕ) (g : Lcg) → n ≡ suc m →
    functions_from n j g ≡ (let body = draws 64 (j % 4) g in function_of j body.statements ∷ functions_from m (j + 1) body.generator)
unfolding functions_from
functions-suc n m j g e = ap (λ k. functions_from k j g) e

pub functions-zero : (n j : ℕ) (g : Lcg) → n ≡ 0 → functions_from n j g ≡ []
unfolding functions_from
functions-zero n j g e = ap (λ k. functions_from k j g) e

-- one name, one location and one thread more

pub more_names : (letter n : ℕ) → names_of_letter letter (n + 1) ≡ names_of_letter letter n ++ numbered letter n ∷ []
more_names letter n = map-range_with_len_more (numbered letter) 0 n n (omega arith)

pub more_locations : (letter n : ℕ) → locations_of_letter letter (n + 1) ≡ locations_of_letter letter n ++ location_named (numbered letter n) ∷ []
more_locations letter n = map-range_with_len_more (λ i. location_named (numbered letter i)) 0 n n (omega arith)

pub more_threads : (n : ℕ) → threads_of (n + 1) ≡ threads_of n ++ (let thread : Start = record { function = n; args = [] } in thread) ∷ []
more_threads n = map-range_with_len_more (λ (t : ℕ). let thread : Start = record { function = t; args = [] } in thread) 0 n n (omega arith)
