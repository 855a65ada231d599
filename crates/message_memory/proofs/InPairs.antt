-- What relates two memories: one test on both sides, lists place by place, and what an option holds.
use Rattle.std.proofs.Common.{◌≡◌, Bool, true, false, cond, List, [], ◌∷◌, Option, Some, None, sym}
use Rattle.std.proofs.lemmas.Bool.{false≢true}
use Rattle.std.specs.List.{AllZip}
use Rattle.std.specs.Option.{unwrap_or, IsSome, IsSomeAnd}

-- one test on both sides
pub cond_related : {A B : Type 0} (R : A → B → Type 0) (b c : Bool) (x x' : A) (y y' : B) → b ≡ c → R x y → R x' y' → R (cond b x x') (cond c y y')
cond_related R true true x x' y y' e p q = p
cond_related R true false x x' y y' e p q = absurd (false≢true (sym e))
cond_related R false true x x' y y' e p q = absurd (false≢true e)
cond_related R false false x x' y y' e p q = q

pub zip_more : {A B : Type 0} (R S : A → B → Type 0) → ((a : A) (b : B) → R a b → S a b) → (xs : List A) (ys : List B) → AllZip R xs ys → AllZip S xs ys
zip_more R S f [] [] z = tt
zip_more R S f [] (y ∷ ys) z = absurd z
zip_more R S f (x ∷ xs) [] z = absurd z
zip_more R S f (x ∷ xs) (y ∷ ys) z = (f x y z.0, zip_more R S f xs ys z.1)

pub some_and : {X : Type 0} (o : Option X) (P : X → Type 0) (d : X) → IsSome o → P (unwrap_or o d) → IsSomeAnd o P
some_and None P d s p = absurd (false≢true s)
some_and (Some x) P d s p = p

pub and_some : {X : Type 0} (o : Option X) (P : X → Type 0) (d : X) → IsSomeAnd o P → P (unwrap_or o d)
and_some None P d s = absurd s
and_some (Some x) P d s = s
