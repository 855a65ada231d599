-- Results that are all Ok.
use Rattle.std.proofs.Common.{List, [], ◌∷◌, map}
use Rattle.std.specs.Prelude.{IfOk, MatchResult}
use Rattle.std.specs.List.{AllZip}
use Rattle.std.specs.declared.result.Result.{Result}
use Rattle.std.specs.declared.result.Result.TheVariants.{Ok, Err}

-- what holds of each answer that is Ok holds of the values
pub ok_zip : {X Y : Type 0} (E : Type 0) (R : X → Y → Type 0) (xs : List X) (ys : List Y) → AllZip (λ (x : X) (r : Result Y E). IfOk r (R x)) xs (map Ok ys) → AllZip R xs ys
ok_zip E R [] [] h = h
ok_zip E R [] (y ∷ ys) h = absurd h
ok_zip E R (x ∷ xs) [] h = absurd h
ok_zip E R (x ∷ xs) (y ∷ ys) h = (h.0, ok_zip E R xs ys h.1)

pub if_matched : {Y E : Type 0} (r : Result Y E) (P Q : Y → Type 0) (N : E → Type 0) → ((y : Y) → P y → Q y) → MatchResult r P N → IfOk r Q
if_matched (Ok y) P Q N f h = f y h
if_matched (Err e) P Q N f h = tt
