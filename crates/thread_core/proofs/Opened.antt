-- Where the threads of a program begin.
use Rattle.std.proofs.Common.{◌≡◌, ℕ, ◌+◌, List, [], ◌∷◌, ◌++◌, map, take, Option, Some, None, slice_get, IsSomeAnd, refl, sym, ap, ◌∙◌}
use Rattle.std.proofs.lemmas.List.{take_more, map-append}
use Rattle.std.proofs.lemmas.Option.{slice_get_within, get_or_from_slice_get}
use Rattle.il_syntax.specs.declared.program.Program.{Program}
use Rattle.il_syntax.specs.declared.program.Start.{Start}
use Rattle.thread_core.specs.Frames.{start_of}
use Rattle.thread_core.specs.Steps.{Positions, stack_in}

pub some_from : {X : Type 0} (o : Option X) (P : X → Type 0) → IsSomeAnd o P → (x : X) × (o ≡ Some x) × P x
some_from None P h = absurd h
some_from (Some x) P h = (x, refl, h)

pub one_more : (p : Program) (locals : List Positions) (l : Positions) (i : ℕ) → map (stack_in p) locals ≡ map (start_of p) (take i p.threads) → IsSomeAnd (slice_get p.threads i) (λ s. stack_in p l ≡ start_of p s) → map (stack_in p) (locals ++ l ∷ []) ≡ map (start_of p) (take (i + 1) p.threads)
one_more p locals l i h q =
    let f = some_from (slice_get p.threads i) (λ s. stack_in p l ≡ start_of p s) q in
    let e : take (i + 1) p.threads ≡ take i p.threads ++ f.0 ∷ [] =
    take_more p.threads i f.0 (slice_get_within p.threads i f.0 f.1) ∙ ap (λ (s : Start). take i p.threads ++ s ∷ []) (get_or_from_slice_get p.threads i f.0 f.0 f.1) in
    map-append (stack_in p) locals (l ∷ []) ∙ (λ j. h j ++ f.2 j ∷ []) ∙ sym (map-append (start_of p) (take i p.threads) (f.0 ∷ [])) ∙ sym (ap (map (start_of p)) e)
