-- No list of calls lacks its links.
use Rattle.std.proofs.Common.{ℕ, zero, suc, List, [], ◌∷◌, ◌++◌, Option, Some, None}
use Rattle.exec_graph.specs.declared.links.Link.{Link}
use Rattle.exec_graph.specs.Links.{AreLinks, NoneLacksReads, NoneLacksRaces}
use Rattle.exec_graph.proofs.LinkLemmas.{links_push, links_skip, links_none}

-- where no entry that is wanted lacks what its link tells
none_lacks : (n : ℕ) (Wanted : ℕ → Type 0) (Tells : ℕ → Option ℕ → Type 0) → ((k : ℕ) → Wanted k → ((o : Option ℕ) → Tells k o → ⊥) → ⊥) → ((links : List Link) → AreLinks n Wanted Tells links → ⊥) → ⊥
none_lacks zero Wanted Tells told none = none [] (links_none Wanted Tells)
none_lacks (suc n) Wanted Tells told none = none_lacks n Wanted Tells told more
  where
    more : (links : List Link) → AreLinks n Wanted Tells links → ⊥
    more links h = none links (links_skip n Wanted Tells links unwanted h)
      where
        unwanted : Wanted n → ⊥
        unwanted w = told n w (λ o t. none (links ++ record { entry = n; other = o } ∷ []) (links_push n Wanted Tells links o w t h))

pub none_lacks_reads : NoneLacksReads
none_lacks_reads calls n none = none_lacks n _ _ (λ k w lacks. lacks None (λ v f. lacks (Some v) f)) none

pub none_lacks_races : NoneLacksRaces
none_lacks_races calls n none = none_lacks n _ _ (λ k w lacks. lacks (Some w.0) w.1) none
