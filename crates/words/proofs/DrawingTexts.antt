-- The drawing that settings give.
use Rattle.std.proofs.Common.{◌≡◌, ◌∙◌, ℕ, List, sym, subst, codes, Option, Some, None, Result, Ok, Err}
use Rattle.std.specs.Prelude.{MatchResult}
use Rattle.words.specs.Reading.{IsPicks, IsSeed, ListsPicks}
use Rattle.words.specs.Meaning.{ListsNumbers, GivesDraws, GivesSeed}
use Rattle.words.specs.Numbers.{AreNumbers}
use Rattle.words.specs.Options.{value_of}
use Rattle.words.specs.Spelling.{Setting, WordText}
use Rattle.words.specs.declared.command.Drawing.{Drawing}
use Rattle.words.specs.declared.command.Drawing.TheVariants.{Seed, Picks}
use Rattle.words.specs.declared.command.WordsFault.{WordsFault}
use Rattle.words.specs.declared.command.WordsFault.TheVariants.{Refused}

abbrev pub Draws : List Setting → Result Drawing WordsFault → Type 0
Draws os r = MatchResult r (GivesDraws os) (λ e. e ≡ Refused → (d : Drawing) → GivesDraws os d → ⊥)

no_picks : (value : Option WordText) (list : List ℕ) → None ≡ value → ListsNumbers 4294967295 value list → ⊥
no_picks value list same h = subst (λ v. ListsNumbers 4294967295 v list → ⊥) same (λ x. x) h

pub draws_seed : (os : List Setting) (r : Result Drawing WordsFault) → None ≡ value_of (codes "picks") os
    → MatchResult r (IsSeed os) (λ e. e ≡ Refused → (n : ℕ) → GivesSeed os n → ⊥) → Draws os r
draws_seed os (Ok (Seed n)) none h = (sym none, h)
draws_seed os (Ok (Picks list)) none h = absurd h
draws_seed os (Err e) none h = λ is d s. go is d s
  where
    go : e ≡ Refused → (d : Drawing) → GivesDraws os d → ⊥
    go is (Seed n) s = h is n s.1
    go is (Picks list) s = no_picks (value_of (codes "picks") os) list none s.1

pub draws_picks : (os : List Setting) (text : WordText) (r : Result Drawing WordsFault) → Some text ≡ value_of (codes "picks") os
    → MatchResult r (IsPicks os text) (λ e. e ≡ Refused → (ns : List ℕ) → value_of (codes "seed") os ≡ None → AreNumbers 4294967295 text ns → ⊥) → Draws os r
draws_picks os text (Ok (Seed n)) some h = absurd h.1
draws_picks os text (Ok (Picks list)) some h = (h.0, subst (λ v. ListsNumbers 4294967295 v list) some h.1)
draws_picks os text (Err e) some h = λ is d s. go is d s
  where
    go : e ≡ Refused → (d : Drawing) → GivesDraws os d → ⊥
    go is (Seed n) s = let bad : Some text ≡ None = some ∙ s.0 in absurd cc
    go is (Picks list) s = h is list s.0 (subst (λ v. ListsNumbers 4294967295 v list) (sym some) s.1)

pub picks_alone : (os : List Setting) (text : WordText) (r : Result Drawing WordsFault) → None ≡ value_of (codes "seed") os
    → MatchResult r (ListsPicks text) (λ e. e ≡ Refused → (ns : List ℕ) → AreNumbers 4294967295 text ns → ⊥)
    → MatchResult r (IsPicks os text) (λ e. e ≡ Refused → (ns : List ℕ) → value_of (codes "seed") os ≡ None → AreNumbers 4294967295 text ns → ⊥)
picks_alone os text (Ok d) none h = (sym none, h)
picks_alone os text (Err e) none h = λ is ns _ a. h is ns a
