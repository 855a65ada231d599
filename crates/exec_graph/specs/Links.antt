-- Lists of links.
use Rattle.std.specs.Prelude.{◌≡◌, ℕ, ◌<◌, ◌==◌, true, List, [], ◌∷◌, Option, IsSome, MatchOption, ℤ, length}
use Rattle.std.specs.List.{AllByRecursion, list_any}
use Rattle.message_memory.specs.declared.history.Call.{Call}
use Rattle.message_memory.specs.History.{MemHistory}
use Rattle.exec_graph.specs.declared.links.Link.{Link}
use Rattle.exec_graph.specs.Entries.{event_at, read_by, IsFrom}
use Rattle.exec_graph.specs.Races.{IsRace}

-- the entries rise
abbrev pub LinksRise : List Link → Type 0
LinksRise [] = Unit {0}
LinksRise (a ∷ []) = Unit {0}
LinksRise (a ∷ b ∷ links) = (a.entry < b.entry) × LinksRise (b ∷ links)

-- one link for each of the first n entries that is wanted, by rising entry, and each tells what it is to tell
pub record AreLinks (n : ℕ) (Wanted : ℕ → Type 0) (Tells : ℕ → Option ℕ → Type 0) (links : List Link) : Type 0 where
  pub rising : LinksRise links
  pub each : AllByRecursion (λ link. (link.entry < n) × Wanted link.entry × Tells link.entry link.other) links
  pub all : (k : ℕ) → k < n → Wanted k → list_any (λ link. link.entry == k) links ≡ true

-- the entry that wrote what entry k read, or none where k read the initial message
abbrev pub TellsFrom : List Call → ℕ → Option ℕ → Type 0
TellsFrom calls k other = MatchOption other ((w : ℕ) → IsFrom calls k w → ⊥) (λ w. IsFrom calls k w)

-- the links of the reading entries
abbrev pub AreReads : List Call → ℕ → List Link → Type 0
AreReads calls n links = AreLinks n (λ k. IsSome (read_by (event_at calls k))) (TellsFrom calls) links

-- the race of entry k
abbrev pub TellsRace : List Call → ℕ → Option ℕ → Type 0
TellsRace calls k other = MatchOption other ⊥ (λ w. IsRace calls k w)

-- the links of the entries with a race
abbrev pub AreRaces : List Call → ℕ → List Link → Type 0
AreRaces calls n links = AreLinks n (λ k. (w : ℕ) × IsRace calls k w) (TellsRace calls) links

-- ---- a history has one list of each

abbrev pub ReadsAreOne : Type 0
ReadsAreOne = (na atomic : List ℤ) (threads : ℕ) (calls : List Call) (one other : List Link) → MemHistory na atomic threads calls → AreReads calls (length calls) one → AreReads calls (length calls) other → one ≡ other

abbrev pub RacesAreOne : Type 0
RacesAreOne = (calls : List Call) (one other : List Link) → AreRaces calls (length calls) one → AreRaces calls (length calls) other → one ≡ other

-- ---- and no list of calls lacks one: that none is its list contradicts itself

abbrev pub NoneLacksReads : Type 0
NoneLacksReads = (calls : List Call) (n : ℕ) → ((links : List Link) → AreReads calls n links → ⊥) → ⊥

abbrev pub NoneLacksRaces : Type 0
NoneLacksRaces = (calls : List Call) (n : ℕ) → ((links : List Link) → AreRaces calls n links → ⊥) → ⊥
