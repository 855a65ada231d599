-- The links of a history are determined, and so are those of a run.
use Rattle.std.proofs.Common.{◌≡◌, ℕ, ℤ, ◌<◌, ◌≤◌, Bool, true, false, ◌||◌, eqb, List, [], ◌∷◌, length, Option, Some, None, inl, inr, refl, sym, ap, subst, ◌∙◌, arith}
use Rattle.std.proofs.lemmas.Bool.{cases_eq, cases_lt, cases_order, eq-eqb, ne_eqb, false≢true}
use Rattle.std.proofs.lemmas.Option.{none-some, same_Some}
use Rattle.std.specs.List.{AllByRecursion, list_any}
use Rattle.values_undef.specs.declared.journal.Entry.{Entry}
use Rattle.il_syntax.specs.declared.program.Program.{Program}
use Rattle.thread_core.specs.Programs.{IsProperProgram}
use Rattle.view_machine.specs.State.{declared_values}
use Rattle.view_machine.specs.Runs.{IsJournalRun}
use Rattle.message_memory.specs.declared.history.Call.{Call}
use Rattle.message_memory.specs.History.{MemHistory}
use Rattle.exec_graph.specs.declared.links.Link.{Link}
use Rattle.std.proofs.lemmas.List.{get_or_past}
use Rattle.exec_graph.specs.Entries.{no_call, Stamp, event_at, read_by, written_by, IsFrom}
use Rattle.exec_graph.specs.Known.{Interval}
use Rattle.exec_graph.specs.Races.{IsWriteOf, IsRace}
use Rattle.exec_graph.specs.Links.{LinksRise, AreLinks, TellsFrom, TellsRace, AreReads, AreRaces, ReadsAreOne, RacesAreOne}
use Rattle.exec_graph.specs.Calls.{calls_in}
use Rattle.exec_graph.proofs.Cases.{interval_of}
use Rattle.exec_graph.proofs.Histories.{declared_in, known_at}
use Rattle.exec_graph.proofs.Theorem.{apart, legal_at}
use Rattle.exec_graph.proofs.RunFacts.{length-calls}
use Rattle.exec_graph.proofs.RunCalls.{runs_are_histories}

-- ---- rising lists with the same entries

abbrev has : ℕ → List Link → Bool
has k links = list_any (λ (link : Link). eqb link.entry k) links

-- a rising list has nothing before its first entry
first_least : (k : ℕ) (a : Link) (links : List Link) → LinksRise (a ∷ links) → has k (a ∷ links) ≡ true → a.entry ≤ k
first_least k a [] r h = elim (cases_eq a.entry k) as (λ _. a.entry ≤ k) [
  | inl e ↦ omega (arith, e)
  | inr ne ↦ absurd (false≢true (sym (ap (λ (b : Bool). b || false) (ne_eqb a.entry k ne)) ∙ h))
]
first_least k a (b ∷ links) r h = elim (cases_eq a.entry k) as (λ _. a.entry ≤ k) [
  | inl e ↦ omega (arith, e)
  | inr ne ↦ (let q : has k (b ∷ links) ≡ true = sym (ap (λ (x : Bool). x || has k (b ∷ links)) (ne_eqb a.entry k ne)) ∙ h in
      let l = r.0 in let m = first_least k b links r.1 q in omega (arith, l, m))
]

tail_rising : (a : Link) (links : List Link) → LinksRise (a ∷ links) → LinksRise links
tail_rising a [] r = tt
tail_rising a (b ∷ links) r = r.1

-- what stands in the rest comes later
rest_later : (k : ℕ) (a : Link) (links : List Link) → LinksRise (a ∷ links) → has k links ≡ true → a.entry < k
rest_later k a [] r h = absurd (false≢true h)
rest_later k a (b ∷ links) r h = let l = r.0 in let m = first_least k b links r.1 h in omega (arith, l, m)

has_rest : (k : ℕ) (a : Link) (links : List Link) → a.entry < k → has k (a ∷ links) ≡ true → has k links ≡ true
has_rest k a links l h = sym (ap (λ (b : Bool). b || has k links) (ne_eqb a.entry k (λ e. omega (arith, e, l)))) ∙ h

has_more : (k : ℕ) (a : Link) (links : List Link) → has k links ≡ true → has k (a ∷ links) ≡ true
has_more k a links h = choose (eqb a.entry k)
  where
    choose : (b : Bool) → (b || has k links) ≡ true
    choose true = refl
    choose false = h

has_first : (a : Link) (links : List Link) → has a.entry (a ∷ links) ≡ true
has_first a links = ap (λ (b : Bool). b || has a.entry links) (eq-eqb a.entry a.entry refl)

one_list : (Tells : ℕ → Option ℕ → Type 0) (ls ms : List Link) → ((k : ℕ) (o p : Option ℕ) → Tells k o → Tells k p → o ≡ p)
    → LinksRise ls → LinksRise ms → AllByRecursion (λ l. Tells l.entry l.other) ls → AllByRecursion (λ l. Tells l.entry l.other) ms
    → ((k : ℕ) → has k ls ≡ true → has k ms ≡ true) → ((k : ℕ) → has k ms ≡ true → has k ls ≡ true) → ls ≡ ms
one_list Tells [] [] u r s p q f g = refl
one_list Tells [] (b ∷ ms) u r s p q f g = absurd (false≢true (g b.entry (has_first b ms)))
one_list Tells (a ∷ ls) [] u r s p q f g = absurd (false≢true (f a.entry (has_first a ls)))
one_list Tells (a ∷ ls) (b ∷ ms) u r s p q f g =
    let above = first_least a.entry b ms s (f a.entry (has_first a ls)) in
    let below = first_least b.entry a ls r (g b.entry (has_first b ms)) in
    let same : a.entry ≡ b.entry = omega (arith, above, below) in
    let other : a.other ≡ b.other = u b.entry a.other b.other (subst (λ (k : ℕ). Tells k a.other) same p.0) q.0 in
    let first : a ≡ b = λ i. record { entry = same i; other = other i } in
    let rest = one_list Tells ls ms u (tail_rising a ls r) (tail_rising b ms s) p.1 q.1
    (λ k h. (let l = rest_later k a ls r h in has_rest k b ms (omega (arith, l, same)) (f k (has_more k a ls h))))
    (λ k h. (let l = rest_later k b ms s h in has_rest k a ls (omega (arith, l, same)) (g k (has_more k b ms h)))) in
    λ i. first i ∷ rest i

-- each link of the one list is wanted, so the other has it
in_other : (n : ℕ) (Wanted : ℕ → Type 0) (Tells : ℕ → Option ℕ → Type 0) (ls ms : List Link) → AllByRecursion (λ l. (l.entry < n) × Wanted l.entry × Tells l.entry l.other) ls → AreLinks n Wanted Tells ms → (k : ℕ) → has k ls ≡ true → has k ms ≡ true
in_other n Wanted Tells [] ms e h k q = absurd (false≢true q)
in_other n Wanted Tells (a ∷ ls) ms e h k q = elim (cases_eq a.entry k) as (λ _. has k ms ≡ true) [
  | inl s ↦ subst (λ (x : ℕ). has x ms ≡ true) s (h.all a.entry e.0.0 e.0.1)
  | inr ne ↦ in_other n Wanted Tells ls ms e.1 h k (sym (ap (λ (b : Bool). b || has k ls) (ne_eqb a.entry k ne)) ∙ q)
]

only_tells : (n : ℕ) (Wanted : ℕ → Type 0) (Tells : ℕ → Option ℕ → Type 0) (ls : List Link) → AllByRecursion (λ l. (l.entry < n) × Wanted l.entry × Tells l.entry l.other) ls → AllByRecursion (λ l. Tells l.entry l.other) ls
only_tells n Wanted Tells [] e = tt
only_tells n Wanted Tells (a ∷ ls) e = (e.0.2, only_tells n Wanted Tells ls e.1)

links_one : (n : ℕ) (Wanted : ℕ → Type 0) (Tells : ℕ → Option ℕ → Type 0) (ls ms : List Link) → ((k : ℕ) (o p : Option ℕ) → Tells k o → Tells k p → o ≡ p) → AreLinks n Wanted Tells ls → AreLinks n Wanted Tells ms → ls ≡ ms
links_one n Wanted Tells ls ms u h g =
    one_list Tells ls ms u h.rising g.rising (only_tells n Wanted Tells ls h.each) (only_tells n Wanted Tells ms g.each) (in_other n Wanted Tells ls ms h.each g) (in_other n Wanted Tells ms ls g.each h)

-- ---- where an entry reads from

two_writers : (na atomic : List ℤ) (threads : ℕ) (calls : List Call) (w v : ℕ) (stamp : Stamp) → MemHistory na atomic threads calls → w < v → v < length calls → written_by (event_at calls w) ≡ Some stamp → written_by (event_at calls v) ≡ Some stamp → ⊥
two_writers na atomic threads calls w v stamp h below l ww wv =
    let at_v = known_at na atomic threads calls h v l in
    let at_w = known_at na atomic threads calls h w (omega (arith, below, l)) in
    let i = interval_of (event_at calls v) stamp.location stamp.to wv in
    let j = interval_of (event_at calls w) stamp.location stamp.to ww in
    let mine : Interval = record { location = stamp.location; from = i.0; to = stamp.to } in
    let other : Interval = record { location = stamp.location; from = j.0; to = stamp.to } in
    let d = apart calls (declared_in na) (length na) v w at_v mine other below i.1 j.1 refl in
    let short = ((legal_at calls (declared_in na) (length na) v at_v).writes mine i.1).short in
    let short_too = ((legal_at calls (declared_in na) (length na) w at_w).writes other j.1).short in
    omega (arith, d, short, short_too)

one_from : (na atomic : List ℤ) (threads : ℕ) (calls : List Call) (k w v : ℕ) → MemHistory na atomic threads calls → k < length calls → IsFrom calls k w → IsFrom calls k v → w ≡ v
one_from na atomic threads calls k w v h l f g =
    let same = same_Some g.stamp f.stamp (sym g.read ∙ f.read) in
    let written : written_by (event_at calls v) ≡ Some f.stamp = g.written ∙ ap Some same in
    let fb = f.before in
    let gb = g.before in
    elim (cases_order w v) as (λ _. w ≡ v) [
      | inl e ↦ e
      | inr o ↦ elim o as (λ _. w ≡ v) [
        | inl below ↦ absurd (two_writers na atomic threads calls w v f.stamp h below (omega (arith, gb, l)) f.written written)
        | inr above ↦ absurd (two_writers na atomic threads calls v w f.stamp h above (omega (arith, fb, l)) written f.written)
      ]
    ]

-- an entry past the end reads nothing
from_within : (calls : List Call) (k w : ℕ) → IsFrom calls k w → k < length calls
from_within calls k w f = elim (cases_lt k (length calls)) as (λ _. k < length calls) [
  | inl l ↦ l
  | inr l ↦ absurd (none-some f.stamp (sym (ap (λ (c : Call). read_by c.event) (get_or_past calls k no_call l)) ∙ f.read))
]

tells_from : (na atomic : List ℤ) (threads : ℕ) (calls : List Call) (k : ℕ) (o p : Option ℕ) → MemHistory na atomic threads calls → TellsFrom calls k o → TellsFrom calls k p → o ≡ p
tells_from na atomic threads calls k None None h f g = refl
tells_from na atomic threads calls k None (Some v) h f g = absurd (f v g)
tells_from na atomic threads calls k (Some w) None h f g = absurd (g w f)
tells_from na atomic threads calls k (Some w) (Some v) h f g = ap Some (one_from na atomic threads calls k w v h (from_within calls k w f) f g)

pub reads_one : ReadsAreOne
reads_one na atomic threads calls ls ms h f g = links_one (length calls) _ (TellsFrom calls) ls ms (λ k o p. tells_from na atomic threads calls k o p h) f g

-- ---- races

one_race : (calls : List Call) (k w v : ℕ) → IsRace calls k w → IsRace calls k v → w ≡ v
one_race calls k w v f g =
    let same = same_Some g.location f.location (sym g.access ∙ f.access) in
    elim (cases_order w v) as (λ _. w ≡ v) [
      | inl e ↦ e
      | inr o ↦ elim o as (λ _. w ≡ v) [
        | inl below ↦ absurd (f.apart (g.first w below (subst (λ (x : ℕ). IsWriteOf calls x w) (sym same) f.write)))
        | inr above ↦ absurd (g.apart (f.first v above (subst (λ (x : ℕ). IsWriteOf calls x v) same g.write)))
      ]
    ]

tells_race : (calls : List Call) (k : ℕ) (o p : Option ℕ) → TellsRace calls k o → TellsRace calls k p → o ≡ p
tells_race calls k None p f g = absurd f
tells_race calls k (Some w) None f g = absurd g
tells_race calls k (Some w) (Some v) f g = ap Some (one_race calls k w v f g)

pub races_one : RacesAreOne
races_one calls ls ms f g = links_one (length calls) _ (TellsRace calls) ls ms (tells_race calls) f g

-- ---- the graph of a run

pub one_reads : (p : Program) (journal : List Entry) (one other : List Link) → IsProperProgram p → IsJournalRun p journal → AreReads (calls_in p journal) (length journal) one → AreReads (calls_in p journal) (length journal) other → one ≡ other
one_reads p journal one other ok run f g =
    let many = sym (length-calls p journal) in
    reads_one (declared_values p.na) (declared_values p.atomic) (length p.threads) (calls_in p journal) one other (runs_are_histories p journal ok run)
    (subst (λ (n : ℕ). AreReads (calls_in p journal) n one) many f) (subst (λ (n : ℕ). AreReads (calls_in p journal) n other) many g)

pub one_races : (p : Program) (journal : List Entry) (one other : List Link) → AreRaces (calls_in p journal) (length journal) one → AreRaces (calls_in p journal) (length journal) other → one ≡ other
one_races p journal one other f g =
    let many = sym (length-calls p journal) in
    races_one (calls_in p journal) one other (subst (λ (n : ℕ). AreRaces (calls_in p journal) n one) many f) (subst (λ (n : ℕ). AreRaces (calls_in p journal) n other) many g)
