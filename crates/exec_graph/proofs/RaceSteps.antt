-- The races, entry by entry.
use Rattle.std.proofs.Common.{◌≡◌, ℕ, suc, ◌+◌, ◌-◌, ◌<◌, ◌≤◌, ◌⊎◌, inl, inr, true, false, List, [], ◌∷◌, ◌++◌, length, get_or, set, replicate, Option, Some, None, refl, sym, ap, subst, ◌∙◌, arith}
use Rattle.std.proofs.lemmas.Bool.{cond_both, cases_eq, cases_lt, cases_Bool, true≢false, false≢true}
use Rattle.std.proofs.lemmas.Option.{none-some, same_Some}
use Rattle.std.proofs.lemmas.List.{get_or-set_same, get_or-set_other, length-set, get_or_append_left, length-append, length-replicate, get_or-replicate}
use Rattle.values_undef.specs.Access.{is_failure, choice_of_event}
use Rattle.values_undef.specs.declared.value.Val.{Val}
use Rattle.values_undef.specs.declared.access.Access.{Access}
use Rattle.values_undef.specs.declared.access.Access.TheVariants as access
use Rattle.values_undef.specs.declared.access.Choice.{Choice}
use Rattle.values_undef.specs.declared.access.Choice.TheVariants.{Plain, Message, Place, Take}
use Rattle.values_undef.specs.declared.access.Event.{Event}
use Rattle.values_undef.specs.declared.access.Event.TheVariants as event
use Rattle.views.specs.ThreadView.{ThreadView}
use Rattle.message_memory.specs.declared.history.Call.{Call}
use Rattle.message_memory.specs.Memory.{Memory}
use Rattle.message_memory.specs.Step.{StepResult, step_result, AdmitsChoice, is_racy, meets_undef, read_at}
use Rattle.message_memory.specs.History.{view_of}
use Rattle.exec_graph.specs.declared.links.Link.{Link}
use Rattle.exec_graph.specs.declared.row.Row.{Row}
use Rattle.exec_graph.specs.Entries.{thread_at, access_at, event_at}
use Rattle.exec_graph.specs.Past.{Past}
use Rattle.exec_graph.specs.Known.{Slot, na_written}
use Rattle.exec_graph.specs.Races.{na_location, IsWriteOf, IsRace, last_location}
use Rattle.exec_graph.specs.Links.{AreRaces}
use Rattle.exec_graph.specs.Clock.{AreRows}
use Rattle.exec_graph.specs.Graph.{no_row, row_at, StandsBefore, TellsPast, ComeFirst, IsFirstApart}
use Rattle.exec_graph.specs.Made.{na_of, with_write, with_race, IsRaceAt}
use Rattle.exec_graph.proofs.Sets.{older}
use Rattle.exec_graph.proofs.Histories.{At}
use Rattle.exec_graph.proofs.Steps.{step_fresh}
use Rattle.exec_graph.proofs.Theorem.{known_write, write_known}
use Rattle.exec_graph.proofs.LinkLemmas.{links_push, links_skip, links_none}

-- ---- rows tell Past

pub rows_tell : (calls : List Call) (rows : List Row) → AreRows calls rows → TellsPast calls rows
rows_tell calls rows h a b la lb =
    let ra = h.1 a no_row la in
    let rb = h.1 b no_row lb in
    let c = rb.counts a la in (
      λ q. c.0 (subst (λ (x : ℕ). x < get_or (row_at rows b).counts (thread_at calls a) 0) ra.number (subst (λ (x : ℕ). (row_at rows a).number < get_or (row_at rows b).counts x 0) ra.thread q)),
      λ q. subst (λ (x : ℕ). (row_at rows a).number < get_or (row_at rows b).counts x 0) (sym ra.thread) (subst (λ (x : ℕ). x < get_or (row_at rows b).counts (thread_at calls a) 0) (sym ra.number) (c.1 q)),
    )

-- ---- the location of an access

pub record TellsLocation (a : Access) (e : Event) : Type 0 where
  pub fine : is_failure e ≡ false → (racy : Option ℕ) → na_of e racy ≡ na_location a
  pub own : na_of e (na_location a) ≡ na_location a

pub tells_location : (m : Memory) (v : ThreadView) (i : ℕ) (a : Access) (c : Choice) → AdmitsChoice m v a c → TellsLocation a (step_result m v i a c).event
tells_location m v i (access.NaRead x) Plain h = record { fine = λ _ _. refl; own = refl }
tells_location m v i (access.NaWrite x n) Plain h =
    cond_both (is_racy m v x) _ _ (λ (o : StepResult). TellsLocation (access.NaWrite x n) o.event) (λ _. record { fine = λ f _. absurd (true≢false f); own = refl }) (λ _. record { fine = λ _ _. refl; own = refl })
tells_location m v i (access.Read y order) (Message to) h = record { fine = λ _ _. refl; own = refl }
tells_location m v i (access.Write y order n) (Place from to) h = record { fine = λ _ _. refl; own = refl }
tells_location m v i (access.Update y order kind) (Message to) h =
    cond_both (meets_undef kind (read_at m y to).value) _ _ (λ (o : StepResult). TellsLocation (access.Update y order kind) o.event) (λ _. record { fine = λ _ _. refl; own = refl }) (λ _. record { fine = λ _ _. refl; own = refl })
tells_location m v i (access.Update y order kind) (Take read to) h = record { fine = λ _ _. refl; own = refl }
tells_location m v i (access.Fence order) Plain h = record { fine = λ _ _. refl; own = refl }
tells_location m v i (access.Print n) Plain h = record { fine = λ _ _. refl; own = refl }
tells_location m v i (access.Fail cause) Plain h = record { fine = λ f _. absurd (true≢false f); own = refl }
tells_location m v i access.Finish Plain h = record { fine = λ _ _. refl; own = refl }
tells_location m v i access.Spend Plain h = record { fine = λ _ _. refl; own = refl }
tells_location m v i _ _ h = absurd h

-- the location of entry k, the one of the last being given
pub location_told : (calls : List Call) (declared : ℕ → Val) (na k : ℕ) (racy : Option ℕ) → At calls declared na k → racy ≡ last_location calls → na_of (event_at calls k) racy ≡ na_location (access_at calls k)
location_told calls declared na k racy h e = by (cases_Bool (is_failure (event_at calls k)))
  where
    tells : TellsLocation (access_at calls k) (event_at calls k)
    tells = subst (TellsLocation (access_at calls k)) h.step.step.event
        (tells_location h.state.memory (view_of h.state (thread_at calls k)) (thread_at calls k) (access_at calls k) (choice_of_event (event_at calls k)) h.step.step.legal.admits)

    by : (is_failure (event_at calls k) ≡ true) ⊎ (is_failure (event_at calls k) ≡ false) → na_of (event_at calls k) racy ≡ na_location (access_at calls k)
    by (inr fine) = tells.fine fine racy
    by (inl fails) =
        let n = h.ending fails in
        let last : length calls - 1 ≡ k = omega (arith, n) in
        ap (na_of (event_at calls k)) (e ∙ ap (λ (x : ℕ). na_location (access_at calls x)) last) ∙ tells.own

-- ---- versions rise

pub versions_rise : (calls : List Call) (declared : ℕ → Val) (na x w v t u : ℕ) → At calls declared na v → x < na → w < v → na_written (event_at calls w) ≡ Some (record { index = x; number = t }) → na_written (event_at calls v) ≡ Some (record { index = x; number = u }) → t < u
versions_rise calls declared na x w v t u h l below a b =
    let m = h.state.memory in
    let old = h.knows.memory.versions w x t below (l, a) in
    let len = h.knows.locations in
    let fails : (is_failure (event_at calls v) ≡ true) ⊎ (is_failure (event_at calls v) ≡ false) = cases_Bool (is_failure (event_at calls v)) in
    elim fails as (λ _. t < u) [
      | inl f ↦ absurd (wrote_fails (event_at calls v) (record { index = x; number = u }) b f)
      | inr fine ↦ (let new = step_fresh calls v m (view_of h.state (thread_at calls v)) (access_at calls v) (choice_of_event (event_at calls v)) h.step.step.legal.admits fine (sym h.step.step.event) x u ((omega (arith, l, len)), b) in
          omega (arith, old.1, new))
    ]
  where
    wrote_fails : (e : Event) (s : Slot) → na_written e ≡ Some s → is_failure e ≡ true → ⊥
    wrote_fails (event.NaRead x v) s a f = false≢true f
    wrote_fails (event.NaWrite x v n) s a f = false≢true f
    wrote_fails (event.Read y o v to) s a f = false≢true f
    wrote_fails (event.Write y o v from to) s a f = false≢true f
    wrote_fails (event.Update y o old new read to) s a f = false≢true f
    wrote_fails (event.Miss y o old read) s a f = false≢true f
    wrote_fails (event.Fence o) s a f = false≢true f
    wrote_fails (event.Print v) s a f = false≢true f
    wrote_fails (event.Fail cause) s a f = none-some s a
    wrote_fails (event.FailCompare y read) s a f = none-some s a
    wrote_fails event.Finish s a f = false≢true f
    wrote_fails event.Spend s a f = false≢true f

-- ---- the writes of each location

pub record IsWrites (calls : List Call) (n x : ℕ) (writes : List ℕ) : Type 0 where
  pub each : (i : ℕ) → i < length writes → (get_or writes i 0 < n) × IsWriteOf calls x (get_or writes i 0)
  pub all : (w : ℕ) → w < n → IsWriteOf calls x w → (i : ℕ) × (i < length writes) × (get_or writes i 0 ≡ w)
  pub rising : (i j : ℕ) → i < j → j < length writes → get_or writes i 0 < get_or writes j 0

pub record RacesSoFar (calls : List Call) (na n : ℕ) (writes : List (List ℕ)) (races : List Link) : Type 0 where
  pub many : length writes ≡ na
  pub lists : (x : ℕ) → x < na → IsWrites calls n x (get_or writes x [])
  pub linked : AreRaces calls n races

-- those that stand before an access come first
pub come_first : (calls : List Call) (declared : ℕ → Val) (na k x : ℕ) (rows : List Row) (writes : List ℕ) → ((j : ℕ) → j < length calls → At calls declared na j) → k < length calls → na_location (access_at calls k) ≡ Some x → x < na
    → AreRows calls rows → IsWrites calls k x writes → ComeFirst rows writes k
come_first calls declared na k x rows writes at l e there h w i n below len before = elim (cases_eq i n) as (λ _. StandsBefore rows (get_or writes i 0) k) [
  | inl s ↦ subst (λ (j : ℕ). StandsBefore rows (get_or writes j 0) k) (sym s) before
  | inr ne ↦ (
      let one = w.each i (omega (arith, below, len)) in
      let two = w.each n len in
      let first : get_or writes i 0 < length calls = let a = one.0 in omega (arith, a, l) in
      let second : get_or writes n 0 < length calls = let a = two.0 in omega (arith, a, l) in
      let past = (rows_tell calls rows h (get_or writes n 0) k second l).0 before in
      let known = write_known calls declared na k x (get_or writes n 0) two.1.version (at k l) e two.1.written past in
      let rise = versions_rise calls declared na x (get_or writes i 0) (get_or writes n 0) one.1.version two.1.version (at (get_or writes n 0) second) there (w.rising i n (omega (arith, below, ne)) len) one.1.written two.1.written in
      (rows_tell calls rows h (get_or writes i 0) k first l).1 (known_write calls declared na k x (get_or writes i 0) one.1.version (at k l) e there one.0 one.1.written (omega (arith, known, rise))))
]

-- ---- the links

race_link : (calls : List Call) (na k x : ℕ) (rows : List Row) (writes : List ℕ) (races : List Link) (first : Option ℕ) → k < length calls → na_location (access_at calls k) ≡ Some x → AreRows calls rows → IsWrites calls k x writes → IsFirstApart rows writes k first → AreRaces calls k races
    → AreRaces calls (suc k) (with_race races k first)
race_link calls na k x rows writes races None l e h w f r = links_skip k _ _ races none r
  where
    none : ((v : ℕ) × IsRace calls k v) → ⊥
    none q =
        let race = q.1 in
        let same = same_Some race.location x (sym race.access ∙ e) in
        let found = w.all q.0 race.before (subst (λ (y : ℕ). IsWriteOf calls y q.0) same race.write) in
        let stands = subst (λ (v : ℕ). StandsBefore rows v k) found.2 (f found.0 found.1) in
        let before = race.before in
        race.apart ((rows_tell calls rows h q.0 k (omega (arith, before, l)) l).0 stands)
race_link calls na k x rows writes races (Some v) l e h w f r = links_push k _ _ races (Some v) (v, race) race r
  where
    at : get_or writes f.0 0 ≡ v
    at = f.2

    mine : (v < k) × IsWriteOf calls x v
    mine = subst (λ (y : ℕ). (y < k) × IsWriteOf calls x y) f.2 (w.each f.0 f.1)

    race : IsRace calls k v
    race = record {
      location = x;
      access = e;
      before = mine.0;
      write = mine.1;
      apart = λ p. (let b = mine.0 in f.3 ((rows_tell calls rows h v k (omega (arith, b, l)) l).1 p));
      first = λ b below write. first_of_all b below write;
    }
      where
        first_of_all : (b : ℕ) → b < v → IsWriteOf calls x b → Past calls k b
        first_of_all b below write =
            let m = mine.0 in
            let found = w.all b (omega (arith, below, m)) write in
            let early : found.0 < f.0 = elim (cases_lt found.0 f.0) as (λ _. found.0 < f.0) [
              | inl y ↦ y
              | inr y ↦ elim (cases_eq found.0 f.0) as (λ _. found.0 < f.0) [
                | inl s ↦ (let same : b ≡ v = sym found.2 ∙ ap (λ (i : ℕ). get_or writes i 0) s ∙ f.2 in absurd (omega (arith, same, below)))
                | inr ne ↦ (let up = w.rising f.0 found.0 (omega (arith, y, ne)) found.1 in let a = found.2 in let c = f.2 in absurd (omega (arith, up, a, c, below)))
              ]
            ] in
            (rows_tell calls rows h b k (omega (arith, below, m, l)) l).0 (subst (λ (y : ℕ). StandsBefore rows y k) found.2 (f.4 found.0 early))

note_link : (calls : List Call) (na k : ℕ) (rows : List Row) (writes : List (List ℕ)) (races : List Link) (o first : Option ℕ) → k < length calls → na_location (access_at calls k) ≡ o → ((x : ℕ) → o ≡ Some x → x < na) → AreRows calls rows
    → RacesSoFar calls na k writes races → IsRaceAt rows writes k o first → AreRaces calls (suc k) (with_race races k first)
note_link calls na k rows writes races None first l e there h s n =
    subst (λ (f : Option ℕ). AreRaces calls (suc k) (with_race races k f)) (sym n) (links_skip k _ _ races (λ q. none-some q.1.location (sym e ∙ q.1.access)) s.linked)
note_link calls na k rows writes races (Some x) first l e there h s n = race_link calls na k x rows (get_or writes x []) races first l e h (s.lists x (there x refl)) n s.linked

-- ---- one entry more

writes_keep : (calls : List Call) (n x : ℕ) (writes : List ℕ) → (IsWriteOf calls x n → ⊥) → IsWrites calls n x writes → IsWrites calls (suc n) x writes
writes_keep calls n x writes none h = record {
  each = λ i l. (let e = h.each i l in ((let k = e.0 in omega (arith, k)), e.1));
  all = λ w l q. elim (older w n l) as (λ _. (i : ℕ) × (i < length writes) × (get_or writes i 0 ≡ w)) [ inl k ↦ h.all w k q | inr s ↦ absurd (none (subst (IsWriteOf calls x) s q)) ];
  rising = h.rising;
}

writes_push : (calls : List Call) (n x : ℕ) (writes : List ℕ) → IsWriteOf calls x n → IsWrites calls n x writes → IsWrites calls (suc n) x (writes ++ n ∷ [])
writes_push calls n x writes new h = record {
  each = λ i l. elim (cases_lt i (length writes)) as (λ _. (get_or (writes ++ n ∷ []) i 0 < suc n) × IsWriteOf calls x (get_or (writes ++ n ∷ []) i 0)) [
    | inl k ↦ subst (λ (w : ℕ). (w < suc n) × IsWriteOf calls x w) (sym (get_or_append_left writes (n ∷ []) 0 i k)) (let e = h.each i k in ((let b = e.0 in omega (arith, b)), e.1))
    | inr k ↦ subst (λ (w : ℕ). (w < suc n) × IsWriteOf calls x w) (sym (at_end i l k)) (omega arith, new)
  ];
  all = λ w l q. elim (older w n l) as (λ _. (i : ℕ) × (i < length (writes ++ n ∷ [])) × (get_or (writes ++ n ∷ []) i 0 ≡ w)) [
    | inl k ↦ (let f = h.all w k q in (f.0, (let a = f.1 in let c = longer in omega (arith, a, c)), get_or_append_left writes (n ∷ []) 0 f.0 f.1 ∙ f.2))
    | inr s ↦ (length writes, (let c = longer in omega (arith, c)), last writes ∙ sym s)
  ];
  rising = λ i j b l. elim (cases_lt j (length writes)) as (λ _. get_or (writes ++ n ∷ []) i 0 < get_or (writes ++ n ∷ []) j 0) [
    | inl k ↦ (let one = get_or_append_left writes (n ∷ []) 0 i (omega (arith, b, k)) in let two = get_or_append_left writes (n ∷ []) 0 j k in let r = h.rising i j b k in omega (arith, one, two, r))
    | inr k ↦ (let c = longer in let there : i < length writes = omega (arith, b, l, c, k) in
        let one = get_or_append_left writes (n ∷ []) 0 i there in let two = at_end j l k in let e = (h.each i there).0 in omega (arith, one, two, e))
  ];
}
  where
    longer : length (writes ++ n ∷ []) ≡ length writes + 1
    longer = length-append writes (n ∷ [])

    last : (ws : List ℕ) → get_or (ws ++ n ∷ []) (length ws) 0 ≡ n
    last [] = refl
    last (w ∷ ws) = last ws

    at_end : (i : ℕ) → i < length (writes ++ n ∷ []) → length writes ≤ i → get_or (writes ++ n ∷ []) i 0 ≡ n
    at_end i l k = let c = length-append writes (n ∷ []) in
        let s : i ≡ length writes = omega (arith, l, k, c) in ap (λ (j : ℕ). get_or (writes ++ n ∷ []) j 0) s ∙ last writes

lists_more : (calls : List Call) (na n : ℕ) (writes : List (List ℕ)) (o : Option Slot) → na_written (event_at calls n) ≡ o → ((s : Slot) → o ≡ Some s → s.index < na) → length writes ≡ na → ((x : ℕ) → x < na → IsWrites calls n x (get_or writes x []))
    → (x : ℕ) → x < na → IsWrites calls (suc n) x (get_or (with_write writes n o) x [])
lists_more calls na n writes None e there many h x l = writes_keep calls n x (get_or writes x []) (λ q. none-some _ (sym e ∙ q.written)) (h x l)
lists_more calls na n writes (Some s) e there many h x l = elim (cases_eq x s.index) as (λ _. IsWrites calls (suc n) x (get_or (set writes s.index (get_or writes s.index [] ++ n ∷ [])) x [])) [
  | inl same ↦ subst (λ (y : ℕ). IsWrites calls (suc n) y (get_or (set writes s.index (get_or writes s.index [] ++ n ∷ [])) y [])) (sym same)
      (subst (IsWrites calls (suc n) s.index) (sym (get_or-set_same writes s.index (get_or writes s.index [] ++ n ∷ []) [] (let t = there s refl in omega (arith, t, many))))
      (writes_push calls n s.index (get_or writes s.index []) (record { version = s.number; written = e }) (h s.index (there s refl))))
  | inr ne ↦ subst (IsWrites calls (suc n) x) (sym (get_or-set_other writes s.index x (get_or writes s.index [] ++ n ∷ []) [] ne))
      (writes_keep calls n x (get_or writes x []) (λ q. ne (sym (ap (λ (y : Slot). y.index) (same_Some s (record { index = x; number = q.version }) (sym e ∙ q.written))))) (h x l))
]

many_writes : (writes : List (List ℕ)) (n : ℕ) (o : Option Slot) → length (with_write writes n o) ≡ length writes
many_writes writes n None = refl
many_writes writes n (Some s) = length-set writes s.index _

pub races_more : (calls : List Call) (na k : ℕ) (racy first : Option ℕ) (rows : List Row) (writes writes' : List (List ℕ)) (races races' : List Link) → k < length calls → na_of (event_at calls k) racy ≡ na_location (access_at calls k)
    → ((x : ℕ) → na_location (access_at calls k) ≡ Some x → x < na) → ((s : Slot) → na_written (event_at calls k) ≡ Some s → s.index < na) → AreRows calls rows
    → RacesSoFar calls na k writes races → IsRaceAt rows writes k (na_of (event_at calls k) racy) first → races' ≡ with_race races k first → writes' ≡ with_write writes k (na_written (event_at calls k)) → RacesSoFar calls na (suc k) writes' races'
races_more calls na k racy first rows writes writes' races races' l loc there wrote h s n r w =
    subst (λ (x : List (List ℕ)). RacesSoFar calls na (suc k) x races') (sym w) (record {
      many = many_writes writes k (na_written (event_at calls k)) ∙ s.many;
      lists = lists_more calls na k writes (na_written (event_at calls k)) refl wrote s.many s.lists;
      linked = subst (AreRaces calls (suc k)) (sym r) (note_link calls na k rows writes races (na_location (access_at calls k)) first l refl there h s (subst (λ (o : Option ℕ). IsRaceAt rows writes k o first) loc n));
    })

pub races_first : (calls : List Call) (na : ℕ) → RacesSoFar calls na 0 (replicate na []) []
races_first calls na = record {
  many = length-replicate na [];
  lists = λ x l. subst (IsWrites calls 0 x) (sym (get_or-replicate na x [] [] l)) (record {
    each = λ i k. absurd (omega (arith, k));
    all = λ w k q. absurd (omega (arith, k));
    rising = λ i j a k. absurd (omega (arith, k));
  });
  linked = links_none _ _;
}
