-- What the run of one thread up to the last entry owes, over plain values.
use Rattle.std.proofs.Common.{◌≡◌, ℕ, zero, suc, ◌+◌, ◌-◌, ◌<◌, Bool, true, false, List, [], ◌∷◌, length, get_or, take, refl, sym, ap, subst, ◌∙◌, arith, add-one}
use Rattle.std.proofs.lemmas.List.{get_or_default}
use Rattle.values_undef.specs.Access.{is_spend}
use Rattle.values_undef.specs.declared.access.Access.{Access}
use Rattle.values_undef.specs.declared.access.Access.TheVariants as access
use Rattle.values_undef.specs.declared.journal.Entry.{Entry}
use Rattle.il_syntax.specs.declared.program.Program.{Program}
use Rattle.message_memory.specs.Step.{acquires_by}
use Rattle.thread_core.specs.Frames.{Stack, next_of}
use Rattle.thread_core.specs.Alone.{local_after_silent, HasSilent}
use Rattle.thread_core.specs.Asking.{asked}
use Rattle.view_machine.specs.State.{State, local_in, next_in, initial_state}
use Rattle.view_machine.specs.Runs.{IsJournalRun, after_silent, after_entry}
use Rattle.view_machine.proofs.Callers.{entries_of_threads}
use Rattle.exec_graph.specs.Alone.{after_own, local_after}
use Rattle.exec_graph.specs.Calls.{calls_past, calls_in, access_made}
use Rattle.exec_graph.specs.Clock.{last_acquires}
use Rattle.exec_graph.specs.Races.{na_location, last_location}
use Rattle.exec_graph.specs.Entries.{access_at, event_at}
use Rattle.exec_graph.proofs.Entering.{entry_in}
use Rattle.exec_graph.proofs.RunFacts.{entries_in, length-calls, all_there}
use Rattle.exec_graph.proofs.LastSteps.{asked_at, local_more}

pub last_there : (p : Program) (journal : List Entry) (k : ℕ) (item : Entry) → IsJournalRun p journal → k < length journal → get_or journal k item ≡ item → item.thread < length p.threads
last_there p journal k item run l e = subst (λ (x : Entry). x.thread < length p.threads) e (all_there (λ x. x.thread < length p.threads) journal k item l (entries_of_threads p journal run))

pub own_silent : (p : Program) (journal : List Entry) (k t : ℕ) (item : Entry) (l : Stack) → IsJournalRun p journal → k < length journal → get_or journal k item ≡ item → l ≡ local_after p t (local_in (initial_state p) t) (take k journal) → item.thread ≡ t → HasSilent p item.silent l
own_silent p journal k t item l run below e s same =
    let has = (asked_at p (initial_state p) journal k item below run).has in
    subst (HasSilent p item.silent) (sym s)
    (subst (λ (i : ℕ). HasSilent p item.silent (local_after p i (local_in (initial_state p) i) (take k journal))) same
    (subst (λ (x : Entry). HasSilent p x.silent (local_after p x.thread (local_in (initial_state p) x.thread) (take k journal))) e has))

pub own_more : (p : Program) (journal : List Entry) (k t : ℕ) (item : Entry) (l l' : Stack) → k < length journal → get_or journal k item ≡ item → l ≡ local_after p t (local_in (initial_state p) t) (take k journal) → l' ≡ after_own p t l item
    → l' ≡ local_after p t (local_in (initial_state p) t) (take (k + 1) journal)
own_more p journal k t item l l' below e s m =
    m ∙ ap (λ (x : Stack). after_own p t x item) s ∙ ap (after_own p t (local_after p t (local_in (initial_state p) t) (take k journal))) (sym e)
    ∙ sym (local_more p t (local_in (initial_state p) t) journal k item below) ∙ ap (λ (n : ℕ). local_after p t (local_in (initial_state p) t) (take n journal)) (sym (add-one k))

one_item : (journal : List Entry) (k : ℕ) (item other : Entry) → k < length journal → get_or journal k item ≡ item → get_or journal k other ≡ other → other ≡ item
one_item journal k item other l e f = sym f ∙ get_or_default journal k other item l ∙ e

pub last_silent : (p : Program) (journal : List Entry) (k n : ℕ) (item other : Entry) (l : Stack) → IsJournalRun p journal → k < length journal → get_or journal k item ≡ item → get_or journal k other ≡ other → n ≡ k
    → l ≡ local_after p item.thread (local_in (initial_state p) item.thread) (take n journal) → HasSilent p other.silent l
last_silent p journal k n item other l run below e f m s =
    own_silent p journal k item.thread other l run below f (s ∙ ap (λ (x : ℕ). local_after p item.thread (local_in (initial_state p) item.thread) (take x journal)) m) (ap (λ (x : Entry). x.thread) (one_item journal k item other below e f))

event_there : (p : Program) (journal : List Entry) (k : ℕ) (d : Entry) → k < length journal → event_at (calls_in p journal) k ≡ (get_or journal k d).event
event_there p journal k d l = sym (ap (λ (x : Entry). x.event) (entry_in (calls_in p journal) journal k d (entries_in p journal) l))

pub last_asks : (p : Program) (journal : List Entry) (k n : ℕ) (item other : Entry) (l : Stack) → IsJournalRun p journal → k < length journal → k ≡ length journal - 1 → get_or journal k item ≡ item → get_or journal k other ≡ other → n ≡ k
    → l ≡ local_after p item.thread (local_in (initial_state p) item.thread) (take n journal) → is_spend (event_at (calls_in p journal) (length journal - 1)) ≡ false
    → asked (next_of (local_after_silent p other.silent l)) ≡ access_at (calls_in p journal) (length journal - 1)
last_asks p journal k n item other l run below last e f m s asks =
    let calls = calls_in p journal in
    let same = one_item journal k item other below e f in
    let here : is_spend (get_or journal k item).event ≡ false = ap is_spend (sym (event_there p journal k item below)) ∙ ap (λ (x : ℕ). is_spend (event_at calls x)) last ∙ asks in
    let a = (asked_at p (initial_state p) journal k item below run).access here in
    let stack = s ∙ ap (λ (x : ℕ). local_after p item.thread (local_in (initial_state p) item.thread) (take x journal)) m in
    ap (λ (x : Entry). asked (next_of (local_after_silent p x.silent l))) same
    ∙ ap (λ (x : Stack). asked (next_of (local_after_silent p item.silent x))) stack
    ∙ ap (λ (x : Entry). asked (next_of (local_after_silent p x.silent (local_after p x.thread (local_in (initial_state p) x.thread) (take k journal))))) (sym e)
    ∙ sym a ∙ ap (access_at calls) last

-- ---- no access at all

spend_from : (p : Program) (s : State) (entries : List Entry) (k : ℕ) → is_spend (event_at (calls_past p s entries) k) ≡ true → access_at (calls_past p s entries) k ≡ access.Spend
spend_from p s [] k h = refl
spend_from p s (e ∷ more) zero h = ap (λ (b : Bool). access_made b (next_in (after_silent p e.thread e.silent s) e.thread)) h
spend_from p s (e ∷ more) (suc k) h = spend_from p (after_entry p s e) more k h

pub spend_there : (p : Program) (journal : List Entry) (k : ℕ) (item : Entry) → k < length journal → k ≡ length journal - 1 → get_or journal k item ≡ item → is_spend item.event ≡ true → access_at (calls_in p journal) (length journal - 1) ≡ access.Spend
spend_there p journal k item l last e h =
    let at : is_spend (event_at (calls_in p journal) k) ≡ true = ap is_spend (event_there p journal k item l ∙ ap (λ (x : Entry). x.event) e) ∙ h in
    ap (access_at (calls_in p journal)) (sym last) ∙ spend_from p (initial_state p) journal k at

pub asks_there : (p : Program) (journal : List Entry) (k : ℕ) (item : Entry) → k < length journal → k ≡ length journal - 1 → get_or journal k item ≡ item → is_spend item.event ≡ false → is_spend (event_at (calls_in p journal) (length journal - 1)) ≡ false
asks_there p journal k item l last e h =
    ap (λ (x : ℕ). is_spend (event_at (calls_in p journal) x)) (sym last) ∙ ap is_spend (event_there p journal k item l ∙ ap (λ (x : Entry). x.event) e) ∙ h

pub none_there : (p : Program) (journal : List Entry) → length journal ≡ 0 → access_at (calls_in p journal) (length journal - 1) ≡ access.Spend
none_there p [] e = refl
none_there p (x ∷ journal) e = absurd (omega (arith, e))

-- ---- what of it is asked for

pub acquires_told : (p : Program) (journal : List Entry) (a : Access) → a ≡ access_at (calls_in p journal) (length journal - 1) → acquires_by a ≡ last_acquires (calls_in p journal)
acquires_told p journal a e = ap acquires_by e ∙ ap (λ (n : ℕ). acquires_by (access_at (calls_in p journal) (n - 1))) (sym (length-calls p journal))

pub location_of_last : (p : Program) (journal : List Entry) (a : Access) → a ≡ access_at (calls_in p journal) (length journal - 1) → na_location a ≡ last_location (calls_in p journal)
location_of_last p journal a e = ap na_location e ∙ ap (λ (n : ℕ). na_location (access_at (calls_in p journal) (n - 1))) (sym (length-calls p journal))
