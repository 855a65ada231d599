-- Keys, event by event and thread by thread.
use Rattle.std.proofs.Common.{◌≡◌, ℕ, ◌+◌, ◌<◌, cond, eqb, List, [], ◌∷◌, ◌++◌, length, map, get_or, take, refl, ap, ◌∙◌, arith}
use Rattle.std.specs.List.{range_with_len}
use Rattle.std.proofs.lemmas.List.{take_more}
use Rattle.std.proofs.lemmas.List.FromFn.{map-range_with_len_more}
use Rattle.values_undef.specs.declared.access.Event.{Event}
use Rattle.values_undef.specs.declared.access.Event.TheVariants as event
use Rattle.values_undef.specs.declared.journal.Entry.{Entry}
use Rattle.memory_likeness.specs.Likeness.{without_stamps}
use Rattle.outcome_nodes.specs.Nodes.{told_by}
use Rattle.outcome_nodes.proofs.Callers.{told_more}
use Rattle.equal_nodes.specs.Keys.{mixed, event_number, thread_key, threads_key}

-- timestamps add nothing
pub number_same : (e : Event) → event_number (without_stamps e) ≡ event_number e
number_same (event.NaRead x v) = refl
number_same (event.NaWrite x v version) = refl
number_same (event.Read y order v to) = refl
number_same (event.Write y order v from to) = refl
number_same (event.Update y order old new read to) = refl
number_same (event.Miss y order old read) = refl
number_same (event.Fence order) = refl
number_same (event.Print n) = refl
number_same (event.Fail cause) = refl
number_same (event.FailCompare y read) = refl
number_same event.Finish = refl
number_same event.Spend = refl

thread_parts : (key : ℕ) (xs ys : List Event) → thread_key key (xs ++ ys) ≡ thread_key (thread_key key xs) ys
thread_parts key [] ys = refl
thread_parts key (x ∷ xs) ys = thread_parts (mixed key (event_number x)) xs ys

threads_parts : (key : ℕ) (xs ys : List (List Event)) → threads_key key (xs ++ ys) ≡ threads_key (threads_key key xs) ys
threads_parts key [] ys = refl
threads_parts key (x ∷ xs) ys = threads_parts (mixed (thread_key key x) 257) xs ys

-- one entry more
pub thread_more : (key : ℕ) (entries : List Entry) (k : ℕ) (d : Entry) (i : ℕ) → k < length entries
    → thread_key key (told_by (take (k + 1) entries) i) ≡ thread_key (thread_key key (told_by (take k entries) i)) (cond (eqb (get_or entries k d).thread i) (without_stamps (get_or entries k d).event ∷ []) [])
thread_more key entries k d i l =
    ap (λ (xs : List Entry). thread_key key (told_by xs i)) (take_more entries k d l)
    ∙ ap (thread_key key) (told_more (take k entries) (get_or entries k d) i)
    ∙ thread_parts key (told_by (take k entries) i) (cond (eqb (get_or entries k d).thread i) (without_stamps (get_or entries k d).event ∷ []) [])

-- one thread more
pub threads_more : (entries : List Entry) (i : ℕ) → threads_key 1 (map (told_by entries) (range_with_len 0 (i + 1))) ≡ mixed (thread_key (threads_key 1 (map (told_by entries) (range_with_len 0 i))) (told_by entries i)) 257
threads_more entries i =
    ap (threads_key 1) (map-range_with_len_more (told_by entries) 0 i i (omega arith)) ∙ threads_parts 1 (map (told_by entries) (range_with_len 0 i)) (told_by entries i ∷ [])
