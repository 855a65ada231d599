-- Timestamps stay small.
use Rattle.std.proofs.Common.{◌≡◌, ℕ, zero, suc, ◌+◌, ◌<◌, ◌≤◌, Bool, true, false, cond, nat_lt, eqb, List, [], ◌∷◌, ◌++◌, length, get_or, map, Option, None, Some, sym, ap, subst, arith}
use Rattle.std.proofs.lemmas.Bool.{cond_both, false≢true}
use Rattle.values_undef.specs.declared.access.Access.{Access}
use Rattle.values_undef.specs.declared.access.Access.TheVariants as access
use Rattle.values_undef.specs.declared.access.Choice.{Choice}
use Rattle.values_undef.specs.declared.access.Choice.TheVariants.{Message, Take}
use Rattle.values_undef.specs.declared.access.Event.{Event}
use Rattle.values_undef.specs.declared.access.Event.TheVariants.{NaRead, NaWrite, Read, Write, Update, Miss, Fence, Print, Fail, FailCompare, Finish, Spend}
use Rattle.values_undef.specs.declared.journal.Entry.{Entry}
use Rattle.values_undef.proofs.Callers.{all_append}
use Rattle.views.specs.ThreadView.{ThreadView}
use Rattle.message_memory.specs.Memory.{Memory}
use Rattle.message_memory.specs.Step.{StepResult, step_result, is_racy, meets_undef, succeeds, read_at}
use Rattle.memory_likeness.specs.Moved.{opened, moved_stamp, moved_event}
use Rattle.memory_likeness.specs.Answering.{choice_behind}
use Rattle.outcome_nodes.specs.Moved.{moved_entry}
use Rattle.outcome_moves.specs.Ends.{end_in}
use Rattle.outcome_moves.specs.Room.{largest_stamp, AreSmall}

opened_small : (b t : ℕ) → opened b t ≤ t + 2
opened_small b t = cond_both (nat_lt b t) (t + 2) t (λ (n : ℕ). n ≤ t + 2) (λ _. omega arith) (λ _. omega arith)

stamp_small : (y b z t : ℕ) → moved_stamp y (opened b) z t ≤ t + 2
stamp_small y b z t = cond_both (eqb z y) (opened b t) t (λ (n : ℕ). n ≤ t + 2) (λ _. opened_small b t) (λ _. omega arith)

event_small : (y b : ℕ) (e : Event) → largest_stamp (moved_event y (opened b) e) ≤ largest_stamp e + 2
event_small y b (NaRead x v) = omega arith
event_small y b (NaWrite x v n) = omega arith
event_small y b (Read z o v to) = stamp_small y b z to
event_small y b (Write z o v from to) = omega (arith, stamp_small y b z from, stamp_small y b z to)
event_small y b (Update z o old new read to) = omega (arith, stamp_small y b z read, stamp_small y b z to)
event_small y b (Miss z o old read) = stamp_small y b z read
event_small y b (Fence o) = omega arith
event_small y b (Print v) = omega arith
event_small y b (Fail c) = omega arith
event_small y b (FailCompare z read) = stamp_small y b z read
event_small y b Finish = omega arith
event_small y b Spend = omega arith

more_small : (most : ℕ) (entries : List Entry) → AreSmall most entries → AreSmall (most + 2) entries
more_small most [] h = tt
more_small most (e ∷ entries) h = (omega (arith, h.0), more_small most entries h.1)

moved_small : (y b most : ℕ) (entries : List Entry) → AreSmall most entries → AreSmall (most + 2) (map (moved_entry y (opened b)) entries)
moved_small y b most [] h = tt
moved_small y b most (e ∷ entries) h = (omega (arith, h.0, event_small y b e.event), moved_small y b most entries h.1)

pub room_small : (puts : Bool) (y b most : ℕ) (entries : List Entry) → AreSmall most entries → AreSmall (most + 2) (cond puts (map (moved_entry y (opened b)) entries) entries)
room_small true y b most entries h = moved_small y b most entries h
room_small false y b most entries h = more_small most entries h

pub made_small : (m : Memory) (v : ThreadView) (i : ℕ) (m' : Memory) (a : Access) (b most : ℕ) → b ≤ most → largest_stamp (step_result m v i a (choice_behind m' a b)).event ≤ most + 2
made_small m v i m' (access.NaRead x) b most l = omega arith
made_small m v i m' (access.NaWrite x n) b most l = cond_both (is_racy m v x) _ _ (λ (o : StepResult). largest_stamp o.event ≤ most + 2) (λ _. omega arith) (λ _. omega arith)
made_small m v i m' (access.Read y o) b most l = omega (arith, l)
made_small m v i m' (access.Write y o n) b most l = omega (arith, l)
made_small m v i m' (access.Update y o kind) b most l =
    cond_both (succeeds kind (read_at m' y b).value) (Take b (b + 2)) (Message b) (λ (c : Choice). largest_stamp (step_result m v i (access.Update y o kind) c).event ≤ most + 2)
    (λ _. omega (arith, l))
    (λ _. cond_both (meets_undef kind (read_at m y b).value) _ _ (λ (r : StepResult). largest_stamp r.event ≤ most + 2) (λ _. omega (arith, l)) (λ _. omega (arith, l)))
made_small m v i m' (access.Fence o) b most l = omega arith
made_small m v i m' (access.Print n) b most l = omega arith
made_small m v i m' (access.Fail c) b most l = omega arith
made_small m v i m' access.Finish b most l = omega arith
made_small m v i m' access.Spend b most l = omega arith

pub one_small : (most : ℕ) (xs ys : List Entry) (e : Entry) → ys ≡ xs ++ e ∷ [] → AreSmall most xs → largest_stamp e.event ≤ most → AreSmall most ys
one_small most xs ys e q h l = subst (AreSmall most) (sym q) (all_append (λ (x : Entry). largest_stamp x.event ≤ most) xs (e ∷ []) h (l, tt))

-- ---- where a message ends

abbrev number_in : Option ℕ → ℕ
number_in None = 0
number_in (Some b) = b

abbrev is_there : Option ℕ → Bool
is_there None = false
is_there (Some b) = true

end_low : (y b most : ℕ) (e : Event) → end_in y e ≡ Some b → largest_stamp e ≤ most → b ≤ most
end_low y b most (NaRead x v) q l = absurd (false≢true (ap is_there q))
end_low y b most (NaWrite x v n) q l = absurd (false≢true (ap is_there q))
end_low y b most (Read z o v to) q l = absurd (false≢true (ap is_there q))
end_low y b most (Write z o v from to) q l =
    cond_both (eqb z y) (Some to) None (λ (x : Option ℕ). x ≡ Some b → b ≤ most) (λ _ r. let same : to ≡ b = ap number_in r in omega (arith, same, l)) (λ _ r. absurd (false≢true (ap is_there r))) q
end_low y b most (Update z o old new read to) q l =
    cond_both (eqb z y) (Some to) None (λ (x : Option ℕ). x ≡ Some b → b ≤ most) (λ _ r. let same : to ≡ b = ap number_in r in omega (arith, same, l)) (λ _ r. absurd (false≢true (ap is_there r))) q
end_low y b most (Miss z o old read) q l = absurd (false≢true (ap is_there q))
end_low y b most (Fence o) q l = absurd (false≢true (ap is_there q))
end_low y b most (Print v) q l = absurd (false≢true (ap is_there q))
end_low y b most (Fail c) q l = absurd (false≢true (ap is_there q))
end_low y b most (FailCompare z read) q l = absurd (false≢true (ap is_there q))
end_low y b most Finish q l = absurd (false≢true (ap is_there q))
end_low y b most Spend q l = absurd (false≢true (ap is_there q))

small_at : (most k : ℕ) (d : Entry) (entries : List Entry) → k < length entries → AreSmall most entries → largest_stamp (get_or entries k d).event ≤ most
small_at most k d [] l h = absurd (omega (arith, l))
small_at most zero d (e ∷ entries) l h = h.0
small_at most (suc k) d (e ∷ entries) l h = small_at most k d entries (omega (arith, l)) h.1

pub low_at : (y b most k : ℕ) (d : Entry) (entries : List Entry) → k < length entries → end_in y (get_or entries k d).event ≡ Some b → AreSmall most entries → b ≤ most
low_at y b most k d entries l q h = end_low y b most (get_or entries k d).event q (small_at most k d entries l h)
