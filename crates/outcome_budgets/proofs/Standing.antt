-- What is known of a state at the end of a run: which threads have ended, and whether the run has failed.
use Rattle.std.proofs.Common.{◌≡◌, ⊎_elim, ℕ, ◌<◌, Bool, true, false, eqb, ◌&&◌, List, [], ◌∷◌, ◌++◌, length, get_or, set, refl, sym, ap, ◌∙◌, subst}
use Rattle.std.specs.Prelude.{◌||◌}
use Rattle.std.proofs.lemmas.Bool.{cases_eq, eq-eqb, ne_eqb}
use Rattle.std.proofs.lemmas.List.{append_assoc, append-nil, get_or-replicate, get_or-set_same, get_or-set_other}
use Rattle.values_undef.specs.Access.{ends_thread}
use Rattle.values_undef.specs.Journal.{last_fails}
use Rattle.values_undef.specs.declared.journal.Entry.{Entry}
use Rattle.il_syntax.specs.declared.program.Program.{Program}
use Rattle.view_machine.specs.State.{State, has_ended, initial_state}
use Rattle.view_machine.specs.Runs.{IsEntry, after_entry, IsRunFrom, state_after, IsRunTo}
use Rattle.view_machine.proofs.Callers.{run_goes_on, note_there, entry_notes, entry_fails, entry_going}
use Rattle.run_choices.specs.Complete.{has_ended as journal_ended}
use Rattle.run_choices.proofs.Callers.{ended_more, fails_more}

pub record Stands (p : Program) (entries : List Entry) (s : State) : Type 0 where
  pub run : IsRunTo p entries s
  pub ended : (j : ℕ) → j < length p.threads → journal_ended entries j ≡ has_ended s j
  pub fails : last_fails entries ≡ s.memory.failed

pub stands_first : (p : Program) → Stands p [] (initial_state p)
stands_first p = record {
  run = record { run = tt; state = refl };
  ended = λ j l. sym (get_or-replicate (length p.threads) j false true l);
  fails = refl;
}

-- one that has not ended is set to this
set_by : (bs : List Bool) (i j : ℕ) (b : Bool) → get_or bs i true ≡ false → (get_or bs j true || (eqb i j && b)) ≡ get_or (set bs i b) j true
set_by bs i j b going = ⊎_elim same other (cases_eq i j)
  where
    same : i ≡ j → (get_or bs j true || (eqb i j && b)) ≡ get_or (set bs i b) j true
    same q =
        ap (λ (c : Bool). c || (eqb i j && b)) (ap (λ (k : ℕ). get_or bs k true) (sym q) ∙ going)
        ∙ ap (λ (c : Bool). c && b) (eq-eqb i j q)
        ∙ sym (get_or-set_same bs i b true (note_there bs i going))
        ∙ ap (λ (k : ℕ). get_or (set bs i b) k true) q

    or_none : (c : Bool) → (c || false) ≡ c
    or_none true = refl
    or_none false = refl

    other : (i ≡ j → ⊥) → (get_or bs j true || (eqb i j && b)) ≡ get_or (set bs i b) j true
    other n =
        ap (λ (c : Bool). get_or bs j true || (c && b)) (ne_eqb i j n)
        ∙ or_none (get_or bs j true)
        ∙ sym (get_or-set_other bs i j b true (λ q. n (sym q)))

pub stands_more : (p : Program) (entries : List Entry) (s : State) (e : Entry) → Stands p entries s → IsEntry p s e → Stands p (entries ++ e ∷ []) (after_entry p s e)
stands_more p entries s e st h = record {
  run = run_goes_on p entries s e st.run h;
  ended = λ j l.
      ended_more entries e j
      ∙ ap (λ (b : Bool). b || (eqb e.thread j && ends_thread e.event)) (st.ended j l)
      ∙ set_by s.ended e.thread j (ends_thread e.event) (entry_going p s e h)
      ∙ ap (λ (bs : List Bool). get_or bs j true) (sym (entry_notes p s e h));
  fails = fails_more entries e ∙ sym (entry_fails p s e h);
}

pub stands_all : (p : Program) (entries after : List Entry) (s : State) → Stands p entries s → IsRunFrom p s after → Stands p (entries ++ after) (state_after p s after)
stands_all p entries [] s st h = subst (λ (x : List Entry). Stands p x s) (sym (append-nil entries)) st
stands_all p entries (e ∷ after) s st h =
    subst (λ (x : List Entry). Stands p x (state_after p (after_entry p s e) after)) (append_assoc entries (e ∷ []) after)
    (stands_all p (entries ++ e ∷ []) after (after_entry p s e) (stands_more p entries s e st h.0) h.1)
