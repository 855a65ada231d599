-- Each kind of step keeps the rule.
use Rattle.std.proofs.Common.{◌≡◌, ◌≢◌, ℕ, zero, suc, ◌+◌, ◌*◌, ◌<◌, ◌≤◌, true, eqb, List, [], ◌∷◌, ◌++◌, length, get_or, set, refl, sym, ap, ◌∙◌, subst, ⊎_elim, arith, length-set, get_or-set_same, get_or-set_other, length-append, eq-eqb, ne_eqb}
use mathlib.Core.Logic.{dite}
use mathlib.Core.Option.{Option, none, some, some-ne-none}
use native.Mathlib.Decide.{ℕ_discrete}
use lib.ListN.{get_elem?}
use lib.Seq.{set-get_or}
use prog.Atomic.{either}
use Rattle.std.proofs.lemmas.Bool.{false≢true, cases_eq}
use Rattle.atomic_table.specs.Table.{State, Me, Step, step, keeps, takes, gives, stepped, Allows, Splits, Joins, opening, Final, Seen, homes_after}
use Rattle.atomic_table.proofs.Lists.{set_again, set_here}
use Rattle.message_memory.specs.declared.history.Call.{Call}
use Rattle.message_memory.specs.History.{calls_by}
use Rattle.message_memory.proofs.Callers.{calls_by-append, calls_by-own, calls_by-other}
use Rattle.shared_memory.proofs.Counts.{has_room}
use Rattle.shared_memory.specs.declared.params.SharedParams.{SharedParams}
use Rattle.shared_memory.specs.declared.params.SeatNote.{SeatNote}
use Rattle.shared_memory.specs.Slot.{SlotContents, slot_contents}
use Rattle.shared_memory.specs.Turns.{Seated, AllBelow, resting, holding, starting, AllFrom, ThreadKnown, SeatKnown, TurnRule, seen_of, carried_calls, at_rest, in_turn, Locked, locked, committed, unlocked, left_part, right_part, both_parts, spent}
use Rattle.shared_memory.proofs.Lists.{prefix_self, prefix_push, all_from_map, seats_after}

abbrev pub Whole : Type 0
Whole = State SlotContents SeatNote

abbrev pub turn_of : Whole → ℕ
turn_of s = get_or s.words 0 0

pub known_first : {params : SharedParams} {h : List Call} {turn : ℕ} {owner : ℕ → ℕ} {j : ℕ} (d : SeatNote) → SeatKnown params h turn owner j d → d.holds ≡ true → ThreadKnown params h owner j d.params d.first h
known_first {params} {h} {turn} {owner} {j} d k is = let l = (k.turn_is is).1 in (subst (λ (x : List (List Call)). AllFrom (ThreadKnown params h owner j d.params) d.first x) l k.each_thread).0

-- one seat at most has the turn
one_holder : (params : SharedParams) (s : Whole) (r : TurnRule params s) (i j : ℕ) (v d : SeatNote) → get_elem? s.views i ≡ some v → get_elem? s.views j ≡ some d → v.holds ≡ true → d.holds ≡ true → j ≡ i
one_holder params s r i j v d at there mine theirs =
    let a = r.each_seat i v at in
    let b = r.each_seat j d there in
    let t = (a.turn_is mine).0 in
    let u = (b.turn_is theirs).0 in
    let same : d.first ≡ v.first = omega arith in
    sym (known_first d b theirs).owns ∙ (ap r.owner same ∙ (known_first v a mine).owns)

-- a view without the turn knows as much at any turn
pub other_turn : {params : SharedParams} {h : List Call} {turn : ℕ} {owner : ℕ → ℕ} {j : ℕ} (next : ℕ) (d : SeatNote) → (d.holds ≡ true → ⊥) → SeatKnown params h turn owner j d → SeatKnown params h next owner j d
other_turn next d off k = record { each_thread = k.each_thread; turn_is = λ is. absurd (off is) }

pub nobody_holds : (params : SharedParams) (s : Whole) (r : TurnRule params s) → turn_of s ≡ 0 → (j : ℕ) (d : SeatNote) → get_elem? s.views j ≡ some d → d.holds ≡ true → ⊥
nobody_holds params s r is j d at on = let t = ((r.each_seat j d at).turn_is on).0 in omega arith

-- the table with the turn at `turn`, the calls as they were, and a new view of the seat `id`
moved : (params : SharedParams) (s : Whole) (r : TurnRule params s) (turn id : ℕ) (homes : List (Option SlotContents)) (w : SeatNote) → length homes ≡ 1
    → SeatKnown params r.history turn r.owner id w → ((j : ℕ) (d : SeatNote) → j ≢ id → get_elem? s.views j ≡ some d → d.holds ≡ true → ⊥)
    → (turn ≡ 0 → get_elem? homes 0 ≡ some (some (slot_contents params r.history))) → (turn ≢ 0 → w.holds ≡ true) → get_elem? (set s.views id w) id ≡ some w
    → TurnRule params (record { words = set s.words 0 turn; homes = homes; views = set s.views id w })
moved params s r turn id homes w deep mine others free held here =
    let wide = r.wide in
    let now : get_or (set s.words 0 turn) 0 0 ≡ turn = get_or-set_same s.words 0 turn 0 (omega arith) in record {
      history = r.history;
      owner = r.owner;
      wide = length-set s.words 0 turn ∙ wide;
      deep = deep;
      counted = get_or-set_other s.words 0 1 turn 0 (λ e. omega arith) ∙ r.counted;
      threads_named = r.threads_named;
      shares_kept = r.shares_kept;
      each_seat = subst (λ (t : ℕ). (j : ℕ) (d : SeatNote) → get_elem? (set s.views id w) j ≡ some d → SeatKnown params r.history t r.owner j d) (sym now)
          (seats_after (SeatKnown params r.history turn r.owner) s.views id w mine (λ j d apart at. other_turn turn d (others j d apart at) (r.each_seat j d at)));
      free = λ e. free (sym now ∙ e);
      held = λ ne. (id, w, here, held (λ z. ne (now ∙ z)));
    }

pub inside : (vs : List SeatNote) (id : ℕ) (v : SeatNote) → get_elem? vs id ≡ some v → id < length vs
inside [] id v e = absurd (some-ne-none v (sym e))
inside (x ∷ xs) zero v e = omega arith
inside (x ∷ xs) (suc id) v e = let a = inside xs id v e in omega arith

pub here_after : (vs : List SeatNote) (id : ℕ) (v w : SeatNote) → get_elem? vs id ≡ some v → get_elem? (set vs id w) id ≡ some w
here_after vs id v w at = set_here vs id w (inside vs id v at)

-- what a thread's seat at rest knows
known_at_rest : {params : SharedParams} {h : List Call} {turn : ℕ} {owner : ℕ → ℕ} {id : ℕ} (a : SharedParams) (i : ℕ) (seen : List Call) → SeatKnown params h turn owner id (resting a i (seen ∷ [])) → ThreadKnown params h owner id a i seen
known_at_rest a i seen k = k.each_thread.0

knows_all : {params : SharedParams} {h : List Call} {owner : ℕ → ℕ} {id : ℕ} (a : SharedParams) (i : ℕ) (seen : List Call) → ThreadKnown params h owner id a i seen → ThreadKnown params h owner id a i h
knows_all {h = h} a i seen k = record { owns = k.owns; named = k.named; begins = prefix_self h; own = refl; same = k.same }

lock_hit : (params : SharedParams) (slots id : ℕ) (a : SharedParams) (i : ℕ) (seen : List Call) (s : Whole) (r : TurnRule params s) → get_elem? s.views id ≡ some (resting a i (seen ∷ [])) → turn_of s ≡ 0
    → (w : SeatNote) × (act : Rattle.atomic_table.specs.Table.Act SlotContents) × Rattle.atomic_table.specs.Table.Valid s.homes [] act × TurnRule params (stepped s 0 (i + 1) id [] w act) × locked (step slots 0 0 (i + 1) none) (at_rest a i seen) (turn_of s) (w, Rattle.atomic_table.specs.Table.carried_after [] act)
lock_hit params slots id a i seen s r at is =
    let deep = r.deep in
    let h : List Call = r.history in
    let k = known_at_rest a i seen (r.each_seat id (resting a i (seen ∷ [])) at) in
    let w : SeatNote = holding a i h in
    let l : SlotContents = slot_contents params h in (
      w,
      takes 0 l,
      r.free is,
      moved params s r (i + 1) id (set s.homes 0 none) w (length-set s.homes 0 none ∙ deep)
          (record { each_thread = (knows_all a i seen k, tt); turn_is = λ _. (refl, refl) })
          (λ j d apart there. nobody_holds params s r is j d there)
          (λ z. absurd (omega arith)) (λ _. refl) (here_after s.views id (resting a i (seen ∷ [])) w at),
      (
        (λ _. record {
          seat = ap (λ (b : SharedParams). (w, (0, slot_contents b h) ∷ [])) (sym k.same);
          begins = k.begins;
          own = k.own;
          named = subst (λ (b : SharedParams). i < b.threads) (sym k.same) k.named;
          room = λ less. let fits : length (calls_by i h) < params.share = subst (λ (n : List Call × SharedParams). length n.0 < n.1.share) (λ j. (k.own j, k.same j)) less in
              subst (λ (b : SharedParams). length h < b.threads * b.share) (sym k.same) (has_room params.threads params.share i h r.threads_named r.shares_kept k.named fits);
        }),
        λ ne. absurd (ne is),
      ),
    )

unmoved : (params : SharedParams) (s : Whole) (r : TurnRule params s) (id : ℕ) (v : SeatNote) → get_elem? s.views id ≡ some v → (x : ℕ) → x ≡ turn_of s → TurnRule params (stepped s 0 x id [] v keeps)
unmoved params s r id v at x is = subst (λ (t : List ℕ × List SeatNote). TurnRule params (record { words = t.0; homes = s.homes; views = t.1 })) (λ j. (sym (ap (set s.words 0) is ∙ set-get_or s.words 0 0) j, sym (set_again s.views id v at) j)) r

locks_at : (params : SharedParams) (slots id : ℕ) (a : SharedParams) (i : ℕ) (seen : List Call) → Allows (TurnRule params) slots id (at_rest a i seen) 0 (λ n. either (eqb n 0) (i + 1) n) (locked (step slots 0 0 (i + 1) none) (at_rest a i seen))
locks_at params slots id a i seen s r deep at small = let n : ℕ = turn_of s in dite (ℕ_discrete n 0)
    (λ hit. let t = lock_hit params slots id a i seen s r at hit in
    (t.0, t.1, t.2, subst (λ b. TurnRule params (stepped s 0 (either b (i + 1) n) id [] t.0 t.1)) (sym (eq-eqb n 0 hit)) t.3, t.4))
    (λ miss. let v : SeatNote = resting a i (seen ∷ []) in
    (v, keeps, tt, subst (λ b. TurnRule params (stepped s 0 (either b (i + 1) n) id [] v keeps)) (sym (ne_eqb n 0 miss)) (unmoved params s r id v at n refl), ((λ hit. absurd (miss hit)), λ _. refl)))

-- taking the turn
pub may_lock : (params : SharedParams) (slots id : ℕ) (m : Seated) (a : SharedParams) (i : ℕ) (seen : List Call) → m ≡ at_rest a i seen
    → Allows (TurnRule params) slots id m 0 (λ n. either (eqb n 0) (i + 1) n) (locked (step slots 0 0 (i + 1) none) m)
may_lock params slots id m a i seen is = subst (λ (m : Seated). Allows (TurnRule params) slots id m 0 (λ n. either (eqb n 0) (i + 1) n) (locked (step slots 0 0 (i + 1) none) m)) (sym is) (locks_at params slots id a i seen)

unlock_at : (params : SharedParams) (slots id : ℕ) (a : SharedParams) (i : ℕ) (h : List Call) → Allows (TurnRule params) slots id (in_turn a i h h) 0 (λ _. 0) (λ _. unlocked (step slots 0 0 0 none) (in_turn a i h h) 0)
unlock_at params slots id a i h s r deep at small =
    let v : SeatNote = holding a i h in
    let k = r.each_seat id v at in
    let first = known_first v k refl in
    let whole : h ≡ r.history = ap (Rattle.shared_memory.specs.Turns.first_list) (k.turn_is refl).1 in
    let w : SeatNote = resting a i (h ∷ []) in
    let deep = r.deep in (
      w,
      gives,
      tt,
      moved params s r 0 id (set s.homes 0 (some (slot_contents a h))) w (length-set s.homes 0 (some (slot_contents a h)) ∙ deep)
          (record { each_thread = (subst (λ (x : List Call). ThreadKnown params r.history r.owner id a i x) (sym whole) first, tt); turn_is = λ on. absurd (false≢true on) })
          (λ j d apart there on. apart (one_holder params s r id j v d at there refl on))
          (λ _. homes_put s.homes (slot_contents a h) (slot_contents params r.history) deep (λ j. slot_contents (first.same j) (whole j)))
          (λ ne. absurd (ne refl)) (here_after s.views id v w at),
      refl,
    )
  where
    homes_put : (hs : List (Option SlotContents)) (x y : SlotContents) → length hs ≡ 1 → x ≡ y → get_elem? (set hs 0 (some x)) 0 ≡ some (some y)
    homes_put [] x y n e = absurd (omega arith)
    homes_put (z ∷ hs) x y n e = ap (λ (l : SlotContents). some (some l)) e

-- giving the turn back
pub may_unlock : (params : SharedParams) (slots id : ℕ) (m : Seated) (a : SharedParams) (i : ℕ) (h : List Call) → m ≡ in_turn a i h h
    → Allows (TurnRule params) slots id m 0 (λ _. 0) (λ _. unlocked (step slots 0 0 0 none) m 0)
may_unlock params slots id m a i h is = subst (λ (m : Seated). Allows (TurnRule params) slots id m 0 (λ _. 0) (λ _. unlocked (step slots 0 0 0 none) m 0)) (sym is) (unlock_at params slots id a i h)

below_push : (n : ℕ) (h : List Call) (c : Call) → AllBelow n h → c.thread < n → AllBelow n (h ++ c ∷ [])
below_push n [] c below lt = (lt, tt)
below_push n (x ∷ xs) c below lt = (below.0, below_push n xs c below.1 lt)

by_others : (j : ℕ) (h : List Call) (c : Call) → (c.thread ≡ j → ⊥) → calls_by j (h ++ c ∷ []) ≡ calls_by j h
by_others j h c ne = calls_by-append j h (c ∷ []) ∙ (ap (λ l. calls_by j h ++ l) (calls_by-other j c ne) ∙ Rattle.std.proofs.lemmas.List.append-nil (calls_by j h))

-- what another seat knows, after a call
known_on : (params : SharedParams) (h : List Call) (owner : ℕ → ℕ) (id j : ℕ) (told : SharedParams) (c : Call) → owner c.thread ≡ id → j ≢ id → (k : ℕ) (seen : List Call)
    → ThreadKnown params h owner j told k seen → ThreadKnown params (h ++ c ∷ []) owner j told k seen
known_on params h owner id j told c mine apart k seen known = record {
  owns = known.owns;
  named = known.named;
  begins = prefix_push seen h (c ∷ []) known.begins;
  own = known.own ∙ sym (by_others k h c (λ e. apart (sym known.owns ∙ (ap owner (sym e) ∙ mine))));
  same = known.same;
}

shares_push : (share : ℕ) (h : List Call) (c : Call) → ((i : ℕ) → length (calls_by i h) ≤ share) → length (calls_by c.thread h) < share → (i : ℕ) → length (calls_by i (h ++ c ∷ [])) ≤ share
shares_push share h c short less i = ⊎_elim
    (λ (e : c.thread ≡ i). let n : length (calls_by i (h ++ c ∷ [])) ≡ length (calls_by i h) + 1 = ap length (calls_by-append i h (c ∷ []) ∙ ap (λ l. calls_by i h ++ l) (calls_by-own i c e)) ∙ length-append (calls_by i h) (c ∷ []) in
    let less' : length (calls_by i h) < share = subst (λ (k : ℕ). length (calls_by k h) < share) e less in omega arith)
    (λ (ne : c.thread ≡ i → ⊥). let n = ap length (by_others i h c ne) in let m = short i in omega arith)
    (cases_eq c.thread i)

commit_at : (params : SharedParams) (slots id : ℕ) (a : SharedParams) (h : List Call) (c : Call) → length (calls_by c.thread h) < a.share
    → Allows (TurnRule params) slots id (in_turn a c.thread h (h ++ c ∷ [])) 1 (λ _. length (h ++ c ∷ [])) (λ _. committed (step slots 1 (length (h ++ c ∷ [])) 0 none) (in_turn a c.thread h (h ++ c ∷ [])) (length (h ++ c ∷ [])))
commit_at params slots id a h c less s r deep at small =
    let i : ℕ = c.thread in
    let v : SeatNote = holding a i h in
    let k = r.each_seat id v at in
    let first = known_first v k refl in
    let whole : h ≡ r.history = ap (Rattle.shared_memory.specs.Turns.first_list) (k.turn_is refl).1 in
    let turn : turn_of s ≡ i + 1 = (k.turn_is refl).0 in
    let h' : List Call = h ++ c ∷ [] in
    let w : SeatNote = holding a i h' in
    let wide = r.wide in
    let now : get_or (set s.words 1 (length h')) 0 0 ≡ turn_of s = get_or-set_other s.words 1 0 (length h') 0 (λ e. omega arith) in (
      w,
      keeps,
      tt,
      record {
        history = h';
        owner = r.owner;
        wide = length-set s.words 1 (length h') ∙ wide;
        deep = r.deep;
        counted = get_or-set_same s.words 1 (length h') 0 (omega arith);
        threads_named = below_push params.threads h c (subst (λ (x : List Call). AllBelow params.threads x) (sym whole) r.threads_named) first.named;
        shares_kept = shares_push params.share h c (subst (λ (x : List Call). (i : ℕ) → length (calls_by i x) ≤ params.share) (sym whole) r.shares_kept) (subst (λ (b : SharedParams). length (calls_by i h) < b.share) first.same less);
        each_seat = subst (λ (t : ℕ). (j : ℕ) (d : SeatNote) → get_elem? (set s.views id w) j ≡ some d → SeatKnown params h' t r.owner j d) (sym now)
            (seats_after (SeatKnown params h' (turn_of s) r.owner) s.views id w
            (record { each_thread = (record { owns = first.owns; named = first.named; begins = prefix_self h'; own = refl; same = first.same }, tt); turn_is = λ _. (turn, refl) })
            (λ j d apart there. let b = subst (λ (x : List Call). SeatKnown params x (turn_of s) r.owner j d) (sym whole) (r.each_seat j d there) in record {
              each_thread = all_from_map (ThreadKnown params h r.owner j d.params) (ThreadKnown params h' r.owner j d.params) (known_on params h r.owner id j d.params c first.owns apart) d.first d.seens b.each_thread;
              turn_is = λ on. absurd (apart (one_holder params s r id j v d at there refl on));
            }));
        free = λ z. let zero' = sym now ∙ z in absurd (omega arith);
        held = λ _. (id, w, here_after s.views id v w at, refl);
      },
      refl,
    )

-- entering a call
pub may_commit : (params : SharedParams) (slots id : ℕ) (m : Seated) (a : SharedParams) (i : ℕ) (h : List Call) (c : Call) (n : ℕ) → m ≡ in_turn a i h (h ++ c ∷ []) → c.thread ≡ i → n ≡ length (h ++ c ∷ []) → length (calls_by i h) < a.share
    → Allows (TurnRule params) slots id m 1 (λ _. n) (λ _. committed (step slots 1 n 0 none) m n)
may_commit params slots id m a i h c n is mine many less =
    let is' : m ≡ in_turn a c.thread h (h ++ c ∷ []) = is ∙ ap (λ (k : ℕ). in_turn a k h (h ++ c ∷ [])) (sym mine) in
    let less' : length (calls_by c.thread h) < a.share = subst (λ (k : ℕ). length (calls_by k h) < a.share) (sym mine) less in
    subst (λ (x : Seated × ℕ). Allows (TurnRule params) slots id x.0 1 (λ _. x.1) (λ _. committed (step slots 1 x.1 0 none) x.0 x.1)) (λ j. (sym is' j, sym many j)) (commit_at params slots id a h c less')
