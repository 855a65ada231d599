-- A machine that reads a grammar answers with the text's tree, or with its first fault.
use Rattle.std.proofs.Common.{◌⊎◌, inl, inr, ◌≡◌, List, [], ◌∷◌, ◌++◌, length, Option, Some, None, Result, Ok, Err, refl, sym, ap, ◌∙◌, subst, append_assoc, append-nil}
use Rattle.token_machine.specs.declared.fault.Fault.{Fault}
use Rattle.token_machine.specs.Text.{Mark, tokens_of, WithinLimits, Spells, IsViablePrefix, IsViableWithinLimits, Exceeds, IsDeadEnd, ExceedsNext, Stops, dead_end, past_limit, IsFirstFault}
use Rattle.token_machine.specs.Machine.{Move, reject, shift, follow, at_the_end, read_from, Accepts, ended, moves, Keeps, Reads}

-- The marks lead from one state to another.
pub data Reaches {State Terminal Rule : Type 0} (step : State → Terminal → Move Rule State) (last : State) : State → List (Mark Terminal Rule) → Type 0 where
  here : Reaches step last last []
  past : {s next : State} {m : Mark Terminal Rule} {ms : List (Mark Terminal Rule)} → step s m.token ≡ shift m.exceeds next → Reaches step last next ms → Reaches step last s (m ∷ ms)

module _ {Terminal Rule : Type 0} where
  abbrev pub mark : Terminal → Option Rule → Mark Terminal Rule
  mark t r = record { token = t; exceeds = r }

  same_mark : (m n : Mark Terminal Rule) → m.token ≡ n.token → m.exceeds ≡ n.exceeds → m ≡ n
  same_mark m n e f = λ i. record { token = e i; exceeds = f i }

  tokens_append : (ms ns : List (Mark Terminal Rule)) → tokens_of (ms ++ ns) ≡ tokens_of ms ++ tokens_of ns
  tokens_append [] ns = refl
  tokens_append (m ∷ ms) ns = ap (λ l. m.token ∷ l) (tokens_append ms ns)

  -- two lists with equal fronts, by their tokens, go on equally
  same_rest : (front front' rest rest' : List (Mark Terminal Rule)) → tokens_of front ≡ tokens_of front' → front ++ rest ≡ front' ++ rest' → rest ≡ rest'
  same_rest [] [] rest rest' e h = h
  same_rest [] (n ∷ front') rest rest' e h = absurd (cc)
  same_rest (m ∷ front) [] rest rest' e h = absurd (cc)
  same_rest (m ∷ front) (n ∷ front') rest rest' e h = same_rest front front' rest rest' (cc) (cc)

module _ {Tree : Type 0} where
  not_both : (tree : Tree) (o : Option Tree) → o ≡ Some tree → o ≡ None → ⊥
  not_both tree o e n = cc

module _ {Tree Rule : Type 0} where
  pub same_answer : (xs ys : Tree) (r : Result Tree (Fault Rule)) → r ≡ Ok xs → r ≡ Ok ys → xs ≡ ys
  same_answer xs ys r p q = cc

  pub same_fault : (f g : Fault Rule) (r : Result Tree (Fault Rule)) → r ≡ Err f → r ≡ Err g → f ≡ g
  same_fault f g r p q = cc

  pub two_answers : (xs : Tree) (f : Fault Rule) (r : Result Tree (Fault Rule)) → r ≡ Ok xs → r ≡ Err f → ⊥
  two_answers xs f r p q = cc

  -- where a text ends, it has its tree
  ok_end : (unexpected : Rule) (tree : Tree) (o : Option Tree) → at_the_end unexpected o ≡ Ok tree → o ≡ Some tree
  ok_end unexpected tree (Some x) e = cc
  ok_end unexpected tree None e = absurd (cc)

  err_end : (unexpected : Rule) (f : Fault Rule) (o : Option Tree) → at_the_end unexpected o ≡ Err f → (o ≡ None) × (f ≡ record { rule = unexpected; left = 0 })
  err_end unexpected f (Some x) e = absurd (cc)
  err_end unexpected f None e = (refl, cc)

module _ {State Terminal Rule : Type 0} (step : State → Terminal → Move Rule State) where
  same_move : (s : State) (t t' : Terminal) (r r' : Option Rule) (next next' : State) → t ≡ t' → step s t ≡ shift r next → step s t' ≡ shift r' next' → (r ≡ r') × (next ≡ next')
  same_move s t t' r r' next next' same e e' =
      let moves_same : shift r next ≡ shift r' next' = sym e ∙ ap (step s) same ∙ e' in (cc, cc)

-- where a state can't go on
module _ {State Rule : Type 0} (unexpected : Rule) where
  abbrev HaltsAt : Move Rule State → Rule → Type 0
  HaltsAt reject rule = rule ≡ unexpected
  HaltsAt (shift r next) rule = r ≡ Some rule

module _ {State Tree Terminal Rule : Type 0} (step : State → Terminal → Move Rule State) (finish : State → Option Tree) (unexpected : Rule) where
  abbrev Halts : State → List Terminal → Fault Rule → Type 0
  Halts s [] f = at_the_end unexpected (finish s) ≡ Err f
  Halts s (t ∷ ts) f = HaltsAt unexpected (step s t) f.rule

  -- the way of an answer
  pub record Way (s : State) (ts : List Terminal) (xs : Tree) : Type 0 where
    pub marks : List (Mark Terminal Rule)
    pub accepts : Accepts step finish xs s marks
    pub tokens : tokens_of marks ≡ ts
    pub within : WithinLimits marks

  record Halt (s : State) (ts : List Terminal) (f : Fault Rule) : Type 0 where
    marks : List (Mark Terminal Rule)
    rest : List Terminal
    last : State
    reaches : Reaches step last s marks
    text : ts ≡ tokens_of marks ++ rest
    within : WithinLimits marks
    place : f.left ≡ length rest
    halts : Halts last rest f

-- the text that a state which was reached from the beginning goes on to
record Onward {Tree Terminal Rule : Type 0} (spelling : Tree → List (Mark Terminal Rule)) (front more : List (Mark Terminal Rule)) : Type 0 where
  tree : Tree
  text : spelling tree ≡ front ++ more

module _ {State Tree Terminal Rule : Type 0} {spelling : Tree → List (Mark Terminal Rule)} {step : State → Terminal → Move Rule State} {finish : State → Option Tree} {begin : State} (unexpected : Rule) (reads : Reads spelling step finish begin) where
  abbrev answer : State → List Terminal → Result Tree (Fault Rule)
  answer = read_from step finish unexpected

  kept : (s next : State) (t : Terminal) (r : Option Rule) → step s t ≡ shift r next → (rest : List (Mark Terminal Rule)) → reads.written next rest ≡ reads.written s (mark t r ∷ rest)
  kept s next t r e = subst (Keeps reads.written s t) e (reads.keeps s t)

  -- what is read on the way is what the state has more
  reaches_written : {last s : State} {ms : List (Mark Terminal Rule)} → Reaches step last s ms → (rest : List (Mark Terminal Rule)) → reads.written last rest ≡ reads.written s (ms ++ rest)
  reaches_written here rest = refl
  reaches_written {s = s} (past {next = next} {m = m} {ms = ms} e r) rest = reaches_written r rest ∙ kept s next m.token m.exceeds e (ms ++ rest)

  accepts_written : {xs : Tree} {s : State} {ms : List (Mark Terminal Rule)} → Accepts step finish xs s ms → reads.written s ms ≡ spelling xs
  accepts_written {xs} {s} (ended e) = sym (reads.finished s xs e)
  accepts_written {s = s} (moves {next = next} {m = m} {ms = ms} e l) = sym (kept s next m.token m.exceeds e ms) ∙ accepts_written l

  -- a way to the end, cut in two
  split : (front more : List (Mark Terminal Rule)) (s : State) (xs : Tree) → Accepts step finish xs s (front ++ more) → (last : State) × Reaches step last s front × Accepts step finish xs last more
  split [] more s xs l = (s, here, l)
  split (m ∷ ms) more s xs (moves {next = next} e l) =
      let rest = split ms more next xs l in (rest.0, past e rest.1, rest.2)

  -- a way to the end follows the same tokens
  along : {last s : State} {ms : List (Mark Terminal Rule)} → Reaches step last s ms → (ns : List (Mark Terminal Rule)) (more : List Terminal) (xs : Tree) → Accepts step finish xs s ns → tokens_of ns ≡ tokens_of ms ++ more → (rest : List (Mark Terminal Rule)) × (ns ≡ ms ++ rest) × Accepts step finish xs last rest × (tokens_of rest ≡ more)
  along here ns more xs l e = (ns, refl, l, e)
  along (past step_is r) [] more xs l e = absurd (cc)
  along {s = s} (past {next = next} {m = m} {ms = ms} step_is r) (n ∷ ns) more xs (moves {next = next'} step_is' l) e =
      let token : n.token ≡ m.token = cc in
      let same = same_move step s n.token m.token n.exceeds m.exceeds next' next token step_is' step_is in
      let rest_tokens : tokens_of ns ≡ tokens_of ms ++ more = cc in
      let rest = along r ns more xs (subst (λ x. Accepts step finish xs x ns) same.1 l) rest_tokens in
      let head = same_mark n m token same.0 in
      (rest.0, (ap (λ x. x ∷ ns) head ∙ ap (λ l. m ∷ l) rest.1), rest.2, rest.3)

  -- The answer.

  accepts_answer : {xs : Tree} {s : State} {ms : List (Mark Terminal Rule)} → Accepts step finish xs s ms → WithinLimits ms → answer s (tokens_of ms) ≡ Ok xs
  accepts_answer (ended e) within = ap (at_the_end unexpected) e
  accepts_answer {s = s} (moves {next = next} {m = m} {ms = ms} e l) within =
      ap (λ mv. follow unexpected mv (length (tokens_of (m ∷ ms))) (λ x. answer x (tokens_of ms))) (e ∙ ap (λ r. shift r next) within.0)
      ∙ accepts_answer l within.1

  reaches_answer : {last s : State} {ms : List (Mark Terminal Rule)} → Reaches step last s ms → WithinLimits ms → (ts : List Terminal) → answer s (tokens_of ms ++ ts) ≡ answer last ts
  reaches_answer here within ts = refl
  reaches_answer {s = s} (past {next = next} {m = m} {ms = ms} e r) within ts =
      ap (λ mv. follow unexpected mv (length (tokens_of (m ∷ ms) ++ ts)) (λ x. answer x (tokens_of ms ++ ts))) (e ∙ ap (λ q. shift q next) within.0)
      ∙ reaches_answer r within.1 ts

  ok_move : (ts : List Terminal) (t : Terminal) (s : State) (xs : Tree) (mv : Move Rule State) → step s t ≡ mv → ((next : State) → answer next ts ≡ Ok xs → Way step finish unexpected next ts xs) → follow unexpected mv (length (t ∷ ts)) (λ next. answer next ts) ≡ Ok xs → Way step finish unexpected s (t ∷ ts) xs
  ok_move ts t s xs reject is rest_of e = absurd (cc)
  ok_move ts t s xs (shift (Some r) next) is rest_of e = absurd (cc)
  ok_move ts t s xs (shift None next) is rest_of e =
      let rest = rest_of next e in
      record { marks = mark t None ∷ rest.marks; accepts = moves is rest.accepts; tokens = ap (λ l. t ∷ l) rest.tokens; within = (refl, rest.within) }

  answer_ok : (ts : List Terminal) (s : State) (xs : Tree) → answer s ts ≡ Ok xs → Way step finish unexpected s ts xs
  answer_ok [] s xs e = record { marks = []; accepts = ended (ok_end unexpected xs (finish s) e); tokens = refl; within = tt }
  answer_ok (t ∷ ts) s xs e = ok_move ts t s xs (step s t) refl (λ next f. answer_ok ts next xs f) e

  halt_end : (s : State) (f : Fault Rule) → at_the_end unexpected (finish s) ≡ Err f → Halt step finish unexpected s [] f
  halt_end s f e = record { marks = []; rest = []; last = s; reaches = here; text = refl; within = tt; place = ap (λ g. g.left) (err_end unexpected f (finish s) e).1; halts = e }

  halt_move : (ts : List Terminal) (t : Terminal) (s : State) (f : Fault Rule) (mv : Move Rule State) → step s t ≡ mv → ((next : State) → answer next ts ≡ Err f → Halt step finish unexpected next ts f) → follow unexpected mv (length (t ∷ ts)) (λ next. answer next ts) ≡ Err f → Halt step finish unexpected s (t ∷ ts) f
  halt_move ts t s f reject is rest_of e =
      record { marks = []; rest = t ∷ ts; last = s; reaches = here; text = refl; within = tt; place = cc; halts = subst (λ mv. HaltsAt unexpected mv f.rule) (sym is) (cc) }
  halt_move ts t s f (shift (Some r) next) is rest_of e =
      record { marks = []; rest = t ∷ ts; last = s; reaches = here; text = refl; within = tt; place = cc; halts = subst (λ mv. HaltsAt unexpected mv f.rule) (sym is) (cc) }
  halt_move ts t s f (shift None next) is rest_of e =
      let h = rest_of next e in
      record { marks = mark t None ∷ h.marks; rest = h.rest; last = h.last; reaches = past is h.reaches; text = ap (λ l. t ∷ l) h.text; within = (refl, h.within); place = h.place; halts = h.halts }

  answer_err : (ts : List Terminal) (s : State) (f : Fault Rule) → answer s ts ≡ Err f → Halt step finish unexpected s ts f
  answer_err [] s f e = halt_end s f e
  answer_err (t ∷ ts) s f e = halt_move ts t s f (step s t) refl (λ next g. answer_err ts next f g) e

  -- The theorems.

  -- an answer is spelled
  pub answer_spells : (ts : List Terminal) (xs : Tree) → read_from step finish unexpected begin ts ≡ Ok xs → Spells spelling ts xs
  answer_spells ts xs e =
      let way = answer_ok ts begin xs e in
      let text : way.marks ≡ spelling xs = sym (reads.nothing_yet way.marks) ∙ accepts_written way.accepts in
      record { tokens = ap tokens_of (sym text) ∙ way.tokens; within = subst WithinLimits text way.within }

  -- what is spelled is answered
  pub spells_answer : (ts : List Terminal) (xs : Tree) → Spells spelling ts xs → read_from step finish unexpected begin ts ≡ Ok xs
  spells_answer ts xs spells = ap (answer begin) (sym spells.tokens) ∙ accepts_answer (reads.accepts xs) spells.within

  -- a text spells one tree at most
  pub one_tree : (ts : List Terminal) (xs ys : Tree) → Spells spelling ts xs → Spells spelling ts ys → xs ≡ ys
  one_tree ts xs ys p q = same_answer xs ys (answer begin ts) (spells_answer ts xs p) (spells_answer ts ys q)

  from_begin : {front : List (Mark Terminal Rule)} {last : State} → Reaches step last begin front → (rest : List (Mark Terminal Rule)) → reads.written last rest ≡ front ++ rest
  from_begin {front} r rest = reaches_written r rest ∙ reads.nothing_yet (front ++ rest)

  viable : (front : List (Mark Terminal Rule)) (last : State) → Reaches step last begin front → WithinLimits front → IsViableWithinLimits spelling (tokens_of front)
  viable front last r within =
      let end = reads.ending last in
      record { tree = end.tree; front = front; more = end.marks; text = end.text ∙ from_begin r end.marks; tokens = refl; within = within }

  exceeding : (front : List (Mark Terminal Rule)) (last next : State) (t : Terminal) (rule : Rule) → Reaches step last begin front → step last t ≡ shift (Some rule) next → Exceeds spelling (tokens_of front) t rule
  exceeding front last next t rule r e =
      let end = reads.ending next in
      record {
        tree = end.tree;
        front = front;
        more = end.marks;
        text = end.text ∙ kept last next t (Some rule) e end.marks ∙ from_begin r (mark t (Some rule) ∷ end.marks);
        tokens = refl;
      }

  -- a way on from a state, when the text goes on with these tokens
  way_on : (front : List (Mark Terminal Rule)) (last : State) (more : List Terminal) (xs : Tree) → Reaches step last begin front → tokens_of (spelling xs) ≡ tokens_of front ++ more → (rest : List (Mark Terminal Rule)) × Accepts step finish xs last rest × (tokens_of rest ≡ more)
  way_on front last more xs r e = let a = along r (spelling xs) more xs (reads.accepts xs) e in (a.0, a.2, a.3)

  rejected : (last : State) (t : Terminal) (more : List Terminal) (xs : Tree) (ms : List (Mark Terminal Rule)) → step last t ≡ reject → Accepts step finish xs last ms → tokens_of ms ≡ t ∷ more → ⊥
  rejected last t more xs [] is l e = cc
  rejected last t more xs (m ∷ ms) is (moves {next = next} step_is l) e =
      let token : m.token ≡ t = cc in
      let same : shift m.exceeds next ≡ reject = sym step_is ∙ ap (step last) token ∙ is in cc

  ends_here : (last : State) (xs : Tree) (ms : List (Mark Terminal Rule)) → finish last ≡ None → Accepts step finish xs last ms → tokens_of ms ≡ [] → ⊥
  ends_here last xs [] is (ended e) tokens = not_both xs (finish last) e is
  ends_here last xs (m ∷ ms) is l tokens = cc

  stops_move : (front : List (Mark Terminal Rule)) (last : State) (t : Terminal) (ts : List Terminal) (rule : Rule) (mv : Move Rule State) → step last t ≡ mv → Reaches step last begin front → HaltsAt unexpected mv rule → Stops spelling unexpected (tokens_of front) (t ∷ ts) rule
  stops_move front last t ts rule reject is r h =
      dead_end h (λ (prefix : IsViablePrefix spelling (tokens_of front ++ t ∷ [])).
      let on = way_on front last (t ∷ prefix.more) prefix.tree r (prefix.text ∙ append_assoc (tokens_of front) (t ∷ []) prefix.more) in
      rejected last t prefix.more prefix.tree on.0 is on.1 on.2)
  stops_move front last t ts rule (shift q next) is r h = past_limit (exceeding front last next t rule r (is ∙ ap (λ p. shift p next) h))

  stops_end : (front : List (Mark Terminal Rule)) (last : State) (f : Fault Rule) → Reaches step last begin front → at_the_end unexpected (finish last) ≡ Err f → Stops spelling unexpected (tokens_of front) [] f.rule
  stops_end front last f r is =
      let end = err_end unexpected f (finish last) is in
      dead_end (ap (λ g. g.rule) end.1) (λ (xs : Tree) (e : tokens_of (spelling xs) ≡ tokens_of front).
      let on = way_on front last [] xs r (e ∙ sym (append-nil (tokens_of front))) in
      ends_here last xs on.0 end.0 on.1 on.2)

  stopping : (front : List (Mark Terminal Rule)) (last : State) (rest : List Terminal) (f : Fault Rule) → Reaches step last begin front → Halts step finish unexpected last rest f → Stops spelling unexpected (tokens_of front) rest f.rule
  stopping front last [] f r h = stops_end front last f r h
  stopping front last (t ∷ ts) f r h = stops_move front last t ts f.rule (step last t) refl r h

  -- a refusal is the first fault
  pub answer_fault : (ts : List Terminal) (f : Fault Rule) → read_from step finish unexpected begin ts ≡ Err f → IsFirstFault spelling unexpected ts f
  answer_fault ts f e =
      let h = answer_err ts begin f e in
      record {
        front = tokens_of h.marks;
        rest = h.rest;
        text = h.text;
        viable = viable h.marks h.last h.reaches h.within;
        place = h.place;
        stops = stopping h.marks h.last h.rest f h.reaches h.halts;
      }

  -- The other way round: the first fault is the answer.

  halted_move : (last : State) (t : Terminal) (ts : List Terminal) (f : Fault Rule) (mv : Move Rule State) → step last t ≡ mv → f.left ≡ length (t ∷ ts) → HaltsAt unexpected mv f.rule → answer last (t ∷ ts) ≡ Err f
  halted_move last t ts f reject is place h = ap (λ mv. follow unexpected mv (length (t ∷ ts)) (λ next. answer next ts)) is ∙ ap Err (λ i. record { rule = sym h i; left = sym place i })
  halted_move last t ts f (shift r next) is place h = ap (λ mv. follow unexpected mv (length (t ∷ ts)) (λ next. answer next ts)) (is ∙ ap (λ q. shift q next) h) ∙ ap Err (λ i. record { rule = f.rule; left = sym place i })

  dead_move : (front : List (Mark Terminal Rule)) (last : State) (t : Terminal) (ts : List Terminal) (f : Fault Rule) (mv : Move Rule State) → step last t ≡ mv → Reaches step last begin front → f.rule ≡ unexpected → f.left ≡ length (t ∷ ts) → (IsViablePrefix spelling (tokens_of front ++ t ∷ []) → ⊥) → answer last (t ∷ ts) ≡ Err f
  dead_move front last t ts f reject is r rule place dead = halted_move last t ts f reject is place rule
  dead_move front last t ts f (shift q next) is r rule place dead =
      let end = reads.ending next in
      let text : spelling end.tree ≡ front ++ mark t q ∷ end.marks = end.text ∙ kept last next t q is end.marks ∙ from_begin r (mark t q ∷ end.marks) in
      absurd (dead (record {
        tree = end.tree;
        more = tokens_of end.marks;
        text = ap tokens_of text ∙ tokens_append front (mark t q ∷ end.marks) ∙ sym (append_assoc (tokens_of front) (t ∷ []) (tokens_of end.marks));
      }))

  dead_at_end : (front : List (Mark Terminal Rule)) (last : State) (f : Fault Rule) (o : Option Tree) → finish last ≡ o → Reaches step last begin front → f.rule ≡ unexpected → f.left ≡ 0 → IsDeadEnd spelling (tokens_of front) [] → answer last [] ≡ Err f
  dead_at_end front last f (Some tree) is r rule place dead =
      absurd (dead tree (ap tokens_of (reads.finished last tree is ∙ from_begin r []) ∙ ap tokens_of (append-nil front)))
  dead_at_end front last f None is r rule place dead =
      ap (at_the_end unexpected) is ∙ ap Err (λ i. record { rule = sym rule i; left = sym place i })

  exceeding_way : (last : State) (t : Terminal) (ts : List Terminal) (f : Fault Rule) (xs : Tree) (m : Mark Terminal Rule) (ms : List (Mark Terminal Rule)) → m.token ≡ t → m.exceeds ≡ Some f.rule → Accepts step finish xs last (m ∷ ms) → f.left ≡ length (t ∷ ts) → answer last (t ∷ ts) ≡ Err f
  exceeding_way last t ts f xs m ms token rule (moves {next = next} step_is l) place =
      halted_move last t ts f (shift (Some f.rule) next) (ap (step last) (sym token) ∙ step_is ∙ ap (λ q. shift q next) rule) place refl

  exceeding_move : (front : List (Mark Terminal Rule)) (last : State) (t : Terminal) (ts : List Terminal) (f : Fault Rule) → Reaches step last begin front → f.left ≡ length (t ∷ ts) → Exceeds spelling (tokens_of front) t f.rule → answer last (t ∷ ts) ≡ Err f
  exceeding_move front last t ts f r place p =
      let all = p.front ++ mark t (Some f.rule) ∷ p.more in
      let accepts = subst (λ ms. Accepts step finish p.tree begin ms) p.text (reads.accepts p.tree) in
      let a = along r all (t ∷ tokens_of p.more) p.tree accepts
      (tokens_append p.front (mark t (Some f.rule) ∷ p.more) ∙ ap (λ l. l ++ t ∷ tokens_of p.more) p.tokens) in
      let rest : a.0 ≡ mark t (Some f.rule) ∷ p.more = same_rest front p.front a.0 _ (sym p.tokens) (sym a.1) in
      exceeding_way last t ts f p.tree _ p.more refl refl (subst (λ ms. Accepts step finish p.tree last ms) rest a.2) place

  stopped_dead : (front : List (Mark Terminal Rule)) (last : State) (rest : List Terminal) (f : Fault Rule) → Reaches step last begin front → f.left ≡ length rest → f.rule ≡ unexpected → IsDeadEnd spelling (tokens_of front) rest → answer last rest ≡ Err f
  stopped_dead front last [] f r place rule dead = dead_at_end front last f (finish last) refl r rule place dead
  stopped_dead front last (t ∷ ts) f r place rule dead = dead_move front last t ts f (step last t) refl r rule place dead

  stopped_past : (front : List (Mark Terminal Rule)) (last : State) (rest : List Terminal) (f : Fault Rule) → Reaches step last begin front → f.left ≡ length rest → ExceedsNext spelling (tokens_of front) rest f.rule → answer last rest ≡ Err f
  stopped_past front last [] f r place p = absurd p
  stopped_past front last (t ∷ ts) f r place p = exceeding_move front last t ts f r place p

  stopped : (front : List (Mark Terminal Rule)) (last : State) (ts rest : List Terminal) (f : Fault Rule) → Reaches step last begin front → f.left ≡ length rest → ts ≡ tokens_of front → Stops spelling unexpected ts rest f.rule → answer last rest ≡ Err f
  stopped front last ts rest f r place same (dead_end is dead) =
      stopped_dead front last rest f r place is (subst (λ l. IsDeadEnd spelling l rest) same dead)
  stopped front last ts rest f r place same (past_limit p) =
      stopped_past front last rest f r place (subst (λ l. ExceedsNext spelling l rest f.rule) same p)

  -- the first fault is the answer
  pub fault_answer : (ts : List Terminal) (f : Fault Rule) → IsFirstFault spelling unexpected ts f → read_from step finish unexpected begin ts ≡ Err f
  fault_answer ts f first =
      let c = first.viable in
      let cut = split c.front c.more begin c.tree (subst (λ ms. Accepts step finish c.tree begin ms) c.text (reads.accepts c.tree)) in
      ap (answer begin) (first.text ∙ ap (λ l. l ++ first.rest) (sym c.tokens))
      ∙ reaches_answer cut.1 c.within first.rest
      ∙ stopped c.front cut.0 first.front first.rest f cut.1 first.place (sym c.tokens) first.stops

  -- a text has one first fault at most
  pub one_fault : (ts : List Terminal) (f g : Fault Rule) → IsFirstFault spelling unexpected ts f → IsFirstFault spelling unexpected ts g → f ≡ g
  one_fault ts f g p q = same_fault f g (answer begin ts) (fault_answer ts f p) (fault_answer ts g q)

  -- and none where it spells a tree
  pub spelled_faultless : (ts : List Terminal) (xs : Tree) (f : Fault Rule) → Spells spelling ts xs → IsFirstFault spelling unexpected ts f → ⊥
  spelled_faultless ts xs f p q = two_answers xs f (answer begin ts) (spells_answer ts xs p) (fault_answer ts f q)

  either : (ts : List Terminal) (r : Result Tree (Fault Rule)) → read_from step finish unexpected begin ts ≡ r → ((xs : Tree) × Spells spelling ts xs) ⊎ ((f : Fault Rule) × IsFirstFault spelling unexpected ts f)
  either ts (Ok xs) e = inl (xs, answer_spells ts xs e)
  either ts (Err f) e = inr (f, answer_fault ts f e)

  -- each text spells a tree or has a first fault
  pub spelled_or_faulty : (ts : List Terminal) → ((xs : Tree) × Spells spelling ts xs) ⊎ ((f : Fault Rule) × IsFirstFault spelling unexpected ts f)
  spelled_or_faulty ts = either ts (answer begin ts) refl
