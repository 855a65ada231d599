-- Threads side by side go on side by side.
use Rattle.std.proofs.Common.{◌≡◌, ◌<◌, ℕ, ℤ, ◌+◌, Bool, true, false, cond, nat_lt, List, [], ◌∷◌, length, map, Option, Some, None, refl, sym, ap, ◌∙◌, subst, arith, ◌⊎◌, inl, inr, ⊎_elim}
use Rattle.std.proofs.lemmas.Bool.{false≢true, and_parts, eqb-true, eq-eqb, both_ways, not-true}
use Rattle.std.proofs.lemmas.Option.{none-some, same_Some}
use Rattle.std.proofs.lemmas.List.{length-map}
use Rattle.std.specs.List.{AllZip, AllByRecursion}
use Rattle.std.specs.Option.{IsSomeAnd}
use Rattle.values_undef.specs.Arithmetic.{result_of}
use Rattle.values_undef.specs.declared.arithmetic.Op.{Op}
use Rattle.values_undef.specs.declared.value.Val.{Val}
use Rattle.values_undef.specs.declared.value.Val.TheVariants.{Def, Undef}
use Rattle.values_undef.specs.declared.access.Cause.{Cause}
use Rattle.values_undef.specs.declared.access.Cause.TheVariants as cause
use Rattle.values_undef.specs.declared.access.Access.{Access}
use Rattle.values_undef.specs.declared.access.Access.TheVariants as access
use Rattle.values_undef.specs.declared.access.Event.{Event}
use Rattle.values_undef.specs.declared.access.Event.TheVariants as event
use Rattle.il_syntax.specs.declared.statement.Atom.{Atom}
use Rattle.il_syntax.specs.declared.statement.Atom.TheVariants.{Const, Reg}
use Rattle.il_syntax.specs.declared.statement.Stmt.TheOpen.{Skip, Copy, Compute, Load, Store, AtomicLoad, AtomicStore, Update, Fence, Print, If, While, Call}
use Rattle.il_syntax.specs.declared.program.Function.{Function}
use Rattle.il_syntax.specs.declared.program.Program.{Program}
use Rattle.il_syntax.specs.Statements.{Head}
use Rattle.il_paths.specs.Heads.{gives}
use Rattle.il_paths.specs.Code.{Visit, first, first_head, go}
use Rattle.il_paths.proofs.Callers.{all_first, atoms_equal-true}
use Rattle.thread_core.specs.declared.next.Next.{Next}
use Rattle.thread_core.specs.declared.next.Next.TheVariants as next
use Rattle.thread_core.specs.Programs.{function_at, IsProperHead}
use Rattle.thread_core.specs.Steps.{IsProperFrame, IsProperStack}
use Rattle.thread_core.specs.Asking.{ends_by}
use Rattle.thread_core.specs.Frames.{Frame, Stack, evaluated, evaluated_kind, holds, decided, computed, deepened, next_print, ended, next_at, next_after, next_of, passed, gave, assigned, call_register, received_by, received_at, received, function_result, returned, advanced_at, advanced, target as register_of, target_of, given_by, told, resumed, called}
use Rattle.il_paths.specs.Atoms.{atoms_equal}
use Rattle.tidy.specs.Atoms.{atoms_in, with_atoms, among_atoms}
use Rattle.tidy.specs.Known.{makes, IsKnown}
use Rattle.tidy.specs.Live.{IsLive}
use Rattle.tidy.specs.Accepts.{StandsFor, StatementAccepted, same_but_atoms, is_folded, is_left, assigned_register}
use Rattle.tidy.specs.SameSites.{SameSites}
use Rattle.tidy.proofs.Callers.{reads_put, gives_put, AtHead, at_end, at_visits, at_head, head_next, no_head, ends_code, next_accepted, known_here, unwanted_here, assigned_gives}
use Rattle.lift_tidy.specs.Functions.{TidiedFunction, AllTidied}
use Rattle.lift_tidy.specs.Frames.{FramesTidied}
use Rattle.lift_tidy.specs.Stacks.{StacksTidied, GivesWhatIsRead, TidiedGoOn, both_silent, both_finish, both_ask, both_fail, source_reads, source_fails}
use Rattle.lift_tidy.specs.Laws.{TidiedThreadsGoOn}
use Rattle.lift_tidy.proofs.Atoms.{HasValueOf, stands, all_stand, first_value, second_value, all_values, next_same}
use Rattle.lift_tidy.proofs.Frames.{KeepsOthers, put, put_others, length-put, put_at, read_agrees, after, both_put}
use Rattle.lift_tidy.proofs.Calls.{begins, one_result}
use Rattle.thread_core.proofs.Callers.{same_lengths}

-- ---- small words

abbrev is_silent : Next → Bool
is_silent next.Silent = true
is_silent (next.Access a) = false

not_silent : (a : Access) → next.Access a ≡ next.Silent → ⊥
not_silent a e = false≢true (ap is_silent e)

-- the register that a statement gives is one of 64
given_inside : (p : Program) (h : Head) (r : ℕ) → IsProperHead p 64 h → gives h ≡ Some r → r < 64
given_inside p Skip r q e = absurd (none-some r e)
given_inside p (Copy k a) r q e = let same : k ≡ r = same_Some k r e in omega (arith, q.0, same)
given_inside p (Compute k op a b) r q e = let same : k ≡ r = same_Some k r e in omega (arith, q.0, same)
given_inside p (Load k x) r q e = let same : k ≡ r = same_Some k r e in omega (arith, q.0, same)
given_inside p (Store x a) r q e = absurd (none-some r e)
given_inside p (AtomicLoad k order y) r q e = let same : k ≡ r = same_Some k r e in omega (arith, q.0, same)
given_inside p (AtomicStore order y a) r q e = absurd (none-some r e)
given_inside p (Update k order y kind) r q e = let same : k ≡ r = same_Some k r e in omega (arith, q.0, same)
given_inside p (Fence order) r q e = absurd (none-some r e)
given_inside p (Print a) r q e = absurd (none-some r e)
given_inside p (If a _ _) r q e = absurd (none-some r e)
given_inside p (While a _) r q e = absurd (none-some r e)
given_inside p (Call k f args) r q e = let same : k ≡ r = same_Some k r e in omega (arith, q.0, same)

-- a copy is known after it
copied : (registers : List Val) (k : ℕ) (b : Atom) (r : ℕ) (a : Atom) → k < length registers → makes r a (Copy k b) ≡ true
    → evaluated (put registers (Some k) (evaluated registers b)) (Reg r) ≡ evaluated (put registers (Some k) (evaluated registers b)) a
copied registers k b r a inside m =
    let parts = and_parts _ _ m in
    let inner = and_parts _ _ parts.1 in
    let same : k ≡ r = eqb-true k r parts.0 in
    let is : a ≡ b = atoms_equal-true a b inner.0 in
    put_at registers (Some k) (evaluated registers b) r (ap Some same) (omega (arith, inside, same))
    ∙ ap (evaluated registers) (sym is)
    ∙ sym (put_others registers (Some k) (evaluated registers b) a (λ j e f. both_ways (atoms_equal a (Reg r)) (not-true _ inner.1) (ap (λ (c : Atom). atoms_equal c (Reg r)) (f ∙ ap Reg (sym (same_Some k j e) ∙ same)) ∙ eq-eqb r r refl)))

result_cases : (o : Option Val) → ((w : Val) × (o ≡ Some w)) ⊎ (o ≡ None)
result_cases None = inr refl
result_cases (Some w) = inl (w, refl)

decided_cases : (v : Val) → (decided v ≡ next.Silent) ⊎ (decided v ≡ next.Access (access.Fail cause.Branch))
decided_cases (Def n) = inl refl
decided_cases Undef = inr refl

printed_cases : (v : Val) → ((n : ℤ) × (next_print v ≡ next.Access (access.Print n))) ⊎ (next_print v ≡ next.Access (access.Fail cause.Print))
printed_cases (Def n) = inl (n, refl)
printed_cases Undef = inr refl

deepened_cases : (b : Bool) → (cond b next.Silent (next.Access (access.Fail cause.Depth)) ≡ next.Silent) ⊎ (cond b next.Silent (next.Access (access.Fail cause.Depth)) ≡ next.Access (access.Fail cause.Depth))
deepened_cases true = inl refl
deepened_cases false = inr refl

pub some_of : {A : Type 0} (o : Option A) (P : A → Type 0) → IsSomeAnd o P → (a : A) × (o ≡ Some a) × P a
some_of None P h = absurd h
some_of (Some a) P h = (a, refl, h)

-- ---- a call at a statement

module _ {source target : Program} {t s : Frame} (h : FramesTidied source target t s) (proper : IsProperFrame source s) (u v : Visit) (next_s : first s.continuation ≡ Some u) (next_t : first t.continuation ≡ Some v)
    (site : v.site ≡ u.site) (beside : (d : Bool) → SameSites (go s.continuation d) (go t.continuation d)) where
  here_proper : IsProperHead source 64 u.head
  here_proper = all_first (IsProperHead source 64) s.continuation u.head proper (head_next s.continuation u next_s)

  given_here : (head : Head) → u.head ≡ head → (r : ℕ) → gives head ≡ Some r → r < 64
  given_here head eu r e = given_inside source head r (subst (IsProperHead source 64) eu here_proper) e

  -- the register that both give, and the code after it
  put_here : (head : Head) → u.head ≡ head → gives v.head ≡ gives u.head → (d : Bool) (w : Val)
      → ((r : ℕ) (a : Atom) → makes r a head ≡ true → evaluated (put s.registers (gives head) w) (Reg r) ≡ evaluated (put s.registers (gives head) w) a)
      → FramesTidied source target (record t { registers = put t.registers (gives head) w; continuation = go t.continuation d }) (record s { registers = put s.registers (gives head) w; continuation = go s.continuation d })
  put_here head eu one d w made =
      both_put h u v next_s next_t beside d (gives head) w (ap gives eu) (one ∙ ap gives eu) (given_here head eu) (λ r a m. made r a (sym (ap (makes r a) eu) ∙ m))

  -- what the target leaves
  left_here : (r : ℕ) → assigned_register u.head ≡ Some r → v.head ≡ Skip → (IsLive h.function.new u.site r → ⊥) → (ss : List Val) → length ss ≡ 64 → KeepsOthers (gives u.head) s.registers ss
      → ((k : ℕ) (a : Atom) → makes k a u.head ≡ true → evaluated ss (Reg k) ≡ evaluated ss a)
      → FramesTidied source target (record t { continuation = go t.continuation true }) (record s { registers = ss; continuation = go s.continuation true })
  left_here r e skips dead ss whole others made =
      after h u v next_s next_t beside true t.registers ss h.target_whole whole others made (λ a n. refl) (λ k f. absurd (none-some k (sym (ap gives skips) ∙ f)))
      (λ k q is w n f.
      unwanted_here h.function.old h.function.new h.function.accepted h.source_path h.target_path s.continuation t.continuation u v h.source_run h.target_run next_s next_t site k
      (subst (λ (i : ℕ). IsLive h.function.new u.site i → ⊥) (same_Some r k (sym (assigned_gives u.head r e) ∙ f)) dead) true q is w)

  accepted : StatementAccepted h.function.old h.function.new u.site u.head v.head
  accepted = next_accepted h.function.old h.function.new h.function.accepted h.source_path h.target_path s.continuation t.continuation u v h.source_run h.target_run next_s next_t site

  holds_here : (r : ℕ) (a : Atom) → IsKnown h.function.old u.site r a → evaluated s.registers (Reg r) ≡ evaluated s.registers a
  holds_here r a k = h.known r a (known_here h.function.old h.function.new h.function.accepted h.source_path h.target_path s.continuation t.continuation u v h.source_run h.target_run next_s next_t site r a k)

  -- the target's atoms have the values of the source's
  values_here : (atoms : List Atom) → AllZip (StandsFor (IsKnown h.function.old u.site)) (atoms_in u.head) atoms → v.head ≡ with_atoms u.head atoms → AllZip (HasValueOf t.registers s.registers) (atoms_in u.head) atoms
  values_here atoms z e =
      all_stand t.registers s.registers (IsKnown h.function.old u.site) holds_here (atoms_in u.head) atoms z
      (λ k q. read_agrees h u v next_s next_t beside k (ap (among_atoms k) (ap atoms_in e ∙ reads_put (StandsFor (IsKnown h.function.old u.site)) u.head atoms z) ∙ q))

  -- a result is taken
  received_same : (head : Head) (atoms : List Atom) → u.head ≡ head → gives v.head ≡ gives u.head → (w : Val) → FramesTidied source target (received_by t w (call_register (with_atoms head atoms))) (received_by s w (call_register head))
  received_same Skip atoms eu one w = h
  received_same (Copy k a) atoms eu one w = h
  received_same (Compute k op a b) atoms eu one w = h
  received_same (Load k x) atoms eu one w = h
  received_same (Store x a) atoms eu one w = h
  received_same (AtomicLoad k order y) atoms eu one w = h
  received_same (AtomicStore order y a) atoms eu one w = h
  received_same (Update k order y kind) atoms eu one w = h
  received_same (Fence order) atoms eu one w = h
  received_same (Print a) atoms eu one w = h
  received_same (If a _ _) atoms eu one w = h
  received_same (While a _) atoms eu one w = h
  received_same (Call k f args) atoms eu one w = put_here (Call k f args) eu one true w (λ r a m. absurd (false≢true m))

  received_left : (head : Head) (r : ℕ) → assigned_register head ≡ Some r → (w : Val) → FramesTidied source target t (received_by s w (call_register head))
  received_left (Copy k a) r e w = h
  received_left (Compute k op a b) r e w = h
  received_left (Load k x) r e w = h
  received_left Skip r e w = absurd (none-some r e)
  received_left (Store x a) r e w = absurd (none-some r e)
  received_left (AtomicLoad k order y) r e w = absurd (none-some r e)
  received_left (AtomicStore order y a) r e w = absurd (none-some r e)
  received_left (Update k order y kind) r e w = absurd (none-some r e)
  received_left (Fence order) r e w = absurd (none-some r e)
  received_left (Print a) r e w = absurd (none-some r e)
  received_left (If a _ _) r e w = absurd (none-some r e)
  received_left (While a _) r e w = absurd (none-some r e)
  received_left (Call k f args) r e w = absurd (none-some r e)

  received_here : (w : Val) → StatementAccepted h.function.old h.function.new u.site u.head v.head → FramesTidied source target (received_by t w (call_register v.head)) (received_by s w (call_register u.head))
  received_here w (same_but_atoms atoms z e) =
      subst (λ (g : Head). FramesTidied source target (received_by t w (call_register g)) (received_by s w (call_register u.head))) (sym e) (received_same u.head atoms refl (ap gives e ∙ gives_put u.head atoms) w)
  received_here w (is_folded r op a b m n x old new sa sb result) =
      subst (λ (g : Head). FramesTidied source target (received_by t w (call_register g)) (received_by s w (call_register u.head))) (sym new)
      (subst (λ (g : Head). FramesTidied source target t (received_by s w (call_register g))) (sym old) h)
  received_here w (is_left r old new dead) =
      subst (λ (g : Head). FramesTidied source target (received_by t w (call_register g)) (received_by s w (call_register u.head))) (sym new) (received_left u.head r old w)

pub receives : {source target : Program} {t s : Frame} → FramesTidied source target t s → IsProperFrame source s → (w : Val) → FramesTidied source target (received t w) (received s w)
receives {source} {target} {t} {s} h proper w = choose (at_head h.beside)
  where
    choose : AtHead s.continuation t.continuation → FramesTidied source target (received t w) (received s w)
    choose (at_end es et) =
        subst (λ (o : Option Head). FramesTidied source target (received_at t w o) (received s w)) (sym (no_head t.continuation et))
        (subst (λ (o : Option Head). FramesTidied source target t (received_at s w o)) (sym (no_head s.continuation es)) h)
    choose (at_visits u v es et site beside) =
        subst (λ (o : Option Head). FramesTidied source target (received_at t w o) (received s w)) (sym (head_next t.continuation v et))
        (subst (λ (o : Option Head). FramesTidied source target (received_at t w (Some v.head)) (received_at s w o)) (sym (head_next s.continuation u es))
        (received_here h proper u v es et site beside w (accepted h proper u v es et site beside)))

-- ---- the thread

module _ {source target : Program} (all : AllTidied source target) {t s : Stack} (h : StacksTidied source target t s) (proper : IsProperStack source s) where
  abbrev ts : List Val
  ts = t.top.registers

  abbrev ss : List Val
  ss = s.top.registers

  abbrev dt : ℕ
  dt = 1 + length t.callers

  abbrev ds : ℕ
  ds = 1 + length s.callers

  depths : dt ≡ ds
  depths = ap (λ (n : ℕ). 1 + n) (same_lengths (FramesTidied source target) t.callers s.callers h.callers)

  module _ (u v : Visit) (next_s : first s.top.continuation ≡ Some u) (next_t : first t.top.continuation ≡ Some v) (site : v.site ≡ u.site) (beside : (d : Bool) → SameSites (go s.top.continuation d) (go t.top.continuation d)) where
    -- by the heads of the two statements
    module _ (old new : Head) (eu : u.head ≡ old) (ev : v.head ≡ new) where
      in_s : first_head s.top.continuation ≡ Some old
      in_s = head_next s.top.continuation u next_s ∙ ap Some eu

      in_t : first_head t.top.continuation ≡ Some new
      in_t = head_next t.top.continuation v next_t ∙ ap Some ev

      wants_s : (n : Next) → next_at ss ds old ≡ n → next_of s ≡ n
      wants_s n e = ap (next_after s) in_s ∙ e

      wants_t : (n : Next) → next_at ts dt new ≡ n → next_of t ≡ n
      wants_t n e = ap (next_after t) in_t ∙ e

      stacks_advanced : StacksTidied source target (advanced_at target t (Some new)) (advanced_at source s (Some old)) → StacksTidied source target (advanced target t) (advanced source s)
      stacks_advanced k =
          subst (λ (o : Option Head). StacksTidied source target (advanced_at target t o) (advanced source s)) (sym in_t)
          (subst (λ (o : Option Head). StacksTidied source target (advanced_at target t (Some new)) (advanced_at source s o)) (sym in_s) k)

      silently : next_at ts dt new ≡ next.Silent → next_at ss ds old ≡ next.Silent → StacksTidied source target (advanced_at target t (Some new)) (advanced_at source s (Some old)) → TidiedGoOn source target t s
      silently et es k = both_silent (wants_t next.Silent et) (wants_s next.Silent es) (stacks_advanced k)

      failing : (cause : Cause) → next_at ts dt new ≡ next.Access (access.Fail cause) → next_at ss ds old ≡ next.Access (access.Fail cause) → TidiedGoOn source target t s
      failing cause et es = both_fail cause (wants_t _ et) (wants_s _ es)

      asking : (a : Access) → next_at ts dt new ≡ next.Access a → next_at ss ds old ≡ next.Access a → ends_by a ≡ false
          → ((e : Event) → GivesWhatIsRead a e → FramesTidied source target (told t.top (register_of new) (given_by e)) (told s.top (register_of old) (given_by e))) → TidiedGoOn source target t s
      asking a et es goes k =
          both_ask a (wants_t _ et) (wants_s _ es) goes
          (λ e g.
          subst (λ (o : Option Head). StacksTidied source target (record t { top = told t.top (target_of o) (given_by e) }) (resumed s e)) (sym in_t)
          (subst (λ (o : Option Head). StacksTidied source target (record t { top = told t.top (target_of (Some new)) (given_by e) }) (record s { top = told s.top (target_of o) (given_by e) })) (sym in_s)
          (record { top = k e g; callers = h.callers })))

    -- what an event gives is given on both sides
    told_gives : (r : ℕ) (o : Option Val) → ((w : Val) × (o ≡ Some w)) → ((w : Val) → FramesTidied source target (gave t.top r w) (gave s.top r w)) → FramesTidied source target (told t.top (Some r) o) (told s.top (Some r) o)
    told_gives r o given k = subst (λ (x : Option Val). FramesTidied source target (told t.top (Some r) x) (told s.top (Some r) x)) (sym given.1) (k given.0)

    here_put : (head : Head) → u.head ≡ head → gives v.head ≡ gives u.head → (d : Bool) (w : Val)
        → ((r : ℕ) (a : Atom) → makes r a head ≡ true → evaluated (put ss (gives head) w) (Reg r) ≡ evaluated (put ss (gives head) w) a)
        → FramesTidied source target (record t.top { registers = put ts (gives head) w; continuation = go t.top.continuation d }) (record s.top { registers = put ss (gives head) w; continuation = go s.top.continuation d })
    here_put = put_here h.top proper.top u v next_s next_t site beside

    -- the same statement but for its atoms
    module _ (one : gives v.head ≡ gives u.head) where
      same_step : (head : Head) (bs : List Atom) → u.head ≡ head → v.head ≡ with_atoms head bs → AllZip (HasValueOf ts ss) (atoms_in head) bs → next_at ts dt (with_atoms head bs) ≡ next_at ss ds head → TidiedGoOn source target t s
      same_step Skip bs eu ev z n = silently Skip Skip eu ev refl refl (record { top = here_put Skip eu one true Undef (λ r a m. absurd (false≢true m)); callers = h.callers })
      same_step (Copy k a) bs eu ev z n =
          silently (Copy k a) (with_atoms (Copy k a) bs) eu ev refl refl (record {
            top = subst (λ (w : Val). FramesTidied source target (gave t.top k w) (gave s.top k (evaluated ss a))) (sym (first_value ts ss a a [] bs z))
                (here_put (Copy k a) eu one true (evaluated ss a) (λ r b m. copied ss k a r b (inside k (ap gives eu)) m));
            callers = h.callers;
          })
        where
          inside : (k : ℕ) → gives u.head ≡ Some k → k < length ss
          inside k e = let l = given_here h.top proper.top u v next_s next_t site beside u.head refl k e in omega (arith, l, h.top.source_whole)
      same_step (Compute k op a b) bs eu ev z n =
          ⊎_elim
          (λ (r : (w : Val) × (result_of op (evaluated ss a) (evaluated ss b) ≡ Some w)).
          silently (Compute k op a b) (with_atoms (Compute k op a b) bs) eu ev (n ∙ ap computed r.1) (ap computed r.1) (record {
            top = subst (λ (o : Option Val). FramesTidied source target (assigned t.top k o) (assigned s.top k (result_of op (evaluated ss a) (evaluated ss b))))
                (λ i. result_of op (sym (first_value ts ss a a (b ∷ []) bs z) i) (sym (second_value ts ss a b b [] bs z) i))
                (subst (λ (o : Option Val). FramesTidied source target (assigned t.top k o) (assigned s.top k o)) (sym r.1) (here_put (Compute k op a b) eu one true r.0 (λ r c m. absurd (false≢true m))));
            callers = h.callers;
          }))
          (λ (e : result_of op (evaluated ss a) (evaluated ss b) ≡ None). failing (Compute k op a b) (with_atoms (Compute k op a b) bs) eu ev cause.Divide (n ∙ ap computed e) (ap computed e))
          (result_cases (result_of op (evaluated ss a) (evaluated ss b)))
      same_step (Load k x) bs eu ev z n =
          asking (Load k x) (Load k x) eu ev (access.NaRead x) refl refl refl (λ e g. told_gives k (given_by e) (g refl) (λ w. here_put (Load k x) eu one true w (λ r a m. absurd (false≢true m))))
      same_step (Store x a) bs eu ev z n =
          asking (Store x a) (with_atoms (Store x a) bs) eu ev (access.NaWrite x (evaluated ss a)) n refl refl (λ e g. here_put (Store x a) eu one true Undef (λ r a m. absurd (false≢true m)))
      same_step (AtomicLoad k order y) bs eu ev z n =
          asking (AtomicLoad k order y) (AtomicLoad k order y) eu ev (access.Read y order) refl refl refl (λ e g. told_gives k (given_by e) (g refl) (λ w. here_put (AtomicLoad k order y) eu one true w (λ r a m. absurd (false≢true m))))
      same_step (AtomicStore order y a) bs eu ev z n =
          asking (AtomicStore order y a) (with_atoms (AtomicStore order y a) bs) eu ev (access.Write y order (evaluated ss a)) n refl refl (λ e g. here_put (AtomicStore order y a) eu one true Undef (λ r a m. absurd (false≢true m)))
      same_step (Update k order y kind) bs eu ev z n =
          asking (Update k order y kind) (with_atoms (Update k order y kind) bs) eu ev (access.Update y order (evaluated_kind ss kind)) n refl refl
          (λ e g. told_gives k (given_by e) (g refl) (λ w. here_put (Update k order y kind) eu one true w (λ r a m. absurd (false≢true m))))
      same_step (Fence order) bs eu ev z n =
          asking (Fence order) (Fence order) eu ev (access.Fence order) refl refl refl (λ e g. here_put (Fence order) eu one true Undef (λ r a m. absurd (false≢true m)))
      same_step (Print a) bs eu ev z n =
          ⊎_elim
          (λ (p : (m : ℤ) × (next_print (evaluated ss a) ≡ next.Access (access.Print m))).
          asking (Print a) (with_atoms (Print a) bs) eu ev (access.Print p.0) (n ∙ p.1) p.1 refl (λ e g. here_put (Print a) eu one true Undef (λ r a m. absurd (false≢true m))))
          (λ (e : next_print (evaluated ss a) ≡ next.Access (access.Fail cause.Print)). failing (Print a) (with_atoms (Print a) bs) eu ev cause.Print (n ∙ e) e)
          (printed_cases (evaluated ss a))
      same_step (If a i j) bs eu ev z n =
          ⊎_elim
          (λ (e : decided (evaluated ss a) ≡ next.Silent).
          silently (If a i j) (with_atoms (If a i j) bs) eu ev (n ∙ e) e (record {
            top = subst (λ (d : Bool). FramesTidied source target (passed t.top d) (passed s.top (holds (evaluated ss a)))) (ap holds (sym (first_value ts ss a a [] bs z)))
                (here_put (If a i j) eu one (holds (evaluated ss a)) Undef (λ r a m. absurd (false≢true m)));
            callers = h.callers;
          }))
          (λ (e : decided (evaluated ss a) ≡ next.Access (access.Fail cause.Branch)). failing (If a i j) (with_atoms (If a i j) bs) eu ev cause.Branch (n ∙ e) e)
          (decided_cases (evaluated ss a))
      same_step (While a i) bs eu ev z n =
          ⊎_elim
          (λ (e : decided (evaluated ss a) ≡ next.Silent).
          silently (While a i) (with_atoms (While a i) bs) eu ev (n ∙ e) e (record {
            top = subst (λ (d : Bool). FramesTidied source target (passed t.top d) (passed s.top (holds (evaluated ss a)))) (ap holds (sym (first_value ts ss a a [] bs z)))
                (here_put (While a i) eu one (holds (evaluated ss a)) Undef (λ r a m. absurd (false≢true m)));
            callers = h.callers;
          }))
          (λ (e : decided (evaluated ss a) ≡ next.Access (access.Fail cause.Branch)). failing (While a i) (with_atoms (While a i) bs) eu ev cause.Branch (n ∙ e) e)
          (decided_cases (evaluated ss a))
      same_step (Call k f args) bs eu ev z n =
          ⊎_elim
          (λ (e : deepened ds ≡ next.Silent).
          silently (Call k f args) (Call k f bs) eu ev (n ∙ e) e (record {
            top = subst (λ (vs : List Val). FramesTidied source target (called target f vs) (called source f (map (evaluated ss) args))) (sym (all_values ts ss args bs z)) callee_begins;
            callers = (h.top, h.callers);
          }))
          (λ (e : deepened ds ≡ next.Access (access.Fail cause.Depth)). failing (Call k f args) (Call k f bs) eu ev cause.Depth (n ∙ e) e)
          (deepened_cases (nat_lt ds 64))
        where
          there : (g : Function) × (function_at source f ≡ Some g) × (length args ≡ g.params)
          there = some_of (function_at source f) _ (subst (IsProperHead source 64) eu (here_proper h.top proper.top u v next_s next_t site beside)).1

          pair : TidiedFunction source target f
          pair = all f there.0 there.1

          callee_begins : FramesTidied source target (called target f (map (evaluated ss) args)) (called source f (map (evaluated ss) args))
          callee_begins = begins f pair (map (evaluated ss) args) (length-map args (evaluated ss) ∙ there.2 ∙ ap (λ (g : Function). g.params) (same_Some there.0 pair.old (sym there.1 ∙ pair.source_has)))

    -- a computation that the target has done
    folded_step : (k : ℕ) (op : Op) (a b : Atom) (m n x : ℤ) → u.head ≡ Compute k op a b → v.head ≡ Copy k (Const x) → StandsFor (IsKnown h.top.function.old u.site) a (Const m) → StandsFor (IsKnown h.top.function.old u.site) b (Const n) → result_of op (Def m) (Def n) ≡ Some (Def x)
        → TidiedGoOn source target t s
    folded_step k op a b m n x eu ev sa sb e =
        silently (Compute k op a b) (Copy k (Const x)) eu ev refl (ap computed result) (record {
          top = subst (λ (o : Option Val). FramesTidied source target (gave t.top k (Def x)) (assigned s.top k o)) (sym result) (here_put (Compute k op a b) eu (ap gives ev ∙ sym (ap gives eu)) true (Def x) (λ r c m. absurd (false≢true m)));
          callers = h.callers;
        })
      where
        constant : (c : Atom) (i : ℤ) → StandsFor (IsKnown h.top.function.old u.site) c (Const i) → Def i ≡ evaluated ss c
        constant c i k = stands ts ss (IsKnown h.top.function.old u.site) (holds_here h.top proper.top u v next_s next_t site beside) c (Const i) k (λ j e. absurd (false≢true e))

        result : result_of op (evaluated ss a) (evaluated ss b) ≡ Some (Def x)
        result = (λ i. result_of op (sym (constant a m sa) i) (sym (constant b n sb) i)) ∙ e

    -- an assignment that the target leaves
    left_put : (head : Head) (k : ℕ) (w : Val) → u.head ≡ head → assigned_register head ≡ Some k → v.head ≡ Skip → (IsLive h.top.function.new u.site k → ⊥)
        → ((r : ℕ) (a : Atom) → makes r a head ≡ true → evaluated (put ss (Some k) w) (Reg r) ≡ evaluated (put ss (Some k) w) a) → FramesTidied source target (passed t.top true) (gave s.top k w)
    left_put head k w eu e ev dead made =
        left_here h.top proper.top u v next_s next_t site beside k (ap assigned_register eu ∙ e) ev dead (put ss (Some k) w) (length-put ss (Some k) w ∙ h.top.source_whole)
        (subst (λ (o : Option ℕ). KeepsOthers o ss (put ss (Some k) w)) (sym (ap gives eu ∙ assigned_gives head k e)) (put_others ss (Some k) w))
        (λ r a m. made r a (sym (ap (makes r a) eu) ∙ m))

    left_step : (head : Head) (k : ℕ) → u.head ≡ head → assigned_register head ≡ Some k → v.head ≡ Skip → (IsLive h.top.function.new u.site k → ⊥) → TidiedGoOn source target t s
    left_step (Copy j a) k eu e ev dead =
        silently (Copy j a) Skip eu ev refl refl (record {
          top = left_put (Copy j a) j (evaluated ss a) eu refl ev (subst (λ (i : ℕ). IsLive h.top.function.new u.site i → ⊥) (sym (same_Some j k e)) dead)
              (λ r b m. copied ss j a r b (let l = given_here h.top proper.top u v next_s next_t site beside (Copy j a) eu j refl in omega (arith, l, h.top.source_whole)) m);
          callers = h.callers;
        })
    left_step (Compute j op a b) k eu e ev dead =
        ⊎_elim
        (λ (r : (w : Val) × (result_of op (evaluated ss a) (evaluated ss b) ≡ Some w)).
        silently (Compute j op a b) Skip eu ev refl (ap computed r.1) (record {
          top = subst (λ (o : Option Val). FramesTidied source target (passed t.top true) (assigned s.top j o)) (sym r.1)
              (left_put (Compute j op a b) j r.0 eu refl ev (subst (λ (i : ℕ). IsLive h.top.function.new u.site i → ⊥) (sym (same_Some j k e)) dead) (λ i c m. absurd (false≢true m)));
          callers = h.callers;
        }))
        (λ (f : result_of op (evaluated ss a) (evaluated ss b) ≡ None).
        source_fails cause.Divide (wants_t (Compute j op a b) Skip eu ev next.Silent refl) (wants_s (Compute j op a b) Skip eu ev (next.Access (access.Fail cause.Divide)) (ap computed f)))
        (result_cases (result_of op (evaluated ss a) (evaluated ss b)))
    left_step (Load j x) k eu e ev dead =
        source_reads x (wants_t (Load j x) Skip eu ev next.Silent refl) (wants_s (Load j x) Skip eu ev (next.Access (access.NaRead x)) refl)
        (λ w.
        subst (λ (o : Option Head). StacksTidied source target (advanced_at target t o) (resumed s (event.NaRead x w))) (sym (in_t (Load j x) Skip eu ev))
        (subst (λ (o : Option Head). StacksTidied source target (advanced_at target t (Some Skip)) (record s { top = told s.top (target_of o) (Some w) })) (sym (in_s (Load j x) Skip eu ev))
        (record {
          top = left_put (Load j x) j w eu refl ev (subst (λ (i : ℕ). IsLive h.top.function.new u.site i → ⊥) (sym (same_Some j k e)) dead) (λ i c m. absurd (false≢true m));
          callers = h.callers;
        })))
    left_step Skip k eu e ev dead = absurd (none-some k e)
    left_step (Store x a) k eu e ev dead = absurd (none-some k e)
    left_step (AtomicLoad j order y) k eu e ev dead = absurd (none-some k e)
    left_step (AtomicStore order y a) k eu e ev dead = absurd (none-some k e)
    left_step (Update j order y kind) k eu e ev dead = absurd (none-some k e)
    left_step (Fence order) k eu e ev dead = absurd (none-some k e)
    left_step (Print a) k eu e ev dead = absurd (none-some k e)
    left_step (If a _ _) k eu e ev dead = absurd (none-some k e)
    left_step (While a _) k eu e ev dead = absurd (none-some k e)
    left_step (Call j f args) k eu e ev dead = absurd (none-some k e)

    at_statement : StatementAccepted h.top.function.old h.top.function.new u.site u.head v.head → TidiedGoOn source target t s
    at_statement (same_but_atoms atoms z e) =
        let values = values_here h.top proper.top u v next_s next_t site beside atoms z e in
        same_step (ap gives e ∙ gives_put u.head atoms) u.head atoms refl e values (next_same ts ss dt u.head atoms values ∙ ap (λ (d : ℕ). next_at ss d u.head) depths)
    at_statement (is_folded k op a b m n x old new sa sb e) = folded_step k op a b m n x old new sa sb e
    at_statement (is_left k old new dead) = left_step u.head k refl old new dead

  -- at the end of the top call
  module _ (end_s : first s.top.continuation ≡ None) (end_t : first t.top.continuation ≡ None) where
    returns : (xs ys : List Frame) → AllZip (FramesTidied source target) xs ys → AllByRecursion (IsProperFrame source) ys → t.callers ≡ xs → s.callers ≡ ys → TidiedGoOn source target t s
    returns [] [] z q et es =
        both_finish (ap (next_after t) (no_head t.top.continuation end_t) ∙ ap ended et) (ap (next_after s) (no_head s.top.continuation end_s) ∙ ap ended es)
    returns [] (y ∷ ys) z q et es = absurd z
    returns (x ∷ xs) [] z q et es = absurd z
    returns (x ∷ xs) (y ∷ ys) z q et es =
        both_silent (ap (next_after t) (no_head t.top.continuation end_t) ∙ ap ended et) (ap (next_after s) (no_head s.top.continuation end_s) ∙ ap ended es)
        (subst (λ (o : Option Head). StacksTidied source target (advanced_at target t o) (advanced source s)) (sym (no_head t.top.continuation end_t))
        (subst (λ (o : Option Head). StacksTidied source target (advanced_at target t None) (advanced_at source s o)) (sym (no_head s.top.continuation end_s))
        (subst (λ (cs : List Frame). StacksTidied source target (returned target t.top t cs) (returned source s.top s s.callers)) (sym et)
        (subst (λ (cs : List Frame). StacksTidied source target (returned target t.top t (x ∷ xs)) (returned source s.top s cs)) (sym es)
        (record {
          top = subst (λ (w : Val). FramesTidied source target (received x w) (received y (function_result source s.top))) (sym (one_result h.top (ends_code s.top.continuation end_s) (ends_code t.top.continuation end_t)))
              (receives z.0 q.0 (function_result source s.top));
          callers = z.1;
        })))))

  pub threads_go_on : TidiedGoOn source target t s
  threads_go_on = choose (at_head h.top.beside)
    where
      choose : AtHead s.top.continuation t.top.continuation → TidiedGoOn source target t s
      choose (at_end es et) = returns es et t.callers s.callers h.callers proper.callers refl refl
      choose (at_visits u v es et site beside) = at_statement u v es et site beside (accepted h.top proper.top u v es et site beside)

pub tidied_threads : TidiedThreadsGoOn
tidied_threads source target t s all h proper = threads_go_on all h proper
