-- A silent step of a thread: in its top call, by a further call, by a return.
use Rattle.std.proofs.Common.{◌≡◌, ℕ, zero, suc, ◌+◌, ◌<◌, Bool, true, false, List, [], ◌∷◌, ◌++◌, length, map, get_or, set, Option, Some, None, refl, sym, ap, ◌∙◌, subst, arith, ◌⊎◌, inl, inr, ⊎_elim}
use Rattle.std.proofs.lemmas.Option.{none-some, same_Some}
use Rattle.std.specs.List.{AllZip, AllByRecursion}
use Rattle.std.specs.Option.{IsSomeAnd}
use Rattle.values_undef.specs.Value.{IsBelow}
use Rattle.values_undef.specs.declared.value.Val.{Val}
use Rattle.values_undef.specs.declared.value.Val.TheVariants.{Def, Undef}
use Rattle.values_undef.specs.declared.access.Cause.{Cause}
use Rattle.il_syntax.specs.declared.program.Function.{Function}
use Rattle.il_syntax.specs.declared.program.Program.{Program}
use Rattle.il_syntax.specs.declared.statement.Atom.{Atom}
use Rattle.il_syntax.specs.declared.statement.Stmt.TheOpen.{Skip, Copy, Compute, Load, Store, AtomicLoad, AtomicStore, Update, Fence, Print, If, While, Call}
use Rattle.il_syntax.specs.Statements.{Head}
use Rattle.il_paths.specs.Tree.{tree_of}
use Rattle.il_paths.specs.Code.{Visit, Code, End, Plain, Branch, Loop, placed, first, first_head, go, AllCode}
use Rattle.il_paths.specs.Paths.{RunsTo, here}
use Rattle.il_paths.proofs.Callers.{all_placed, all_first, all_go}
use Rattle.values_undef.specs.Matching.{ValuesBelow, finishes}
use Rattle.thread_core.specs.declared.next.Next.{Next}
use Rattle.thread_core.specs.declared.next.Next.TheVariants as next
use Rattle.thread_core.specs.Programs.{function_at, body_in, code_of, IsProperHead, IsProperFunction}
use Rattle.thread_core.specs.Frames.{Frame, Stack, evaluated, next_at, next_of, next_after, ended, called, gave, received, received_at, received_by, function_result, returned, worked, advanced, advanced_at, called_function, callee, IsCall, blank}
use Rattle.flow_facts.specs.declared.level.Level.{Level}
use Rattle.flow_facts.specs.declared.level.Level.TheVariants.{Nothing}
use Rattle.flow_facts.specs.Levels.{level_on}
use Rattle.validator.specs.declared.role.Role.{Role}
use Rattle.validator.specs.declared.role.Role.TheVariants.{Same}
use Rattle.validator.specs.Roles.{pends}
use Rattle.validator.specs.Beside.{StartsLoop, Beside}
use Rattle.paired_threads.specs.Laws.{ThreadsGoOn}
use Rattle.paired_threads.specs.Functions.{PairedFunction}
use Rattle.paired_threads.specs.Wants.{IsNextBelow, both_silent, both_ask}
use Rattle.paired_threads.specs.Stacks.{CallPaired, CallerPaired, StacksPaired, StacksGoOn, AllPaired}
use Rattle.paired_threads.proofs.Beside.{AtHead, at_end, at_same, at_turned, at_removed, at_inserted, at_head}
use Rattle.paired_threads.proofs.Below.{atoms_below}
use Rattle.paired_threads.proofs.Pending.{level_more}
use Rattle.paired_threads.proofs.Calls.{calls_begin_paired, results_are_below}
use Rattle.paired_threads.proofs.Wants.{next_below}
use Rattle.paired_threads.proofs.Working.{frame_after, related, registers_given, pends_same, asks_not_silent, works}
use Rattle.thread_core.proofs.Callers.{same_lengths}

-- a call of a function on both sides
abbrev pub called_paired : {source target : Program} (k : ℕ) (vs ws : List Val) → PairedFunction source target k → ValuesBelow vs ws → CallPaired source target (called target k vs) (called source k ws)
called_paired {source} {target} k vs ws pair z = record { number = k; function = pair; path = []; frames = calls_begin_paired source target k pair vs ws z }

-- a caller takes a result, and its call is done
pub record Receives {source target : Program} {t s : Frame} (c : CallerPaired source target t s) (t' s' : Frame) : Type 0 where
  pub after : CallPaired source target t' s'
  pub settled : (x : ℕ) → pends after.function.accepted.role x after.path ≡ false
  pub levels : (x : ℕ) (a : Atom) → level_on x a after.path ≡ Nothing

no_call : (h : Option Head) → callee h ≡ None → IsCall h → ⊥
no_call h e c = none-some c.0 (sym e ∙ c.1)

called_is_call : (h : Head) → IsCall (Some h) → (i : ℕ) × (g : ℕ) × (args : List Atom) × (h ≡ Call i g args)
called_is_call (Call i g args) c = (i, g, args, refl)
called_is_call Skip c = absurd (none-some c.0 c.1)
called_is_call (Copy i a) c = absurd (none-some c.0 c.1)
called_is_call (Compute i op a d) c = absurd (none-some c.0 c.1)
called_is_call (Load i x) c = absurd (none-some c.0 c.1)
called_is_call (Store x a) c = absurd (none-some c.0 c.1)
called_is_call (AtomicLoad i o y) c = absurd (none-some c.0 c.1)
called_is_call (AtomicStore o y a) c = absurd (none-some c.0 c.1)
called_is_call (Update i o y kind) c = absurd (none-some c.0 c.1)
called_is_call (Fence order) c = absurd (none-some c.0 c.1)
called_is_call (Print a) c = absurd (none-some c.0 c.1)
called_is_call (If a i j) c = absurd (none-some c.0 c.1)
called_is_call (While a i) c = absurd (none-some c.0 c.1)

receives_same : {source target : Program} {t s : Frame} (c : CallerPaired source target t s) (v u : Val) → IsBelow v u → (i g : ℕ) (args : List Atom) (w : Visit) → first_head s.continuation ≡ Some (Call i g args) → first_head t.continuation ≡ Some (Call i g args)
    → first c.call.frames.merged ≡ Some w → w.head ≡ Call i g args → c.call.function.accepted.role w.site ≡ Same
    → ((d : Bool) → Beside (length c.call.function.source.registers) c.call.function.accepted.role (go s.continuation d) (go t.continuation d) (go c.call.frames.merged d)) → Receives c (received t v) (received s u)
receives_same {source} {target} {t} {s} c v u below i g args w e f m k r b =
    subst (λ (x : Frame). Receives c x (received s u)) (sym (ap (received_at t v) f))
    (subst (λ (y : Frame). Receives c (gave t i v) y) (sym (ap (received_at s u) e)) (record {
      after = frame_after c.call w true (set t.registers i v) (set s.registers i u) (go s.continuation true) m (b true) (all_go _ s.continuation true c.call.frames.source_proper)
          (registers_given (length c.call.function.source.registers) t.registers s.registers i v u (related c.call) below);
      settled = λ x. pends_same c.call.function.accepted.role x c.call.path w (Call i g args) r k ∙ c.call.function.accepted.call_settled c.call.path c.call.frames.merged w i g args c.call.frames.run m k x;
      levels = λ x a. level_more x a c.call.path w (Call i g args) k;
    }))

pub receives : {source target : Program} {t s : Frame} (c : CallerPaired source target t s) (v u : Val) → IsBelow v u → Receives c (received t v) (received s u)
receives {source} {target} {t} {s} c v u below = choose (at_head c.call.frames.beside)
  where
    choose : AtHead (length c.call.function.source.registers) c.call.function.accepted.role s.continuation t.continuation c.call.frames.merged → Receives c (received t v) (received s u)
    choose (at_end e f m) = absurd (no_call _ (ap callee f) c.waits)
    choose (at_turned r x a w e f m k q b) = absurd (no_call _ (ap callee f) c.waits)
    choose (at_removed x a w e f m k q b) = absurd (no_call _ (ap callee f) c.waits)
    choose (at_inserted h x w l f m k q o b) = absurd (no_call _ (ap callee f) c.waits)
    choose (at_same h w e f m k q b) =
        let is = called_is_call h (subst IsCall f c.waits) in
        receives_same c v u below is.0 is.1 is.2 w (e ∙ ap Some is.3) (f ∙ ap Some is.3) m (k ∙ is.3) q b

-- ---- the thread

pub some_of : {A : Type 0} (o : Option A) (P : A → Type 0) → IsSomeAnd o P → (a : A) × (o ≡ Some a)
some_of None P h = absurd h
some_of (Some a) P h = (a, refl)

-- a statement that is no call works in the top frame
advanced_works : (p : Program) (s : Stack) (h : Head) → ((g : ℕ) → called_function h ≡ Some g → ⊥) → advanced_at p s (Some h) ≡ record s { top = worked s.top h }
advanced_works p s Skip n = refl
advanced_works p s (Copy i a) n = refl
advanced_works p s (Compute i op a d) n = refl
advanced_works p s (Load i x) n = refl
advanced_works p s (Store x a) n = refl
advanced_works p s (AtomicLoad i o y) n = refl
advanced_works p s (AtomicStore o y a) n = refl
advanced_works p s (Update i o y kind) n = refl
advanced_works p s (Fence order) n = refl
advanced_works p s (Print a) n = refl
advanced_works p s (If a i j) n = refl
advanced_works p s (While a i) n = refl
advanced_works p s (Call i g args) n = absurd (n g refl)

-- a loop is at no load
loop_loads_not : (c : Code) → StartsLoop c → (r x : ℕ) → first_head c ≡ Some (Load r x) → ⊥
loop_loads_not End h r x e = absurd h
loop_loads_not (Plain v rest) h r x e = absurd h
loop_loads_not (Branch v y n rest) h r x e = absurd h
loop_loads_not (Loop v body rest) h r x e = let c : While h.0 tt ≡ Load r x = sym h.1 ∙ same_Some v.head (Load r x) e in cc

module _ {source target : Program} (pairs : AllPaired source target) {t s : Stack} (f : StacksPaired source target t s) where
  -- what the two want at equal statements, and at the end of the top call
  pub same_next : (h : Head) → first_head s.top.continuation ≡ Some h → first_head t.top.continuation ≡ Some h → IsNextBelow (next_of t) (next_of s)
  same_next h e g =
      subst (λ (n : Next). IsNextBelow n (next_of s)) (sym (ap (next_after t) g))
      (subst (λ (n : Next). IsNextBelow (next_after t (Some h)) n) (sym (ap (next_after s) e))
      (subst (λ (d : ℕ). IsNextBelow (next_at t.top.registers d h) (next_at s.top.registers (1 + length s.callers) h)) (sym (ap (λ (n : ℕ). 1 + n) (same_lengths _ t.callers s.callers f.callers)))
      (next_below source (length f.top.function.source.registers) (1 + length s.callers) t.top.registers s.top.registers h f.top.frames.registers (all_first _ s.top.continuation h f.top.frames.source_proper e))))

  pub end_next : first_head s.top.continuation ≡ None → first_head t.top.continuation ≡ None → IsNextBelow (next_of t) (next_of s)
  end_next e g =
      subst (λ (n : Next). IsNextBelow n (next_of s)) (sym (ap (next_after t) g))
      (subst (λ (n : Next). IsNextBelow (ended t.callers) n) (sym (ap (next_after s) e)) (ends t.callers s.callers f.callers))
    where
      ends : (xs ys : List Frame) → AllZip (CallerPaired source target) xs ys → IsNextBelow (ended xs) (ended ys)
      ends [] [] z = both_ask finishes
      ends [] (y ∷ ys) z = absurd z
      ends (x ∷ xs) [] z = absurd z
      ends (x ∷ xs) (y ∷ ys) z = both_silent

  works_on : (h : Head) (w : Visit) → first_head s.top.continuation ≡ Some h → first_head t.top.continuation ≡ Some h → first f.top.frames.merged ≡ Some w → w.head ≡ h → f.top.function.accepted.role w.site ≡ Same
      → ((d : Bool) → Beside (length f.top.function.source.registers) f.top.function.accepted.role (go s.top.continuation d) (go t.top.continuation d) (go f.top.frames.merged d)) → next_of s ≡ next.Silent → ((g : ℕ) → called_function h ≡ Some g → ⊥)
      → StacksGoOn f (advanced target t) (advanced source s)
  works_on h w e g m k r b silent other =
      let went = works f.top w m r b h (1 + length s.callers) k (all_first _ s.top.continuation h f.top.frames.source_proper e) (sym (ap (next_after s) e) ∙ silent) other in
      subst (λ (x : Stack). StacksGoOn f x (advanced source s)) (sym (ap (advanced_at target t) g ∙ advanced_works target t h other))
      (subst (λ (y : Stack). StacksGoOn f (record t { top = worked t.top h }) y) (sym (ap (advanced_at source s) e ∙ advanced_works source s h other))
      (record { after = record { top = went.after; callers = f.callers }; pending = went.pending; levels = went.levels }))

  calls_on : (i k : ℕ) (args : List Atom) (w : Visit) → first_head s.top.continuation ≡ Some (Call i k args) → first_head t.top.continuation ≡ Some (Call i k args) → first f.top.frames.merged ≡ Some w → w.head ≡ Call i k args
      → StacksGoOn f (advanced target t) (advanced source s)
  calls_on i k args w e g m q =
      let proper = all_first _ s.top.continuation (Call i k args) f.top.frames.source_proper e in
      let there = some_of (function_at source k) _ proper.1 in
      let settled : (x : ℕ) → pends f.top.function.accepted.role x f.top.path ≡ false = λ x. f.top.function.accepted.call_settled f.top.path f.top.frames.merged w i k args f.top.frames.run m q x in
      subst (λ (x : Stack). StacksGoOn f x (advanced source s)) (sym (ap (advanced_at target t) g))
      (subst (λ (y : Stack). StacksGoOn f (advanced_at target t (Some (Call i k args))) y) (sym (ap (advanced_at source s) e))
      (record {
        after = record {
          top = called_paired k _ _ (pairs k there.0 there.1) (atoms_below (length f.top.function.source.registers) t.top.registers s.top.registers f.top.frames.registers args proper.2);
          callers = (record { call = f.top; waits = (k, ap callee g) }, f.callers);
        };
        pending = λ x. sym (settled x);
        levels = λ x a. inl refl;
      }))

  -- a silent step at equal statements
  pub same_silent : (h : Head) (w : Visit) → first_head s.top.continuation ≡ Some h → first_head t.top.continuation ≡ Some h → first f.top.frames.merged ≡ Some w → w.head ≡ h → f.top.function.accepted.role w.site ≡ Same
      → ((d : Bool) → Beside (length f.top.function.source.registers) f.top.function.accepted.role (go s.top.continuation d) (go t.top.continuation d) (go f.top.frames.merged d)) → next_of s ≡ next.Silent
      → StacksGoOn f (advanced target t) (advanced source s)
  same_silent (Call i k args) w e g m q r b silent = calls_on i k args w e g m q
  same_silent Skip w e g m k r b silent = works_on Skip w e g m k r b silent (λ i o. none-some i o)
  same_silent (Copy i a) w e g m k r b silent = works_on (Copy i a) w e g m k r b silent (λ i o. none-some i o)
  same_silent (Compute i op a d) w e g m k r b silent = works_on (Compute i op a d) w e g m k r b silent (λ i o. none-some i o)
  same_silent (Load i x) w e g m k r b silent = works_on (Load i x) w e g m k r b silent (λ i o. none-some i o)
  same_silent (Store x a) w e g m k r b silent = works_on (Store x a) w e g m k r b silent (λ i o. none-some i o)
  same_silent (AtomicLoad i o y) w e g m k r b silent = works_on (AtomicLoad i o y) w e g m k r b silent (λ i o. none-some i o)
  same_silent (AtomicStore o y a) w e g m k r b silent = works_on (AtomicStore o y a) w e g m k r b silent (λ i o. none-some i o)
  same_silent (Update i o y kind) w e g m k r b silent = works_on (Update i o y kind) w e g m k r b silent (λ i o. none-some i o)
  same_silent (Fence order) w e g m k r b silent = works_on (Fence order) w e g m k r b silent (λ i o. none-some i o)
  same_silent (Print a) w e g m k r b silent = works_on (Print a) w e g m k r b silent (λ i o. none-some i o)
  same_silent (If a i j) w e g m k r b silent = works_on (If a i j) w e g m k r b silent (λ i o. none-some i o)
  same_silent (While a i) w e g m k r b silent = works_on (While a i) w e g m k r b silent (λ i o. none-some i o)

  -- a return
  pub end_silent : first_head s.top.continuation ≡ None → first_head t.top.continuation ≡ None → f.top.frames.merged ≡ End → next_of s ≡ next.Silent → StacksGoOn f (advanced target t) (advanced source s)
  end_silent e g m silent =
      subst (λ (x : Stack). StacksGoOn f x (advanced source s)) (sym (ap (advanced_at target t) g))
      (subst (λ (y : Stack). StacksGoOn f (advanced_at target t None) y) (sym (ap (advanced_at source s) e)) (returns t.callers s.callers f.callers (sym (ap (next_after s) e) ∙ silent)))
    where
      settled : (x : ℕ) → pends f.top.function.accepted.role x f.top.path ≡ false
      settled x = f.top.function.accepted.end_settled f.top.path (subst (RunsTo (placed 0 f.top.function.accepted.merged) f.top.path) m f.top.frames.run) x

      returns : (xs ys : List Frame) → AllZip (CallerPaired source target) xs ys → ended ys ≡ next.Silent → StacksGoOn f (returned target t.top t xs) (returned source s.top s ys)
      returns [] [] z h = absurd (asks_not_silent _ refl h)
      returns [] (y ∷ ys) z h = absurd z
      returns (x ∷ xs) [] z h = absurd z
      returns (x ∷ xs) (y ∷ ys) z h =
          let r = receives z.0 (function_result target t.top) (function_result source s.top) (results_are_below source target f.top.number f.top.function f.top.path t.top s.top f.top.frames) in
          record { after = record { top = r.after; callers = z.1 }; pending = λ i. r.settled i ∙ sym (settled i); levels = λ i a. inl (r.levels i a) }

  -- at one statement the threads go on: no other role has equal statements
  goes_by : AtHead (length f.top.function.source.registers) f.top.function.accepted.role s.top.continuation t.top.continuation f.top.frames.merged → first_head t.top.continuation ≡ first_head s.top.continuation → next_of s ≡ next.Silent
      → StacksGoOn f (advanced target t) (advanced source s)
  goes_by (at_end e g m) one silent = end_silent e g m silent
  goes_by (at_same h w e g m k r b) one silent = same_silent h w e g m k r b silent
  goes_by (at_turned r x a w e g m k q b) one silent = let c : Load r x ≡ Copy r a = same_Some (Load r x) (Copy r a) (sym e ∙ sym one ∙ g) in cc
  goes_by (at_removed x a w e g m k q b) one silent = let c : Store x a ≡ Skip = same_Some (Store x a) Skip (sym e ∙ sym one ∙ g) in cc
  goes_by (at_inserted r x w starts g m k q o b) one silent = absurd (loop_loads_not s.top.continuation starts r x (sym one ∙ g))

pub threads_go_on : ThreadsGoOn
threads_go_on source target t s pairs f one silent = goes_by pairs f (at_head f.top.frames.beside) one silent
