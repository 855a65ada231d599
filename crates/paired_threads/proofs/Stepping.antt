-- Steps with an access: on both sides, turned, removed, inserted.
use Rattle.std.proofs.Common.{◌≡◌, ℕ, ◌≤◌, Bool, true, false, cond, List, [], ◌∷◌, length, set, Option, Some, None, refl, sym, ap, subst}
use Rattle.std.specs.List.{AllZip}
use Rattle.values_undef.specs.Value.{IsBelow}
use Rattle.values_undef.specs.declared.value.Val.{Val}
use Rattle.values_undef.specs.declared.access.Event.{Event}
use Rattle.values_undef.specs.declared.access.Event.TheVariants.{NaRead, NaWrite, Read, Update as Updated, Miss}
use Rattle.il_syntax.specs.declared.program.Program.{Program}
use Rattle.il_syntax.specs.declared.statement.Atom.{Atom}
use Rattle.il_syntax.specs.declared.statement.Stmt.TheOpen.{Skip, Copy, Load, Store}
use Rattle.il_syntax.specs.Statements.{Head}
use Rattle.il_paths.specs.Code.{Visit, Code, first, first_head, go, AllCode}
use Rattle.thread_core.specs.Programs.{IsProperHead}
use Rattle.il_paths.proofs.Callers.{all_go}
use Rattle.values_undef.specs.Matching.{form_of, values_of, IsEventBelow}
use Rattle.thread_core.specs.Frames.{Stack, evaluated, told, target as register_of, target_of, given_by, advanced, advanced_at, resumed}
use Rattle.validator.specs.Beside.{Beside}
use Rattle.paired_threads.specs.Stacks.{StacksPaired, StacksStep}
use Rattle.paired_threads.proofs.Pending.{pends_more}
use Rattle.paired_threads.proofs.Working.{AreRegistersRelated, frame_after, related, registers_given, registers_new}

-- ---- what an event gives

abbrev gives : Event → Bool
gives (NaRead x v) = true
gives (Read y o v to) = true
gives (Updated y o old new read to) = true
gives (Miss y o old read) = true
gives e = false

abbrev first_of : List Val → Option Val
first_of [] = None
first_of (v ∷ vs) = Some v

given_first : (e : Event) → given_by e ≡ cond (gives (form_of e)) (first_of (values_of e)) None
given_first (NaRead x v) = refl
given_first e = refl

-- both give nothing, or values of which the first is below
pub data AreGivenBelow : Option Val → Option Val → Type 0 where
  nothing : AreGivenBelow None None
  values : {a b : Val} → IsBelow a b → AreGivenBelow (Some a) (Some b)

firsts_below : (xs ys : List Val) → AllZip IsBelow xs ys → AreGivenBelow (first_of xs) (first_of ys)
firsts_below [] [] z = nothing
firsts_below [] (y ∷ ys) z = absurd z
firsts_below (x ∷ xs) [] z = absurd z
firsts_below (x ∷ xs) (y ∷ ys) z = values z.0

given_cond : (b : Bool) (x y : Option Val) → AreGivenBelow x y → AreGivenBelow (cond b x None) (cond b y None)
given_cond true x y h = h
given_cond false x y h = nothing

pub given_below : (e f : Event) → IsEventBelow e f → AreGivenBelow (given_by e) (given_by f)
given_below e f b =
    subst (λ (o : Option Val). AreGivenBelow o (given_by f)) (sym (given_first e))
    (subst (AreGivenBelow (cond (gives (form_of e)) (first_of (values_of e)) None)) (sym (given_first f))
    (subst (λ (d : Event). AreGivenBelow (cond (gives (form_of e)) (first_of (values_of e)) None) (cond (gives d) (first_of (values_of f)) None)) b.form
    (given_cond (gives (form_of e)) _ _ (firsts_below (values_of e) (values_of f) b.values))))

-- ---- the thread

module _ {source target : Program} {t s : Stack} (f : StacksPaired source target t s) (w : Visit) (is_next : first f.top.frames.merged ≡ Some w) where
  -- whatever the registers are after it
  abbrev pub steps : (d : Bool) (ts ss : List Val) (a : Code) → Beside (length f.top.function.source.registers) f.top.function.accepted.role a (go t.top.continuation d) (go f.top.frames.merged d) → AllCode (IsProperHead source (length f.top.function.source.registers)) a
      → AreRegistersRelated (length f.top.function.source.registers) ts ss → StacksStep f w (record t { top = record t.top { registers = ts; continuation = go t.top.continuation d } }) (record s { top = record s.top { registers = ss; continuation = a } })
  steps d ts ss a z h r = record {
    after = record { top = frame_after f.top w d ts ss a is_next z h r; callers = f.callers };
    path = refl;
    pending = λ x. pends_more f.top.function.accepted.role f.top.path w (f.top.function.accepted.role w.site) w.head x refl refl;
  }

  told_steps : (beside : (d : Bool) → Beside (length f.top.function.source.registers) f.top.function.accepted.role (go s.top.continuation d) (go t.top.continuation d) (go f.top.frames.merged d)) (r : Option ℕ) (a b : Option Val) → AreGivenBelow a b
      → StacksStep f w (record t { top = told t.top r a }) (record s { top = told s.top r b })
  told_steps z None a b q = steps true t.top.registers s.top.registers (go s.top.continuation true) (z true) (all_go _ s.top.continuation true f.top.frames.source_proper) (related f.top)
  told_steps z (Some r) None None (nothing) = steps true t.top.registers s.top.registers (go s.top.continuation true) (z true) (all_go _ s.top.continuation true f.top.frames.source_proper) (related f.top)
  told_steps z (Some r) None (Some b) q = elim q [ ]
  told_steps z (Some r) (Some a) None q = elim q [ ]
  told_steps z (Some r) (Some a) (Some b) (values q) =
      steps true (set t.top.registers r a) (set s.top.registers r b) (go s.top.continuation true) (z true) (all_go _ s.top.continuation true f.top.frames.source_proper) (registers_given _ t.top.registers s.top.registers r a b (related f.top) q)

  -- both have an event, and the statement is the same
  pub same_event : (h : Head) (e e' : Event) → first_head s.top.continuation ≡ Some h → first_head t.top.continuation ≡ Some h
      → ((d : Bool) → Beside (length f.top.function.source.registers) f.top.function.accepted.role (go s.top.continuation d) (go t.top.continuation d) (go f.top.frames.merged d)) → IsEventBelow e e' → StacksStep f w (resumed t e) (resumed s e')
  same_event h e e' i j z q =
      subst (λ (o : Option Head). StacksStep f w (record t { top = told t.top (target_of o) (given_by e) }) (resumed s e')) (sym j)
      (subst (λ (o : Option Head). StacksStep f w (record t { top = told t.top (target_of (Some h)) (given_by e) }) (record s { top = told s.top (target_of o) (given_by e') })) (sym i)
      (told_steps z (register_of h) (given_by e) (given_by e') (given_below e e' q)))

  -- a turned load: the target copies an atom, the source reads a value above it
  pub turned_step : (r x : ℕ) (a : Atom) (v : Val) → first_head s.top.continuation ≡ Some (Load r x) → first_head t.top.continuation ≡ Some (Copy r a)
      → Beside (length f.top.function.source.registers) f.top.function.accepted.role (go s.top.continuation true) (go t.top.continuation true) (go f.top.frames.merged true) → IsBelow (evaluated t.top.registers a) v
      → StacksStep f w (advanced target t) (resumed s (NaRead x v))
  turned_step r x a v i j z q =
      subst (λ (o : Stack). StacksStep f w o (resumed s (NaRead x v))) (sym (ap (advanced_at target t) j))
      (subst (λ (o : Option Head). StacksStep f w (advanced_at target t (Some (Copy r a))) (record s { top = told s.top (target_of o) (Some v) })) (sym i)
      (steps true (set t.top.registers r (evaluated t.top.registers a)) (set s.top.registers r v) (go s.top.continuation true) z (all_go _ s.top.continuation true f.top.frames.source_proper)
      (registers_given _ t.top.registers s.top.registers r (evaluated t.top.registers a) v (related f.top) q)))

  -- a removed store
  pub removed_step : (x n : ℕ) (a : Atom) (v : Val) → first_head s.top.continuation ≡ Some (Store x a) → first_head t.top.continuation ≡ Some Skip
      → Beside (length f.top.function.source.registers) f.top.function.accepted.role (go s.top.continuation true) (go t.top.continuation true) (go f.top.frames.merged true) → StacksStep f w (advanced target t) (resumed s (NaWrite x v n))
  removed_step x n a v i j z =
      subst (λ (o : Stack). StacksStep f w o (resumed s (NaWrite x v n))) (sym (ap (advanced_at target t) j))
      (subst (λ (o : Option Head). StacksStep f w (advanced_at target t (Some Skip)) (record s { top = told s.top (target_of o) None })) (sym i)
      (steps true t.top.registers s.top.registers (go s.top.continuation true) z (all_go _ s.top.continuation true f.top.frames.source_proper) (related f.top)))

  -- a load of the target's own
  pub inserted_step : (h x : ℕ) (v : Val) → first_head t.top.continuation ≡ Some (Load h x) → length f.top.function.source.registers ≤ h
      → Beside (length f.top.function.source.registers) f.top.function.accepted.role s.top.continuation (go t.top.continuation true) (go f.top.frames.merged true) → StacksStep f w (resumed t (NaRead x v)) s
  inserted_step h x v j l z =
      subst (λ (o : Option Head). StacksStep f w (record t { top = told t.top (target_of o) (Some v) }) s) (sym j)
      (steps true (set t.top.registers h v) s.top.registers s.top.continuation z f.top.frames.source_proper (registers_new _ t.top.registers s.top.registers h v l (related f.top)))
