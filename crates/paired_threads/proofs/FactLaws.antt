-- Facts along the path that was run stay true.
use Rattle.std.proofs.Common.{◌≡◌, ℕ, Bool, true, false, cond, List, [], ◌∷◌, ◌++◌, Option, Some, None, refl, sym, ap, ◌∙◌, subst}
use Rattle.std.proofs.lemmas.Bool.{false_from_ne_true}
use Rattle.values_undef.specs.declared.value.Val.{Val}
use Rattle.values_undef.specs.Value.{IsBelow}
use Rattle.il_syntax.specs.declared.statement.Atom.{Atom}
use Rattle.il_syntax.specs.Statements.{Head}
use Rattle.il_paths.specs.Code.{Visit}
use Rattle.il_paths.specs.Heads.{is_acquire, is_release, stored_location, is_call}
use Rattle.thread_core.specs.Frames.{evaluated}
use Rattle.flow_facts.specs.declared.level.Level.{Level}
use Rattle.flow_facts.specs.declared.level.Level.TheVariants.{Nothing, Held, Fresh}
use Rattle.flow_facts.specs.declared.level.Kind.TheVariants.{Both}
use Rattle.flow_facts.specs.Levels.{level_by, level_on}
use Rattle.flow_facts.specs.Laws.{Kept}
use Rattle.flow_facts.proofs.Callers.{Came, by_store, by_load, kept, came}
use Rattle.paired_threads.proofs.Pending.{level_more}
use Rattle.paired_threads.specs.Facts.{heard, owed, FactsHold, FactsStay}

nothing_is : (l : Level) → owed None l ≡ l
nothing_is l = refl

-- what is owed is no more than the level
heard_nothing : (acquire : Bool) (l : Level) → l ≡ Nothing → heard acquire l ≡ Nothing
heard_nothing acquire l e = ap (heard acquire) e

owed_nothing : (next : Option Head) (l : Level) → l ≡ Nothing → owed next l ≡ Nothing
owed_nothing None l e = e
owed_nothing (Some h) l e = call (is_call h)
  where
    call : (b : Bool) → cond b Nothing (heard (is_acquire h) l) ≡ Nothing
    call true = refl
    call false = heard_nothing (is_acquire h) l e

heard_fresh : (acquire : Bool) (l : Level) → heard acquire l ≡ Fresh → l ≡ Fresh
heard_fresh acquire Nothing e = e
heard_fresh true Held e = cc
heard_fresh false Held e = e
heard_fresh acquire Fresh e = refl

owed_fresh : (next : Option Head) (l : Level) → owed next l ≡ Fresh → l ≡ Fresh
owed_fresh None l e = e
owed_fresh (Some h) l e = call (is_call h) e
  where
    call : (b : Bool) → cond b Nothing (heard (is_acquire h) l) ≡ Fresh → l ≡ Fresh
    call true f = cc
    call false f = heard_fresh (is_acquire h) l f

-- what a statement keeps was owed before it, whole
heard_whole : (acquire : Bool) (l : Level) → (acquire ≡ true → l ≡ Fresh) → heard acquire l ≡ l
heard_whole acquire Nothing f = refl
heard_whole true Held f = let e : Held ≡ Fresh = f refl in cc
heard_whole false Held f = refl
heard_whole acquire Fresh f = refl

pub owed_whole : (x : ℕ) (a : Atom) (h : Head) (l new : Level) → Kept h x a l new → owed (Some h) l ≡ l
owed_whole x a h l new k = ap (λ (b : Bool). cond b Nothing (heard (is_acquire h) l)) k.no_call ∙ heard_whole (is_acquire h) l k.heard

-- with no statement next all is owed, and before any statement no more
pub owed_before : (path : List Visit) (next : Option Head) (registers : List Val) (read : ℕ → Val) (alone : ℕ → Type 0) → FactsHold path None registers read alone → FactsHold path next registers read alone
owed_before path next registers read alone f = record {
  known = λ x a above. f.known x a (λ e. above (owed_nothing next (level_on x a path) e));
  fresh = λ x a e. f.fresh x a (owed_fresh next (level_on x a path) e);
}

-- nothing is known before the first statement
pub facts_begin : (next : Option Head) (registers : List Val) (read : ℕ → Val) (alone : ℕ → Type 0) → FactsHold [] next registers read alone
facts_begin next registers read alone = record {
  known = λ x a above. absurd (above (owed_nothing next Nothing refl));
  fresh = λ x a e. let f : Nothing ≡ Fresh = owed_fresh next Nothing e in cc;
}

module _ (path : List Visit) (v : Visit) (ts ts' : List Val) (read read' : ℕ → Val) (alone alone' : ℕ → Type 0) (next : Option Head)
    (facts : FactsHold path (Some v.head) ts read alone) (stay : FactsStay v.head ts ts' read read' alone alone') where
  abbrev before : ℕ → Atom → Level
  before x a = level_on x a path

  abbrev after : ℕ → Atom → Level
  after x a = level_on x a (path ++ v ∷ [])

  after_is : (x : ℕ) (a : Atom) → after x a ≡ level_by x a v.head (before x a)
  after_is x a = level_more x a path v v.head refl

  kept_known : (x : ℕ) (a : Atom) (new : Level) → Kept v.head x a (before x a) new → IsBelow (evaluated ts' a) (read' x)
  kept_known x a new k =
      let whole = owed_whole x a v.head (before x a) new k in
      let old : IsBelow (evaluated ts a) (read x) = facts.known x a (λ e. k.above (sym whole ∙ e)) in
      subst (λ z. IsBelow z (read' x)) (sym (stay.registers a k.not_given))
      (stay.read_stays x k.not_stored k.no_call (λ w. facts.fresh x a (whole ∙ k.heard w)) (evaluated ts a) old)

  known_by : (x : ℕ) (a : Atom) (new : Level) → Came x a v.head (before x a) new → IsBelow (evaluated ts' a) (read' x)
  known_by x a new (by_store e fresh) = (stay.stored x a e).0
  known_by x a new (by_load r e f held) = subst (λ b. IsBelow (evaluated ts' b) (read' x)) (sym f) (stay.loaded r x e)
  known_by x a new (kept k) = kept_known x a new k

  fresh_by : (x : ℕ) (a : Atom) (new : Level) → new ≡ Fresh → Came x a v.head (before x a) new → alone' x
  fresh_by x a new f (by_store e fresh) = (stay.stored x a e).1
  fresh_by x a new f (by_load r e g held) = let h : Held ≡ Fresh = sym held ∙ f in cc
  fresh_by x a new f (kept k) =
      let whole = owed_whole x a v.head (before x a) new k in
      stay.alone_stays x k.not_stored k.no_call (false_from_ne_true (is_release v.head) (λ w. k.handed w f)) (facts.fresh x a (whole ∙ k.fresh f))

  -- after the statement they hold for what is owed before the next one, whichever that is
  pub facts_go : FactsHold (path ++ v ∷ []) next ts' read' alone'
  facts_go = record {
    known = λ x a above.
        known_by x a (level_by x a v.head (before x a)) (came Both x a v.head (before x a) (λ e. above (owed_nothing next (after x a) (after_is x a ∙ e))));
    fresh = λ x a e.
        let new : level_by x a v.head (before x a) ≡ Fresh = sym (after_is x a) ∙ owed_fresh next (after x a) e in
        fresh_by x a (level_by x a v.head (before x a)) new (came Both x a v.head (before x a) (λ f. let g : Fresh ≡ Nothing = sym new ∙ f in cc));
  }
