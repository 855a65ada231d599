-- What the three parts of a thread's view are in terms of the sets, after one entry more.
use Rattle.std.proofs.Common.{◌≡◌, ℕ, suc, ◌<◌, ◌≤◌, ◌⊎◌, inl, inr, Bool, true, false, ◌&&◌, cond, List, length, get_or, Some, None, refl, sym, subst, ◌∙◌}
use Rattle.std.proofs.lemmas.Bool.{false≢true, true≢false}
use Rattle.std.proofs.lemmas.Option.{none-some, same_Some}
use Rattle.values_undef.specs.Access.{acquires, releases}
use Rattle.values_undef.specs.declared.access.Order.{Order}
use Rattle.values_undef.specs.declared.access.Order.TheVariants.{Rlx, Acq, Rel, AcqRel}
use Rattle.views.specs.Timestamps.{raised, joined}
use Rattle.views.specs.ThreadView.{ThreadView, raised_view, heard, fenced}
use Rattle.views.proofs.Callers.{length-raised}
use Rattle.message_memory.specs.declared.history.Call.{Call}
use Rattle.message_memory.specs.Step.{acquires_by, releases_by}
use Rattle.exec_graph.specs.Entries.{thread_at, access_at, event_at, Stamp, read_by, is_fence, is_acquire_fence, is_release_fence}
use Rattle.exec_graph.proofs.Sets.{UpTo, Cur, Given, Got, Carried, Read, Acquired, past_parts, cur_past, acquired_past, cur_old, cur_new, cur_more, heard_old, heard_new, heard_more, carried_old, carried_more, carried_new, carried_fence}
use Rattle.exec_graph.proofs.Agrees.{Agrees, same_set, union, later, one_more, one_more_plain}

-- ---- the sets of the entry's own thread

cur_to : (calls : List Call) (n a : ℕ) → Cur calls (suc n) (thread_at calls n) a → (Cur calls n (thread_at calls n) a ⊎ (a ≡ n)) ⊎ Acquired calls n a
cur_to calls n a h = elim (cur_more calls n (thread_at calls n) a h) as (λ _. (Cur calls n (thread_at calls n) a ⊎ (a ≡ n)) ⊎ Acquired calls n a) [
  | inl q ↦ inl (inl q)
  | inr q ↦ elim q.1 as (λ _. (Cur calls n (thread_at calls n) a ⊎ (a ≡ n)) ⊎ Acquired calls n a) [
    | inl e ↦ inl (inr e)
    | inr p ↦ elim (past_parts calls n a p) as (λ _. (Cur calls n (thread_at calls n) a ⊎ (a ≡ n)) ⊎ Acquired calls n a) [ inl c ↦ inl (inl c) | inr c ↦ inr c ]
  ]
]

cur_from : (calls : List Call) (n a : ℕ) → (Cur calls n (thread_at calls n) a ⊎ (a ≡ n)) ⊎ Acquired calls n a → Cur calls (suc n) (thread_at calls n) a
cur_from calls n a (inl (inl h)) = cur_old calls n (thread_at calls n) a h
cur_from calls n a (inl (inr h)) = cur_new calls n a (inl h)
cur_from calls n a (inr h) = cur_new calls n a (inr (acquired_past calls n a h))

-- an entry with its Past is what its thread has to respect after it
pub upto_cur : (calls : List Call) (n a : ℕ) → Cur calls (suc n) (thread_at calls n) a → UpTo calls n a
upto_cur calls n a h = elim (cur_more calls n (thread_at calls n) a h) as (λ _. UpTo calls n a) [ inl q ↦ inr (cur_past calls n a q) | inr q ↦ q.1 ]

got_to : (calls : List Call) (n a : ℕ) → Got calls (suc n) (thread_at calls n) a → (Got calls n (thread_at calls n) a ⊎ (a ≡ n)) ⊎ Read calls n a
got_to calls n a (inl h) = elim (cur_to calls n a h) as (λ _. (Got calls n (thread_at calls n) a ⊎ (a ≡ n)) ⊎ Read calls n a) [
  | inl q ↦ elim q as (λ _. (Got calls n (thread_at calls n) a ⊎ (a ≡ n)) ⊎ Read calls n a) [ inl c ↦ inl (inl (inl c)) | inr e ↦ inl (inr e) ]
  | inr q ↦ elim q as (λ _. (Got calls n (thread_at calls n) a ⊎ (a ≡ n)) ⊎ Read calls n a) [ inl r ↦ inr r.1 | inr f ↦ inl (inl (inr f.1)) ]
]
got_to calls n a (inr h) = elim (heard_more calls n (thread_at calls n) a h) as (λ _. (Got calls n (thread_at calls n) a ⊎ (a ≡ n)) ⊎ Read calls n a) [ inl q ↦ inl (inl (inr q)) | inr q ↦ inr q.1 ]

got_from : (calls : List Call) (n a : ℕ) → (Got calls n (thread_at calls n) a ⊎ (a ≡ n)) ⊎ Read calls n a → Got calls (suc n) (thread_at calls n) a
got_from calls n a (inl (inl (inl h))) = inl (cur_old calls n (thread_at calls n) a h)
got_from calls n a (inl (inl (inr h))) = inr (heard_old calls n (thread_at calls n) a h)
got_from calls n a (inl (inr h)) = inl (cur_new calls n a (inl h))
got_from calls n a (inr h) = inr (heard_new calls n a h)

-- ---- entries of three kinds

pub no_read : (calls : List Call) (n a : ℕ) → read_by (event_at calls n) ≡ None → Read calls n a → ⊥
no_read calls n a e h = none-some h.stamp (sym e ∙ h.read)

fence_part : (b c : Bool) → b ≡ false → (b && c) ≡ true → ⊥
fence_part true c e h = true≢false e
fence_part false c e h = false≢true h

fence_false : (b c : Bool) → b ≡ false → (b && c) ≡ false
fence_false true c e = absurd (true≢false e)
fence_false false c e = refl

-- the entry gets nothing from another: it reads no message, or one that gives nothing
abbrev pub GetsNothing : List Call → ℕ → Type 0
GetsNothing calls n = (a : ℕ) → Read calls n a → ⊥

no_acquire : (calls : List Call) (n a : ℕ) → GetsNothing calls n → is_fence (access_at calls n) ≡ false → Acquired calls n a → ⊥
no_acquire calls n a e f (inl h) = e a h.1
no_acquire calls n a e f (inr h) = fence_part (is_fence (access_at calls n)) (acquires_by (access_at calls n)) f h.0

pub record Views (Has Exact : ℕ → ℕ → ℕ → Type 0) (calls : List Call) (n i : ℕ) (v : ThreadView) : Type 0 where
  pub cur : Agrees Has Exact n (Cur calls n i) v.cur
  pub got : Agrees Has Exact n (Got calls n i) v.got
  pub rel : Agrees Has Exact n (Carried calls n i) v.rel

-- entry n tells by no number that is within the list
abbrev pub IsPast : (ℕ → ℕ → ℕ → Type 0) → ℕ → List ℕ → Type 0
IsPast Exact n v = (i t : ℕ) → Exact n i t → get_or v i 0 < t

-- an entry of another thread leaves the view as it was
pub others : (Has Exact : ℕ → ℕ → ℕ → Type 0) (calls : List Call) (n i : ℕ) (v : ThreadView) → (thread_at calls n ≡ i → ⊥) → IsPast Exact n v.cur → IsPast Exact n v.got → IsPast Exact n v.rel
    → Views Has Exact calls n i v → Views Has Exact calls (suc n) i v
others Has Exact calls n i v ne pc pg pr h = record {
  cur = same_set Has Exact (suc n) (Cur calls n i) (Cur calls (suc n) i) v.cur (cur_old calls n i) cur_back (later Has Exact n (Cur calls n i) v.cur pc h.cur);
  got = same_set Has Exact (suc n) (Got calls n i) (Got calls (suc n) i) v.got got_on got_back (later Has Exact n (Got calls n i) v.got pg h.got);
  rel = same_set Has Exact (suc n) (Carried calls n i) (Carried calls (suc n) i) v.rel (λ a. carried_old calls n i a (λ e. absurd (ne e))) (λ a. carried_more calls n i a (λ e. absurd (ne e))) (later Has Exact n (Carried calls n i) v.rel pr h.rel);
}
  where
    cur_back : (a : ℕ) → Cur calls (suc n) i a → Cur calls n i a
    cur_back a q = elim (cur_more calls n i a q) as (λ _. Cur calls n i a) [ inl c ↦ c | inr c ↦ absurd (ne c.0) ]

    got_on : (a : ℕ) → Got calls n i a → Got calls (suc n) i a
    got_on a q = elim q as (λ _. Got calls (suc n) i a) [ inl c ↦ inl (cur_old calls n i a c) | inr c ↦ inr (heard_old calls n i a c) ]

    got_back : (a : ℕ) → Got calls (suc n) i a → Got calls n i a
    got_back a q = elim q as (λ _. Got calls n i a) [
      | inl c ↦ inl (cur_back a c)
      | inr c ↦ elim (heard_more calls n i a c) as (λ _. Got calls n i a) [ inl d ↦ inr d | inr d ↦ absurd (ne d.0) ]
    ]

-- the sets of the entry's own thread, after an entry that reads nothing and is no fence
plain_cur : (Has Exact : ℕ → ℕ → ℕ → Type 0) (calls : List Call) (n : ℕ) (w : List ℕ) → GetsNothing calls n → is_fence (access_at calls n) ≡ false
    → Agrees Has Exact (suc n) (λ a. Cur calls n (thread_at calls n) a ⊎ (a ≡ n)) w → Agrees Has Exact (suc n) (Cur calls (suc n) (thread_at calls n)) w
plain_cur Has Exact calls n w e f h =
    same_set Has Exact (suc n) (λ a. Cur calls n (thread_at calls n) a ⊎ (a ≡ n)) (Cur calls (suc n) (thread_at calls n)) w
    (λ a q. cur_from calls n a (inl q))
    (λ a q. elim (cur_to calls n a q) as (λ _. Cur calls n (thread_at calls n) a ⊎ (a ≡ n)) [ inl r ↦ r | inr r ↦ absurd (no_acquire calls n a e f r) ]) h

plain_got : (Has Exact : ℕ → ℕ → ℕ → Type 0) (calls : List Call) (n : ℕ) (w : List ℕ) → GetsNothing calls n
    → Agrees Has Exact (suc n) (λ a. Got calls n (thread_at calls n) a ⊎ (a ≡ n)) w → Agrees Has Exact (suc n) (Got calls (suc n) (thread_at calls n)) w
plain_got Has Exact calls n w e h =
    same_set Has Exact (suc n) (λ a. Got calls n (thread_at calls n) a ⊎ (a ≡ n)) (Got calls (suc n) (thread_at calls n)) w
    (λ a q. got_from calls n a (inl q))
    (λ a q. elim (got_to calls n a q) as (λ _. Got calls n (thread_at calls n) a ⊎ (a ≡ n)) [ inl r ↦ r | inr r ↦ absurd (e a r) ]) h

kept_rel : (Has Exact : ℕ → ℕ → ℕ → Type 0) (calls : List Call) (n i : ℕ) (w : List ℕ) → is_release_fence (access_at calls n) ≡ false → IsPast Exact n w
    → Agrees Has Exact n (Carried calls n i) w → Agrees Has Exact (suc n) (Carried calls (suc n) i) w
kept_rel Has Exact calls n i w f p h =
    same_set Has Exact (suc n) (Carried calls n i) (Carried calls (suc n) i) w (λ a. carried_old calls n i a (λ _. f)) (λ a. carried_more calls n i a (λ _. f)) (later Has Exact n (Carried calls n i) w p h)

-- an entry without a number
pub plain : (Has Exact : ℕ → ℕ → ℕ → Type 0) (calls : List Call) (n : ℕ) (v : ThreadView) → read_by (event_at calls n) ≡ None → is_fence (access_at calls n) ≡ false
    → ((j u : ℕ) → Has n j u → ⊥) → IsPast Exact n v.rel
    → Views Has Exact calls n (thread_at calls n) v → Views Has Exact calls (suc n) (thread_at calls n) v
plain Has Exact calls n v e f none p h =
    let t = thread_at calls n in record {
      cur = plain_cur Has Exact calls n v.cur (λ a. no_read calls n a e) f (one_more_plain Has Exact n (Cur calls n t) v.cur none h.cur);
      got = plain_got Has Exact calls n v.got (λ a. no_read calls n a e) (one_more_plain Has Exact n (Got calls n t) v.got none h.got);
      rel = kept_rel Has Exact calls n t v.rel (fence_false (is_fence (access_at calls n)) (releases_by (access_at calls n)) f) p h.rel;
    }

-- what an entry with a number needs of the numbers before it
pub record IsNew (Has Exact : ℕ → ℕ → ℕ → Type 0) (n i t : ℕ) (v : ThreadView) : Type 0 where
  pub there : i < length v.cur
  pub there_too : i < length v.got
  pub one : (j u : ℕ) → Has n j u → (j ≡ i) × (u ≡ t)
  pub known : (a u : ℕ) → a < n → Exact a i u → u ≤ get_or v.cur i 0
  pub known_too : (a u : ℕ) → a < n → Exact a i u → u ≤ get_or v.got i 0
  pub past : IsPast Exact n v.rel

-- an entry that has a number and reads nothing
pub numbered : (Has Exact : ℕ → ℕ → ℕ → Type 0) (calls : List Call) (n i u : ℕ) (v : ThreadView) → GetsNothing calls n → is_fence (access_at calls n) ≡ false
    → IsNew Has Exact n i u v → Views Has Exact calls n (thread_at calls n) v → Views Has Exact calls (suc n) (thread_at calls n) (raised_view v i u)
numbered Has Exact calls n i u v e f new h =
    let t = thread_at calls n in record {
      cur = plain_cur Has Exact calls n (raised v.cur i u) e f (one_more Has Exact n (Cur calls n t) v.cur i u new.there new.one new.known h.cur);
      got = plain_got Has Exact calls n (raised v.got i u) e (one_more Has Exact n (Got calls n t) v.got i u new.there_too new.one new.known_too h.got);
      rel = kept_rel Has Exact calls n t v.rel (fence_false (is_fence (access_at calls n)) (releases_by (access_at calls n)) f) new.past h.rel;
    }

-- ---- an entry that reads

pub given_is : (calls : List Call) (n a : ℕ) (stamp : Stamp) → read_by (event_at calls n) ≡ Some stamp → Read calls n a → Given calls n stamp a
given_is calls n a stamp e h = subst (λ (x : Stamp). Given calls n x a) (same_Some h.stamp stamp (sym h.read ∙ e)) h.has

pub is_given : (calls : List Call) (n a : ℕ) (stamp : Stamp) → read_by (event_at calls n) ≡ Some stamp → Given calls n stamp a → Read calls n a
is_given calls n a stamp e h = record { stamp = stamp; read = e; has = h }

read_cur : (Has Exact : ℕ → ℕ → ℕ → Type 0) (calls : List Call) (n : ℕ) (stamp : Stamp) (w times : List ℕ) → read_by (event_at calls n) ≡ Some stamp → is_fence (access_at calls n) ≡ false → length times ≡ length w
    → Agrees Has Exact (suc n) (λ a. Cur calls n (thread_at calls n) a ⊎ (a ≡ n)) w → Agrees Has Exact (suc n) (Given calls n stamp) times
    → (b : Bool) → acquires_by (access_at calls n) ≡ b → Agrees Has Exact (suc n) (Cur calls (suc n) (thread_at calls n)) (cond b (joined w times) w)
read_cur Has Exact calls n stamp w times e f l h g true q =
    same_set Has Exact (suc n) (λ a. (Cur calls n (thread_at calls n) a ⊎ (a ≡ n)) ⊎ Given calls n stamp a) (Cur calls (suc n) (thread_at calls n)) (joined w times)
    (λ a s. cur_from calls n a (elim s as (λ _. (Cur calls n (thread_at calls n) a ⊎ (a ≡ n)) ⊎ Acquired calls n a) [ inl r ↦ inl r | inr r ↦ inr (inl (q, is_given calls n a stamp e r)) ]))
    (λ a s. elim (cur_to calls n a s) as (λ _. (Cur calls n (thread_at calls n) a ⊎ (a ≡ n)) ⊎ Given calls n stamp a) [
      | inl r ↦ inl r
      | inr r ↦ elim r as (λ _. (Cur calls n (thread_at calls n) a ⊎ (a ≡ n)) ⊎ Given calls n stamp a) [
        | inl d ↦ inr (given_is calls n a stamp e d.1)
        | inr d ↦ absurd (fence_part (is_fence (access_at calls n)) (acquires_by (access_at calls n)) f d.0)
      ]
    ])
    (union Has Exact (suc n) (λ a. Cur calls n (thread_at calls n) a ⊎ (a ≡ n)) (Given calls n stamp) w times l h g)
read_cur Has Exact calls n stamp w times e f l h g false q =
    same_set Has Exact (suc n) (λ a. Cur calls n (thread_at calls n) a ⊎ (a ≡ n)) (Cur calls (suc n) (thread_at calls n)) w
    (λ a s. cur_from calls n a (inl s))
    (λ a s. elim (cur_to calls n a s) as (λ _. Cur calls n (thread_at calls n) a ⊎ (a ≡ n)) [
      | inl r ↦ r
      | inr r ↦ elim r as (λ _. Cur calls n (thread_at calls n) a ⊎ (a ≡ n)) [
        | inl d ↦ absurd (true≢false (sym d.0 ∙ q))
        | inr d ↦ absurd (fence_part (is_fence (access_at calls n)) (acquires_by (access_at calls n)) f d.0)
      ]
    ]) h

pub reading : (Has Exact : ℕ → ℕ → ℕ → Type 0) (calls : List Call) (n i u : ℕ) (stamp : Stamp) (v : ThreadView) (times : List ℕ) (b : Bool)
    → read_by (event_at calls n) ≡ Some stamp → is_fence (access_at calls n) ≡ false → acquires_by (access_at calls n) ≡ b
    → IsNew Has Exact n i u v → length times ≡ length v.cur → length times ≡ length v.got → IsPast Exact n times → Agrees Has Exact n (Given calls n stamp) times
    → Views Has Exact calls n (thread_at calls n) v → Views Has Exact calls (suc n) (thread_at calls n) (heard (raised_view v i u) times b)
reading Has Exact calls n i u stamp v times b e f q new lc lg p g h =
    let t = thread_at calls n in
    let given = later Has Exact n (Given calls n stamp) times p g in
    let rc = raised v.cur i u in
    let rg = raised v.got i u in
    record {
      cur = read_cur Has Exact calls n stamp rc times e f (lc ∙ sym (length-raised v.cur i u)) (one_more Has Exact n (Cur calls n t) v.cur i u new.there new.one new.known h.cur) given b q;
      got = same_set Has Exact (suc n) (λ a. (Got calls n t a ⊎ (a ≡ n)) ⊎ Given calls n stamp a) (Got calls (suc n) t) (joined rg times)
          (λ a s. got_from calls n a (elim s as (λ _. (Got calls n t a ⊎ (a ≡ n)) ⊎ Read calls n a) [ inl r ↦ inl r | inr r ↦ inr (is_given calls n a stamp e r) ]))
          (λ a s. elim (got_to calls n a s) as (λ _. (Got calls n t a ⊎ (a ≡ n)) ⊎ Given calls n stamp a) [ inl r ↦ inl r | inr r ↦ inr (given_is calls n a stamp e r) ])
          (union Has Exact (suc n) (λ a. Got calls n t a ⊎ (a ≡ n)) (Given calls n stamp) rg times (lg ∙ sym (length-raised v.got i u))
          (one_more Has Exact n (Got calls n t) v.got i u new.there_too new.one new.known_too h.got) given);
      rel = kept_rel Has Exact calls n t v.rel (fence_false (is_fence (access_at calls n)) (releases_by (access_at calls n)) f) new.past h.rel;
    }

-- ---- a fence

-- what a thread has to respect after a fence that acquires: all that it got
fence_cur : (calls : List Call) (n a : ℕ) → is_acquire_fence (access_at calls n) ≡ true → Got calls n (thread_at calls n) a ⊎ (a ≡ n) → Cur calls (suc n) (thread_at calls n) a
fence_cur calls n a f (inl (inl h)) = cur_old calls n (thread_at calls n) a h
fence_cur calls n a f (inl (inr h)) = cur_new calls n a (inr (acquired_past calls n a (inr (f, h))))
fence_cur calls n a f (inr e) = cur_new calls n a (inl e)

cur_fence : (calls : List Call) (n a : ℕ) → read_by (event_at calls n) ≡ None → Cur calls (suc n) (thread_at calls n) a → Got calls n (thread_at calls n) a ⊎ (a ≡ n)
cur_fence calls n a e h = elim (got_to calls n a (inl h)) as (λ _. Got calls n (thread_at calls n) a ⊎ (a ≡ n)) [ inl r ↦ r | inr r ↦ absurd (no_read calls n a e r) ]

carried_upto : (Has Exact : ℕ → ℕ → ℕ → Type 0) (calls : List Call) (n : ℕ) (w : List ℕ) → is_release_fence (access_at calls n) ≡ true
    → Agrees Has Exact (suc n) (Cur calls (suc n) (thread_at calls n)) w → Agrees Has Exact (suc n) (Carried calls (suc n) (thread_at calls n)) w
carried_upto Has Exact calls n w f h =
    same_set Has Exact (suc n) (Cur calls (suc n) (thread_at calls n)) (Carried calls (suc n) (thread_at calls n)) w
    (λ a q. carried_new calls n a f (upto_cur calls n a q))
    (λ a q. cur_new calls n a (carried_fence calls n a f q)) h

relaxed_fence : (calls : List Call) (n a : ℕ) → read_by (event_at calls n) ≡ None → is_acquire_fence (access_at calls n) ≡ false → Acquired calls n a → ⊥
relaxed_fence calls n a e f (inl h) = no_read calls n a e h.1
relaxed_fence calls n a e f (inr h) = true≢false (sym h.0 ∙ f)

kept_cur : (Has Exact : ℕ → ℕ → ℕ → Type 0) (calls : List Call) (n : ℕ) (w : List ℕ) → read_by (event_at calls n) ≡ None → is_acquire_fence (access_at calls n) ≡ false
    → Agrees Has Exact (suc n) (λ a. Cur calls n (thread_at calls n) a ⊎ (a ≡ n)) w → Agrees Has Exact (suc n) (Cur calls (suc n) (thread_at calls n)) w
kept_cur Has Exact calls n w e f h =
    same_set Has Exact (suc n) (λ a. Cur calls n (thread_at calls n) a ⊎ (a ≡ n)) (Cur calls (suc n) (thread_at calls n)) w
    (λ a q. cur_from calls n a (inl q))
    (λ a q. elim (cur_to calls n a q) as (λ _. Cur calls n (thread_at calls n) a ⊎ (a ≡ n)) [ inl r ↦ r | inr r ↦ absurd (relaxed_fence calls n a e f r) ]) h

got_cur : (Has Exact : ℕ → ℕ → ℕ → Type 0) (calls : List Call) (n : ℕ) (w : List ℕ) → read_by (event_at calls n) ≡ None → is_acquire_fence (access_at calls n) ≡ true
    → Agrees Has Exact (suc n) (λ a. Got calls n (thread_at calls n) a ⊎ (a ≡ n)) w → Agrees Has Exact (suc n) (Cur calls (suc n) (thread_at calls n)) w
got_cur Has Exact calls n w e f h =
    same_set Has Exact (suc n) (λ a. Got calls n (thread_at calls n) a ⊎ (a ≡ n)) (Cur calls (suc n) (thread_at calls n)) w (λ a. fence_cur calls n a f) (λ a. cur_fence calls n a e) h

-- what a fence is by its order
pub record IsFenceOf (calls : List Call) (n : ℕ) (order : Order) : Type 0 where
  pub acquire : is_acquire_fence (access_at calls n) ≡ acquires order
  pub release : is_release_fence (access_at calls n) ≡ releases order

pub fencing : (Has Exact : ℕ → ℕ → ℕ → Type 0) (calls : List Call) (n : ℕ) (order : Order) (v : ThreadView) → read_by (event_at calls n) ≡ None → IsFenceOf calls n order
    → ((j u : ℕ) → Has n j u → ⊥) → IsPast Exact n v.rel
    → Views Has Exact calls n (thread_at calls n) v → Views Has Exact calls (suc n) (thread_at calls n) (fenced v order)
fencing Has Exact calls n order v e f none p h = by order f
  where
    t : ℕ
    t = thread_at calls n

    one_cur : Agrees Has Exact (suc n) (λ a. Cur calls n (thread_at calls n) a ⊎ (a ≡ n)) v.cur
    one_cur = one_more_plain Has Exact n (Cur calls n (thread_at calls n)) v.cur none h.cur

    one_got : Agrees Has Exact (suc n) (λ a. Got calls n (thread_at calls n) a ⊎ (a ≡ n)) v.got
    one_got = one_more_plain Has Exact n (Got calls n (thread_at calls n)) v.got none h.got

    got : Agrees Has Exact (suc n) (Got calls (suc n) (thread_at calls n)) v.got
    got = plain_got Has Exact calls n v.got (λ a. no_read calls n a e) one_got

    by : (order : Order) → IsFenceOf calls n order → Views Has Exact calls (suc n) (thread_at calls n) (fenced v order)
    by Rlx f = record { cur = kept_cur Has Exact calls n v.cur e f.acquire one_cur; got = got; rel = kept_rel Has Exact calls n (thread_at calls n) v.rel f.release p h.rel }
    by Acq f = record { cur = got_cur Has Exact calls n v.got e f.acquire one_got; got = got; rel = kept_rel Has Exact calls n (thread_at calls n) v.rel f.release p h.rel }
    by Rel f =
        let cur = kept_cur Has Exact calls n v.cur e f.acquire one_cur in
        record { cur = cur; got = got; rel = carried_upto Has Exact calls n v.cur f.release cur }
    by AcqRel f =
        let cur = got_cur Has Exact calls n v.got e f.acquire one_got in
        record { cur = cur; got = got; rel = carried_upto Has Exact calls n v.got f.release cur }

-- a fence that has a number
pub fencing_numbered : (Has Exact : ℕ → ℕ → ℕ → Type 0) (calls : List Call) (n i u : ℕ) (order : Order) (v : ThreadView) → read_by (event_at calls n) ≡ None → IsFenceOf calls n order
    → IsNew Has Exact n i u v → Views Has Exact calls n (thread_at calls n) v → Views Has Exact calls (suc n) (thread_at calls n) (fenced (raised_view v i u) order)
fencing_numbered Has Exact calls n i u order v e f new h = by order f
  where
    one_cur : Agrees Has Exact (suc n) (λ a. Cur calls n (thread_at calls n) a ⊎ (a ≡ n)) (raised v.cur i u)
    one_cur = one_more Has Exact n (Cur calls n (thread_at calls n)) v.cur i u new.there new.one new.known h.cur

    one_got : Agrees Has Exact (suc n) (λ a. Got calls n (thread_at calls n) a ⊎ (a ≡ n)) (raised v.got i u)
    one_got = one_more Has Exact n (Got calls n (thread_at calls n)) v.got i u new.there_too new.one new.known_too h.got

    got : Agrees Has Exact (suc n) (Got calls (suc n) (thread_at calls n)) (raised v.got i u)
    got = plain_got Has Exact calls n (raised v.got i u) (λ a. no_read calls n a e) one_got

    by : (order : Order) → IsFenceOf calls n order → Views Has Exact calls (suc n) (thread_at calls n) (fenced (raised_view v i u) order)
    by Rlx f = record { cur = kept_cur Has Exact calls n (raised v.cur i u) e f.acquire one_cur; got = got; rel = kept_rel Has Exact calls n (thread_at calls n) v.rel f.release new.past h.rel }
    by Acq f = record { cur = got_cur Has Exact calls n (raised v.got i u) e f.acquire one_got; got = got; rel = kept_rel Has Exact calls n (thread_at calls n) v.rel f.release new.past h.rel }
    by Rel f =
        let cur = kept_cur Has Exact calls n (raised v.cur i u) e f.acquire one_cur in
        record { cur = cur; got = got; rel = carried_upto Has Exact calls n (raised v.cur i u) f.release cur }
    by AcqRel f =
        let cur = got_cur Has Exact calls n (raised v.got i u) e f.acquire one_got in
        record { cur = cur; got = got; rel = carried_upto Has Exact calls n (raised v.got i u) f.release cur }
