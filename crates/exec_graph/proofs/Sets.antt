-- The sets of a journal as they grow by an entry.
use Rattle.std.proofs.Common.{◌≡◌, ℕ, suc, ◌<◌, ◌≤◌, ◌⊎◌, inl, inr, true, false, List, Some, refl, sym, ap, subst, ◌∙◌, arith}
use Rattle.std.proofs.lemmas.Bool.{cases_lt, true≢false}
use Rattle.message_memory.specs.declared.history.Call.{Call}
use Rattle.message_memory.specs.Step.{acquires_by, releases_by}
use Rattle.exec_graph.specs.Entries.{thread_at, access_at, event_at, Stamp, read_by, written_by, is_acquire_fence, is_release_fence, IsOwnBefore, IsFrom, IsLastFence}
use Rattle.exec_graph.specs.Past.{EntrySet, past, gives, IsIn, own, through_own, acquired, fenced, itself, released, the_fence, through_fence, handed_on, Past, Gives}

-- ---- what is known after the first n entries

-- an entry with its Past
abbrev pub UpTo : List Call → ℕ → ℕ → Type 0
UpTo calls b a = (a ≡ b) ⊎ Past calls b a

-- what thread i has to respect: its entries with their Past
pub record Cur (calls : List Call) (n i a : ℕ) : Type 0 where
  pub entry : ℕ
  pub before : entry < n
  pub thread : thread_at calls entry ≡ i
  pub has : UpTo calls entry a

-- what the message with this stamp gives
pub record Given (calls : List Call) (n : ℕ) (stamp : Stamp) (a : ℕ) : Type 0 where
  pub entry : ℕ
  pub before : entry < n
  pub written : written_by (event_at calls entry) ≡ Some stamp
  pub has : Gives calls entry a

-- what the messages give that it read
pub record Heard (calls : List Call) (n i a : ℕ) : Type 0 where
  pub entry : ℕ
  pub writer : ℕ
  pub before : entry < n
  pub thread : thread_at calls entry ≡ i
  pub from : IsFrom calls entry writer
  pub has : Gives calls writer a

-- what it would have to respect after an acquire fence
abbrev pub Got : List Call → ℕ → ℕ → ℕ → Type 0
Got calls n i a = Cur calls n i a ⊎ Heard calls n i a

-- what its relaxed writes hand on
pub record Carried (calls : List Call) (n i a : ℕ) : Type 0 where
  pub fence : ℕ
  pub last : IsLastFence calls n i fence
  pub has : UpTo calls fence a

-- what entry n gets from others
pub record Read (calls : List Call) (n a : ℕ) : Type 0 where
  pub stamp : Stamp
  pub read : read_by (event_at calls n) ≡ Some stamp
  pub has : Given calls n stamp a

abbrev pub Acquired : List Call → ℕ → ℕ → Type 0
Acquired calls n a = ((acquires_by (access_at calls n) ≡ true) × Read calls n a) ⊎ ((is_acquire_fence (access_at calls n) ≡ true) × Heard calls n (thread_at calls n) a)

-- ---- the sets by their parts

from_read : (calls : List Call) (k w a : ℕ) → IsFrom calls k w → Gives calls w a → Read calls k a
from_read calls k w a h g = record { stamp = h.stamp; read = h.read; has = record { entry = w; before = h.before; written = h.written; has = g } }

read_from : (calls : List Call) (n a : ℕ) → Read calls n a → (w : ℕ) × IsFrom calls n w × Gives calls w a
read_from calls n a h = (h.has.entry, record { stamp = h.stamp; before = h.has.before; read = h.read; written = h.has.written }, h.has.has)

abbrev pub GivenParts : List Call → ℕ → ℕ → Type 0
GivenParts calls w a =
    ((releases_by (access_at calls w) ≡ true) × UpTo calls w a)
    ⊎ (((releases_by (access_at calls w) ≡ false) × Carried calls w (thread_at calls w) a) ⊎ Read calls w a)

abbrev pub Parts : List Call → ℕ → EntrySet → Type 0
Parts calls a (past k) = Cur calls k (thread_at calls k) a ⊎ Acquired calls k a
Parts calls a (gives w) = GivenParts calls w a

pub parts : (calls : List Call) (a : ℕ) (m : EntrySet) → IsIn calls a m → Parts calls a m
parts calls a _ (own k h) = inl (record { entry = a; before = h.before; thread = h.thread; has = inl refl })
parts calls a _ (through_own b k h q) = inl (record { entry = b; before = h.before; thread = h.thread; has = inr q })
parts calls a _ (acquired w k e h q) = inr (inl (e, from_read calls k w a h q))
parts calls a _ (fenced r w k e o h q) = inr (inr (e, record { entry = r; writer = w; before = o.before; thread = o.thread; from = h; has = q }))
parts calls a _ (itself e) = inl (e, inl refl)
parts calls a _ (released w e q) = inl (e, inr q)
parts calls a _ (the_fence w e h) = inr (inl (e, record { fence = a; last = h; has = inl refl }))
parts calls a _ (through_fence q w e h g) = inr (inl (e, record { fence = q; last = h; has = inr g }))
parts calls a _ (handed_on v w h q) = inr (inr (from_read calls w v a h q))

pub past_parts : (calls : List Call) (k a : ℕ) → Past calls k a → Cur calls k (thread_at calls k) a ⊎ Acquired calls k a
past_parts calls k a h = parts calls a (past k) h

pub gives_parts : (calls : List Call) (w a : ℕ) → Gives calls w a → GivenParts calls w a
gives_parts calls w a h = parts calls a (gives w) h

-- ---- and from their parts

upto_past : (calls : List Call) (b k a : ℕ) → IsOwnBefore calls b k → UpTo calls b a → Past calls k a
upto_past calls b k a o (inl e) = own k (subst (λ (x : ℕ). IsOwnBefore calls x k) (sym e) o)
upto_past calls b k a o (inr h) = through_own b k o h

pub cur_past : (calls : List Call) (k a : ℕ) → Cur calls k (thread_at calls k) a → Past calls k a
cur_past calls k a h = upto_past calls h.entry k a (record { before = h.before; thread = h.thread }) h.has

pub acquired_past : (calls : List Call) (k a : ℕ) → Acquired calls k a → Past calls k a
acquired_past calls k a (inl h) = let r = read_from calls k a h.1 in acquired r.0 k h.0 r.1 r.2
acquired_past calls k a (inr h) = fenced h.1.entry h.1.writer k h.0 (record { before = h.1.before; thread = h.1.thread }) h.1.from h.1.has

released_from : (calls : List Call) (w a : ℕ) → releases_by (access_at calls w) ≡ true → UpTo calls w a → Gives calls w a
released_from calls w a e (inl h) = subst (λ (x : ℕ). Gives calls x a) h (itself (ap (λ (x : ℕ). releases_by (access_at calls x)) h ∙ e))
released_from calls w a e (inr h) = released w e h

carried_from : (calls : List Call) (w q a : ℕ) → releases_by (access_at calls w) ≡ false → IsLastFence calls w (thread_at calls w) q → UpTo calls q a → Gives calls w a
carried_from calls w q a e h (inl s) = the_fence w e (subst (IsLastFence calls w (thread_at calls w)) (sym s) h)
carried_from calls w q a e h (inr s) = through_fence q w e h s

pub gives_from : (calls : List Call) (w a : ℕ) → GivenParts calls w a → Gives calls w a
gives_from calls w a (inl h) = released_from calls w a h.0 h.1
gives_from calls w a (inr (inl h)) = carried_from calls w h.1.fence a h.0 h.1.last h.1.has
gives_from calls w a (inr (inr h)) = let r = read_from calls w a h in handed_on r.0 w r.1 r.2

-- ---- one entry more

-- an entry of the first n + 1 is one of the first n, or entry n
pub older : (b n : ℕ) → b < suc n → (b < n) ⊎ (b ≡ n)
older b n l = elim (cases_lt b n) as (λ _. (b < n) ⊎ (b ≡ n)) [ inl h ↦ inl h | inr h ↦ inr (omega (arith, l, h)) ]

pub cur_old : (calls : List Call) (n i a : ℕ) → Cur calls n i a → Cur calls (suc n) i a
cur_old calls n i a h = let l = h.before in record { entry = h.entry; before = omega (arith, l); thread = h.thread; has = h.has }

pub cur_new : (calls : List Call) (n a : ℕ) → UpTo calls n a → Cur calls (suc n) (thread_at calls n) a
cur_new calls n a h = record { entry = n; before = omega arith; thread = refl; has = h }

pub cur_more : (calls : List Call) (n i a : ℕ) → Cur calls (suc n) i a → Cur calls n i a ⊎ ((thread_at calls n ≡ i) × UpTo calls n a)
cur_more calls n i a h = elim (older h.entry n h.before) as (λ _. Cur calls n i a ⊎ ((thread_at calls n ≡ i) × UpTo calls n a)) [
  | inl l ↦ inl (record { entry = h.entry; before = l; thread = h.thread; has = h.has })
  | inr e ↦ inr (ap (thread_at calls) (sym e) ∙ h.thread, subst (λ (b : ℕ). UpTo calls b a) e h.has)
]

pub given_old : (calls : List Call) (n : ℕ) (stamp : Stamp) (a : ℕ) → Given calls n stamp a → Given calls (suc n) stamp a
given_old calls n stamp a h = let l = h.before in record { entry = h.entry; before = omega (arith, l); written = h.written; has = h.has }

pub given_new : (calls : List Call) (n : ℕ) (stamp : Stamp) (a : ℕ) → written_by (event_at calls n) ≡ Some stamp → Gives calls n a → Given calls (suc n) stamp a
given_new calls n stamp a e h = record { entry = n; before = omega arith; written = e; has = h }

pub given_more : (calls : List Call) (n : ℕ) (stamp : Stamp) (a : ℕ) → Given calls (suc n) stamp a → Given calls n stamp a ⊎ ((written_by (event_at calls n) ≡ Some stamp) × Gives calls n a)
given_more calls n stamp a h = elim (older h.entry n h.before) as (λ _. Given calls n stamp a ⊎ ((written_by (event_at calls n) ≡ Some stamp) × Gives calls n a)) [
  | inl l ↦ inl (record { entry = h.entry; before = l; written = h.written; has = h.has })
  | inr e ↦ inr (subst (λ (b : ℕ). written_by (event_at calls b) ≡ Some stamp) e h.written, subst (λ (b : ℕ). Gives calls b a) e h.has)
]

pub heard_old : (calls : List Call) (n i a : ℕ) → Heard calls n i a → Heard calls (suc n) i a
heard_old calls n i a h = let l = h.before in record { entry = h.entry; writer = h.writer; before = omega (arith, l); thread = h.thread; from = h.from; has = h.has }

pub heard_new : (calls : List Call) (n a : ℕ) → Read calls n a → Heard calls (suc n) (thread_at calls n) a
heard_new calls n a h = let r = read_from calls n a h in record { entry = n; writer = r.0; before = omega arith; thread = refl; from = r.1; has = r.2 }

pub heard_more : (calls : List Call) (n i a : ℕ) → Heard calls (suc n) i a → Heard calls n i a ⊎ ((thread_at calls n ≡ i) × Read calls n a)
heard_more calls n i a h = elim (older h.entry n h.before) as (λ _. Heard calls n i a ⊎ ((thread_at calls n ≡ i) × Read calls n a)) [
  | inl l ↦ inl (record { entry = h.entry; writer = h.writer; before = l; thread = h.thread; from = h.from; has = h.has })
  | inr e ↦ inr (ap (thread_at calls) (sym e) ∙ h.thread, from_read calls n h.writer a (subst (λ (b : ℕ). IsFrom calls b h.writer) e h.from) h.has)
]

-- entry n changes what is carried where it is a release fence of the thread
last_old : (calls : List Call) (n i q : ℕ) → ((thread_at calls n ≡ i) → is_release_fence (access_at calls n) ≡ false) → IsLastFence calls n i q → IsLastFence calls (suc n) i q
last_old calls n i q other h = let l = h.before in record {
  before = omega (arith, l);
  thread = h.thread;
  fence = h.fence;
  last = λ b above below mine. elim (older b n below) as (λ _. is_release_fence (access_at calls b) ≡ false) [
    | inl k ↦ h.last b above k mine
    | inr e ↦ subst (λ (x : ℕ). is_release_fence (access_at calls x) ≡ false) (sym e) (other (ap (thread_at calls) (sym e) ∙ mine))
  ];
}

last_more : (calls : List Call) (n i q : ℕ) → ((thread_at calls n ≡ i) → is_release_fence (access_at calls n) ≡ false) → IsLastFence calls (suc n) i q → IsLastFence calls n i q
last_more calls n i q other h = elim (older q n h.before) as (λ _. IsLastFence calls n i q) [
  | inl l ↦ record { before = l; thread = h.thread; fence = h.fence; last = λ b above below mine. h.last b above (omega (arith, below)) mine }
  | inr e ↦ absurd (true≢false (sym h.fence ∙ ap (λ (x : ℕ). is_release_fence (access_at calls x)) e ∙ other (ap (thread_at calls) (sym e) ∙ h.thread)))
]

pub carried_old : (calls : List Call) (n i a : ℕ) → ((thread_at calls n ≡ i) → is_release_fence (access_at calls n) ≡ false) → Carried calls n i a → Carried calls (suc n) i a
carried_old calls n i a other h = record { fence = h.fence; last = last_old calls n i h.fence other h.last; has = h.has }

pub carried_more : (calls : List Call) (n i a : ℕ) → ((thread_at calls n ≡ i) → is_release_fence (access_at calls n) ≡ false) → Carried calls (suc n) i a → Carried calls n i a
carried_more calls n i a other h = record { fence = h.fence; last = last_more calls n i h.fence other h.last; has = h.has }

pub carried_new : (calls : List Call) (n a : ℕ) → is_release_fence (access_at calls n) ≡ true → UpTo calls n a → Carried calls (suc n) (thread_at calls n) a
carried_new calls n a e h = record {
  fence = n;
  last = record { before = omega arith; thread = refl; fence = e; last = λ b above below mine. absurd (omega (arith, above, below)) };
  has = h;
}

-- then it carries that fence and its Past alone
pub carried_fence : (calls : List Call) (n a : ℕ) → is_release_fence (access_at calls n) ≡ true → Carried calls (suc n) (thread_at calls n) a → UpTo calls n a
carried_fence calls n a e h = elim (older h.fence n h.last.before) as (λ _. UpTo calls n a) [
  | inl l ↦ absurd (true≢false (sym e ∙ h.last.last n l (omega arith) refl))
  | inr same ↦ subst (λ (b : ℕ). UpTo calls b a) same h.has
]

-- ---- entries stand before

-- what is in a set of n stands before n, and what a message gives is no later than it
abbrev pub Early : List Call → ℕ → EntrySet → Type 0
Early calls a (past k) = a < k
Early calls a (gives w) = a ≤ w

pub early : (calls : List Call) (a : ℕ) (m : EntrySet) → IsIn calls a m → Early calls a m
early calls a _ (own k h) = h.before
early calls a _ (through_own b k h q) = let l = early calls a (past b) q in let o = h.before in omega (arith, l, o)
early calls a _ (acquired w k e h q) = let l = early calls a (gives w) q in let o = h.before in omega (arith, l, o)
early calls a _ (fenced r w k e o h q) = let l = early calls a (gives w) q in let b = h.before in let c = o.before in omega (arith, l, b, c)
early calls a _ (itself e) = omega arith
early calls a _ (released w e q) = let l = early calls a (past w) q in omega (arith, l)
early calls a _ (the_fence w e h) = let l = h.before in omega (arith, l)
early calls a _ (through_fence q w e h g) = let l = early calls a (past q) g in let b = h.before in omega (arith, l, b)
early calls a _ (handed_on v w h q) = let l = early calls a (gives v) q in let b = h.before in omega (arith, l, b)

pub past_early : (calls : List Call) (k a : ℕ) → Past calls k a → a < k
past_early calls k a h = early calls a (past k) h
