-- The canonical text of a well-formed program is shorter than the longest text that is read.
use Rattle.std.proofs.Common.{◌≡◌, ◌∙◌, ℕ, zero, suc, ◌+◌, ◌*◌, ◌^◌, ◌<◌, ◌≤◌, max, ℤ, pos, negsuc, Bool, true, false, not, ◌&&◌, ◌-◌, if◌then◌else◌, nat_lt, nat_le, List, [], ◌∷◌, ◌++◌, map, take, drop, length, slice_get, Some, None, codes, refl, sym, ap, subst, arith, length-append, length-take-le, length-drop}
use Rattle.std.specs.List.{list_all, flat_map}
use Rattle.std.specs.Fmt.{decimal, signed_decimal}
use Rattle.std.proofs.lemmas.Bool.{and_parts, ltb-true, leb-true, eqb-true, lt-ltb, le-leb, and_from}
use Rattle.std.proofs.lemmas.Fmt.{length-decimal-le}
use Rattle.std.proofs.lemmas.List.{length-map}
use Rattle.std.proofs.lemmas.List.Folds.{list_all-append}
use Rattle.values_undef.specs.declared.access.Order.{Order}
use Rattle.values_undef.specs.declared.access.Order.TheVariants.{Rlx, Acq, Rel, AcqRel}
use Rattle.values_undef.specs.declared.arithmetic.Op.{Op}
use Rattle.values_undef.specs.declared.arithmetic.Op.TheVariants as op
use Rattle.il_syntax.specs.declared.statement.Atom.{Atom}
use Rattle.il_syntax.specs.declared.statement.Atom.TheVariants.{Const, Reg}
use Rattle.il_syntax.specs.declared.statement.Rmw.{Rmw}
use Rattle.il_syntax.specs.declared.statement.Rmw.TheVariants as kinds
use Rattle.il_syntax.specs.declared.statement.Stmt.{Stmt}
use Rattle.il_syntax.specs.declared.statement.Block.{Block}
use Rattle.il_syntax.specs.declared.statement.Stmt.TheOpen.{Stmt-F, Block-F, Skip, Copy, Compute, Load, Store, AtomicLoad, AtomicStore, Update, Fence, Print, If, While, Call}
use Rattle.il_syntax.specs.declared.statement.Stmt.TheViews.{roll-Stmt, roll-Block, out-Block, out-roll-Block, roll-out-Block}
use Rattle.il_syntax.specs.declared.statement.Stmt.TheFolds.{fold-Stmt, fold-Block, fold-roll-Stmt, fold-roll-Block, ind-Stmt, map-Stmt, map-Block}
use Rattle.il_syntax.specs.declared.program.Function.{Function}
use Rattle.il_syntax.specs.declared.program.Location.{Location}
use Rattle.il_syntax.specs.declared.program.Start.{Start}
use Rattle.il_syntax.specs.declared.program.Program.{Program}
use Rattle.il_syntax.specs.Name.{is_name, is_among}
use Rattle.il_syntax.specs.Statements.{Head, heads_step, heads_block, heads_of, heads_of_all, site_count, depth_step, depth_block, depth_of, depth_of_all}
use Rattle.il_syntax.specs.Text.{register_name, location_name, function_name, name_or_empty, atom_text, order_text, op_text, compute_text, atomic_load_text, update_text, call_text, assignment, Lines, all_at, else_text, indent, line, listed, statement_text_step, block_text_step, statement_text, statements_text, registers_text, function_text, location_text, thread_text, header_text, program_text}
use Rattle.il_syntax.specs.WellFormed.{IsWellFormed, declared_by, params_of, names_of, is_signed_64, atom_exists, operands_exist, numbers_exist, has_params, arity_agrees, is_short, atomic_location_exists, na_location_exists, order_is_allowed, thread_numbers_exist, thread_arity_agrees}
use Rattle.il_syntax.specs.Checks.{is_declarable, is_unused_name, head_fits, function_fits, thread_fits, values_fit}
use Rattle.il_syntax.specs.Fences.{has_no_fence}
use Rattle.il_syntax.proofs.Callers.{all_weaker, all_both, WellFormedFacts, FunctionFacts, function_facts, facts_of}
use Rattle.round_trip.proofs.Statements.{fold_block, Each, Known, KnownBlock, known, by_blocks, each_holds}

-- lengths of pieces

joined : (xs ys : List ℕ) {m n : ℕ} → length xs ≤ m → length ys ≤ n → length (xs ++ ys) ≤ m + n
joined xs ys {m} {n} a b = omega (arith, length-append xs ys, a, b)

all_short : {X : Type 0} (f : X → List ℕ) (n : ℕ) (test : X → Bool) → ((x : X) → test x ≡ true → length (f x) ≤ n) → (xs : List X) → list_all test xs ≡ true → length (flat_map f xs) ≤ n * length xs
all_short f n test short [] e = omega arith
all_short f n test short (x ∷ xs) e =
    let parts = and_parts (test x) (list_all test xs) e in
    let both : length (f x ++ flat_map f xs) ≤ n + n * length xs = joined _ _ (short x parts.0) (all_short f n test short xs parts.1) in omega (arith, both)

listed_short : (texts : List (List ℕ)) (n : ℕ) → list_all (λ t. nat_le (length t) n) texts ≡ true → length (listed texts) ≤ (n + 2) * length texts
listed_short [] n e = omega arith
listed_short (t ∷ ts) n e =
    let parts = and_parts (nat_le (length t) n) (list_all (λ t. nat_le (length t) n) ts) e in
    let rest = all_short (λ next. codes ", " ++ next) (n + 2) (λ t. nat_le (length t) n) (λ t h. let fits = leb-true (length t) n h in omega arith) ts parts.1 in
    let both : length (t ++ flat_map (λ next. codes ", " ++ next) ts) ≤ n + (n + 2) * length ts = joined _ _ (leb-true (length t) n parts.0) rest in omega (arith, both)

indent_length : (k : ℕ) → length (indent k) ≡ 2 * k
indent_length zero = refl
indent_length (suc k) = let inner = indent_length k in omega arith

line_short : (k n : ℕ) (t : List ℕ) → length t ≤ n → length (line k t) ≤ 2 * k + n + 1
line_short k n t short = omega (arith, indent_length k, length-append (indent k) t, length-append (indent k ++ t) (codes "\n"), short)

number_short : (z : ℤ) → is_signed_64 z ≡ true → length (signed_decimal z) ≤ 20
number_short (pos n) e = let small = ltb-true n (2 ^ 63) e in omega (arith, length-decimal-le 19 n (omega arith) (omega arith) (omega arith))
number_short (negsuc n) e = let small = ltb-true n (2 ^ 63) e in omega (arith, length-decimal-le 19 (suc n) (omega arith) (omega arith) (omega arith))

-- a name of an item, where there is one
name_short : {X : Type 0} (name : X → List ℕ) (xs : List X) (i : ℕ) → list_all (λ x. is_short (name x)) xs ≡ true → length (name_or_empty name xs i) ≤ 32
name_short name [] i e = omega arith
name_short name (x ∷ xs) zero e = leb-true (length (name x)) 32 (and_parts (is_short (name x)) (list_all (λ x. is_short (name x)) xs) e).0
name_short name (x ∷ xs) (suc i) e = name_short name xs i (and_parts (is_short (name x)) (list_all (λ x. is_short (name x)) xs) e).1

order_short : (o : Order) → length (order_text o) ≤ 6
order_short Rlx = omega arith
order_short Acq = omega arith
order_short Rel = omega arith
order_short AcqRel = omega arith

op_short : (o : Op) → length (op_text o) ≤ 2
op_short op.Add = omega arith
op_short op.Sub = omega arith
op_short op.Mul = omega arith
op_short op.Div = omega arith
op_short op.Rem = omega arith
op_short op.And = omega arith
op_short op.Or = omega arith
op_short op.Xor = omega arith
op_short op.Eq = omega arith
op_short op.Ne = omega arith
op_short op.Lt = omega arith
op_short op.Le = omega arith

-- a call has at most as many arguments as a function may have parameters
few_args : (params : List ℕ) (g count : ℕ) → list_all (λ n. nat_le n 8) params ≡ true → nat_lt g (length params) ≡ true → has_params params g count ≡ true → count ≤ 8
few_args [] g count small there e = absurd (omega (arith, ltb-true g 0 there))
few_args (n ∷ params) zero count small there e = let fits = leb-true n 8 (and_parts (nat_le n 8) (list_all (λ n. nat_le n 8) params) small).0 in let same = eqb-true count n e in omega arith
few_args (n ∷ params) (suc g) count small there e = few_args params g count (and_parts (nat_le n 8) (list_all (λ n. nat_le n 8) params) small).1 (lt-ltb g (length params) (omega (arith, ltb-true (suc g) (suc (length params)) there))) e

-- tests of the parts of a list

in_both : {X : Type 0} (test : X → Bool) (xs ys : List X) → list_all test (xs ++ ys) ≡ true → (list_all test xs ≡ true) × (list_all test ys ≡ true)
in_both test xs ys e = and_parts (list_all test xs) (list_all test ys) (sym (list_all-append test xs ys) ∙ e)

take_all : {X : Type 0} (test : X → Bool) (n : ℕ) (xs : List X) → list_all test xs ≡ true → list_all test (take n xs) ≡ true
take_all test zero xs e = refl
take_all test (suc n) [] e = refl
take_all test (suc n) (x ∷ xs) e = let parts = and_parts (test x) (list_all test xs) e in and_from (test x) (list_all test (take n xs)) parts.0 (take_all test n xs parts.1)

drop_all : {X : Type 0} (test : X → Bool) (n : ℕ) (xs : List X) → list_all test xs ≡ true → list_all test (drop n xs) ≡ true
drop_all test zero xs e = e
drop_all test (suc n) [] e = refl
drop_all test (suc n) (x ∷ xs) e = drop_all test n xs (and_parts (test x) (list_all test xs) e).1

module _ (p : Program) (registers : List (List ℕ)) (params : List ℕ) (own : list_all is_short registers ≡ true) (na : list_all (λ l. is_short l.name) p.na ≡ true) (atomic : list_all (λ l. is_short l.name) p.atomic ≡ true) (functions : list_all (λ f. is_short f.name) p.functions ≡ true) (small : list_all (λ n. nat_le n 8) params ≡ true) where
  abbrev fits : Head → Bool
  fits = head_fits (length registers) (length p.na) (length p.atomic) params

  register_short : (r : ℕ) → length (register_name registers r) ≤ 32
  register_short r = name_short (λ n. n) registers r own

  na_short : (x : ℕ) → length (location_name p.na x) ≤ 32
  na_short x = name_short (λ l. l.name) p.na x na

  atomic_short : (y : ℕ) → length (location_name p.atomic y) ≤ 32
  atomic_short y = name_short (λ l. l.name) p.atomic y atomic

  callee_short : (g : ℕ) → length (function_name p.functions g) ≤ 32
  callee_short g = name_short (λ f. f.name) p.functions g functions

  atom_short : (a : Atom) → atom_exists (length registers) a ≡ true → length (atom_text registers a) ≤ 32
  atom_short (Const n) e = omega (arith, number_short n e)
  atom_short (Reg r) e = register_short r

  args_short : (args : List Atom) → list_all (atom_exists (length registers)) args ≡ true → list_all (λ t. nat_le (length t) 32) (map (atom_text registers) args) ≡ true
  args_short [] e = refl
  args_short (a ∷ args) e =
      let parts = and_parts (atom_exists (length registers) a) (list_all (atom_exists (length registers)) args) e in
      and_from (nat_le (length (atom_text registers a)) 32) (list_all (λ t. nat_le (length t) 32) (map (atom_text registers) args)) (le-leb (length (atom_text registers a)) 32 (atom_short a parts.0)) (args_short args parts.1)

  blank : length (codes " ") ≤ 1
  blank = omega arith

  comma : length (codes ", ") ≤ 2
  comma = omega arith

  semicolon : length (codes ";") ≤ 1
  semicolon = omega arith

  -- at most 40 deep
  assigned : (k r n : ℕ) (right : List ℕ) → k ≤ 40 → n ≤ 320 → length right ≤ n → length (line k (assignment registers r right)) ≤ 512
  assigned k r n right low few h =
      let equals : length (codes " = ") ≤ 3 = omega arith in
      let text = joined _ _ (joined _ _ (joined _ _ (register_short r) equals) h) semicolon in
      let whole = line_short k (32 + 3 + n + 1) (assignment registers r right) text in
      omega (arith, whole)

  computed : (o : Op) (a b : Atom) → atom_exists (length registers) a ≡ true → atom_exists (length registers) b ≡ true → length (compute_text registers o a b) ≤ 32 + 1 + 2 + 1 + 32
  computed o a b ea eb = joined _ _ (joined _ _ (joined _ _ (joined _ _ (atom_short a ea) blank) (op_short o)) blank) (atom_short b eb)

  -- a word, an order and a location before operands
  placed : (word : List ℕ) (o : Order) (y : ℕ) → length word ≤ 6 → length (word ++ order_text o ++ codes " " ++ location_name p.atomic y ++ codes ", ") ≤ 6 + 6 + 1 + 32 + 2
  placed word o y short =
      joined (word ++ order_text o ++ codes " " ++ location_name p.atomic y) (codes ", ")
      (joined (word ++ order_text o ++ codes " ") (location_name p.atomic y) (joined (word ++ order_text o) (codes " ") (joined word (order_text o) short (order_short o)) blank) (atomic_short y)) comma

  updated : (o : Order) (y : ℕ) (kind : Rmw) → operands_exist (length registers) kind ≡ true → length (update_text registers o (location_name p.atomic y) kind) ≤ 128
  updated o y (kinds.Add a) e =
      let front = codes "add " ++ order_text o ++ codes " " ++ location_name p.atomic y ++ codes ", " in
      omega (arith, joined front (atom_text registers a) (placed (codes "add ") o y (omega arith)) (atom_short a e))
  updated o y (kinds.Swap a) e =
      let front = codes "swap " ++ order_text o ++ codes " " ++ location_name p.atomic y ++ codes ", " in
      omega (arith, joined front (atom_text registers a) (placed (codes "swap ") o y (omega arith)) (atom_short a e))
  updated o y (kinds.Cas expected new) e =
      let parts = and_parts (atom_exists (length registers) expected) (atom_exists (length registers) new) e in
      let front = codes "cas " ++ order_text o ++ codes " " ++ location_name p.atomic y ++ codes ", " in
      let first = front ++ atom_text registers expected in
      let both = joined first (codes ", ") (joined front (atom_text registers expected) (placed (codes "cas ") o y (omega arith)) (atom_short expected parts.0)) comma in
      omega (arith, joined (first ++ codes ", ") (atom_text registers new) both (atom_short new parts.1))

  called : (g : ℕ) (args : List Atom) → length args ≤ 8 → list_all (atom_exists (length registers)) args ≡ true → length (call_text registers (function_name p.functions g) args) ≤ 320
  called g args few e =
      let word : length (codes "call ") ≤ 5 = omega arith in
      let left : length (codes "(") ≤ 1 = omega arith in
      let right : length (codes ")") ≤ 1 = omega arith in
      let list = listed_short (map (atom_text registers) args) 32 (args_short args e) in
      let count = length-map args (atom_text registers) in
      let callee = function_name p.functions g in
      let list_text = listed (map (atom_text registers) args) in
      let short : length list_text ≤ 272 = omega (arith, list, count, few) in
      let front = joined (codes "call " ++ callee) (codes "(") (joined (codes "call ") callee word (callee_short g)) left in
      omega (arith, joined (codes "call " ++ callee ++ codes "(" ++ list_text) (codes ")") (joined (codes "call " ++ callee ++ codes "(") list_text front short) right)

  record IsShortText (text : Lines) (heads : List Head) (deep : ℕ) : Type 0 where
    within : (k : ℕ) → k + deep ≤ 40 → list_all fits heads ≡ true → length (text k) ≤ 512 * length heads

  abbrev text_block : Block → List Lines
  text_block = fold-Block Lines (List Lines) (statement_text_step p registers) block_text_step

  abbrev Brief : Stmt → Type 0
  Brief s = IsShortText (statement_text p registers s) (heads_of s) (depth_of s)

  abbrev IsBriefLayer : Stmt-F Stmt Block → Type 0
  IsBriefLayer x = IsShortText
      (statement_text_step p registers (map-Stmt Stmt Block Lines (List Lines) (statement_text p registers) text_block x))
      (heads_step (map-Stmt Stmt Block (List Head) (List Head) heads_of (fold-Block (List Head) (List Head) heads_step heads_block) x))
      (depth_step (map-Stmt Stmt Block ℕ ℕ depth_of (fold-Block ℕ ℕ depth_step depth_block) x))

  rolled : (x : Stmt-F Stmt Block) → IsBriefLayer x → Brief (roll-Stmt x)
  rolled x brief = subst (λ (q : Lines × List Head × ℕ). IsShortText q.0 q.1 q.2)
      (λ i. (
        sym (fold-roll-Stmt Lines (List Lines) (statement_text_step p registers) block_text_step x) i,
        sym (fold-roll-Stmt (List Head) (List Head) heads_step heads_block x) i,
        sym (fold-roll-Stmt ℕ ℕ depth_step depth_block x) i,
      )) brief

  abbrev texts : List Stmt → List Lines
  texts = map (statement_text p registers)

  statements_short : (ss : List Stmt) → Each Brief ss → (k : ℕ) → k + depth_of_all ss ≤ 40 → list_all fits (heads_of_all ss) ≡ true → length (all_at k (texts ss)) ≤ 512 * length (heads_of_all ss)
  statements_short [] each k low e = omega arith
  statements_short (s ∷ ss) each k low e =
      let parts = in_both fits (heads_of s) (heads_of_all ss) e in
      let here = each.0.within k (omega (arith, low)) parts.0 in
      let there = statements_short ss each.1 k (omega (arith, low)) parts.1 in
      omega (arith, here, there, length-append (statement_text p registers s k) (all_at k (texts ss)), length-append (heads_of s) (heads_of_all ss))

  -- the rules for a statement's own numbers, and for a call its arguments
  own_numbers : (h : Head) (hs : List Head) → list_all fits (h ∷ hs) ≡ true → numbers_exist (length registers) (length params) h ≡ true
  own_numbers h hs e = (and_parts (numbers_exist (length registers) (length params) h) (atomic_location_exists (length p.atomic) h && (na_location_exists (length p.na) h && (order_is_allowed h && arity_agrees params h))) (and_parts (fits h) (list_all fits hs) e).0).0

  own_arity : (h : Head) (hs : List Head) → list_all fits (h ∷ hs) ≡ true → arity_agrees params h ≡ true
  own_arity h hs e =
      let a = and_parts (numbers_exist (length registers) (length params) h) (atomic_location_exists (length p.atomic) h && (na_location_exists (length p.na) h && (order_is_allowed h && arity_agrees params h))) (and_parts (fits h) (list_all fits hs) e).0 in
      let b = and_parts (atomic_location_exists (length p.atomic) h) (na_location_exists (length p.na) h && (order_is_allowed h && arity_agrees params h)) a.1 in
      let c = and_parts (na_location_exists (length p.na) h) (order_is_allowed h && arity_agrees params h) b.1 in
      (and_parts (order_is_allowed h) (arity_agrees params h) c.1).1

  others_fit : (h : Head) (hs : List Head) → list_all fits (h ∷ hs) ≡ true → list_all fits hs ≡ true
  others_fit h hs e = (and_parts (fits h) (list_all fits hs) e).1

  block_line : (k n : ℕ) (word : List ℕ) (a : Atom) → length word ≤ n → atom_exists (length registers) a ≡ true → length (line k (word ++ atom_text registers a ++ codes " {")) ≤ 2 * k + (n + 32 + 2) + 1
  block_line k n word a h e = let brace : length (codes " {") ≤ 2 = omega arith in line_short k (n + 32 + 2) (word ++ atom_text registers a ++ codes " {") (joined _ _ (joined _ _ h (atom_short a e)) brace)

  close_line : (k : ℕ) → length (line k (codes "}")) ≤ 2 * k + 2
  close_line k = let brace : length (codes "}") ≤ 1 = omega arith in let whole = line_short k 1 (codes "}") brace in omega (arith, whole)

  else_line : (k : ℕ) → length (line k (codes "} else {")) ≤ 2 * k + 9
  else_line k = let brace : length (codes "} else {") ≤ 8 = omega arith in let whole = line_short k 8 (codes "} else {") brace in omega (arith, whole)

  if_short : (a : Atom) (one other : List Stmt) → Each Brief one → Each Brief other → (k : ℕ) → k + (1 + max (depth_of_all one) (depth_of_all other)) ≤ 40 → list_all fits (If a tt tt ∷ (heads_of_all one ++ heads_of_all other)) ≡ true
      → length (line k (codes "if " ++ atom_text registers a ++ codes " {") ++ all_at (k + 1) (texts one) ++ else_text k (texts other)) ≤ 512 * length (If a tt tt ∷ (heads_of_all one ++ heads_of_all other))
  if_short a one [] first second k low e =
      let word : length (codes "if ") ≤ 3 = omega arith in
      let inner = in_both fits (heads_of_all one) [] (others_fit (If a tt tt) (heads_of_all one ++ []) e) in
      let head = block_line k 3 (codes "if ") a word (own_numbers (If a tt tt) (heads_of_all one ++ []) e) in
      let body = statements_short one first (k + 1) (omega (arith, low)) inner.0 in
      let whole = joined _ _ (joined _ _ head body) (close_line k) in
      omega (arith, whole, low, length-append (heads_of_all one) (heads_of_all []))
  if_short a one (s ∷ other) first second k low e =
      let word : length (codes "if ") ≤ 3 = omega arith in
      let all_other = heads_of_all (s ∷ other) in
      let inner = in_both fits (heads_of_all one) all_other (others_fit (If a tt tt) (heads_of_all one ++ all_other) e) in
      let head = block_line k 3 (codes "if ") a word (own_numbers (If a tt tt) (heads_of_all one ++ all_other) e) in
      let body = statements_short one first (k + 1) (omega (arith, low)) inner.0 in
      let more = statements_short (s ∷ other) second (k + 1) (omega (arith, low)) inner.1 in
      let whole = joined _ _ (joined _ _ head body) (joined _ _ (joined _ _ (else_line k) more) (close_line k)) in
      omega (arith, whole, low, length-append (heads_of_all one) all_other)

  while_short : (a : Atom) (body : List Stmt) → Each Brief body → (k : ℕ) → k + (1 + depth_of_all body) ≤ 40 → list_all fits (While a tt ∷ heads_of_all body) ≡ true
      → length (line k (codes "while " ++ atom_text registers a ++ codes " {") ++ all_at (k + 1) (texts body) ++ line k (codes "}")) ≤ 512 * length (While a tt ∷ heads_of_all body)
  while_short a body each k low e =
      let word : length (codes "while ") ≤ 6 = omega arith in
      let head = block_line k 6 (codes "while ") a word (own_numbers (While a tt) (heads_of_all body) e) in
      let inner = statements_short body each (k + 1) (omega (arith, low)) (others_fit (While a tt) (heads_of_all body) e) in
      let whole = joined _ _ (joined _ _ head inner) (close_line k) in
      omega (arith, whole, low)

  -- the lines, heads and depth of a block

  abbrev Inner : Type 0
  Inner = List Lines × List Head × ℕ

  abbrev folded : Block → Inner
  folded b = (text_block b, fold-Block (List Head) (List Head) heads_step heads_block b, fold-Block ℕ ℕ depth_step depth_block b)

  abbrev mapped : Block → Inner
  mapped b = (texts b.statements, heads_of_all b.statements, depth_of_all b.statements)

  mapped_folded : (b : Block) → mapped b ≡ folded b
  mapped_folded b = λ i. (
    sym (fold_block (statement_text_step p registers) block_text_step b) i,
    sym (fold_block heads_step heads_block b) i,
    sym (fold_block depth_step depth_block b) i,
  )

  abbrev IfBrief : Atom → Inner → Inner → Type 0
  IfBrief a one other = IsShortText (statement_text_step p registers (If a one.0 other.0)) (heads_step (If a one.1 other.1)) (depth_step (If a one.2 other.2))

  abbrev WhileBrief : Atom → Inner → Type 0
  WhileBrief a body = IsShortText (statement_text_step p registers (While a body.0)) (heads_step (While a body.1)) (depth_step (While a body.2))

  brief_layer : (y : Stmt-F (Known Brief) (KnownBlock Brief)) → IsBriefLayer (known Brief y)
  brief_layer Skip = record { within = λ k low e. let word : length (codes "skip;") ≤ 5 = omega arith in let whole = line_short k 5 (codes "skip;") word in omega (arith, whole, low) }
  brief_layer (Copy r a) = record {
    within = λ k low e. let parts = and_parts (nat_lt r (length registers)) (atom_exists (length registers) a) (own_numbers (Copy r a) [] e) in assigned k r 32 (atom_text registers a) (omega (arith, low)) (omega arith) (atom_short a parts.1);
  }
  brief_layer (Compute r o a b) = record {
    within = λ k low e.
        let parts = and_parts (nat_lt r (length registers)) (atom_exists (length registers) a && atom_exists (length registers) b) (own_numbers (Compute r o a b) [] e) in
        let operands = and_parts (atom_exists (length registers) a) (atom_exists (length registers) b) parts.1 in
        assigned k r 68 (compute_text registers o a b) (omega (arith, low)) (omega arith) (omega (arith, computed o a b operands.0 operands.1));
  }
  brief_layer (Load r x) = record {
    within = λ k low e. let word : length (codes "load ") ≤ 5 = omega arith in assigned k r (5 + 32) (codes "load " ++ location_name p.na x) (omega (arith, low)) (omega arith) (joined (codes "load ") (location_name p.na x) word (na_short x));
  }
  brief_layer (Store x a) = record {
    within = λ k low e.
        let word : length (codes "store ") ≤ 6 = omega arith in
        let place = codes "store " ++ location_name p.na x in
        let value = joined (place ++ codes ", ") (atom_text registers a) (joined place (codes ", ") (joined (codes "store ") (location_name p.na x) word (na_short x)) comma) (atom_short a (own_numbers (Store x a) [] e)) in
        let text = joined (place ++ codes ", " ++ atom_text registers a) (codes ";") value semicolon in
        let whole = line_short k (6 + 32 + 2 + 32 + 1) (codes "store " ++ location_name p.na x ++ codes ", " ++ atom_text registers a ++ codes ";") text in
        omega (arith, whole, low);
  }
  brief_layer (AtomicLoad r o y) = record {
    within = λ k low e.
        let word : length (codes "load ") ≤ 5 = omega arith in
        assigned k r (5 + 6 + 1 + 32) (atomic_load_text o (location_name p.atomic y)) (omega (arith, low)) (omega arith) (joined (codes "load " ++ order_text o ++ codes " ") (location_name p.atomic y) (joined (codes "load " ++ order_text o) (codes " ") (joined (codes "load ") (order_text o) word (order_short o)) blank) (atomic_short y));
  }
  brief_layer (AtomicStore o y a) = record {
    within = λ k low e.
        let word : length (codes "store ") ≤ 6 = omega arith in
        let front = codes "store " ++ order_text o ++ codes " " ++ location_name p.atomic y ++ codes ", " in
        let value = joined front (atom_text registers a) (placed (codes "store ") o y word) (atom_short a (own_numbers (AtomicStore o y a) [] e)) in
        let text = joined (front ++ atom_text registers a) (codes ";") value semicolon in
        let whole = line_short k (6 + 6 + 1 + 32 + 2 + 32 + 1) (codes "store " ++ order_text o ++ codes " " ++ location_name p.atomic y ++ codes ", " ++ atom_text registers a ++ codes ";") text in
        omega (arith, whole, low);
  }
  brief_layer (Update r o y kind) = record {
    within = λ k low e.
        let parts = and_parts (nat_lt r (length registers)) (operands_exist (length registers) kind) (own_numbers (Update r o y kind) [] e) in
        assigned k r 128 (update_text registers o (location_name p.atomic y) kind) (omega (arith, low)) (omega arith) (updated o y kind parts.1);
  }
  brief_layer (Fence o) = record {
    within = λ k low e.
        let word : length (codes "fence ") ≤ 6 = omega arith in
        let whole = line_short k (6 + 6 + 1) (codes "fence " ++ order_text o ++ codes ";") (joined (codes "fence " ++ order_text o) (codes ";") (joined (codes "fence ") (order_text o) word (order_short o)) semicolon) in
        omega (arith, whole, low);
  }
  brief_layer (Print a) = record {
    within = λ k low e.
        let word : length (codes "print ") ≤ 6 = omega arith in
        let whole = line_short k (6 + 32 + 1) (codes "print " ++ atom_text registers a ++ codes ";") (joined (codes "print " ++ atom_text registers a) (codes ";") (joined (codes "print ") (atom_text registers a) word (atom_short a (own_numbers (Print a) [] e))) semicolon) in
        omega (arith, whole, low);
  }
  brief_layer (If a one other) =
      subst (λ q. IfBrief a q (folded other.0)) (mapped_folded one.0)
      (subst (IfBrief a (mapped one.0)) (mapped_folded other.0) (record { within = if_short a one.0.statements other.0.statements one.1 other.1 }))
  brief_layer (While a body) = subst (WhileBrief a) (mapped_folded body.0) (record { within = while_short a body.0.statements body.1 })
  brief_layer (Call r g args) = record {
    within = λ k low e.
        let parts = and_parts (nat_lt r (length registers)) (nat_lt g (length params) && list_all (atom_exists (length registers)) args) (own_numbers (Call r g args) [] e) in
        let callee = and_parts (nat_lt g (length params)) (list_all (atom_exists (length registers)) args) parts.1 in
        let few = few_args params g (length args) small callee.0 (own_arity (Call r g args) [] e) in
        assigned k r 320 (call_text registers (function_name p.functions g) args) (omega (arith, low)) (omega arith) (called g args few callee.1);
  }

  pub body_short : (ss : List Stmt) → depth_of_all ss ≤ 32 → list_all fits (heads_of_all ss) ≡ true → length (statements_text p registers 1 ss) ≤ 512 * site_count ss
  body_short ss low e = statements_short ss (each_holds Brief (by_blocks Brief (λ y. rolled (known Brief y) (brief_layer y))) ss) 1 (omega (arith, low)) e

-- the parts of a program

module _ (p : Program) (facts : WellFormedFacts p) where
  named : {X : Type 0} (name : X → List ℕ) (xs : List X) → list_all (λ x. is_declarable (name x)) xs ≡ true → list_all (λ x. is_short (name x)) xs ≡ true
  named name xs e = all_weaker (λ x. is_declarable (name x)) (λ x. is_short (name x)) (λ x here. (and_parts (is_name (name x)) (is_short (name x)) here).1) xs e

  few_params : (fs : List Function) → list_all (function_fits (declared_by p)) fs ≡ true → list_all (λ n. nat_le n 8) (map (λ f. f.params) fs) ≡ true
  few_params [] e = refl
  few_params (f ∷ fs) e =
      let parts = and_parts (function_fits (declared_by p) f) (list_all (function_fits (declared_by p)) fs) e in
      let own = function_facts (declared_by p) f parts.0 in
      and_from (nat_le f.params 8) (list_all (λ n. nat_le n 8) (map (λ f. f.params) fs)) (le-leb f.params 8 own.few_params) (few_params fs parts.1)

  small_params : list_all (λ n. nat_le n 8) (params_of p) ≡ true
  small_params = few_params p.functions facts.functions

  names_listed : (registers : List (List ℕ)) → list_all is_short registers ≡ true → length registers ≤ 64 → length (listed registers) ≤ 2176
  names_listed registers e few = let list = listed_short registers 32 e in omega (arith, list, few)

  registers_short : (names : List (List ℕ)) → list_all is_short names ≡ true → length names ≤ 64 → length (registers_text names) ≤ 2184
  registers_short [] e few = omega arith
  registers_short (n ∷ ns) e few =
      let word : length (codes "reg ") ≤ 4 = omega arith in
      let end : length (codes ";") ≤ 1 = omega arith in
      let whole = line_short 1 (4 + 2176 + 1) (codes "reg " ++ listed (n ∷ ns) ++ codes ";") (joined (codes "reg " ++ listed (n ∷ ns)) (codes ";") (joined (codes "reg ") (listed (n ∷ ns)) word (names_listed (n ∷ ns) e few)) end) in
      omega (arith, whole)

  function_short : (f : Function) → is_declarable f.name && function_fits (declared_by p) f ≡ true → length (function_text p f) ≤ 2105344
  unfolding function_text
  function_short f e =
      let parts = and_parts (is_declarable f.name) (function_fits (declared_by p) f) e in
      let own = function_facts (declared_by p) f parts.1 in
      let name = leb-true (length f.name) 32 (and_parts (is_name f.name) (is_short f.name) parts.0).1 in
      let registers : list_all is_short f.registers ≡ true = all_weaker (is_unused_name (names_of p)) is_short (λ r here. (and_parts (is_name r) (is_short r) (and_parts (is_declarable r) (not (is_among (names_of p) r)) here).0).1) f.registers own.free in
      let fn : length (codes "fn ") ≤ 3 = omega arith in
      let left : length (codes "(") ≤ 1 = omega arith in
      let right : length (codes ") {") ≤ 3 = omega arith in
      let return : length (codes "return ") ≤ 7 = omega arith in
      let end : length (codes ";") ≤ 1 = omega arith in
      let close : length (codes "}") ≤ 1 = omega arith in
      let parameters = names_listed (take f.params f.registers) (take_all is_short f.params f.registers registers) (omega (arith, own.few_registers, length-take-le f.params f.registers)) in
      let head = line_short 0 (3 + 32 + 1 + 2176 + 3) (codes "fn " ++ f.name ++ codes "(" ++ listed (take f.params f.registers) ++ codes ") {") (joined (codes "fn " ++ f.name ++ codes "(" ++ listed (take f.params f.registers)) (codes ") {") (joined (codes "fn " ++ f.name ++ codes "(") (listed (take f.params f.registers)) (joined (codes "fn " ++ f.name) (codes "(") (joined (codes "fn ") f.name fn name) left) parameters) right) in
      let regs = registers_short (drop f.params f.registers) (drop_all is_short f.params f.registers registers) (omega (arith, own.few_registers, length-drop f.params f.registers)) in
      let body = body_short p f.registers (params_of p) registers (named (λ l. l.name) p.na facts.na_declarable) (named (λ l. l.name) p.atomic facts.atomic_declarable) (named (λ f. f.name) p.functions facts.functions_declarable) small_params f.body.statements own.shallow own.statements in
      let result = atom_short p f.registers (params_of p) registers (named (λ l. l.name) p.na facts.na_declarable) (named (λ l. l.name) p.atomic facts.atomic_declarable) (named (λ f. f.name) p.functions facts.functions_declarable) small_params f.result own.result in
      let last = line_short 1 (7 + 32 + 1) (codes "return " ++ atom_text f.registers f.result ++ codes ";") (joined (codes "return " ++ atom_text f.registers f.result) (codes ";") (joined (codes "return ") (atom_text f.registers f.result) return result) end) in
      let closed = line_short 0 1 (codes "}") close in
      let one = line 0 (codes "fn " ++ f.name ++ codes "(" ++ listed (take f.params f.registers) ++ codes ") {") in
      let two = registers_text (drop f.params f.registers) in
      let three = statements_text p f.registers 1 f.body.statements in
      let four = line 1 (codes "return " ++ atom_text f.registers f.result ++ codes ";") in
      let whole = joined (one ++ two ++ three ++ four) (line 0 (codes "}")) (joined (one ++ two ++ three) four (joined (one ++ two) three (joined one two head regs) body) last) closed in
      omega (arith, whole, own.few_statements)

  location_short : (sort : List ℕ) → length sort ≤ 6 → (l : Location) → is_declarable l.name && is_signed_64 l.value ≡ true → length (location_text sort l) ≤ 128
  unfolding location_text
  location_short sort few l e =
      let parts = and_parts (is_declarable l.name) (is_signed_64 l.value) e in
      let name = leb-true (length l.name) 32 (and_parts (is_name l.name) (is_short l.name) parts.0).1 in
      let blank : length (codes " ") ≤ 1 = omega arith in
      let equals : length (codes " = ") ≤ 3 = omega arith in
      let end : length (codes ";") ≤ 1 = omega arith in
      let text = joined _ _ (joined _ _ (joined _ _ (joined _ _ (joined _ _ few blank) name) equals) (number_short l.value parts.1)) end in
      let whole = line_short 0 (6 + 1 + 32 + 3 + 20 + 1) (sort ++ codes " " ++ l.name ++ codes " = " ++ signed_decimal l.value ++ codes ";") text in
      omega (arith, whole)

  numbers_short : (zs : List ℤ) → list_all is_signed_64 zs ≡ true → list_all (λ t. nat_le (length t) 20) (map signed_decimal zs) ≡ true
  numbers_short [] e = refl
  numbers_short (z ∷ zs) e =
      let parts = and_parts (is_signed_64 z) (list_all is_signed_64 zs) e in
      and_from (nat_le (length (signed_decimal z)) 20) (list_all (λ t. nat_le (length t) 20) (map signed_decimal zs)) (le-leb (length (signed_decimal z)) 20 (number_short z parts.0)) (numbers_short zs parts.1)

  thread_short : (t : Start) → thread_fits (params_of p) t ≡ true → length (thread_text p t) ≤ 512
  unfolding thread_text
  thread_short t e =
      let parts = and_parts (thread_numbers_exist (length (params_of p)) t) (thread_arity_agrees (params_of p) t) e in
      let there = and_parts (nat_lt t.function (length (params_of p))) (list_all is_signed_64 t.args) parts.0 in
      let few = few_args (params_of p) t.function (length t.args) small_params there.0 parts.1 in
      let word : length (codes "thread ") ≤ 7 = omega arith in
      let left : length (codes "(") ≤ 1 = omega arith in
      let right : length (codes ");") ≤ 2 = omega arith in
      let list = listed_short (map signed_decimal t.args) 20 (numbers_short t.args there.1) in
      let count = length-map t.args signed_decimal in
      let args : length (listed (map signed_decimal t.args)) ≤ 176 = omega (arith, list, count, few) in
      let name = name_short (λ f. f.name) p.functions t.function (named (λ f. f.name) p.functions facts.functions_declarable) in
      let callee = function_name p.functions t.function in
      let list_text = listed (map signed_decimal t.args) in
      let front = joined (codes "thread " ++ callee ++ codes "(" ++ list_text) (codes ");") (joined (codes "thread " ++ callee ++ codes "(") list_text (joined (codes "thread " ++ callee) (codes "(") (joined (codes "thread ") callee word name) left) args) right in
      let whole = line_short 0 (7 + 32 + 1 + 176 + 2) (codes "thread " ++ function_name p.functions t.function ++ codes "(" ++ listed (map signed_decimal t.args) ++ codes ");") front in
      omega (arith, whole)

  header_short : length (header_text p) ≤ 4
  header_short = go (has_no_fence p)
    where
      go : (none : Bool) → length (if none then codes "il 1" else codes "il 2") ≤ 4
      go true = omega arith
      go false = omega arith

  text_short : length (program_text p) < 2 ^ 32 - 1
  unfolding program_text
  text_short =
      let na : length (codes "na") ≤ 6 = omega arith in
      let atomic : length (codes "atomic") ≤ 6 = omega arith in
      let head = line_short 0 4 (header_text p) header_short in
      let locations = all_short (location_text (codes "na")) 128 (λ l. is_declarable l.name && is_signed_64 l.value) (location_short (codes "na") na) p.na (all_both (λ l. is_declarable l.name) (λ l. is_signed_64 l.value) p.na facts.na_declarable facts.na_values) in
      let others = all_short (location_text (codes "atomic")) 128 (λ l. is_declarable l.name && is_signed_64 l.value) (location_short (codes "atomic") atomic) p.atomic (all_both (λ l. is_declarable l.name) (λ l. is_signed_64 l.value) p.atomic facts.atomic_declarable facts.atomic_values) in
      let functions = all_short (function_text p) 2105344 (λ f. is_declarable f.name && function_fits (declared_by p) f) function_short p.functions (all_both (λ f. is_declarable f.name) (function_fits (declared_by p)) p.functions facts.functions_declarable facts.functions) in
      let threads = all_short (thread_text p) 512 (thread_fits (params_of p)) thread_short p.threads facts.threads in
      let one = line 0 (header_text p) in
      let two = flat_map (location_text (codes "na")) p.na in
      let three = flat_map (location_text (codes "atomic")) p.atomic in
      let four = flat_map (function_text p) p.functions in
      let whole = joined (one ++ two ++ three ++ four) (flat_map (thread_text p) p.threads) (joined (one ++ two ++ three) four (joined (one ++ two) three (joined one two head locations) others) functions) threads in
      omega (arith, whole, facts.few_na, facts.few_atomic, facts.few_functions, facts.few_threads)

-- the canonical text of a well-formed program has less than 2 ^ 32 - 1 bytes
pub canonical_text_short : (p : Program) → IsWellFormed p → length (program_text p) < 2 ^ 32 - 1
canonical_text_short p w = text_short p (facts_of p w)
