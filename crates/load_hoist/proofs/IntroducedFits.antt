-- A function with its loads put in is one, and fits where the function fits.
use Rattle.std.proofs.Common.{◌≡◌, ◌≤◌, ◌<◌, ◌^◌, ℕ, zero, suc, ◌+◌, max, Bool, true, false, cond, not, ◌==◌, ◌&&◌, ◌||◌, nat_le, nat_lt, List, [], ◌∷◌, ◌++◌, length, map, refl, sym, ap, ◌∙◌, length-append, arith}
use Rattle.std.specs.List.{list_any, list_all}
use Rattle.std.specs.Str.{bytes_eq}
use Rattle.std.proofs.lemmas.Bool.{and_parts, and_from, false≢true, leb-true, le-leb, ltb-true, lt-ltb, or_parts}
use Rattle.std.proofs.lemmas.Slice.Eq.{bytes_eq-Decides}
use Rattle.std.proofs.lemmas.List.Folds.{list_all-append, list_any-append}
use Rattle.il_syntax.specs.declared.statement.Atom.{Atom}
use Rattle.il_syntax.specs.declared.statement.Atom.TheVariants.{Const, Reg}
use Rattle.il_syntax.specs.declared.statement.Rmw.{Rmw}
use Rattle.il_syntax.specs.declared.statement.Rmw.TheVariants.{Add, Swap, Cas}
use Rattle.il_syntax.specs.declared.statement.Stmt.TheOpen.{Skip, Copy, Compute, Load, Store, AtomicLoad, AtomicStore, Update, Fence, Print, If, While, Call}
use Rattle.il_syntax.specs.declared.program.Function.{Function}
use Rattle.il_syntax.specs.Statements.{Head, heads_of_all, site_count, depth_of_all}
use Rattle.il_syntax.specs.Name.{is_among}
use Rattle.il_syntax.specs.WellFormed.{Declared, IsFunctionWellFormed, atom_exists, operands_exist, numbers_exist, atomic_location_exists, na_location_exists, order_is_allowed, arity_agrees, distinct}
use Rattle.il_syntax.specs.Checks.{is_declarable, is_unused_name, head_fits, registers_fit, body_fits}
use Rattle.il_syntax.proofs.Callers.{all_weaker, function_fits-is_well_formed, well_formed-function_fits}
use Rattle.il_paths.specs.Tree.{head_of_leaf, Tree, Empty, Then, IfThen, WhileThen, tree_of, heads_in, sites_of}
use Rattle.il_paths.specs.Code.{AllHeads}
use Rattle.il_paths.proofs.Callers.{heads_agree, sites_agree, all_heads_more}
use Rattle.rewriting.proofs.Callers.{one_block, depth_in, depths_agree}
use Rattle.load_hoist.specs.declared.growth.Extra.{Extra}
use Rattle.load_hoist.specs.declared.growth.Growth.{Growth}
use Rattle.load_hoist.specs.Introduced.{is_wanted, may_grow, gets_load, hoisted_name, next_number, grown, extras, put_loads, introduced, growth_of, IsIntroduced}
use Rattle.load_hoist.specs.Laws.{GivesBelow, IntroducedIsOne, IntroducedFits}
use Rattle.load_hoist.proofs.FreeNames.{next_is_free, free_at_most, hoisted_is_name, hoisted_is_short}

pub introduced_is_one : IntroducedIsOne
introduced_is_one na names f g h p q =
    let name = p.name ∙ sym q.name in
    let params = p.params ∙ sym q.params in
    let registers = p.registers ∙ sym q.registers in
    let result = p.result ∙ sym q.result in
    let body = one_block g.body h.body (p.body ∙ sym q.body) in
    λ i. record { name = name i; params = params i; registers = registers i; body = body i; result = result i }

-- What each load keeps holds after all of them.
module _ (names : List (List ℕ)) (P : Growth → Type 0) (step : (g : Growth) → may_grow g ≡ true → P g → P (grown names g)) where
  kept_by_extras : (body : Tree) (inside : List ℕ) (n x : ℕ) (g : Growth) → P g → P (extras names body inside n x g).1
  kept_by_extras body inside zero x g p = p
  kept_by_extras body inside (suc n) x g p =
      go (gets_load body inside x g) refl (λ q. kept_by_extras body inside n (x + 1) (grown names g) q) (kept_by_extras body inside n (x + 1) g p)
    where
      go : (t : Bool) → gets_load body inside x g ≡ t → (P (grown names g) → P (extras names body inside n (x + 1) (grown names g)).1) → P (extras names body inside n (x + 1) g).1 →
          P (cond t (let more = extras names body inside n (x + 1) (grown names g) in (record { r = length g.registers; x = x } ∷ more.0, more.1)) (extras names body inside n (x + 1) g)).1
      go true e more same =
          let a = and_parts (is_wanted x body) (not (list_any (λ y. y == x) inside) && may_grow g) e in
          let b = and_parts (not (list_any (λ y. y == x) inside)) (may_grow g) a.1 in
          more (step g b.1 p)
      go false e more same = same

  pub kept_by_all : (na : ℕ) (t : Tree) (inside : List ℕ) (g : Growth) → P g → P (introduced na names t inside g).1
  kept_by_all na Empty inside g p = p
  kept_by_all na (Then leaf rest) inside g p = kept_by_all na rest inside g p
  kept_by_all na (IfThen a y n rest) inside g p =
      let one = introduced na names y inside g in
      let other = introduced na names n inside one.1 in
      kept_by_all na rest inside other.1 (kept_by_all na n inside one.1 (kept_by_all na y inside g p))
  kept_by_all na (WhileThen a body rest) inside g p =
      let put = extras names body inside na 0 g in
      let within = map (λ (e : Extra). e.x) put.0 ++ inside in
      let turn = introduced na names body within put.1 in
      kept_by_all na rest inside turn.1 (kept_by_all na body within put.1 (kept_by_extras body inside na 0 g p))

-- a register that exists exists among more

more_registers : (n m r : ℕ) → n ≤ m → nat_lt r n ≡ true → nat_lt r m ≡ true
more_registers n m r h e = let l = ltb-true r n e in lt-ltb r m (omega arith)

more_atoms : (n m : ℕ) (a : Atom) → n ≤ m → atom_exists n a ≡ true → atom_exists m a ≡ true
more_atoms n m (Const k) h e = e
more_atoms n m (Reg r) h e = more_registers n m r h e

two_atoms : (n m : ℕ) (a b : Atom) → n ≤ m → (atom_exists n a && atom_exists n b) ≡ true → (atom_exists m a && atom_exists m b) ≡ true
two_atoms n m a b h e = let p = and_parts (atom_exists n a) (atom_exists n b) e in and_from (atom_exists m a) (atom_exists m b) (more_atoms n m a h p.0) (more_atoms n m b h p.1)

more_operands : (n m : ℕ) (k : Rmw) → n ≤ m → operands_exist n k ≡ true → operands_exist m k ≡ true
more_operands n m (Add a) h e = more_atoms n m a h e
more_operands n m (Swap a) h e = more_atoms n m a h e
more_operands n m (Cas a b) h e = two_atoms n m a b h e

more_numbers : (n m functions : ℕ) (head : Head) → n ≤ m → numbers_exist n functions head ≡ true → numbers_exist m functions head ≡ true
more_numbers n m k Skip h e = e
more_numbers n m k (Copy r a) h e =
    let p = and_parts (nat_lt r n) (atom_exists n a) e in and_from (nat_lt r m) (atom_exists m a) (more_registers n m r h p.0) (more_atoms n m a h p.1)
more_numbers n m k (Compute r op a b) h e =
    let p = and_parts (nat_lt r n) (atom_exists n a && atom_exists n b) e in and_from (nat_lt r m) (atom_exists m a && atom_exists m b) (more_registers n m r h p.0) (two_atoms n m a b h p.1)
more_numbers n m k (Load r x) h e = more_registers n m r h e
more_numbers n m k (Store x a) h e = more_atoms n m a h e
more_numbers n m k (AtomicLoad r order y) h e = more_registers n m r h e
more_numbers n m k (AtomicStore order y a) h e = more_atoms n m a h e
more_numbers n m k (Update r order y kind) h e =
    let p = and_parts (nat_lt r n) (operands_exist n kind) e in and_from (nat_lt r m) (operands_exist m kind) (more_registers n m r h p.0) (more_operands n m kind h p.1)
more_numbers n m k (Fence order) h e = e
more_numbers n m k (Print a) h e = more_atoms n m a h e
more_numbers n m k (If a _ _) h e = more_atoms n m a h e
more_numbers n m k (While a _) h e = more_atoms n m a h e
more_numbers n m k (Call r function args) h e =
    let p = and_parts (nat_lt r n) (nat_lt function k && list_all (atom_exists n) args) e in
    let q = and_parts (nat_lt function k) (list_all (atom_exists n) args) p.1 in
    and_from (nat_lt r m) (nat_lt function k && list_all (atom_exists m) args) (more_registers n m r h p.0)
    (and_from (nat_lt function k) (list_all (atom_exists m) args) q.0 (all_weaker (atom_exists n) (atom_exists m) (λ a f. more_atoms n m a h f) args q.1))

module _ (na atomic : ℕ) (params : List ℕ) where
  more_fits : (n m : ℕ) (head : Head) → n ≤ m → head_fits n na atomic params head ≡ true → head_fits m na atomic params head ≡ true
  more_fits n m head h e =
      let rest = atomic_location_exists atomic head && (na_location_exists na head && (order_is_allowed head && arity_agrees params head)) in
      let p = and_parts (numbers_exist n (length params) head) rest e in
      and_from (numbers_exist m (length params) head) rest (more_numbers n m (length params) head h p.0) p.1

  load_fits : (m r x : ℕ) → r < m → x < na → head_fits m na atomic params (Load r x) ≡ true
  load_fits m r x h k =
      and_from (nat_lt r m) (true && (nat_lt x na && (true && true))) (lt-ltb r m h) (and_from (nat_lt x na) (true && true) (lt-ltb x na k) refl)

-- registers only come to the others
module _ (names : List (List ℕ)) where
  grown-registers : (g : Growth) → length (grown names g).registers ≡ length g.registers + 1
  grown-registers g = length-append g.registers (hoisted_name (next_number names g) ∷ [])

  -- where a load is put
  abbrev IsNew : (na from to : ℕ) → Extra → Type 0
  IsNew na from to e = (from ≤ e.r) × (e.r < to) × (e.x < na)

  abbrev AllNew : (na from to : ℕ) → List Extra → Type 0
  AllNew na from to [] = Unit {0}
  AllNew na from to (e ∷ es) = IsNew na from to e × AllNew na from to es

  wider : (na a b to : ℕ) (es : List Extra) → a ≤ b → AllNew na b to es → AllNew na a to es
  wider na a b to [] h all = tt
  wider na a b to (e ∷ es) h all = ((omega (arith, all.0.0), all.0.1, all.0.2), wider na a b to es h all.1)

  record Puts (na x n : ℕ) (g : Growth) (put : List Extra × Growth) : Type 0 where
    grows : length g.registers ≤ length put.1.registers
    new : AllNew na (length g.registers) (length put.1.registers) put.0
    counted : put.1.statements ≡ g.statements + length put.0

  extras_put : (na : ℕ) (body : Tree) (inside : List ℕ) (n x : ℕ) (g : Growth) → x + n ≤ na → Puts na x n g (extras names body inside n x g)
  extras_put na body inside zero x g h = record { grows = omega arith; new = tt; counted = omega arith }
  extras_put na body inside (suc n) x g h =
      go (is_wanted x body && (not (list_any (λ y. y == x) inside) && may_grow g)) (extras_put na body inside n (x + 1) (grown names g) (omega arith)) (extras_put na body inside n (x + 1) g (omega arith))
    where
      go : (t : Bool) → Puts na (x + 1) n (grown names g) (extras names body inside n (x + 1) (grown names g)) → Puts na (x + 1) n g (extras names body inside n (x + 1) g) →
          Puts na x (suc n) g (cond t (let more = extras names body inside n (x + 1) (grown names g) in (record { r = length g.registers; x = x } ∷ more.0, more.1)) (extras names body inside n (x + 1) g))
      go true more same =
          let long = grown-registers g in
          let more_grows = more.grows in
          let more_counted = more.counted in
          record {
            grows = omega (arith, long, more_grows);
            new = ((omega arith, omega (arith, long, more_grows), omega arith), wider na (length g.registers) (length (grown names g).registers) (length (extras names body inside n (x + 1) (grown names g)).1.registers) (extras names body inside n (x + 1) (grown names g)).0 (omega (arith, long)) more.new);
            counted = omega (arith, more_counted);
          }
      go false more same = record { grows = same.grows; new = same.new; counted = same.counted }

put_sites : (es : List Extra) (rest : Tree) → sites_of (put_loads es rest) ≡ length es + sites_of rest
put_sites [] rest = omega arith
put_sites (e ∷ es) rest = omega (arith, put_sites es rest)

put_depth : (es : List Extra) (rest : Tree) → depth_in (put_loads es rest) ≡ depth_in rest
put_depth [] rest = refl
put_depth (e ∷ es) rest = omega (arith, put_depth es rest)

put_heads : (P : Head → Type 0) (na from to : ℕ) (names : List (List ℕ)) (es : List Extra) (rest : Tree) → ((r x : ℕ) → r < to → x < na → P (Load r x)) → AllNew names na from to es → AllHeads P rest → AllHeads P (put_loads es rest)
put_heads P na from to names [] rest new all more = more
put_heads P na from to names (e ∷ es) rest new all more = (new e.r e.x all.0.1 all.0.2, put_heads P na from to names es rest new all.1 more)

module _ (na : ℕ) (names : List (List ℕ)) where
  grows : (t : Tree) (inside : List ℕ) (g : Growth) → length g.registers ≤ length (introduced na names t inside g).1.registers
  grows t inside g =
      kept_by_all names (λ h. length g.registers ≤ length h.registers) (λ h may p. let long = grown-registers names h in omega (arith, long)) na t inside g (omega arith)

  -- the statements so far are those of the old tree and the loads
  counted : (t : Tree) (inside : List ℕ) (g : Growth) → (introduced na names t inside g).1.statements + sites_of t ≡ g.statements + sites_of (introduced na names t inside g).0
  counted Empty inside g = refl
  counted (Then leaf rest) inside g = omega (arith, counted rest inside g)
  counted (IfThen a y n rest) inside g =
      let one = introduced na names y inside g in
      let other = introduced na names n inside one.1 in
      omega (arith, counted y inside g, counted n inside one.1, counted rest inside other.1)
  counted (WhileThen a body rest) inside g =
      let put = extras names body inside na 0 g in
      let within = map (λ (e : Extra). e.x) put.0 ++ inside in
      let turn = introduced na names body within put.1 in
      let more = introduced na names rest inside turn.1 in
      let p = (extras_put names na body inside na 0 g (omega arith)).counted in
      let s = put_sites put.0 (WhileThen a turn.0 more.0) in
      omega (arith, p, s, counted body within put.1, counted rest inside turn.1)

  deep : (t : Tree) (inside : List ℕ) (g : Growth) → depth_in (introduced na names t inside g).0 ≡ depth_in t
  deep Empty inside g = refl
  deep (Then leaf rest) inside g = ap (max 0) (deep rest inside g)
  deep (IfThen a y n rest) inside g =
      let one = introduced na names y inside g in
      let other = introduced na names n inside one.1 in
      λ i. max (1 + max (deep y inside g i) (deep n inside one.1 i)) (deep rest inside other.1 i)
  deep (WhileThen a body rest) inside g =
      let put = extras names body inside na 0 g in
      let within = map (λ (e : Extra). e.x) put.0 ++ inside in
      let turn = introduced na names body within put.1 in
      let more = introduced na names rest inside turn.1 in
      put_depth put.0 (WhileThen a turn.0 more.0) ∙ (λ i. max (1 + deep body within put.1 i) (deep rest inside turn.1 i))

  -- what holds of the old statements and of loads into registers below m holds of each
  all_old_and_new : (P : Head → Type 0) (m : ℕ) → ((r x : ℕ) → r < m → x < na → P (Load r x)) → (t : Tree) (inside : List ℕ) (g : Growth) → length (introduced na names t inside g).1.registers ≤ m → AllHeads P t → AllHeads P (introduced na names t inside g).0
  all_old_and_new P m new Empty inside g h all = tt
  all_old_and_new P m new (Then leaf rest) inside g h all = (all.0, all_old_and_new P m new rest inside g h all.1)
  all_old_and_new P m new (IfThen a y n rest) inside g h all =
      let one = introduced na names y inside g in
      let other = introduced na names n inside one.1 in
      let g1 = grows n inside one.1 in
      let g2 = grows rest inside other.1 in
      (all.0, all_old_and_new P m new y inside g (omega (arith, g1, g2)) all.1, all_old_and_new P m new n inside one.1 (omega (arith, g2)) all.2, all_old_and_new P m new rest inside other.1 h all.3)
  all_old_and_new P m new (WhileThen a body rest) inside g h all =
      let put = extras names body inside na 0 g in
      let within = map (λ (e : Extra). e.x) put.0 ++ inside in
      let turn = introduced na names body within put.1 in
      let more = introduced na names rest inside turn.1 in
      let p = extras_put names na body inside na 0 g (omega arith) in
      let g1 = grows body within put.1 in
      let g2 = grows rest inside turn.1 in
      put_heads P na (length g.registers) (length put.1.registers) names put.0 (WhileThen a turn.0 more.0) (λ r x l k. new r x (omega (arith, g1, g2)) k) p.new
      (all.0, all_old_and_new P m new body within put.1 (omega (arith, g2)) all.1, all_old_and_new P m new rest inside turn.1 h all.2)

-- tests of all statements of a tree

two_parts : (test : Head → Bool) (xs ys : List Head) → list_all test (xs ++ ys) ≡ true → (list_all test xs ≡ true) × (list_all test ys ≡ true)
two_parts test xs ys e = and_parts (list_all test xs) (list_all test ys) (sym (list_all-append test xs ys) ∙ e)

two_from : (test : Head → Bool) (xs ys : List Head) → list_all test xs ≡ true → list_all test ys ≡ true → list_all test (xs ++ ys) ≡ true
two_from test xs ys e f = list_all-append test xs ys ∙ and_from (list_all test xs) (list_all test ys) e f

tested : (test : Head → Bool) (t : Tree) → list_all test (heads_in t) ≡ true → AllHeads (λ h. test h ≡ true) t
tested test Empty e = tt
tested test (Then leaf rest) e = let p = and_parts (test (head_of_leaf leaf)) (list_all test (heads_in rest)) e in (p.0, tested test rest p.1)
tested test (IfThen a y n rest) e =
    let p = and_parts (test (If a tt tt)) (list_all test (heads_in y ++ (heads_in n ++ heads_in rest))) e in
    let q = two_parts test (heads_in y) (heads_in n ++ heads_in rest) p.1 in
    let r = two_parts test (heads_in n) (heads_in rest) q.1 in
    (p.0, tested test y q.0, tested test n r.0, tested test rest r.1)
tested test (WhileThen a body rest) e =
    let p = and_parts (test (While a tt)) (list_all test (heads_in body ++ heads_in rest)) e in
    let q = two_parts test (heads_in body) (heads_in rest) p.1 in
    (p.0, tested test body q.0, tested test rest q.1)

all_tested : (test : Head → Bool) (t : Tree) → AllHeads (λ h. test h ≡ true) t → list_all test (heads_in t) ≡ true
all_tested test Empty a = refl
all_tested test (Then leaf rest) a = and_from (test (head_of_leaf leaf)) (list_all test (heads_in rest)) a.0 (all_tested test rest a.1)
all_tested test (IfThen c y n rest) a =
    and_from (test (If c tt tt)) (list_all test (heads_in y ++ (heads_in n ++ heads_in rest))) a.0
    (two_from test (heads_in y) (heads_in n ++ heads_in rest) (all_tested test y a.1) (two_from test (heads_in n) (heads_in rest) (all_tested test n a.2) (all_tested test rest a.3)))
all_tested test (WhileThen c body rest) a =
    and_from (test (While c tt)) (list_all test (heads_in body ++ heads_in rest)) a.0 (two_from test (heads_in body) (heads_in rest) (all_tested test body a.1) (all_tested test rest a.2))

-- one more register

same_bytes : (x y : List ℕ) → bytes_eq x y ≡ false → bytes_eq y x ≡ false
same_bytes x y e = go (bytes_eq y x) refl
  where
    go : (b : Bool) → bytes_eq y x ≡ b → b ≡ false
    go false f = refl
    go true f = let same = (bytes_eq-Decides y x).0 f in absurd (false≢true (sym e ∙ (bytes_eq-Decides x y).1 (sym same)))

or_from : (p q : Bool) → p ≡ false → q ≡ false → (p || q) ≡ false
or_from p q e f = λ i. e i || f i

distinct-push : (xs : List (List ℕ)) (name : List ℕ) → distinct xs ≡ true → is_among xs name ≡ false → distinct (xs ++ name ∷ []) ≡ true
distinct-push [] name d f = refl
distinct-push (x ∷ xs) name d f =
    let p = and_parts (not (is_among xs x)) (distinct xs) d in
    let q = or_parts (bytes_eq name x) (is_among xs name) f in
    and_from (not (is_among (xs ++ name ∷ []) x)) (distinct (xs ++ name ∷ []))
    (ap not (list_any-append (λ n. bytes_eq x n) xs (name ∷ [])) ∙ (λ i. not (is_among xs x || (same_bytes name x q.0 i || false))) ∙ ap not (or_false (is_among xs x)) ∙ p.0)
    (distinct-push xs name p.1 q.1)
  where
    or_false : (b : Bool) → (b || (false || false)) ≡ b
    or_false true = refl
    or_false false = refl

-- The registers fit after each load, and there are at most as many of them and of statements as there may be.
module _ (names : List (List ℕ)) (few : length names < 2 ^ 32) where
  record Good (g : Growth) : Type 0 where
    registers : registers_fit names g.registers ≡ true
    statements : g.statements ≤ 4096

  good_step : (g : Growth) → may_grow g ≡ true → Good g → Good (grown names g)
  good_step g may good =
      let regs = g.registers in
      let taken = regs ++ names in
      let k = next_number names g in
      let name = hoisted_name k in
      let m = and_parts (nat_lt (length regs) 64) (nat_lt g.statements 4096) may in
      let few_registers = ltb-true (length regs) 64 m.0 in
      let few_statements = ltb-true g.statements 4096 m.1 in
      let long = length-append regs names in
      let most = free_at_most (length taken) 0 taken in
      let free = next_is_free taken (omega arith) in
      let apart = or_parts (is_among regs name) (is_among names name) (sym (list_any-append (λ n. bytes_eq name n) regs names) ∙ free) in
      let p = and_parts (nat_le (length regs) 64) (list_all (is_unused_name names) regs && distinct regs) good.registers in
      let q = and_parts (list_all (is_unused_name names) regs) (distinct regs) p.1 in
      let unused : is_unused_name names name ≡ true = and_from (is_declarable name) (not (is_among names name)) (and_from _ _ (hoisted_is_name k (omega arith)) (hoisted_is_short k (omega arith))) (ap not apart.1) in
      let one_more = grown-registers names g in
      record {
        registers =
            and_from (nat_le (length (regs ++ name ∷ [])) 64) (list_all (is_unused_name names) (regs ++ name ∷ []) && distinct (regs ++ name ∷ [])) (le-leb (length (regs ++ name ∷ [])) 64 (omega arith))
            (and_from (list_all (is_unused_name names) (regs ++ name ∷ [])) (distinct (regs ++ name ∷ []))
            (list_all-append (is_unused_name names) regs (name ∷ []) ∙ and_from (list_all (is_unused_name names) regs) (is_unused_name names name && true) q.0 (ap (λ b. b && true) unused))
            (distinct-push regs name q.1 apart.0));
        statements = omega arith;
      }

pub introduced_fits : IntroducedFits
introduced_fits d f g few w is =
    let n = length f.registers in
    let m = length g.registers in
    let t = tree_of f.body in
    let start = growth_of f in
    let made = introduced d.na d.names t [] start in
    let e = well_formed-function_fits d f w in
    let tail = registers_fit d.names f.registers && body_fits d f in
    let a = and_parts (nat_le f.params 8) (nat_le f.params n && tail) e in
    let b = and_parts (nat_le f.params n) tail a.1 in
    let c = and_parts (registers_fit d.names f.registers) (body_fits d f) b.1 in
    let test = λ (k : ℕ). head_fits k d.na d.atomic d.params in
    let old_heads = heads_of_all f.body.statements in
    let new_heads = heads_of_all g.body.statements in
    let rest = nat_le (depth_of_all f.body.statements) 32 && (list_all (test n) old_heads && atom_exists n f.result) in
    let h = and_parts (nat_le (site_count f.body.statements) 4096) rest c.1 in
    let i = and_parts (nat_le (depth_of_all f.body.statements) 32) (list_all (test n) old_heads && atom_exists n f.result) h.1 in
    let j = and_parts (list_all (test n) old_heads) (atom_exists n f.result) i.1 in
    let sites = sites_agree f.body in
    let few_before = leb-true (site_count f.body.statements) 4096 h.0 in
    let good : Good d.names few made.1 = kept_by_all d.names (Good d.names few) (good_step d.names few) d.na t [] start (record { registers = c.0; statements = omega arith }) in
    let same_length = ap length is.registers in
    let more = grows d.na d.names t [] start in
    let most : n ≤ m = omega arith in
    let all = counted d.na d.names t [] start in
    let new_sites = sym (sites_agree g.body) ∙ ap sites_of is.body in
    let good_statements = good.statements in
    let depth = sym (depths_agree g.body) ∙ ap depth_in is.body ∙ deep d.na d.names t [] start ∙ depths_agree f.body in
    let heads : list_all (test m) new_heads ≡ true =
    ap (list_all (test m)) (sym (heads_agree g.body) ∙ ap heads_in is.body) ∙ all_tested (test m) made.0
    (all_old_and_new d.na d.names (λ head. test m head ≡ true) m (λ r x l k. load_fits d.na d.atomic d.params m r x l k) t [] start (omega arith)
    (tested (test m) t (all_weaker (test n) (test m) (λ head k. more_fits d.na d.atomic d.params n m head most k) (heads_in t) (ap (list_all (test n)) (heads_agree f.body) ∙ j.0)))) in
    let le = leb-true f.params n b.0 in
    let same_params = is.params in
    function_fits-is_well_formed d g
    (and_from (nat_le g.params 8) (nat_le g.params m && (registers_fit d.names g.registers && body_fits d g)) (ap (λ (k : ℕ). nat_le k 8) is.params ∙ a.0)
    (and_from (nat_le g.params m) (registers_fit d.names g.registers && body_fits d g) (le-leb g.params m (omega arith))
    (and_from (registers_fit d.names g.registers) (body_fits d g) (ap (registers_fit d.names) is.registers ∙ good.registers)
    (and_from (nat_le (site_count g.body.statements) 4096) (nat_le (depth_of_all g.body.statements) 32 && (list_all (test m) new_heads && atom_exists m g.result)) (le-leb (site_count g.body.statements) 4096 (omega arith))
    (and_from (nat_le (depth_of_all g.body.statements) 32) (list_all (test m) new_heads && atom_exists m g.result) (ap (λ (k : ℕ). nat_le k 32) depth ∙ i.0)
    (and_from (list_all (test m) new_heads) (atom_exists m g.result) heads (ap (atom_exists m) is.result ∙ more_atoms n m f.result most j.1)))))))

pub introduced_more : (na : ℕ) (names : List (List ℕ)) (f g : Function) → IsIntroduced na names f g → length f.registers ≤ length g.registers
introduced_more na names f g is = let more = ap length is.registers in let most = grows na names (tree_of f.body) [] (growth_of f) in omega arith

-- as many statements more as registers
pub introduced_grown : (na : ℕ) (names : List (List ℕ)) (f g : Function) → IsIntroduced na names f g → site_count g.body.statements + length f.registers ≡ site_count f.body.statements + length g.registers
introduced_grown na names f g is =
    let t = tree_of f.body in
    let start = growth_of f in
    let all = counted na names t [] start in
    let old = sites_agree f.body in
    let new = sym (sites_agree g.body) ∙ ap sites_of is.body in
    let more = ap length is.registers in
    let kept : (introduced na names t [] start).1.statements + length f.registers ≡ sites_of t + length (introduced na names t [] start).1.registers =
    kept_by_all names (λ h. h.statements + length f.registers ≡ sites_of t + length h.registers) (λ h may p. let long = grown-registers names h in omega (arith, long, p)) na t [] start refl in
    omega (arith, all, old, new, more, kept)

-- a function that fits gives no register past its own

gives : (n functions : ℕ) (head : Head) → numbers_exist n functions head ≡ true → GivesBelow n head
gives n k Skip e = tt
gives n k (Copy r a) e = ltb-true r n (and_parts (nat_lt r n) (atom_exists n a) e).0
gives n k (Compute r op a b) e = ltb-true r n (and_parts (nat_lt r n) (atom_exists n a && atom_exists n b) e).0
gives n k (Load r x) e = ltb-true r n e
gives n k (Store x a) e = tt
gives n k (AtomicLoad r order y) e = ltb-true r n e
gives n k (AtomicStore order y a) e = tt
gives n k (Update r order y kind) e = ltb-true r n (and_parts (nat_lt r n) (operands_exist n kind) e).0
gives n k (Fence order) e = tt
gives n k (Print a) e = tt
gives n k (If a _ _) e = tt
gives n k (While a _) e = tt
gives n k (Call r function args) e = ltb-true r n (and_parts (nat_lt r n) (nat_lt function k && list_all (atom_exists n) args) e).0

pub gives_below : (d : Declared) (f : Function) → IsFunctionWellFormed d f → AllHeads (GivesBelow (length f.registers)) (tree_of f.body)
gives_below d f w =
    let n = length f.registers in
    let test = numbers_exist n (length d.params) in
    let a = and_parts (nat_le f.params n) (list_all test (heads_of_all f.body.statements) && atom_exists n f.result) w.numbers in
    let b = and_parts (list_all test (heads_of_all f.body.statements)) (atom_exists n f.result) a.1 in
    all_heads_more (λ h. test h ≡ true) (GivesBelow n) (gives n (length d.params)) (tree_of f.body) (tested test (tree_of f.body) (ap (list_all test) (heads_agree f.body) ∙ b.0))

-- no more statements than there may be
pub introduced_count : (na : ℕ) (names : List (List ℕ)) (f g : Function) → site_count f.body.statements ≤ 4096 → IsIntroduced na names f g → site_count g.body.statements ≤ 4096
introduced_count na names f g few is =
    let t = tree_of f.body in
    let start = growth_of f in
    let sites = sites_agree f.body in
    let new_sites = sym (sites_agree g.body) ∙ ap sites_of is.body in
    let all = counted na names t [] start in
    let kept : (introduced na names t [] start).1.statements ≤ 4096 =
    kept_by_all names (λ h. h.statements ≤ 4096)
    (λ h may p. let l = ltb-true h.statements 4096 (and_parts (nat_lt (length h.registers) 64) (nat_lt h.statements 4096) may).1 in omega arith) na t [] start (omega arith) in
    omega arith
