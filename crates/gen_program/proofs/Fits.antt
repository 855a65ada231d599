-- The statements of draws fit: few, in blocks that are shallow, and each by the rules for statements.
use Rattle.std.proofs.Common.{◌≡◌, ◌≤◌, ◌<◌, ◌^◌, ◌*◌, ℕ, zero, suc, ◌+◌, max, Bool, true, false, cond, ◌==◌, ◌&&◌, nat_lt, List, [], ◌∷◌, ◌++◌, length, length-append, refl, sym, ap, ◌∙◌, subst, arith}
use Rattle.std.specs.List.{list_all}
use Rattle.std.proofs.lemmas.Bool.{lt-ltb, and_from}
use Rattle.std.proofs.lemmas.List.Folds.{list_all-append}
use Rattle.std.proofs.Common.{append_assoc}
use Rattle.rand_pcg.specs.Lcg.{Lcg}
use Rattle.values_undef.specs.declared.access.Order.TheVariants.{Rlx, Acq, Rel}
use Rattle.values_undef.specs.declared.arithmetic.Op.TheVariants.{Sub}
use Rattle.il_syntax.specs.declared.statement.Atom.TheVariants.{Reg}
use Rattle.il_syntax.specs.declared.statement.Stmt.{Stmt, roll-Stmt, out-Stmt, out-roll-Stmt, map-Stmt, fold_out-Stmt}
use Rattle.il_syntax.specs.declared.statement.Stmt as made
use Rattle.il_syntax.specs.declared.statement.Stmt.TheVariants.{rolls-While}
use Rattle.il_syntax.specs.declared.statement.Stmt.TheOpen.{Stmt-F, Copy, Compute, Load, Store, AtomicLoad, AtomicStore, Print, While}
use Rattle.il_syntax.specs.declared.statement.Block.{Block, fold-Block, fold_out-Block}
use Rattle.il_syntax.specs.Statements.{Head, heads_step, heads_block, heads_of, heads_of_all, site_count, depth_step, depth_block, depth_of, depth_of_all}
use Rattle.il_syntax.specs.Checks.{head_fits}
use Rattle.gen_program.specs.Generated.{Drawn, drawn, after_word, constant, three_turns, drawn_by_form, one_draw, draws}
use Rattle.gen_program.proofs.Steps.{draws-suc, draws-zero}

heads-append : (xs ys : List Stmt) → heads_of_all (xs ++ ys) ≡ heads_of_all xs ++ heads_of_all ys
heads-append [] ys = refl
heads-append (x ∷ xs) ys = ap (λ (hs : List Head). heads_of x ++ hs) (heads-append xs ys) ∙ sym (append_assoc (heads_of x) (heads_of_all xs) (heads_of_all ys))

depth-append : (xs ys : List Stmt) → depth_of_all (xs ++ ys) ≡ max (depth_of_all xs) (depth_of_all ys)
depth-append [] ys = omega arith
depth-append (x ∷ xs) ys = omega (arith, depth-append xs ys)

-- a statement, from its form

abbrev folded_heads : Block → List Head
folded_heads = fold-Block (List Head) (List Head) heads_step heads_block

heads_of-roll : (x : Stmt-F Stmt Block) → heads_of (roll-Stmt x) ≡ heads_step (map-Stmt Stmt Block (List Head) (List Head) heads_of folded_heads x)
heads_of-roll x =
    fold_out-Stmt (List Head) (List Head) heads_step heads_block (roll-Stmt x) ∙ ap (λ (l : Stmt-F Stmt Block). heads_step (map-Stmt Stmt Block (List Head) (List Head) heads_of folded_heads l)) (out-roll-Stmt x)

abbrev folded_depth : Block → ℕ
folded_depth = fold-Block ℕ ℕ depth_step depth_block

depth_of-roll : (x : Stmt-F Stmt Block) → depth_of (roll-Stmt x) ≡ depth_step (map-Stmt Stmt Block ℕ ℕ depth_of folded_depth x)
depth_of-roll x = fold_out-Stmt ℕ ℕ depth_step depth_block (roll-Stmt x) ∙ ap (λ (l : Stmt-F Stmt Block). depth_step (map-Stmt Stmt Block ℕ ℕ depth_of folded_depth l)) (out-roll-Stmt x)

module _ (params : List ℕ) where
  pub record Fit (sites : ℕ) (ss : List Stmt) : Type 0 where
    pub few : site_count ss ≤ sites
    pub shallow : depth_of_all ss ≤ 1
    pub each : list_all (head_fits 5 4 2 params) (heads_of_all ss) ≡ true

  fit-append : (m n : ℕ) (xs ys : List Stmt) → Fit m xs → Fit n ys → Fit (m + n) (xs ++ ys)
  fit-append m n xs ys f g =
      let heads = heads-append xs ys in
      let count = ap length heads ∙ length-append (heads_of_all xs) (heads_of_all ys) in
      let few_xs = f.few in
      let few_ys = g.few in
      let shallow_xs = f.shallow in
      let shallow_ys = g.shallow in
      let depth = depth-append xs ys in
      record {
        few = omega (arith, count);
        shallow = omega (arith, depth);
        each = ap (list_all (head_fits 5 4 2 params)) heads ∙ list_all-append (head_fits 5 4 2 params) (heads_of_all xs) (heads_of_all ys) ∙
            and_from (list_all (head_fits 5 4 2 params) (heads_of_all xs)) (list_all (head_fits 5 4 2 params) (heads_of_all ys)) f.each g.each;
      }

  either : (b : Bool) (s t : Drawn) → Fit 4 s.statements → Fit 4 t.statements → Fit 4 (cond b s t).statements
  either true s t f g = f
  either false s t f g = g

  drawn_below : (n m : ℕ) (g : Lcg) → 0 < n → n ≤ m → nat_lt (drawn n g) m ≡ true
  drawn_below n m g h k = lt-ltb (drawn n g) m (omega arith)

  -- one statement without blocks
  one_fits : (s : Stmt) (h : Head) → heads_of s ≡ h ∷ [] → depth_of s ≡ 0 → head_fits 5 4 2 params h ≡ true → Fit 4 (s ∷ [])
  one_fits s h heads depth e =
      let count = ap length heads in
      let long = length-append (heads_of s) [] in
      record { few = omega arith; shallow = omega arith; each = ap (λ (hs : List Head). list_all (head_fits 5 4 2 params) (hs ++ [])) heads ∙ ap (λ b. b && true) e }

  turns_fit : (x : ℕ) → x < 4 → Fit 4 (three_turns x)
  unfolding roll-Stmt denote.Hole.Carrier.roll
  turns_fit x l =
      let load = made.Load 0 x in
      let less = made.Compute 4 Sub (Reg 4) (constant 1) in
      let body : Block = record { statements = load ∷ less ∷ [] } in
      let copy_heads = heads_of-roll (Copy 4 (constant 3)) in
      let copy_depth = depth_of-roll (Copy 4 (constant 3)) in
      let body_heads : folded_heads body ≡ (let h : Head = Load 0 x in let k : Head = Compute 4 Sub (Reg 4) (constant 1) in h ∷ k ∷ []) =
      fold_out-Block (List Head) (List Head) heads_step heads_block body ∙ (λ i. heads_of-roll (Load 0 x) i ++ (heads_of-roll (Compute 4 Sub (Reg 4) (constant 1)) i ++ [])) in
      let body_depth : folded_depth body ≡ 0 =
      fold_out-Block ℕ ℕ depth_step depth_block body ∙ (λ i. max (depth_of-roll (Load 0 x) i) (max (depth_of-roll (Compute 4 Sub (Reg 4) (constant 1)) i) 0)) in
      let loop_heads : heads_of (made.While (Reg 4) body) ≡ (let w : Head = While (Reg 4) tt in let h : Head = Load 0 x in let k : Head = Compute 4 Sub (Reg 4) (constant 1) in w ∷ h ∷ k ∷ []) =
      ap heads_of (sym (rolls-While (Reg 4) body)) ∙ heads_of-roll (While (Reg 4) body) ∙ ap (λ (hs : List Head). let w : Head = While (Reg 4) tt in w ∷ hs) body_heads in
      let loop_depth : depth_of (made.While (Reg 4) body) ≡ 1 =
      ap depth_of (sym (rolls-While (Reg 4) body)) ∙ depth_of-roll (While (Reg 4) body) ∙ ap (λ n. 1 + n) body_depth in
      let all : heads_of_all (three_turns x) ≡ (let c : Head = Copy 4 (constant 3) in let w : Head = While (Reg 4) tt in let h : Head = Load 0 x in let k : Head = Compute 4 Sub (Reg 4) (constant 1) in c ∷ w ∷ h ∷ k ∷ []) =
      λ i. copy_heads i ++ (loop_heads i ++ []) in
      let count = ap length all in
      record { few = omega arith; shallow = omega arith; each = ap (list_all (head_fits 5 4 2 params)) all ∙ (λ i. true && (true && ((true && (true && (lt-ltb x 4 l i && (true && true)))) && (true && true)))) }

  form_fits : (form x : ℕ) (g : Lcg) → x < 4 → Fit 4 (drawn_by_form form x g).statements
  unfolding roll-Stmt denote.Hole.Carrier.roll
  form_fits form x g h =
      let own = lt-ltb x 4 h in
      let c = constant (drawn 100 g) in
      let later = constant (drawn 100 (after_word g)) in
      let constant_fits = drawn_below 100 (2 ^ 63) g (omega arith) (omega arith) in
      let later_fits = drawn_below 100 (2 ^ 63) (after_word g) (omega arith) (omega arith) in
      let two = drawn_below 2 2 g (omega arith) (omega arith) in
      let two_registers = drawn_below 2 5 g (omega arith) (omega arith) in
      let four = drawn_below 4 4 g (omega arith) (omega arith) in
      either (form == 0) _ _ (one_fits (made.Store x c) (Store x c) (heads_of-roll (Store x c)) (depth_of-roll (Store x c)) (λ i. constant_fits i && (true && (own i && (true && true)))))
      (either (form == 1) _ _ (one_fits (made.Load (drawn 2 g) x) (Load (drawn 2 g) x) (heads_of-roll (Load (drawn 2 g) x)) (depth_of-roll (Load (drawn 2 g) x)) (λ i. two_registers i && (true && (own i && (true && true)))))
      (either (form == 2) _ _ (one_fits (made.Load 2 (drawn 4 g)) (Load 2 (drawn 4 g)) (heads_of-roll (Load 2 (drawn 4 g))) (depth_of-roll (Load 2 (drawn 4 g))) (λ i. true && (true && (four i && (true && true)))))
      (either (form == 3) _ _ (one_fits (made.AtomicStore Rlx (drawn 2 g) later) (AtomicStore Rlx (drawn 2 g) later) (heads_of-roll (AtomicStore Rlx (drawn 2 g) later)) (depth_of-roll (AtomicStore Rlx (drawn 2 g) later)) (λ i. later_fits i && (two i && (true && (true && true)))))
      (either (form == 4) _ _ (one_fits (made.AtomicLoad 3 Acq (drawn 2 g)) (AtomicLoad 3 Acq (drawn 2 g)) (heads_of-roll (AtomicLoad 3 Acq (drawn 2 g))) (depth_of-roll (AtomicLoad 3 Acq (drawn 2 g))) (λ i. true && (two i && (true && (true && true)))))
      (either (form == 5) _ _ (one_fits (made.AtomicStore Rel (drawn 2 g) later) (AtomicStore Rel (drawn 2 g) later) (heads_of-roll (AtomicStore Rel (drawn 2 g) later)) (depth_of-roll (AtomicStore Rel (drawn 2 g) later)) (λ i. later_fits i && (two i && (true && (true && true)))))
      (either (form == 6) _ _ (one_fits (made.Print c) (Print c) (heads_of-roll (Print c)) (depth_of-roll (Print c)) (λ i. constant_fits i && (true && (true && (true && true)))))
      (turns_fit x h)))))))

  pub draws_fit : (n x : ℕ) (g : Lcg) → x < 4 → Fit (4 * n) (draws n x g).statements
  draws_fit zero x g h =
      subst (λ (d : Drawn). Fit (4 * 0) d.statements) (sym (draws-zero 0 x g refl)) (record { few = omega arith; shallow = omega arith; each = refl })
  draws_fit (suc n) x g h =
      let one = one_draw x g in
      let more = draws n x one.generator in
      let both = fit-append 4 (4 * n) one.statements more.statements (form_fits (drawn 8 g) x (after_word g) h) (draws_fit n x one.generator h) in
      let same : 4 + 4 * n ≡ 4 * suc n = omega arith in
      subst (λ k. Fit k (draws (suc n) x g).statements) same (subst (λ (d : Drawn). Fit (4 + 4 * n) d.statements) (sym (draws-suc (suc n) n x g refl)) both)
