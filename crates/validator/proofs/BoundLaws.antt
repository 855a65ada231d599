-- A walk has a part for each site, and a statement without a partner stands inside.
use Rattle.std.proofs.Common.{◌≡◌, ℕ, ◌+◌, ◌≤◌, Bool, true, false, cond, List, [], ◌∷◌, ◌++◌, length, Option, Some, None, arith, length-append}
use Rattle.il_syntax.specs.declared.statement.Atom.{Atom}
use Rattle.il_syntax.specs.Statements.{Head}
use Rattle.il_paths.specs.Tree.{head_of_leaf, Tree, Empty, Then, IfThen, WhileThen, sites_of}
use Rattle.validator.specs.Roles.{Role, Same}
use Rattle.il_paths.specs.Atoms.{atoms_equal}
use Rattle.validator.specs.declared.walk.NewRegisters.{NewRegisters}
use Rattle.validator.specs.declared.walk.Part.{Part}
use Rattle.validator.specs.Walk.{is_inserted, before_loop, with_partner, inserted_part, role_of, Outcome, Apart, Together, and_then, with_role, plain_step, branch_step, loop_step, at_end, walk}

-- the site is at most the number, or there are so many parts
abbrev pub Spans : ℕ → Outcome → Type 0
Spans n (Apart site) = site ≤ n
Spans n (Together parts) = length parts ≡ n

spans_then : (m n : ℕ) (o : Outcome) (more : List Part → Outcome) → m ≤ n → Spans m o → ((d : List Part) → length d ≡ m → Spans n (more d)) → Spans n (and_then o more)
spans_then m n (Apart site) more h f g = omega (arith, h, f)
spans_then m n (Together d) more h f g = g d f

spans_cond : (n : ℕ) (b : Bool) (one other : Outcome) → Spans n one → Spans n other → Spans n (cond b one other)
spans_cond n true one other f g = f
spans_cond n false one other f g = g

pushed : (done : List Part) (part : Part) → length (done ++ part ∷ []) ≡ length done + 1
pushed done part = length-append done (part ∷ [])

spans_role : (n : ℕ) (done : List Part) (role : Option Role) (more : List Part → Outcome) → length done ≤ n → ((d : List Part) → length d ≡ length done + 1 → Spans n (more d)) → Spans n (with_role done role more)
spans_role n done None more h f = h
spans_role n done (Some role) more h f = f (done ++ with_partner role ∷ []) (pushed done (with_partner role))

spans_plain : (n : ℕ) (head : Head) (done : List Part) (source : Tree) (more : Tree → List Part → Outcome) → length done ≤ n → ((s : Tree) (d : List Part) → length d ≡ length done + 1 → Spans n (more s d)) → Spans n (plain_step head done source more)
spans_plain n head done Empty more h f = h
spans_plain n head done (Then partner rest) more h f = spans_role n done (role_of (head_of_leaf partner) head) (more rest) h (f rest)
spans_plain n head done (IfThen test y z rest) more h f = h
spans_plain n head done (WhileThen test y rest) more h f = h

spans_branch : (m k n : ℕ) (a : Atom) (done : List Part) (source : Tree) (one other more : Tree → List Part → Outcome) → length done ≤ n → m ≤ n → k ≤ n → ((s : Tree) (d : List Part) → length d ≡ length done + 1 → Spans m (one s d)) → ((s : Tree) (d : List Part) → length d ≡ m → Spans k (other s d)) → ((s : Tree) (d : List Part) → length d ≡ k → Spans n (more s d)) → Spans n (branch_step a done source one other more)
spans_branch m k n a done Empty one other more h hm hk f g e = h
spans_branch m k n a done (Then partner rest) one other more h hm hk f g e = h
spans_branch m k n a done (IfThen test y z rest) one other more h hm hk f g e =
    spans_cond n (atoms_equal test a) _ (Apart (length done)) (spans_then m n (one y (done ++ with_partner Same ∷ [])) (λ d. and_then (other z d) (more rest)) hm (f y (done ++ with_partner Same ∷ []) (pushed done (with_partner Same))) (λ d i. spans_then k n (other z d) (more rest) hk (g z d i) (e rest))) h
spans_branch m k n a done (WhileThen test y rest) one other more h hm hk f g e = h

spans_loop : (m n : ℕ) (a : Atom) (done : List Part) (source : Tree) (turn more : Tree → List Part → Outcome) → length done ≤ n → m ≤ n → ((s : Tree) (d : List Part) → length d ≡ length done + 1 → Spans m (turn s d)) → ((s : Tree) (d : List Part) → length d ≡ m → Spans n (more s d)) → Spans n (loop_step a done source turn more)
spans_loop m n a done Empty turn more h hm f g = h
spans_loop m n a done (Then partner rest) turn more h hm f g = h
spans_loop m n a done (IfThen test y z rest) turn more h hm f g = h
spans_loop m n a done (WhileThen test y rest) turn more h hm f g =
    spans_cond n (atoms_equal test a) _ (Apart (length done)) (spans_then m n (turn y (done ++ with_partner Same ∷ [])) (more rest) hm (f y (done ++ with_partner Same ∷ []) (pushed done (with_partner Same))) (g rest)) h

spans_end : (n : ℕ) (source : Tree) (done : List Part) → length done ≡ n → Spans n (at_end source done)
spans_end n Empty done h = h
spans_end n (Then leaf rest) done h = omega (arith, h)
spans_end n (IfThen test a b rest) done h = omega (arith, h)
spans_end n (WhileThen test a rest) done h = omega (arith, h)

pub walk_spans : (new : NewRegisters) (target source : Tree) (done : List Part) (n : ℕ) → length done + sites_of target ≡ n → Spans n (walk new target source done)
walk_spans new Empty source done n h = spans_end n source done (omega (arith, h))
walk_spans new (Then leaf rest) source done n h =
    spans_cond n (is_inserted new (head_of_leaf leaf)) _ _
    (walk_spans new rest source (done ++ inserted_part (before_loop new rest) ∷ []) n (omega (arith, h, pushed done (inserted_part (before_loop new rest)))))
    (spans_plain n (head_of_leaf leaf) done source (walk new rest) (omega (arith, h)) (λ s d i. walk_spans new rest s d n (omega (arith, h, i))))
walk_spans new (IfThen test a b rest) source done n h =
    spans_branch (length done + 1 + sites_of a) (length done + 1 + sites_of a + sites_of b) n test done source (walk new a) (walk new b) (walk new rest) (omega (arith, h)) (omega (arith, h)) (omega (arith, h)) (λ s d i. walk_spans new a s d _ (omega (arith, i))) (λ s d i. walk_spans new b s d _ (omega (arith, i))) (λ s d i. walk_spans new rest s d n (omega (arith, h, i)))
walk_spans new (WhileThen test a rest) source done n h =
    spans_loop (length done + 1 + sites_of a) n test done source (walk new a) (walk new rest) (omega (arith, h)) (omega (arith, h)) (λ s d i. walk_spans new a s d _ (omega (arith, i))) (λ s d i. walk_spans new rest s d n (omega (arith, h, i)))
