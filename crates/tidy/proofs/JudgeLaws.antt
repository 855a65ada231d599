-- What the tests of two functions say of them.
use Rattle.std.proofs.Common.{◌≡◌, ◌<◌, ◌≤◌, ℕ, zero, suc, Bool, true, false, ◌&&◌, ◌==◌, eqb, List, [], ◌∷◌, map, get_or, Option, Some, None, slice_get, refl, sym, ap, ◌∙◌, subst, ⊎_elim, arith}
use Rattle.std.specs.Str.{bytes_eq}
use Rattle.std.proofs.lemmas.Bool.{false≢true, and_parts, and_from, eqb-true, eq-eqb, both_ways, cases_lt}
use Rattle.std.proofs.lemmas.Option.{none-some, same_Some}
use Rattle.std.proofs.lemmas.Slice.Eq.{bytes_eq-Decides}
use Rattle.il_syntax.specs.declared.statement.Stmt.{Stmt}
use Rattle.il_syntax.specs.declared.program.Function.{Function}
use Rattle.il_syntax.specs.Statements.{Head, head_of}
use Rattle.il_paths.specs.Tree.{Tree, Empty, Then, IfThen, WhileThen, tree_of, heads_in, sites_of}
use Rattle.il_paths.proofs.Callers.{site_within}
use Rattle.tidy.specs.declared.known.KnownPair.{KnownPair}
use Rattle.tidy.specs.declared.judging.Tidiness.{Tidiness}
use Rattle.tidy.specs.declared.judging.Tidiness.TheVariants.{Yes, No}
use Rattle.tidy.specs.Known.{IsKnownAtEnd}
use Rattle.tidy.specs.Live.{AreLiveSets}
use Rattle.tidy.specs.Accepts.{SameBlocks, StatementsAccepted, TidyAccepts}
use Rattle.tidy.specs.Judged.{SameFrame, AcceptedAt, IsFirstTidyFault, is_frame, is_statement, is_result}
use Rattle.tidy.specs.Rows.{AreKnownRows, IsLastRow}
use Rattle.tidy.specs.Laws.{TidinessIsOne, YesIsAccepted, TidiedIsYes}
use Rattle.tidy.specs.Decided.{stands_in, statement_accepted, pair_accepted, accepted_in, names_equal, same_blocks, same_frame, IsFirstFailing}
use Rattle.tidy.proofs.Acceptance.{tidied_is_accepted}
use Rattle.tidy.proofs.SideBySide.{same_sites}
use Rattle.tidy.proofs.DecidedLaws.{stands_true, stands_from, accepted_true, accepted_from}

-- ---- names, parameters, registers and blocks

names_true : (xs ys : List (List ℕ)) → names_equal xs ys ≡ true → ys ≡ xs
names_true [] [] e = refl
names_true [] (y ∷ ys) e = absurd (false≢true e)
names_true (x ∷ xs) [] e = absurd (false≢true e)
names_true (x ∷ xs) (y ∷ ys) e =
    let p = and_parts (bytes_eq x y) (names_equal xs ys) e in
    λ i. sym ((bytes_eq-Decides x y).0 p.0) i ∷ names_true xs ys p.1 i

names_self : (xs : List (List ℕ)) → names_equal xs xs ≡ true
names_self [] = refl
names_self (x ∷ xs) = and_from (bytes_eq x x) (names_equal xs xs) ((bytes_eq-Decides x x).1 refl) (names_self xs)

blocks_true : (t u : Tree) → same_blocks t u ≡ true → SameBlocks t u
blocks_true Empty Empty e = tt
blocks_true (Then one rest) (Then other more) e = blocks_true rest more e
blocks_true (IfThen a y n rest) (IfThen b y' n' more) e =
    let p = and_parts (same_blocks y y') (same_blocks n n' && same_blocks rest more) e in
    let q = and_parts (same_blocks n n') (same_blocks rest more) p.1 in
    (blocks_true y y' p.0, blocks_true n n' q.0, blocks_true rest more q.1)
blocks_true (WhileThen a c rest) (WhileThen b c' more) e =
    let p = and_parts (same_blocks c c') (same_blocks rest more) e in (blocks_true c c' p.0, blocks_true rest more p.1)
blocks_true Empty (Then other more) e = absurd (false≢true e)
blocks_true Empty (IfThen b y' n' more) e = absurd (false≢true e)
blocks_true Empty (WhileThen b c' more) e = absurd (false≢true e)
blocks_true (Then one rest) Empty e = absurd (false≢true e)
blocks_true (Then one rest) (IfThen b y' n' more) e = absurd (false≢true e)
blocks_true (Then one rest) (WhileThen b c' more) e = absurd (false≢true e)
blocks_true (IfThen a y n rest) Empty e = absurd (false≢true e)
blocks_true (IfThen a y n rest) (Then other more) e = absurd (false≢true e)
blocks_true (IfThen a y n rest) (WhileThen b c' more) e = absurd (false≢true e)
blocks_true (WhileThen a c rest) Empty e = absurd (false≢true e)
blocks_true (WhileThen a c rest) (Then other more) e = absurd (false≢true e)
blocks_true (WhileThen a c rest) (IfThen b y' n' more) e = absurd (false≢true e)

blocks_from : (t u : Tree) → SameBlocks t u → same_blocks t u ≡ true
blocks_from Empty Empty h = refl
blocks_from (Then one rest) (Then other more) h = blocks_from rest more h
blocks_from (IfThen a y n rest) (IfThen b y' n' more) h =
    and_from (same_blocks y y') (same_blocks n n' && same_blocks rest more) (blocks_from y y' h.0) (and_from (same_blocks n n') (same_blocks rest more) (blocks_from n n' h.1) (blocks_from rest more h.2))
blocks_from (WhileThen a c rest) (WhileThen b c' more) h = and_from (same_blocks c c') (same_blocks rest more) (blocks_from c c' h.0) (blocks_from rest more h.1)
blocks_from Empty (Then other more) h = absurd h
blocks_from Empty (IfThen b y' n' more) h = absurd h
blocks_from Empty (WhileThen b c' more) h = absurd h
blocks_from (Then one rest) Empty h = absurd h
blocks_from (Then one rest) (IfThen b y' n' more) h = absurd h
blocks_from (Then one rest) (WhileThen b c' more) h = absurd h
blocks_from (IfThen a y n rest) Empty h = absurd h
blocks_from (IfThen a y n rest) (Then other more) h = absurd h
blocks_from (IfThen a y n rest) (WhileThen b c' more) h = absurd h
blocks_from (WhileThen a c rest) Empty h = absurd h
blocks_from (WhileThen a c rest) (Then other more) h = absurd h
blocks_from (WhileThen a c rest) (IfThen b y' n' more) h = absurd h

module _ (f g : Function) where
  abbrev blocks_test : Bool
  blocks_test = same_blocks (tree_of f.body) (tree_of g.body)

  abbrev registers_test : Bool
  registers_test = names_equal f.registers g.registers

  pub frame_true : same_frame f g ≡ true → SameFrame f g
  frame_true e =
      let p = and_parts (bytes_eq f.name g.name) ((f.params == g.params) && (registers_test && blocks_test)) e in
      let q = and_parts (eqb f.params g.params) (registers_test && blocks_test) p.1 in
      let r = and_parts registers_test blocks_test q.1 in
      record { name = sym ((bytes_eq-Decides f.name g.name).0 p.0); params = sym (eqb-true f.params g.params q.0); registers = names_true f.registers g.registers r.0; blocks = blocks_true (tree_of f.body) (tree_of g.body) r.1 }

  frame_from : SameFrame f g → same_frame f g ≡ true
  frame_from s =
      and_from (bytes_eq f.name g.name) ((f.params == g.params) && (registers_test && blocks_test)) ((bytes_eq-Decides f.name g.name).1 (sym s.name))
      (and_from (eqb f.params g.params) (registers_test && blocks_test) (eq-eqb f.params g.params (sym s.params))
      (and_from registers_test blocks_test (ap (names_equal f.registers) s.registers ∙ names_self f.registers) (blocks_from (tree_of f.body) (tree_of g.body) s.blocks)))

  -- the first answer
  pub frame_differs : (site : ℕ) → same_frame f g ≡ false → site ≡ sites_of (tree_of g.body) → IsFirstTidyFault f g site
  frame_differs site e s = is_frame (λ h. both_ways (same_frame f g) e (frame_from h)) s

-- ---- statements by their sites

record Listed (xs : List Stmt) (site : ℕ) (h : Head) : Type 0 where
  statement : Stmt
  there : slice_get xs site ≡ Some statement
  is : head_of statement ≡ h

listed : (xs : List Stmt) (site : ℕ) (h : Head) → slice_get (map head_of xs) site ≡ Some h → Listed xs site h
listed [] site h e = absurd (none-some h e)
listed (x ∷ xs) zero h e = record { statement = x; there = refl; is = same_Some (head_of x) h e }
listed (x ∷ xs) (suc site) h e = let more = listed xs site h e in record { statement = more.statement; there = more.there; is = more.is }

head_listed : (xs : List Stmt) (site : ℕ) (s : Stmt) → slice_get xs site ≡ Some s → slice_get (map head_of xs) site ≡ Some (head_of s)
head_listed [] site s e = absurd (none-some s e)
head_listed (x ∷ xs) zero s e = ap (λ (y : Stmt). Some (head_of y)) (same_Some x s e)
head_listed (x ∷ xs) (suc site) s e = head_listed xs site s e

-- the first that is refused, or none
pub refused_at : (test : ℕ → Bool) (n : ℕ) (o : Option ℕ) (site : ℕ) → IsFirstFailing test n o → o ≡ Some site → (site < n) × ((earlier : ℕ) → earlier < site → test earlier ≡ true) × (test site ≡ false)
refused_at test n None site h e = absurd (none-some site e)
refused_at test n (Some s) site h e = subst (λ (k : ℕ). (k < n) × ((earlier : ℕ) → earlier < k → test earlier ≡ true) × (test k ≡ false)) (same_Some s site e) h

pub none_refused : (test : ℕ → Bool) (n : ℕ) (o : Option ℕ) → IsFirstFailing test n o → ((site : ℕ) → o ≡ Some site → ⊥) → (site : ℕ) → site < n → test site ≡ true
none_refused test n None h never = h
none_refused test n (Some s) h never = absurd (never s refl)

-- ---- the answers

module _ (f g : Function) (rows : List (List KnownPair)) (end : List KnownPair) (sets : List (List ℕ)) (olds news : List Stmt) (known : AreKnownRows f rows) (last : IsLastRow f end) (live : AreLiveSets g sets)
    (in_f : map head_of olds ≡ heads_in (tree_of f.body)) (in_g : map head_of news ≡ heads_in (tree_of g.body)) (frame : SameFrame f g) where
  abbrev count : ℕ
  count = sites_of (tree_of g.body)

  abbrev test : ℕ → Bool
  test = accepted_in rows sets olds news

  counts : count ≡ sites_of (tree_of f.body)
  counts = same_sites (tree_of f.body) (tree_of g.body) frame.blocks

  -- the test of two statements that are there
  test_is : (site : ℕ) (old new : Head) (s : Listed olds site old) (t : Listed news site new) → test site ≡ statement_accepted (get_or rows site []) (get_or sets site []) old new
  test_is site old new s t =
      (λ i. pair_accepted (get_or rows site []) (get_or sets site []) (s.there i) (t.there i)) ∙ (λ i. statement_accepted (get_or rows site []) (get_or sets site []) (s.is i) (t.is i))

  listed_f : (site : ℕ) (old : Head) → slice_get (heads_in (tree_of f.body)) site ≡ Some old → Listed olds site old
  listed_f site old e = listed olds site old (ap (λ (hs : List Head). slice_get hs site) in_f ∙ e)

  listed_g : (site : ℕ) (new : Head) → slice_get (heads_in (tree_of g.body)) site ≡ Some new → Listed news site new
  listed_g site new e = listed news site new (ap (λ (hs : List Head). slice_get hs site) in_g ∙ e)

  accepted_there : (site : ℕ) → test site ≡ true → AcceptedAt f g site
  accepted_there site e old new stood stands =
      accepted_true f g rows sets known live site (site_within (tree_of f.body) site old stood) (site_within (tree_of g.body) site new stands) old new
      (sym (test_is site old new (listed_f site old stood) (listed_g site new stands)) ∙ e)

  refused_there : (site : ℕ) → test site ≡ false → AcceptedAt f g site → ⊥
  refused_there site e accepted = go (slice_get olds site) refl (slice_get news site) refl (λ i. e i)
    where
      go : (o : Option Stmt) → slice_get olds site ≡ o → (n : Option Stmt) → slice_get news site ≡ n → pair_accepted (get_or rows site []) (get_or sets site []) o n ≡ false → ⊥
      go None p n q k = false≢true (sym k)
      go (Some s) p None q k = false≢true (sym k)
      go (Some s) p (Some t) q k =
          let stood = ap (λ (hs : List Head). slice_get hs site) (sym in_f) ∙ head_listed olds site s p in
          let stands = ap (λ (hs : List Head). slice_get hs site) (sym in_g) ∙ head_listed news site t q in
          both_ways (statement_accepted (get_or rows site []) (get_or sets site []) (head_of s) (head_of t)) k
          (accepted_from f g rows sets known live site (site_within (tree_of f.body) site (head_of s) stood) (site_within (tree_of g.body) site (head_of t) stands) (head_of s) (head_of t) (accepted (head_of s) (head_of t) stood stands))

  all_accepted : ((site : ℕ) → site < count → test site ≡ true) → StatementsAccepted f g
  all_accepted h site old new stood stands = accepted_there site (h site (site_within (tree_of g.body) site new stands)) old new stood stands

  -- a statement is refused
  pub statement_refused : (n site : ℕ) → n ≡ count → site < n → ((s : ℕ) → s < site → test s ≡ true) → test site ≡ false → IsFirstTidyFault f g site
  statement_refused n site same l earlier e = is_statement frame (subst (λ (m : ℕ). site < m) same l) (λ s k. accepted_there s (earlier s k)) (refused_there site e)

  -- the results alone are
  pub result_refused : (n site : ℕ) → n ≡ count → ((s : ℕ) → s < n → test s ≡ true) → stands_in end f.result g.result ≡ false → site ≡ n → IsFirstTidyFault f g site
  result_refused n site same h e s =
      is_result frame (all_accepted (λ i l. h i (subst (λ (m : ℕ). i < m) (sym same) l)))
      (λ k. both_ways (stands_in end f.result g.result) e (stands_from (IsKnownAtEnd f) end (λ r a. last r a) f.result g.result k)) (s ∙ same)

  -- nothing is
  pub all_stands : (n : ℕ) → n ≡ count → ((s : ℕ) → s < n → test s ≡ true) → stands_in end f.result g.result ≡ true → TidyAccepts f g
  all_stands n same h e =
      record {
        name = frame.name;
        params = frame.params;
        registers = frame.registers;
        blocks = frame.blocks;
        statements = all_accepted (λ i l. h i (subst (λ (m : ℕ). i < m) (sym same) l));
        result = stands_true (IsKnownAtEnd f) end (λ r a. last r a) f.result g.result e;
      }

-- ---- the laws

frame_of : (f g : Function) → TidyAccepts f g → SameFrame f g
frame_of f g a = record { name = a.name; params = a.params; registers = a.registers; blocks = a.blocks }

not_both : (f g : Function) (site : ℕ) → TidyAccepts f g → IsFirstTidyFault f g site → ⊥
not_both f g site a (is_frame h s) = h (frame_of f g a)
not_both f g site a (is_statement frame l earlier h) = h (a.statements site)
not_both f g site a (is_result frame all h s) = h a.result

one_site : (f g : Function) (m n : ℕ) → IsFirstTidyFault f g m → IsFirstTidyFault f g n → m ≡ n
one_site f g m n (is_frame h s) (is_frame k t) = s ∙ sym t
one_site f g m n (is_frame h s) (is_statement frame l earlier k) = absurd (h frame)
one_site f g m n (is_frame h s) (is_result frame all k t) = absurd (h frame)
one_site f g m n (is_statement frame l earlier h) (is_frame k t) = absurd (k frame)
one_site f g m n (is_statement frame l earlier h) (is_statement frame' l' earlier' k) =
    ⊎_elim (λ (c : m < n). absurd (h (earlier' m c)))
    (λ (c : n ≤ m). ⊎_elim (λ (d : n < m). absurd (k (earlier n d))) (λ (d : m ≤ n). omega (arith, c, d)) (cases_lt n m)) (cases_lt m n)
one_site f g m n (is_statement frame l earlier h) (is_result frame' all k t) = absurd (h (all m))
one_site f g m n (is_result frame all h s) (is_frame k t) = absurd (k frame)
one_site f g m n (is_result frame all h s) (is_statement frame' l earlier k) = absurd (k (all n))
one_site f g m n (is_result frame all h s) (is_result frame' all' k t) = s ∙ sym t

pub tidiness_is_one : TidinessIsOne
tidiness_is_one f g Yes Yes a b = refl
tidiness_is_one f g Yes (No site) a b = absurd (not_both f g site a b)
tidiness_is_one f g (No site) Yes a b = absurd (not_both f g site b a)
tidiness_is_one f g (No m) (No n) a b = ap No (one_site f g m n a b)

abbrev is_yes : Tidiness → Bool
is_yes Yes = true
is_yes (No site) = false

pub yes_is_accepted : YesIsAccepted
yes_is_accepted f g Yes a = (λ e. a, λ k. refl)
yes_is_accepted f g (No site) a = (λ e. absurd (false≢true (ap is_yes e)), λ k. absurd (not_both f g site k a))

pub tidied_is_yes : TidiedIsYes
tidied_is_yes f g answer t a = (yes_is_accepted f g answer a).1 (tidied_is_accepted f g t)
