-- A text has one meaning or one refusal.
use Rattle.std.proofs.Common.{◌≡◌, ℕ, List, ◌-◌, length, Option, Some, None, refl, sym, ap, ◌∙◌, subst}
use Rattle.token_machine.specs.Text.{Spells, IsFirstFault}
use Rattle.token_machine.proofs.Callers.{one_tree, one_fault, spelled_faultless}
use Rattle.il_lexer.specs.declared.token.Token.{Token}
use Rattle.il_lexer.specs.Text.{Rest, Lexes}
use Rattle.il_lexer.proofs.Callers.{one_reading}
use Rattle.il_grammar.specs.declared.syntax.Span.{Span}
use Rattle.il_grammar.specs.declared.rule.Rule.{Rule}
use Rattle.il_grammar.specs.declared.rule.Rule.TheVariants.{P1, P2, P3}
use Rattle.il_grammar.specs.Grammar.{TextTree, spelling}
use Rattle.il_grammar.proofs.Callers.{reads, no_place}
use Rattle.il_reader.specs.Terminals.{terminals_of, after_header, has_fences}
use Rattle.il_reader.specs.Refusal.{Refusal, refusal_at}
use Rattle.il_reader.specs.Text.{starts, place_at, Writes, IsFormRefusal, foreign, headless, faulty}

clash : {X : Type 0} (x : X) (o : Option X) → o ≡ Some x → o ≡ None → ⊥
clash x o e n = cc

same_some : {X : Type 0} (x y : X) (o : Option X) → o ≡ Some x → o ≡ Some y → x ≡ y
same_some x y o e f = cc

module _ (bytes : List ℕ) where
  headless_headed : (ts ts' rest : List Token) (s s' : Rest) → Lexes 0 bytes ts s → Lexes 0 bytes ts' s' → after_header bytes ts ≡ None → after_header bytes ts' ≡ Some rest → ⊥
  headless_headed ts ts' rest s s' l l' n h = clash rest _ h (ap (after_header bytes) (sym (one_reading l l').0) ∙ n)

  same_rest : (ts ts' rest rest' : List Token) (s s' : Rest) → Lexes 0 bytes ts s → Lexes 0 bytes ts' s' → after_header bytes ts ≡ Some rest → after_header bytes ts' ≡ Some rest' → rest ≡ rest'
  same_rest ts ts' rest rest' s s' l l' h h' = same_some rest rest' (after_header bytes ts) h (ap (after_header bytes) (one_reading l l').0 ∙ h')

  same_terminals : (ts ts' rest rest' : List Token) (s s' : Rest) → Lexes 0 bytes ts s → Lexes 0 bytes ts' s' → after_header bytes ts ≡ Some rest → after_header bytes ts' ≡ Some rest' → terminals_of bytes (has_fences bytes ts) rest s ≡ terminals_of bytes (has_fences bytes ts') rest' s'
  same_terminals ts ts' rest rest' s s' l l' h h' =
      let rests = same_rest ts ts' rest rest' s s' l l' h h' in
      let same = one_reading l l' in
      λ i. terminals_of bytes (has_fences bytes (same.0 i)) (rests i) (same.1 i)

  -- the bytes spell one list of statements at most
  pub one_text : (xs ys : TextTree Span) → Writes bytes xs → Writes bytes ys → xs ≡ ys
  one_text xs ys p q =
      one_tree P3 (reads no_place) (terminals_of bytes (has_fences bytes q.tokens) q.rest q.stop) xs ys
      (subst (λ ts. Spells spelling ts xs) (same_terminals p.tokens q.tokens p.rest q.rest p.stop q.stop p.lexed q.lexed p.headed q.headed) p.spelled)
      q.spelled

  -- and are not refused then
  pub written_unrefused : (xs : TextTree Span) (r : Refusal Rule) → Writes bytes xs → IsFormRefusal bytes r → ⊥
  written_unrefused xs r p (foreign at found is) = clash at _ found p.pure
  written_unrefused xs r p (headless ts s pure l h is) = headless_headed ts p.tokens p.rest s p.stop l p.lexed h p.headed
  written_unrefused xs r p (faulty ts s rest f pure l h first is) =
      spelled_faultless P3 (reads no_place) (terminals_of bytes (has_fences bytes ts) rest s) xs f
      (subst (λ ts. Spells spelling ts xs) (same_terminals p.tokens ts p.rest rest p.stop s p.lexed l p.headed h) p.spelled) first

  same_place : (ts ts' : List Token) (s s' : Rest) (rule rule' : Rule) (index : List Token → Rest → ℕ) → ts ≡ ts' → s ≡ s' → rule ≡ rule' → refusal_at bytes rule (place_at bytes ts s (index ts s)) ≡ refusal_at bytes rule' (place_at bytes ts' s' (index ts' s'))
  same_place ts ts' s s' rule rule' index e f h = λ i. refusal_at bytes (h i) (place_at bytes (e i) (f i) (index (e i) (f i)))

  -- there is one first refusal at most
  pub one_refusal : (r q : Refusal Rule) → IsFormRefusal bytes r → IsFormRefusal bytes q → r ≡ q
  one_refusal r q (foreign at found is) (foreign at' found' is') = is ∙ ap (refusal_at bytes P1) (same_some at at' _ found found') ∙ sym is'
  one_refusal r q (foreign at found is) (headless ts s pure l h is') = absurd (clash at _ found pure)
  one_refusal r q (foreign at found is) (faulty ts s rest f pure l h first is') = absurd (clash at _ found pure)
  one_refusal r q (headless ts s pure l h is) (foreign at found is') = absurd (clash at _ found pure)
  one_refusal r q (headless ts s pure l h is) (headless ts' s' pure' l' h' is') =
      let same = one_reading l l' in is ∙ same_place ts ts' s s' P2 P2 (λ _ _. 0) same.0 same.1 refl ∙ sym is'
  one_refusal r q (headless ts s pure l h is) (faulty ts' s' rest f pure' l' h' first is') = absurd (headless_headed ts ts' rest s s' l l' h h')
  one_refusal r q (faulty ts s rest f pure l h first is) (foreign at found is') = absurd (clash at _ found pure)
  one_refusal r q (faulty ts s rest f pure l h first is) (headless ts' s' pure' l' h' is') = absurd (headless_headed ts' ts rest s' s l' l h' h)
  one_refusal r q (faulty ts s rest f pure l h first is) (faulty ts' s' rest' f' pure' l' h' first' is') =
      let same = one_reading l l' in
      let faults : f ≡ f' = one_fault P3 (reads no_place) (terminals_of bytes (has_fences bytes ts') rest' s') f f'
      (subst (λ ts. IsFirstFault spelling P3 ts f) (same_terminals ts ts' rest rest' s s' l l' h h') first) first' in
      is ∙ (λ i. refusal_at bytes (faults i).rule (place_at bytes (same.0 i) (same.1 i) (length (starts (same.0 i) (same.1 i)) - (faults i).left))) ∙ sym is'
