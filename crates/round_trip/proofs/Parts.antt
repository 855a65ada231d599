-- Parts of a text: bytes that are read as marks, whatever comes after them.
use Rattle.std.proofs.Common.{◌≡◌, ℕ, ◌^◌, ◌<◌, ◌≤◌, List, [], ◌∷◌, ◌++◌, zero, suc, true, false, not, ◌&&◌, ◌||◌, ◌==◌, None, refl, sym, ap, ◌∙◌, subst, append_assoc, arith}
use Rattle.std.specs.Prelude.{codes}
use Rattle.std.specs.Fmt.{decimal}
use Rattle.std.specs.List.{list_all}
use Rattle.std.proofs.lemmas.Bool.{and_parts, and_from, and_right, or_parts, not-true, cond-true, both_ways, le-leb}
use Rattle.values_undef.specs.declared.access.Order.{Order}
use Rattle.values_undef.specs.declared.access.Order.TheVariants.{Rlx, Acq, Rel, AcqRel}
use Rattle.values_undef.specs.declared.arithmetic.Op.{Op}
use Rattle.values_undef.specs.declared.arithmetic.Op.TheVariants as op
use Rattle.token_machine.specs.Text.{plain}
use Rattle.il_syntax.specs.Name.{is_digit, is_letter, is_word_byte, is_word, is_name, is_among, reserved}
use Rattle.il_syntax.specs.Text.{order_text, op_text, indent, line}
use Rattle.il_lexer.specs.declared.token.TokenKind.TheVariants.{Word, Number, Symbol}
use Rattle.il_lexer.specs.Lexeme.{is_lexeme}
use Rattle.il_lexer.specs.Layout.{IsSeparated}
use Rattle.il_grammar.specs.declared.terminal.Terminal.{Terminal}
use Rattle.il_grammar.specs.declared.terminal.Terminal.TheVariants as t
use Rattle.il_grammar.specs.declared.syntax.RawOrder.{RawOrder}
use Rattle.il_grammar.specs.Grammar.{Marks, number_up_to, open_at, name, order}
use Rattle.il_grammar.specs.Mapped.{terminal_map}
use Rattle.il_reader.proofs.Callers.{other_word_is_a_name}
use Rattle.round_trip.proofs.Digits.{decimal_lexeme, decimal_value}
use Rattle.round_trip.proofs.Laid.{IsRead, without_fence, Laid, blank, token}

-- what is read before the marks that are given to it
abbrev pub Spelling : Type 0
Spelling = Marks (List ℕ) → Marks (List ℕ)

-- a byte that goes on with no word and no number comes first
abbrev pub Stops : List ℕ → Type 0
Stops [] = ⊥
Stops (c ∷ rest) = is_word_byte c ≡ false

-- a text that is read so whatever comes after it
pub record Closed (text : List ℕ) (spell : Spelling) : Type 0 where
  pub lay : (rest : List ℕ) (ms : Marks (List ℕ)) → Laid rest ms → Laid (text ++ rest) (spell ms)

-- a text that is read so where no word and no number goes on after it
pub record Open (text : List ℕ) (spell : Spelling) : Type 0 where
  pub lay : (rest : List ℕ) (ms : Marks (List ℕ)) → Stops rest → Laid rest ms → Laid (text ++ rest) (spell ms)

stops_before : (text rest : List ℕ) → Stops text → Stops (text ++ rest)
stops_before [] rest stops = absurd stops
stops_before (c ∷ text) rest stops = stops

-- one after another

pub closed_closed : {a b : List ℕ} {f g : Spelling} → Closed a f → Closed b g → Closed (a ++ b) (λ ms. f (g ms))
closed_closed {a} {b} {f} {g} one other = record {
  lay = λ rest ms l. subst (λ bytes. Laid bytes (f (g ms))) (sym (append_assoc a b rest)) (one.lay (b ++ rest) (g ms) (other.lay rest ms l));
}

pub closed_open : {a b : List ℕ} {f g : Spelling} → Closed a f → Open b g → Open (a ++ b) (λ ms. f (g ms))
closed_open {a} {b} {f} {g} one other = record {
  lay = λ rest ms stops l. subst (λ bytes. Laid bytes (f (g ms))) (sym (append_assoc a b rest)) (one.lay (b ++ rest) (g ms) (other.lay rest ms stops l));
}

pub open_closed : {a b : List ℕ} {f g : Spelling} → Open a f → Stops b → Closed b g → Closed (a ++ b) (λ ms. f (g ms))
open_closed {a} {b} {f} {g} one stop other = record {
  lay = λ rest ms l. subst (λ bytes. Laid bytes (f (g ms))) (sym (append_assoc a b rest)) (one.lay (b ++ rest) (g ms) (stops_before b rest stop) (other.lay rest ms l));
}

-- what is read so before anything is read so before a stop
pub as_open : {text : List ℕ} {f : Spelling} → Closed text f → Open text f
as_open c = record { lay = λ rest ms stops l. c.lay rest ms l }

-- the same marks, said otherwise
pub closed_as : {text : List ℕ} {f g : Spelling} → ((ms : Marks (List ℕ)) → f ms ≡ g ms) → Closed text f → Closed text g
closed_as {text} same c = record { lay = λ rest ms l. subst (λ marks. Laid (text ++ rest) marks) (same ms) (c.lay rest ms l) }

-- blanks

pub nothing : Closed [] (λ ms. ms)
nothing = record { lay = λ rest ms l. l }

pub space : Closed (codes " ") (λ ms. ms)
space = record { lay = λ rest ms l. blank refl l }

pub indentation : (depth : ℕ) → Closed (indent depth) (λ ms. ms)
indentation zero = nothing
indentation (suc depth) = record { lay = λ rest ms l. blank refl (blank refl ((indentation depth).lay rest ms l)) }

new_line : Closed (codes "\n") (λ ms. ms)
new_line = record { lay = λ rest ms l. blank refl l }

pub on_line : {text : List ℕ} {f : Spelling} (depth : ℕ) → Closed text f → Closed (line depth text) f
on_line depth c = closed_closed (closed_closed (indentation depth) c) new_line

-- words

word_apart : (text rest : List ℕ) → Stops rest → IsSeparated Word text rest
word_apart text [] stops = tt
word_apart text (c ∷ rest) stops = stops

pub word : (text : List ℕ) {x : Terminal (List ℕ)} → is_lexeme Word text ≡ true → IsRead Word text (without_fence x) → Open text (λ ms. plain x ∷ ms)
word text lexeme read = record { lay = λ rest ms stops l. token Word text lexeme (word_apart text rest stops) read refl l }

name_word : (text : List ℕ) → is_word text ≡ true → is_lexeme Word text ≡ true
name_word [] e = absurd (cc)
name_word (b ∷ bs) e =
    let outer = and_parts (is_letter b) (is_word_byte b && list_all is_word_byte bs) e in
    and_from (is_letter b) (list_all is_word_byte bs) outer.0 (and_parts (is_word_byte b) (list_all is_word_byte bs) outer.1).1

-- the text is a name, and is read as one
pub named : (text : List ℕ) → is_name text ≡ true → Open text (name text)
named text is =
    let parts = and_parts (is_word text) (not (is_among reserved text)) is in
    let free : is_among reserved text ≡ false = not-true (is_among reserved text) parts.1 in
    word text (name_word text parts.0)
    (λ f span e. ap (terminal_map f) (other_word_is_a_name text span (λ taken. both_ways (is_among reserved text) free taken)) ∙ ap t.Name e)

-- numbers

number_apart : (text rest : List ℕ) → Stops rest → IsSeparated Number text rest
number_apart text [] stops = tt
number_apart text (c ∷ rest) stops = (or_parts (is_letter c) (is_digit c) stops).1

pub number : (limit n : ℕ) → limit < 2 ^ 64 → n ≤ limit → Open (decimal n) (λ ms. number_up_to limit n ∷ ms)
number limit n high low =
    let small : n < 2 ^ 64 = omega arith in record {
      lay = λ rest ms stops l. token Number (decimal n) (decimal_lexeme n small) (number_apart (decimal n) rest stops)
          (λ f span e. ap t.Number (decimal_value n small))
          (cond-true _ None _ (le-leb n limit low)) l;
    }

-- signs

-- a sign that no second sign goes on with
abbrev IsAlone : ℕ → Type 0
IsAlone b = (b == 61 || (b == 33 || b == 60)) ≡ false

alone_apart : (b : ℕ) (rest : List ℕ) → IsAlone b → IsSeparated Symbol (b ∷ []) rest
alone_apart b [] alone = tt
alone_apart b (c ∷ rest) alone = and_right (c == 61) (b == 61 || (b == 33 || b == 60)) alone

sign : (b : ℕ) {x : Terminal (List ℕ)} → is_lexeme Symbol (b ∷ []) ≡ true → IsAlone b → IsRead Symbol (b ∷ []) (without_fence x) → Closed (b ∷ []) (λ ms. plain x ∷ ms)
sign b lexeme alone read = record { lay = λ rest ms l. token Symbol (b ∷ []) lexeme (alone_apart b rest alone) read refl l }

pub left_paren : Closed (codes "(") (λ ms. plain t.LeftParen ∷ ms)
left_paren = sign 40 refl refl (λ f span e. refl)

pub right_paren : Closed (codes ")") (λ ms. plain t.RightParen ∷ ms)
right_paren = sign 41 refl refl (λ f span e. refl)

pub open_brace : Closed (codes "{") (λ ms. plain t.Open ∷ ms)
open_brace = sign 123 refl refl (λ f span e. refl)

-- the brace of a block that lies so deep
pub block_brace : (depth : ℕ) → depth ≤ 32 → Closed (codes "{") (λ ms. open_at depth ∷ ms)
block_brace depth low = record {
  lay = λ rest ms l. token Symbol (codes "{") refl (alone_apart 123 rest refl) (λ f span e. refl) (cond-true _ None _ (le-leb depth 32 low)) l;
}

pub close_brace : Closed (codes "}") (λ ms. plain t.Close ∷ ms)
close_brace = sign 125 refl refl (λ f span e. refl)

pub comma : Closed (codes ", ") (λ ms. plain t.Comma ∷ ms)
comma = closed_closed (sign 44 refl refl (λ f span e. refl)) space

pub semicolon : Closed (codes ";") (λ ms. plain t.Semicolon ∷ ms)
semicolon = sign 59 refl refl (λ f span e. refl)

pub minus : Closed (codes "-") (λ ms. plain (t.Operator op.Sub) ∷ ms)
minus = sign 45 refl refl (λ f span e. refl)

pub equals : Closed (codes " = ") (λ ms. plain t.Equals ∷ ms)
equals = record { lay = λ rest ms l. blank refl (token Symbol (codes "=") refl refl (λ f span e. refl) refl (blank refl l)) }

op_lexeme : (o : Op) → is_lexeme Symbol (op_text o) ≡ true
op_lexeme op.Add = refl
op_lexeme op.Sub = refl
op_lexeme op.Mul = refl
op_lexeme op.Div = refl
op_lexeme op.Rem = refl
op_lexeme op.And = refl
op_lexeme op.Or = refl
op_lexeme op.Xor = refl
op_lexeme op.Eq = refl
op_lexeme op.Ne = refl
op_lexeme op.Lt = refl
op_lexeme op.Le = refl

op_apart : (o : Op) (rest : List ℕ) → IsSeparated Symbol (op_text o) (32 ∷ rest)
op_apart op.Add rest = refl
op_apart op.Sub rest = refl
op_apart op.Mul rest = refl
op_apart op.Div rest = refl
op_apart op.Rem rest = refl
op_apart op.And rest = refl
op_apart op.Or rest = refl
op_apart op.Xor rest = refl
op_apart op.Eq rest = tt
op_apart op.Ne rest = tt
op_apart op.Lt rest = refl
op_apart op.Le rest = tt

op_read : (o : Op) → IsRead Symbol (op_text o) (t.Operator o)
op_read op.Add = λ f span e. refl
op_read op.Sub = λ f span e. refl
op_read op.Mul = λ f span e. refl
op_read op.Div = λ f span e. refl
op_read op.Rem = λ f span e. refl
op_read op.And = λ f span e. refl
op_read op.Or = λ f span e. refl
op_read op.Xor = λ f span e. refl
op_read op.Eq = λ f span e. refl
op_read op.Ne = λ f span e. refl
op_read op.Lt = λ f span e. refl
op_read op.Le = λ f span e. refl

-- an operator, and a blank after it
pub operator : (o : Op) → Closed (op_text o ++ codes " ") (λ ms. plain (t.Operator o) ∷ ms)
operator o = record {
  lay = λ rest ms l. subst (λ bytes. Laid bytes (plain (t.Operator o) ∷ ms)) (sym (append_assoc (op_text o) (codes " ") rest))
      (token Symbol (op_text o) (op_lexeme o) (op_apart o rest) (op_read o) refl (blank refl l));
}

-- orders

-- an order by its word
abbrev pub spelled_order : Order → RawOrder (List ℕ)
spelled_order o = record { order = o; word = order_text o }

pub order_word : (o : Order) → Open (order_text o) (order (spelled_order o))
order_word Rlx = word (codes "rlx") refl (λ f span e. ap (t.OrderWord Rlx) e)
order_word Acq = word (codes "acq") refl (λ f span e. ap (t.OrderWord Acq) e)
order_word Rel = word (codes "rel") refl (λ f span e. ap (t.OrderWord Rel) e)
order_word AcqRel = word (codes "acqrel") refl (λ f span e. ap (t.OrderWord AcqRel) e)

-- the order of a fence
pub fence_order_word : (o : Order) → Open (order_text o) (λ ms. plain (t.FenceOrder o (order_text o)) ∷ ms)
fence_order_word Rlx = word (codes "rlx") refl (λ f span e. ap (t.OrderWord Rlx) e)
fence_order_word Acq = word (codes "acq") refl (λ f span e. ap (t.OrderWord Acq) e)
fence_order_word Rel = word (codes "rel") refl (λ f span e. ap (t.OrderWord Rel) e)
fence_order_word AcqRel = word (codes "acqrel") refl (λ f span e. ap (t.OrderWord AcqRel) e)
