-- The place of a token, which its terminal has with it.
use Rattle.std.proofs.Common.{◌≡◌, ℕ, List, [], ◌∷◌, Bool, true, false, cond, codes, Option, Some, None, refl, sym, ap, ◌∙◌}
use Rattle.std.specs.Str.{bytes_eq}
use Rattle.values_undef.specs.declared.access.Order.TheVariants.{Rlx, Acq, Rel, AcqRel}
use Rattle.values_undef.specs.declared.arithmetic.Op.TheVariants as ops
use Rattle.il_lexer.specs.declared.token.Token.{Token}
use Rattle.il_lexer.specs.declared.token.TokenKind.{TokenKind}
use Rattle.il_lexer.specs.declared.token.TokenKind.TheVariants as kinds
use Rattle.il_grammar.specs.declared.syntax.Span.{Span}
use Rattle.il_grammar.specs.declared.terminal.Terminal.{Terminal}
use Rattle.il_grammar.specs.declared.terminal.Terminal.TheVariants as t
use Rattle.il_grammar.specs.Name.{name_text}
use Rattle.il_reader.specs.Terminals.{word_of, symbol_terminal, of_kind, terminal_of, text_of}

-- the place that a terminal has with it
abbrev pub span_of : Terminal Span → Option Span
span_of (t.Thread w) = Some w
span_of (t.Skip w) = Some w
span_of (t.Store w) = Some w
span_of (t.OrderWord o w) = Some w
span_of (t.FenceOrder o w) = Some w
span_of (t.Print w) = Some w
span_of (t.If w) = Some w
span_of (t.While w) = Some w
span_of (t.Name n) = Some n
span_of _ = None

-- A token's terminal has the token's place with it, or none.

pub data HasPlace (s : Span) (x : Terminal Span) : Type 0 where
  no_place : span_of x ≡ None → HasPlace s x
  own_place : span_of x ≡ Some s → HasPlace s x

either : (s : Span) (b : Bool) (x y : Terminal Span) → HasPlace s x → HasPlace s y → HasPlace s (cond b x y)
either s true x y p q = p
either s false x y p q = q

neither : (b : Bool) (x y : Terminal Span) → span_of x ≡ None → span_of y ≡ None → span_of (cond b x y) ≡ None
neither true x y p q = p
neither false x y p q = q

pub word_place : (text : List ℕ) (s : Span) → HasPlace s (word_of text s)
word_place text s =
    either s (bytes_eq text (codes "il")) t.Il _ (no_place refl)
    (either s (bytes_eq text (codes "na")) t.Na _ (no_place refl)
    (either s (bytes_eq text (codes "atomic")) t.Atomic _ (no_place refl)
    (either s (bytes_eq text (codes "fn")) t.Fn _ (no_place refl)
    (either s (bytes_eq text (codes "reg")) t.Reg _ (no_place refl)
    (either s (bytes_eq text (codes "return")) t.Return _ (no_place refl)
    (either s (bytes_eq text (codes "thread")) (t.Thread s) _ (own_place refl)
    (either s (bytes_eq text (codes "skip")) (t.Skip s) _ (own_place refl)
    (either s (bytes_eq text (codes "load")) t.Load _ (no_place refl)
    (either s (bytes_eq text (codes "store")) (t.Store s) _ (own_place refl)
    (either s (bytes_eq text (codes "rlx")) (t.OrderWord Rlx s) _ (own_place refl)
    (either s (bytes_eq text (codes "acq")) (t.OrderWord Acq s) _ (own_place refl)
    (either s (bytes_eq text (codes "rel")) (t.OrderWord Rel s) _ (own_place refl)
    (either s (bytes_eq text (codes "acqrel")) (t.OrderWord AcqRel s) _ (own_place refl)
    (either s (bytes_eq text (codes "add")) t.Add _ (no_place refl)
    (either s (bytes_eq text (codes "swap")) t.Swap _ (no_place refl)
    (either s (bytes_eq text (codes "cas")) t.Cas _ (no_place refl)
    (either s (bytes_eq text (codes "print")) (t.Print s) _ (own_place refl)
    (either s (bytes_eq text (codes "if")) (t.If s) _ (own_place refl)
    (either s (bytes_eq text (codes "else")) t.Else _ (no_place refl)
    (either s (bytes_eq text (codes "while")) (t.While s) _ (own_place refl)
    (either s (bytes_eq text (codes "call")) t.Call _ (no_place refl)
    (either s (bytes_eq text (codes "undef")) t.Unknown (t.Name s) (no_place refl) (own_place refl)))))))))))))))))))))))

pub symbol_place : (text : List ℕ) → span_of (symbol_terminal text) ≡ None
symbol_place text =
    neither (bytes_eq text (codes "(")) t.LeftParen _ refl
    (neither (bytes_eq text (codes ")")) t.RightParen _ refl
    (neither (bytes_eq text (codes "{")) t.Open _ refl
    (neither (bytes_eq text (codes "}")) t.Close _ refl
    (neither (bytes_eq text (codes ",")) t.Comma _ refl
    (neither (bytes_eq text (codes ";")) t.Semicolon _ refl
    (neither (bytes_eq text (codes "=")) t.Equals _ refl
    (neither (bytes_eq text (codes "+")) (t.Operator ops.Add) _ refl
    (neither (bytes_eq text (codes "-")) (t.Operator ops.Sub) _ refl
    (neither (bytes_eq text (codes "*")) (t.Operator ops.Mul) _ refl
    (neither (bytes_eq text (codes "/")) (t.Operator ops.Div) _ refl
    (neither (bytes_eq text (codes "%")) (t.Operator ops.Rem) _ refl
    (neither (bytes_eq text (codes "&")) (t.Operator ops.And) _ refl
    (neither (bytes_eq text (codes "|")) (t.Operator ops.Or) _ refl
    (neither (bytes_eq text (codes "^")) (t.Operator ops.Xor) _ refl
    (neither (bytes_eq text (codes "==")) (t.Operator ops.Eq) _ refl
    (neither (bytes_eq text (codes "!=")) (t.Operator ops.Ne) _ refl
    (neither (bytes_eq text (codes "<")) (t.Operator ops.Lt) _ refl
    (neither (bytes_eq text (codes "<=")) (t.Operator ops.Le) t.Unknown refl refl))))))))))))))))))

pub place_of_kind : (kind : TokenKind) (text : List ℕ) (s : Span) → HasPlace s (of_kind kind text s)
place_of_kind kinds.Word text s = word_place text s
place_of_kind kinds.Number text s = no_place refl
place_of_kind kinds.Symbol text s = no_place (symbol_place text)

-- a name is spelled as its token is
named_place : (s n : Span) (x : Terminal Span) → HasPlace s x → x ≡ t.Name n → n ≡ s
named_place s n x (no_place p) e = let q : span_of x ≡ Some n = ap span_of e in absurd cc
named_place s n x (own_place p) e = let q : span_of x ≡ Some n = ap span_of e in cc

pub name_of_token : (bytes : List ℕ) (token : Token) (n : Span) → terminal_of bytes token ≡ t.Name n → name_text bytes n ≡ text_of bytes token
name_of_token bytes token n e =
    ap (name_text bytes) (named_place (record { start = token.start; end = token.end }) n (terminal_of bytes token) (place_of_kind token.kind (text_of bytes token) (record { start = token.start; end = token.end })) e)
