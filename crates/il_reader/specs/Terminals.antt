-- What the grammar sees of the tokens of a text.
use Rattle.std.specs.Prelude.{ℕ, ◌+◌, ◌*◌, ◌-◌, ◌≤◌, List, [], ◌∷◌, ◌++◌, map, min, length, slice_range, ◌&&◌, ◌||◌, Bool, true, false, if◌then◌else◌, codes, Option, Some, None}
use Rattle.std.specs.Str.{bytes_eq}
use Rattle.values_undef.specs.Access.{is_fence_order}
use Rattle.values_undef.specs.declared.access.Order.TheVariants.{Rlx, Acq, Rel, AcqRel}
use Rattle.values_undef.specs.declared.arithmetic.Op.TheVariants as ops
use Rattle.il_lexer.specs.declared.token.Token.{Token}
use Rattle.il_lexer.specs.declared.token.TokenKind.{TokenKind}
use Rattle.il_lexer.specs.declared.token.TokenKind.TheVariants as kinds
use Rattle.il_lexer.specs.Text.{Rest, at_end, stopped_at}
use Rattle.il_grammar.specs.declared.syntax.Span.{Span}
use Rattle.il_grammar.specs.Name.{name_text}
use Rattle.il_grammar.specs.declared.terminal.Terminal.{Terminal}
use Rattle.il_grammar.specs.declared.terminal.Terminal.TheVariants as t

-- the number that a value and further digits are
abbrev pub digits_value : ℕ → List ℕ → ℕ
digits_value value [] = value
digits_value value (d ∷ ds) = digits_value (value * 10 + (d - 48)) ds

-- a number, or the greatest that a terminal holds, which exceeds every limit of the grammar
abbrev pub number_value : List ℕ → ℕ
number_value digits = min (digits_value 0 digits) 18446744073709551615

-- `undef` is reserved, and no rule of the grammar takes it
abbrev pub other_word_of : List ℕ → Span → Terminal Span
other_word_of text span =
    if bytes_eq text (codes "rlx") then t.OrderWord Rlx span
    else if bytes_eq text (codes "acq") then t.OrderWord Acq span
    else if bytes_eq text (codes "rel") then t.OrderWord Rel span
    else if bytes_eq text (codes "acqrel") then t.OrderWord AcqRel span
    else if bytes_eq text (codes "add") then t.Add
    else if bytes_eq text (codes "swap") then t.Swap
    else if bytes_eq text (codes "cas") then t.Cas
    else if bytes_eq text (codes "print") then t.Print span
    else if bytes_eq text (codes "if") then t.If span
    else if bytes_eq text (codes "else") then t.Else
    else if bytes_eq text (codes "while") then t.While span
    else if bytes_eq text (codes "call") then t.Call
    else if bytes_eq text (codes "undef") then t.Unknown
    else t.Name span

abbrev pub word_of : List ℕ → Span → Terminal Span
word_of text span =
    if bytes_eq text (codes "il") then t.Il
    else if bytes_eq text (codes "na") then t.Na
    else if bytes_eq text (codes "atomic") then t.Atomic
    else if bytes_eq text (codes "fn") then t.Fn
    else if bytes_eq text (codes "reg") then t.Reg
    else if bytes_eq text (codes "return") then t.Return
    else if bytes_eq text (codes "thread") then t.Thread span
    else if bytes_eq text (codes "skip") then t.Skip span
    else if bytes_eq text (codes "load") then t.Load
    else if bytes_eq text (codes "store") then t.Store span
    else other_word_of text span

abbrev pub operator_of : List ℕ → Terminal Span
operator_of text =
    if bytes_eq text (codes "+") then t.Operator ops.Add
    else if bytes_eq text (codes "-") then t.Operator ops.Sub
    else if bytes_eq text (codes "*") then t.Operator ops.Mul
    else if bytes_eq text (codes "/") then t.Operator ops.Div
    else if bytes_eq text (codes "%") then t.Operator ops.Rem
    else if bytes_eq text (codes "&") then t.Operator ops.And
    else if bytes_eq text (codes "|") then t.Operator ops.Or
    else if bytes_eq text (codes "^") then t.Operator ops.Xor
    else if bytes_eq text (codes "==") then t.Operator ops.Eq
    else if bytes_eq text (codes "!=") then t.Operator ops.Ne
    else if bytes_eq text (codes "<") then t.Operator ops.Lt
    else if bytes_eq text (codes "<=") then t.Operator ops.Le
    else t.Unknown

abbrev pub symbol_terminal : List ℕ → Terminal Span
symbol_terminal text =
    if bytes_eq text (codes "(") then t.LeftParen
    else if bytes_eq text (codes ")") then t.RightParen
    else if bytes_eq text (codes "{") then t.Open
    else if bytes_eq text (codes "}") then t.Close
    else if bytes_eq text (codes ",") then t.Comma
    else if bytes_eq text (codes ";") then t.Semicolon
    else if bytes_eq text (codes "=") then t.Equals
    else operator_of text

-- the token's bytes are bytes of the text
abbrev pub IsWithinText : List ℕ → Token → Type 0
IsWithinText bytes token = (token.start ≤ token.end) × (token.end ≤ length bytes)

abbrev pub text_of : List ℕ → Token → List ℕ
text_of bytes token = slice_range bytes token.start token.end

abbrev pub of_kind : TokenKind → List ℕ → Span → Terminal Span
of_kind kinds.Word text span = word_of text span
of_kind kinds.Number text span = t.Number (number_value text)
of_kind kinds.Symbol text span = symbol_terminal text

abbrev pub terminal_of : List ℕ → Token → Terminal Span
terminal_of bytes token = of_kind token.kind (text_of bytes token) (record { start = token.start; end = token.end })

-- the last terminal, where a byte begins no token
abbrev pub unknown_terminal : Rest → List (Terminal Span)
unknown_terminal at_end = []
unknown_terminal (stopped_at at) = t.Unknown ∷ []

-- Fences. The word `fence` is a name like others; in a text of header `il 2` the order behind it is that of
-- a fence.

-- an order of a fence, where a fence may be
abbrev pub as_fence_order : {N : Type 0} → Bool → Terminal N → Terminal N
as_fence_order behind (t.OrderWord o w) = if behind && is_fence_order o then t.FenceOrder o w else t.OrderWord o w
as_fence_order behind x = x

-- the terminal is a name that passes the test
abbrev pub is_name_with : {N : Type 0} → (N → Bool) → Terminal N → Bool
is_name_with test (t.Name n) = test n
is_name_with test _ = false

-- each order behind a name that passes the test is that of a fence; `behind` says whether such a name stands
-- before the first
abbrev pub with_fences : {N : Type 0} → (N → Bool) → Bool → List (Terminal N) → List (Terminal N)
with_fences test behind [] = []
with_fences test behind (x ∷ xs) = as_fence_order behind x ∷ with_fences test (is_name_with test x) xs

-- the place has the word `fence`, in a text where that is looked for
abbrev pub is_fence_word : List ℕ → Bool → Span → Bool
is_fence_word bytes fences span = fences && bytes_eq (name_text bytes span) (codes "fence")

-- what the grammar sees of a text with a header and these tokens after it, which may have fences or not
abbrev pub terminals_of : List ℕ → Bool → List Token → Rest → List (Terminal Span)
terminals_of bytes fences tokens rest =
    t.Il ∷ t.Version ∷ with_fences (is_fence_word bytes fences) false (map (terminal_of bytes) tokens ++ unknown_terminal rest)

-- the header is `il` and `1` or `2`, by their spelling, and these tokens come after it
abbrev pub after_header : List ℕ → List Token → Option (List Token)
after_header bytes (first ∷ second ∷ tokens) =
    if bytes_eq (text_of bytes first) (codes "il") && (bytes_eq (text_of bytes second) (codes "1") || bytes_eq (text_of bytes second) (codes "2")) then Some tokens else None
after_header bytes _ = None

-- the header is that of texts that may have fences
abbrev pub has_fences : List ℕ → List Token → Bool
has_fences bytes (first ∷ second ∷ tokens) = bytes_eq (text_of bytes second) (codes "2")
has_fences bytes _ = false
