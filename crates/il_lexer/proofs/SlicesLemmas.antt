-- Tokens are slices of the text.
use Rattle.std.proofs.Common.{◌≡◌, ℕ, ◌+◌, ◌-◌, ◌≤◌, List, [], ◌∷◌, ◌++◌, length, take, drop, true, sym, ap, ◌∙◌, subst, arith, length-append, length-drop, drop-drop}
use Rattle.std.specs.List.{slice_range}
use Rattle.std.proofs.lemmas.List.Folds.{drop_split}
use Rattle.std.proofs.Math.Nat.{sub_self}
use Rattle.std.proofs.Math.Seq.{drop-append_seam, take-append_seam, take-append-add, take-nil}
use Rattle.il_lexer.specs.declared.token.Token.{Token}
use Rattle.il_lexer.specs.declared.token.TokenKind.{TokenKind}
use Rattle.il_lexer.specs.Lexeme.{is_lexeme, IsLongest}
use Rattle.il_lexer.specs.Text.{EndsLine, Rest, Lexes, ended, unknown, blank, comment, token}
use Rattle.il_lexer.specs.Slices.{AreBlanks, nothing, blank as one_blank, comment as one_comment, IsTokenOf, AreTokensOf, end_of}
use Rattle.il_lexer.proofs.Places.{some_length}

-- an empty slice
empty_slice : (bytes : List ℕ) (at : ℕ) → slice_range bytes at at ≡ []
empty_slice bytes at = ap (λ n. take n (drop at bytes)) (sub_self at)

module _ (bytes front rest : List ℕ) (at : ℕ) (here : drop at bytes ≡ front ++ rest) where
  after_front : drop (at + length front) bytes ≡ rest
  after_front = sym (drop-drop (length front) at bytes) ∙ ap (drop (length front)) here ∙ drop-append_seam front rest

  -- a slice that begins with some bytes goes on with the slice after them
  slice_append : (to : ℕ) → at + length front ≤ to → slice_range bytes at to ≡ front ++ slice_range bytes (at + length front) to
  slice_append to inside =
      let more : to - at ≡ length front + (to - (at + length front)) = omega arith in
      ap (λ n. take n (drop at bytes)) more ∙ ap (take (length front + (to - (at + length front)))) here
      ∙ take-append-add front rest (to - (at + length front))
      ∙ ap (λ l. front ++ take (to - (at + length front)) l) (sym after_front)

  -- the slice of the bytes that stand at a place is these bytes
  slice_front : slice_range bytes at (at + length front) ≡ front
  slice_front =
      let all : at + length front - at ≡ length front = omega arith in
      ap (λ n. take n (drop at bytes)) all ∙ ap (take (length front)) here ∙ take-append_seam front rest

  front_within : at ≤ length bytes → at + length front ≤ length bytes
  front_within within = omega (arith, within, length-drop at bytes, ap length here, length-append front rest)

  -- what is passed over before tokens is a part of the blanks before them
  passed : (ts : List Token) (to : ℕ) → ((more behind : List ℕ) → more ++ behind ≡ rest → AreBlanks behind more → AreBlanks behind (front ++ more)) → AreTokensOf bytes (at + length front) ts to → AreTokensOf bytes at ts to
  passed [] to blanks tokens = (
    omega (arith, tokens.0),
    subst (AreBlanks (drop to bytes)) (sym (slice_append to tokens.0))
        (blanks (slice_range bytes (at + length front) to) (drop to bytes) (sym (drop_split bytes (at + length front) to tokens.0) ∙ after_front) tokens.1),
  )
  passed (t ∷ ts) to blanks tokens = (
    omega (arith, tokens.0),
    subst (AreBlanks (drop t.start bytes)) (sym (slice_append t.start tokens.0))
        (blanks (slice_range bytes (at + length front) t.start) (drop t.start bytes) (sym (drop_split bytes (at + length front) t.start tokens.0) ∙ after_front) tokens.1),
    tokens.2,
    tokens.3,
  )

slices_end : (bytes : List ℕ) (at : ℕ) → [] ≡ drop at bytes → at ≤ length bytes → AreTokensOf bytes at [] (length bytes)
slices_end bytes at here within =
    (within, subst (AreBlanks (drop (length bytes) bytes)) (sym (ap (take (length bytes - at)) (sym here) ∙ take-nil (length bytes - at))) nothing)

slices_stop : (bytes : List ℕ) (at : ℕ) → AreTokensOf bytes at [] at
slices_stop bytes at = (omega arith, subst (AreBlanks (drop at bytes)) (sym (empty_slice bytes at)) nothing)

one_token : (bytes text rest : List ℕ) (at : ℕ) (kind : TokenKind) → drop at bytes ≡ text ++ rest → at ≤ length bytes → is_lexeme kind text ≡ true → IsLongest text rest → IsTokenOf bytes (record { kind = kind; start = at; end = at + length text })
one_token bytes text rest at kind here within is long = record {
  some = omega (arith, some_length kind text is);
  within = front_within bytes text rest at here within;
  spelled = ap (is_lexeme kind) (slice_front bytes text rest at here) ∙ is;
  longest = subst (λ t. IsLongest t (drop (at + length text) bytes)) (sym (slice_front bytes text rest at here)) (subst (IsLongest text) (sym (after_front bytes text rest at here)) long);
}

pub slices : (bytes : List ℕ) {at : ℕ} {all : List ℕ} {ts : List Token} {stop : Rest} → Lexes at all ts stop → all ≡ drop at bytes → at ≤ length bytes → AreTokensOf bytes at ts (end_of bytes stop)
slices bytes {at = at} ended here within = slices_end bytes at here within
slices bytes {at = at} (unknown nb nh nothing_here) here within = slices_stop bytes at
slices bytes {at = at} {ts = ts} {stop = stop} (blank {b = b} {bytes = after} is l) here within =
    passed bytes (b ∷ []) after at (sym here) ts (end_of bytes stop) (λ more behind e blanks. one_blank is blanks)
    (slices bytes l (sym (after_front bytes (b ∷ []) after at (sym here))) (front_within bytes (b ∷ []) after at (sym here) within))
slices bytes {at = at} {ts = ts} {stop = stop} (comment note rest e all ends l) here within =
    let place : at + length (35 ∷ note) ≡ at + 1 + length note = omega arith in
    let text : drop at bytes ≡ (35 ∷ note) ++ rest = sym here ∙ e in
    passed bytes (35 ∷ note) rest at text ts (end_of bytes stop)
    (λ more behind same blanks. one_comment note more all (subst EndsLine (sym same) ends) blanks)
    (subst (λ n. AreTokensOf bytes n ts (end_of bytes stop)) (sym place)
    (slices bytes l (sym (ap (λ n. drop n bytes) (sym place) ∙ after_front bytes (35 ∷ note) rest at text)) (subst (λ n. n ≤ length bytes) place (front_within bytes (35 ∷ note) rest at text within))))
slices bytes {at = at} (token {kind = kind} text rest e is long l) here within =
    let text_here = sym here ∙ e in (
      omega arith,
      subst (AreBlanks (drop at bytes)) (sym (empty_slice bytes at)) nothing,
      one_token bytes text rest at kind text_here within is long,
      slices bytes l (sym (after_front bytes text rest at text_here)) (front_within bytes text rest at text_here within),
    )
