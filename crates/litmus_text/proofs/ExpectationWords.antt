-- The words of an expectation: they are made of visible bytes, a line is cut into them, and they are those of one expectation alone.
use Rattle.std.proofs.Common.{◌≡◌, ◌∙◌, ◌==◌, ◌≤◌, ◌^◌, ◌++◌, ℕ, ℤ, pos, negsuc, suc, codes, map, sym, ap, ap₂, subst, refl, Bool, true, false, List, [], ◌∷◌, length, get_or, take, arith, Option, Some, None}
use Rattle.std.specs.Fmt.{decimal, signed_decimal}
use Rattle.std.specs.List.{All, join_with_byte, list_all, slice_split}
use Rattle.std.specs.Str.{IsUtf8}
use Rattle.std.specs.Str.Parse.{AllDigits}
use Rattle.std.proofs.lemmas.Fmt.{decimal_injective, decimal_is_IsNumeral_wide}
use Rattle.std.proofs.lemmas.Bool.{and_from}
use Rattle.std.proofs.lemmas.Bool.Decides.{nat_tests}
use Rattle.std.proofs.lemmas.List.Elements.{All-append, All-cons, All-head, All-tail, All-nil}
use Rattle.std.proofs.lemmas.List.Folds.{list_all-append}
use Rattle.std.proofs.lemmas.List.Splits.{join_with_byte-slice_split, slice_split_none, slice_split_at}
use Rattle.std.proofs.lemmas.Str.{IsUtf8-from_ascii}
use Rattle.std.proofs.lemmas.Str.Parse.{digit_from_value}
use Rattle.values_undef.specs.declared.value.Val.{Val}
use Rattle.values_undef.specs.declared.value.Val.TheVariants.{Def, Undef}
use Rattle.text_parts.specs.Lines.{Text, has_no_newline}
use Rattle.journal_text.specs.Kind.{Decodes}
use Rattle.journal_text.specs.Limits.{Has64Bits, IsValue}
use Rattle.journal_text.specs.Line.{value_word}
use Rattle.journal_text.proofs.Callers.{all_first, apart, are_visible, decimal_visible, plain_ascii, plain_clean, name_visible, same_place, same_value, splits, value_visible, words_plain}
use Rattle.il_syntax.specs.Text.{location_name}
use Rattle.il_syntax.specs.declared.program.Location.{Location}
use Rattle.litmus.specs.declared.outcome.Printed.{Printed}
use Rattle.litmus_text.specs.Expectation.{Expected, FitsExpectation, FitsLast, FitsOutput, FitsWord, expectation_line, expectation_words, expectation_kind, expected_word, last_word, output_word}
use Rattle.litmus_text.specs.declared.expectation.ExpectedWord.{ExpectedWord}
use Rattle.litmus_text.specs.declared.expectation.ExpectedWord.TheVariants.{Output, Last}
use Rattle.litmus_text.specs.declared.expectation.LastValue.{LastValue}
use Rattle.litmus_text.proofs.Names.{AreNamed, plain_name}

-- bytes

output_visible : (o : Printed) → FitsOutput o → are_visible (output_word o) ≡ true
output_visible o f =
    let thread = f.thread in
    list_all-append _ (decimal o.thread) (58 ∷ signed_decimal o.value) ∙
    and_from (are_visible (decimal o.thread)) (are_visible (58 ∷ signed_decimal o.value)) (decimal_visible o.thread (omega (arith, thread))) (value_visible (Def o.value) f.value)

kind_visible : (b : Bool) → are_visible (expectation_kind b) ≡ true
kind_visible true = refl
kind_visible false = refl

-- a line isn't empty
kind_long : (b : Bool) (ws : List Text) → 1 ≤ length (join_with_byte 32 (expectation_kind b ∷ ws))
kind_long true [] = omega arith
kind_long true (w ∷ ws) = omega arith
kind_long false [] = omega arith
kind_long false (w ∷ ws) = omega arith

pub some_bytes : (locations : List Location) (e : Expected) → 1 ≤ length (expectation_line locations e)
some_bytes locations e = kind_long e.some (map (expected_word locations) e.words)

-- numbers have no byte of this and those above

digits_without : (c : ℕ) → 58 ≤ c → (ds : Text) → AllDigits 10 ds → All (λ b. (b == c) ≡ false) ds
digits_without c above [] h = All-nil (λ b. (b == c) ≡ false)
digits_without c above (x ∷ xs) h =
    let range = digit_from_value x h.0 in
    let high : x ≤ 57 = range.1 in
    let differs : (x == c) ≡ false = grind (arith, nat_tests) in
    All-cons (λ b. (b == c) ≡ false) x xs differs (digits_without c above xs h.1)

decimal_without : (c : ℕ) → 58 ≤ c → (n : ℕ) → n ≤ 2 ^ 64 → All (λ b. (b == c) ≡ false) (decimal n)
decimal_without c above n h = digits_without c above (decimal n) (decimal_is_IsNumeral_wide n (omega arith)).0.1

signed_without : (c : ℕ) → 58 ≤ c → (z : ℤ) → Has64Bits z → All (λ b. (b == c) ≡ false) (signed_decimal z)
signed_without c above (pos n) h = decimal_without c above n (omega arith)
signed_without c above (negsuc n) h =
    let differs : (45 == c) ≡ false = grind (arith, nat_tests) in
    All-cons (λ b. (b == c) ≡ false) 45 (decimal (suc n)) differs (decimal_without c above (suc n) (omega arith))

value_without : (v : Val) → IsValue v → All (λ b. (b == 61) ≡ false) (value_word v)
value_without (Def z) h = signed_without 61 (omega arith) z h
value_without Undef h = spelled
  where
    step : (b : ℕ) (bs : Text) → (b == 61) ≡ false → All (λ b. (b == 61) ≡ false) bs → All (λ b. (b == 61) ≡ false) (b ∷ bs)
    step b bs differs rest = All-cons (λ b. (b == 61) ≡ false) b bs differs rest

    spelled : All (λ b. (b == 61) ≡ false) (codes "undef")
    spelled =
        step 117 (codes "ndef") refl (step 110 (codes "def") refl (step 100 (codes "ef") refl (step 101 (codes "f") refl (step 102 [] refl (All-nil (λ b. (b == 61) ≡ false))))))

-- words of two pieces

-- The pieces of a word are those of a thing that fits, and the word is what they make with the byte between them: so what the pieces
-- stand for the word does.
module _ {X : Type 0} (c : ℕ) (first second : X → Text) (fits : X → Type 0) (cut : (x : X) → fits x → slice_split (λ b. b == c) (first x ++ (c ∷ second x)) ≡ first x ∷ (second x ∷ [])) where
  abbrev word_of : X → Text
  word_of x = first x ++ (c ∷ second x)

  abbrev pieces_of : X → List Text
  pieces_of x = first x ∷ (second x ∷ [])

  pair_decodes : (word : Text) (pieces : List Text) (r : Option X) → pieces ≡ take 3 (slice_split (λ b. b == c) word) → Decodes pieces_of fits pieces r → Decodes word_of fits word r
  pair_decodes word pieces None is_cut h = λ x f is. h x f (is_cut ∙ ap (take 3) (ap (slice_split (λ b. b == c)) is ∙ cut x f))
  pair_decodes word pieces (Some x) is_cut h =
      let all = slice_split (λ b. b == c) word in
      let count : length (take 3 all) ≡ 2 = ap length (sym is_cut ∙ h.1) in
      let whole : take 3 all ≡ all = all_first 3 all (omega (arith, count)) in
      (h.0, sym (join_with_byte-slice_split c word) ∙ ap (join_with_byte c) (sym whole ∙ sym is_cut ∙ h.1))

-- outputs

-- the pieces of an output's word
abbrev pub output_pieces : Printed → List Text
output_pieces o = decimal o.thread ∷ (signed_decimal o.value ∷ [])

cut_output : (o : Printed) → FitsOutput o → slice_split (λ b. b == 58) (output_word o) ≡ output_pieces o
cut_output o f =
    let thread = f.thread in
    slice_split_at (λ b. b == 58) (decimal o.thread) 58 (signed_decimal o.value) (decimal_without 58 (omega arith) o.thread (omega (arith, thread))) refl
    ∙ ap (λ (ps : List Text). decimal o.thread ∷ ps) (slice_split_none (λ b. b == 58) (signed_decimal o.value) (signed_without 58 (omega arith) o.value f.value))

pub word_decodes : (word : Text) (pieces : List Text) (r : Option Printed) → pieces ≡ take 3 (slice_split (λ b. b == 58) word) → Decodes output_pieces FitsOutput pieces r
    → Decodes output_word FitsOutput word r
word_decodes = pair_decodes 58 (λ (o : Printed). decimal o.thread) (λ (o : Printed). signed_decimal o.value) FitsOutput cut_output

-- what is undetermined is no number
pub undef_no_number : (word : Text) (z : ℤ) → Has64Bits z → word ≡ value_word Undef → word ≡ signed_decimal z → ⊥
undef_no_number word z h is same = let bad : Def z ≡ Undef = same_value (Def z) Undef h tt (sym same ∙ is) in absurd cc

pub no_value_no_number : (word : Text) → ((x : Val) → IsValue x → word ≡ value_word x → ⊥) → (z : ℤ) → Has64Bits z → word ≡ signed_decimal z → ⊥
no_value_no_number word none z h same = none (Def z) h same

same_output : (o p : Printed) → FitsOutput o → FitsOutput p → output_word o ≡ output_word p → o ≡ p
same_output o p f g same =
    let thread = f.thread in
    let thread' = g.thread in
    let pieces : output_pieces o ≡ output_pieces p = sym (cut_output o f) ∙ ap (slice_split (λ b. b == 58)) same ∙ cut_output p g in
    let threads = decimal_injective o.thread p.thread (omega (arith, thread)) (omega (arith, thread')) (ap (λ (ps : List Text). get_or ps 0 []) pieces) in
    let values = same_value (Def o.value) (Def p.value) f.value g.value (ap (λ (ps : List Text). get_or ps 1 []) pieces) in
    let numbers : o.value ≡ p.value = ap number values in
    λ i. record { thread = threads i; value = numbers i }
  where
    number : Val → ℤ
    number (Def z) = z
    number Undef = pos 0

-- an output's word has no sign `=`
output_whole : (o : Printed) → FitsOutput o → slice_split (λ b. b == 61) (output_word o) ≡ output_word o ∷ []
output_whole o f =
    let thread = f.thread in
    slice_split_none (λ b. b == 61) (output_word o)
    (All-append (λ b. (b == 61) ≡ false) (decimal o.thread) (58 ∷ signed_decimal o.value) (decimal_without 61 (omega arith) o.thread (omega (arith, thread)))
    (All-cons (λ b. (b == 61) ≡ false) 58 (signed_decimal o.value) refl (signed_without 61 (omega arith) o.value f.value)))

pub same_kind : (a b : Bool) → expectation_kind a ≡ expectation_kind b → a ≡ b
same_kind true true e = refl
same_kind false false e = refl
same_kind true false e = absurd (apart (codes "some") (codes "none") refl e)
same_kind false true e = absurd (apart (codes "none") (codes "some") refl e)

-- the words after the first
pub more_words : (locations : List Location) (b : Bool) (ws : List Text) (e : Expected) → expectation_kind b ∷ ws ≡ expectation_words locations e → ws ≡ map (expected_word locations) e.words
more_words locations b ws e is = cc

module _ (locations : List Location) (named : AreNamed locations) where
  -- last values

  last_visible : (l : LastValue) → FitsLast locations l → are_visible (last_word locations l) ≡ true
  last_visible l f =
      list_all-append _ (location_name locations l.place) (61 ∷ value_word l.value) ∙
      and_from (are_visible (location_name locations l.place)) (are_visible (61 ∷ value_word l.value)) (name_visible locations l.place named.visible) (value_visible l.value f.value)

  abbrev last_pieces : LastValue → List Text
  last_pieces l = location_name locations l.place ∷ (value_word l.value ∷ [])

  cut_last : (l : LastValue) → FitsLast locations l → slice_split (λ b. b == 61) (last_word locations l) ≡ last_pieces l
  cut_last l f =
      slice_split_at (λ b. b == 61) (location_name locations l.place) 61 (value_word l.value) (plain_name locations l.place named.names) refl
      ∙ ap (λ (ps : List Text). location_name locations l.place ∷ ps) (slice_split_none (λ b. b == 61) (value_word l.value) (value_without l.value f.value))

  pub last_decodes : (word : Text) (pieces : List Text) (r : Option LastValue) → pieces ≡ take 3 (slice_split (λ b. b == 61) word) → Decodes last_pieces (FitsLast locations) pieces r
      → Decodes (last_word locations) (FitsLast locations) word r
  last_decodes = pair_decodes 61 (λ (l : LastValue). location_name locations l.place) (λ (l : LastValue). value_word l.value) (FitsLast locations) cut_last

  same_last : (l m : LastValue) → FitsLast locations l → FitsLast locations m → last_word locations l ≡ last_word locations m → l ≡ m
  same_last l m f g same =
      let pieces : last_pieces l ≡ last_pieces m = sym (cut_last l f) ∙ ap (slice_split (λ b. b == 61)) same ∙ cut_last m g in
      let places = same_place locations l.place m.place named.apart f.place g.place (ap (λ (ps : List Text). get_or ps 0 []) pieces) in
      let values = same_value l.value m.value f.value g.value (ap (λ (ps : List Text). get_or ps 1 []) pieces) in
      λ i. record { place = places i; value = values i }

  output_no_last : (o : Printed) (l : LastValue) → FitsOutput o → FitsLast locations l → output_word o ≡ last_word locations l → ⊥
  output_no_last o l f g same =
      let pieces : output_word o ∷ [] ≡ last_pieces l = sym (output_whole o f) ∙ ap (slice_split (λ b. b == 61)) same ∙ cut_last l g in
      let count : 1 ≡ 2 = ap length pieces in
      omega (arith, count)

  -- words

  word_visible : (x : ExpectedWord) → FitsWord locations x → are_visible (expected_word locations x) ≡ true
  word_visible (Output o) f = output_visible o f
  word_visible (Last l) f = last_visible l f

  all_visible : (xs : List ExpectedWord) → All (FitsWord locations) xs → list_all are_visible (map (expected_word locations) xs) ≡ true
  all_visible [] h = refl
  all_visible (x ∷ xs) h =
      and_from (are_visible (expected_word locations x)) (list_all are_visible (map (expected_word locations) xs)) (word_visible x (All-head (FitsWord locations) x xs h))
      (all_visible xs (All-tail (FitsWord locations) x xs h))

  words_visible : (e : Expected) → FitsExpectation locations e → list_all are_visible (expectation_words locations e) ≡ true
  words_visible e f = and_from (are_visible (expectation_kind e.some)) (list_all are_visible (map (expected_word locations) e.words)) (kind_visible e.some) (all_visible e.words f)

  pub clean_line : (e : Expected) → FitsExpectation locations e → has_no_newline (expectation_line locations e) ≡ true
  clean_line e f = plain_clean (expectation_line locations e) (words_plain (expectation_words locations e) (words_visible e f))

  pub cut_words : (line : Text) (e : Expected) → FitsExpectation locations e → line ≡ expectation_line locations e → slice_split (λ b. b == 32) line ≡ expectation_words locations e
  cut_words line e f is = ap (slice_split (λ b. b == 32)) is ∙ splits (expectation_words locations e) (omega arith) (words_visible e f)

  pub line_decodes : (line : Text) (words : List Text) (o : Option Expected) → words ≡ slice_split (λ b. b == 32) line → Decodes (expectation_words locations) (FitsExpectation locations) words o
      → Decodes (expectation_line locations) (FitsExpectation locations) line o
  line_decodes line words None cut h = λ e f is. h e f (cut ∙ cut_words line e f is)
  line_decodes line words (Some e) cut h = (h.0, sym (join_with_byte-slice_split 32 line) ∙ ap (join_with_byte 32) (sym cut ∙ h.1))

  -- a line that is no text of characters is no expectation
  pub no_text : (line : Text) → (IsUtf8 line → ⊥) → (e : Expected) → FitsExpectation locations e → line ≡ expectation_line locations e → ⊥
  no_text line none e f is =
      none (subst IsUtf8 (sym is) (IsUtf8-from_ascii (expectation_line locations e) (plain_ascii (expectation_line locations e) (words_plain (expectation_words locations e) (words_visible e f)))))

  -- a word that is neither an output nor a last value is none of an expectation
  pub no_word : (word : Text) → ((o : Printed) → FitsOutput o → word ≡ output_word o → ⊥) → ((l : LastValue) → FitsLast locations l → word ≡ last_word locations l → ⊥) → (x : ExpectedWord) → FitsWord locations x
      → word ≡ expected_word locations x → ⊥
  no_word word no_output no_last (Output o) f is = no_output o f is
  no_word word no_output no_last (Last l) f is = no_last l f is

  -- one expectation

  same_word : (x y : ExpectedWord) → FitsWord locations x → FitsWord locations y → expected_word locations x ≡ expected_word locations y → x ≡ y
  same_word (Output o) (Output p) f g same = ap (λ (o : Printed). Output o) (same_output o p f g same)
  same_word (Output o) (Last l) f g same = absurd (output_no_last o l f g same)
  same_word (Last l) (Output o) f g same = absurd (output_no_last o l g f (sym same))
  same_word (Last l) (Last m) f g same = ap (λ (l : LastValue). Last l) (same_last l m f g same)

  same_words : (xs ys : List ExpectedWord) → All (FitsWord locations) xs → All (FitsWord locations) ys → map (expected_word locations) xs ≡ map (expected_word locations) ys → xs ≡ ys
  same_words [] [] h k same = refl
  same_words [] (y ∷ ys) h k same = absurd cc
  same_words (x ∷ xs) [] h k same = absurd cc
  same_words (x ∷ xs) (y ∷ ys) h k same =
      let first : expected_word locations x ≡ expected_word locations y = cc in
      let rest : map (expected_word locations) xs ≡ map (expected_word locations) ys = cc in
      ap₂ (λ (x : ExpectedWord) (xs : List ExpectedWord). x ∷ xs) (same_word x y (All-head (FitsWord locations) x xs h) (All-head (FitsWord locations) y ys k) first)
      (same_words xs ys (All-tail (FitsWord locations) x xs h) (All-tail (FitsWord locations) y ys k) rest)

  pub same_line_expectation : (e f : Expected) → FitsExpectation locations e → FitsExpectation locations f → expectation_line locations e ≡ expectation_line locations f → e ≡ f
  same_line_expectation e f h k same =
      let words : expectation_words locations e ≡ expectation_words locations f = sym (cut_words (expectation_line locations e) e h refl) ∙ cut_words (expectation_line locations e) f k same in
      let kinds : expectation_kind e.some ≡ expectation_kind f.some = cc in
      let rest : map (expected_word locations) e.words ≡ map (expected_word locations) f.words = cc in
      let somes = same_kind e.some f.some kinds in
      let all = same_words e.words f.words h k rest in
      λ i. record { some = somes i; words = all i }
