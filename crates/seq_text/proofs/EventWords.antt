-- The words of an event: they are made of visible bytes, a line is cut into them, and they are those of one event alone.
use Rattle.std.proofs.Common.{◌≡◌, ◌∙◌, ◌==◌, ◌≤◌, ℕ, codes, sym, ap, subst, refl, true, List, [], ◌∷◌, length, get_or, take, arith, Option, Some, None}
use Rattle.std.specs.Fmt.{decimal}
use Rattle.std.specs.List.{join_with_byte, list_all, slice_split}
use Rattle.std.specs.Str.{IsUtf8}
use Rattle.std.proofs.lemmas.Fmt.{decimal_injective}
use Rattle.std.proofs.lemmas.List.Splits.{join_with_byte-slice_split}
use Rattle.std.proofs.lemmas.Str.{IsUtf8-from_ascii}
use Rattle.il_syntax.specs.declared.program.Program.{Program}
use Rattle.journal_text.specs.Kind.{Decodes}
use Rattle.journal_text.specs.Limits.{HasPlainNames}
use Rattle.text_parts.specs.Lines.{Text, has_no_newline}
use Rattle.journal_text.proofs.Callers.{HasOwnNames, all_first, apart, are_visible, decimal_visible, first_all, name_visible, plain_ascii, plain_clean, same_place, same_value, splits, value_visible, words_plain}
use Rattle.seq_pair.specs.declared.event.EnvEvent.{EnvEvent}
use Rattle.seq_pair.specs.declared.event.EnvEvent.TheVariants.{Enter, Run, Value, Take, Hide, Gain, See, Pass}
use Rattle.seq_text.specs.Event.{env_event_line, env_event_words, FitsEnvEvent}

-- bytes

words_visible : (p : Program) (e : EnvEvent) → HasPlainNames p → FitsEnvEvent p e → list_all are_visible (env_event_words p e) ≡ true
words_visible p Enter h f = refl
words_visible p (Run n) h f = let small = f.1 in rw (decimal_visible n (omega (arith, small)))
words_visible p (Value target source) h f = rw (value_visible target f.0, value_visible source f.1)
words_visible p (Take x) h f = rw (name_visible p.na x h.na)
words_visible p (Hide x) h f = rw (name_visible p.na x h.na)
words_visible p (Gain x target source) h f = rw (name_visible p.na x h.na, value_visible target f.1, value_visible source f.2)
words_visible p (See x v) h f = rw (name_visible p.na x h.na, value_visible v f.1)
words_visible p Pass h f = refl

pub clean_line : (p : Program) (e : EnvEvent) → HasPlainNames p → FitsEnvEvent p e → has_no_newline (env_event_line p e) ≡ true
clean_line p e h f = plain_clean (env_event_line p e) (words_plain (env_event_words p e) (words_visible p e h f))

-- a line isn't empty
pub some_bytes : (p : Program) (e : EnvEvent) → 1 ≤ length (env_event_line p e)
some_bytes p Enter = omega arith
some_bytes p (Run n) = omega arith
some_bytes p (Value target source) = omega arith
some_bytes p (Take x) = omega arith
some_bytes p (Hide x) = omega arith
some_bytes p (Gain x target source) = omega arith
some_bytes p (See x v) = omega arith
some_bytes p Pass = omega arith

-- words

few_words : (p : Program) (e : EnvEvent) → (1 ≤ length (env_event_words p e)) × (length (env_event_words p e) ≤ 4)
few_words p Enter = (omega arith, omega arith)
few_words p (Run n) = (omega arith, omega arith)
few_words p (Value target source) = (omega arith, omega arith)
few_words p (Take x) = (omega arith, omega arith)
few_words p (Hide x) = (omega arith, omega arith)
few_words p (Gain x target source) = (omega arith, omega arith)
few_words p (See x v) = (omega arith, omega arith)
few_words p Pass = (omega arith, omega arith)

-- the pieces of a written line are its words
cut_words : (p : Program) (line : Text) (e : EnvEvent) → HasPlainNames p → FitsEnvEvent p e → line ≡ env_event_line p e → slice_split (λ b. b == 32) line ≡ env_event_words p e
cut_words p line e h f is = ap (slice_split (λ b. b == 32)) is ∙ splits (env_event_words p e) (few_words p e).0 (words_visible p e h f)

line_is : (p : Program) (line : Text) (pieces : List Text) (e : EnvEvent) → pieces ≡ slice_split (λ b. b == 32) line → pieces ≡ env_event_words p e → line ≡ env_event_line p e
line_is p line pieces e cut words = sym (join_with_byte-slice_split 32 line) ∙ ap (join_with_byte 32) (sym cut ∙ words)

-- a line, by the first five words that it is cut into
pub line_decodes : (p : Program) (line : Text) (pieces : List Text) (o : Option EnvEvent) → HasPlainNames p → pieces ≡ take 5 (slice_split (λ b. b == 32) line)
    → Decodes (env_event_words p) (FitsEnvEvent p) pieces o → Decodes (env_event_line p) (FitsEnvEvent p) line o
line_decodes p line pieces None names cut h = λ e f is.
    let few = (few_words p e).1 in
    h e f (cut ∙ ap (take 5) (cut_words p line e names f is) ∙ first_all 5 (env_event_words p e) (omega arith))
line_decodes p line pieces (Some e) names cut h =
    let all = slice_split (λ b. b == 32) line in
    let few = (few_words p e).1 in
    let count : length (take 5 all) ≡ length (env_event_words p e) = ap length (sym cut ∙ h.1) in
    (h.0, line_is p line pieces e (cut ∙ all_first 5 all (omega arith)) h.1)

-- a line that is no text of characters is no event
pub no_text : (p : Program) (line : Text) → HasPlainNames p → (IsUtf8 line → ⊥) → (e : EnvEvent) → FitsEnvEvent p e → line ≡ env_event_line p e → ⊥
no_text p line names none e f is =
    none (subst IsUtf8 (sym is) (IsUtf8-from_ascii (env_event_line p e) (plain_ascii (env_event_line p e) (words_plain (env_event_words p e) (words_visible p e names f)))))

-- no event has 0 steps
pub no_steps : (p : Program) (word : Text) (n : ℕ) → n ≡ 0 → word ≡ decimal n → (e : EnvEvent) → FitsEnvEvent p e → codes "run" ∷ (word ∷ []) ≡ env_event_words p e → ⊥
no_steps p word n none is (Run m) fits same =
    let some = fits.0 in
    let few = fits.1 in
    let words : word ≡ decimal m = cc in
    let counts : m ≡ n = decimal_injective m n (omega (arith, few)) (omega (arith, none)) (sym words ∙ is) in
    omega arith
no_steps p word n none is e fits same = apart (codes "run") (get_or (env_event_words p e) 0 []) refl (ap (λ ws. get_or ws 0 []) same)

-- one event

module _ (p : Program) (own : HasOwnNames p) where
  same_words : (e f : EnvEvent) → FitsEnvEvent p e → FitsEnvEvent p f → env_event_words p e ≡ env_event_words p f → e ≡ f
  same_words Enter Enter h k same = refl
  same_words (Run m) (Run n) h k same =
      let few = h.1 in
      let few' = k.1 in
      let counts : m ≡ n = decimal_injective m n (omega (arith, few)) (omega (arith, few')) cc in
      ap (λ i. Run i) counts
  same_words (Value t s) (Value t' s') h k same =
      let targets : t ≡ t' = same_value t t' h.0 k.0 cc in
      let sources : s ≡ s' = same_value s s' h.1 k.1 cc in
      cc
  same_words (Take x) (Take y) h k same = let places : x ≡ y = same_place p.na x y own.na h k cc in ap (λ i. Take i) places
  same_words (Hide x) (Hide y) h k same = let places : x ≡ y = same_place p.na x y own.na h k cc in ap (λ i. Hide i) places
  same_words (Gain x t s) (Gain y t' s') h k same =
      let places : x ≡ y = same_place p.na x y own.na h.0 k.0 cc in
      let targets : t ≡ t' = same_value t t' h.1 k.1 cc in
      let sources : s ≡ s' = same_value s s' h.2 k.2 cc in
      cc
  same_words (See x v) (See y w) h k same =
      let places : x ≡ y = same_place p.na x y own.na h.0 k.0 cc in
      let values : v ≡ w = same_value v w h.1 k.1 cc in
      cc
  same_words Pass Pass h k same = refl
  same_words e f h k same = absurd (apart (get_or (env_event_words p e) 0 []) (get_or (env_event_words p f) 0 []) refl (ap (λ ws. get_or ws 0 []) same))

  pub same_line_event : HasPlainNames p → (e f : EnvEvent) → FitsEnvEvent p e → FitsEnvEvent p f → env_event_line p e ≡ env_event_line p f → e ≡ f
  same_line_event names e f h k same = same_words e f h k (sym (cut_words p (env_event_line p e) e names h refl) ∙ cut_words p (env_event_line p e) f names k same)
