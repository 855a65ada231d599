-- Each text divides at a word, or lacks its line.
use Rattle.std.proofs.Common.{◌≡◌, ◌∙◌, ◌<◌, ◌⊎◌, inl, inr, ℕ, zero, suc, sym, ap, refl, subst, Bool, true, false, [], ◌++◌, length, arith}
use Rattle.std.specs.Str.{bytes_eq}
use Rattle.std.proofs.lemmas.List.{length-append}
use Rattle.std.proofs.lemmas.Slice.Eq.{bytes_eq-Decides}
use Rattle.text_parts.specs.Lines.{Text, has_no_newline, whole_line}
use Rattle.text_parts.specs.Division.{LacksLine, LacksWholeLine, DividesAtLine, DividesAtWholeLine, at_line, at_end, IsPast}
use Rattle.text_parts.specs.Laws.{DivideOrLack}
use Rattle.text_parts.proofs.NextLines.{BeginsWithLine, line_or_piece}
use Rattle.text_parts.proofs.OtherLines.{lacks_whole, no_lines, past_one}

shorter : (text : Text) (b : BeginsWithLine text) → length b.rest < length text
shorter text b =
    let all = ap length b.is in
    omega (arith, all, length-append (whole_line b.line) b.rest, length-append b.line (whole_line []))

module _ (word : Text) where
  abbrev Division : Text → Type 0
  Division text = ((before : Text) × (after : Text) × DividesAtWholeLine word text before after) ⊎ LacksWholeLine word text

  division_from : (n : ℕ) (text rest : Text) → IsPast word text rest → length rest < n → Division text
  division_from zero text rest h short = absurd (omega arith)
  division_from (suc n) text rest h short = go (line_or_piece rest) (λ left more less. division_from n text left more less)
    where
      here : (b : BeginsWithLine rest) → (t : Bool) → bytes_eq b.line word ≡ t → ((left : Text) → IsPast word text left → length left < n → Division text) → Division text
      here b true e again =
          let same : b.line ≡ word = (bytes_eq-Decides b.line word).0 e in
          inl (
            h.front,
            b.rest,
            record {
              is = h.is ∙ ap (λ t. h.front ++ t) (b.is ∙ ap (λ l. whole_line l ++ b.rest) same);
              plain = subst (λ l. has_no_newline l ≡ true) same b.clean;
              first = h.others;
            },
          )
      here b false e again =
          let less = shorter rest b in
          again b.rest
          (past_one word text rest b.line b.rest h b.clean b.is (λ same. let bad : true ≡ false = sym ((bytes_eq-Decides b.line word).1 same) ∙ e in absurd cc))
          (omega arith)

      go : BeginsWithLine rest ⊎ (has_no_newline rest ≡ true) → ((left : Text) → IsPast word text left → length left < n → Division text) → Division text
      go (inl b) again = here b (bytes_eq b.line word) refl again
      go (inr clean) again = inr (lacks_whole word text rest h clean)

  with_piece : (text : Text) (k : LacksWholeLine word text) (t : Bool) → bytes_eq k.piece word ≡ t → ((before : Text) × (after : Text) × DividesAtLine word text before after) ⊎ LacksLine word text
  with_piece text k true e =
      let same : k.piece ≡ word = (bytes_eq-Decides k.piece word).0 e in
      inl (k.front, [], at_end k.others (subst (λ l. has_no_newline l ≡ true) same k.unfinished) (k.is ∙ ap (λ t. k.front ++ t) same) refl)
  with_piece text k false e = inr (record { lacks = k; differs = λ same. let bad : true ≡ false = sym ((bytes_eq-Decides k.piece word).1 same) ∙ e in absurd cc })

  with_whole : (text : Text) → Division text → ((before : Text) × (after : Text) × DividesAtLine word text before after) ⊎ LacksLine word text
  with_whole text (inl x) = inl (x.0, x.1, at_line x.2)
  with_whole text (inr k) = with_piece text k (bytes_eq k.piece word) refl

pub each_whole_division : DivideOrLack DividesAtWholeLine LacksWholeLine
each_whole_division word text = division_from word (suc (length text)) text text (record { front = []; is = refl; others = no_lines word }) (omega arith)

pub each_division : DivideOrLack DividesAtLine LacksLine
each_division word text = with_whole word text (each_whole_division word text)
