-- A text's length leaves few names that it may be.
use Rattle.std.proofs.Common.{◌≡◌, ℕ, Bool, true, false, cond, ◌||◌, eqb, List, [], ◌∷◌, length, refl, sym, ap, ◌∙◌, ⊎_elim}
use Rattle.std.proofs.lemmas.Bool.{cond-true, cond-false, cases_eq, eq-eqb, ne_eqb, false_from_ne_true}
use Rattle.std.proofs.lemmas.Slice.Eq.{bytes_eq-Decides}
use Rattle.std.specs.Str.{bytes_eq}
use Rattle.il_syntax.specs.Name.{is_among}

-- the names of this length, in their order
abbrev pub of_length : ℕ → List (List ℕ) → List (List ℕ)
of_length n [] = []
of_length n (name ∷ names) = cond (eqb (length name) n) (name ∷ of_length n names) (of_length n names)

of_other_length : (text name : List ℕ) → (length name ≡ length text → ⊥) → bytes_eq text name ≡ false
of_other_length text name other = false_from_ne_true (bytes_eq text name) (λ (e : bytes_eq text name ≡ true). other (sym (ap length ((bytes_eq-Decides text name).0 e))))

pub among_of_length : (names : List (List ℕ)) (text : List ℕ) → is_among names text ≡ is_among (of_length (length text) names) text
among_of_length [] text = refl
among_of_length (name ∷ names) text =
    ⊎_elim
    (λ (e : length name ≡ length text).
    ap (λ (b : Bool). bytes_eq text name || b) (among_of_length names text)
    ∙ sym (ap (λ (rest : List (List ℕ)). is_among rest text) (cond-true (eqb (length name) (length text)) (name ∷ of_length (length text) names) (of_length (length text) names) (eq-eqb (length name) (length text) e))))
    (λ (e : length name ≡ length text → ⊥).
    ap (λ (b : Bool). b || is_among names text) (of_other_length text name e) ∙ among_of_length names text
    ∙ sym (ap (λ (rest : List (List ℕ)). is_among rest text) (cond-false (eqb (length name) (length text)) (name ∷ of_length (length text) names) (of_length (length text) names) (ne_eqb (length name) (length text) e))))
    (cases_eq (length name) (length text))
