-- An input divides in one way, or has no separator.
use Rattle.std.proofs.Common.{◌≡◌, ◌∙◌, sym, subst, refl, ◌++◌, codes}
use Rattle.text_parts.specs.Lines.{Text}
use Rattle.text_parts.specs.Division.{DividesAtWholeLine, LacksWholeLine}
use Rattle.text_parts.proofs.Callers.{never_lacks_whole, one_whole_division, same_first}
use Rattle.replay_text.specs.Division.{title, journal_word, Divides}

one_text : (input a b : Text) → input ≡ title ++ a → input ≡ title ++ b → a ≡ b
one_text input a b h k = (same_first (codes "program") (codes "program") a b refl refl (sym h ∙ k)).1

-- what comes after the title divides as the input does
divides_text : (input program journal text : Text) → Divides input program journal → input ≡ title ++ text → DividesAtWholeLine journal_word text program journal
divides_text input program journal text h is = subst (λ t. DividesAtWholeLine journal_word t program journal) (one_text input h.text text h.titled is) h.divided

pub one_way : (input program journal program' journal' : Text) → Divides input program journal → Divides input program' journal' → (program ≡ program') × (journal ≡ journal')
one_way input program journal program' journal' h k =
    one_whole_division journal_word k.text program journal program' journal' (divides_text input program journal k.text h k.titled) k.divided

pub not_undivided : (input program journal text : Text) → Divides input program journal → input ≡ title ++ text → LacksWholeLine journal_word text → ⊥
not_undivided input program journal text h is k = never_lacks_whole journal_word text program journal (divides_text input program journal text h is) k
