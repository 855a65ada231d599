-- The output of a session: a line for each thing that target and source are both seen to do, and how the two end.
use Rattle.std.specs.Prelude.{List, [], ◌∷◌, ◌++◌, codes}
use Rattle.std.specs.Fmt.{signed_decimal}
use Rattle.std.specs.List.{flat_map, join_with_byte}
use Rattle.values_undef.specs.declared.value.Val.{Val}
use Rattle.il_syntax.specs.Text.{function_name, location_name, order_text}
use Rattle.il_syntax.specs.declared.program.Program.{Program}
use Rattle.text_parts.specs.Lines.{Text, whole_line}
use Rattle.journal_text.specs.Line.{value_word}
use Rattle.seq_semantics.specs.declared.seen.Seen.{Seen}
use Rattle.seq_semantics.specs.declared.seen.Seen.TheVariants.{Read, Write, Update, Miss, Fence, Print, Call, End}
use Rattle.seq_pair.specs.declared.trace.PairLabel.{PairLabel}
use Rattle.seq_pair.specs.declared.trace.PairEnd.{PairEnd}
use Rattle.seq_pair.specs.declared.trace.PairEnd.TheVariants.{Same, SourceFailed, Cut}

-- the words of arguments, each of the target's before the source's
abbrev pub paired_words : List Val → List Val → List Text
paired_words [] ss = []
paired_words (t ∷ ts) [] = []
paired_words (t ∷ ts) (s ∷ ss) = value_word t ∷ (value_word s ∷ paired_words ts ss)

-- The words of what target and source are both seen to do, the target's values before the source's. It is a total
-- function: of two that don't match there are no words.
abbrev pub label_words : Program → Seen → Seen → List Text
label_words p (Read y order v) (Read _ _ w) = codes "read" ∷ (location_name p.atomic y ∷ (order_text order ∷ (value_word v ∷ (value_word w ∷ []))))
label_words p (Write y order v) (Write _ _ w) = codes "write" ∷ (location_name p.atomic y ∷ (order_text order ∷ (value_word v ∷ (value_word w ∷ []))))
label_words p (Update y order old new) (Update _ _ old' new') =
    codes "update" ∷ (location_name p.atomic y ∷ (order_text order ∷ (value_word old ∷ (value_word old' ∷ (value_word new ∷ (value_word new' ∷ []))))))
label_words p (Miss y order old) (Miss _ _ old') = codes "miss" ∷ (location_name p.atomic y ∷ (order_text order ∷ (value_word old ∷ (value_word old' ∷ []))))
label_words p (Fence order) (Fence _) = codes "fence" ∷ (order_text order ∷ [])
label_words p (Print v) (Print _) = codes "print" ∷ (signed_decimal v ∷ [])
label_words p (Call function args) (Call _ args') = codes "call" ∷ (function_name p.functions function ∷ paired_words args args')
label_words p (End v) (End w) = codes "end" ∷ (value_word v ∷ (value_word w ∷ []))
label_words p target source = []

-- the line without its newline
abbrev pub label_line : Program → PairLabel → Text
label_line p label = join_with_byte 32 (label_words p label.target label.source)

-- a line for each label
abbrev pub label_lines : Program → List PairLabel → Text
label_lines p labels = flat_map (λ label. whole_line (label_line p label)) labels

-- both have ended, the source failed, or the events ran out before
abbrev pub pair_end_line : PairEnd → Text
pair_end_line Same = codes "same"
pair_end_line SourceFailed = codes "source failed"
pair_end_line Cut = codes "cut"

-- what was seen, and how it ended
unfoldable pub trace_text : Program → List PairLabel → PairEnd → Text
trace_text p labels end = label_lines p labels ++ whole_line (pair_end_line end)
