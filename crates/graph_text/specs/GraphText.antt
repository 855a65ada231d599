-- The text of a graph.
use Rattle.std.specs.Prelude.{ℕ, Bool, nat_le, List, [], ◌∷◌, ◌++◌, drop, Option, Some, None, codes}
use Rattle.std.specs.Fmt.{decimal}
use Rattle.std.specs.List.{before_first, flat_map, join_with_byte, position_or_len}
use Rattle.text_parts.specs.Lines.{Text, whole_line}
use Rattle.exec_graph.specs.declared.links.Link.{Link}

-- the other end of a link: an entry, or none where what was read is the initial message
abbrev pub other_word : Option ℕ → Text
other_word (Some w) = decimal w
other_word None = codes "init"

-- the line of a link, by the word for what it tells, without its newline
abbrev pub link_line : Text → Link → Text
link_line word link = join_with_byte 32 (word ∷ (decimal link.entry ∷ (other_word link.other ∷ [])))

-- a reading entry, and where it reads from
abbrev pub read_line : Link → Text
read_line link = whole_line (link_line (codes "rf") link)

-- an entry with a race, and the other access
abbrev pub race_line : Link → Text
race_line link = whole_line (link_line (codes "race") link)

abbrev pub race_lines : List Link → Text
race_lines links = flat_map race_line links

-- the link is of entry k or of a later one
abbrev pub is_from : ℕ → Link → Bool
is_from k link = nat_le k link.entry

-- both lists by rising entry: before the line of a read come those of the races of earlier entries
abbrev pub link_lines : List Link → List Link → Text
link_lines [] races = race_lines races
link_lines (r ∷ reads) races =
    race_lines (before_first (is_from r.entry) races) ++ (read_line r ++ link_lines reads (drop (position_or_len (is_from r.entry) races) races))

-- how many entries there are
abbrev pub count_line : ℕ → Text
count_line entries = whole_line (join_with_byte 32 (codes "entries" ∷ (decimal entries ∷ [])))

unfoldable pub graph_text : List Link → List Link → ℕ → Text
graph_text reads races entries = link_lines reads races ++ count_line entries
