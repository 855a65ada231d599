use Rattle.std.proofs.Common.{◌≡◌, ℕ, pos, leb, ltb, Bool, true, false, ◌&&◌, List, [], ◌++◌, length, refl, ap, ◌∙◌}
use Rattle.il_syntax.specs.declared.statement.Atom.{Atom}
use Rattle.il_syntax.specs.declared.statement.Atom.TheVariants.{Const, Reg}
use Rattle.il_syntax.specs.declared.program.Function.{Function}
use Rattle.il_paths.specs.Tree.{tree_of}
use Rattle.il_paths.specs.Atoms.{atoms_equal}
use Rattle.backward_sets.specs.Turns.{none_yet}
use Rattle.tidy.specs.Known.{known_at_entry}
use Rattle.tidy.specs.Rows.{known_column, exit_known, table_known}
use Rattle.tidy.proofs.KnownLaws.{rows_known, end_known}
use Rattle.tidy.proofs.known.known_rows.Goals as goal

nothing : (b c : Bool) → (b && (c && false)) ≡ false
nothing true true = refl
nothing true false = refl
nothing false c = refl

entry_at : (f : Function) (r : ℕ) (a : Atom) → (leb f.params r && (ltb r (length f.registers) && atoms_equal a (Const (pos 0)))) ≡ known_at_entry f r a
entry_at f r (Const n) = refl
entry_at f r (Reg s) = nothing (leb f.params r) (ltb r (length f.registers))

pub returns-clause-rows : goal.returns-clause-rows
returns-clause-rows c =
    let f = c.args.f.now in
    rows_known f c.from_vec.result (λ r a.
    let entry = c.in_ok-entry.ensures r a ∙ ap (λ (names : List (List ℕ)). leb f.params r && (ltb r (length names) && atoms_equal a (Const (pos 0)))) c.as_slice.ensures ∙ entry_at f r a in
    let filled = c.in_ok-end.ensures r a [] (none_yet (ap (known_column r a) c.new-turns.ensures.items) refl) in
    ap (known_column r a) c.from_vec.ensures ∙ filled.1 ∙ (λ i. known_column r a (c.new-rows.ensures.items i) ++ table_known r a (tree_of f.body) (entry i)))

pub returns-clause-end : goal.returns-clause-end
returns-clause-end c =
    let f = c.args.f.now in
    end_known f c.in_ok-end.end (λ r a.
    let entry = c.in_ok-entry.ensures r a ∙ ap (λ (names : List (List ℕ)). leb f.params r && (ltb r (length names) && atoms_equal a (Const (pos 0)))) c.as_slice.ensures ∙ entry_at f r a in
    let filled = c.in_ok-end.ensures r a [] (none_yet (ap (known_column r a) c.new-turns.ensures.items) refl) in
    filled.0 ∙ ap (exit_known r a (tree_of f.body)) entry)
