use Rattle.std.proofs.Common.{ℕ, List, refl, ap, ◌∙◌}
use Rattle.il_paths.specs.Tree.{tree_of}
use Rattle.tidy.specs.declared.known.KnownPair.{KnownPair}
use Rattle.tidy.specs.Propagated.{propagated_atom, propagated_tree}
use Rattle.tidy.specs.Least.{least_in, least_at}
use Rattle.tidy.proofs.LeastLaws.{least_known, least_at_end}
use Rattle.tidy.proofs.propagate.propagated.Goals as goal

pub returns : goal.returns
returns c =
    let f = c.args.f.now in
    let rows = c.in_ok-known.known.rows in
    let end = c.in_ok-known.known.end in
    record {
      least = least_at rows;
      at_end = least_in end;
      is_least = λ (site r : ℕ) l. least_known f rows c.in_ok-known.ensures.rows site r l;
      is_least_at_end = λ (r : ℕ). least_at_end f end c.in_ok-known.ensures.end r;
      name = c.in_ok-copy_name.ensures;
      params = refl;
      registers = c.in_ok-copy_names.ensures ∙ c.as_slice-2.ensures;
      body = c.in_ok-body.ensures.block ∙ ap (λ (rows : List (List KnownPair)). propagated_tree (least_at rows) 0 (tree_of f.body)) c.as_slice.ensures;
      result = c.replace.ensures ∙ ap (λ (row : List KnownPair). propagated_atom (least_in row) f.result) c.as_slice-3.ensures;
    }
