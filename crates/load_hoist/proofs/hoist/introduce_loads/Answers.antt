use Rattle.std.proofs.Common.{◌≡◌, [], refl, sym, ap, ◌∙◌}
use Rattle.il_paths.specs.Tree.{tree_of}
use Rattle.il_paths.proofs.Callers.{sites_agree}
use Rattle.load_hoist.specs.declared.growth.Growth.{Growth}
use Rattle.load_hoist.specs.Introduced.{introduced, growth_of}
use Rattle.load_hoist.proofs.hoist.introduce_loads.Goals as goal

pub returns : goal.returns
returns c =
    let f = c.args.f.now in
    let registers = c.in_ok-registers.ensures ∙ c.as_slice.ensures in
    let statements = c.sites-statements.ensures ∙ sym (sites_agree f.body) in
    let start : (let g : Growth = record { registers = c.in_ok-registers.registers; statements = c.sites-statements.result } in g) ≡ growth_of f = λ i. record { registers = registers i; statements = statements i } in
    let taken = c.as_slice-taken.ensures in
    record {
      name = c.in_ok-name.ensures;
      params = refl;
      result = refl;
      body = c.in_ok-body.ensures.block ∙ (λ i. (introduced c.args.na (taken i) (tree_of f.body) [] (start i)).0);
      registers = ap (λ (g : Growth). g.registers) c.in_ok-body.ensures.growth ∙ (λ i. (introduced c.args.na (taken i) (tree_of f.body) [] (start i)).1.registers);
    }
