use Rattle.std.proofs.Common.{◌≡◌, ℕ, Bool, true, false, ◌||◌, List, refl, ap, ◌∙◌, subst}
use Rattle.il_syntax.specs.declared.statement.Atom.TheVariants.{Reg}
use Rattle.il_paths.specs.Tree.{tree_of}
use Rattle.path_meets.specs.Chain.{may_rank}
use Rattle.location_sets.specs.Sets.{has}
use Rattle.backward_sets.specs.Meets.{AreMeetsAfter}
use Rattle.il_paths.specs.Atoms.{atoms_equal}
use Rattle.tidy.specs.Live.{live_change}
use Rattle.tidy.proofs.LiveLaws.{meets_live}
use Rattle.tidy.proofs.live.live_after.Goals as goal

alone : (b c : Bool) → c ≡ false → ((b || false) || c) ≡ b
alone true c e = refl
alone false c e = e

pub returns : goal.returns
returns c =
    meets_live c.args.f.now c.put_atoms.new.set c.in_ok-sets_after.field-0
    (λ r. c.in_ok-put_atoms.ensures r ∙ alone (atoms_equal c.args.f.now.result (Reg r)) _ (ap (has r) c.new-end.ensures))
    (subst (λ (end : List ℕ). AreMeetsAfter may_rank live_change (tree_of c.args.f.now.body) end c.in_ok-sets_after.field-0) c.as_slice.ensures c.in_ok-sets_after.ensures)
