use Rattle.std.proofs.Common.{◌≤◌, sym, subst}
use Rattle.il_syntax.specs.declared.program.Function.{Function}
use Rattle.il_syntax.specs.Statements.{site_count}
use Rattle.flow_facts.specs.declared.level.Kind.TheVariants.{Stores, Loads}
use Rattle.load_hoist.proofs.Callers.{introduced_count}
use Rattle.pass_chain.proofs.Gathered.{forwarded_few}
use Rattle.pass_chain.proofs.chains.chain.Goals as goal

pub forward_stores-requires : goal.forward_stores-requires
forward_stores-requires g c = subst (λ (f : Function). site_count f.body.statements ≤ 4096) (sym c.in_ok-source.ensures) c.requires.statements

pub introduce_loads-requires : goal.introduce_loads-requires
introduce_loads-requires g c =
    let few = subst (λ (f : Function). site_count f.body.statements ≤ 4096) (sym c.in_ok-source.ensures) c.requires.statements in
    record { statements = forwarded_few Stores c.in_ok-source.source c.in_ok-stored.stored few c.in_ok-stored.ensures; names = c.requires.names }

pub forward_loads-requires : goal.forward_loads-requires
forward_loads-requires g c =
    let few = subst (λ (f : Function). site_count f.body.statements ≤ 4096) (sym c.in_ok-source.ensures) c.requires.statements in
    introduced_count c.args.na c.args.names.now c.in_ok-stored.stored c.in_ok-introduced.introduced (forwarded_few Stores c.in_ok-source.source c.in_ok-stored.stored few c.in_ok-stored.ensures) c.in_ok-introduced.ensures

pub drop_dead_stores-requires : goal.drop_dead_stores-requires
drop_dead_stores-requires g c =
    let few = subst (λ (f : Function). site_count f.body.statements ≤ 4096) (sym c.in_ok-source.ensures) c.requires.statements in
    let introduced = introduced_count c.args.na c.args.names.now c.in_ok-stored.stored c.in_ok-introduced.introduced (forwarded_few Stores c.in_ok-source.source c.in_ok-stored.stored few c.in_ok-stored.ensures) c.in_ok-introduced.ensures in
    forwarded_few Loads c.in_ok-introduced.introduced c.in_ok-loaded.loaded introduced c.in_ok-loaded.ensures
