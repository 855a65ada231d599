-- A chain can be lifted along, and what is lifted is a run of the program that was given.
use Rattle.std.proofs.Common.{◌≡◌, ◌⊎◌, ℕ, ◌+◌, ◌<◌, ◌≤◌, ◌^◌, ◌==◌, if◌then◌else◌, Bool, true, false, List, [], ◌∷◌, length, map, inl, inr, refl, ap, subst, ◌∙◌, arith}
use Rattle.std.proofs.lemmas.Bool.{eqb-true, cases_lt}
use Rattle.std.specs.List.{AllZip, AllByRecursion}
use Rattle.values_undef.specs.Journal.{used_steps, entry_steps}
use Rattle.values_undef.specs.declared.journal.Entry.{Entry}
use Rattle.values_undef.specs.declared.journal.Ending.{Ending}
use Rattle.il_syntax.specs.declared.program.Function.{Function}
use Rattle.il_syntax.specs.declared.program.Program.{Program}
use Rattle.il_syntax.specs.WellFormed.{with_functions, IsWellFormed}
use Rattle.view_machine.proofs.Callers.{entries_of_threads}
use Rattle.pass_chain.specs.declared.chains.FunctionChain.{FunctionChain}
use Rattle.pass_chain.specs.declared.chains.ProgramChain.{ProgramChain}
use Rattle.pass_chain.specs.Chain.{IsOpt, IsOptAll}
use Rattle.pass_chain.specs.Laws.{AreWellFormed}
use Rattle.parallel_driver.specs.Neighbours.{IsAcceptedNeighbour, AreNeighbours}
use Rattle.simulation.specs.Conditions.{IsAcceptedTarget, IsLifted}
use Rattle.simulation.specs.Chain.{AreAcceptedTargets}
use Rattle.reports.specs.Targets.{IsChainOf, target_program}
use Rattle.reports.specs.Runs.{IsReported}
use Rattle.reports.specs.Laws.{CompleteRunsAreFew}

-- ---- the five programs

accepted_target : (source target : Program) → IsWellFormed source → IsWellFormed target → IsAcceptedNeighbour source target → IsAcceptedTarget source target
accepted_target source target v w n = record { source_well_formed = v; target_well_formed = w; shape = n.shape; functions = n.functions }

are_accepted : (c : ProgramChain) → AreWellFormed c → AreNeighbours c → AreAcceptedTargets c
are_accepted c w n = record {
  stored = accepted_target c.source c.stored w.source w.stored n.stored;
  introduced = accepted_target c.stored c.introduced w.stored w.introduced n.introduced;
  loaded = accepted_target c.introduced c.loaded w.introduced w.loaded n.loaded;
  undead = accepted_target c.loaded c.undead w.loaded w.undead n.undead;
}

sources : (na : ℕ) (names : List (List ℕ)) (fs : List Function) (cs : List FunctionChain) → AllZip (IsOpt na names) fs cs → map (λ (k : FunctionChain). k.source) cs ≡ fs
sources na names [] [] z = refl
sources na names [] (c ∷ cs) z = absurd z
sources na names (f ∷ fs) [] z = absurd z
sources na names (f ∷ fs) (c ∷ cs) z = λ i. z.0.source i ∷ sources na names fs cs z.1 i

-- the first program of a chain is the one that was given
first_is_given : (p : Program) (c : ProgramChain) → IsOptAll p c → c.source ≡ p
first_is_given p c o = o.source ∙ ap (with_functions p) (sources _ _ p.functions o.chains o.each)

pub is_chain : (p : Program) (c : ProgramChain) → IsOptAll p c → AreWellFormed c → AreNeighbours c → IsChainOf p c
is_chain p c o w n = record {
  made = o;
  first = first_is_given p c o;
  well_formed = w.undead;
  threads = ap (λ (q : Program). q.threads) o.undead;
  accepted = are_accepted c w n;
}

-- what was reported of a lift to the first program of a chain is so of one to the program that was given
pub reported_of_given : (p : Program) (c : ProgramChain) (target : Program) (journal : List Entry) (out : List ℕ) (e : Ending) → IsChainOf p c → IsReported c.source target journal out e → IsReported p target journal out e
reported_of_given p c target journal out e is r = subst (λ (q : Program). IsReported q target journal out e) is.first r

-- ---- the steps of a run that is complete for a budget

unused : (n : ℕ) (entries : List Entry) (i : ℕ) → n ≤ i → AllByRecursion (λ e. e.thread < n) entries → used_steps entries i ≡ 0
unused n [] i out all = refl
unused n (e ∷ es) i out all = of_entry (e.thread == i) refl (unused n es i out all.1)
  where
    of_entry : (own : Bool) → (e.thread == i) ≡ own → used_steps es i ≡ 0 → (if own then entry_steps e else 0) + used_steps es i ≡ 0
    of_entry true is rest = absurd (omega (arith, eqb-true e.thread i is, all.0, out))
    of_entry false is rest = omega (arith, rest)

pub complete_runs_are_few : CompleteRunsAreFew
complete_runs_are_few p entries steps less run complete i = go (cases_lt i (length p.threads))
  where
    go : (i < length p.threads) ⊎ (length p.threads ≤ i) → used_steps entries i < 2 ^ 40
    go (inl there) = omega (arith, complete.within i there, less)
    go (inr out) = omega (arith, unused (length p.threads) entries i out (entries_of_threads p entries run))
