use Rattle.std.proofs.Common.{◌≡◌, ◌++◌, ℕ, List, length, sym, ap, ◌∙◌, subst, arith}
use Rattle.il_paths.specs.Tree.{Tree, tree_of, sites_of}
use Rattle.il_paths.proofs.Callers.{sites_agree}
use Rattle.flow_facts.specs.declared.known.Known.{Known}
use Rattle.validator.specs.declared.walk.Part.{Part}
use Rattle.validator.specs.declared.told.Need.{Need}
use Rattle.validator.specs.Walk.{role_at}
use Rattle.validator.specs.Pending.{ArePending}
use Rattle.validator.specs.Faults.{FaultAt, IsJudgedBy}
use Rattle.validator.specs.Told.{needs_of, IsTold}
use Rattle.validator.proofs.NeedLaws.{length-needs_of}
use Rattle.validator.proofs.FaultLaws.{told_judged}
use Rattle.validator.proofs.JudgeLaws.{merged_sites}
use Rattle.validator.proofs.judge.judge_walked.Goals as goal

pub before-requires : goal.before-requires
before-requires t c =
    let e = merged_sites c.in_ok-merged.merged c.args.g.now c.args.parts.now.list.items c.in_ok-merged.ensures in
    let k = sites_agree c.in_ok-merged.merged.body in omega (arith, e, k, c.requires.small)

pub pending_of-requires : goal.pending_of-requires
pending_of-requires t c =
    let e = merged_sites c.in_ok-merged.merged c.args.g.now c.args.parts.now.list.items c.in_ok-merged.ensures in
    omega (arith, e, c.requires.small)

pub overflow_cast-count : goal.overflow_cast-count
overflow_cast-count t c =
    let m = tree_of c.in_ok-merged.merged.body in
    let e = merged_sites c.in_ok-merged.merged c.args.g.now c.args.parts.now.list.items c.in_ok-merged.ensures in
    let needed = ap length (c.in_ok-list_needs.ensures ∙ ap (λ (l : List Need). l ++ needs_of m) c.new-needs.ensures.items) ∙ length-needs_of m in
    omega (arith, e, needed, c.len-count.ensures, c.requires.small)

pub returns : goal.returns
returns t c =
    let m = tree_of c.in_ok-merged.merged.body in
    let parts = c.args.parts.now.list.items in
    let table : List (List Known) = c.in_ok-table.table in
    let pending = c.in_ok-pending.pending in
    let judged = c.first_fault.result in
    let e = merged_sites c.in_ok-merged.merged c.args.g.now parts c.in_ok-merged.ensures in
    let needed = c.in_ok-list_needs.ensures ∙ ap (λ (l : List Need). l ++ needs_of m) c.new-needs.ensures.items in
    let count : c.len-count.result ≡ sites_of m = let n = ap length needed ∙ length-needs_of m in omega (arith, c.len-count.ensures, n) in
    let told = subst (λ (n : ℕ). IsTold table parts (needs_of m) pending n judged) count
    (subst (λ (l : List Need). IsTold table parts l pending c.len-count.result judged) (c.as_slice-3.ensures.value ∙ needed)
    (subst (λ (l : List Part). IsTold table l c.as_slice-3.result.now pending c.len-count.result judged) c.as_slice-2.ensures.value c.first_fault.ensures)) in
    let are_pending = subst (λ (l : List Part). ArePending m (role_at l) pending) c.as_slice.ensures.value c.in_ok-pending.ensures in
    subst (λ (tree : Tree). IsJudgedBy (FaultAt tree parts) judged) c.in_ok-merged.ensures (told_judged m parts table pending (λ site x a role h. c.in_ok-table.ensures site x a h) are_pending (c.requires.whole ∙ sym e) judged told)
