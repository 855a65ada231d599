-- The judgement of a target from its walk.
use Rattle.std.proofs.Common.{◌≡◌, ◌≤◌, Bool, true, false, List, [], length, refl, sym, ap, ◌∙◌, subst, inr, arith}
use Rattle.std.specs.Prelude.{IfOk}
use Rattle.std.specs.declared.result.Result.{Result}
use Rattle.std.specs.declared.result.Result.TheVariants.{Ok, Err}
use Rattle.il_syntax.specs.declared.program.Function.{Function}
use Rattle.il_syntax.specs.Statements.{site_count}
use Rattle.il_paths.specs.Tree.{tree_of, sites_of}
use Rattle.il_paths.proofs.Callers.{sites_agree}
use Rattle.validator.specs.declared.walk.Part.{Part}
use Rattle.validator.specs.declared.fault.Fault.TheVariants.{V1}
use Rattle.validator.specs.declared.fault.Judged.{Judged}
use Rattle.validator.specs.declared.fault.Judged.TheVariants.{No}
use Rattle.validator.specs.Walk.{Outcome, Apart, Together, walk}
use Rattle.validator.specs.Walked.{came_to}
use Rattle.validator.specs.Merged.{merged}
use Rattle.validator.specs.Faults.{same_heads, new_registers, with_heads, outcome, number, FaultAt, FaultOf, IsJudgedBy, IsJudged}
use Rattle.validator.proofs.BoundLaws.{Spans, walk_spans}
use Rattle.validator.proofs.MergedLaws.{sites_of-restored}

-- what came of the walk of a whole body
module _ (f g : Function) (whole : Bool) (parts : List Part) (walked : walk (new_registers f g) (tree_of g.body) (tree_of f.body) [] ≡ came_to whole parts) where
  spans : Spans (sites_of (tree_of g.body)) (came_to whole parts)
  spans = subst (Spans (sites_of (tree_of g.body))) walked (walk_spans (new_registers f g) (tree_of g.body) (tree_of f.body) [] (sites_of (tree_of g.body)) (omega arith))

  within : (b : Bool) → Spans (sites_of (tree_of g.body)) (came_to b parts) → length parts ≤ sites_of (tree_of g.body)
  within true h = omega (arith, h)
  within false h = h

  -- there are no more parts than statements
  pub parts_within : site_count g.body.statements ≤ 4096 → length parts ≤ 4096
  parts_within h = let a = within whole spans in let e = sites_agree g.body in omega (arith, a, e, h)

  -- and as many where each has a partner
  parts_in_tree : whole ≡ true → length parts ≡ sites_of (tree_of g.body)
  parts_in_tree e = subst (λ (b : Bool). Spans (sites_of (tree_of g.body)) (came_to b parts)) e spans

  pub parts_whole : whole ≡ true → length parts ≡ site_count g.body.statements
  parts_whole e = parts_in_tree e ∙ sites_agree g.body

  first_apart : (o : Outcome) → o ≡ Apart (length parts) → IsJudgedBy (FaultOf g o) (No (length parts) V1)
  first_apart o e = subst (λ (k : Outcome). IsJudgedBy (FaultOf g k) (No (length parts) V1)) (sym e) ((refl, refl), λ site why k. inr (sym k.0, let n = ap number k.1 in omega (arith, n)))

  -- a statement without a partner comes first
  pub apart_judged : whole ≡ false → IsJudged f g (No (length parts) V1)
  apart_judged e = first_apart (outcome f g) (ap (with_heads (same_heads f g) (sites_of (tree_of g.body))) (walked ∙ ap (λ (b : Bool). came_to b parts) e))

  -- then other heads
  pub heads_judged : whole ≡ true → same_heads f g ≡ false → IsJudged f g (No (length parts) V1)
  heads_judged e h =
      first_apart (outcome f g) ((λ i. with_heads (h i) (sites_of (tree_of g.body)) ((walked ∙ ap (λ (b : Bool). came_to b parts) e) i)) ∙ ap Apart (sym (parts_in_tree e)))

  -- and then what merged code tells
  pub together_judged : whole ≡ true → same_heads f g ≡ true → (judged : Judged) → IsJudgedBy (FaultAt (merged g parts) parts) judged → IsJudged f g judged
  together_judged e h judged k =
      let o : outcome f g ≡ Together parts = (λ i. with_heads (h i) (sites_of (tree_of g.body)) ((walked ∙ ap (λ (b : Bool). came_to b parts) e) i)) in
      subst (λ (p : Outcome). IsJudgedBy (FaultOf g p) judged) (sym o) k

pub if_ok : {X Y : Type 0} (r : Result X Y) (P Q : X → Type 0) → ((x : X) → P x → Q x) → IfOk r P → IfOk r Q
if_ok (Ok x) P Q f p = f x p
if_ok (Err e) P Q f p = p

-- merged code has as many statements as the target
pub merged_sites : (m g : Function) (parts : List Part) → tree_of m.body ≡ merged g parts → sites_of (tree_of m.body) ≡ site_count g.body.statements
merged_sites m g parts e = ap sites_of e ∙ sites_of-restored parts (tree_of g.body) 0 ∙ sites_agree g.body
