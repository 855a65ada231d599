use Rattle.std.proofs.Common.{◌≡◌, ℕ, List, [], ◌∷◌, ◌++◌, length, pos, get_or, sym, ap, ◌∙◌, subst, arith, rules, length-append}
use Rattle.std.specs.Int.{w64}
use Rattle.std.specs.Int.RustNames.{FitsSigned}
use Rattle.std.proofs.lemmas.Int.{to_z-of_z}
use Rattle.message_memory.specs.Memory.{first_message}
use Rattle.std.specs.List.{AllByRecursion}
use Rattle.message_memory.specs.declared.message.Message.{Message}
use Rattle.indexed_memory.specs.declared.line.Line.{Line}
use Rattle.indexed_memory.specs.Index.{histories_in, IsIndexLine}
use Rattle.indexed_memory.proofs.Starting.{first_each, first_histories}
use Rattle.indexed_memory.proofs.index.IndexHistories.start.Goals as goal

pub loop-y-preserved : goal.loop-y-preserved
loop-y-preserved c =
    let pool = c.loop-y.pool.items in
    let lines = c.loop-y.lines.items in
    let m = c.first_message.result in
    let line = c.in_ok-first.field-0 in
    let messages : c.push.new.self.items ≡ pool ++ m ∷ [] = c.in_ok-push.ensures.items in
    let longer : c.push-in-loop-y.new.self.items ≡ lines ++ line ∷ [] = c.in_ok-push-2.ensures.items in
    let invariant = c.loop-y.invariant in
    let value = get_or c.args.atomic.now c.loop-y.y (pos 0) in
    let fits : FitsSigned w64 value = search rules in
    record {
      messages = omega (arith, ap {B = ℕ} (λ (ms : List Message). length ms) messages, length-append pool (m ∷ []), invariant.messages);
      lines = omega (arith, ap {B = ℕ} (λ (ls : List Line). length ls) longer, length-append lines (line ∷ []), invariant.lines);
      each =
          subst (λ (ls : List Line). AllByRecursion (IsIndexLine c.push.new.self.items 0) ls) (sym longer)
          (subst (λ (ps : List Message). AllByRecursion (IsIndexLine ps 0) (lines ++ line ∷ [])) (sym messages)
          (first_each c.args.locations pool lines c.args.atomic.now m line c.loop-y.y (sym invariant.messages) c.in_ok-first.ensures.places c.in_ok-first.ensures.runs c.in_ok-first.ensures.room invariant.each));
      histories =
          (λ i. histories_in (messages i) (longer i))
          ∙ first_histories c.args.locations pool lines c.args.atomic.now m line c.loop-y.y (sym invariant.messages) c.loop-y-test.true c.in_ok-first.ensures.places (c.first_message.ensures ∙ ap (first_message c.args.locations) (to_z-of_z w64 value fits)) invariant.each invariant.histories;
    }
