use Rattle.std.proofs.Common.{rules, ◌≡◌, ℕ, [], ◌∷◌, ◌++◌, List, length, cond, eqb, refl, sym, ap, subst, ◌∙◌, arith}
use Rattle.std.proofs.lemmas.Bool.{false≢true}
use Rattle.values_undef.specs.declared.journal.Entry.{Entry}
use Rattle.outcome_nodes.specs.Standing.{node_of}
use Rattle.equal_nodes.specs.Keys.{key_of}
use Rattle.outcome_search.specs.Runs.{AreKeptRuns}
use Rattle.outcome_search.specs.Places.{ArePlaces, places_at}
use Rattle.outcome_search.proofs.Keeping.{kept_more, too_many, not_there}
use Rattle.outcome_search.proofs.Placing.{places_more}
use Rattle.outcome_search.proofs.table.add.Goals as goal

pub returns-then-place-limit-clause-many : goal.returns-then-place-limit-clause-many
returns-then-place-limit-clause-many c = λ _.
    let runs = c.args.kept.now.runs.items in
    let entries : c.deref-2.result.now ≡ c.args.run = first_of (search rules, cc) in
    too_many c.args.p.now c.args._steps c.args.limit runs c.args.run c.requires.kept.runs c.requires.run
    (not_there c.args.p.now c.args._steps runs runs c.deref-2.result.now c.args.run refl entries (λ q. absurd (false≢true (sym c.if-branch.false ∙ c.in_ok-has.ensures.1 q))))
    (omega (arith, c.if-place-limit.true, c.len-place.ensures))

pub returns-clause-kept : goal.returns-clause-kept
returns-clause-kept c =
    let p = c.args.p.now in
    let steps = c.args._steps in
    let runs = c.args.kept.now.runs.items in
    let before = c.args.kept.now.places in
    let after = c.note.new.places in
    let entries : c.deref-2.result.now ≡ c.args.run = first_of (search rules, cc) in
    let key : c.key_of-key.result ≡ key_of (node_of p steps c.args.run).told = first_of (search rules, cc, grind arith) in
    let place : c.len-place.result ≡ length runs = omega (arith, c.len-place.ensures) in
    record {
      runs = subst (AreKeptRuns p steps c.args.limit) (sym c.in_ok-push.ensures.items)
          (kept_more p steps c.args.limit runs c.args.run c.requires.kept.runs c.requires.run
          (not_there p steps runs runs c.deref-2.result.now c.args.run refl entries (λ q. absurd (false≢true (sym c.if-branch.false ∙ c.in_ok-has.ensures.1 q))))
          (omega (arith, c.if-place-limit.false, c.len-place.ensures)));
      places = subst (λ (q : List (List Entry)). ArePlaces p steps q (places_at after)) (sym c.in_ok-push.ensures.items)
          (places_more p steps runs (places_at before) c.requires.kept.places c.args.run c.key_of-key.result (places_at after) key
          (λ k. c.in_ok-note.ensures k ∙ ap (λ (i : ℕ). places_at before k ++ cond (eqb k c.key_of-key.result) (i ∷ []) []) place));
    }
