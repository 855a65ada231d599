use Rattle.std.proofs.Common.{ℕ, pos, List, [], ◌∷◌, sym, ap, ◌∙◌, subst, arith}
use Rattle.message_memory.specs.declared.message.Message.{Message}
use Rattle.message_memory.specs.Memory.{first_message}
use Rattle.indexed_memory.specs.Sorted.{message_of, history_of, AreSorted, IsRank, run_of}
use Rattle.indexed_memory.proofs.Inserting.{message_any, history_inserted, sorted_inserted, runs_kept}
use Rattle.indexed_memory.proofs.line.Line.insert.Goals as goal

pub renew-requires-clause-counted : goal.renew-requires-clause-counted
renew-requires-clause-counted c =
    let pool = c.args.pool.now in
    let places = c.args.self.now.places.items in
    let k = c.count_below-k.result in
    let rank : IsRank pool places (message_of pool (c.args.place ∷ []) 0).to k =
    subst (λ (ps : List ℕ). IsRank pool ps (message_of pool (c.args.place ∷ []) 0).to k) c.as_slice.ensures.value
    (subst (λ (m : Message). IsRank pool c.as_slice.result.now m.to k) (message_any pool c.args.place c.index-pool-place.result (first_message 0 (pos 0)) c.requires.there) c.count_below-k.ensures) in
    λ r l.
    runs_kept pool places k c.args.place rank c.args.self.now.runs.items c.requires.runs r (omega (arith, l, c.saturating_sub.ensures))
    ∙ ap (λ (ps : List ℕ). run_of pool ps r) (sym (c.as_slice-2.ensures.value ∙ c.insert_reserved.ensures.items))

pub returns-clause-history : goal.returns-clause-history
returns-clause-history c =
    let pool = c.args.pool.now in
    let places = c.args.self.now.places.items in
    let k = c.count_below-k.result in
    let rank : IsRank pool places (message_of pool (c.args.place ∷ []) 0).to k =
    subst (λ (ps : List ℕ). IsRank pool ps (message_of pool (c.args.place ∷ []) 0).to k) c.as_slice.ensures.value
    (subst (λ (m : Message). IsRank pool c.as_slice.result.now m.to k) (message_any pool c.args.place c.index-pool-place.result (first_message 0 (pos 0)) c.requires.there) c.count_below-k.ensures) in
    ap (history_of pool) c.insert_reserved.ensures.items ∙ history_inserted pool places k c.args.place rank

pub returns-clause-sorted : goal.returns-clause-sorted
returns-clause-sorted c =
    let pool = c.args.pool.now in
    let places = c.args.self.now.places.items in
    let k = c.count_below-k.result in
    let rank : IsRank pool places (message_of pool (c.args.place ∷ []) 0).to k =
    subst (λ (ps : List ℕ). IsRank pool ps (message_of pool (c.args.place ∷ []) 0).to k) c.as_slice.ensures.value
    (subst (λ (m : Message). IsRank pool c.as_slice.result.now m.to k) (message_any pool c.args.place c.index-pool-place.result (first_message 0 (pos 0)) c.requires.there) c.count_below-k.ensures) in
    subst (AreSorted pool) (sym c.insert_reserved.ensures.items) (sorted_inserted pool places k c.args.place rank c.requires.sorted c.requires.there)
