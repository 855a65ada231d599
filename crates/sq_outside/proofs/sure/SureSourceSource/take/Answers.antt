use Rattle.std.proofs.Common.{◌≡◌, ◌+◌, ◌++◌, ◌≤◌, ◌∙◌, ◌<◌, [], List, ℕ, length, drop, take, arith}
use Rattle.std.proofs.lemmas.List.{nil_from_length}
use Rattle.sq_outside.proofs.Copies.{copied_first, parted, none_left, ended}
use Rattle.sq_outside.proofs.sure.SureSourceSource.take.Goals as goal

pub returns-clause-bytes : goal.returns-clause-bytes
returns-clause-bytes c =
    let back : c.split_at.result.1.now ≡ drop c.self.inside.at c.self.inside.bytes.items = cc in
    let is : c.args.self.now ≡ drop c.self.inside.at c.self.inside.bytes.items = cc in
    let first : take c.copy_prefix-count.result c.copy_prefix-count.new.into ≡ take c.copy_prefix-count.result c.split_at.result.1.now =
    copied_first _ _ _ _ (omega (arith, c.copy_prefix-count.ensures.count)) c.copy_prefix-count.ensures.copied in (
      is ∙ parted _ _ _ _ _ back first,
      λ none places. ended _ _ _ _ back none (nil_from_length _ (none_left _ _ _ _ _ (λ zero. omega (arith, zero)) c.copy_prefix-count.ensures.count c.copy_prefix-count.ensures.copied none places)),
    )
