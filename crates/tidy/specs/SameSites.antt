-- Code of two functions with equal blocks, side by side. (The words of what is shown of runs; no contract of the
-- passes cites it.)
use Rattle.std.specs.Prelude.{◌≡◌}
use Rattle.il_paths.specs.Code.{Visit, Code, End, Plain, Branch, Loop}

pub data SameSites : Code → Code → Type 0 where
  both_end : SameSites End End
  plain : {u v : Visit} {a b : Code} → v.site ≡ u.site → SameSites a b → SameSites (Plain u a) (Plain v b)
  branch : {u v : Visit} {y n a y' n' b : Code} → v.site ≡ u.site → SameSites y y' → SameSites n n' → SameSites a b → SameSites (Branch u y n a) (Branch v y' n' b)
  loop : {u v : Visit} {c a c' b : Code} → v.site ≡ u.site → SameSites c c' → SameSites a b → SameSites (Loop u c a) (Loop v c' b)
