-- The first place at which a test passes, or the length.
use Rattle.std.proofs.Common.{◌≡◌, ◌≤◌, Bool, true, false, cond, nat_lt, not, List, length, Some, None, unwrap_or, refl, arith}
use Rattle.std.proofs.lemmas.List.Sums.{prefix_len-le-length}
use Rattle.std.proofs.lemmas.Bool.Decides.{nat_tests}
use Rattle.std.specs.List.{position, position_or_len}
use Rattle.exec_graph.specs.declared.links.Link.{Link}

pub place_within : (p : Link → Bool) (links : List Link) → position_or_len p links ≤ length links
place_within p links = prefix_len-le-length (λ (x : Link). not (p x)) links

pub place_or_length : (p : Link → Bool) (links : List Link) → unwrap_or (position p links) (length links) ≡ position_or_len p links
place_or_length p links = go (nat_lt (position_or_len p links) (length links)) refl
  where
    go : (b : Bool) → nat_lt (position_or_len p links) (length links) ≡ b → unwrap_or (cond b (Some (position_or_len p links)) None) (length links) ≡ position_or_len p links
    go true e = refl
    go false e = let within = place_within p links in grind (arith, nat_tests, e, within)
