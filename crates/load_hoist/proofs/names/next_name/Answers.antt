use Rattle.std.proofs.Common.{◌≡◌, ◌<◌, ◌+◌, ◌-◌, ◌++◌, length, length-append, suc, true, sym, ap, ◌∙◌, arith}
use Rattle.il_syntax.specs.Name.{is_among}
use Rattle.load_hoist.specs.Introduced.{hoisted_name, free_number}
use Rattle.load_hoist.proofs.FreeNames.{free_step, free_from}
use Rattle.load_hoist.proofs.names.next_name.Goals as goal

pub loop-number-init : goal.loop-number-init
loop-number-init c =
    let taken = c.args.growth.now.registers ++ c.args.names.now in
    let all : c.len.result + length c.args.names.now ≡ length taken = omega (arith, c.len.ensures, length-append c.args.growth.now.registers c.args.names.now) in
    ap (λ n. free_number (n - c.args.from) c.args.from taken) all ∙ free_from c.args.from taken (omega (arith, c.ranges.from.fits)) c.requires.taken

pub loop-number-preserved : goal.loop-number-preserved
loop-number-preserved c =
    let i = c.loop-number.number in
    let tries = c.len.result + length c.args.names.now in
    let taken = c.args.growth.now.registers ++ c.args.names.now in
    let test = c.loop-number-test.true in
    let more : tries - i ≡ suc (tries - (i + 1)) = omega (arith, test) in
    let here : c.is_taken.result ≡ true = grind (arith, c.if-not-is_taken.false) in
    let among : is_among taken (hoisted_name i) ≡ true = cc (c.is_taken.ensures, c.as_slice.ensures, c.in_ok-name.ensures, here) in
    sym (free_step (tries - i) i (tries - (i + 1)) taken more among) ∙ c.loop-number.invariant
