use Rattle.std.proofs.Common.{arith, sym, ap, ◌∙◌}
use Rattle.std.specs.List.{prefix_len}
use Rattle.il_lexer.specs.Text.{in_line}
use Rattle.il_lexer.proofs.Split.{blank_here}
use Rattle.il_lexer.proofs.Places.{comment_here}
use Rattle.il_lexer.proofs.scanner.skip_blanks.Goals as goal

pub loop-at-preserved-then-byte-eq35 : goal.loop-at-preserved-then-byte-eq35
loop-at-preserved-then-byte-eq35 c = record {
  after = omega arith;
  within = omega arith;
  passed = λ ts stop l. c.loop-at.invariant.passed ts stop
      (comment_here c.args.bytes.now c.loop-at.at c.line_len.result ts stop c.loop-at-test.true c.if-byte-eq35.true
      (c.line_len.ensures.exact ∙ ap (prefix_len in_line) c.after.ensures.value) l);
}

pub loop-at-preserved : goal.loop-at-preserved
loop-at-preserved c = record {
  after = omega arith;
  within = omega arith;
  passed = λ ts stop l. c.loop-at.invariant.passed ts stop
      (blank_here c.args.bytes.now c.loop-at.at ts stop c.loop-at-test.true (sym c.if-is_blank.ensures) l);
}
