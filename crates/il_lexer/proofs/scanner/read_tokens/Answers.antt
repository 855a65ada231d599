use Rattle.std.proofs.Common.{sym, ap, ◌∙◌, [], ◌∷◌, ◌++◌, subst, append-nil, append_assoc}
use Rattle.il_lexer.specs.Lexeme.{lexeme_of}
use Rattle.il_lexer.specs.Text.{Lexes, at_end, stopped_at}
use Rattle.il_lexer.proofs.Places.{token_here, unknown_here, nothing_left}
use Rattle.il_lexer.proofs.scanner.read_tokens.Goals as goal

pub returns-in_default : goal.returns-in_default
returns-in_default c =
    let at = c.loop-at.at in
    let here = unknown_here c.args.bytes.now at c.loop-at-test.true (c.loop-at.invariant.blank c.loop-at-test.true) (c.loop-at.invariant.comment c.loop-at-test.true)
    (sym (ap lexeme_of c.after.ensures.value) ∙ sym c.lexeme.ensures.exact ∙ c.in_default.is) in
    subst (λ ts. Lexes 0 c.args.bytes.now ts (stopped_at at)) (append-nil c.loop-at.tokens.items) (c.loop-at.invariant.read [] (stopped_at at) here)

pub loop-at-preserved : goal.loop-at-preserved
loop-at-preserved c = record {
  within = c.skip_blanks-at-in-loop-at.ensures.within;
  blank = c.skip_blanks-at-in-loop-at.ensures.blank;
  comment = c.skip_blanks-at-in-loop-at.ensures.comment;
  read = λ ts stop l.
      let here = token_here c.args.bytes.now c.loop-at.at c.in-Some.kind c.in-Some.len ts stop
      (sym (ap lexeme_of c.after.ensures.value) ∙ sym c.lexeme.ensures.exact ∙ c.in-Some.is)
      (c.skip_blanks-at-in-loop-at.ensures.passed ts stop l) in
      subst (λ all. Lexes 0 c.args.bytes.now all stop)
      (sym (append_assoc c.loop-at.tokens.items (_ ∷ []) ts) ∙ ap (λ all. all ++ ts) (sym c.in_ok-push.ensures.items))
      (c.loop-at.invariant.read _ stop here);
}

pub returns : goal.returns
returns c = subst (λ ts. Lexes 0 c.args.bytes.now ts at_end) (append-nil c.loop-at.tokens.items)
    (c.loop-at.invariant.read [] at_end (nothing_left c.args.bytes.now c.loop-at.at c.loop-at-test.false))
