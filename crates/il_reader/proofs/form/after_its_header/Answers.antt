use Rattle.std.proofs.Common.{subst, sym, ap, ◌∙◌, ◌≤◌, ◌-◌, length, Err}
use Rattle.std.specs.List.{All}
use Rattle.token_machine.specs.Text.{IsFirstFault}
use Rattle.token_machine.specs.Reading.{IfFault}
use Rattle.il_grammar.specs.declared.rule.Rule.TheVariants.{P3}
use Rattle.il_grammar.specs.Grammar.{spelling}
use Rattle.il_lexer.specs.Text.{rest_of}
use Rattle.il_reader.specs.Refusal.{refusal_at}
use Rattle.il_reader.specs.Terminals.{IsWithinText, terminals_of, has_fences}
use Rattle.il_reader.specs.Text.{faulty, place_at, IsAnswer}
use Rattle.il_reader.proofs.Within.{tokens_within, rest_within, place_within}
use Rattle.il_reader.proofs.form.after_its_header.Goals as goal

pub terminals-requires : goal.terminals-requires
terminals-requires c = rest_within c.args.bytes.now c.args.lexed.now.tokens c.args.rest.now (tokens_within c.requires.lexed) c.requires.headed

pub has_fences-fences-requires : goal.has_fences-fences-requires
has_fences-fences-requires c = subst (λ ts. All (IsWithinText c.args.bytes.now) ts) (sym c.as_slice.ensures) (tokens_within c.requires.lexed)

pub refused_at-requires : goal.refused_at-requires
refused_at-requires c = record { within = subst (λ n. n ≤ length c.args.bytes.now) (sym c.place-at.ensures) (place_within c.requires.lexed c.saturating_sub.result); small = c.requires.small }

pub returns : goal.returns
returns c =
    let bytes = c.args.bytes.now in
    let tokens = c.args.lexed.now.tokens in
    let stop = rest_of c.args.lexed.now.unknown in
    let fault = c.in-Err-Fault.fault in
    subst (λ e. IsAnswer bytes (Err e)) (sym c.refused_at.ensures)
    (faulty tokens stop c.args.rest.now fault c.requires.pure c.requires.lexed c.requires.headed
    (subst (λ ts. IsFirstFault spelling P3 ts fault)
    (c.deref.ensures.value ∙ c.in_ok-terminals.ensures
    ∙ ap (λ fences. terminals_of bytes fences c.args.rest.now stop) (c.has_fences-fences.ensures ∙ ap (has_fences bytes) c.as_slice.ensures))
    (subst (λ e. IfFault e (λ f. IsFirstFault spelling P3 c.deref.result.now f)) c.in-Err-Fault.field-0-is c.in-Err-Fault.ensures.refused))
    (ap (refusal_at bytes fault.rule) (c.place-at.ensures
    ∙ ap (place_at bytes tokens stop) (c.saturating_sub.ensures ∙ ap (λ n. n - fault.left) c.count.ensures))))
