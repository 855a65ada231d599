-- Where there is no fault, the statuses of faults don't come.
use Rattle.std.proofs.Common.{◌≡◌, ◌≢◌, ℕ, List, arith}
use Rattle.words.specs.declared.command.Command.{Command}
use Rattle.tool.specs.declared.status.Status.{Status}
use Rattle.tool.specs.declared.status.Status.TheVariants as status
use Rattle.tool.specs.Answers.{Seen, HasNoFault, IsAnswerTo, IsAnswer}
use Rattle.tool.specs.Laws.{SureObjectsHaveNoFault, SureAnswers, SureAnswersToWords}

pub no_fault : SureObjectsHaveNoFault
no_fault before now zero_before zero_now rose = absurd (omega (arith, zero_before, zero_now, rose))

pub sure_answers : SureAnswers
sure_answers command a b c d status.Done source sink answer = (λ e. absurd cc, λ e. absurd cc)
sure_answers command a b c d status.NoMemory source sink answer = (λ e. absurd cc, λ e. absurd cc)
sure_answers command a b c d status.Words source sink answer = (λ e. absurd cc, λ e. absurd cc)
sure_answers command a b c d status.Read source sink answer = (λ e. source answer.2, λ e. absurd cc)
sure_answers command a b c d status.Write source sink answer = (λ e. absurd cc, λ e. sink answer.fault)
sure_answers command a b c d status.Input source sink answer = (λ e. absurd cc, λ e. absurd cc)
sure_answers command a b c d status.Failed source sink answer = (λ e. absurd cc, λ e. absurd cc)
sure_answers command a b c d status.Spent source sink answer = (λ e. absurd cc, λ e. absurd cc)
sure_answers command a b c d status.No source sink answer = (λ e. absurd cc, λ e. absurd cc)

pub sure_answers_to_words : SureAnswersToWords
sure_answers_to_words words a b c d status.Done source sink answer = (λ e. absurd cc, λ e. absurd cc)
sure_answers_to_words words a b c d status.NoMemory source sink answer = (λ e. absurd cc, λ e. absurd cc)
sure_answers_to_words words a b c d status.Words source sink answer = (λ e. absurd cc, λ e. absurd cc)
sure_answers_to_words words a b c d status.Read source sink answer = sure_answers answer.command a b c d status.Read source sink answer.answer
sure_answers_to_words words a b c d status.Write source sink answer = sure_answers answer.command a b c d status.Write source sink answer.answer
sure_answers_to_words words a b c d status.Input source sink answer = (λ e. absurd cc, λ e. absurd cc)
sure_answers_to_words words a b c d status.Failed source sink answer = (λ e. absurd cc, λ e. absurd cc)
sure_answers_to_words words a b c d status.Spent source sink answer = (λ e. absurd cc, λ e. absurd cc)
sure_answers_to_words words a b c d status.No source sink answer = (λ e. absurd cc, λ e. absurd cc)
