use Rattle.std.proofs.Common.{◌∙◌, ap, ap₂}
use Rattle.std.proofs.lemmas.Result.{IfOk-weaker}
use Rattle.clap.specs.Words.{App, with_subcommand}
use Rattle.words.proofs.program.program.Goals as goal

pub returns : goal.returns
returns c =
    let first = c.in_ok-subcommand.ensures.shape c.plain.ensures.local ∙ ap₂ with_subcommand c.bare.ensures (ap (λ (a : App). a.top) c.plain.ensures.app) in
    let second = c.in_ok-subcommand-2.ensures.shape c.plain-2.ensures.local ∙ ap₂ with_subcommand first (ap (λ (a : App). a.top) c.plain-2.ensures.app) in
    let third = c.in_ok-subcommand-3.ensures.shape c.in_ok-walking.ensures.local ∙ ap₂ with_subcommand second (ap (λ (a : App). a.top) c.in_ok-walking.ensures.app) in
    let fourth = c.in_ok-subcommand-4.ensures.shape c.plain-3.ensures.local ∙ ap₂ with_subcommand third (ap (λ (a : App). a.top) c.plain-3.ensures.app) in
    let fifth = c.in_ok-subcommand-5.ensures.shape c.in_ok-seq.ensures.local ∙ ap₂ with_subcommand fourth (ap (λ (a : App). a.top) c.in_ok-seq.ensures.app) in
    let sixth = c.in_ok-subcommand-6.ensures.shape c.in_ok-walking-2.ensures.local ∙ ap₂ with_subcommand fifth (ap (λ (a : App). a.top) c.in_ok-walking-2.ensures.app) in
    let seventh = c.in_ok-subcommand-7.ensures.shape c.in_ok-run.ensures.local ∙ ap₂ with_subcommand sixth (ap (λ (a : App). a.top) c.in_ok-run.ensures.app) in
    let eighth = c.in_ok-subcommand-8.ensures.shape c.plain-4.ensures.local ∙ ap₂ with_subcommand seventh (ap (λ (a : App). a.top) c.plain-4.ensures.app) in
    let ninth = c.in_ok-subcommand-9.ensures.shape c.plain-5.ensures.local ∙ ap₂ with_subcommand eighth (ap (λ (a : App). a.top) c.plain-5.ensures.app) in
    let tenth = c.in_ok-subcommand-10.ensures.shape c.in_ok-litmus.ensures.local ∙ ap₂ with_subcommand ninth (ap (λ (a : App). a.top) c.in_ok-litmus.ensures.app) in
    let eleventh = c.in_ok-subcommand-11.ensures.shape c.in_ok-searching.ensures.local ∙ ap₂ with_subcommand tenth (ap (λ (a : App). a.top) c.in_ok-searching.ensures.app) in
    let twelfth = c.in_ok-subcommand-12.ensures.shape c.in_ok-searching-2.ensures.local ∙ ap₂ with_subcommand eleventh (ap (λ (a : App). a.top) c.in_ok-searching-2.ensures.app) in
    IfOk-weaker c.subcommand-13.result _ _ (λ r h. h.shape c.in_ok-generating.ensures.local ∙ ap₂ with_subcommand twelfth (ap (λ (a : App). a.top) c.in_ok-generating.ensures.app)) c.subcommand-13.ensures
