use Rattle.std.proofs.Common.{List, ◌++◌, map, refl, sym, ap, ◌∙◌, subst}
use Rattle.il_syntax.specs.declared.statement.Stmt.{Stmt}
use Rattle.il_syntax.specs.Statements.{head_of}
use Rattle.il_paths.specs.Tree.{tree_of, heads_in}
use Rattle.il_paths.proofs.Callers.{sites_agree}
use Rattle.tidy.specs.Live.{AreLiveSets}
use Rattle.tidy.specs.Rows.{AreKnownRows, IsLastRow}
use Rattle.tidy.specs.Decided.{accepted_in}
use Rattle.tidy.proofs.JudgeLaws.{frame_true, frame_differs, refused_at, none_refused, statement_refused, result_refused, all_stands}
use Rattle.tidy.proofs.judging.judge.Goals as goal

pub returns-then-not-same_frame : goal.returns-then-not-same_frame
returns-then-not-same_frame c =
    frame_differs c.args.f.now c.args.g.now c.sites-count.result (sym c.same_frame.ensures ∙ c.if-not-same_frame.true) (c.sites-count.ensures ∙ sym (sites_agree c.args.g.now.body))

pub returns-in-Some : goal.returns-in-Some
returns-in-Some c =
    let f = c.args.f.now in
    let g = c.args.g.now in
    let rows = c.as_slice.result.now in
    let sets = c.as_slice-2.result.now in
    let olds = c.deref.result.now in
    let news = c.deref-2.result.now in
    let known = subst (AreKnownRows f) (sym c.as_slice.ensures) c.in_ok-known.ensures.rows in
    let live = subst (AreLiveSets g) (sym c.as_slice-2.ensures) c.in_ok-live.ensures in
    let in_f = ap (map head_of) c.deref.ensures.value ∙ c.in_ok-list_heads.ensures ∙ ap (λ (xs : List Stmt). map head_of xs ++ heads_in (tree_of f.body)) c.new-olds.ensures.items in
    let in_g = ap (map head_of) c.deref-2.ensures.value ∙ c.in_ok-list_heads-2.ensures ∙ ap (λ (xs : List Stmt). map head_of xs ++ heads_in (tree_of g.body)) c.new-news.ensures.items in
    let frame = frame_true f g (sym c.same_frame.ensures ∙ c.if-not-same_frame.false) in
    let hit = refused_at (accepted_in rows sets olds news) c.sites-count.result c.in_ok-refused.refused c.in-Some.site c.in_ok-refused.ensures c.in-Some.is in
    statement_refused f g rows c.in_ok-known.known.end sets olds news known c.in_ok-known.ensures.end live in_f in_g frame c.sites-count.result c.in-Some.site (c.sites-count.ensures ∙ sym (sites_agree g.body)) hit.0 hit.1 hit.2

pub returns-then-not-stands_for : goal.returns-then-not-stands_for
returns-then-not-stands_for c =
    let f = c.args.f.now in
    let g = c.args.g.now in
    let rows = c.as_slice.result.now in
    let sets = c.as_slice-2.result.now in
    let olds = c.deref.result.now in
    let news = c.deref-2.result.now in
    let known = subst (AreKnownRows f) (sym c.as_slice.ensures) c.in_ok-known.ensures.rows in
    let live = subst (AreLiveSets g) (sym c.as_slice-2.ensures) c.in_ok-live.ensures in
    let last = subst (IsLastRow f) (sym c.as_slice-3.ensures) c.in_ok-known.ensures.end in
    let in_f = ap (map head_of) c.deref.ensures.value ∙ c.in_ok-list_heads.ensures ∙ ap (λ (xs : List Stmt). map head_of xs ++ heads_in (tree_of f.body)) c.new-olds.ensures.items in
    let in_g = ap (map head_of) c.deref-2.ensures.value ∙ c.in_ok-list_heads-2.ensures ∙ ap (λ (xs : List Stmt). map head_of xs ++ heads_in (tree_of g.body)) c.new-news.ensures.items in
    let frame = frame_true f g (sym c.same_frame.ensures ∙ c.if-not-same_frame.false) in
    let none = none_refused (accepted_in rows sets olds news) c.sites-count.result c.in_ok-refused.refused c.in_ok-refused.ensures c.in_default.not-Some in
    result_refused f g rows c.as_slice-3.result.now sets olds news known last live in_f in_g frame c.sites-count.result c.sites-count.result (c.sites-count.ensures ∙ sym (sites_agree g.body)) none
    (sym c.stands_for.ensures ∙ c.if-not-stands_for.true) refl

pub returns : goal.returns
returns c =
    let f = c.args.f.now in
    let g = c.args.g.now in
    let rows = c.as_slice.result.now in
    let sets = c.as_slice-2.result.now in
    let olds = c.deref.result.now in
    let news = c.deref-2.result.now in
    let known = subst (AreKnownRows f) (sym c.as_slice.ensures) c.in_ok-known.ensures.rows in
    let live = subst (AreLiveSets g) (sym c.as_slice-2.ensures) c.in_ok-live.ensures in
    let last = subst (IsLastRow f) (sym c.as_slice-3.ensures) c.in_ok-known.ensures.end in
    let in_f = ap (map head_of) c.deref.ensures.value ∙ c.in_ok-list_heads.ensures ∙ ap (λ (xs : List Stmt). map head_of xs ++ heads_in (tree_of f.body)) c.new-olds.ensures.items in
    let in_g = ap (map head_of) c.deref-2.ensures.value ∙ c.in_ok-list_heads-2.ensures ∙ ap (λ (xs : List Stmt). map head_of xs ++ heads_in (tree_of g.body)) c.new-news.ensures.items in
    let frame = frame_true f g (sym c.same_frame.ensures ∙ c.if-not-same_frame.false) in
    let none = none_refused (accepted_in rows sets olds news) c.sites-count.result c.in_ok-refused.refused c.in_ok-refused.ensures c.in_default.not-Some in
    all_stands f g rows c.as_slice-3.result.now sets olds news known last live in_f in_g frame c.sites-count.result (c.sites-count.ensures ∙ sym (sites_agree g.body)) none
    (sym c.stands_for.ensures ∙ c.if-not-stands_for.false)
