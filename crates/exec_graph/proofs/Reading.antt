-- The links of the reading entries, entry by entry.
use Rattle.std.proofs.Common.{◌≡◌, ℕ, suc, ◌<◌, inl, inr, cond, List, [], Option, Some, None, refl, sym, ap, subst, ◌∙◌, arith}
use Rattle.std.proofs.lemmas.Bool.{cases_Bool, cond-true, cond-false, true≢false, false≢true}
use Rattle.std.proofs.lemmas.Option.{none-some, same_Some}
use Rattle.std.specs.Option.{MatchOption, is_some}
use Rattle.std.specs.BTreeMap.{is_at}
use Rattle.message_memory.specs.declared.history.Call.{Call}
use Rattle.exec_graph.specs.declared.stamp.Stamp.{Stamp}
use Rattle.exec_graph.specs.declared.links.Link.{Link}
use Rattle.exec_graph.specs.Entries.{event_at, read_by, written_by}
use Rattle.exec_graph.specs.Stamps.{stamp_cmp}
use Rattle.exec_graph.specs.Links.{TellsFrom, AreReads}
use Rattle.exec_graph.specs.Made.{with_read, with_writer}
use Rattle.exec_graph.proofs.Sets.{older}
use Rattle.exec_graph.proofs.StampLemmas.{at_itself, at_same}
use Rattle.exec_graph.proofs.LinkLemmas.{links_push, links_skip, links_none}

-- the map has the last writer of each message
abbrev pub HasWriter : List Call → ℕ → Stamp → Option ℕ → Type 0
HasWriter calls n stamp o = MatchOption o ((w : ℕ) → w < n → written_by (event_at calls w) ≡ Some stamp → ⊥) (λ w. (w < n) × (written_by (event_at calls w) ≡ Some stamp))

pub record ReadSoFar (calls : List Call) (n : ℕ) (links : List Link) (writers : Stamp → Option ℕ) : Type 0 where
  pub linked : AreReads calls n links
  pub known : (stamp : Stamp) → HasWriter calls n stamp (writers stamp)

-- what the map has at the stamp that was read
tells : (calls : List Call) (n : ℕ) (stamp : Stamp) (o : Option ℕ) → read_by (event_at calls n) ≡ Some stamp → HasWriter calls n stamp o → TellsFrom calls n o
tells calls n stamp None e h = λ w from. h w from.before (from.written ∙ ap Some (same_Some from.stamp stamp (sym from.read ∙ e)))
tells calls n stamp (Some w) e h = record { stamp = stamp; before = h.0; read = e; written = h.1 }

read_links : (calls : List Call) (n : ℕ) (links : List Link) (writers : Stamp → Option ℕ) (o : Option Stamp) → read_by (event_at calls n) ≡ o → ((stamp : Stamp) → HasWriter calls n stamp (writers stamp)) → AreReads calls n links
    → AreReads calls (suc n) (with_read links writers n o)
read_links calls n links writers None e h r = links_skip n _ _ links (λ s. false≢true (sym (ap is_some e) ∙ s)) r
read_links calls n links writers (Some stamp) e h r = links_push n _ _ links (writers stamp) (ap is_some e) (tells calls n stamp (writers stamp) e (h stamp)) r

keeps : (calls : List Call) (n : ℕ) (stamp : Stamp) (o : Option ℕ) → (written_by (event_at calls n) ≡ Some stamp → ⊥) → HasWriter calls n stamp o → HasWriter calls (suc n) stamp o
keeps calls n stamp None ne h = λ w l e. elim (older w n l) as (λ _. ⊥) [ inl k ↦ h w k e | inr s ↦ ne (subst (λ (x : ℕ). written_by (event_at calls x) ≡ Some stamp) s e) ]
keeps calls n stamp (Some w) ne h = let l = h.0 in (omega (arith, l), h.1)

writes : (calls : List Call) (n : ℕ) (stamp : Stamp) (before : Option ℕ) (o : Option Stamp) → written_by (event_at calls n) ≡ o → HasWriter calls n stamp before → HasWriter calls (suc n) stamp (with_writer before n stamp o)
writes calls n stamp before None e h = keeps calls n stamp before (λ q. none-some stamp (sym e ∙ q)) h
writes calls n stamp before (Some written) e h = elim (cases_Bool (is_at (stamp_cmp written) stamp)) as (λ _. HasWriter calls (suc n) stamp (cond (is_at (stamp_cmp written) stamp) (Some n) before)) [
  | inl y ↦ subst (HasWriter calls (suc n) stamp) (sym (cond-true (is_at (stamp_cmp written) stamp) (Some n) before y)) (omega arith, e ∙ ap Some (at_same written stamp y))
  | inr other ↦ subst (HasWriter calls (suc n) stamp) (sym (cond-false (is_at (stamp_cmp written) stamp) (Some n) before other))
      (keeps calls n stamp before (λ q. (let s = same_Some written stamp (sym e ∙ q) in true≢false (sym (at_itself written) ∙ ap (is_at (stamp_cmp written)) s ∙ other))) h)
]

pub read_more : (calls : List Call) (n : ℕ) (links links' : List Link) (writers writers' : Stamp → Option ℕ) → links' ≡ with_read links writers n (read_by (event_at calls n))
    → ((stamp : Stamp) → writers' stamp ≡ with_writer (writers stamp) n stamp (written_by (event_at calls n))) → ReadSoFar calls n links writers → ReadSoFar calls (suc n) links' writers'
read_more calls n links links' writers writers' e f h = record {
  linked = subst (AreReads calls (suc n)) (sym e) (read_links calls n links writers (read_by (event_at calls n)) refl h.known h.linked);
  known = λ stamp. subst (HasWriter calls (suc n) stamp) (sym (f stamp)) (writes calls n stamp (writers stamp) (written_by (event_at calls n)) refl (h.known stamp));
}

pub read_none : (calls : List Call) (writers : Stamp → Option ℕ) → ((stamp : Stamp) → writers stamp ≡ None) → ReadSoFar calls 0 [] writers
read_none calls writers e = record {
  linked = links_none _ _;
  known = λ stamp. subst (HasWriter calls 0 stamp) (sym (e stamp)) (λ w l q. absurd (omega (arith, l)));
}
