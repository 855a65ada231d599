-- After a step of both the entry is over.
use Rattle.std.proofs.Common.{◌≡◌, ℕ, Bool, true, false, cond, List, sym, ◌∙◌, subst}
use Rattle.values_undef.specs.declared.value.Val.{Val}
use Rattle.il_syntax.specs.declared.program.Program.{Program}
use Rattle.thread_core.specs.Programs.{code_of}
use Rattle.thread_core.specs.Frames.{Frame}
use Rattle.seq_semantics.specs.declared.seen.Seen.{Seen}
use Rattle.seq_semantics.specs.declared.seen.Seen.TheVariants.{Silent, Plain, Read, Write, Update, Miss, Fence, Print, Call, End, Failed}
use Rattle.seq_semantics.specs.Held.{seq_in, IsSeqOf}
use Rattle.seq_pair.specs.declared.pairing.Pairing.{Pairing}
use Rattle.seq_pair.specs.declared.trace.PairEnd.TheVariants.{Same, SourceFailed}
use Rattle.seq_pair.specs.Labels.{is_failed}
use Rattle.seq_pair.specs.Pair.{AtEntry, Inside, Over, stage_of, stage_after}
use Rattle.seq_pair.specs.Pairing.{IsPairOf}

not_inside : (ts ss : List Val) → Inside ≡ AtEntry ts ss → ⊥
not_inside ts ss e = cc

not_of : (t : Seen) (ts ss : List Val) → stage_of t ≡ AtEntry ts ss → ⊥
not_of Silent ts ss e = not_inside ts ss e
not_of Plain ts ss e = not_inside ts ss e
not_of (Read y order v) ts ss e = not_inside ts ss e
not_of (Write y order v) ts ss e = not_inside ts ss e
not_of (Update y order old new) ts ss e = not_inside ts ss e
not_of (Miss y order old) ts ss e = not_inside ts ss e
not_of (Fence order) ts ss e = not_inside ts ss e
not_of (Print v) ts ss e = not_inside ts ss e
not_of (Call f args) ts ss e = not_inside ts ss e
not_of (End v) ts ss e = let g : Over Same ≡ AtEntry ts ss = e in cc
not_of (Failed compare cause) ts ss e = not_inside ts ss e

not_after : (t s : Seen) (ts ss : List Val) → stage_after t s ≡ AtEntry ts ss → ⊥
not_after t s ts ss e = by (is_failed s) e
  where
    by : (b : Bool) → cond b (Over SourceFailed) (stage_of t) ≡ AtEntry ts ss → ⊥
    by true e = let g : Over SourceFailed ≡ AtEntry ts ss = e in cc
    by false e = not_of t ts ss e

-- so it is a pair of its programs where target and source are
pub pair_stepped : (p q : Program) (f : ℕ) (h : Pairing) (t s : Seen) → IsSeqOf q h.target → IsSeqOf p h.source → h.stage ≡ stage_after t s → IsPairOf p q f h
pair_stepped p q f h t s target source e = record {
  target = target;
  source = source;
  entry = λ ts ss g. absurd (not_after t s ts ss (sym e ∙ g));
}

pub pair_inside : (p q : Program) (f : ℕ) (h : Pairing) → IsSeqOf q h.target → IsSeqOf p h.source → h.stage ≡ Inside → IsPairOf p q f h
pair_inside p q f h target source e = record {
  target = target;
  source = source;
  entry = λ ts ss g. absurd (not_inside ts ss (sym e ∙ g));
}

-- and it stays one where the stage and the calls stay
pub pair_kept : (p q : Program) (f : ℕ) (h k : Pairing) → IsPairOf p q f h → IsSeqOf q k.target → IsSeqOf p k.source → k.stage ≡ h.stage → (seq_in q k.target).frame ≡ (seq_in q h.target).frame → (seq_in p k.source).frame ≡ (seq_in p h.source).frame → IsPairOf p q f k
pair_kept p q f h k pair target source stage t s = record {
  target = target;
  source = source;
  entry = λ ts ss e.
      let before = pair.entry ts ss (sym stage ∙ e) in
      record {
        same_many = before.same_many;
        few = before.few;
        target_begins = subst (λ (z : Frame). z.continuation ≡ code_of q z.function) (sym t) before.target_begins;
        source_begins = subst (λ (z : Frame). z.continuation ≡ code_of p z.function) (sym s) before.source_begins;
      };
}
