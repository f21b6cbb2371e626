-- Windows of one length that cover one another are the same.
use Rattle.std.proofs.Common.{sym, ◌∙◌, ◌≡◌, length}
use Rattle.std.proofs.lemmas.Bool.{false≢true, iff_false}
use Rattle.pg_lang_meaning.specs.States.{window}
use Rattle.pg_type.specs.Listed.{state_of}
use Rattle.pg_lang_valid.proofs.StepSound.{window-length}
use Rattle.pg_replay.proofs.SameLemmas.{windows-same, covers-same}
use Rattle.pg_replay.proofs.same.same_window.Goals as goal

pub returns-then-not-is_covered : goal.returns-then-not-is_covered
returns-then-not-is_covered c =
    (λ wrong. absurd (false≢true wrong), λ e. absurd (iff_false c.is_covered.ensures c.if-not-is_covered.true (covers-same (window (state_of c.args.s.now)) (window (state_of c.args.t.now)) e)))

pub returns : goal.returns
returns c =
    let v = window (state_of c.args.s.now) in
    let w = window (state_of c.args.t.now) in (
      λ h.
          let long : length v ≡ length w =
          window-length (state_of c.args.s.now) ∙ sym c.length_of.ensures.value ∙ c.if-length_of.false ∙ c.length_of-2.ensures.value ∙ sym (window-length (state_of c.args.t.now)) in
          windows-same v w long (c.is_covered.ensures.0 c.if-not-is_covered.false) (c.is_covered-2.ensures.0 h),
      λ e. c.is_covered-2.ensures.1 (covers-same w v (sym e)),
    )
