-- The words of a storage are those that are listed.
use Rattle.std.proofs.Common.{sym, subst, ap, ◌<◌, ◌≤◌, ◌^◌, arith}
use Rattle.std.specs.List.{All}
use Rattle.std.proofs.lemmas.Bool.{false≢true, iff_false}
use Rattle.pg_word.specs.declared.shape.Shape.{Shape}
use Rattle.pg_word.specs.Psw.{IsPsw}
use Rattle.pg_replay.proofs.StateLemmas.{state-of, state-least, state-most, listed-of}
use Rattle.pg_replay.proofs.state.is_state.Goals as goal

pub returns-then-s-lt2 : goal.returns-then-s-lt2
returns-then-s-lt2 c = (
  λ wrong. absurd (false≢true wrong),
  λ h. let least : 2 ≤ c.args.s.now.size = state-least c.args.m.now.desc c.args.s.now.size c.args.s.now.psw c.args.s.now.cells h in absurd (omega (arith, c.if-s-lt2.true)),
)

pub returns-then-s-shape : goal.returns-then-s-shape
returns-then-s-shape c = (
  λ wrong. absurd (false≢true wrong),
  λ h.
      let most : c.args.s.now.size ≤ c.args.m.now.desc.size = state-most c.args.m.now.desc c.args.s.now.size c.args.s.now.psw c.args.s.now.cells h in
      absurd (omega (arith, c.if-s-shape.true, ap (λ (x : Shape). x.q) c.shape-shape.ensures.numbers)),
)

pub returns-then-not-is_psw : goal.returns-then-not-is_psw
returns-then-not-is_psw c = (
  λ wrong. absurd (false≢true wrong),
  λ h. absurd (iff_false c.is_psw.ensures c.if-not-is_psw.true (subst (λ a. IsPsw a c.args.s.now.psw) (sym (ap (λ (x : Shape). x.a) c.shape-shape.ensures.numbers)) h.fields)),
)

pub returns : goal.returns
returns c =
    let d = c.args.m.now.desc in
    let size = c.args.s.now.size in
    let cells = c.args.s.now.cells in
    let items = c.as_slice.result.now in
    let e = c.shape-shape.ensures.numbers in (
      λ h.
          state-of d size c.args.s.now.psw cells items c.if-s-lt2.false (subst (λ q. size ≤ q) (ap (λ (x : Shape). x.q) e) c.if-s-shape.false)
          (subst (λ a. IsPsw a c.args.s.now.psw) (ap (λ (x : Shape). x.a) e) (c.is_psw.ensures.0 c.if-not-is_psw.false)) c.as_slice.ensures.cells
          (subst (λ w. All (λ cell. cell.1 < 2 ^ w) items) (ap (λ (x : Shape). x.w) e) (c.are_words.ensures.0 h)),
      λ h.
          c.are_words.ensures.1
          (subst (λ w. All (λ cell. cell.1 < 2 ^ w) items) (sym (ap (λ (x : Shape). x.w) e))
          (listed-of d size c.args.s.now.psw cells items c.as_slice.ensures.cells c.as_slice.ensures.listed c.args.s.now.within h)),
    )
