use Rattle.std.proofs.Common.{true, subst, arith}
use Rattle.pg_lang_print.specs.Layout.{layout}
use Rattle.pg_lang_print.specs.Numbers.{FitsNumber}
use Rattle.pg_lang_print.proofs.Laying.{fits_next, layout_next}
use Rattle.pg_lang_print.proofs.lines.layout.Goals as goal

pub loop-tok-preserved : goal.loop-tok-preserved
loop-tok-preserved c = record {
  so_far =
      rw (c.in_ok-put_line_end.ensures, c.ends_line-begins.ensures, c.open_behind-braces.ensures.count, c.in_ok-put_token.ensures.text, c.in_ok-put_lead.ensures)
      (layout_next c.loop-tok.text.items (layout true 0 c.args.toks.now) c.args.toks.now c.loop-tok.tok-index c.tok-item.result c.loop-tok.begins c.loop-tok.braces c.loop-tok-test.true c.tok-item.is c.loop-tok.invariant.so_far);
  fits =
      let one : FitsNumber c.tok-item.result = c.in_ok-put_token.ensures.fits in
      λ rest. c.loop-tok.invariant.fits (fits_next c.args.toks.now c.loop-tok.tok-index c.tok-item.result c.loop-tok-test.true (subst FitsNumber c.tok-item.is one) rest);
  within = omega arith;
}
