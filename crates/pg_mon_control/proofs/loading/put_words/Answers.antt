use Rattle.std.proofs.Common.{refl, ◌∙◌, ap, arith}
use Rattle.std.proofs.lemmas.List.{take_more, take_all}
use Rattle.pg_mon_control.specs.Loading.{with_words}
use Rattle.pg_mon_control.proofs.LoadLemmas.{with_words-none, with_words-next}
use Rattle.pg_mon_control.proofs.loading.put_words.Goals as goal

pub loop-at-init : goal.loop-at-init
loop-at-init g c = record { put = with_words-none c.args.base (g.H.Hardware.machinery c.args.hw.now); fixed = refl }

pub loop-at-preserved : goal.loop-at-preserved
loop-at-preserved g c = record {
  put = with_words-next c.args.base c.args.words.now _ _ _ _ _ c.loop-at.invariant.put (omega arith) (omega arith)
      (take_more c.args.words.now c.loop-at.at 0 (omega arith)) c.poke.ensures.poked;
  fixed = c.poke.ensures.fixed ∙ c.loop-at.invariant.fixed;
}

pub returns-clause-put : goal.returns-clause-put
returns-clause-put g c =
    c.loop-at.invariant.put
    ∙ ap (λ xs. with_words c.args.base xs (g.H.Hardware.machinery c.args.hw.now)) (take_all c.loop-at.at c.args.words.now (omega arith))
