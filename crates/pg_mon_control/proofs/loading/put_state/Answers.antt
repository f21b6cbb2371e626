use Rattle.std.proofs.Common.{refl, ◌+◌, ◌∙◌, ap, sym, subst, arith, slice_index}
use Rattle.std.proofs.lemmas.List.{take_more, take_all}
use Rattle.std.proofs.lemmas.List.Elements.{All-get_or}
use Rattle.pg_word.specs.Sparse.{storage_of}
use Rattle.pg_word.proofs.SparseLemmas.{length-storage_of}
use Rattle.pg_hw.specs.Machinery.{poked_at}
use Rattle.pg_hw.specs.Serving.{IsServedWord}
use Rattle.pg_mon_control.specs.Loading.{with_words}
use Rattle.pg_mon_control.proofs.LoadLemmas.{with_words-none, with_words-next}
use Rattle.pg_mon_control.proofs.loading.put_state.Goals as goal

pub poke-requires-clause-word : goal.poke-requires-clause-word
poke-requires-clause-word g c =
    let words = storage_of c.args.state.now.size c.args.state.now.cells in
    let serves = g.H.Hardware.serves (g.H.Hardware.fixed c.args.hw.now) in
    let at_first : IsServedWord serves c.cell.result =
    subst (IsServedWord serves) (sym c.cell.ensures)
    (All-get_or (IsServedWord serves) words c.loop-at.at 0 (omega (arith, length-storage_of c.args.state.now.size c.args.state.now.cells, c.loop-at-test.true)) c.requires.words) in
    subst (λ f. IsServedWord (g.H.Hardware.serves f) c.cell.result) (sym c.loop-at.invariant.fixed) at_first

pub loop-at-init : goal.loop-at-init
loop-at-init g c = record { put = with_words-none c.args.base (g.H.Hardware.machinery c.args.hw.now); fixed = refl }

pub loop-at-preserved : goal.loop-at-preserved
loop-at-preserved g c =
    let words = storage_of c.args.state.now.size c.args.state.now.cells in
    let len = length-storage_of c.args.state.now.size c.args.state.now.cells in
    record {
      put = with_words-next c.args.base words _ (slice_index words c.loop-at.at) _ _ _ c.loop-at.invariant.put (omega (arith, len, c.loop-at-test.true)) (omega (arith, len, c.requires.within))
          (take_more words c.loop-at.at 0 (omega (arith, len, c.loop-at-test.true)))
          (c.poke.ensures.poked ∙ ap (λ w. poked_at (c.args.base + c.loop-at.at) w (g.H.Hardware.machinery c.loop-at.hw)) c.cell.ensures);
      fixed = c.poke.ensures.fixed ∙ c.loop-at.invariant.fixed;
    }

pub returns-clause-put : goal.returns-clause-put
returns-clause-put g c =
    let words = storage_of c.args.state.now.size c.args.state.now.cells in
    c.loop-at.invariant.put
    ∙ ap (λ xs. with_words c.args.base xs (g.H.Hardware.machinery c.args.hw.now)) (take_all c.loop-at.at words (omega (arith, length-storage_of c.args.state.now.size c.args.state.now.cells, c.loop-at-test.false)))
