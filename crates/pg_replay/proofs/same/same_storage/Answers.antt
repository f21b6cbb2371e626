use Rattle.std.proofs.Common.{sym, ap, ◌∙◌, subst, ◌≡◌}
use Rattle.std.proofs.lemmas.Bool.{false≢true}
use Rattle.pg_word.specs.Sparse.{AreWithin, storage_of}
use Rattle.pg_word.proofs.SparseLemmas.{one_list}
use Rattle.pg_replay.proofs.SameLemmas.{storage-size}
use Rattle.pg_replay.proofs.same.same_storage.Goals as goal

pub returns-then-s-t : goal.returns-then-s-t
returns-then-s-t c =
    (λ wrong. absurd (false≢true wrong), λ e. absurd (c.if-s-t.true (storage-size c.args.s.now.size c.args.t.now.size c.args.s.now.cells c.args.t.now.cells e)))

pub returns : goal.returns
returns c =
    let xs = c.args.s.now.cells in
    let ys = c.args.t.now.cells in (
      λ h. ap (λ n. storage_of n xs) c.if-s-t.false ∙ ap (storage_of c.args.t.now.size) (sym c.as_slice.ensures.cells ∙ c.are_same.ensures.0 h ∙ c.as_slice-2.ensures.cells),
      λ e.
          let all : storage_of c.args.t.now.size xs ≡ storage_of c.args.t.now.size ys = sym (ap (λ n. storage_of n xs) c.if-s-t.false) ∙ e in
          c.are_same.ensures.1 (c.as_slice.ensures.cells ∙ one_list c.args.t.now.size xs ys c.as_slice.ensures.listed c.as_slice-2.ensures.listed (subst (λ n. AreWithin n xs) c.if-s-t.false c.args.s.now.within) c.args.t.now.within all ∙ sym c.as_slice-2.ensures.cells),
    )
