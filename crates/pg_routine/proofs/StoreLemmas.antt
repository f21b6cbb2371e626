-- Stores made one by one, by pokes.
use Rattle.std.proofs.Common.{◌≡◌, ℕ, ◌+◌, ◌<◌, ◌≤◌, List, ◌∷◌, length, take, drop, slice_set, refl, sym, ◌∙◌, ap, subst, arith}
use Rattle.std.proofs.lemmas.List.{length-set, drop_all}
use Rattle.pg_word.specs.declared.psw.Psw.{Psw}
use Rattle.pg_lang_meaning.specs.States.{State}
use Rattle.pg_hw.specs.declared.counts.Counts.{Counts}
use Rattle.pg_hw.specs.Tallies.{raised_by, after_poke}
use Rattle.pg_hw.specs.Machinery.{Machinery, poked_at}
use Rattle.pg_interp.specs.declared.effect.Write.{Write}
use Rattle.pg_interp.specs.Writes.{written}
use Rattle.pg_interp.proofs.WriteLemmas.{written-length}
use Rattle.pg_routine.specs.Granting.{with_grant, PokedWithin, GrantPoked}
use Rattle.pg_routine.proofs.GrantLaws.{guest-length, guest-changed, with_grant-same, with_grant-over}

-- ---- pokes counted

pub PokedWithin-none : (c : Counts) → PokedWithin 0 c c
PokedWithin-none c = record { steps = refl; untrapped = refl; loads = refl; pokes = record { at_least = omega arith; at_most = omega arith } }

pub PokedWithin-next : (n : ℕ) (a b c : Counts) → PokedWithin n a b → c ≡ after_poke b → PokedWithin (n + 1) a c
PokedWithin-next n a b c p e =
    let one : c.pokes ≡ raised_by 1 b.pokes = ap (λ x. x.pokes) e in
    record {
      steps = ap (λ x. x.steps) e ∙ p.steps;
      untrapped = ap (λ x. x.untrapped) e ∙ p.untrapped;
      loads = ap (λ x. x.loads) e ∙ p.loads;
      pokes = record { at_least = omega (arith, one, p.pokes.at_least); at_most = omega (arith, one, p.pokes.at_most) };
    }

pub PokedWithin-more : (m n : ℕ) (a b : Counts) → m ≤ n → PokedWithin m a b → PokedWithin n a b
PokedWithin-more m n a b h p = record {
  steps = p.steps;
  untrapped = p.untrapped;
  loads = p.loads;
  pokes = record { at_least = p.pokes.at_least; at_most = omega (arith, h, p.pokes.at_most) };
}

-- one poke
pub PokedWithin-one : (n : ℕ) (a b : Counts) → 1 ≤ n → b ≡ after_poke a → PokedWithin n a b
PokedWithin-one n a b h e = PokedWithin-more (0 + 1) n a b (omega arith) (PokedWithin-next 0 a a b (PokedWithin-none a) e)

-- the same cells put into a grant
pub GrantPoked-as : (base n : ℕ) (xs ys : List ℕ) (old new : Machinery) → xs ≡ ys → GrantPoked base xs n old new → GrantPoked base ys n old new
GrantPoked-as base n xs ys old new e p = subst (λ l. GrantPoked base l n old new) e p

-- ---- stores under way

-- a hardware on which the first n of the stores into a run of cells were made, beside which nothing changed
pub record Storing (from len : ℕ) (writes : List Write) (n : ℕ) (old new : Machinery) : Type 0 where
  pub cells : with_grant new.state.cells from (written (drop n writes) (take len (drop from new.state.cells))) ≡ with_grant old.state.cells from (written writes (take len (drop from old.state.cells)))
  pub size : length new.state.cells ≡ length old.state.cells
  pub psw : new.state.psw ≡ old.state.psw
  pub tally : PokedWithin n old.tally new.tally
  pub bottom : new.bottom ≡ old.bottom

-- the next store, made
store-made : (from len : ℕ) (cells : List ℕ) (x : Write) (rest : List Write) → from + len ≤ length cells → x.at < len →
    with_grant (slice_set cells (from + x.at) x.cell) from (written rest (take len (drop from (slice_set cells (from + x.at) x.cell))))
    ≡ with_grant cells from (written (x ∷ rest) (take len (drop from cells)))
unfolding written
store-made from len cells x rest within inside =
    let w = take len (drop from cells) in
    let same : length (written rest (slice_set w x.at x.cell)) ≡ len =
    written-length rest (slice_set w x.at x.cell) ∙ length-set w x.at x.cell ∙ guest-length cells from len within in
    ap (λ v. with_grant (slice_set cells (from + x.at) x.cell) from (written rest v)) (guest-changed cells from len x.at x.cell inside)
    ∙ with_grant-over cells (written rest (slice_set w x.at x.cell)) from x.at x.cell (omega (arith, same, inside))

pub Storing-next : (from len : ℕ) (writes : List Write) (n : ℕ) (x : Write) (old mid new : Machinery) →
    Storing from len writes n old mid → drop n writes ≡ x ∷ drop (n + 1) writes → from + len ≤ length old.state.cells → x.at < len →
    new ≡ poked_at (from + x.at) x.cell mid → Storing from len writes (n + 1) old new
Storing-next from len writes n x old mid new p next within inside more = record {
  cells = ap (λ (h : Machinery). with_grant h.state.cells from (written (drop (n + 1) writes) (take len (drop from h.state.cells)))) more
      ∙ store-made from len mid.state.cells x (drop (n + 1) writes) (omega (arith, p.size, within)) inside
      ∙ ap (λ ws. with_grant mid.state.cells from (written ws (take len (drop from mid.state.cells)))) (sym next) ∙ p.cells;
  size = ap (λ (h : Machinery). length h.state.cells) more ∙ length-set mid.state.cells (from + x.at) x.cell ∙ p.size;
  psw = ap (λ (h : Machinery). h.state.psw) more ∙ p.psw;
  tally = PokedWithin-next n old.tally mid.tally new.tally p.tally (ap (λ (h : Machinery). h.tally) more);
  bottom = ap (λ (h : Machinery). h.bottom) more ∙ p.bottom;
}

-- all stores, made
pub Storing-all : (from len : ℕ) (writes : List Write) (n : ℕ) (old new : Machinery) → Storing from len writes n old new → n ≡ length writes → from + len ≤ length old.state.cells →
    GrantPoked from (written writes (take len (drop from old.state.cells))) (length writes) old new
unfolding written
Storing-all from len writes n old new p all within =
    let whole : new.state.cells ≡ with_grant old.state.cells from (written writes (take len (drop from old.state.cells))) =
    sym (with_grant-same new.state.cells from len (omega (arith, p.size, within)))
    ∙ sym (ap (λ ws. with_grant new.state.cells from (written ws (take len (drop from new.state.cells)))) (drop_all n writes (omega (arith, all)))) ∙ p.cells in
    record {
      state = ap (λ cs. let t : State = record { cells = cs; psw = new.state.psw } in t) whole
          ∙ ap (λ (x : Psw). let t : State = record { cells = with_grant old.state.cells from (written writes (take len (drop from old.state.cells))); psw = x } in t) p.psw;
      tally = PokedWithin-more n (length writes) old.tally new.tally (omega (arith, all)) p.tally;
      bottom = p.bottom;
    }
