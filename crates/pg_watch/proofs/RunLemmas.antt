-- A run over the literals that were set.
use Rattle.std.proofs.Common.{◌≡◌, ◌≢◌, ℕ, zero, suc, ◌+◌, ◌<◌, ◌≤◌, ◌⊎◌, inl, inr, true, false, not, ℤ, pos, neg_ℤ, List, [], ◌∷◌, ◌++◌, length, take, get_or, None, Some, refl, sym, ap, subst, ◌∙◌, arith, append_assoc}
use Rattle.std.specs.Option.{option_map}
use Rattle.std.proofs.lemmas.List.{take_all, take_more, append-nil, length-take, get_or-take}
use Rattle.std.proofs.Math.IntN.{neg_ℤ-neg_ℤ}
use Rattle.pg_cnf.specs.Literals.{IsLiteral}
use Rattle.pg_watch.specs.declared.lists.Watch.{Watch}
use Rattle.pg_watch.specs.declared.index.Pair.{Pair}
use Rattle.pg_watch.specs.Trail.{Trail, value_of, AreSet}
use Rattle.pg_watch.specs.Watching.{literals_at, pair_at, HasTrue, Has, IsAttached, Guards, IsSettled, IsIndex, Keeps}
use Rattle.pg_watch.specs.Runs.{IsNow, Runs}
use Rattle.pg_watch.proofs.Values.{value_of-push_same, value_of-push_other, value_of-neg}
use Rattle.pg_watch.proofs.Tables.{same_or_not, IsLiteral-neg}
use Rattle.pg_watch.proofs.Steps.{Extends-longer}
use Rattle.pg_watch.proofs.Keeps.{value_of-whole, HasTrue-whole, Keeps-same, Keeps-more}

-- a place of the trail
unset_after : (n : ℕ) (before zs : List ℤ) (i : ℕ) (d : ℤ) → AreSet n before zs → i < length zs → value_of (before ++ take i zs) (get_or zs i d) ≡ None
unset_after n before [] i d h lt = absurd (omega arith)
unset_after n before (z ∷ zs) zero d h lt = rw append-nil h.1
unset_after n before (z ∷ zs) (suc i) d h lt =
    subst (λ (xs : List ℤ). value_of xs (get_or zs i d) ≡ None) (append_assoc before (z ∷ []) (take i zs))
    (unset_after n (before ++ z ∷ []) zs i d h.2 (omega arith))

pub literal_after : (n : ℕ) (before zs : List ℤ) (i : ℕ) (d : ℤ) → AreSet n before zs → i < length zs → IsLiteral n (get_or zs i d)
literal_after n before [] i d h lt = absurd (omega arith)
literal_after n before (z ∷ zs) zero d h lt = h.0
literal_after n before (z ∷ zs) (suc i) d h lt = literal_after n (before ++ z ∷ []) zs i d h.2 (omega arith)

pub record IsNextLiteral (n : ℕ) (zs : List ℤ) (i : ℕ) (p : ℤ) : Type 0 where
  pub literal : IsLiteral n p
  pub unset : value_of (take i zs) p ≡ None
  pub more : take (i + 1) zs ≡ take i zs ++ p ∷ []

pub next_literal : (n : ℕ) (zs : List ℤ) (i : ℕ) (p : ℤ) → AreSet n [] zs → i < length zs → p ≡ get_or zs i p → IsNextLiteral n zs i p
next_literal n zs i p h lt e = record {
  literal = subst (IsLiteral n) (sym e) (literal_after n [] zs i p h lt);
  unset = ap (value_of (take i zs)) e ∙ unset_after n [] zs i p h lt;
  more = take_more zs i p lt ∙ ap (λ (z : ℤ). take i zs ++ z ∷ []) (sym e);
}

pub gone_literal : (n : ℕ) (zs : List ℤ) (i : ℕ) (p : ℤ) → IsNextLiteral n zs i p → IsLiteral n (neg_ℤ p)
gone_literal n zs i p h = IsLiteral-neg n p h.literal

pub gone_false : (n : ℕ) (zs : List ℤ) (i : ℕ) (p : ℤ) → IsNextLiteral n zs i p → value_of zs (neg_ℤ p) ≡ Some false
gone_false n zs i p h =
    let own : value_of (take (i + 1) zs) p ≡ Some true = ap (λ (xs : List ℤ). value_of xs p) h.more ∙ value_of-push_same (take i zs) p h.unset in
    value_of-neg zs p h.literal.0 ∙ ap (option_map not) (value_of-whole (i + 1) zs p true own)

-- what was true among all is true
pub true_all : (zs c : List ℤ) → HasTrue zs c → HasTrue (take (length zs) zs) c
true_all zs c h = subst (λ (xs : List ℤ). HasTrue xs c) (sym (take_all (length zs) zs (omega arith))) h

module _ (cs : List (List ℤ)) where
  pub now-keeps : (s t : Trail) (ls ms : List (List Watch)) (ps qs : List Pair) (h k : ℕ) → Keeps cs s t ls ms ps qs → h ≤ length s.literals →
      k < length cs → IsNow cs s.literals ps h k → IsNow cs t.literals qs h k
  now-keeps s t ls ms ps qs h k keeps le lt now =
      let kept = keeps.guarded k h (length s.literals) lt le (omega arith) now in
      let first : Guards t.literals h (length t.literals) (literals_at cs k) (pair_at qs k).first =
      λ e. true_all t.literals (literals_at cs k) (HasTrue-whole (length s.literals) t.literals (literals_at cs k) (kept.0 e)) in
      let second : Guards t.literals h (length t.literals) (literals_at cs k) (pair_at qs k).second =
      λ e. true_all t.literals (literals_at cs k) (HasTrue-whole (length s.literals) t.literals (literals_at cs k) (kept.1 e)) in
      (first, second)

  module _ (n : ℕ) (zs : List ℤ) (ps : List Pair) (h k : ℕ) (p : ℤ) (next : IsNextLiteral n zs h p)
      (settled : IsSettled cs zs ps (neg_ℤ p) k) where
    other-cases : (w : ℤ) → (p ≡ w) ⊎ (p ≢ w) → (w ≡ neg_ℤ p → ⊥) → value_of (take (h + 1) zs) w ≡ Some false → value_of (take h zs) w ≡ Some false
    other-cases w (inl same) d e =
        let own : value_of (take (h + 1) zs) p ≡ Some true = ap (λ (xs : List ℤ). value_of xs p) next.more ∙ value_of-push_same (take h zs) p next.unset in
        absurd (let f : Some true ≡ Some false = sym own ∙ ap (value_of (take (h + 1) zs)) same ∙ e in cc)
    other-cases w (inr other) d e =
        sym (value_of-push_other (take h zs) p w other (λ f. d (sym (neg_ℤ-neg_ℤ w) ∙ ap neg_ℤ (sym f))))
        ∙ ap (λ (xs : List ℤ). value_of xs w) (sym next.more) ∙ e

    guards-cases : (w : ℤ) → (w ≡ neg_ℤ p) ⊎ (w ≢ neg_ℤ p) → Has (pair_at ps k) w → Guards zs h (length zs) (literals_at cs k) w →
        Guards zs (h + 1) (length zs) (literals_at cs k) w
    guards-cases w (inl same) has guard e = true_all zs (literals_at cs k) (settled (subst (Has (pair_at ps k)) same has))
    guards-cases w (inr other) has guard e = guard (other-cases w (same_or_not p w) other e)

    pub now-next : IsNow cs zs ps h k → IsNow cs zs ps (h + 1) k
    now-next now =
        let p1 = pair_at ps k in
        (guards-cases p1.first (same_or_not p1.first (neg_ℤ p)) (inl refl) now.0, guards-cases p1.second (same_or_not p1.second (neg_ℤ p)) (inr refl) now.1)

  -- runs, one after another
  pub Runs-keeps : (s t : Trail) (ls ms : List (List Watch)) (ps qs : List Pair) (h : ℕ) → Keeps cs s t ls ms ps qs → h ≤ length s.literals →
      Runs cs s t ls ms ps qs h h
  Runs-keeps s t ls ms ps qs h k le = record {
    keeps = k;
    rises = omega arith;
    within = omega (arith, le, Extends-longer s t k.steps.extends);
    now = λ i lt a now. now-keeps s t ls ms ps qs h i k le lt now;
  }

  pub Runs-none : (s : Trail) (ls : List (List Watch)) (ps : List Pair) (h : ℕ) → IsIndex cs s ls ps → h ≤ length s.literals → Runs cs s s ls ls ps ps h h
  Runs-none s ls ps h index le = Runs-keeps s s ls ls ps ps h (Keeps-same cs s ls ps index.trail) le

  pub Runs-more : (r s t : Trail) (ks ls ms : List (List Watch)) (os ps qs : List Pair) (h i j : ℕ) → Runs cs r s ks ls os ps h i →
      Runs cs s t ls ms ps qs i j → Runs cs r t ks ms os qs h j
  Runs-more r s t ks ls ms os ps qs h i j a b = record {
    keeps = Keeps-more cs r s t ks ls ms os ps qs a.keeps b.keeps;
    rises = omega (arith, a.rises, b.rises);
    within = b.within;
    now = λ k lt attached now. b.now k lt (a.keeps.attached k lt attached) (a.now k lt attached now);
  }

  -- all clauses that watch the literal at the head were visited
  pub Runs-step : (s t : Trail) (ls ms : List (List Watch)) (ps qs : List Pair) (h : ℕ) (p : ℤ) → Keeps cs s t ls ms ps qs → h < length s.literals →
      IsNextLiteral t.variables t.literals h p →
      ((k : ℕ) → k < length cs → IsAttached cs ms qs k → IsSettled cs t.literals qs (neg_ℤ p) k) → Runs cs s t ls ms ps qs h (h + 1)
  Runs-step s t ls ms ps qs h p k lt next settled = record {
    keeps = k;
    rises = omega arith;
    within = omega (arith, lt, Extends-longer s t k.steps.extends);
    now = λ i less attached now.
        now-next t.variables t.literals qs h i p next (settled i less (k.attached i less attached))
        (now-keeps s t ls ms ps qs h i k (omega arith) less now);
  }

-- the literal at a place stays there
pub next-later : (s t : Trail) (h : ℕ) (p : ℤ) → AreSet t.variables [] t.literals → take (length s.literals) t.literals ≡ s.literals → h < length s.literals →
    p ≡ get_or s.literals h p → IsNextLiteral t.variables t.literals h p
next-later s t h p set e lt f =
    let less : h < length t.literals = omega (arith, ap length e, length-take (length s.literals) t.literals) in
    let same : get_or s.literals h p ≡ get_or t.literals h p =
    ap (λ (xs : List ℤ). get_or xs h p) (sym e) ∙ get_or-take (length s.literals) t.literals h p lt in
    next_literal t.variables t.literals h p set less (f ∙ same)

-- with the default that the code reads
pub next_at : (n : ℕ) (zs : List ℤ) (i : ℕ) → AreSet n [] zs → i < length zs → IsNextLiteral n zs i (get_or zs i (pos 0))
next_at n zs i h lt = record {
  literal = literal_after n [] zs i (pos 0) h lt;
  unset = unset_after n [] zs i (pos 0) h lt;
  more = take_more zs i (pos 0) lt;
}

pub next_at_later : (s t : Trail) (h : ℕ) → AreSet t.variables [] t.literals → take (length s.literals) t.literals ≡ s.literals → h < length s.literals →
    IsNextLiteral t.variables t.literals h (get_or s.literals h (pos 0))
next_at_later s t h set e lt =
    let less : h < length t.literals = omega (arith, ap length e, length-take (length s.literals) t.literals) in
    let same : get_or t.literals h (pos 0) ≡ get_or s.literals h (pos 0) =
    sym (get_or-take (length s.literals) t.literals h (pos 0) lt) ∙ ap (λ (xs : List ℤ). get_or xs h (pos 0)) e in
    subst (IsNextLiteral t.variables t.literals h) same (next_at t.variables t.literals h set less)
