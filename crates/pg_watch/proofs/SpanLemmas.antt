-- Runs of a list stay where it grows.
use Rattle.std.proofs.Common.{◌≡◌, ℕ, zero, suc, ◌+◌, ◌-◌, ◌<◌, ◌≤◌, ℤ, List, [], ◌∷◌, ◌++◌, length, take, drop, get_or, refl, sym, ap, subst, ◌∙◌, arith, length-append, length-drop}
use Rattle.std.specs.List.{slice_range}
use Rattle.std.proofs.lemmas.List.{take-append-le, drop-append-le, take_all, drop_at, map-append, get_or-map}
use Rattle.pg_watch.specs.declared.arena.Span.{Span}
use Rattle.pg_watch.specs.Spans.{clauses_in, AreSpans}

slice_range-append : (xs ys : List ℤ) (i j : ℕ) → i ≤ j → j ≤ length xs → slice_range (xs ++ ys) i j ≡ slice_range xs i j
slice_range-append xs ys i j le within =
    ap (take (j - i)) (drop-append-le i xs ys (omega arith))
    ∙ take-append-le (j - i) (drop i xs) ys (omega (arith, length-drop i xs))

slice_range-last : (xs ys : List ℤ) (j : ℕ) → j ≡ length xs + length ys → slice_range (xs ++ ys) (length xs) j ≡ ys
slice_range-last xs ys j e = ap (take (j - length xs)) (drop_at xs ys (length xs) refl) ∙ take_all (j - length xs) ys (omega arith)

clauses_in-append : (xs ys : List ℤ) (ss : List Span) → AreSpans (length xs) ss → clauses_in (xs ++ ys) ss ≡ clauses_in xs ss
clauses_in-append xs ys [] h = refl
clauses_in-append xs ys (s ∷ ss) h =
    let e = slice_range-append xs ys s.start s.end h.0 h.1 in let f = clauses_in-append xs ys ss h.2 in
    λ i. e i ∷ f i

AreSpans-more : (m n : ℕ) (ss : List Span) → m ≤ n → AreSpans m ss → AreSpans n ss
AreSpans-more m n [] le h = tt
AreSpans-more m n (s ∷ ss) le h = (h.0, omega (arith, h.1), AreSpans-more m n ss le h.2)

AreSpans-push : (n : ℕ) (ss : List Span) (s : Span) → AreSpans n ss → s.start ≤ s.end → s.end ≤ n → AreSpans n (ss ++ s ∷ [])
AreSpans-push n [] s h le within = (le, within, tt)
AreSpans-push n (t ∷ ss) s h le within = (h.0, h.1, AreSpans-push n ss s h.2 le within)

-- a span that is there
pub record Lies (total : ℕ) (s : Span) : Type 0 where
  pub start : s.start ≤ s.end
  pub end : s.end ≤ total

pub AreSpans-at : (n : ℕ) (ss : List Span) (k : ℕ) (d : Span) → AreSpans n ss → k < length ss → Lies n (get_or ss k d)
AreSpans-at n [] k d h lt = absurd (omega arith)
AreSpans-at n (s ∷ ss) zero d h lt = record { start = h.0; end = h.1 }
AreSpans-at n (s ∷ ss) (suc k) d h lt = AreSpans-at n ss k d h.2 (omega arith)

pub lies : (n : ℕ) (ss : List Span) (k : ℕ) (s : Span) → AreSpans n ss → k < length ss → s ≡ get_or ss k s → Lies n s
lies n ss k s h lt e = subst (Lies n) (sym e) (AreSpans-at n ss k s h lt)

pub clauses_in-at : (xs : List ℤ) (ss : List Span) (k : ℕ) (s : Span) → k < length ss → s ≡ get_or ss k s →
    get_or (clauses_in xs ss) k [] ≡ slice_range xs s.start s.end
clauses_in-at xs ss k s lt e =
    get_or-map (λ (t : Span). slice_range xs t.start t.end) ss k s [] lt ∙ ap (λ (t : Span). slice_range xs t.start t.end) (sym e)

pub length-clauses_in : (xs : List ℤ) (ss : List Span) → length (clauses_in xs ss) ≡ length ss
length-clauses_in xs [] = refl
length-clauses_in xs (s ∷ ss) = ap suc (length-clauses_in xs ss)

-- the literals alone, and with a span of them
pub record Grown (xs xs' : List ℤ) (ss ss' : List Span) : Type 0 where
  pub spans : AreSpans (length xs') ss'
  pub clauses : clauses_in xs' ss' ≡ clauses_in xs ss

pub grown : (xs xs' ys : List ℤ) (ss ss' : List Span) → AreSpans (length xs) ss → xs' ≡ xs ++ ys → ss' ≡ ss → Grown xs xs' ss ss'
grown xs xs' ys ss ss' h e f = record {
  spans = subst (AreSpans (length xs')) (sym f) (AreSpans-more (length xs) (length xs') ss (omega (arith, length-append xs ys, ap length e)) h);
  clauses = (λ i. clauses_in (e i) (f i)) ∙ clauses_in-append xs ys ss h;
}

pub record GrownBy (xs xs' ys : List ℤ) (ss ss' : List Span) : Type 0 where
  pub spans : AreSpans (length xs') ss'
  pub clauses : clauses_in xs' ss' ≡ clauses_in xs ss ++ ys ∷ []

pub grown_by : (xs xs' ys : List ℤ) (ss ss' : List Span) (s : Span) → AreSpans (length xs) ss → s.start ≡ length xs → s.end ≡ length xs' →
    xs' ≡ xs ++ ys → ss' ≡ ss ++ s ∷ [] → GrownBy xs xs' ys ss ss'
grown_by xs xs' ys ss ss' s h start end e f =
    let long : length xs' ≡ length xs + length ys = ap length e ∙ length-append xs ys in
    let own : slice_range (xs ++ ys) s.start s.end ≡ ys =
    ap (λ (i : ℕ). slice_range (xs ++ ys) i s.end) start ∙ slice_range-last xs ys s.end (end ∙ long) in
    let old = clauses_in-append xs ys ss h in
    record {
      spans = subst (AreSpans (length xs')) (sym f)
          (AreSpans-push (length xs') ss s (AreSpans-more (length xs) (length xs') ss (omega arith) h) (omega arith) (omega arith));
      clauses = (λ i. clauses_in (e i) (f i)) ∙ map-append (λ (t : Span). slice_range (xs ++ ys) t.start t.end) ss (s ∷ []) ∙ (λ i. old i ++ own i ∷ []);
    }
