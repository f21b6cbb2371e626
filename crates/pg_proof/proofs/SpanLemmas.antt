-- Runs of a list stay where it grows.
use Rattle.std.proofs.Common.{◌≡◌, ℕ, zero, suc, ◌+◌, ◌-◌, ◌<◌, ◌≤◌, ℤ, List, [], ◌∷◌, ◌++◌, length, take, drop, get_or, set, Option, Some, None, slice_get, refl, sym, ap, subst, ◌∙◌, arith, length-append, length-drop}
use Rattle.std.specs.List.{slice_range}
use Rattle.std.specs.Option.{option_and_then}
use Rattle.std.proofs.lemmas.List.{take-append-le, drop-append-le, take_all, take_more, drop_at, map-append, map-set}
use Rattle.std.proofs.lemmas.Option.{same_Some, slice_get-get_or}
use Rattle.pg_proof.specs.declared.store.Span.{Span}
use Rattle.pg_proof.specs.Spans.{run_in, held_in, AreSpans}

slice_range-append : (xs ys : List ℤ) (i j : ℕ) → i ≤ j → j ≤ length xs → slice_range (xs ++ ys) i j ≡ slice_range xs i j
slice_range-append xs ys i j le within =
    ap (take (j - i)) (drop-append-le i xs ys (omega arith))
    ∙ take-append-le (j - i) (drop i xs) ys (omega (arith, length-drop i xs))

slice_range-last : (xs ys : List ℤ) (j : ℕ) → j ≡ length xs + length ys → slice_range (xs ++ ys) (length xs) j ≡ ys
slice_range-last xs ys j e = ap (take (j - length xs)) (drop_at xs ys (length xs) refl) ∙ take_all (j - length xs) ys (omega arith)

held_in-append : (xs ys : List ℤ) (ss : List (Option Span)) → AreSpans (length xs) ss → held_in (xs ++ ys) ss ≡ held_in xs ss
held_in-append xs ys [] h = refl
held_in-append xs ys (None ∷ ss) h = ap (λ cs. None ∷ cs) (held_in-append xs ys ss h)
held_in-append xs ys (Some s ∷ ss) h =
    let e = slice_range-append xs ys s.start s.end h.0 h.1 in let f = held_in-append xs ys ss h.2 in
    λ i. Some (e i) ∷ f i

AreSpans-more : (m n : ℕ) (ss : List (Option Span)) → m ≤ n → AreSpans m ss → AreSpans n ss
AreSpans-more m n [] le h = tt
AreSpans-more m n (None ∷ ss) le h = AreSpans-more m n ss le h
AreSpans-more m n (Some s ∷ ss) le h = (h.0, omega (arith, h.1), AreSpans-more m n ss le h.2)

AreSpans-push : (n : ℕ) (ss : List (Option Span)) (s : Span) → AreSpans n ss → s.start ≤ s.end → s.end ≤ n → AreSpans n (ss ++ Some s ∷ [])
AreSpans-push n [] s h le within = (le, within, tt)
AreSpans-push n (None ∷ ss) s h le within = AreSpans-push n ss s h le within
AreSpans-push n (Some t ∷ ss) s h le within = (h.0, h.1, AreSpans-push n ss s h.2 le within)

pub AreSpans-none : (n : ℕ) (ss : List (Option Span)) → AreSpans n ss → AreSpans n (ss ++ None ∷ [])
AreSpans-none n [] h = tt
AreSpans-none n (None ∷ ss) h = AreSpans-none n ss h
AreSpans-none n (Some s ∷ ss) h = (h.0, h.1, AreSpans-none n ss h.2)

pub AreSpans-gone : (n : ℕ) (ss : List (Option Span)) (k : ℕ) → AreSpans n ss → AreSpans n (set ss k None)
AreSpans-gone n [] k h = tt
AreSpans-gone n (None ∷ ss) zero h = h
AreSpans-gone n (None ∷ ss) (suc k) h = AreSpans-gone n ss k h
AreSpans-gone n (Some s ∷ ss) zero h = h.2
AreSpans-gone n (Some s ∷ ss) (suc k) h = (h.0, h.1, AreSpans-gone n ss k h.2)

pub held_in-none : (xs : List ℤ) (ss : List (Option Span)) → held_in xs (ss ++ None ∷ []) ≡ held_in xs ss ++ None ∷ []
held_in-none xs ss = map-append (run_in xs) ss (None ∷ [])

pub held_in-gone : (xs : List ℤ) (ss : List (Option Span)) (k : ℕ) → held_in xs (set ss k None) ≡ set (held_in xs ss) k None
held_in-gone xs ss k = map-set (run_in xs) ss k None

-- a span that is there
pub record Lies (total : ℕ) (s : Span) : Type 0 where
  pub start : s.start ≤ s.end
  pub end : s.end ≤ total

pub AreSpans-at : (n : ℕ) (ss : List (Option Span)) (k : ℕ) (s : Span) → AreSpans n ss → slice_get ss k ≡ Some (Some s) → Lies n s
AreSpans-at n [] k s h e = cc
AreSpans-at n (None ∷ ss) zero s h e = cc
AreSpans-at n (Some t ∷ ss) zero s h e = let same : t ≡ s = cc in subst (Lies n) same (record { start = h.0; end = h.1 })
AreSpans-at n (None ∷ ss) (suc k) s h e = AreSpans-at n ss k s h e
AreSpans-at n (Some t ∷ ss) (suc k) s h e = AreSpans-at n ss k s h.2 e

-- what is held at a place, by what stands there
pub held_in-out : (xs : List ℤ) (ss : List (Option Span)) (k : ℕ) → slice_get ss k ≡ None → option_and_then (λ c. c) (slice_get (held_in xs ss) k) ≡ None
held_in-out xs [] k e = refl
held_in-out xs (s ∷ ss) zero e = cc
held_in-out xs (s ∷ ss) (suc k) e = held_in-out xs ss k e

pub held_in-at : (xs : List ℤ) (ss : List (Option Span)) (k : ℕ) (s : Option Span) → slice_get ss k ≡ Some s →
    option_and_then (λ c. c) (slice_get (held_in xs ss) k) ≡ run_in xs s
held_in-at xs [] k s e = cc
held_in-at xs (t ∷ ss) zero s e = let same : t ≡ s = cc in ap (run_in xs) same
held_in-at xs (t ∷ ss) (suc k) s e = held_in-at xs ss k s e

pub held_in-there : (xs : List ℤ) (ss : List (Option Span)) (k : ℕ) (s : Span) → slice_get ss k ≡ Some (Some s) →
    slice_get (held_in xs ss) k ≡ Some (Some (slice_range xs s.start s.end))
held_in-there xs [] k s e = cc
held_in-there xs (t ∷ ss) zero s e = let same : t ≡ Some s = cc in ap (λ o. Some (run_in xs o)) same
held_in-there xs (t ∷ ss) (suc k) s e = held_in-there xs ss k s e

flat : (o : Option (Option (List ℤ))) (d : Option (List ℤ)) → o ≡ Some d → option_and_then (λ c. c) o ≡ d
flat None d e = cc
flat (Some x) d e = same_Some x d e

-- one clause more is copied
pub held-next : (held made made' : List (Option (List ℤ))) (i : ℕ) (o : Option (List ℤ)) → i < length held → o ≡ option_and_then (λ c. c) (slice_get held i) →
    made ≡ take i held → made' ≡ made ++ o ∷ [] → made' ≡ take (i + 1) held
held-next held made made' i o lt e before after =
    after ∙ (λ j. before j ++ (e ∙ flat (slice_get held i) (get_or held i None) (slice_get-get_or held i None lt)) j ∷ []) ∙ sym (take_more held i None lt)

pub length-held_in : (xs : List ℤ) (ss : List (Option Span)) → length (held_in xs ss) ≡ length ss
length-held_in xs [] = refl
length-held_in xs (s ∷ ss) = ap suc (length-held_in xs ss)

-- the literals alone, and with a span of them
pub record Grown (xs xs' : List ℤ) (ss ss' : List (Option Span)) : Type 0 where
  pub spans : AreSpans (length xs') ss'
  pub clauses : held_in xs' ss' ≡ held_in xs ss

pub grown : (xs xs' ys : List ℤ) (ss ss' : List (Option Span)) → AreSpans (length xs) ss → xs' ≡ xs ++ ys → ss' ≡ ss → Grown xs xs' ss ss'
grown xs xs' ys ss ss' h e f = record {
  spans = subst (AreSpans (length xs')) (sym f) (AreSpans-more (length xs) (length xs') ss (omega (arith, length-append xs ys, ap length e)) h);
  clauses = (λ i. held_in (e i) (f i)) ∙ held_in-append xs ys ss h;
}

pub record GrownBy (xs xs' ys : List ℤ) (ss ss' : List (Option Span)) : Type 0 where
  pub spans : AreSpans (length xs') ss'
  pub clauses : held_in xs' ss' ≡ held_in xs ss ++ Some ys ∷ []

pub grown_by : (xs xs' ys : List ℤ) (ss ss' : List (Option Span)) (s : Span) → AreSpans (length xs) ss → s.start ≡ length xs → s.end ≡ length xs' →
    xs' ≡ xs ++ ys → ss' ≡ ss ++ Some s ∷ [] → GrownBy xs xs' ys ss ss'
grown_by xs xs' ys ss ss' s h start end e f =
    let long : length xs' ≡ length xs + length ys = ap length e ∙ length-append xs ys in
    let own : slice_range (xs ++ ys) s.start s.end ≡ ys =
    ap (λ (i : ℕ). slice_range (xs ++ ys) i s.end) start ∙ slice_range-last xs ys s.end (end ∙ long) in
    let old = held_in-append xs ys ss h in
    record {
      spans = subst (AreSpans (length xs')) (sym f)
          (AreSpans-push (length xs') ss s (AreSpans-more (length xs) (length xs') ss (omega arith) h) (omega arith) (omega arith));
      clauses = (λ i. held_in (e i) (f i)) ∙ map-append (run_in (xs ++ ys)) ss (Some s ∷ []) ∙ (λ i. old i ++ Some (own i) ∷ []);
    }
