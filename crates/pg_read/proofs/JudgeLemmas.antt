-- What the goals say of tokens that are no description's is what the text asks for.
use Rattle.std.proofs.Common.{◌≡◌, ◌≢◌, ℕ, suc, ◌+◌, ◌<◌, ◌≤◌, Bool, true, false, cond, ◌||◌, map, List, [], ◌∷◌, ◌++◌, length, take, drop, get_or, Option, None, Some, ap, sym, ◌∙◌, subst, refl, arith, ◌⊎◌, inl, inr}
use Rattle.std.proofs.Math.Seq.{take-append_seam, take-append-add, get_or-append_seam}
use Rattle.std.proofs.lemmas.List.{drop_more, drop_all, append_assoc, append-nil, map-append, length-append, length-map}
use Rattle.pg_lang_token.specs.declared.tok.Tok.{Tok}
use Rattle.pg_text.specs.declared.place.Span.{Span}
use Rattle.pg_ast.specs.declared.tree.Desc.{Desc}
use Rattle.pg_ast.specs.Tokens.{tokens_of}
use Rattle.pg_read.specs.declared.goals.Goal.{Goal}
use Rattle.pg_read.specs.declared.fault.DescFault.{DescFault}
use Rattle.pg_read.specs.declared.fault.DescFault.TheVariants.{Long, Token, Grammar, Deep, Memory}
use Rattle.pg_read.specs.Marks.{Mark, is_deep, has_deep}
use Rattle.pg_read.specs.Fronts.{IsMarkedFront, IsAllowed, EndsEarly}
use Rattle.pg_read.specs.Goals.{Sinks, Leaves, outcome, taken, desc_goals, judged_by, judged}
use Rattle.pg_read.specs.Answer.{toks, place_of, IsWrongThere, IsDeepThere}
use Rattle.pg_read.proofs.Traces.{trace}
use Rattle.pg_read.proofs.StmtTraces.{with_marks-some}
use Rattle.pg_read.proofs.FrontLemmas.{trace-append, with_marks-none, front_traced, traced_front}

-- what is to be known of a fault of these tokens, of which no description has all
abbrev pub Says : List (Tok × Span) → (end : ℕ) → DescFault → Type 0
Says all end Long = ⊥
Says all end (Token place) = ⊥
Says all end (Grammar place) = IsWrongThere all place ⊎ (EndsEarly (toks all) × (place ≡ end))
Says all end (Deep place) = IsDeepThere all place
Says all end Memory = ⊥

deep-more : (b : Bool) (ms ns : List Mark) → b || has_deep ms ≡ false → (has_deep ms ≡ false → has_deep (ms ++ ns) ≡ false) → b || has_deep (ms ++ ns) ≡ false
deep-more true ms ns h more = h
deep-more false ms ns h more = more h

deep-append : (ms ns : List Mark) → has_deep ms ≡ false → has_deep ns ≡ false → has_deep (ms ++ ns) ≡ false
deep-append [] ns h k = k
deep-append (m ∷ ms) ns h k = deep-more (is_deep m) ms ns h (λ e. deep-append ms ns e k)

-- where a token stands among others
module _ (before : List (Tok × Span)) (t : Tok × Span) (ts : List (Tok × Span)) where
  pub until : take (length before) (toks (before ++ t ∷ ts)) ≡ toks before
  until = rw (map-append (λ p. p.0) before (t ∷ ts), ← (length-map before (λ p. p.0))) (take-append_seam (toks before) (t.0 ∷ toks ts))

  pub through : take (suc (length before)) (toks (before ++ t ∷ ts)) ≡ toks before ++ t.0 ∷ []
  through =
      let n : suc (length before) ≡ length (toks before) + 1 = omega (arith, length-map before (λ p. p.0)) in
      rw (n, map-append (λ p. p.0) before (t ∷ ts)) (take-append-add (toks before) (t.0 ∷ toks ts) 1)

  inside : length before < length (toks (before ++ t ∷ ts))
  inside = rw (map-append (λ p. p.0) before (t ∷ ts), length-append (toks before) (t.0 ∷ toks ts), length-map before (λ p. p.0)) (omega arith)

  pub stands : place_of (before ++ t ∷ ts) (length before) ≡ t.1.from
  stands = rw (map-append (λ p. p.1.from) before (t ∷ ts), ← (length-map before (λ p. p.1.from))) (get_or-append_seam (map (λ p. p.1.from) before) t.1.from (map (λ p. p.1.from) ts) 0)

-- one token more
pub one_more : (ts : List Tok) (t : Tok) (marks : List Mark) (gs left : List Goal) (m : Mark) → trace desc_goals ts ≡ Some (marks, gs) → taken gs t ≡ Some (m, left) →
    trace desc_goals (ts ++ t ∷ []) ≡ Some (marks ++ m ∷ [], left)
one_more ts t marks gs left m e h = trace-append ts (t ∷ []) desc_goals ∙ rw (e, h) (with_marks-some marks (m ∷ []) left)

pub none_more : (ts : List Tok) (t : Tok) (marks : List Mark) (gs : List Goal) → trace desc_goals ts ≡ Some (marks, gs) → taken gs t ≡ None → trace desc_goals (ts ++ t ∷ []) ≡ None
none_more ts t marks gs e h = trace-append ts (t ∷ []) desc_goals ∙ rw (e, h) (with_marks-none marks)

allowed : (ts : List Tok) (marks : List Mark) (gs : List Goal) → trace desc_goals ts ≡ Some (marks, gs) → has_deep marks ≡ false → IsAllowed ts
allowed ts marks gs e shallow = record { marks = marks; front = traced_front ts marks gs e; shallow = shallow }

module _ (before : List (Tok × Span)) (t : Tok × Span) (ts : List (Tok × Span)) (marks : List Mark) (gs : List Goal) (e : trace desc_goals (toks before) ≡ Some (marks, gs)) (shallow : has_deep marks ≡ false) where
  wrong-here : taken gs t.0 ≡ None → IsWrongThere (before ++ t ∷ ts) t.1.from
  wrong-here h = record {
    at = length before;
    wrong = record {
      inside = inside before t ts;
      allowed = subst IsAllowed (sym (until before t ts)) (allowed (toks before) marks gs e shallow);
      wrong = λ ms front.
          let here = front_traced (toks before ++ t.0 ∷ []) ms (subst (λ us. IsMarkedFront us ms) (through before t ts) front) in
          let none = none_more (toks before) t.0 marks gs e h in
          let no : None ≡ Some (ms, here.0) = sym none ∙ here.1 in cc;
    };
    place_is = stands before t ts;
  }

  deep-here : (m : Mark) (left : List Goal) → taken gs t.0 ≡ Some (m, left) → is_deep m ≡ true → IsDeepThere (before ++ t ∷ ts) t.1.from
  deep-here m left h deep = record {
    at = length before;
    deep = record {
      inside = inside before t ts;
      allowed = subst IsAllowed (sym (until before t ts)) (allowed (toks before) marks gs e shallow);
      marks = marks;
      last = m;
      deep = deep;
      front = subst (λ us. IsMarkedFront us (marks ++ m ∷ [])) (sym (through before t ts)) (traced_front (toks before ++ t.0 ∷ []) (marks ++ m ∷ []) left (one_more (toks before) t.0 marks gs left m e h));
    };
    place_is = stands before t ts;
  }

module _ (end : ℕ) where
  deep-says : (before : List (Tok × Span)) (t : Tok × Span) (ts : List (Tok × Span)) (marks : List Mark) (gs : List Goal) → trace desc_goals (toks before) ≡ Some (marks, gs) → has_deep marks ≡ false →
      (p : Mark × List Goal) → taken gs t.0 ≡ Some p →
      ((m : Mark) (left : List Goal) → taken gs t.0 ≡ Some (m, left) → is_deep m ≡ false → Says (before ++ t ∷ ts) end (judged end left ts)) →
      (b : Bool) → is_deep p.0 ≡ b → Says (before ++ t ∷ ts) end (judged_by (cond b Sinks (Leaves p.1)) t.1.from (λ left. judged end left ts))
  deep-says before t ts marks gs e shallow p h more true deep = deep-here before t ts marks gs e shallow p.0 p.1 h deep
  deep-says before t ts marks gs e shallow p h more false low = more p.0 p.1 h low

  step-says : (before : List (Tok × Span)) (t : Tok × Span) (ts : List (Tok × Span)) (marks : List Mark) (gs : List Goal) → trace desc_goals (toks before) ≡ Some (marks, gs) → has_deep marks ≡ false →
      ((m : Mark) (left : List Goal) → taken gs t.0 ≡ Some (m, left) → is_deep m ≡ false → Says (before ++ t ∷ ts) end (judged end left ts)) →
      (x : Option (Mark × List Goal)) → taken gs t.0 ≡ x → Says (before ++ t ∷ ts) end (judged_by (outcome x) t.1.from (λ left. judged end left ts))
  step-says before t ts marks gs e shallow more None h = inl (wrong-here before t ts marks gs e shallow h)
  step-says before t ts marks gs e shallow more (Some p) h = deep-says before t ts marks gs e shallow p h more (is_deep p.0) refl

  judged-says : (left before : List (Tok × Span)) (marks : List Mark) (gs : List Goal) → trace desc_goals (toks before) ≡ Some (marks, gs) → has_deep marks ≡ false →
      ((d : Desc) → tokens_of d ≢ toks (before ++ left)) → Says (before ++ left) end (judged end gs left)
  unfolding judged
  judged-says [] before marks gs e shallow none =
      inr (record { allowed = subst IsAllowed (ap toks (sym (append-nil before))) (allowed (toks before) marks gs e shallow); none = none }, refl)
  judged-says (t ∷ ts) before marks gs e shallow none =
      step-says before t ts marks gs e shallow (λ m left h low.
      let same : (before ++ t ∷ []) ++ ts ≡ before ++ t ∷ ts = append_assoc before (t ∷ []) ts in
      let here : trace desc_goals (toks (before ++ t ∷ [])) ≡ Some (marks ++ m ∷ [], left) = rw (map-append (λ p. p.0) before (t ∷ [])) (one_more (toks before) t.0 marks gs left m e h) in
      subst (λ all. Says all end (judged end left ts)) same
      (judged-says ts (before ++ t ∷ []) (marks ++ m ∷ []) left here (deep-append marks (m ∷ []) shallow (rw low refl)) (λ d. rw same (none d)))) (taken gs t.0) refl

-- what the goals say
pub judged_says : (end : ℕ) (all : List (Tok × Span)) → ((d : Desc) → tokens_of d ≢ toks all) → Says all end (judged end desc_goals all)
judged_says end all none = judged-says end all [] [] desc_goals refl refl none

-- ---- the loop over tokens

-- what is left of tokens, from one of them on
pub judged-left : (end : ℕ) (gs : List Goal) (ts : List (Tok × Span)) (i : ℕ) (t : Tok × Span) → i < length ts → t ≡ get_or ts i t → judged end gs (drop i ts) ≡ judged_by (outcome (taken gs t.0)) t.1.from (λ left. judged end left (drop (i + 1) ts))
unfolding judged
judged-left end gs ts i t h is = ap (judged end gs) (drop_more ts i t h ∙ ap (λ x. x ∷ drop (i + 1) ts) (sym is))

-- and at their end
pub judged-over : (end : ℕ) (gs : List Goal) (ts : List (Tok × Span)) (i : ℕ) → length ts ≤ i → judged end gs (drop i ts) ≡ Grammar end
unfolding judged
judged-over end gs ts i h = ap (judged end gs) (drop_all i ts h)

pub ruleset judge_rules = (judged-left, judged-over)
