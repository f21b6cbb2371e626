-- The answer that a text asks for.
use Rattle.std.proofs.Common.{◌≡◌, ◌≢◌, ℕ, zero, suc, ◌≤◌, ◌<◌, Bool, true, false, cond, ◌||◌, nat_lt, List, [], ◌∷◌, ◌++◌, length, take, drop, Option, None, Some, Result, Ok, Err, ap, sym, ◌∙◌, subst, refl, arith, inl, inr}
use Rattle.std.proofs.lemmas.Bool.{le-ltb, lt-ltb}
use Rattle.std.proofs.lemmas.List.{append-nil, length-map, take-append-drop}
use Rattle.pg_lang_token.specs.declared.tok.Tok.{Tok}
use Rattle.pg_text.specs.declared.place.Span.{Span}
use Rattle.pg_text.specs.declared.place.TextFault.{TextFault}
use Rattle.pg_text.specs.declared.place.TextFault.TheVariants.{BadByte, BadNumber, BadWord, BadPattern, Memory as NoMemory}
use Rattle.pg_text.specs.Cutting.{cut, toks_of}
use Rattle.pg_ast.specs.declared.tree.Desc.{Desc}
use Rattle.pg_ast.specs.Tokens.{tokens_of}
use Rattle.pg_ast.proofs.Exact.{read_at}
use Rattle.pg_read.specs.declared.goals.Goal.{Goal}
use Rattle.pg_read.specs.declared.fault.DescFault.{DescFault}
use Rattle.pg_read.specs.declared.fault.DescFault.TheVariants.{Long, Token, Grammar, Deep, Memory}
use Rattle.pg_read.specs.Marks.{Mark, Plain, is_deep, has_deep}
use Rattle.pg_read.specs.Fronts.{wide_marks, IsMarkedFront, IsAllowed, IsWrongAt, EndsEarly, IsDeepAt}
use Rattle.pg_read.specs.Goals.{outcome, judged_by, taken, desc_goals, judged}
use Rattle.pg_read.specs.Whole.{desc_at}
use Rattle.pg_read.specs.Answer.{most_desc_bytes, toks, place_of, token_fault, IsFaultAt, IsWrongThere, IsDeepThere, IsGrammarAt, IsTooDeepAt, IsAnswer}
use Rattle.pg_read.proofs.InstrLemmas.{desc-exact, desc-tokens}
use Rattle.pg_read.proofs.Traces.{with_mark, traced, trace}
use Rattle.pg_read.proofs.FrontLemmas.{front_traced, traced_front, marks_determined}
use Rattle.pg_read.proofs.JudgeLemmas.{until, through, stands, one_more, none_more}
use Rattle.pg_read.proofs.LowMarks.{wide_of, wide_same, wide_low, take_low, last_deep}

-- ---- the goals go through tokens that are allowed

first-low : (a b : Bool) → a || b ≡ false → (a ≡ false) × (b ≡ false)
first-low true b h = absurd cc
first-low false b h = (refl, h)

abbrev goals_in : Option (List Mark × List Goal) → List Goal
goals_in None = []
goals_in (Some p) = p.1

abbrev marks_in : Option (List Mark × List Goal) → List Mark
marks_in None = []
marks_in (Some p) = p.0

module _ (end : ℕ) (rest : List (Tok × Span)) where
  abbrev GoesOn : List Goal → List (Tok × Span) → Type 0
  GoesOn gs before = (left : List Goal) (marks : List Mark) → trace gs (toks before) ≡ Some (marks, left) → has_deep marks ≡ false → judged end gs (before ++ rest) ≡ judged end left rest

  go-marked : (before : List (Tok × Span)) (p : Mark × List Goal) (place : ℕ) → GoesOn p.1 before → (x : Option (List Mark × List Goal)) → trace p.1 (toks before) ≡ x → (left : List Goal) (marks : List Mark) →
      with_mark p.0 x ≡ Some (marks, left) → has_deep marks ≡ false → judged_by (outcome (Some p)) place (λ more. judged end more (before ++ rest)) ≡ judged end left rest
  go-marked before p place more None here left marks e h = absurd (let no : None ≡ Some (marks, left) = e in cc)
  go-marked before p place more (Some q) here left marks e h =
      let same : p.0 ∷ q.0 ≡ marks = ap marks_in e in
      let end_is : q.1 ≡ left = ap goals_in e in
      let both = first-low (is_deep p.0) (has_deep q.0) (ap has_deep same ∙ h) in
      rw (both.0) (more left q.0 (here ∙ rw end_is refl) both.1)

  go-taken : (t : Tok × Span) (before : List (Tok × Span)) → ((gs : List Goal) → GoesOn gs before) → (x : Option (Mark × List Goal)) → (left : List Goal) (marks : List Mark) →
      traced x (λ more. trace more (toks before)) ≡ Some (marks, left) → has_deep marks ≡ false → judged_by (outcome x) t.1.from (λ more. judged end more (before ++ rest)) ≡ judged end left rest
  go-taken t before more None left marks e h = absurd (let no : None ≡ Some (marks, left) = e in cc)
  go-taken t before more (Some p) left marks e h = go-marked before p t.1.from (more p.1) (trace p.1 (toks before)) refl left marks e h

  judged-through : (before : List (Tok × Span)) (gs : List Goal) → GoesOn gs before
  unfolding judged
  judged-through [] gs left marks e h = ap (λ more. judged end more rest) (ap goals_in e)
  judged-through (t ∷ before) gs left marks e h = go-taken t before (judged-through before) (taken gs t.0) left marks e h

-- ---- the goals find the fault

-- the last of marks, or this
abbrev last_or : Mark → List Mark → Mark
last_or m [] = m
last_or m (n ∷ ns) = last_or n ns

last-is : (d : Mark) (ms : List Mark) (m : Mark) → last_or d (ms ++ m ∷ []) ≡ m
last-is d [] m = refl
last-is d (n ∷ ms) m = last-is n ms m

abbrev some_or : Option (List Tok) → List Tok
some_or None = []
some_or (Some ts) = ts

-- a list around the place at k
around : (all : List (Tok × Span)) (k : ℕ) → k < length all → (before : List (Tok × Span)) × (t : Tok × Span) × (rest : List (Tok × Span)) × (all ≡ before ++ t ∷ rest) × (length before ≡ k)
around [] k h = absurd (omega arith)
around (t ∷ ts) zero h = ([], t, ts, refl, refl)
around (t ∷ ts) (suc k) h = let a = around ts k (omega arith) in (t ∷ a.0, a.1, a.2, ap (λ us. t ∷ us) a.3, ap suc a.4)

module _ (end : ℕ) where
  taken-fails : (gs : List Goal) (t : Tok × Span) (rest : List (Tok × Span)) → taken gs t.0 ≡ None → judged end gs (t ∷ rest) ≡ Grammar t.1.from
  unfolding judged
  taken-fails gs t rest e = rw e refl

  taken-sinks : (gs left : List Goal) (m : Mark) (t : Tok × Span) (rest : List (Tok × Span)) → taken gs t.0 ≡ Some (m, left) → is_deep m ≡ true → judged end gs (t ∷ rest) ≡ Deep t.1.from
  unfolding judged
  taken-sinks gs left m t rest e deep = rw (e, deep) refl

  nothing-left : (gs : List Goal) → judged end gs [] ≡ Grammar end
  unfolding judged
  nothing-left gs = refl

  module _ (before : List (Tok × Span)) (t : Tok × Span) (rest : List (Tok × Span)) where
    no-taken : (gs : List Goal) (marks : List Mark) → trace desc_goals (toks before) ≡ Some (marks, gs) → ((ms : List Mark) → IsMarkedFront (toks before ++ t.0 ∷ []) ms → ⊥) → (x : Option (Mark × List Goal)) → taken gs t.0 ≡ x → taken gs t.0 ≡ None
    no-taken gs marks e wrong None h = h
    no-taken gs marks e wrong (Some p) h = absurd (wrong (marks ++ p.0 ∷ []) (traced_front (toks before ++ t.0 ∷ []) (marks ++ p.0 ∷ []) p.1 (one_more (toks before) t.0 marks gs p.1 p.0 e h)))

    wrong-judged : IsWrongAt (toks (before ++ t ∷ rest)) (length before) → judged end desc_goals (before ++ t ∷ rest) ≡ Grammar t.1.from
    wrong-judged w =
        let start = subst IsAllowed (until before t rest) w.allowed in
        let here = front_traced (toks before) start.marks start.front in
        judged-through end (t ∷ rest) before desc_goals here.0 start.marks here.1 start.shallow
        ∙ taken-fails here.0 t rest (no-taken here.0 start.marks here.1 (λ ms front. w.wrong ms (subst (λ us. IsMarkedFront us ms) (sym (through before t rest)) front)) (taken here.0 t.0) refl)

    deep-taken : (gs : List Goal) (marks others : List Mark) (m : Mark) → trace desc_goals (toks before) ≡ Some (marks, gs) → is_deep m ≡ true → IsMarkedFront (toks before ++ t.0 ∷ []) (others ++ m ∷ []) →
        (x : Option (Mark × List Goal)) → taken gs t.0 ≡ x → judged end gs (t ∷ rest) ≡ Deep t.1.from
    deep-taken gs marks others m e deep front None h =
        let here = front_traced (toks before ++ t.0 ∷ []) (others ++ m ∷ []) front in
        absurd (let no : None ≡ Some (others ++ m ∷ [], here.0) = sym (none_more (toks before) t.0 marks gs e h) ∙ here.1 in cc)
    deep-taken gs marks others m e deep front (Some p) h =
        let here = front_traced (toks before ++ t.0 ∷ []) (others ++ m ∷ []) front in
        let same : marks ++ p.0 ∷ [] ≡ others ++ m ∷ [] = ap marks_in (sym (one_more (toks before) t.0 marks gs p.1 p.0 e h) ∙ here.1) in
        let last : p.0 ≡ m = sym (last-is Plain marks p.0) ∙ ap (last_or Plain) same ∙ last-is Plain others m in
        taken-sinks gs p.1 p.0 t rest h (rw last deep)

    deep-judged : IsDeepAt (toks (before ++ t ∷ rest)) (length before) → judged end desc_goals (before ++ t ∷ rest) ≡ Deep t.1.from
    deep-judged w =
        let start = subst IsAllowed (until before t rest) w.allowed in
        let here = front_traced (toks before) start.marks start.front in
        judged-through end (t ∷ rest) before desc_goals here.0 start.marks here.1 start.shallow
        ∙ deep-taken here.0 start.marks w.marks w.last here.1 w.deep (subst (λ us. IsMarkedFront us (w.marks ++ w.last ∷ [])) (through before t rest) w.front) (taken here.0 t.0) refl

  wrong-placed : (all before rest : List (Tok × Span)) (t : Tok × Span) (place : ℕ) (w : IsWrongThere all place) → all ≡ before ++ t ∷ rest → length before ≡ w.at → judged end desc_goals all ≡ Grammar place
  wrong-placed all before rest t place w here long =
      let there : IsWrongAt (toks (before ++ t ∷ rest)) (length before) = rw (← here, long) w.wrong in
      let stand : place_of all w.at ≡ t.1.from = rw (here, ← long) (stands before t rest) in
      ap (judged end desc_goals) here ∙ wrong-judged before t rest there ∙ ap (λ p. Grammar p) (sym stand ∙ w.place_is)

  wrong-there : (all : List (Tok × Span)) (place : ℕ) → IsWrongThere all place → judged end desc_goals all ≡ Grammar place
  wrong-there all place w =
      let a = around all w.at (rw (← (length-map all (λ p. p.0))) w.wrong.inside) in
      wrong-placed all a.0 a.2 a.1 place w a.3 a.4

  deep-placed : (all before rest : List (Tok × Span)) (t : Tok × Span) (place : ℕ) (w : IsDeepThere all place) → all ≡ before ++ t ∷ rest → length before ≡ w.at → judged end desc_goals all ≡ Deep place
  deep-placed all before rest t place w here long =
      let there : IsDeepAt (toks (before ++ t ∷ rest)) (length before) = rw (← here, long) w.deep in
      let stand : place_of all w.at ≡ t.1.from = rw (here, ← long) (stands before t rest) in
      ap (judged end desc_goals) here ∙ deep-judged before t rest there ∙ ap (λ p. Deep p) (sym stand ∙ w.place_is)

  deep-there : (all : List (Tok × Span)) (place : ℕ) → IsDeepThere all place → judged end desc_goals all ≡ Deep place
  deep-there all place w =
      let a = around all w.at (rw (← (length-map all (λ p. p.0))) w.deep.inside) in
      deep-placed all a.0 a.2 a.1 place w a.3 a.4

  early-judged : (all : List (Tok × Span)) → EndsEarly (toks all) → judged end desc_goals all ≡ Grammar end
  early-judged all w =
      let here = front_traced (toks all) w.allowed.marks w.allowed.front in
      ap (judged end desc_goals) (sym (append-nil all)) ∙ judged-through end [] all desc_goals here.0 w.allowed.marks here.1 w.allowed.shallow ∙ nothing-left here.0

-- ---- the tokens of a description have no fault

own_front : (d : Desc) (n : ℕ) → IsMarkedFront (take n (tokens_of d)) (take (length (take n (tokens_of d))) (wide_marks (wide_of d)))
own_front d n = record { wide = wide_of d; rest = drop n (tokens_of d); begins = wide_same d ∙ sym (take-append-drop n (tokens_of d)); marked = refl }

none_wrong : (d : Desc) (k : ℕ) → IsWrongAt (tokens_of d) k → ⊥
none_wrong d k w = w.wrong _ (own_front d (suc k))

none_deep : (d : Desc) (k : ℕ) → IsDeepAt (tokens_of d) k → ⊥
none_deep d k w =
    let marks = take (length (take (suc k) (tokens_of d))) (wide_marks (wide_of d)) in
    let same = marks_determined (take (suc k) (tokens_of d)) (w.marks ++ w.last ∷ []) marks w.front (own_front d (suc k)) in
    let deep = last_deep w.marks w.last w.deep in
    let low = take_low (length (take (suc k) (tokens_of d))) (wide_marks (wide_of d)) (wide_low d) in
    let no : true ≡ false = sym deep ∙ ap has_deep same ∙ low in cc

-- ---- answers

-- the answer of tokens, and of a text
abbrev read_due : Option Desc → DescFault → Result Desc DescFault
read_due (Some d) fault = Ok d
read_due None fault = Err fault

abbrev cut_due : Result (List (Tok × Span)) TextFault → ℕ → Result Desc DescFault
cut_due (Ok ts) end = read_due (desc_at (toks ts)) (judged end desc_goals ts)
cut_due (Err f) end = Err (token_fault f)

abbrev pub answer_due : List ℕ → Result Desc DescFault
answer_due text = cond (nat_lt most_desc_bytes (length text)) (Err Long) (cut_due (cut text) (length text))

no-desc : (ts : List Tok) → ((d : Desc) → ts ≡ tokens_of d → ⊥) → (x : Option Desc) → desc_at ts ≡ x → desc_at ts ≡ None
no-desc ts none None e = e
no-desc ts none (Some d) e = absurd (none d (read_at (λ c. ts ≡ tokens_of c) (desc_at ts) d (desc-exact ts) e))

fault-due : (ts : List (Tok × Span)) (end : ℕ) (f : DescFault) → ((d : Desc) → toks ts ≡ tokens_of d → ⊥) → judged end desc_goals ts ≡ f → Err f ≡ cut_due (Ok ts) end
fault-due ts end f none e = rw (no-desc (toks ts) none (desc_at (toks ts)) refl) (ap (λ g. Err g) (sym e))

ok-due : (c : Result (List (Tok × Span)) TextFault) (end : ℕ) (d : Desc) → toks_of c ≡ Some (tokens_of d) → Ok d ≡ cut_due c end
ok-due (Ok ts) end d e = let read : desc_at (toks ts) ≡ Some d = ap desc_at (ap some_or e) ∙ desc-tokens d in rw read refl
ok-due (Err f) end d e = absurd cc

token-due : (c : Result (List (Tok × Span)) TextFault) (end place : ℕ) → IsFaultAt c place → Err (Token place) ≡ cut_due c end
token-due (Ok ts) end place h = absurd h
token-due (Err (BadByte at)) end place h = ap (λ p. Err (Token p)) (sym h)
token-due (Err (BadNumber at)) end place h = ap (λ p. Err (Token p)) (sym h)
token-due (Err (BadWord at)) end place h = ap (λ p. Err (Token p)) (sym h)
token-due (Err (BadPattern at)) end place h = ap (λ p. Err (Token p)) (sym h)
token-due (Err NoMemory) end place h = absurd h

grammar-due : (c : Result (List (Tok × Span)) TextFault) (end place : ℕ) → IsGrammarAt c end place → Err (Grammar place) ≡ cut_due c end
grammar-due (Ok ts) end place (inl w) =
    fault-due ts end (Grammar place) (λ d e. none_wrong d w.at (subst (λ us. IsWrongAt us w.at) e w.wrong)) (wrong-there end ts place w)
grammar-due (Ok ts) end place (inr w) =
    fault-due ts end (Grammar place) (λ d e. w.0.none d (sym e)) (early-judged end ts w.0 ∙ ap (λ p. Grammar p) (sym w.1))
grammar-due (Err f) end place h = absurd h

deep-due : (c : Result (List (Tok × Span)) TextFault) (end place : ℕ) → IsTooDeepAt c place → Err (Deep place) ≡ cut_due c end
deep-due (Ok ts) end place w =
    fault-due ts end (Deep place) (λ d e. none_deep d w.at (subst (λ us. IsDeepAt us w.at) e w.deep)) (deep-there end ts place w)
deep-due (Err f) end place h = absurd h

short : (text : List ℕ) (x : Result Desc DescFault) → length text ≤ most_desc_bytes → x ≡ cut_due (cut text) (length text) → x ≡ answer_due text
short text x h e = rw (le-ltb most_desc_bytes (length text) h) e

-- an answer that is not for lack of memory is the one that is due
pub answer_is_due : (text : List ℕ) (x : Result Desc DescFault) → x ≢ Err Memory → IsAnswer text x → x ≡ answer_due text
answer_is_due text (Ok d) known h = short text (Ok d) h.0 (ok-due (cut text) (length text) d h.1)
answer_is_due text (Err Long) known h = rw (lt-ltb most_desc_bytes (length text) h) refl
answer_is_due text (Err (Token place)) known h = short text (Err (Token place)) h.0 (token-due (cut text) (length text) place h.1)
answer_is_due text (Err (Grammar place)) known h = short text (Err (Grammar place)) h.0 (grammar-due (cut text) (length text) place h.1)
answer_is_due text (Err (Deep place)) known h = short text (Err (Deep place)) h.0 (deep-due (cut text) (length text) place h.1)
answer_is_due text (Err Memory) known h = absurd (known refl)

-- one answer is due
pub one_answer : (text : List ℕ) (x y : Result Desc DescFault) → x ≢ Err Memory → y ≢ Err Memory → IsAnswer text x → IsAnswer text y → x ≡ y
one_answer text x y known known' hx hy = answer_is_due text x known hx ∙ sym (answer_is_due text y known' hy)
