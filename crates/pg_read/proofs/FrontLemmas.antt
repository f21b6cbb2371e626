-- Tokens are a front with these marks just where they meet the goals of a description and have these marks.
use Rattle.std.proofs.Common.{◌≡◌, ℕ, suc, Bool, true, false, map, List, [], ◌∷◌, ◌++◌, length, take, Option, None, Some, IfSome, ap, sym, ◌∙◌, refl}
use Rattle.std.proofs.Math.Seq.{take-append_seam}
use Rattle.std.proofs.lemmas.List.{append-nil}
use Rattle.pg_lang_token.specs.declared.tok.Tok.{Tok}
use Rattle.pg_ast.specs.Tokens.{head_tokens, flat}
use Rattle.pg_ast.proofs.Exact.{read_at}
use Rattle.pg_read.specs.declared.goals.Goal.{Goal}
use Rattle.pg_read.specs.declared.goals.Goal.TheVariants as goal
use Rattle.pg_read.specs.Marks.{Mark}
use Rattle.pg_read.specs.Fronts.{WideInstr, Wide, wide_instr_tokens, wide_tokens, instrs_marks, wide_marks, IsMarkedFront}
use Rattle.pg_read.specs.Goals.{taken, desc_goals}
use Rattle.pg_read.proofs.Traces.{with_mark, with_marks, traced, trace}
use Rattle.pg_read.proofs.StmtTraces.{with_marks-some, trace_wide}
use Rattle.pg_read.proofs.Fillings.{Filling, tokens, marks_of, some_filling}
use Rattle.pg_read.proofs.Undoing.{Fills, trace_fills}

-- ---- a trace goes on where it stopped

abbrev pub onward : Option (List Mark × List Goal) → List Tok → Option (List Mark × List Goal)
onward None us = None
onward (Some p) us = with_marks p.0 (trace p.1 us)

mark-onward : (m : Mark) (x : Option (List Mark × List Goal)) (us : List Tok) → with_mark m (onward x us) ≡ onward (with_mark m x) us
mark-onward m None us = refl
mark-onward m (Some p) us = refl

traced-onward : (x : Option (Mark × List Goal)) (ts us : List Tok) → ((gs : List Goal) → trace gs (ts ++ us) ≡ onward (trace gs ts) us) →
    traced x (λ left. trace left (ts ++ us)) ≡ onward (traced x (λ left. trace left ts)) us
traced-onward None ts us h = refl
traced-onward (Some p) ts us h = ap (with_mark p.0) (h p.1) ∙ mark-onward p.0 (trace p.1 ts) us

pub trace-append : (ts us : List Tok) (gs : List Goal) → trace gs (ts ++ us) ≡ onward (trace gs ts) us
trace-append [] us gs = refl
trace-append (t ∷ ts) us gs = traced-onward (taken gs t) ts us (trace-append ts us)

-- ---- a mark for each token

abbrev HasLength : ℕ → List Mark × List Goal → Type 0
HasLength n p = length p.0 ≡ n

mark-length : (m : Mark) (n : ℕ) (x : Option (List Mark × List Goal)) → IfSome x (HasLength n) → IfSome (with_mark m x) (HasLength (suc n))
mark-length m n None h = tt
mark-length m n (Some p) h = ap suc h

traced-length : (x : Option (Mark × List Goal)) (ts : List Tok) → ((gs : List Goal) → IfSome (trace gs ts) (HasLength (length ts))) → IfSome (traced x (λ left. trace left ts)) (HasLength (suc (length ts)))
traced-length None ts h = tt
traced-length (Some p) ts h = mark-length p.0 (length ts) (trace p.1 ts) (h p.1)

trace-length : (ts : List Tok) (gs : List Goal) → IfSome (trace gs ts) (HasLength (length ts))
trace-length [] gs = refl
trace-length (t ∷ ts) gs = traced-length (taken gs t) ts (trace-length ts)

pub marks-length : (ts : List Tok) (gs left : List Goal) (ms : List Mark) → trace gs ts ≡ Some (ms, left) → length ms ≡ length ts
marks-length ts gs left ms e = read_at (HasLength (length ts)) (trace gs ts) (ms, left) (trace-length ts gs) e

-- ---- fronts have traces

pub with_marks-none : (ms : List Mark) → with_marks ms None ≡ None
with_marks-none [] = refl
with_marks-none (m ∷ ms) = ap (with_mark m) (with_marks-none ms)

-- the marks of a trace
abbrev marks_in : Option (List Mark × List Goal) → List Mark
marks_in None = []
marks_in (Some p) = p.0

with_marks-front : (ms : List Mark) (z : Option (List Mark × List Goal)) (all : List Mark) (left : List Goal) → with_marks ms z ≡ Some (all, left) → take (length ms) all ≡ ms
with_marks-front ms None all left e = absurd (let none = with_marks-none ms in cc)
with_marks-front ms (Some p) all left e =
    let same : all ≡ ms ++ p.0 = ap marks_in (sym e ∙ with_marks-some ms p.0 p.1) in
    rw same (take-append_seam ms p.0)

cut_front : (x : Option (List Mark × List Goal)) (us : List Tok) (n : ℕ) (all : List Mark) (end : List Goal) → IfSome x (HasLength n) → onward x us ≡ Some (all, end) →
    (left : List Goal) × (x ≡ Some (take n all, left))
cut_front None us n all end h e = absurd (let no : None ≡ Some (all, end) = e in cc)
cut_front (Some p) us n all end h e =
    let front = with_marks-front p.0 (trace p.1 us) all end e in
    (p.1, ap (λ ms. Some (ms, p.1)) (rw (sym h) (sym front)))

pub front_traced : (ts : List Tok) (marks : List Mark) → IsMarkedFront ts marks → (left : List Goal) × (trace desc_goals ts ≡ Some (marks, left))
front_traced ts marks h =
    let whole : trace desc_goals (ts ++ h.rest) ≡ Some (wide_marks h.wide, goal.Instrs ∷ []) = rw (← h.begins) (trace_wide h.wide) in
    let cut = cut_front (trace desc_goals ts) h.rest (length ts) (wide_marks h.wide) (goal.Instrs ∷ []) (trace-length ts desc_goals) (sym (trace-append ts h.rest desc_goals) ∙ whole) in
    (cut.0, cut.1 ∙ ap (λ ms. Some (ms, cut.0)) h.marked)

-- ---- what has a trace is a front

wide-parts : (word address size : ℕ) (causes : Bool) (is : List WideInstr) →
    let f : Filling desc_goals = (tt, (tt, (tt, (word, (tt, (tt, (address, (tt, (tt, (size, (tt, (causes, (is, tt))))))))))))) in
    let w : Wide = record { word = word; address = address; size = size; causes = causes; instrs = is } in
    (wide_tokens w ≡ tokens desc_goals f) × (wide_marks w ≡ marks_of desc_goals f)
unfolding wide_tokens wide_marks head_tokens
wide-parts word address size true is = (rw (append-nil (flat (map wide_instr_tokens is))) refl, rw (append-nil (instrs_marks is)) refl)
wide-parts word address size false is = (rw (append-nil (flat (map wide_instr_tokens is))) refl, rw (append-nil (instrs_marks is)) refl)

wide-of : (f : Filling desc_goals) → (w : Wide) × (wide_tokens w ≡ tokens desc_goals f) × (wide_marks w ≡ marks_of desc_goals f)
wide-of f =
    let a = f.1.1.1 in let b = a.1.1.1 in let c = b.1.1.1 in let d = c.1.1 in
    let w : Wide = record { word = a.0; address = b.0; size = c.0; causes = d.0; instrs = d.1.0 } in
    let both = wide-parts a.0 b.0 c.0 d.0 d.1.0 in
    (w, both.0, both.1)

pub traced_front : (ts : List Tok) (marks : List Mark) (left : List Goal) → trace desc_goals ts ≡ Some (marks, left) → IsMarkedFront ts marks
traced_front ts marks left e =
    let fill = read_at (Fills desc_goals ts) (trace desc_goals ts) (marks, left) (trace_fills ts desc_goals) e (some_filling left) in
    let w = wide-of fill.0 in
    let long = marks-length ts desc_goals left marks e in
    record {
      wide = w.0;
      rest = tokens left (some_filling left);
      begins = w.1 ∙ fill.1;
      marked = rw (w.2, fill.2, sym long) (take-append_seam marks (marks_of left (some_filling left)));
    }

-- tokens determine their marks
pub marks_determined : (ts : List Tok) (ms ns : List Mark) → IsMarkedFront ts ms → IsMarkedFront ts ns → ms ≡ ns
marks_determined ts ms ns x y = let a = front_traced ts ms x in let b = front_traced ts ns y in ap marks_in (sym a.1 ∙ b.1)
