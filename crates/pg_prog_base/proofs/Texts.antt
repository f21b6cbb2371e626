-- Texts of clauses, step by step.
use Rattle.std.proofs.Common.{◌≡◌, ℕ, ◌+◌, ◌<◌, List, [], ◌∷◌, ◌++◌, length, drop, get_or, append_assoc, arith, ap, sym, ◌∙◌}
use Rattle.std.specs.Prelude.{max, ℤ, pos, nat_abs, Result, Ok, Err, IfOk}
use Rattle.std.specs.Fmt.{decimal, signed_decimal}
use Rattle.std.proofs.lemmas.List.{drop_more}
use Rattle.pg_proof.specs.declared.step.Act.{Act}
use Rattle.pg_prog_base.specs.Lrat.{numbers_text, acts_text}
use Rattle.pg_prog_base.specs.Dimacs.{literals_text, clauses_text, greatest_in, greatest_variable}

nested : (x a b c : List ℕ) → ((x ++ a) ++ b) ++ c ≡ x ++ (a ++ (b ++ c))
nested x a b c = simp append_assoc

-- a literal more
pub literals_next : (text whole : List ℕ) (zs : List ℤ) (i : ℕ) (z : ℤ) → i < length zs → z ≡ get_or zs i (pos 0) → text ++ literals_text (drop i zs) ≡ whole →
    ((text ++ signed_decimal z) ++ 32 ∷ []) ++ literals_text (drop (i + 1) zs) ≡ whole
unfolding literals_text
literals_next text whole zs i z lt e h =
    let split : drop i zs ≡ z ∷ drop (i + 1) zs = drop_more zs i (pos 0) lt ∙ ap (λ u. u ∷ drop (i + 1) zs) (sym e) in
    nested text (signed_decimal z) (32 ∷ []) (literals_text (drop (i + 1) zs)) ∙ ap (λ y. text ++ literals_text y) (sym split) ∙ h

-- a clause more
pub clauses_next : (text whole : List ℕ) (cs : List (List ℤ)) (i : ℕ) (c : List ℤ) → i < length cs → c ≡ get_or cs i c → text ++ clauses_text (drop i cs) ≡ whole →
    (((text ++ literals_text c) ++ 48 ∷ []) ++ 10 ∷ []) ++ clauses_text (drop (i + 1) cs) ≡ whole
unfolding clauses_text
clauses_next text whole cs i c lt e h =
    let split : drop i cs ≡ c ∷ drop (i + 1) cs = drop_more cs i c lt ∙ ap (λ u. u ∷ drop (i + 1) cs) (sym e) in
    nested (text ++ literals_text c) (48 ∷ []) (10 ∷ []) (clauses_text (drop (i + 1) cs)) ∙ append_assoc text (literals_text c) (48 ∷ 10 ∷ clauses_text (drop (i + 1) cs)) ∙ ap (λ y. text ++ clauses_text y) (sym split) ∙ h

max-nested : (a b c : ℕ) → max (max a b) c ≡ max b (max a c)
max-nested a b c = omega arith

-- a literal more is gone over
pub greatest_in_next : (most whole : ℕ) (zs : List ℤ) (i : ℕ) (z : ℤ) → i < length zs → z ≡ get_or zs i (pos 0) → max most (greatest_in (drop i zs)) ≡ whole →
    max (max (nat_abs z) most) (greatest_in (drop (i + 1) zs)) ≡ whole
unfolding greatest_in
greatest_in_next most whole zs i z lt e h =
    let split : drop i zs ≡ z ∷ drop (i + 1) zs = drop_more zs i (pos 0) lt ∙ ap (λ u. u ∷ drop (i + 1) zs) (sym e) in
    max-nested (nat_abs z) most (greatest_in (drop (i + 1) zs)) ∙ ap (λ y. max most (greatest_in y)) (sym split) ∙ h

-- a clause more is gone over
pub greatest_variable_next : (most whole : ℕ) (cs : List (List ℤ)) (i : ℕ) (c : List ℤ) → i < length cs → c ≡ get_or cs i c → max most (greatest_variable (drop i cs)) ≡ whole →
    max (max (greatest_in c) most) (greatest_variable (drop (i + 1) cs)) ≡ whole
unfolding greatest_variable
greatest_variable_next most whole cs i c lt e h =
    let split : drop i cs ≡ c ∷ drop (i + 1) cs = drop_more cs i c lt ∙ ap (λ u. u ∷ drop (i + 1) cs) (sym e) in
    max-nested (greatest_in c) most (greatest_variable (drop (i + 1) cs)) ∙ ap (λ y. max most (greatest_variable y)) (sym split) ∙ h

-- what is known of an Ok says what follows from it
pub if_ok : {T E : Type 0} {P Q : T → Type 0} (r : Result T E) → ((x : T) → P x → Q x) → IfOk r P → IfOk r Q
if_ok (Ok x) f h = f x h
if_ok (Err e) f h = h

-- a number more
pub numbers_next : (text whole : List ℕ) (ns : List ℕ) (i : ℕ) (n : ℕ) → i < length ns → n ≡ get_or ns i 0 → text ++ numbers_text (drop i ns) ≡ whole →
    ((text ++ decimal n) ++ 32 ∷ []) ++ numbers_text (drop (i + 1) ns) ≡ whole
unfolding numbers_text
numbers_next text whole ns i n lt e h =
    let split : drop i ns ≡ n ∷ drop (i + 1) ns = drop_more ns i 0 lt ∙ ap (λ u. u ∷ drop (i + 1) ns) (sym e) in
    nested text (decimal n) (32 ∷ []) (numbers_text (drop (i + 1) ns)) ∙ ap (λ y. text ++ numbers_text y) (sym split) ∙ h

-- a line more of a log
pub acts_next : (text line whole : List ℕ) (acts : List Act) (i : ℕ) (act : Act) (last next : ℕ) → i < length acts → act ≡ get_or acts i act →
    acts_text last (act ∷ drop (i + 1) acts) ≡ line ++ acts_text next (drop (i + 1) acts) → text ++ acts_text last (drop i acts) ≡ whole →
    (text ++ line) ++ acts_text next (drop (i + 1) acts) ≡ whole
acts_next text line whole acts i act last next lt e one h =
    let split : drop i acts ≡ act ∷ drop (i + 1) acts = drop_more acts i act lt ∙ ap (λ u. u ∷ drop (i + 1) acts) (sym e) in
    append_assoc text line (acts_text next (drop (i + 1) acts)) ∙ ap (λ y. text ++ y) (sym one) ∙ ap (λ y. text ++ acts_text last y) (sym split) ∙ h
