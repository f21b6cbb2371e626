-- Cutting goes on behind each piece.
use Rattle.std.proofs.Common.{◌≡◌, ℕ, zero, suc, ◌+◌, ◌-◌, ◌<◌, ◌≤◌, List, [], ◌∷◌, ◌++◌, length, drop, get_or, Result, Ok, Err, sym, ap, subst, ◌∙◌, refl, arith, length-drop, append_assoc, add-zero}
use Rattle.std.proofs.lemmas.List.{append-nil, drop_more, drop_all, drop-drop}
use Rattle.pg_lang_token.specs.declared.tok.Tok.{Tok}
use Rattle.pg_text.specs.declared.place.Span.{Span}
use Rattle.pg_text.specs.declared.place.TextFault.{TextFault}
use Rattle.pg_text.specs.declared.place.TextFault.TheVariants.{BadByte, BadNumber, BadWord, BadPattern, Memory}
use Rattle.pg_text.specs.declared.piece.Piece.{Piece}
use Rattle.pg_text.specs.Cutting.{front, placed, before, then_cut, cut_from, cut, IsCutDue}
use Rattle.pg_text.proofs.Fronts.{Takes, front_takes}

-- the bytes that belong to a piece before are passed over
pub cut_from-drop : (k place : ℕ) (text : List ℕ) → cut_from k place text ≡ cut_from 0 (place + k) (drop k text)
unfolding cut_from
cut_from-drop zero place text = ap (λ q. cut_from 0 q text) (sym (add-zero place))
cut_from-drop (suc k) place [] = refl
cut_from-drop (suc k) place (b ∷ bs) =
    let e : place + 1 + k ≡ place + suc k = omega arith in
    cut_from-drop k (place + 1) bs ∙ ap (λ q. cut_from 0 q (drop k bs)) e

before-before : (ts us : List (Tok × Span)) (r : Result (List (Tok × Span)) TextFault) → before ts (before us r) ≡ before (ts ++ us) r
before-before ts us (Ok vs) = ap (λ xs. Ok xs) (sym (append_assoc ts us vs))
before-before ts us (Err f) = refl

-- one piece, and what is cut behind it
pub cut_from-piece : (place b : ℕ) (bs : List ℕ) (p : Piece) → 0 < p.len → front place (b ∷ bs) ≡ Ok p
    → cut_from 0 place (b ∷ bs) ≡ before (placed place p) (cut_from 0 (place + p.len) (drop (p.len - 1) bs))
unfolding cut_from
cut_from-piece place b bs p some h =
    let e : place + 1 + (p.len - 1) ≡ place + p.len = omega arith in
    ap (λ r. then_cut place r (λ k. cut_from k (place + 1) bs)) h
    ∙ ap (before (placed place p)) (cut_from-drop (p.len - 1) (place + 1) bs ∙ ap (λ q. cut_from 0 q (drop (p.len - 1) bs)) e)

before-none : (r : Result (List (Tok × Span)) TextFault) → before [] r ≡ r
before-none (Ok ts) = refl
before-none (Err f) = refl

-- the text is cut so far: these tokens, and what is cut from here on, are the whole
pub record CutSoFar (text : List ℕ) (list : List (Tok × Span)) (at : ℕ) : Type 0 where
  pub within : at ≤ length text
  pub whole : before list (cut_from 0 at (drop at text)) ≡ cut_from 0 0 text

-- a piece in the text takes at least one byte, and ends within it
pub piece_within : (text : List ℕ) (at : ℕ) (p : Piece) → at < length text → front at (drop at text) ≡ Ok p → (0 < p.len) × (at + p.len ≤ length text)
piece_within text at p lt h =
    let b : ℕ = get_or text at 0 in
    let bs : List ℕ = drop (at + 1) text in
    let is : front at (b ∷ bs) ≡ Ok p = ap (front at) (sym (drop_more text at 0 lt)) ∙ h in
    let takes : (0 < p.len) × (p.len ≤ length (b ∷ bs)) = subst (Takes (length (b ∷ bs))) is (front_takes at b bs) in
    (takes.0, omega (arith, takes.1, length-drop (at + 1) text))

-- a piece more
pub CutSoFar-next : (text : List ℕ) (list : List (Tok × Span)) (at : ℕ) (p : Piece) → at < length text → CutSoFar text list at → front at (drop at text) ≡ Ok p
    → CutSoFar text (list ++ placed at p) (at + p.len)
CutSoFar-next text list at p lt so_far h =
    let b : ℕ = get_or text at 0 in
    let bs : List ℕ = drop (at + 1) text in
    let split : drop at text ≡ b ∷ bs = drop_more text at 0 lt in
    let is : front at (b ∷ bs) ≡ Ok p = ap (front at) (sym split) ∙ h in
    let inside = piece_within text at p lt h in
    let some : 0 < p.len = inside.0 in
    let there : at + 1 + (p.len - 1) ≡ at + p.len = omega arith in
    let rest : drop (p.len - 1) bs ≡ drop (at + p.len) text = drop-drop (p.len - 1) (at + 1) text ∙ ap (λ n. drop n text) there in
    record {
      within = inside.1;
      whole =
          sym (before-before list (placed at p) (cut_from 0 (at + p.len) (drop (at + p.len) text)))
          ∙ ap (λ xs. before list (before (placed at p) (cut_from 0 (at + p.len) xs))) (sym rest)
          ∙ ap (before list) (sym (cut_from-piece at b bs p some is))
          ∙ ap (λ xs. before list (cut_from 0 at xs)) (sym split)
          ∙ so_far.whole;
    }

cut_from-fault : (place b : ℕ) (bs : List ℕ) (f : TextFault) → front place (b ∷ bs) ≡ Err f → cut_from 0 place (b ∷ bs) ≡ Err f
unfolding cut_from
cut_from-fault place b bs f h = ap (λ r. then_cut place r (λ k. cut_from k (place + 1) bs)) h

-- a fault at the front is the text's
CutSoFar-stops : (text : List ℕ) (list : List (Tok × Span)) (at : ℕ) (f : TextFault) → at < length text → CutSoFar text list at → front at (drop at text) ≡ Err f → cut text ≡ Err f
unfolding cut
CutSoFar-stops text list at f lt so_far h =
    let split : drop at text ≡ get_or text at 0 ∷ drop (at + 1) text = drop_more text at 0 lt in
    sym so_far.whole
    ∙ ap (λ xs. before list (cut_from 0 at xs)) split
    ∙ ap (before list) (cut_from-fault at (get_or text at 0) (drop (at + 1) text) f (ap (front at) (sym split) ∙ h))

-- so what is due at the front is due of the text
pub CutSoFar-fault : (text : List ℕ) (list : List (Tok × Span)) (at : ℕ) (f : TextFault) → at < length text → CutSoFar text list at → IsCutDue {X = Piece} (Err f) (front at (drop at text))
    → IsCutDue {X = List (Tok × Span)} (Err f) (cut text)
CutSoFar-fault text list at (BadByte place) lt so_far h = CutSoFar-stops text list at (BadByte place) lt so_far h
CutSoFar-fault text list at (BadNumber place) lt so_far h = CutSoFar-stops text list at (BadNumber place) lt so_far h
CutSoFar-fault text list at (BadWord place) lt so_far h = CutSoFar-stops text list at (BadWord place) lt so_far h
CutSoFar-fault text list at (BadPattern place) lt so_far h = CutSoFar-stops text list at (BadPattern place) lt so_far h
CutSoFar-fault text list at Memory lt so_far h = tt

-- nothing is left
pub CutSoFar-all : (text : List ℕ) (list : List (Tok × Span)) (at : ℕ) → length text ≤ at → CutSoFar text list at → cut text ≡ Ok list
unfolding cut cut_from
CutSoFar-all text list at le so_far =
    sym so_far.whole
    ∙ ap (λ xs. before list (cut_from 0 at xs)) (drop_all at text le)
    ∙ ap (λ xs. Ok xs) (append-nil list)

-- ---- a text without a fault

abbrev pub Tokens : Type 0
Tokens = Result (List (Tok × Span)) TextFault

abbrev pub ok : List (Tok × Span) → Tokens
ok ts = Ok ts

pub ok_is : (us ts : List (Tok × Span)) → ok us ≡ ok ts → us ≡ ts
ok_is us ts h = cc

-- where a piece and what is cut behind it give tokens, both do
pub before_ok : (us : List (Tok × Span)) (r : Tokens) (ts : List (Tok × Span)) → before us r ≡ Ok ts → (vs : List (Tok × Span)) × (r ≡ Ok vs) × (us ++ vs ≡ ts)
before_ok us (Ok vs) ts h = (vs, refl, cc)
before_ok us (Err f) ts h = absurd cc

pub then_ok : (place : ℕ) (r : Result Piece TextFault) (go : ℕ → Tokens) (ts : List (Tok × Span)) → then_cut place r go ≡ Ok ts → (p : Piece) × (r ≡ Ok p) × (before (placed place p) (go (p.len - 1)) ≡ Ok ts)
then_ok place (Ok p) go ts h = (p, refl, h)
then_ok place (Err f) go ts h = absurd cc
