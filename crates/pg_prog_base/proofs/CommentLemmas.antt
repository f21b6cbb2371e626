-- Lines of comment, one after another.
use Rattle.std.proofs.Common.{◌≡◌, ◌≢◌, ℕ, List, [], ◌∷◌, ◌++◌, All, append_assoc, refl, sym, ◌∙◌, ap}
use Rattle.std.proofs.lemmas.List.{append-nil}
use Rattle.std.proofs.lemmas.List.Elements.{All-nil, All-cons, All-append}
use Rattle.pg_prog_base.specs.Dimacs.{IsOneLine, comment_lines, AreComments, GoesOn}

-- nothing is no line
pub no-comments : (text : List ℕ) → text ≡ [] → AreComments text
unfolding comment_lines
no-comments text none = record { said = []; each = All-nil IsOneLine; whole = none }

lines-append : (said more : List (List ℕ)) → comment_lines (said ++ more) ≡ comment_lines said ++ comment_lines more
unfolding comment_lines
lines-append [] more = refl
lines-append (s ∷ said) more =
    ap (λ xs. 99 ∷ s ++ 10 ∷ xs) (lines-append said more) ∙ ap (λ xs. 99 ∷ xs) (sym (append_assoc s (10 ∷ comment_lines said) (comment_lines more)))

lines-one : (s : List ℕ) → comment_lines (s ∷ []) ≡ 99 ∷ s ++ 10 ∷ []
unfolding comment_lines
lines-one s = refl

-- a line more
pub one-more : (text begun said whole : List ℕ) → AreComments text → begun ≡ text ++ 99 ∷ [] → GoesOn begun said → whole ≡ said ++ 10 ∷ [] → AreComments whole
one-more text begun said whole before first middle last = record {
  said = before.said ++ middle.more ∷ [];
  each = All-append IsOneLine before.said (middle.more ∷ []) before.each (All-cons IsOneLine middle.more [] middle.one (All-nil IsOneLine));
  whole = last
      ∙ ap (λ xs. xs ++ 10 ∷ []) (middle.whole ∙ ap (λ xs. xs ++ middle.more) (first ∙ ap (λ xs. xs ++ 99 ∷ []) before.whole))
      ∙ append_assoc (comment_lines before.said ++ 99 ∷ []) middle.more (10 ∷ [])
      ∙ append_assoc (comment_lines before.said) (99 ∷ []) (middle.more ++ 10 ∷ [])
      ∙ ap (λ xs. comment_lines before.said ++ xs) (sym (lines-one middle.more))
      ∙ sym (lines-append before.said (middle.more ∷ []));
}

-- no byte more
pub goes-nowhere : (text : List ℕ) → GoesOn text text
goes-nowhere text = record { more = []; one = record { each = All-nil (λ (byte : ℕ). byte ≢ 10) }; whole = sym (append-nil text) }

-- a byte more
pub goes-further : (first text after : List ℕ) (byte : ℕ) → GoesOn first text → byte ≢ 10 → after ≡ text ++ byte ∷ [] → GoesOn first after
goes-further first text after byte before other is = record {
  more = before.more ++ byte ∷ [];
  one = record {
    each = All-append (λ (b : ℕ). b ≢ 10) before.more (byte ∷ []) before.one.each (All-cons (λ (b : ℕ). b ≢ 10) byte [] other (All-nil (λ (b : ℕ). b ≢ 10)));
  };
  whole = is ∙ ap (λ xs. xs ++ byte ∷ []) before.whole ∙ append_assoc first before.more (byte ∷ []);
}
