-- What is laid out reads as its tokens.
use Rattle.std.proofs.Common.{◌≡◌, ℕ, zero, suc, ◌+◌, ◌-◌, ◌<◌, Bool, true, false, List, [], ◌∷◌, ◌++◌, length, drop, Some, Ok, Err, append_assoc, ap, subst, sym, ◌∙◌, refl, arith}
use Rattle.std.specs.List.{AllByRecursion}
use Rattle.std.specs.Option.{option_map}
use Rattle.std.proofs.Math.Seq.{drop-append_seam}
use Rattle.std.proofs.lemmas.List.Elements.{recursion_from_All}
use Rattle.pg_lang_token.specs.declared.tok.Tok.{Tok}
use Rattle.pg_ast.specs.declared.tree.Desc.{Desc}
use Rattle.pg_ast.specs.Tokens.{tokens_of}
use Rattle.pg_ast.proofs.DescReads.{tokens_determine}
use Rattle.pg_text.specs.declared.place.Span.{Span}
use Rattle.pg_text.specs.declared.piece.Piece.{Piece}
use Rattle.pg_text.specs.Cutting.{made, front, placed, before, cut_from, cut, toks_of, tokens_in}
use Rattle.pg_text.specs.Formed.{IsFormed}
use Rattle.pg_text.proofs.CutSteps.{Tokens, cut_from-piece}
use Rattle.pg_lang_print.specs.Layout.{ends_line, open_behind, braces_at, indent, lead, line_end, token_text, layout, printed}
use Rattle.pg_lang_print.specs.Numbers.{FitsNumber, NumbersFit}
use Rattle.pg_lang_print.proofs.Pieces.{IsGap, token_front, token_some}
use Rattle.pg_lang_print.proofs.Spelt.{tokens_spelt, all_formed}

-- wherever it stands, the text has these tokens
abbrev pub ReadsAs : List ℕ → List Tok → Type 0
ReadsAs text ts = (place : ℕ) → toks_of (cut_from 0 place text) ≡ Some ts

none_before : (r : Tokens) → toks_of (before [] r) ≡ toks_of r
none_before (Ok ts) = refl
none_before (Err f) = refl

one_before : (t : Tok) (s : Span) (r : Tokens) (ts : List Tok) → toks_of r ≡ Some ts → toks_of (before ((t, s) ∷ []) r) ≡ Some (t ∷ ts)
one_before t s (Ok us) ts h = ap (option_map (λ vs. t ∷ vs)) h
one_before t s (Err f) ts h = absurd cc

space_reads : (rest : List ℕ) (ts : List Tok) → ReadsAs rest ts → ReadsAs (32 ∷ rest) ts
unfolding cut_from front
space_reads rest ts h place = none_before (cut_from 0 (place + 1) rest) ∙ h (place + 1)

line_reads : (rest : List ℕ) (ts : List Tok) → ReadsAs rest ts → ReadsAs (10 ∷ rest) ts
unfolding cut_from front
line_reads rest ts h place = none_before (cut_from 0 (place + 1) rest) ∙ h (place + 1)

indent_reads : (n : ℕ) (rest : List ℕ) (ts : List Tok) → ReadsAs rest ts → ReadsAs (indent n ++ rest) ts
unfolding indent
indent_reads zero rest ts h = h
indent_reads (suc n) rest ts h = space_reads (32 ∷ (indent n ++ rest)) ts (space_reads (indent n ++ rest) ts (indent_reads n rest ts h))

lead_reads : (begins : Bool) (n : ℕ) (t : Tok) (rest : List ℕ) (ts : List Tok) → ReadsAs rest ts → ReadsAs (lead begins n t ++ rest) ts
lead_reads true n t rest ts h = indent_reads (braces_at n t) rest ts h
lead_reads false n t rest ts h = space_reads rest ts h

token_reads : (t : Tok) (x rest : List ℕ) (ts : List Tok) → 0 < length x → ((place : ℕ) → front place (x ++ rest) ≡ made t (length x)) → ReadsAs rest ts → ReadsAs (x ++ rest) (t ∷ ts)
token_reads t [] rest ts some h r = absurd (omega arith)
token_reads t (b ∷ bs) rest ts some h r = λ place.
    let n : ℕ = length (b ∷ bs) in
    let p : Piece = record { tok = Some t; len = n } in
    let e : n - 1 ≡ length bs = omega arith in
    let left : drop (n - 1) (bs ++ rest) ≡ rest = ap (λ k. drop k (bs ++ rest)) e ∙ drop-append_seam bs rest in
    ap toks_of (cut_from-piece place b (bs ++ rest) p some (h place) ∙ ap (λ u. before (placed place p) (cut_from 0 (place + n) u)) left)
    ∙ one_before t (record { from = place; to = place + n }) (cut_from 0 (place + n) rest) ts (r (place + n))

end_gap : IsGap []
end_gap = record { word = refl; equals = refl; less = refl }

space_gap : (rest : List ℕ) → IsGap (32 ∷ rest)
space_gap rest = record { word = refl; equals = refl; less = refl }

line_gap : (rest : List ℕ) → IsGap (10 ∷ rest)
line_gap rest = record { word = refl; equals = refl; less = refl }

more_gap : (n : ℕ) (ts : List Tok) → IsGap (layout false n ts)
unfolding layout
more_gap n [] = end_gap
more_gap n (t ∷ ts) = space_gap _

behind_gap : (ends : Bool) (n : ℕ) (ts : List Tok) → IsGap (line_end ends ++ layout ends n ts)
behind_gap true n ts = line_gap (layout true n ts)
behind_gap false n ts = more_gap n ts

behind_reads : (ends : Bool) (n : ℕ) (ts : List Tok) → ReadsAs (layout ends n ts) ts → ReadsAs (line_end ends ++ layout ends n ts) ts
behind_reads true n ts h = line_reads (layout true n ts) ts h
behind_reads false n ts h = h

layout_front : (a b c d : List ℕ) → ((a ++ b) ++ c) ++ d ≡ a ++ (b ++ (c ++ d))
layout_front a b c d = append_assoc (a ++ b) c d ∙ append_assoc a b (c ++ d)

-- tokens that are formed, laid out from anywhere, read as themselves
pub layout_reads : (begins : Bool) (n : ℕ) (ts : List Tok) → AllByRecursion IsFormed ts → ReadsAs (layout begins n ts) ts
unfolding layout cut_from
layout_reads begins n [] all = λ place. refl
layout_reads begins n (t ∷ ts) all =
    let ends : Bool = ends_line t in
    let m : ℕ = open_behind n t in
    let rest : List ℕ = line_end ends ++ layout ends m ts in
    subst (λ x. ReadsAs x (t ∷ ts)) (sym (layout_front (lead begins n t) (token_text t) (line_end ends) (layout ends m ts)))
    (lead_reads begins n t (token_text t ++ rest) (t ∷ ts) (token_reads t (token_text t) rest ts (token_some t all.0) (λ place. token_front place t rest all.0 (behind_gap ends m ts))
    (behind_reads ends m ts (layout_reads ends m ts all.1))))

-- what is printed reads as the tree
pub reads_back : (d : Desc) → NumbersFit d → tokens_in (printed d) ≡ Some (tokens_of d)
unfolding printed cut
reads_back d fits = layout_reads true 0 (tokens_of d) (all_formed (tokens_of d) (tokens_spelt d) (recursion_from_All FitsNumber (tokens_of d) fits)) 0

some_is : (us ts : List Tok) → Some us ≡ Some ts → us ≡ ts
some_is us ts h = cc

-- so two descriptions with one text are one
pub text_determines : (c d : Desc) → NumbersFit c → NumbersFit d → printed c ≡ printed d → c ≡ d
text_determines c d c_fits d_fits e = tokens_determine c d (some_is (tokens_of c) (tokens_of d) (sym (reads_back c c_fits) ∙ ap tokens_in e ∙ reads_back d d_fits))
