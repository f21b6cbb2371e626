-- Instructions and descriptions: what was read, and what is read back.
use Rattle.std.proofs.Common.{◌≡◌, ◌≢◌, ℕ, zero, suc, ◌+◌, ◌-◌, ◌≤◌, ◌<◌, Bool, true, false, List, [], ◌∷◌, ◌++◌, length, map, Option, None, Some, IfSome, codes, ap, sym, ◌∙◌, refl, arith}
use Rattle.std.proofs.lemmas.List.{append_assoc, length-append, append-nil}
use Rattle.pg_lang_token.specs.declared.tok.Tok.{Tok}
use Rattle.pg_lang_token.specs.declared.tok.Tok.TheVariants.{Sign}
use Rattle.pg_lang_token.specs.declared.tok.Sign.TheVariants.{OpenBrace, CloseBrace, Semicolon}
use Rattle.pg_ast.specs.Levels.{most_block_levels}
use Rattle.pg_ast.specs.declared.tree.Instr.{Instr}
use Rattle.pg_ast.specs.declared.tree.Desc.{Desc}
use Rattle.pg_ast.specs.Tokens.{instr_tokens, head_tokens, tokens_of, flat}
use Rattle.pg_ast.specs.Reading.{then_read, past_sign, past_word, past_close, read_instr, cons_read, with_instrs, past_line}
use Rattle.pg_ast.proofs.Exact.{read_at, then_read-holds, past_sign-holds, past_word-holds, past_number-holds}
use Rattle.pg_ast.proofs.StmtExact.{past_close-holds}
use Rattle.pg_ast.proofs.DescReads.{instr_front, read_instr-tokens}
use Rattle.pg_ast.proofs.DescExact.{IsInstrFront, IsInstrs, IsTokens, behind_size, cons-exact, instr-exact as read_instr-exact, with_instrs-exact}
use Rattle.pg_read.specs.Blocks.{body_at}
use Rattle.pg_read.specs.Whole.{instr_at, instrs_within, instrs_at, line_at, causes_found, causes_at, desc_at}
use Rattle.pg_read.proofs.FormLemmas.{then-past_sign, then-past_word, then-number_at, then-name_at, then-pattern_at, then-then}
use Rattle.pg_read.proofs.BodyExact.{body_at-exact}
use Rattle.pg_read.proofs.BodyReads.{body-tokens}

instr-form : (ts : List Tok) → instr_at ts ≡ read_instr (body_at most_block_levels) ts
unfolding instr_at read_instr
instr-form ts = simp (then-past_word, then-past_sign, then-name_at, then-pattern_at)

-- ---- what was read

instr-exact : (ts : List Tok) → IfSome (instr_at ts) (IsInstrFront ts)
instr-exact ts = rw (instr-form ts) (read_instr-exact (body_at most_block_levels) (body_at-exact most_block_levels) ts)

-- what is left behind an instruction is shorter
pub instr-shorter : (ts us : List Tok) (i : Instr) → instr_at ts ≡ Some (i, us) → length us < length ts
instr-shorter ts us i e =
    let front = read_at (IsInstrFront ts) (instr_at ts) (i, us) (instr-exact ts) e in
    rw (front, instr_front i us) (simp length-append (omega arith))

instrs_within-exact : (k : ℕ) (ts : List Tok) → IfSome (instrs_within k ts) (IsInstrs ts)
unfolding instrs_within
instrs_within-exact zero ts = tt
instrs_within-exact (suc k) [] = refl
instrs_within-exact (suc k) (t ∷ ts) =
    then_read-holds (IsInstrs (t ∷ ts)) (instr_at (t ∷ ts)) _ (λ i us e.
    cons-exact (t ∷ ts) us i (read_at (IsInstrFront (t ∷ ts)) (instr_at (t ∷ ts)) (i, us) (instr-exact (t ∷ ts)) e) (instrs_within k us) (instrs_within-exact k us))

instrs-exact : (ts : List Tok) → IfSome (instrs_at ts) (IsInstrs ts)
unfolding instrs_at
instrs-exact ts = instrs_within-exact (suc (length ts)) ts

-- the tokens are those of the end of a head, and then the rest
abbrev IsEnd : List Tok → Bool × List Tok → Type 0
IsEnd ts p = ts ≡ behind_size p.0 p.1

causes-form : (ts : List Tok) → causes_found ts None ≡ past_word (codes "causes") ts (λ us. past_word (codes "on") us (λ vs. past_sign Semicolon vs (λ ws. past_sign CloseBrace ws (λ rest. Some (true, rest)))))
causes-form ts = simp (then-past_word, then-past_sign)

causes-exact : (ts : List Tok) (found : Option (List Tok)) → past_close ts ≡ found → IfSome (causes_found ts found) (IsEnd ts)
causes-exact ts (Some us) e = read_at (λ rest. ts ≡ Sign CloseBrace ∷ rest) (past_close ts) us (past_close-holds ts) e
causes-exact ts None e =
    let all : Bool × List Tok → Type 0 = IsEnd ts in
    rw (causes-form ts) (
    past_word-holds all (codes "causes") ts _ (λ t1 p1.
    past_word-holds all (codes "on") t1 _ (λ t2 p2.
    past_sign-holds all Semicolon t2 _ (λ t3 p3.
    past_sign-holds all CloseBrace t3 _ (λ t4 p4. cc)))))

then-line_at : {B : Type 0} (w : List ℕ) (ts : List Tok) (go : ℕ → List Tok → Option B) → then_read (line_at w ts) go ≡ past_line w ts go
unfolding line_at
then-line_at w ts go = simp (then-then, then-past_word) (simp (then-past_sign, then-number_at))

desc-form : (ts : List Tok) → desc_at ts ≡ past_word (codes "machine") ts (λ us. past_sign OpenBrace us (λ vs.
    past_line (codes "word") vs (λ word ws. past_line (codes "address") ws (λ address xs. past_line (codes "size") xs (λ size ys.
    then_read (causes_at ys) (λ causes rest. with_instrs word address size causes (instrs_at rest)))))))
unfolding desc_at
desc-form ts = simp (then-line_at, then-past_word, then-past_sign)

-- what was read as a description are its tokens
pub desc-exact : (ts : List Tok) → IfSome (desc_at ts) (IsTokens ts)
desc-exact ts =
    let all : Desc → Type 0 = IsTokens ts in
    rw (desc-form ts) (
    past_word-holds all (codes "machine") ts _ (λ t1 p1.
    past_sign-holds all OpenBrace t1 _ (λ t2 p2.
    past_word-holds all (codes "word") t2 _ (λ t3 p3.
    past_number-holds all t3 _ (λ word t4 p4.
    past_sign-holds all Semicolon t4 _ (λ t5 p5.
    past_word-holds all (codes "address") t5 _ (λ t6 p6.
    past_number-holds all t6 _ (λ address t7 p7.
    past_sign-holds all Semicolon t7 _ (λ t8 p8.
    past_word-holds all (codes "size") t8 _ (λ t9 p9.
    past_number-holds all t9 _ (λ size t10 p10.
    past_sign-holds all Semicolon t10 _ (λ t11 p11.
    then_read-holds all (causes_at t11) _ (λ causes us p12.
    let end = read_at (IsEnd t11) (causes_at t11) (causes, us) (causes-exact t11 (past_close t11) refl) p12 in
    with_instrs-exact ts us word address size causes (cc) (instrs_at us) (instrs-exact us))))))))))))))

-- ---- what is read back

instr-tokens : (i : Instr) (rest : List Tok) → instr_at (instr_tokens i ++ rest) ≡ Some (i, rest)
instr-tokens i rest = instr-form (instr_tokens i ++ rest) ∙ read_instr-tokens (body_at most_block_levels) i (body-tokens i.body most_block_levels i.shallow.exprs i.shallow.blocks) rest

instrs-few : (instrs : List Instr) → length instrs ≤ length (flat (map instr_tokens instrs))
instrs-few [] = omega arith
instrs-few (i ∷ more) =
    let own : 1 ≤ length (instr_tokens i ++ flat (map instr_tokens more)) - length (flat (map instr_tokens more)) = rw (instr_front i (flat (map instr_tokens more))) (simp length-append (omega arith)) in
    omega (arith, own, instrs-few more)

instrs_within-tokens : (instrs : List Instr) (k : ℕ) → length instrs < k → instrs_within k (flat (map instr_tokens instrs)) ≡ Some instrs
unfolding instrs_within
instrs_within-tokens instrs zero fuel = absurd (omega arith)
instrs_within-tokens [] (suc k) fuel = refl
instrs_within-tokens (i ∷ more) (suc k) fuel =
    rw (instr_front i (flat (map instr_tokens more)), ← (instr_front i (flat (map instr_tokens more))), instr-tokens i (flat (map instr_tokens more)), instrs_within-tokens more k (omega arith)) refl

instrs-tokens : (instrs : List Instr) → instrs_at (flat (map instr_tokens instrs)) ≡ Some instrs
unfolding instrs_at
instrs-tokens instrs = instrs_within-tokens instrs _ (omega (arith, instrs-few instrs))

desc-parts : (word address size : ℕ) (causes : Bool) (instrs : List Instr) → instrs_at (flat (map instr_tokens instrs)) ≡ Some instrs →
    let d : Desc = record { word = word; address = address; size = size; causes = causes; instrs = instrs } in desc_at (tokens_of d) ≡ Some d
unfolding desc_at line_at tokens_of head_tokens
desc-parts word address size true instrs h = simp h
desc-parts word address size false instrs h = simp h

-- the tokens of a description give it back
pub desc-tokens : (d : Desc) → desc_at (tokens_of d) ≡ Some d
desc-tokens d = desc-parts d.word d.address d.size d.causes d.instrs (instrs-tokens d.instrs)

-- ---- the loop over instructions

-- instructions in front of those that were read
abbrev behind_instrs : List Instr → Option (List Instr) → Option (List Instr)
behind_instrs is None = None
behind_instrs is (Some more) = Some (is ++ more)

-- the instructions so far, and what is left of all of these tokens
pub record InstrsSoFar (all left : List Tok) (is : List Instr) : Type 0 where
  pub few : length left + length is ≤ length all
  pub same : instrs_at all ≡ behind_instrs is (instrs_within (suc (length all - length is)) left)

behind-none : (x : Option (List Instr)) → x ≡ behind_instrs [] x
behind-none None = refl
behind-none (Some more) = refl

behind-next : (is : List Instr) (i : Instr) (x : Option (List Instr)) → behind_instrs is (cons_read i x) ≡ behind_instrs (is ++ i ∷ []) x
behind-next is i None = refl
behind-next is i (Some more) = ap Some (sym (append_assoc is (i ∷ []) more))

instrs_within-next : (k : ℕ) (ts us : List Tok) (i : Instr) → ts ≢ [] → instr_at ts ≡ Some (i, us) → instrs_within (suc k) ts ≡ cons_read i (instrs_within k us)
unfolding instrs_within
instrs_within-next k [] us i some e = absurd (some refl)
instrs_within-next k (t ∷ ts) us i some e = rw e refl

instrs_within-stop : (k : ℕ) (ts : List Tok) → ts ≢ [] → instr_at ts ≡ None → instrs_within (suc k) ts ≡ None
unfolding instrs_within
instrs_within-stop k [] some e = absurd (some refl)
instrs_within-stop k (t ∷ ts) some e = rw e refl

pub InstrsSoFar-none : (all : List Tok) → InstrsSoFar all all []
unfolding instrs_at
InstrsSoFar-none all = record { few = omega arith; same = let e : length all - 0 ≡ length all = omega arith in rw e (behind-none (instrs_within (suc (length all)) all)) }

pub InstrsSoFar-next : (all left us : List Tok) (is : List Instr) (i : Instr) → InstrsSoFar all left is → left ≢ [] → instr_at left ≡ Some (i, us) → InstrsSoFar all us (is ++ i ∷ [])
InstrsSoFar-next all left us is i h some e =
    let shorter = instr-shorter left us i e in
    let longer : length (is ++ i ∷ []) ≡ length is + 1 = simp length-append in
    let few = h.few in
    let fuel : length all - length is ≡ suc (length all - length (is ++ i ∷ [])) = omega arith in
    record {
      few = omega arith;
      same = h.same ∙ rw (fuel, instrs_within-next (suc (length all - length (is ++ i ∷ []))) left us i some e) (behind-next is i (instrs_within (suc (length all - length (is ++ i ∷ []))) us));
    }

pub InstrsSoFar-all : (all left : List Tok) (is : List Instr) → InstrsSoFar all left is → left ≡ [] → instrs_at all ≡ Some is
unfolding instrs_within
InstrsSoFar-all all left is h e = h.same ∙ rw e (ap Some (append-nil is))

pub InstrsSoFar-stop : (all left : List Tok) (is : List Instr) → InstrsSoFar all left is → left ≢ [] → instr_at left ≡ None → instrs_at all ≡ None
InstrsSoFar-stop all left is h some e = h.same ∙ ap (behind_instrs is) (instrs_within-stop _ left some e)
