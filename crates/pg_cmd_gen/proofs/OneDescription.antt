-- A number has one description of so many instructions.
use Rattle.std.proofs.Common.{◌≡◌, ℕ, suc, List, [], ◌∷◌, length, map, refl, sym, subst, arith, ◌∙◌}
use Rattle.pg_ast.specs.declared.tree.Instr.{Instr}
use Rattle.pg_ast.specs.declared.tree.Desc.{Desc}
use Rattle.pg_ast.specs.Tokens.{instr_tokens, head_tokens, tokens_of}
use Rattle.pg_ast.proofs.DescReads.{tokens_determine}
use Rattle.pg_cmd_gen.specs.Generated.{IsGenerated, IsInstrAt}
use Rattle.pg_cmd_gen.proofs.InstrLemmas.{AreAt, are-at}

same_instr : (number k : ℕ) (x y : Instr) → IsInstrAt number k x → IsInstrAt number k y → instr_tokens x ≡ instr_tokens y
unfolding instr_tokens
same_instr number k x y h g =
    let name : x.name.bytes ≡ y.name.bytes = h.name ∙ sym g.name in
    let pattern : x.pattern.bytes ≡ y.pattern.bytes = h.pattern ∙ sym g.pattern in
    let body : x.body ≡ y.body = h.body ∙ sym g.body in
    rw (name, pattern, body)

same_instrs : (number k : ℕ) (xs ys : List Instr) → length xs ≡ length ys → AreAt number k xs → AreAt number k ys → map instr_tokens xs ≡ map instr_tokens ys
same_instrs number k [] [] same h g = refl
same_instrs number k [] (y ∷ ys) same h g = absurd (omega arith)
same_instrs number k (x ∷ xs) [] same h g = absurd (omega arith)
same_instrs number k (x ∷ xs) (y ∷ ys) same h g =
    let first = same_instr number k x y h.0 g.0 in
    let rest = same_instrs number (suc k) xs ys (omega arith) h.1 g.1 in
    cc

at-zero : (number count : ℕ) (d : Desc) → IsGenerated number count d → AreAt number 0 d.instrs
at-zero number count d h = are-at number 0 d.instrs (λ j i e. subst (λ (n : ℕ). IsInstrAt number n i) (omega arith) (h.each j i e))

same_tokens : (number count : ℕ) (d e : Desc) → IsGenerated number count d → IsGenerated number count e → tokens_of d ≡ tokens_of e
unfolding tokens_of head_tokens
same_tokens number count d e h g =
    let instrs = same_instrs number 0 d.instrs e.instrs (h.many ∙ sym g.many) (at-zero number count d h) (at-zero number count e g) in
    rw (h.word, h.address, h.cells, h.causes, g.word, g.address, g.cells, g.causes, instrs)

pub one-generated : (number count : ℕ) (d e : Desc) → IsGenerated number count d → IsGenerated number count e → d ≡ e
one-generated number count d e h g = tokens_determine d e (same_tokens number count d e h g)
