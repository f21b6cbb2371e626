-- What the commands leave: a text that is what is due for an image.
use Rattle.std.proofs.Common.{◌≡◌, ℕ, ◌<◌, ◌≤◌, ◌^◌, List, length, All, Ok, refl, sym, ◌∙◌, ap, subst, arith}
use Rattle.std.proofs.Math.Pow.{pow_mono}
use Rattle.pg_asm.specs.Sources.{most_source_bytes, source_due}
use Rattle.pg_asm.specs.Texts.{asm_text, source_text}
use Rattle.pg_asm.proofs.ShownBack.{asm_text-reads_back}
use Rattle.pg_asm.proofs.SourceBack.{source_text-assembles}
use Rattle.pg_image.specs.Images.{image_due}
use Rattle.pg_cmd_base.specs.declared.status.Status.TheVariants.{Done}
use Rattle.pg_cmd_base.specs.World.{World, IsUntouched}
use Rattle.pg_cmd_plain.specs.Asm.{ImageOf, AsmEnds}
use Rattle.pg_cmd_plain.specs.Disasm.{DisasmEnds}
use Rattle.pg_lang_valid.specs.Valid.{IsValid}
use Rattle.pg_lang_valid.proofs.ValidFacts.{IsShape-of_valid}

-- words of a machine, and no more than it has cells
pub record HoldsWords (i : ImageOf) : Type 0 where
  pub valid : IsValid i.desc
  pub within : length i.image ≤ i.desc.size
  pub words : All (λ word. word < 2 ^ i.desc.word) i.image

pub asm-ends : (i : ImageOf) (old new : World) (text : List ℕ) → HoldsWords i → text ≡ asm_text i.desc.word 0 i.image → IsUntouched old new → AsmEnds i old new Done text
asm-ends i old new text h is same =
    let shape = IsShape-of_valid i.desc h.valid in
    let most : 2 ^ i.desc.address ≤ 2 ^ 20 = pow_mono shape.address_most in
    record {
      status = refl;
      wording = is;
      reads = ap (image_due i.desc.word (length i.image)) is
          ∙ asm_text-reads_back i.desc.word (length i.image) i.image shape.whole_bytes shape.word_least shape.word_most refl (omega (arith, h.within, shape.size_most, most)) h.words;
      untouched = same;
    }

pub disasm-ends : (i : ImageOf) (old new : World) (text : List ℕ) → HoldsWords i → text ≡ source_text i.desc 0 i.image → IsUntouched old new → DisasmEnds i old new Done text
disasm-ends i old new text h is same = record {
  status = refl;
  wording = is;
  assembles = λ short. ap (source_due i.desc (length i.image)) is
      ∙ source_text-assembles i.desc (length i.image) i.image h.valid refl h.within h.words (subst (λ t. length t ≤ most_source_bytes) is short);
  untouched = same;
}
