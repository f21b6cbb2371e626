-- What a source gives: as many cells as the size, each of which fits.
use Rattle.std.proofs.Common.{◌≡◌, ℕ, ◌+◌, ◌%◌, ◌^◌, ◌<◌, ◌≤◌, Bool, true, false, cond, List, [], ◌∷◌, length, set, All, Option, None, Some, Result, Ok, Err, refl, ap, sym, subst, ◌∙◌, arith}
use Rattle.std.specs.Prelude.{◌==◌, nat_lt, position, slice_get, bytes_eq, codes, unwrap_or}
use Rattle.std.specs.Option.{option_map}
use Rattle.std.proofs.Math.Pow.{pow_mono}
use Rattle.std.proofs.lemmas.List.{length-set, length-map, length-replicate}
use Rattle.std.proofs.lemmas.List.Elements.{All-set, All-map, All-replicate}
use Rattle.std.proofs.lemmas.Nat.{pow_pos}
use Rattle.pg_ast.specs.declared.tree.Instr.{Instr as Instruction}
use Rattle.pg_ast.specs.declared.tree.Desc.{Desc}
use Rattle.pg_lang_token.specs.Words.{is_name}
use Rattle.pg_text.specs.Printing.{hex_word_of}
use Rattle.pg_text.proofs.HexBytes.{word_fits}
use Rattle.pg_image.specs.Images.{lines_of, content, parts_of, image_due}
use Rattle.pg_lang_valid.specs.Twice.{instr_names}
use Rattle.pg_lang_valid.specs.Valid.{IsValid}
use Rattle.pg_lang_valid.proofs.ValidFacts.{IsShape-of_valid}
use Rattle.pg_lang_valid.proofs.PatternFacts.{valid-length}
use Rattle.pg_asm.specs.declared.fault.AsmFault.{AsmFault}
use Rattle.pg_asm.specs.declared.fault.AsmFault.TheVariants.{Long, Token, Name, Field, Label as LabelFault, Range, Place, Overlap}
use Rattle.pg_asm.specs.declared.mark.Mark.{Mark}
use Rattle.pg_asm.specs.Words.{fields_of, fit, word_by, pattern_of}
use Rattle.pg_asm.specs.Said.{Operand, Said, Blank, At, Label, Word, Instr, operands_said, place_said, label_said, mark_said, alone, word_said, said_of}
use Rattle.pg_asm.specs.Sources.{most_source_bytes, foreign_place, with_line, said_from, first_place, place_behind, Labels, labels_of, mark_of, numbers_of, same_letters, fitted, encoded, instr_word, none_given, put_word, keep_cells, cells_behind, then_due, cells_from, filled, lines_due, cells_due, source_due}
use Rattle.pg_asm.specs.Passes.{AreFit}
use Rattle.pg_asm.specs.Texts.{asm_text}
use Rattle.pg_asm.proofs.WordLemmas.{word-fits}
use Rattle.pg_asm.proofs.ShownBack.{asm_text-reads_back}

-- ---- the words that lines say

abbrev WordFits : ℕ → Said → Type 0
WordFits w Blank = Unit {0}
WordFits w (At n) = Unit {0}
WordFits w (Label name) = Unit {0}
WordFits w (Word word) = word < 2 ^ w
WordFits w (Instr name operands) = Unit {0}

abbrev WordsFit : ℕ → List Said → Type 0
WordsFit w [] = Unit {0}
WordsFit w (said ∷ behind) = WordFits w said × WordsFit w behind

mapped-fits : {X : Type 0} (w : ℕ) (f : X → Said) (o : Option X) (said : Said) → ((x : X) → o ≡ Some x → WordFits w (f x)) → option_map f o ≡ Some said → WordFits w said
mapped-fits w f None said fits h = absurd (cc h)
mapped-fits w f (Some x) said fits h = let same : f x ≡ said = cc h in subst (WordFits w) same (fits x refl)

alone-said : (behind : List (List ℕ)) (o : Option Said) (said : Said) → alone behind o ≡ Some said → o ≡ Some said
alone-said behind o said h = by (length behind == 0) h
  where
    by : (b : Bool) → cond b o None ≡ Some said → o ≡ Some said
    by true e = e
    by false e = absurd (cc e)

mark-fits : (w : ℕ) (part : List ℕ) (said : Said) → mark_said part ≡ Some said → WordFits w said
mark-fits w [] said h = absurd (cc h)
mark-fits w (c ∷ cs) said h = by (c == 64) h
  where
    by : (b : Bool) → cond b (option_map At (place_said cs)) (option_map Label (label_said (c ∷ cs))) ≡ Some said → WordFits w said
    by true e = mapped-fits w At (place_said cs) said (λ n is. tt) e
    by false e = mapped-fits w Label (label_said (c ∷ cs)) said (λ name is. tt) e

word-said-fits : (w : ℕ) (parts : List (List ℕ)) (said : Said) → w % 8 ≡ 0 → word_said w parts ≡ Some said → WordFits w said
word-said-fits w [] said bytes h = absurd (cc h)
word-said-fits w (part ∷ rest) said bytes h =
    mapped-fits w Word (hex_word_of w part) said (λ word is. word_fits w part word bytes (sym is)) (alone-said rest (option_map Word (hex_word_of w part)) said h)

said-fits : (w : ℕ) (parts : List (List ℕ)) (said : Said) → w % 8 ≡ 0 → said_of w parts ≡ Some said → WordFits w said
said-fits w [] said bytes h = let same : Blank ≡ said = cc h in subst (WordFits w) same tt
said-fits w (head ∷ rest) said bytes h = by (bytes_eq head (codes "word")) (is_name head) h
  where
    by : (a b : Bool) → cond a (word_said w rest) (cond b (option_map (Instr head) (operands_said rest)) (alone rest (mark_said head))) ≡ Some said → WordFits w said
    by true b e = word-said-fits w rest said bytes e
    by false true e = mapped-fits w (Instr head) (operands_said rest) said (λ operands is. tt) e
    by false false e = mark-fits w head said (alone-said rest (mark_said head) said e)

line-fits : (w n : ℕ) (said : Option Said) (behind : Result (List Said) AsmFault) (saids : List Said) → ((s : Said) → said ≡ Some s → WordFits w s) →
    ((ss : List Said) → behind ≡ Ok ss → WordsFit w ss) → with_line n said behind ≡ Ok saids → WordsFit w saids
line-fits w n None behind saids here later h = absurd (cc h)
line-fits w n (Some s) (Ok ss) saids here later h = let same : s ∷ ss ≡ saids = cc h in subst (WordsFit w) same (here s refl, later ss refl)
line-fits w n (Some s) (Err fault) saids here later h = absurd (cc h)

lines-fit : (w n : ℕ) (lines : List (List ℕ)) (saids : List Said) → w % 8 ≡ 0 → said_from w n lines ≡ Ok saids → WordsFit w saids
unfolding said_from
lines-fit w n [] saids bytes h = let same : [] ≡ saids = cc h in subst (WordsFit w) same tt
lines-fit w n (line ∷ lines) saids bytes h =
    line-fits w n (said_of w (parts_of (content line))) (said_from w (n + 1) lines) saids (λ s is. said-fits w (parts_of (content line)) s bytes is) (λ ss is. lines-fit w (n + 1) lines ss bytes is) h

-- ---- the words of instructions

abbrev pattern_in : Option Instruction → List ℕ
pattern_in o = elim o [ Some i ↦ i.pattern.bytes | None ↦ [] ]

abbrev word_at : Desc → Labels → ℕ → List Operand → Option ℕ → Result ℕ AsmFault
word_at d labels n operands o = elim o [ Some k ↦ encoded labels n (pattern_of d.instrs k) operands | None ↦ Err (Name n) ]

-- the pattern of an instruction has no more places than a word has bits
pattern-most : (d : Desc) (k : ℕ) → IsValid d → length (pattern_of d.instrs k) ≤ d.word
pattern-most d k v = by (slice_get d.instrs k) refl
  where
    by : (o : Option Instruction) → slice_get d.instrs k ≡ o → length (pattern_in o) ≤ d.word
    by None e = omega arith
    by (Some i) e = omega (arith, valid-length d k i v e)

encoded-fits : (labels : Labels) (n : ℕ) (pattern : List ℕ) (operands : List Operand) (word : ℕ) → encoded labels n pattern operands ≡ Ok word → word < 2 ^ length pattern
encoded-fits labels n pattern operands word h = by (same_letters (fields_of pattern) operands) (numbers_of labels operands) h
  where
    by_fit : (b : Bool) (values : List ℕ) → fit (fields_of pattern) values ≡ b → cond b (Ok (word_by pattern values)) (Err (Range n)) ≡ Ok word → word < 2 ^ length pattern
    by_fit true values is e = let same : word_by pattern values ≡ word = cc e in subst (λ x. x < 2 ^ length pattern) same (word-fits pattern values is)
    by_fit false values is e = absurd (cc e)

    by : (a : Bool) (numbers : Option (List ℕ)) → cond a (fitted n pattern numbers) (Err (Field n)) ≡ Ok word → word < 2 ^ length pattern
    by true None e = absurd (cc e)
    by true (Some values) e = by_fit (fit (fields_of pattern) values) values refl e
    by false numbers e = absurd (cc e)

instr-fits : (d : Desc) (labels : Labels) (n : ℕ) (name : List ℕ) (operands : List Operand) (word : ℕ) → IsValid d → instr_word d labels n name operands ≡ Ok word → word < 2 ^ d.word
instr-fits d labels n name operands word v h = by (position (λ m. bytes_eq m name) (instr_names d.instrs)) h
  where
    by : (o : Option ℕ) → word_at d labels n operands o ≡ Ok word → word < 2 ^ d.word
    by None e = absurd (cc e)
    by (Some k) e =
        let most : 2 ^ length (pattern_of d.instrs k) ≤ 2 ^ d.word = pow_mono (pattern-most d k v) in
        omega (arith, encoded-fits labels n (pattern_of d.instrs k) operands word e)

-- ---- cells

record Keeps (w : ℕ) (before after : List (Option ℕ)) : Type 0 where
  len : length after ≡ length before
  fit : AreFit w after

-- cells that stay, and a word put where these cells have that at its place
abbrev kept_as : List (Option ℕ) → Result (List (Option ℕ)) AsmFault
kept_as cells = Ok cells

abbrev put_at : (n place : ℕ) → List (Option ℕ) → ℕ → Option (Option ℕ) → Result (List (Option ℕ)) AsmFault
put_at n place cells word o = elim o [ None ↦ Err (Place n) | Some None ↦ Ok (set cells place (Some word)) | Some (Some earlier) ↦ Err (Overlap n) ]

same-kept : (w : ℕ) (before after : List (Option ℕ)) → AreFit w before → kept_as before ≡ Ok after → Keeps w before after
same-kept w before after fits h =
    let same : before ≡ after = cc h in
    record { len = ap length (sym same); fit = subst (AreFit w) same fits }

put-keeps : (w n place : ℕ) (before after : List (Option ℕ)) (word : Result ℕ AsmFault) → AreFit w before → ((x : ℕ) → word ≡ Ok x → x < 2 ^ w) → put_word n place before word ≡ Ok after → Keeps w before after
put-keeps w n place before after (Err fault) fits small h = absurd (cc h)
put-keeps w n place before after (Ok word) fits small h = by (slice_get before place) h
  where
    by : (o : Option (Option ℕ)) → put_at n place before word o ≡ Ok after → Keeps w before after
    by None e = absurd (cc e)
    by (Some None) e =
        let same : set before place (Some word) ≡ after = cc e in
        record {
          len = ap length (sym same) ∙ length-set before place (Some word);
          fit = subst (AreFit w) same (All-set (λ cell. unwrap_or cell 0 < 2 ^ w) before place (Some word) (small word refl) fits);
        }
    by (Some (Some earlier)) e = absurd (cc e)

label-keeps : (w n : ℕ) (before after : List (Option ℕ)) (mark : Option Mark) → AreFit w before → keep_cells n before mark ≡ Ok after → Keeps w before after
label-keeps w n before after None fits h = absurd (cc h)
label-keeps w n before after (Some first) fits h = by (first.line == n) h
  where
    by : (b : Bool) → cond b (Ok before) (Err (LabelFault n)) ≡ Ok after → Keeps w before after
    by true e = same-kept w before after fits e
    by false e = absurd (cc e)

line-keeps : (d : Desc) (labels : Labels) (n place : ℕ) (before after : List (Option ℕ)) (said : Said) → IsValid d → AreFit d.word before → WordFits d.word said →
    cells_behind d labels n place before said ≡ Ok after → Keeps d.word before after
line-keeps d labels n place before after Blank v fits word h = same-kept d.word before after fits h
line-keeps d labels n place before after (At k) v fits word h = same-kept d.word before after fits h
line-keeps d labels n place before after (Label name) v fits word h = label-keeps d.word n before after (mark_of labels name) fits h
line-keeps d labels n place before after (Word x) v fits word h =
    put-keeps d.word n place before after (Ok x) fits (λ y is. let same : x ≡ y = cc is in subst (λ z. z < 2 ^ d.word) same word) h
line-keeps d labels n place before after (Instr name operands) v fits word h =
    put-keeps d.word n place before after (instr_word d labels n name operands) fits (λ y is. instr-fits d labels n name operands y v is) h

lines-keep : (d : Desc) (labels : Labels) (n place : ℕ) (saids : List Said) (before after : List (Option ℕ)) → IsValid d → AreFit d.word before → WordsFit d.word saids →
    cells_from d labels n place saids before ≡ Ok after → Keeps d.word before after
unfolding cells_from
lines-keep d labels n place [] before after v fits words h = same-kept d.word before after fits h
lines-keep d labels n place (said ∷ behind) before after v fits words h =
    by (cells_behind d labels n place before said) refl h (λ cells fit e. lines-keep d labels (n + 1) (place_behind said place) behind cells after v fit words.1 e)
  where
    by : (r : Result (List (Option ℕ)) AsmFault) → cells_behind d labels n place before said ≡ r →
        then_due r (cells_from d labels (n + 1) (place_behind said place) behind) ≡ Ok after →
        ((cells : List (Option ℕ)) → AreFit d.word cells → cells_from d labels (n + 1) (place_behind said place) behind cells ≡ Ok after → Keeps d.word cells after) →
        Keeps d.word before after
    by (Ok cells) is e later =
        let here = line-keeps d labels n place before cells said v fits words.0 is in
        let rest = later cells here.fit e in
        record { len = rest.len ∙ here.len; fit = rest.fit }
    by (Err fault) is e later = absurd (cc e)

-- ---- the source

-- the image of a source
pub record IsImage (w size : ℕ) (cells : List ℕ) : Type 0 where
  pub len : length cells ≡ size
  pub fit : All (λ cell. cell < 2 ^ w) cells

filled-image : (d : Desc) (size : ℕ) (saids : List Said) (cells : List ℕ) → IsValid d → WordsFit d.word saids → cells_due d size saids ≡ Ok cells → IsImage d.word size cells
filled-image d size saids cells v words h =
    by (cells_from d (labels_of saids) 1 first_place saids (none_given size)) refl h
  where
    w : ℕ
    w = d.word

    by : (r : Result (List (Option ℕ)) AsmFault) → cells_from d (labels_of saids) 1 first_place saids (none_given size) ≡ r →
        then_due r (λ given. Ok (filled given)) ≡ Ok cells → IsImage d.word size cells
    by (Ok given) is e =
        let same : filled given ≡ cells = cc e in
        let kept = lines-keep d (labels_of saids) 1 first_place saids (none_given size) given v (All-replicate (λ cell. unwrap_or cell 0 < 2 ^ w) size None (pow_pos w)) words is in
        record {
          len = ap length (sym same) ∙ length-map given (λ cell. unwrap_or cell 0) ∙ kept.len ∙ length-replicate size None;
          fit = subst (All (λ cell. cell < 2 ^ w)) same (All-map (λ cell. cell < 2 ^ w) (λ cell. unwrap_or cell 0) given kept.fit);
        }
    by (Err fault) is e = absurd (cc e)

abbrev said_behind : ℕ → List ℕ → Option ℕ → Result (List Said) AsmFault
said_behind w text o = elim o [ Some place ↦ Err (Token place) | None ↦ said_from w 1 (lines_of text) ]

lines-words : (w : ℕ) (text : List ℕ) (saids : List Said) → w % 8 ≡ 0 → lines_due w text ≡ Ok saids → WordsFit w saids
lines-words w text saids bytes h = by (foreign_place 0 (lines_of text)) h
  where
    by : (o : Option ℕ) → said_behind w text o ≡ Ok saids → WordsFit w saids
    by None e = lines-fit w 1 (lines_of text) saids bytes e
    by (Some place) e = absurd (cc e)

pub source-image : (d : Desc) (size : ℕ) (text cells : List ℕ) → IsValid d → source_due d size text ≡ Ok cells → IsImage d.word size cells
unfolding source_due
source-image d size text cells v h = by_length (nat_lt most_source_bytes (length text)) h
  where
    by_lines : (r : Result (List Said) AsmFault) → lines_due d.word text ≡ r → then_due r (cells_due d size) ≡ Ok cells → IsImage d.word size cells
    by_lines (Ok saids) is e = filled-image d size saids cells v (lines-words d.word text saids (IsShape-of_valid d v).whole_bytes is) e
    by_lines (Err fault) is e = absurd (cc e)

    by_length : (b : Bool) → cond b (Err Long) (then_due (lines_due d.word text) (cells_due d size)) ≡ Ok cells → IsImage d.word size cells
    by_length true e = absurd (cc e)
    by_length false e = by_lines (lines_due d.word text) refl e

-- so what `asm` writes of it, read as an image of the same size, is that image
pub asm_text-of_source : (d : Desc) (size : ℕ) (text cells : List ℕ) → IsValid d → size ≤ d.size → source_due d size text ≡ Ok cells →
    image_due d.word size (asm_text d.word 0 cells) ≡ Ok cells
asm_text-of_source d size text cells v few due =
    let shape = IsShape-of_valid d v in
    let most : 2 ^ d.address ≤ 2 ^ 20 = pow_mono shape.address_most in
    let image = source-image d size text cells v due in
    asm_text-reads_back d.word size cells shape.whole_bytes shape.word_least shape.word_most image.len (omega (arith, shape.size_most)) image.fit
